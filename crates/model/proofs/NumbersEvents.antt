-- The events of one length in order: which index each names, how many name an index, and the classes as they first appear.
use mathlib.Core.Path.{◌≡◌, refl, sym, ◌∙◌, ap, subst}
use mathlib.Core.Bool.{Bool, true, false, cond, ◌&&◌}
use mathlib.Core.List.{List, [], ◌∷◌, ◌++◌, map, append_assoc, append-nil}
use mathlib.Core.Logic.{◌⊎◌, inl, inr, ⊎_elim}
use Prim.Native.Nat.{ℕ, suc, ◌+◌, ◌<◌, ◌≤◌}
use native.Mathlib.Omega.{arith}
use native.Mathlib.Decide.{ℕ_discrete}
use borrow.Author.Tests.{eq-eqb, ne_eqb}
use lib.Count.{count_trailing_zeros}
use lib.Dec.{eqb}
use lib.ListN.{length, get_or, set, length-set, length-append}
use lib.Seq.{get_or-set_same, get_or-set_other}
use Rattle.spans.specs.Elements.{◌∈◌, later}
use Rattle.spans.specs.Basis.{All}
use Rattle.spans.proofs.Lists.{in_append}
use Rattle.spans.proofs.Marking.{all_element}
use Rattle.cycles.specs.Compound.{Compound}
use Rattle.cycles.specs.Family.{Family}
use Rattle.cycles.specs.Rows.{Row, ClassRow, how_many, class_row, class_rows, At, Together, Classes}
use Rattle.cycles.proofs.Ranks.{at_append, at_end_lem}
use Rattle.model.specs.Fold.{through}
use Rattle.model.specs.Run.{classed}
use Rattle.model.proofs.Items.{Try}
use Rattle.model.proofs.Trace.{Event, hold, row_of}
use Rattle.model.proofs.NumbersCount.{at_index, own, own_low, own_open, own_shut, opens}
use Rattle.model.proofs.NumbersTable.{Least, Named, any, is_marked}

-- The d marked events name the indices from m on, in order; each other event names an index before, from s on.
pub data Counted (s : ℕ) : ℕ → List Event → ℕ → Type 0 where
  end : {m : ℕ} → Counted s m [] 0
  marks : {m d : ℕ} {t : Try} {es : List Event} → Counted s (suc m) es d → Counted s m (Event.marked t m ∷ es) (suc d)
  sums : {m d tag count : ℕ} {t : Try} {es : List Event} → s ≤ count_trailing_zeros 128 tag → count_trailing_zeros 128 tag < m → Counted s m es d
      → Counted s m (Event.summed t tag count ∷ es) d

-- ---- how many events name an index

hit : (a b : ℕ) → a ≡ b → cond {A = ℕ} (eqb a b && true) 1 0 ≡ 1
hit a b e = rw (eq-eqb a b e)

missed : (a b : ℕ) → (a ≡ b → ⊥) → cond {A = ℕ} (eqb a b && true) 1 0 ≡ 0
missed a b n = rw (ne_eqb a b n)

never : (b : Bool) → cond {A = ℕ} (b && false) 1 0 ≡ 0
never true = refl
never false = refl

module _ {s : ℕ} where
  counted_ranged : {m d p : ℕ} {es : List Event} → s ≤ m → p ≡ m + d → Counted s m es d
      → All (λ row. (s ≤ row.class) × (row.class < p)) (map row_of es)
  counted_ranged h q Counted.end = All.nil
  counted_ranged {m} {p} h q (Counted.marks c) =
      let r : (s ≤ m) × (m < p) = (h, omega arith) in All.cons r (counted_ranged (omega arith) (omega arith) c)
  counted_ranged {m} {p} h q (Counted.sums {tag = tag} a b c) =
      let r : (s ≤ count_trailing_zeros 128 tag) × (count_trailing_zeros 128 tag < p) = (a, omega arith) in All.cons r (counted_ranged h q c)

  held_old : {m d : ℕ} {es : List Event} (holds : List ℕ) (j : ℕ) → m + d ≤ length holds → Counted s m es d → j < m
      → get_or (through hold es holds) j 0 ≡ get_or holds j 0 + how_many (at_index any j) (map row_of es)
  unfolding through how_many
  held_old holds j f Counted.end h = omega arith
  held_old {m} holds j f (Counted.marks {d = d} {es = es} c) h =
      omega (
        arith,
        held_old (set holds m 1) j (rw length-set (omega arith)) c (omega arith),
        get_or-set_other holds m j 1 0 (λ q. omega arith),
        missed m j (λ q. omega arith),
      )
  held_old {m} {d} holds j f (Counted.sums {tag = tag} {es = es} a b c) h =
      go (ℕ_discrete (count_trailing_zeros 128 tag) j)
      (held_old (set holds (count_trailing_zeros 128 tag) (get_or holds (count_trailing_zeros 128 tag) 0 + 1)) j (rw length-set f) c h)
    where
      more : List ℕ
      more = set holds (count_trailing_zeros 128 tag) (get_or holds (count_trailing_zeros 128 tag) 0 + 1)

      go : Dec (count_trailing_zeros 128 tag ≡ j) → get_or (through hold es more) j 0 ≡ get_or more j 0 + how_many (at_index any j) (map row_of es)
          → get_or (through hold es more) j 0 ≡ get_or holds j 0 + (cond (eqb (count_trailing_zeros 128 tag) j && true) 1 0 + how_many (at_index any j) (map row_of es))
      go (yes q) ih =
          let g : get_or more j 0 ≡ get_or holds j 0 + 1 = rw q (get_or-set_same holds j (get_or holds j 0 + 1) 0 (omega arith)) in
          omega (arith, hit (count_trailing_zeros 128 tag) j q)
      go (no q) ih =
          let g : get_or more j 0 ≡ get_or holds j 0 = get_or-set_other holds (count_trailing_zeros 128 tag) j (get_or holds (count_trailing_zeros 128 tag) 0 + 1) 0 (λ r. q (sym r)) in
          omega (arith, missed (count_trailing_zeros 128 tag) j q)

  held_new : {m d : ℕ} {es : List Event} (holds : List ℕ) (j : ℕ) → m + d ≤ length holds → Counted s m es d → m ≤ j → j < m + d
      → get_or (through hold es holds) j 0 ≡ how_many (at_index any j) (map row_of es)
  unfolding through how_many
  held_new holds j f Counted.end h t = absurd (omega arith)
  held_new {m} holds j f (Counted.marks {d = d} {es = es} c) h t =
      go (ℕ_discrete m j) (λ l. held_old (set holds m 1) j (rw length-set (omega arith)) c l)
      (λ l. held_new (set holds m 1) j (rw length-set (omega arith)) c l (omega arith))
    where
      go : Dec (m ≡ j) → (j < suc m → get_or (through hold es (set holds m 1)) j 0 ≡ get_or (set holds m 1) j 0 + how_many (at_index any j) (map row_of es))
          → (suc m ≤ j → get_or (through hold es (set holds m 1)) j 0 ≡ how_many (at_index any j) (map row_of es))
          → get_or (through hold es (set holds m 1)) j 0 ≡ cond (eqb m j && true) 1 0 + how_many (at_index any j) (map row_of es)
      go (yes q) old new =
          let g : get_or (set holds m 1) j 0 ≡ 1 = rw q (get_or-set_same holds j 1 0 (omega arith)) in omega (arith, old (omega arith), g, hit m j q)
      go (no q) old new = omega (arith, new (omega (arith, q)), missed m j q)
  held_new {m} holds j f (Counted.sums {tag = tag} {es = es} a b c) h t =
      omega (
        arith,
        held_new (set holds (count_trailing_zeros 128 tag) (get_or holds (count_trailing_zeros 128 tag) 0 + 1)) j (rw length-set f) c h t,
        missed (count_trailing_zeros 128 tag) j (λ q. omega arith),
      )

  once_old : {m d : ℕ} {es : List Event} (j : ℕ) → Counted s m es d → j < m → how_many (at_index is_marked j) (map row_of es) ≡ 0
  unfolding how_many
  once_old j Counted.end h = refl
  once_old {m} j (Counted.marks c) h = omega (arith, once_old j c (omega arith), missed m j (λ q. omega arith))
  once_old j (Counted.sums {tag = tag} a b c) h = omega (arith, once_old j c h, never (eqb (count_trailing_zeros 128 tag) j))

  once_new : {m d : ℕ} {es : List Event} (j : ℕ) → Counted s m es d → m ≤ j → j < m + d → how_many (at_index is_marked j) (map row_of es) ≡ 1
  unfolding how_many
  once_new j Counted.end h t = absurd (omega arith)
  once_new {m} j (Counted.marks {es = es} c) h t = go (ℕ_discrete m j) (λ l. once_old j c l) (λ l. once_new j c l (omega arith))
    where
      go : Dec (m ≡ j) → (j < suc m → how_many (at_index is_marked j) (map row_of es) ≡ 0) → (suc m ≤ j → how_many (at_index is_marked j) (map row_of es) ≡ 1)
          → cond (eqb m j && true) 1 0 + how_many (at_index is_marked j) (map row_of es) ≡ 1
      go (yes q) old new = omega (arith, old (omega arith), hit m j q)
      go (no q) old new = omega (arith, new (omega (arith, q)), missed m j q)
  once_new j (Counted.sums {tag = tag} a b c) h t = omega (arith, once_new j c h t, never (eqb (count_trailing_zeros 128 tag) j))

  pub counted_named : {n : ℕ} {es : List Event} (holds : List ℕ) → s + n ≤ length holds → Counted s s es n
      → Named s n (map row_of es) (through hold es holds)
  counted_named holds f c =
      record {
        ranged = counted_ranged (omega arith) refl c;
        held = λ j h t. held_new holds j f c h t;
        once = λ j h t. once_new j c h t;
      }

-- ---- the classes in the order of their first events

-- The families of the marked events whose index is its own label.
unfoldable pub news : (ℕ → ℕ) → List Event → List Family
news lab [] = []
news lab (Event.marked t j ∷ es) = cond (eqb (lab j) j) (t.family ∷ news lab es) (news lab es)
news lab (Event.summed t tag count ∷ es) = news lab es

pub news_long : {k : ℕ} (lab : ℕ → ℕ) {es : List Event} → All (λ e. (row_of e).family.long ≡ k) es → All (λ f. f.long ≡ k) (news lab es)
unfolding news
news_long lab All.nil = All.nil
news_long {k} lab (All.cons {x = Event.marked t j} {xs = es} a r) = go (eqb (lab j) j) (news_long lab r)
  where
    go : (b : Bool) → All (λ f. f.long ≡ k) (news lab es) → All (λ f. f.long ≡ k) (cond b (t.family ∷ news lab es) (news lab es))
    go true s = All.cons a s
    go false s = s
news_long lab (All.cons {x = Event.summed t tag count} a r) = news_long lab r

-- The rows of the classes that the events open, one for each index that is its own label.
pub news_rows : {k s m d : ℕ} {es : List Event} (lab : ℕ → ℕ) (base : ℕ) (rows : List Row) (final : ℕ → ClassRow) → s ≤ m → Counted s m es d
    → All (λ e. (row_of e).family.long ≡ k) es
    → ((l : ℕ) (f : Family) → m ≤ l → l < m + d → lab l ≡ l → f.long ≡ k → class_row rows (base + own s lab l) f ≡ final l)
    → class_rows rows (base + own s lab m) (news lab es) ≡ map final (opens lab m d)
unfolding news opens class_rows
news_rows lab base rows final h Counted.end a g = refl
news_rows {k} {s} {m} lab base rows final h (Counted.marks {d = d} {t = t} {es = es} c) (All.cons a r) g =
    go (ℕ_discrete (lab m) m) (news_rows lab base rows final (omega arith) c r (λ l f x y. g l f (omega arith) (omega arith)))
  where
    go : Dec (lab m ≡ m) → class_rows rows (base + own s lab (suc m)) (news lab es) ≡ map final (opens lab (suc m) d)
        → class_rows rows (base + own s lab m) (cond (eqb (lab m) m) (t.family ∷ news lab es) (news lab es))
        ≡ map final (cond (eqb (lab m) m) (m ∷ opens lab (suc m) d) (opens lab (suc m) d))
    go (yes e) ih =
        let n : suc (base + own s lab m) ≡ base + own s lab (suc m) = omega (arith, own_open s lab m h e) in
        rw (eq-eqb (lab m) m e, g m t.family (omega arith) (omega arith) e a, n, ih)
    go (no q) ih = rw (ne_eqb (lab m) m q, ← own_shut s lab m q) ih
news_rows lab base rows final h (Counted.sums x y c) (All.cons a r) g = news_rows lab base rows final h c r g

-- What is told of a family is the label of its prototype, among those of length k.
pub record Tells (c : Compound) (rank : ℕ → ℕ) (k : ℕ) (Told : Family → ℕ → Type 0) : Type 0 where
  pub one : {f g : Family} {l : ℕ} → Told f l → Told g l → Together c rank f g
  pub apart : {f g : Family} {l j : ℕ} → Told f l → Told g j → Together c rank f g → l ≡ j
  pub long : {f : Family} {l : ℕ} → Told f l → f.long ≡ k

module _ (c : Compound) (rank : ℕ → ℕ) {k s n : ℕ} {lab : ℕ → ℕ} (base : ℕ) (L : Least s n lab) (numbers : List ℕ)
    (are : (j : ℕ) → s ≤ j → j < s + n → get_or numbers j 0 ≡ base + own s lab (lab j)) {Told : Family → ℕ → Type 0} (T : Tells c rank k Told) where
  -- A shorter family, or one that is told with an index below m.
  abbrev pub Met : ℕ → Family → Type 0
  Met m g = (g.long < k) ⊎ ((l : ℕ) × (l < m) × Told g l)

  met_more : (m : ℕ) (g : Family) → Met m g → Met (suc m) g
  met_more m g (inl i) = inl i
  met_more m g (inr (l, x, u)) = inr (l, omega arith, u)

  -- The first families of the classes met before index m is marked.
  pub record Known (m : ℕ) (before : List Family) : Type 0 where
    pub size : length before ≡ base + own s lab m
    pub at : (l : ℕ) → s ≤ l → l < m → lab l ≡ l → (g : Family) × At before (base + own s lab l) g × Told g l
    pub from : (g : Family) → g ∈ before → Met m g

  pub known_start : {firsts : List Family} → length firsts ≡ base → All (λ f. f.long < k) firsts → Known s firsts
  known_start e a =
      record {
        size = e ∙ rw (own_low s lab s (omega arith)) (omega arith);
        at = λ l h t. absurd (omega arith);
        from = λ g i. inl (all_element a i);
      }

  known_open : {m : ℕ} {before : List Family} {f : Family} → s ≤ m → lab m ≡ m → Told f m → Known m before → Known (suc m) (before ++ (f ∷ []))
  known_open {m} {before} {f} h e t b =
      record {
        size = rw length-append (omega (arith, b.size, own_open s lab m h e));
        at = λ l x y z. find l x y z (ℕ_discrete l m);
        from = λ g i. ⊎_elim (λ (j : g ∈ before). met_more m g (b.from g j)) (λ (j : g ∈ (f ∷ [])). newest g j) (in_append before (f ∷ []) i);
      }
    where
      find : (l : ℕ) → s ≤ l → l < suc m → lab l ≡ l → Dec (l ≡ m) → (g : Family) × At (before ++ (f ∷ [])) (base + own s lab l) g × Told g l
      find l x y z (yes q) = rw (q, ← b.size) (f, at_end_lem before f, t)
      find l x y z (no q) = let (g, a, u) = b.at l x (omega (arith, q)) z in (g, at_append (f ∷ []) a, u)

      newest : (g : Family) → g ∈ (f ∷ []) → Met (suc m) g
      newest g (later h) = elim h [ ]
      newest g ◌∈◌.first = inr (m, omega arith, t)

  known_shut : {m : ℕ} {before : List Family} → (lab m ≡ m → ⊥) → Known m before → Known (suc m) before
  known_shut {m} {before} q b =
      record {
        size = b.size ∙ ap (λ (x : ℕ). base + x) (sym (own_shut s lab m q));
        at = λ l x y z. let other : l ≡ m → ⊥ = λ r. q (subst (λ (u : ℕ). lab u ≡ u) r z) in b.at l x (omega arith) z;
        from = λ g i. met_more m g (b.from g i);
      }

  old_row : {m : ℕ} (j : ℕ) {before after : List Family} {row : Row} {rows : List Row} → s ≤ j → j < s + n → lab j < m
      → row.class ≡ get_or numbers j 0 → Told row.family (lab j) → Known m before → Classes c rank before rows after → Classes c rank before (row ∷ rows) after
  old_row j {before} {row} h e t q a b r =
      let (g, i, u) = b.at (lab j) (L.low j h e) t (L.own_label j h e) in
      let at : At before row.class g = subst (λ (x : ℕ). At before x g) (sym (q ∙ are j h e)) i in
      Classes.old at (T.one a u) r

  new_row : {m : ℕ} {before after : List Family} {row : Row} {rows : List Row} → s ≤ m → m < s + n → lab m ≡ m → row.class ≡ get_or numbers m 0
      → Told row.family m → Known m before → Classes c rank (before ++ (row.family ∷ [])) rows after → Classes c rank before (row ∷ rows) after
  new_row {m} {before} {row} h e q i a b r =
      Classes.new (λ g j t. none g t (b.from g j)) (i ∙ are m h e ∙ ap (λ (x : ℕ). base + own s lab x) q ∙ sym b.size) r
    where
      none : (g : Family) → Together c rank row.family g → Met m g → ⊥
      none g t (inl l) = omega (arith, t.long, T.long a)
      none g t (inr (l, x, u)) = omega (arith, T.apart a u t)

  pub known_classes : {m d : ℕ} {es : List Event} {before : List Family} → s ≤ m → m + d ≡ s + n → Counted s m es d → Known m before
      → All (λ e. Told (row_of e).family (lab (row_of e).class)) es
      → Classes c rank before (map (classed numbers) (map row_of es)) (before ++ news lab es)
  unfolding news classed
  known_classes h e Counted.end b All.nil = rw append-nil Classes.end
  known_classes {m} {before} h e (Counted.marks {d = d} {t = t} {es = es} o) b (All.cons a r) =
      go (ℕ_discrete (lab m) m)
      (λ q. known_classes (omega arith) (omega arith) o (known_open h q (subst (λ (l : ℕ). Told t.family l) q a) b) r)
      (λ q. known_classes (omega arith) (omega arith) o (known_shut q b) r)
    where
      rows : List Row
      rows = map (classed numbers) (map row_of es)

      go : Dec (lab m ≡ m)
          → (lab m ≡ m → Classes c rank (before ++ (t.family ∷ [])) rows ((before ++ (t.family ∷ [])) ++ news lab es))
          → ((lab m ≡ m → ⊥) → Classes c rank before rows (before ++ news lab es))
          → Classes c rank before (classed numbers (row_of (Event.marked t m)) ∷ rows) (before ++ cond (eqb (lab m) m) (t.family ∷ news lab es) (news lab es))
      go (yes q) new old =
          rw (eq-eqb (lab m) m q)
          (new_row h (omega arith) q refl (subst (λ (l : ℕ). Told t.family l) q a) b (rw append_assoc at (new q)))
      go (no q) new old =
          rw (ne_eqb (lab m) m q) (old_row m h (omega arith) (omega (arith, L.least m h (omega arith), q)) refl a b (old q))
  known_classes {m} h e (Counted.sums {tag = tag} x y o) b (All.cons a r) =
      let j = count_trailing_zeros 128 tag in
      old_row j x (omega arith) (omega (arith, L.least j x (omega arith))) refl a b (known_classes h e o b r)
