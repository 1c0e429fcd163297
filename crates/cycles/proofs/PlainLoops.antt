-- The plain method as loops: by length, by atom, by bond, each ring tried as it comes up. What is chosen then is the choice along the sorted list.
use mathlib.Core.Path.{◌≡◌, refl, sym, ap, ◌∙◌, subst}
use mathlib.Core.List.{List, [], ◌∷◌, ◌++◌}
use mathlib.Core.Logic.{◌⊎◌, inl, inr, ⊎_elim}
use Prim.Native.Nat.{ℕ, suc, ◌<◌}
use native.Mathlib.Omega.{arith}
use Rattle.spans.specs.Elements.{◌∈◌}
use Rattle.spans.specs.Basis.{All}
use Rattle.spans.proofs.Lists.{all_append, in_left, in_right, in_append}
use Rattle.bondset.proofs.Laws.{lt_or_ge}
use Rattle.cycles.specs.Compound.{Compound, m, Sound}
use Rattle.cycles.specs.Ring.{len}
use Rattle.cycles.specs.Rows.{Less}
use Rattle.cycles.specs.Plain.{Entry, place, Sorted, PlainSum, Greedy, PlainRing, Plain}
use Rattle.cycles.proofs.PathsDecide.{not_in_none, in_cases, joins_below}
use Rattle.cycles.proofs.Ranks.{all_each}
use Rattle.cycles.proofs.Unique.{Ordered}
use Rattle.cycles.proofs.PlainRings.{plain_ring_unique, plain_ring_three}
use Rattle.cycles.proofs.PlainDecide.{plain_ring_named}

-- ---- places, from one turn of a loop to the next
less_none : {A : Type 0} → Less [] [] → A
less_none = elim [ ]

less_bond : {a b x k v j : ℕ} → Less (a ∷ b ∷ x ∷ []) (k ∷ v ∷ j ∷ []) → Less (a ∷ b ∷ x ∷ []) (k ∷ v ∷ suc j ∷ [])
less_bond (Less.here h) = Less.here h
less_bond (Less.later (Less.here h)) = Less.later (Less.here h)
less_bond {x} {j} (Less.later (Less.later (Less.here h))) = let l : x < suc j = omega arith in Less.later (Less.later (Less.here l))
less_bond (Less.later (Less.later (Less.later l))) = less_none l

less_bond_back : {a b x k v j : ℕ} → Less (a ∷ b ∷ x ∷ []) (k ∷ v ∷ suc j ∷ [])
    → Less (a ∷ b ∷ x ∷ []) (k ∷ v ∷ j ∷ []) ⊎ ((a ≡ k) × (b ≡ v) × (x ≡ j))
less_bond_back (Less.here h) = inl (Less.here h)
less_bond_back (Less.later (Less.here h)) = inl (Less.later (Less.here h))
less_bond_back {x} {j} (Less.later (Less.later (Less.here h))) =
    ⊎_elim (λ l. inl (Less.later (Less.later (Less.here l)))) (λ l. inr (refl, refl, omega arith)) (lt_or_ge x j)
less_bond_back (Less.later (Less.later (Less.later l))) = less_none l

less_atom : {a b x k v M : ℕ} → Less (a ∷ b ∷ x ∷ []) (k ∷ v ∷ M ∷ []) → Less (a ∷ b ∷ x ∷ []) (k ∷ suc v ∷ 0 ∷ [])
less_atom (Less.here h) = Less.here h
less_atom {b} {v} (Less.later (Less.here h)) = let l : b < suc v = omega arith in Less.later (Less.here l)
less_atom {v} (Less.later (Less.later l)) = let h : v < suc v = omega arith in Less.later (Less.here h)

less_atom_back : {a b x k v M : ℕ} → x < M → Less (a ∷ b ∷ x ∷ []) (k ∷ suc v ∷ 0 ∷ []) → Less (a ∷ b ∷ x ∷ []) (k ∷ v ∷ M ∷ [])
less_atom_back below (Less.here h) = Less.here h
less_atom_back {b} {x} {k} {v} {M} below (Less.later (Less.here h)) =
    ⊎_elim (λ l. Less.later (Less.here l))
    (λ l. let e : b ≡ v = omega arith in subst (λ (y : ℕ). Less (k ∷ b ∷ x ∷ []) (k ∷ y ∷ M ∷ [])) e (Less.later (Less.later (Less.here below)))) (lt_or_ge b v)
less_atom_back below (Less.later (Less.later (Less.here h))) = absurd (omega arith)
less_atom_back below (Less.later (Less.later (Less.later l))) = less_none l

less_length : {a b x k N : ℕ} → Less (a ∷ b ∷ x ∷ []) (k ∷ N ∷ 0 ∷ []) → Less (a ∷ b ∷ x ∷ []) (suc k ∷ 0 ∷ 0 ∷ [])
less_length {a} {k} (Less.here h) = let l : a < suc k = omega arith in Less.here l
less_length {k} (Less.later l) = let h : k < suc k = omega arith in Less.here h

less_length_back : {a b x k N : ℕ} → b < N → Less (a ∷ b ∷ x ∷ []) (suc k ∷ 0 ∷ 0 ∷ []) → Less (a ∷ b ∷ x ∷ []) (k ∷ N ∷ 0 ∷ [])
less_length_back {a} {b} {x} {k} {N} below (Less.here h) =
    ⊎_elim (λ l. Less.here l)
    (λ l. let e : a ≡ k = omega arith in subst (λ (y : ℕ). Less (a ∷ b ∷ x ∷ []) (y ∷ N ∷ 0 ∷ [])) e (Less.later (Less.here below))) (lt_or_ge a k)
less_length_back below (Less.later (Less.here h)) = absurd (omega arith)
less_length_back below (Less.later (Less.later (Less.here h))) = absurd (omega arith)
less_length_back below (Less.later (Less.later (Less.later l))) = less_none l

less_first_back : {a b x k : ℕ} → Less (a ∷ b ∷ x ∷ []) (k ∷ 0 ∷ 0 ∷ []) → a < k
less_first_back (Less.here h) = h
less_first_back (Less.later (Less.here h)) = absurd (omega arith)
less_first_back (Less.later (Less.later (Less.here h))) = absurd (omega arith)
less_first_back (Less.later (Less.later (Less.later l))) = less_none l

-- ---- one entry more at the end
ordered_end : {X : Type 0} (by : X → List ℕ) {x : X} {xs : List X} → Ordered by xs → All (λ y. Less (by y) (by x)) xs → Ordered by (xs ++ (x ∷ []))
ordered_end by Ordered.nil a = Ordered.cons All.nil Ordered.nil
ordered_end by (Ordered.cons h o) (All.cons l r) = Ordered.cons (all_append h (All.cons l All.nil)) (ordered_end by o r)

pub ordered_sorted : {es : List Entry} → Ordered place es → Sorted es
ordered_sorted Ordered.nil = Sorted.none
ordered_sorted (Ordered.cons All.nil Ordered.nil) = Sorted.one
ordered_sorted (Ordered.cons (All.cons l h) (Ordered.cons k o)) = Sorted.more l (ordered_sorted (Ordered.cons k o))

-- The choice along one list and then along another.
greedy_append : {before mid after : List ℕ} {es fs : List Entry} → Greedy before es mid → Greedy mid fs after → Greedy before (es ++ fs) after
greedy_append Greedy.end h = h
greedy_append (Greedy.choose n g) h = Greedy.choose n (greedy_append g h)
greedy_append (Greedy.pass s g) h = Greedy.pass s (greedy_append g h)

module _ (c : Compound) where
  -- An entry says what it should.
  abbrev pub Good : Entry → Type 0
  Good e = PlainRing c e.atom e.bond e.set × (e.long ≡ len c e.set)

  -- One turn: the ring of length k of atom v and bond j is tried, if there is one.
  pub data Tried (k v j : ℕ) (before : List ℕ) : List ℕ → Type 0 where
    none : ((S : ℕ) → PlainRing c v j S → len c S ≡ k → ⊥) → Tried k v j before before
    choose : {S : ℕ} → PlainRing c v j S → len c S ≡ k → (PlainSum before S → ⊥) → Tried k v j before (before ++ (S ∷ []))
    pass : {S : ℕ} → PlainRing c v j S → len c S ≡ k → PlainSum before S → Tried k v j before before

  -- The loops as far as length k, atom v and bond j: the entries before these, and what is chosen along them.
  pub record Gone (k v j : ℕ) (chosen : List ℕ) : Type 0 where
    pub list : List Entry
    pub ordered : Ordered place list
    pub good : (e : Entry) → e ∈ list → Good e × Less (place e) (k ∷ v ∷ j ∷ [])
    pub all : (e : Entry) → Good e → Less (place e) (k ∷ v ∷ j ∷ []) → e ∈ list
    pub greedy : Greedy [] list chosen

  -- Other bounds for the same entries.
  gone_at : {k v j k' v' j' : ℕ} {chosen : List ℕ} → ((e : Entry) → Less (place e) (k ∷ v ∷ j ∷ []) → Less (place e) (k' ∷ v' ∷ j' ∷ []))
      → ((e : Entry) → Good e → Less (place e) (k' ∷ v' ∷ j' ∷ []) → Less (place e) (k ∷ v ∷ j ∷ [])) → Gone k v j chosen → Gone k' v' j' chosen
  gone_at to back w = record {
    list = w.list;
    ordered = w.ordered;
    good = λ e i. let (g, l) = w.good e i in (g, to e l);
    all = λ e g l. w.all e g (back e g l);
    greedy = w.greedy;
  }

  -- All bonds of an atom are tried.
  pub gone_atom : {k v : ℕ} {chosen : List ℕ} → Gone k v (m c) chosen → Gone k (suc v) 0 chosen
  gone_atom w = gone_at (λ e l. less_atom l) (λ e g l. less_atom_back (joins_below c g.0.joins) l) w

module _ (c : Compound) (sound : Sound c) where
  -- Nothing is before length 3.
  pub gone_start : Gone c 3 0 0 []
  gone_start = record {
    list = [];
    ordered = Ordered.nil;
    good = λ e i. absurd (not_in_none i);
    all = λ e g l. absurd (let h = less_first_back l in omega (arith, h, g.1, plain_ring_three c sound g.0));
    greedy = Greedy.end;
  }

  -- All atoms of a length are tried.
  pub gone_length : {k : ℕ} {chosen : List ℕ} → Gone c k c.n 0 chosen → Gone c (suc k) 0 0 chosen
  gone_length w = gone_at c (λ e l. less_length l) (λ e g l. less_length_back (plain_ring_named c sound g.0) l) w

  -- Entries of one atom and bond that say what they should are one.
  good_unique : (e f : Entry) → Good c e → Good c f → e.atom ≡ f.atom → e.bond ≡ f.bond → e ≡ f
  good_unique e f (r, k) (s, l) a b =
      let q : e.set ≡ f.set =
      plain_ring_unique c sound (subst (λ (j : ℕ). PlainRing c f.atom j e.set) b (subst (λ (v : ℕ). PlainRing c v e.bond e.set) a r)) s in
      let long : e.long ≡ f.long = k ∙ ap (len c) q ∙ sym l in
      λ i. record { long = long i; atom = a i; bond = b i; set = q i }

  gone_none : {k v j : ℕ} {chosen : List ℕ} → Gone c k v j chosen → ((S : ℕ) → PlainRing c v j S → len c S ≡ k → ⊥) → Gone c k v (suc j) chosen
  gone_none {k} {v} {j} w n = gone_at c (λ e l. less_bond l) (λ e g l. ⊎_elim (λ h. h) (λ h. absurd (here e g h)) (less_bond_back l)) w
    where
      here : (e : Entry) → Good c e → (e.long ≡ k) × (e.atom ≡ v) × (e.bond ≡ j) → ⊥
      here e (r, l) (a, b, d) =
          n e.set (subst (λ (i : ℕ). PlainRing c v i e.set) d (subst (λ (u : ℕ). PlainRing c u e.bond e.set) b r)) (sym l ∙ a)

  gone_more : {k v j S : ℕ} {before after : List ℕ} → Gone c k v j before → PlainRing c v j S → len c S ≡ k
      → Greedy before (record { long = k; atom = v; bond = j; set = S } ∷ []) after → Gone c k v (suc j) after
  gone_more {k} {v} {j} {S} w r long greedy = record {
    list = w.list ++ (own ∷ []);
    ordered = ordered_end place w.ordered (all_each w.list (λ e i. (w.good e i).1));
    good = λ e i. ⊎_elim (λ h. let (g, l) = w.good e h in (g, less_bond l)) (λ h. subst (λ (f : Entry). Good c f × Less (place f) next) (in_last h) (mine, last))
        (in_append w.list (own ∷ []) i);
    all = λ e g l. ⊎_elim (λ h. in_left (own ∷ []) (w.all e g h))
        (λ h. in_right w.list (subst (λ (f : Entry). f ∈ (own ∷ [])) (good_unique own e mine g (sym h.1) (sym h.2)) ◌∈◌.first)) (less_bond_back l);
    greedy = greedy_append w.greedy greedy;
  }
    where
      own : Entry
      own = record { long = k; atom = v; bond = j; set = S }

      next : List ℕ
      next = k ∷ v ∷ suc j ∷ []

      mine : Good c own
      mine = (r, sym long)

      last : Less (place own) (k ∷ v ∷ suc j ∷ [])
      last = let h : j < suc j = omega arith in Less.later (Less.later (Less.here h))

      in_last : {e : Entry} → e ∈ (own ∷ []) → own ≡ e
      in_last h = elim (in_cases h) [ inl e ↦ e | inr i ↦ absurd (not_in_none i) ]

  -- One turn.
  pub gone_try : {k v j : ℕ} {before after : List ℕ} → Gone c k v j before → Tried c k v j before after → Gone c k v (suc j) after
  gone_try w (Tried.none n) = gone_none w n
  gone_try w (Tried.choose r l n) = gone_more w r l (Greedy.choose n Greedy.end)
  gone_try w (Tried.pass r l s) = gone_more w r l (Greedy.pass s Greedy.end)

  -- After all lengths that a ring of the method may have, the choice is that of the method.
  pub gone_plain : {k : ℕ} {chosen : List ℕ} → Gone c k 0 0 chosen → ((v j S : ℕ) → PlainRing c v j S → len c S < k) → Plain c chosen
  gone_plain {k} w short = record {
    list = w.list;
    rings = record {
      sorted = ordered_sorted w.ordered;
      all = λ e. (λ i. (w.good e i).0, λ g. w.all e g (Less.here (subst (λ (n : ℕ). n < k) (sym g.1) (short e.atom e.bond e.set g.0))));
    };
    greedy = w.greedy;
  }
