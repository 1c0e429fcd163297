-- The loop that numbers the classes of one length: the number of each index, and the table.
use mathlib.Core.Path.{◌≡◌, refl, sym, ◌∙◌, ap, ap₂, subst}
use mathlib.Core.Bool.{Bool, true, false, ◌&&◌, and-true}
use mathlib.Core.List.{List, [], ◌∷◌, ◌++◌, map, map-append, append_assoc, append-nil}
use mathlib.Core.Logic.{◌⊎◌, inl, inr}
use Prim.Native.Nat.{ℕ, zero, suc, ◌+◌, ◌-◌, ◌<◌, ◌≤◌}
use native.Mathlib.Nat.{zero-add}
use native.Mathlib.Omega.{arith}
use native.Mathlib.Decide.{ℕ_discrete}
use borrow.Author.Tests.{lt-ltb, le-ltb, eq-eqb, ne_eqb}
use lib.Dec.{eqb, ltb}
use lib.ListN.{length, get_or, set, length-set, length-append, length-map}
use lib.Seq.{get_or-set_same, get_or-set_other, set_at, get_or_at}
use Rattle.spans.specs.Basis.{All}
use Rattle.spans.proofs.Lists.{all_map}
use Rattle.bondset.proofs.Laws.{lt_or_ge}
use Rattle.cycles.specs.Family.{Family}
use Rattle.cycles.specs.Rows.{Row, ClassRow, how_many, class_row}
use Rattle.model.specs.Fold.{through, count}
use Rattle.model.specs.Run.{Numbering, numbered, classed, more, blank, essential}
use Rattle.model.proofs.NumbersCount.{how_many_same, how_many_none, how_many_map, at_index, among, tally, tally_grow, tally_stay}
use Rattle.model.proofs.NumbersCount.{own, own_low, own_same, opens, opens_open, opens_shut, opens_append, opens_length, opens_range}

map_same : {A B : Type 0} {f g : A → B} {xs : List A} → All (λ x. f x ≡ g x) xs → map f xs ≡ map g xs
map_same All.nil = refl
map_same (All.cons e r) = ap₂ (λ x l. x ∷ l) e (map_same r)

-- Every label is the least index of its class, from s on.
pub record Least (s n : ℕ) (lab : ℕ → ℕ) : Type 0 where
  pub low : (j : ℕ) → s ≤ j → j < s + n → s ≤ lab j
  pub least : (j : ℕ) → s ≤ j → j < s + n → lab j ≤ j
  pub own_label : (j : ℕ) → s ≤ j → j < s + n → lab (lab j) ≡ lab j

-- Any row, and a marked row.
abbrev pub any : Row → Bool
any row = true

abbrev pub is_marked : Row → Bool
is_marked row = eqb row.mark 1

-- The rows name indices from s on; each of the n indices has one marked row, and holds say how many rows name it.
pub record Named (s n : ℕ) (rows : List Row) (holds : List ℕ) : Type 0 where
  pub ranged : All (λ row. (s ≤ row.class) × (row.class < s + n)) rows
  pub held : (j : ℕ) → s ≤ j → j < s + n → get_or holds j 0 ≡ how_many (at_index any j) rows
  pub once : (j : ℕ) → s ≤ j → j < s + n → how_many (at_index is_marked j) rows ≡ 1

-- The row of the class with label l, as far as the indices below m tell.
unfoldable pub row_to : ℕ → (ℕ → ℕ) → List Row → ℕ → ℕ → ClassRow
row_to k lab rows m l =
    let families = tally lab any rows m l in
    record { long = k; rank = tally lab is_marked rows m l; families = families; essential = essential families }

module _ (k s n : ℕ) (lab : ℕ → ℕ) (rows : List Row) (holds : List ℕ) (table : List ClassRow) (size : ℕ) where
  -- The indices below m are numbered.
  pub record Upto (m : ℕ) (st : Numbering) : Type 0 where
    pub done : (j : ℕ) → s ≤ j → j < m → get_or st.labels j 0 ≡ length table + own s lab (lab j)
    pub todo : (j : ℕ) → m ≤ j → j < s + n → get_or st.labels j 0 ≡ lab j
    pub room : length st.labels ≡ size
    pub table_is : st.table ≡ table ++ map (row_to k lab rows m) (opens lab s (m - s))

  pub upto_start : (st : Numbering) → ((j : ℕ) → s ≤ j → j < s + n → get_or st.labels j 0 ≡ lab j) → length st.labels ≡ size → st.table ≡ table
      → Upto s st
  unfolding opens
  upto_start st f r t =
      let z : s - s ≡ 0 = omega arith in
      record { done = λ j a b. absurd (omega arith); todo = f; room = r; table_is = rw (z, append-nil, t) }

  module _ (L : Least s n lab) (N : Named s n rows holds) (fits : s + n ≤ size) where
    row_stay : (m l : ℕ) → (lab m ≡ l → ⊥) → row_to k lab rows (suc m) l ≡ row_to k lab rows m l
    unfolding row_to
    row_stay m l h = rw (tally_stay lab any rows m l h, tally_stay lab is_marked rows m l h)

    row_more : (m l : ℕ) → s ≤ m → m < s + n → lab m ≡ l → row_to k lab rows (suc m) l ≡ more (get_or holds m 0) (row_to k lab rows m l)
    unfolding row_to more
    row_more m l h t e = rw (tally_grow lab any rows m l e, tally_grow lab is_marked rows m l e, N.once m h t, N.held m h t)

    no_rows : (test : Row → Bool) (m : ℕ) → m < s + n → tally lab test rows m m ≡ 0
    no_rows test m t = how_many_none (all_map (λ row p. absent row p.0 (lt_or_ge row.class m)) N.ranged)
      where
        absent : (row : Row) → s ≤ row.class → (row.class < m) ⊎ (m ≤ row.class) → among lab test m m row ≡ false
        absent row a (inl h) =
            rw (lt-ltb row.class m h, ne_eqb (lab row.class) m (λ e. omega (arith, L.least row.class a (omega arith))))
        absent row a (inr h) = rw (le-ltb row.class m h)

    row_new : (m : ℕ) → s ≤ m → m < s + n → lab m ≡ m
        → row_to k lab rows (suc m) m ≡ record { long = k; rank = 1; families = get_or holds m 0; essential = essential (get_or holds m 0) }
    unfolding row_to
    row_new m h t e =
        rw (
          tally_grow lab any rows m m e,
          tally_grow lab is_marked rows m m e,
          N.once m h t,
          no_rows any m t,
          no_rows is_marked m t,
          ← N.held m h t,
          zero-add (get_or holds m 0),
        )

    numbered_open : (m : ℕ) (st : Numbering) → get_or st.labels m 0 ≡ m
        → numbered k holds m st ≡ record {
          labels = set st.labels m (length st.table);
          table = st.table ++ (record { long = k; rank = 1; families = get_or holds m 0; essential = essential (get_or holds m 0) } ∷ []);
        }
    unfolding numbered
    numbered_open m st e = rw (eq-eqb (get_or st.labels m 0) m e)

    numbered_shut : (m l : ℕ) (st : Numbering) → get_or st.labels m 0 ≡ l → (l ≡ m → ⊥)
        → numbered k holds m st ≡ record {
          labels = set st.labels m (get_or st.labels l 0);
          table = set st.table (get_or st.labels l 0) (more (get_or holds m 0) (get_or st.table (get_or st.labels l 0) blank));
        }
    unfolding numbered
    numbered_shut m l st e q = rw (e, ne_eqb l m q)

    table_open : (m : ℕ) (st : Numbering) → s ≤ m → m < s + n → lab m ≡ m → Upto m st
        → st.table ++ (record { long = k; rank = 1; families = get_or holds m 0; essential = essential (get_or holds m 0) } ∷ [])
        ≡ table ++ map (row_to k lab rows (suc m)) (opens lab s (suc m - s))
    unfolding opens
    table_open m st h t e u =
        let o : opens lab s (suc m - s) ≡ opens lab s (m - s) ++ (m ∷ []) =
        opens_append lab s (m - s) 1 m (suc m - s) (omega arith) (omega arith) ∙ ap (λ (x : List ℕ). opens lab s (m - s) ++ x) (opens_open lab m 0 e) in
        let a : map (row_to k lab rows (suc m)) (opens lab s (m - s)) ≡ map (row_to k lab rows m) (opens lab s (m - s)) =
        map_same (all_map (λ l p. row_stay m l (λ q. omega (arith, p.1))) (opens_range lab s (m - s) m (omega arith))) in
        rw (u.table_is, o, map-append, a, row_new m h t e, append_assoc)

    table_shut : (m l c : ℕ) (st : Numbering) → s ≤ m → m < s + n → lab m ≡ l → (l ≡ m → ⊥) → c ≡ length table + own s lab l → Upto m st
        → set st.table c (more (get_or holds m 0) (get_or st.table c blank)) ≡ table ++ map (row_to k lab rows (suc m)) (opens lab s (suc m - s))
    unfolding opens
    table_shut m l c st h t e q d u =
        let low : s ≤ l = omega (arith, L.low m h t) in
        let lt : l < m = omega (arith, L.least m h t, q) in
        let owns : lab l ≡ l = ap lab (sym e) ∙ L.own_label m h t ∙ e in
        let A = opens lab s (l - s) in
        let B = opens lab (suc l) (m - suc l) in
        let o : opens lab s (m - s) ≡ A ++ (l ∷ B) =
        opens_append lab s (l - s) (suc (m - suc l)) l (m - s) (omega arith) (omega arith) ∙ ap (λ (x : List ℕ). A ++ x) (opens_open lab l (m - suc l) owns) in
        let o' : opens lab s (suc m - s) ≡ opens lab s (m - s) ++ [] =
        opens_append lab s (m - s) 1 m (suc m - s) (omega arith) (omega arith)
        ∙ ap (λ (x : List ℕ). opens lab s (m - s) ++ x) (opens_shut lab m 0 (λ r. q (sym e ∙ r))) in
        let a : map (row_to k lab rows (suc m)) A ≡ map (row_to k lab rows m) A =
        map_same (all_map (λ j p. row_stay m j (λ r. omega (arith, p.1))) (opens_range lab s (l - s) l (omega arith))) in
        let b : map (row_to k lab rows (suc m)) B ≡ map (row_to k lab rows m) B =
        map_same (all_map (λ j p. row_stay m j (λ r. omega (arith, p.0))) (opens_range lab (suc l) (m - suc l) m (omega arith))) in
        let len : length (table ++ map (row_to k lab rows m) A) ≡ c =
        rw (length-append, length-map) (omega (arith, opens_length s lab s (l - s) l (omega arith) (omega arith), own_low s lab s (omega arith))) in
        let here : st.table ≡ (table ++ map (row_to k lab rows m) A) ++ (row_to k lab rows m l ∷ map (row_to k lab rows m) B) =
        rw (u.table_is, o, map-append, append_assoc) in
        rw (
          here,
          get_or_at (table ++ map (row_to k lab rows m) A) (row_to k lab rows m l) (map (row_to k lab rows m) B) blank c len,
          set_at (table ++ map (row_to k lab rows m) A) (row_to k lab rows m l) (map (row_to k lab rows m) B) (more (get_or holds m 0) (row_to k lab rows m l)) c len,
          o',
          append-nil,
          o,
          map-append,
          a,
          b,
          row_more m l h t e,
          append_assoc,
        )

    upto_step : (m : ℕ) (st : Numbering) → s ≤ m → m < s + n → Upto m st → Upto (suc m) (numbered k holds m st)
    upto_step m st h t u = go (ℕ_discrete (lab m) m)
      where
        after : (v : ℕ) (rest : List ClassRow) → v ≡ length table + own s lab (lab m) → rest ≡ table ++ map (row_to k lab rows (suc m)) (opens lab s (suc m - s))
            → Upto (suc m) (record { labels = set st.labels m v; table = rest })
        after v rest e d =
            record {
              done = λ j a b. numbers j a b (ℕ_discrete j m);
              todo = λ j a b. get_or-set_other st.labels m j v 0 (λ q. omega arith) ∙ u.todo j (omega arith) b;
              room = length-set st.labels m v ∙ u.room;
              table_is = d;
            }
          where
            numbers : (j : ℕ) → s ≤ j → j < suc m → Dec (j ≡ m) → get_or (set st.labels m v) j 0 ≡ length table + own s lab (lab j)
            numbers j a b (yes q) = rw q (get_or-set_same st.labels m v 0 (omega (arith, u.room)) ∙ e)
            numbers j a b (no q) = get_or-set_other st.labels m j v 0 q ∙ u.done j a (omega (arith, q))

        so_far : length st.table ≡ length table + own s lab m
        so_far =
            ap length u.table_is
            ∙ rw (length-append, length-map) (omega (arith, opens_length s lab s (m - s) m (omega arith) (omega arith), own_low s lab s (omega arith)))

        go : Dec (lab m ≡ m) → Upto (suc m) (numbered k holds m st)
        go (yes e) =
            rw (numbered_open m st (u.todo m (omega arith) t ∙ e))
            (after (length st.table) _ (so_far ∙ ap (λ (x : ℕ). length table + own s lab x) (sym e)) (table_open m st h t e u))
        go (no q) =
            let lt : lab m < m = omega (arith, L.least m h t, q) in
            let c : get_or st.labels (lab m) 0 ≡ length table + own s lab (lab m) =
            u.done (lab m) (L.low m h t) lt ∙ ap (λ (x : ℕ). length table + own s lab x) (L.own_label m h t) in
            rw (numbered_shut m (lab m) st (u.todo m (omega arith) t) q)
            (after (get_or st.labels (lab m) 0) _ c (table_shut m (lab m) (get_or st.labels (lab m) 0) st h t refl q c u))

    pub upto_all : (m d : ℕ) (st : Numbering) → s ≤ m → m + d ≡ s + n → Upto m st → Upto (s + n) (through (numbered k holds) (count m d) st)
    unfolding through count
    upto_all m zero st h e u = let q : m ≡ s + n = omega arith in subst (λ (x : ℕ). Upto x st) q u
    upto_all m (suc d) st h e u = upto_all (suc m) d (numbered k holds m st) (omega arith) (omega arith) (upto_step m st h (omega arith) u)

    -- What the table says of a class is its class row.
    pub row_final : (st : Numbering) (l : ℕ) (f : Family) → Upto (s + n) st → s ≤ l → l < s + n → lab l ≡ l → f.long ≡ k
        → class_row (map (classed st.labels) rows) (length table + own s lab l) f ≡ row_to k lab rows (s + n) l
    unfolding class_row classed row_to
    row_final st l f u h t e q =
        let families : how_many (λ row. eqb row.class (length table + own s lab l)) (map (classed st.labels) rows) ≡ tally lab any rows (s + n) l =
        how_many_map (λ row. eqb row.class (length table + own s lab l)) (classed st.labels) rows
        ∙ how_many_same (all_map (λ row p. same row p.0 p.1 ∙ sym (and-true _)) N.ranged) in
        let rank : how_many (λ row. eqb row.class (length table + own s lab l) && eqb row.mark 1) (map (classed st.labels) rows)
        ≡ tally lab is_marked rows (s + n) l =
        how_many_map (λ row. eqb row.class (length table + own s lab l) && eqb row.mark 1) (classed st.labels) rows
        ∙ how_many_same (all_map (λ row p. ap (λ (b : Bool). b && eqb row.mark 1) (same row p.0 p.1)) N.ranged) in
        rw (families, rank, q)
      where
        same_number : (j : ℕ) → s ≤ j → j < s + n → Dec (lab j ≡ l) → eqb (length table + own s lab (lab j)) (length table + own s lab l) ≡ eqb (lab j) l
        same_number j a b (yes d) = rw (d, eq-eqb l l refl) (eq-eqb (length table + own s lab l) (length table + own s lab l) refl)
        same_number j a b (no d) =
            ne_eqb (length table + own s lab (lab j)) (length table + own s lab l)
            (λ (r : length table + own s lab (lab j) ≡ length table + own s lab l).
            d (own_same s lab (lab j) l (L.low j a b) h (L.own_label j a b) e (omega arith)))
            ∙ sym (ne_eqb (lab j) l d)

        same : (row : Row) → s ≤ row.class → row.class < s + n
            → eqb (get_or st.labels row.class 0) (length table + own s lab l) ≡ ltb row.class (s + n) && eqb (lab row.class) l
        same row a b = rw (u.done row.class a b, lt-ltb row.class (s + n) b) (same_number row.class a b (ℕ_discrete (lab row.class) l))
