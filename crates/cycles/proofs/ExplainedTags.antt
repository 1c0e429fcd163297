-- The explanation by a reduction: the tag used on the way names the marked rows, and a rest that is not empty says that the ring is relevant.
use mathlib.Core.Path.{◌≡◌, refl, sym, ◌∙◌, ap, subst}
use mathlib.Core.List.{List, [], ◌∷◌}
use mathlib.Core.Logic.{◌↔◌}
use Prim.Native.Nat.{ℕ, zero, suc, ◌/◌, ◌%◌, ◌^◌, ◌<◌}
use native.Mathlib.Numerals.{add-one}
use lib.Arith.{lt-one}
use lib.ListN.{take}
use lib.Pow.{shr_lt}
use Rattle.spans.specs.Basis.{All}
use Rattle.spans.specs.Graded.{below}
use Rattle.spans.proofs.Lists.{part_all}
use Rattle.spans.proofs.Span.{Span}
use Rattle.spans.proofs.Graded.{split, split_low}
use Rattle.spans.proofs.Short.{relevant_not_span, not_span_relevant, minimum_spans_short}
use Rattle.bondset.specs.Reduction.{reduced, used, combine, keep_if_one, named_by, Reduction}
use Rattle.bondset.proofs.Group.{bond_sets}
use Rattle.bondset.proofs.ReductionTags.{named_by_part, named_by_sum}
use Rattle.bondset.proofs.ReductionTheorems.{reduction_rest}
use Rattle.cycles.specs.Compound.{Compound, Sound}
use Rattle.cycles.specs.Ring.{len, Closed, Relevant}
use Rattle.cycles.specs.Rows.{Row, Report, Right}
use Rattle.cycles.specs.Explained.{Reason, Named, Why}
use Rattle.cycles.proofs.Bases.{relevant_no_sum, no_sum_relevant, marked_minimum}
use Rattle.cycles.proofs.ExplainedRows.{in_order_part, marks_numbers, marked_front, marked_short_le, short_of}

half_lt : {t : ℕ} (k : ℕ) → t < 2 ^ suc k → t / 2 < 2 ^ k
half_lt k h = shr_lt k 1 (rw add-one h)

-- Tag 0 names nothing.
named_by_zero : (xs : List ℕ) → named_by xs 0 ≡ []
unfolding named_by
named_by_zero [] = refl
named_by_zero (x ∷ xs) = named_by_zero xs

-- A tag below 2 ^ s names only the first s sets.
pub named_by_take : (s : ℕ) (xs : List ℕ) (t : ℕ) → t < 2 ^ s → named_by xs t ≡ named_by (take s xs) t
unfolding named_by
named_by_take zero xs t h = ap (named_by xs) (lt-one h) ∙ named_by_zero xs
named_by_take (suc s) [] t h = refl
named_by_take (suc s) (x ∷ xs) t h = ap (keep_if_one (t % 2) x) (named_by_take s xs (t / 2) (half_lt s h))

module _ (c : Compound) (rank : ℕ → ℕ) where
  -- A tag names rows and their prototypes alike.
  pub named_by_lem : {rows : List Row} {numbers Ss : List ℕ} (t : ℕ) → Named c rank rows numbers Ss → Named c rank rows (named_by numbers t) (named_by Ss t)
  unfolding named_by
  named_by_lem t Named.none = Named.none
  named_by_lem {rows} t (Named.more {i = i} {S = S} a e p n) = kept (t % 2) (named_by_lem (t / 2) n)
    where
      kept : {is Ss : List ℕ} (d : ℕ) → Named c rank rows is Ss → Named c rank rows (keep_if_one d i is) (keep_if_one d S Ss)
      kept zero m = m
      kept (suc d) m = Named.more a e p m

module _ (c : Compound) (sound : Sound c) (rank : ℕ → ℕ) (injective : (a b : ℕ) → a < c.n → b < c.n → rank a ≡ rank b → a ≡ b)
    {R : Report} (right : Right c rank R) where
  -- The numbers of the rows with mark 1, in order.
  abbrev pub marked_numbers : List ℕ
  marked_numbers = (marks_numbers c rank right.marks).numbers

  -- A closed set is relevant exactly if the marked prototypes that are shorter do not span it.
  pub relevant_iff_unspanned : {C : ℕ} → Closed c C → Relevant c C ↔ (Span bond_sets (take (short_of c right (len c C)) right.basis) C → ⊥)
  relevant_iff_unspanned {C} closed =
      let h = minimum_spans_short bond_sets (len c) (Closed c) (marked_minimum c sound rank injective right) (len c C) in
      let e = marked_front c sound rank right (len c C) in (
        λ r s. relevant_not_span bond_sets (len c) (Closed c) h refl (relevant_no_sum c sound r) (subst (λ (L : List ℕ). Span bond_sets L C) e s),
        λ n. no_sum_relevant c sound
            (not_span_relevant bond_sets (len c) (Closed c) h closed refl (λ s. n (subst (λ (L : List ℕ). Span bond_sets L C) (sym e) s))),
      )

  -- A tag over the shorter marked prototypes that names C explains C.
  pub tag_why : {C t : ℕ} → C ≡ combine right.basis t → t < 2 ^ short_of c right (len c C) → Why c rank R C (Reason.summed (named_by marked_numbers t))
  tag_why {C} {t} e h =
      let r = marks_numbers c rank right.marks in
      let k = len c C in
      let named = subst (λ (B : List ℕ). Named c rank R.rows (named_by r.numbers t) (named_by B t)) (sym r.in_front) (named_by_lem c rank t r.named) in
      let front = named_by_take (short_of c right k) right.basis t h ∙ ap (λ (L : List ℕ). named_by L t) (marked_front c sound rank right k) in
      let short = part_all (named_by_part (below (len c) k right.basis) t) (split_low (len c) (split (len c) k right.basis)) in
      Why.summed (in_order_part (named_by_part r.numbers t) r.ordered) named (subst (All (λ S. len c S < k)) (sym front) short)
      (named_by_sum right.basis t ∙ sym e)

  module _ {rows tags pivots : List ℕ} (state : Reduction rows tags pivots right.basis) {C : ℕ} (closed : Closed c C) where
    -- A ring that the shorter marked prototypes reduce to nothing: the tags used name them.
    pub reduced_why : reduced rows pivots 0 (short_of c right (len c C)) C ≡ 0
        → Why c rank R C (Reason.summed (named_by marked_numbers (used rows tags pivots 0 (short_of c right (len c C)) C 0)))
    reduced_why z =
        let w = reduction_rest state (short_of c right (len c C)) (marked_short_le c sound rank right (len c C)) C in
        tag_why (w.names z) w.below

    -- A ring of which something remains is relevant.
    pub rest_relevant : (reduced rows pivots 0 (short_of c right (len c C)) C ≡ 0 → ⊥) → Relevant c C
    rest_relevant n =
        let w = reduction_rest state (short_of c right (len c C)) (marked_short_le c sound rank right (len c C)) C in
        (relevant_iff_unspanned closed).1 (λ s. n (w.empty s))
