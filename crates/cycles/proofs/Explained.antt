-- Every ring has one explanation.
use mathlib.Core.Path.{◌≡◌, refl, sym, ap, ◌∙◌}
use mathlib.Core.List.{List}
use Prim.Native.Nat.{ℕ, ◌<◌, ◌≤◌}
use lib.ListN.{length}
use Rattle.spans.specs.Basis.{All, Sum}
use Rattle.spans.specs.Graded.{below}
use Rattle.spans.proofs.Lists.{part_all, part_trans, all_and}
use Rattle.spans.proofs.Span.{Span, span_dec, to_part}
use Rattle.spans.proofs.Indep.{part_unique}
use Rattle.spans.proofs.Graded.{split, split_part, split_low}
use Rattle.spans.proofs.Short.{not_span_relevant, minimum_spans_short}
use Rattle.bondset.proofs.Group.{bond_sets}
use Rattle.cycles.specs.Compound.{Compound, Sound}
use Rattle.cycles.specs.Ring.{len, Closed, Ring, Relevant}
use Rattle.cycles.specs.Rows.{Row, Report, Right}
use Rattle.cycles.specs.Explained.{Reason, Named, Why}
use Rattle.cycles.proofs.Bases.{no_sum_relevant, marked_minimum, marked_independent}
use Rattle.cycles.proofs.OneRow.{row_place_unique, relevant_in_one_row}
use Rattle.cycles.proofs.ExplainedRows.{named_few, named_rings, part_named, named_basis_part, numbers_unique}

module _ (c : Compound) (sound : Sound c) (rank : ℕ → ℕ) where
  -- What marked rows sum to, their prototypes being strictly shorter, is not relevant.
  pub summed_not_relevant : {rows : List Row} {C : ℕ} {numbers Ss : List ℕ} → Named c rank rows numbers Ss → All (λ S. len c S < len c C) Ss
      → Sum bond_sets Ss ≡ C → Relevant c C → ⊥
  summed_not_relevant n short sum relevant = relevant.alone _ (all_and (named_rings c sound rank n) short) sum

  module _ (injective : (a b : ℕ) → a < c.n → b < c.n → rank a ≡ rank b → a ≡ b) {R : Report} (right : Right c rank R) where
    spanned_why : {C : ℕ} → Span bond_sets (below (len c) (len c C) right.basis) C → (reason : Reason) × Why c rank R C reason
    spanned_why {C} s =
        let low = split (len c) (len c C) right.basis in
        let (Ss, p, e) = to_part bond_sets s in
        let (numbers, o, n) = part_named c sound rank right (part_trans (split_part (len c) low) p) in
        (Reason.summed numbers, Why.summed o n (part_all p (split_low (len c) low)) e)

    relevant_why : {C : ℕ} → Relevant c C → (reason : Reason) × Why c rank R C reason
    relevant_why relevant =
        let w = relevant_in_one_row c sound rank injective right relevant in
        (Reason.relevant w.place, Why.relevant relevant w.at w.member)

    -- Every closed set, and so every ring, has an explanation.
    pub closed_why : {C : ℕ} → Closed c C → (reason : Reason) × Why c rank R C reason
    closed_why {C} closed = go (span_dec bond_sets (below (len c) (len c C) right.basis) C)
      where
        go : Dec (Span bond_sets (below (len c) (len c C) right.basis) C) → (reason : Reason) × Why c rank R C reason
        go (yes s) = spanned_why s
        go (no n) =
            relevant_why (no_sum_relevant c sound
            (not_span_relevant bond_sets (len c) (Closed c)
            (minimum_spans_short bond_sets (len c) (Closed c) (marked_minimum c sound rank injective right) (len c C)) closed refl n))

    -- "tell that it is a relevant ring with its family, or give marked prototypes, all strictly shorter, that sum to it": every ring has one of both.
    pub ring_why : {C : ℕ} → Ring c C → (reason : Reason) × Why c rank R C reason
    ring_why ring = closed_why ring.closed

    -- The explanation is one.
    pub why_unique : {C : ℕ} {reason other : Reason} → Why c rank R C reason → Why c rank R C other → reason ≡ other
    why_unique (Why.relevant relevant a m) (Why.relevant relevant' b n) = ap Reason.relevant (row_place_unique c sound rank injective right a b m n)
    why_unique (Why.relevant relevant a m) (Why.summed o n short sum) = absurd (summed_not_relevant n short sum relevant)
    why_unique (Why.summed o n short sum) (Why.relevant relevant b m) = absurd (summed_not_relevant n short sum relevant)
    why_unique (Why.summed o n short sum) (Why.summed o' n' short' sum') =
        ap Reason.summed
        (numbers_unique c sound rank right injective
        (part_unique bond_sets (marked_independent c sound rank injective right) (named_basis_part c sound rank right o n)
        (named_basis_part c sound rank right o' n') (sum ∙ sym sum'))
        n n')

    -- "at most 82 of them": no more rows are named than a basis has rings.
    pub summed_few : {C : ℕ} {numbers : List ℕ} → Why c rank R C (Reason.summed numbers) → length numbers ≤ length right.basis
    summed_few (Why.summed o n short sum) = named_few c sound rank right o n
