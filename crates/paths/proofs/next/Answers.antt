-- The first of the neighbours there is the lowest.
use Rattle.std.proofs.Common.{◌≡◌, [], ℕ, ◌<◌, ◌^◌, Option, Some, None, MatchOption, List, ◌∷◌, arith, get_or}
use Rattle.std.specs.Int.Bits.{bit_and}
use Rattle.std.proofs.lemmas.Nat.{and_le_l}
use Rattle.bondset.specs.Sets.{members}
use Rattle.bondset.proofs.Members.{first_lt}
use Rattle.model.specs.Layer.{low}
use Rattle.paths.proofs.Steps.{first_low, none_low}
use Rattle.paths.proofs.next.Goals as goal

given : (s : ℕ) (left : List ℕ) (o : Option ℕ) → s < 2 ^ 64
    → MatchOption o ((members 64 s ≡ []) × (left ≡ [])) (λ k. members 64 s ≡ k ∷ left)
    → MatchOption o (low s ≡ 64) (λ k. (k < 64) × (k ≡ low s))
given s left None h e = none_low s h e.0
given s left (Some k) h e = (first_lt 64 s k left e, first_low s k left h e)

pub returns : goal.returns
returns c =
    let a = c.args in
    let w = get_or a.adj.now a.a 0 in
    given (bit_and w a.layer) (members 64 c.next.new.self.rest) c.next.result (omega (arith, and_le_l w a.layer, c.type_inv.adj a.a))
    (rw c.each.ensures at c.next.ensures.steps)
