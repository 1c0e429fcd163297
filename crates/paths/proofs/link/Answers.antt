-- One bond, or the sum of two.
use Rattle.std.proofs.Common.{ap₂, ◌∙◌, arith, ne_eqb}
use Rattle.std.specs.Int.Bits.{bit_xor}
use Rattle.model.specs.State.{link}
use Rattle.paths.proofs.link.Goals as goal

pub returns-in-None : goal.returns-in-None
unfolding link
returns-in-None c k t = rw c.in-None.is c.bond.ensures

pub returns-in-Some : goal.returns-in-Some
unfolding link
returns-in-Some c k t =
    let small = rw c.in-Some.is at c.requires.x_bound in
    rw (c.in-Some.is, ne_eqb c.in-Some.x 255 (λ e. omega (arith, e, small)))
    (c.sum.ensures ∙ ap₂ bit_xor c.bond-in-Some.ensures c.bond-in-Some-2.ensures)
