-- The part from the place on is read as a set.
use Rattle.std.proofs.Common.{ℕ, ◌*◌, ap, ◌∙◌}
use Rattle.std.specs.Int.Bits.{bit_xor}
use Rattle.bondset.specs.Bytes.{bytes_of, of_bytes}
use Rattle.bondset.specs.Sets.{value}
use Rattle.members.specs.Listed.{over}
use Rattle.members.proofs.Places.{part_all}
use Rattle.members.proofs.mix.Goals as goal

pub returns : goal.returns
returns c =
    let a = c.args in
    c.put.ensures
    ∙ ap (λ (x : ℕ). over a.rings.now (12 * a.to) (bytes_of 12 x))
    (c.sum-sum.ensures ∙ ap (bit_xor (value a.set)) (c.from_bytes.ensures ∙ ap of_bytes (part_all a.rings.now a.from c.requires.from_in_bounds)))
