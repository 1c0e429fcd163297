-- The row is stored, or it comes too early or too late.
use native.Mathlib.Omega.{arith}
use Rattle.candidates.proofs.Kept.{size_early, size_late, size_put}
use Rattle.candidates.proofs.put_size.Goals as goal

pub returns-then-j-sizes : goal.returns-then-j-sizes
returns-then-j-sizes c =
    let at = c.in-Some.ensures in
    let a = c.args in
    rw at.1 (size_put a.from a.i a.size a.sizes.now at.0 (omega (arith, at.1, c.if-j-sizes.true)))

pub returns-in_default : goal.returns-in_default
returns-in_default c = let a = c.args in size_early a.from a.i a.size a.sizes.now (omega (arith, c.in_default.ensures))

pub returns-else-j-sizes : goal.returns-else-j-sizes
returns-else-j-sizes c =
    let at = c.in-Some.ensures in
    let a = c.args in
    size_late a.from a.i a.size a.sizes.now at.0 (omega (arith, at.1, c.if-j-sizes.false))
