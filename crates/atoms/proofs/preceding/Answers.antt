-- One below the word of r alone.
use mathlib.Core.Path.{ap}
use Prim.Native.Nat.{ℕ, ◌-◌}
use native.Mathlib.Omega.{arith}
use lib.Pow.{pow_pos}
use Rattle.model.specs.Net.{preceding}
use Rattle.atoms.proofs.Words.{one_shl}
use Rattle.atoms.proofs.preceding.Goals as goal

pub overflow_sub-result : goal.overflow_sub-result
overflow_sub-result c =
    let r = c.args.r in
    omega (arith, one_shl r (omega arith), pow_pos r)

pub returns : goal.returns
unfolding preceding
returns c =
    let r = c.args.r in
    ap (λ (x : ℕ). x - 1) (one_shl r (omega arith))
