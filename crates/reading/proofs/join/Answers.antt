-- The word of b alone is added to the neighbours of a.
use mathlib.Core.Path.{ap}
use Prim.Native.Nat.{ℕ}
use native.Mathlib.Omega.{arith}
use lib.Bits.{bit_or}
use lib.ListN.{get_or, set}
use Rattle.model.specs.Net.{near1}
use Rattle.atoms.proofs.Words.{one_shl}
use Rattle.reading.proofs.join.Goals as goal

pub returns : goal.returns
unfolding near1
returns c =
    let a = c.args in
    ap (λ (x : ℕ). set a.adj.now a.a (bit_or (get_or a.adj.now a.a 0) x)) (one_shl a.b (omega arith))
