-- The intersection works on each word.
use lib.Bits.{and_block}
use mathlib.Core.Path.{sym}
use native.Mathlib.Omega.{arith}
use Rattle.bondset.proofs.BondSet.intersection.Goals as goal

pub returns : goal.returns
returns c =
    let a = c.args.self in
    let b = c.args.other in
    sym (and_block 64 a.hi b.hi a.lo b.lo (omega arith) (omega arith))
