use mathlib.Core.Path.{refl}
use native.Mathlib.Omega.{arith}
use lib.ListN.{length-set}
use Rattle.bondset.specs.Sets.{value}
use Rattle.bondset.proofs.Rows.{put_words}
use Rattle.bondset.proofs.put_row.Goals as goal

pub bounds-rows-i-2 : goal.bounds-rows-i-2
bounds-rows-i-2 c = simp length-set (omega arith)

pub returns : goal.returns
returns c =
    let a = c.args in
    put_words a.rows.now a.i (value a.v) a.v.hi a.v.lo (omega arith) refl
