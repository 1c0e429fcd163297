-- The bits above p stay: none for the last atom of a word.
use mathlib.Core.Path.{sym}
use Prim.Native.Nat.{◌+◌, ◌*◌, ◌/◌, ◌^◌, ◌<◌}
use native.Mathlib.Nat.{mod-eq_of_lt, div-mul-le_self, lt_of_le_of_lt}
use native.Mathlib.Omega.{arith}
use Rattle.bondset.proofs.Words.{since_beyond}
use Rattle.model.specs.Loops.{above}
use Rattle.atoms.proofs.above.Goals as goal

pub returns-then-p-eq63 : goal.returns-then-p-eq63
unfolding above
returns-then-p-eq63 c =
    let a = c.args in
    sym (since_beyond 64 a.s (a.p + 1) (omega arith) (omega arith))

pub returns : goal.returns
unfolding above
returns c =
    let s = c.args.s in
    let k = c.args.p + 1 in
    let fits : s / 2 ^ k * 2 ^ k < 2 ^ 64 = lt_of_le_of_lt (div-mul-le_self s (2 ^ k)) (omega arith) in
    mod-eq_of_lt fits
