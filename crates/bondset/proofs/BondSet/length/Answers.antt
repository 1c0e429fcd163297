-- The ones of two words are those of their number.
use native.Mathlib.Nat.{add_comm}
use Rattle.bondset.proofs.Laws.{words_lt, length_ones}
use lib.Count.{ones, ones-le, ones_cat}
use Prim.Native.Nat.{◌+◌, ◌*◌, ◌^◌, ◌<◌}
use mathlib.Core.Path.{sym, ◌∙◌}
use native.Mathlib.Omega.{arith}
use Rattle.bondset.proofs.BondSet.length.Goals as goal

pub overflow_add-result : goal.overflow_add-result
overflow_add-result c =
    let a = c.args.self in
    omega (arith, ones-le 64 a.lo (omega arith), ones-le 64 a.hi (omega arith))

pub returns : goal.returns
returns c =
    let a = c.args.self in
    let hl : a.lo < 2 ^ 64 = omega arith in
    let hh : a.hi < 2 ^ 64 = omega arith in
    sym (length_ones 128 (a.hi * 2 ^ 64 + a.lo) (words_lt 64 a.hi a.lo hh hl) ∙ ones_cat 64 a.hi a.lo hl ∙ add_comm (ones a.hi) (ones a.lo))
