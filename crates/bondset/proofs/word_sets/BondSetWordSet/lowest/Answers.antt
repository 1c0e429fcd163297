-- The lowest bond is in the low word unless that is empty.
use native.Mathlib.Nat.{add_comm, add-zero}
use lib.Count.{count_trailing_zeros, trailing_le}
use Prim.Native.Nat.{ℕ, ◌+◌, ◌*◌, ◌^◌}
use mathlib.Core.Path.{◌≡◌, sym, ap, ◌∙◌}
use native.Mathlib.Omega.{arith}
use Rattle.bondset.proofs.Laws.{pos_of_ne}
use Rattle.bondset.proofs.Words.{trailing_lo, trailing_hi}
use Rattle.bondset.proofs.word_sets.BondSetWordSet.lowest.Goals as goal

pub overflow_cast-result : goal.overflow_cast-result
overflow_cast-result c = omega (arith, trailing_le 64 c.args.self.lo)

pub returns-then-self-ne0 : goal.returns-then-self-ne0
returns-then-self-ne0 c =
    let a = c.args.self in
    sym (trailing_lo 64 64 a.hi a.lo (pos_of_ne a.lo c.if-self-ne0.true) (omega arith))

pub overflow_cast-result-2 : goal.overflow_cast-result-2
overflow_cast-result-2 c = omega (arith, trailing_le 64 c.args.self.hi)

pub overflow_add-result : goal.overflow_add-result
overflow_add-result c = omega (arith, trailing_le 64 c.args.self.hi)

pub returns : goal.returns
returns c =
    let a = c.args.self in
    let z : a.lo ≡ 0 = c.if-self-ne0.false in
    sym (ap (λ (x : ℕ). count_trailing_zeros 128 (a.hi * 2 ^ 64 + x)) z
    ∙ ap (λ (x : ℕ). count_trailing_zeros 128 x) (add-zero (a.hi * 2 ^ 64))
    ∙ trailing_hi 64 64 a.hi
    ∙ add_comm 64 (count_trailing_zeros 64 a.hi))
