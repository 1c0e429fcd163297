-- The bonds from bond k on: the words above keep theirs, the one with bond k drops its low bits.
use native.Mathlib.Nat.{add-zero, mod-eq_of_lt, div-mul-le_self, lt_of_le_of_lt}
use Prim.Native.Nat.{ℕ, ◌+◌, ◌-◌, ◌*◌, ◌/◌, ◌^◌, ◌<◌}
use mathlib.Core.Path.{sym, ap, ◌∙◌}
use native.Mathlib.Omega.{arith}
use Rattle.bondset.proofs.Words.{since_lo, since_hi, since_beyond}
use Rattle.bondset.proofs.Laws.{words_lt}
use Rattle.bondset.specs.Sets.{value}
use Rattle.bondset.proofs.BondSet.since.Goals as goal

pub returns-then-k-lt64 : goal.returns-then-k-lt64
returns-then-k-lt64 c =
    let a = c.args.self in
    let k = c.args.k in
    let fits : a.lo / 2 ^ k * 2 ^ k < 2 ^ 64 = lt_of_le_of_lt (div-mul-le_self a.lo (2 ^ k)) (omega arith) in
    ap (λ (x : ℕ). a.hi * 2 ^ 64 + x) (mod-eq_of_lt fits) ∙ sym (since_lo 64 a.hi a.lo k (omega arith))

pub returns-then-k-lt128 : goal.returns-then-k-lt128
returns-then-k-lt128 c =
    let a = c.args.self in
    let k = c.args.k in
    let fits : a.hi / 2 ^ (k - 64) * 2 ^ (k - 64) < 2 ^ 64 = lt_of_le_of_lt (div-mul-le_self a.hi (2 ^ (k - 64))) (omega arith) in
    add-zero _ ∙ ap (λ (x : ℕ). x * 2 ^ 64) (mod-eq_of_lt fits) ∙ sym (since_hi 64 a.hi a.lo k (omega arith) (omega arith))

pub returns : goal.returns
returns c =
    let a = c.args.self in
    c.empty.ensures ∙ sym (since_beyond 128 (value a) c.args.k (words_lt 64 a.hi a.lo (omega arith) (omega arith)) (omega arith))
