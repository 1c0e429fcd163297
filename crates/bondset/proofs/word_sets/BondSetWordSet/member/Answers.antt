-- Membership is a bit of one word, and no bond is beyond both.
use Rattle.bondset.proofs.Laws.{bit_word_lo, bit_word_hi, bit_beyond, words_lt}
use Rattle.bondset.specs.Sets.{value}
use lib.Bits.{and_mask}
use lib.Dec.{eqb}
use Prim.Native.Nat.{ℕ, ◌-◌, ◌/◌, ◌^◌}
use mathlib.Core.Path.{sym, ap, ◌∙◌}
use native.Mathlib.Omega.{arith}
use Rattle.bondset.proofs.word_sets.BondSetWordSet.member.Goals as goal

pub returns-then-k-lt64 : goal.returns-then-k-lt64
returns-then-k-lt64 c =
    let a = c.args.self in
    let k = c.args.k in
    ap (λ (x : ℕ). eqb x 1) (and_mask (a.lo / 2 ^ k) 1 ∙ sym (bit_word_lo 64 a.hi a.lo (omega arith) k (omega arith)))

pub returns-then-k-lt128 : goal.returns-then-k-lt128
returns-then-k-lt128 c =
    let a = c.args.self in
    let k = c.args.k in
    ap (λ (x : ℕ). eqb x 1) (and_mask (a.hi / 2 ^ (k - 64)) 1 ∙ sym (bit_word_hi 64 a.hi a.lo (omega arith) k (omega arith)))

pub returns : goal.returns
returns c =
    let a = c.args.self in
    ap (λ (x : ℕ). eqb x 1)
    (sym (bit_beyond 128 (value a) c.args.k (words_lt 64 a.hi a.lo (omega arith) (omega arith)) (omega arith)))
