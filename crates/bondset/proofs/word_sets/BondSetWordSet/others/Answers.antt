-- The lowest bond is in the low word unless that is empty, and is cleared in its word.
use Prim.Native.Nat.{ℕ, ◌+◌, ◌-◌, ◌*◌, ◌^◌}
use mathlib.Core.Path.{◌≡◌, sym, ap, ap₂, ◌∙◌}
use native.Mathlib.Omega.{arith}
use lib.Bits.{bit_and}
use Rattle.bondset.proofs.Laws.{pos_of_ne}
use Rattle.bondset.proofs.Words.{others_lo, others_hi}
use Rattle.bondset.proofs.word_sets.BondSetWordSet.others.Goals as goal

pub returns-then-self-ne0 : goal.returns-then-self-ne0
returns-then-self-ne0 c =
    let a = c.args.self in
    sym (others_lo 64 a.hi a.lo (pos_of_ne a.lo c.if-self-ne0.true) (omega arith))

pub returns-then-self-ne0-2 : goal.returns-then-self-ne0-2
returns-then-self-ne0-2 c =
    let a = c.args.self in
    let z : a.lo ≡ 0 = c.if-self-ne0.false in
    sym (ap (λ (x : ℕ). bit_and (a.hi * 2 ^ 64 + x) (a.hi * 2 ^ 64 + x - 1)) z ∙ others_hi 64 a.hi (pos_of_ne a.hi c.if-self-ne0-2.true))

pub returns : goal.returns
returns c =
    let a = c.args.self in
    let z : a.lo ≡ 0 = c.if-self-ne0.false in
    let y : a.hi ≡ 0 = c.if-self-ne0-2.false in
    ap₂ (λ (h l : ℕ). h * 2 ^ 64 + l) y z ∙ sym (ap₂ (λ (h l : ℕ). bit_and (h * 2 ^ 64 + l) (h * 2 ^ 64 + l - 1)) y z)
