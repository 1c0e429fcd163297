-- Membership is a bit of the word, and no atom is beyond it.
use mathlib.Core.Path.{sym, ap}
use Prim.Native.Nat.{ℕ, ◌/◌, ◌^◌}
use native.Mathlib.Omega.{arith}
use lib.Bits.{and_mask}
use lib.Dec.{eqb}
use Rattle.bondset.proofs.Laws.{bit_beyond}
use Rattle.bondset.proofs.word_sets.U64WordSet.member.Goals as goal

pub returns-then-k-lt64 : goal.returns-then-k-lt64
returns-then-k-lt64 c =
    let a = c.args in
    ap (λ (x : ℕ). eqb x 1) (and_mask (a.self / 2 ^ a.k) 1)

pub returns : goal.returns
returns c =
    let a = c.args in
    ap (λ (x : ℕ). eqb x 1) (sym (bit_beyond 64 a.self a.k (omega arith) (omega arith)))
