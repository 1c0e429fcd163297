-- A single bond is a bit of one word.
use native.Mathlib.Nat.{add-zero, one-mul}
use lib.Pow.{shl_exact, pow-add}
use Prim.Native.Nat.{ℕ, ◌+◌, ◌-◌, ◌*◌, ◌^◌}
use mathlib.Core.Path.{◌≡◌, sym, ap, ◌∙◌}
use native.Mathlib.Omega.{arith}
use Rattle.bondset.proofs.Laws.{single_below, single_beyond}
use Rattle.bondset.proofs.BondSet.single.Goals as goal

pub returns-then-k-lt64 : goal.returns-then-k-lt64
returns-then-k-lt64 c =
    let k = c.args.k in
    omega (arith, shl_exact {a = 1} 1 k 64 (omega arith) (omega arith), single_below k (omega arith))

pub returns-then-k-lt128 : goal.returns-then-k-lt128
returns-then-k-lt128 c =
    let k = c.args.k in
    let e : (k - 64) + 64 ≡ k = omega arith in
    add-zero _ ∙ ap (λ (x : ℕ). x * 2 ^ 64) (shl_exact {a = 1} 1 (k - 64) 64 (omega arith) (omega arith) ∙ one-mul (2 ^ (k - 64)))
    ∙ sym (pow-add 2 (k - 64) 64) ∙ ap (λ (x : ℕ). 2 ^ x) e ∙ sym (single_below k (omega arith))

pub returns : goal.returns
returns c = c.empty.ensures ∙ sym (single_beyond c.args.k (omega arith))
