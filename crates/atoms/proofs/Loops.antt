-- Loops over 0, 1, .., in terms of the model's folds.
use mathlib.Core.Path.{◌≡◌, refl, sym, ap, ◌∙◌}
use Prim.Native.Nat.{ℕ, zero, suc, ◌+◌}
use native.Mathlib.Nat.{add-zero}
use native.Mathlib.Numerals.{add-one}
use native.Mathlib.Omega.{arith}
use Rattle.model.specs.Fold.{through, count}

module _ {S : Type 0} (step : ℕ → S → S) where
  -- One turn more of a loop over from, from + 1, ..
  pub through_suc : (from k : ℕ) (s : S) → through step (count from (suc k)) s ≡ step (from + k) (through step (count from k) s)
  unfolding through count
  through_suc from zero s = ap (λ (i : ℕ). step i s) (sym (add-zero from))
  through_suc from (suc k) s =
      through_suc (suc from) k (step from s) ∙ ap (λ (i : ℕ). step i (through step (count (suc from) k) (step from s))) (omega arith)

  -- The loop `for i in 0..n { state = step(from + i, state); }`, before turn i.
  pub record Upto (from : ℕ) (start : S) (i : ℕ) (state : S) : Type 0 where
    pub is : state ≡ through step (count from i) start

  -- Before the first turn.
  pub upto_start : (from : ℕ) (start : S) → Upto from start 0 start
  unfolding through count
  upto_start from start = record { is = refl }

  -- After a turn.
  pub upto_next : {from i j : ℕ} {start state next : S} → j ≡ from + i → next ≡ step j state → Upto from start i state → Upto from start (i + 1) next
  upto_next {from} {i} {j} {start} {state} {next} at e upto = record {
    is =
        e ∙ ap (λ (k : ℕ). step k state) at ∙ ap (step (from + i)) upto.is
        ∙ sym (ap (λ (k : ℕ). through step (count from k) start) (add-one i) ∙ through_suc from i start);
  }

  -- All turns are done.
  pub upto_end : {from i n : ℕ} {start state : S} → i ≡ n → Upto from start i state → state ≡ through step (count from n) start
  upto_end {from} {i} {n} {start} {state} e upto = upto.is ∙ ap (λ (k : ℕ). through step (count from k) start) e
