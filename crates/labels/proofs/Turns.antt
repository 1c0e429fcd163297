-- Loops over numbers, one turn at a time: what is left of the loop gives the same in the end.
use mathlib.Core.Path.{◌≡◌, ap₂, ◌∙◌}
use Prim.Native.Nat.{ℕ, suc, ◌+◌, ◌-◌, ◌≤◌, ◌<◌}
use native.Mathlib.Numerals.{add-one}
use native.Mathlib.Omega.{arith}
use Rattle.model.specs.Fold.{through, count}

module _ {S : Type 0} (step : ℕ → S → S) where
  -- no number, and one number and more
  pub through_none : (i n : ℕ) (s : S) → n ≡ 0 → s ≡ through step (count i n) s
  unfolding through count
  through_none i n s e = rw e

  pub through_first : (i n m : ℕ) (s : S) → n ≡ suc m → through step (count (suc i) m) (step i s) ≡ through step (count i n) s
  unfolding through count
  through_first i n m s e = rw e

  module _ (i to : ℕ) (s g : S) where
    -- one turn
    pub turn : i < to → (t : S) → t ≡ step i s → through step (count i (to - i)) s ≡ g → through step (count (i + 1) (to - (i + 1))) t ≡ g
    turn l t e h =
        ap₂ (λ (k : ℕ) (x : S). through step (count k (to - (i + 1))) x) (add-one i) e ∙ through_first i (to - i) (to - (i + 1)) s (omega arith) ∙ h

    -- none is left
    pub turned : to ≤ i → through step (count i (to - i)) s ≡ g → s ≡ g
    turned l h = through_none i (to - i) s (omega arith) ∙ h
