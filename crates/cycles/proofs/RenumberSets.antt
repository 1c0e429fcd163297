-- Bond sets renumbered: bond j is in the new set if the old bond of that number is in the old one. Counting in another order.
use mathlib.Core.Path.{◌≡◌, sym, ap, ap₂, ◌∙◌}
use mathlib.Core.Bool.{Bool, true}
use mathlib.Core.Logic.{⊎_elim}
use Prim.Native.Nat.{ℕ, zero, suc, ◌+◌, ◌^◌, ◌<◌, ◌≤◌}
use native.Mathlib.Omega.{arith}
use lib.Bits.{bit_xor, xor_lt}
use Rattle.graphs.specs.Count.{xor, val, cnt, flip}
use Rattle.graphs.proofs.Basics.{both, same_refl}
use Rattle.graphs.proofs.Count.{cnt_at, flip_off}
use Rattle.cycles.specs.Renumbered.{Undo}
use Rattle.cycles.proofs.Number.{holds, num, holds_xor, holds_ext, num_lt, holds_num}

-- The set below 2 ^ m whose bond j is bond `old j` of S.
abbrev pub moved : (ℕ → ℕ) → ℕ → ℕ → ℕ
moved old m S = num (λ j. holds S (old j)) m

module _ (old : ℕ → ℕ) (m : ℕ) where
  -- Bond j is in the new set exactly if its old bond is in the old set.
  pub moved_holds : (S j : ℕ) → j < m → holds (moved old m S) j ≡ holds S (old j)
  moved_holds S j h = holds_num (λ i. holds S (old i)) m j h

  -- The new set is below 2 ^ m.
  pub moved_lt : (S : ℕ) → moved old m S < 2 ^ m
  moved_lt S = num_lt (λ i. holds S (old i)) m

  -- The new set of a sum is the sum of the new sets.
  pub moved_add : (S T : ℕ) → moved old m (bit_xor S T) ≡ bit_xor (moved old m S) (moved old m T)
  moved_add S T =
      holds_ext m (moved old m (bit_xor S T)) (bit_xor (moved old m S) (moved old m T)) (moved_lt (bit_xor S T))
      (xor_lt m (moved old m S) (moved old m T) (moved_lt S) (moved_lt T))
      (λ j h. moved_holds (bit_xor S T) j h ∙ holds_xor S T (old j)
      ∙ sym (holds_xor (moved old m S) (moved old m T) j ∙ ap₂ xor (moved_holds S j h) (moved_holds T j h)))

-- Moved there and back a set is as it was.
pub moved_back : {f g : ℕ → ℕ} (m : ℕ) → Undo m f g → (S : ℕ) → S < 2 ^ m → moved f m (moved g m S) ≡ S
moved_back {f} {g} m u S l =
    holds_ext m (moved f m (moved g m S)) S (moved_lt f m (moved g m S)) l
    (λ j h. moved_holds f m (moved g m S) j h ∙ moved_holds g m S (f j) (u.there j h) ∙ ap (holds S) (u.there_back j h))

-- One member fewer.
cnt_without : (g : ℕ → Bool) (k n : ℕ) → k < n → g k ≡ true → cnt g n ≡ suc (cnt (flip k g) n)
cnt_without g k n l h =
    let r = cnt_at (flip k g) g k n l (flip_off k g) in
    let r₁ : cnt (flip k g) n + 1 ≡ cnt g n + 0 = rw (same_refl k, h) at r in
    omega arith

-- A map that takes what has f to what has g, and no two to one: no fewer have g.
pub cnt_injective : (h : ℕ → ℕ) (f g : ℕ → Bool) (n N : ℕ) → ((k : ℕ) → k < n → f k ≡ true → (h k < N) × (g (h k) ≡ true))
    → ((j k : ℕ) → j < n → k < n → h j ≡ h k → j ≡ k) → cnt f n ≤ cnt g N
unfolding cnt
cnt_injective h f g zero N into one = omega arith
cnt_injective h f g (suc n) N into one =
    ⊎_elim
    (λ e.
    let (l, t) = into n (omega arith) e in
    let rest = cnt_injective h f (flip (h n) g) n N
    (λ k i d.
    let (p, q) = into k (omega arith) d in
    (p, flip_off (h n) g (h k) (λ s. let z = one k n (omega arith) (omega arith) s in omega arith) ∙ q))
    (λ j k i l. one j k (omega arith) (omega arith)) in
    omega (arith, ap val e, cnt_without g (h n) N l t))
    (λ e.
    let rest = cnt_injective h f g n N (λ k i. into k (omega arith)) (λ j k i l. one j k (omega arith) (omega arith)) in
    omega (arith, ap val e))
    (both (f n))

-- As many are counted in another order.
pub cnt_moved : {g h : ℕ → ℕ} (n : ℕ) → Undo n g h → (f : ℕ → Bool) → cnt (λ k. f (g k)) n ≡ cnt f n
cnt_moved {g} {h} n u f =
    let to = cnt_injective g (λ k. f (g k)) f n n (λ k l e. (u.there k l, e))
    (λ j k i l e. sym (u.there_back j i) ∙ ap h e ∙ u.there_back k l) in
    let back = cnt_injective h f (λ k. f (g k)) n n (λ k l e. (u.back k l, ap f (u.back_there k l) ∙ e))
    (λ j k i l e. sym (u.back_there j i) ∙ ap g e ∙ u.back_there k l) in
    omega arith
