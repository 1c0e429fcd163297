-- Counting below a bound, and its parity.
use mathlib.Core.Path.{◌≡◌, refl, sym, ap, ap₂, ◌∙◌, subst}
use mathlib.Core.Bool.{Bool, true, false, not, ◌&&◌, ◌||◌}
use mathlib.Core.Logic.{⊎_elim, ◌≢◌}
use Prim.Native.Nat.{ℕ, zero, suc, ◌+◌, ◌%◌, ◌≤◌, ◌<◌}
use native.Mathlib.Omega.{arith}
use Rattle.graphs.specs.Count.{xor, same, val, cnt, par, flip}
use Rattle.graphs.proofs.Basics.{both, clash, xor_assoc, xor_false, xor_swap, xor_rot, same_refl, same_eq, same_ne, same_off}

-- Truth values as numbers.

pub val_mono : (a b : Bool) → (a ≡ true → b ≡ true) → val a ≤ val b
val_mono true b h = rw (h refl) (omega arith)
val_mono false b h = omega arith

pub val_eq : (a b : Bool) → val a ≡ val b → a ≡ b
val_eq true true h = refl
val_eq true false h = absurd (omega arith)
val_eq false true h = absurd (omega arith)
val_eq false false h = refl

pub val_some : (b : Bool) → 0 < val b → b ≡ true
val_some true h = refl
val_some false h = absurd (omega arith)

pub val_xor : (u w a : ℕ) → u ≢ w → val (xor (same u a) (same w a)) ≡ val (same u a) + val (same w a)
val_xor u w a h =
    ⊎_elim
    (λ e. let f : same w a ≡ false = same_ne w a (λ q. h (same_eq u a e ∙ sym q)) in rw (e, f))
    (λ e. rw e (omega arith))
    (both (same u a))

pub val_or : (a b : Bool) → (a ≡ true → b ≡ false) → val (a || b) ≡ val a + val b
val_or true b h = rw (h refl)
val_or false b h = omega arith

-- Counts.

pub cnt_ext : (f g : ℕ → Bool) (n : ℕ) → ((k : ℕ) → k < n → f k ≡ g k) → cnt f n ≡ cnt g n
unfolding cnt
cnt_ext f g zero h = refl
cnt_ext f g (suc n) h = ap₂ (λ (x y : ℕ). x + y) (ap val (h n (omega arith))) (cnt_ext f g n (λ k l. h k (omega arith)))

-- Two sets that differ at most at k.
pub cnt_at : (f g : ℕ → Bool) (k n : ℕ) → k < n → ((j : ℕ) → j ≢ k → f j ≡ g j) → cnt f n + val (g k) ≡ cnt g n + val (f k)
unfolding cnt
cnt_at f g k zero l h = omega arith
cnt_at f g k (suc n) l h =
    ⊎_elim
    (λ e. let p : k ≡ n = same_eq k n e in
    let q : cnt f n ≡ cnt g n = cnt_ext f g n (λ j i. h j (omega arith)) in
    rw p (omega arith))
    (λ e. let p : k ≢ n = same_off k n e in
    let q : val (f n) ≡ val (g n) = ap val (h n (λ s. p (sym s))) in
    let r : cnt f n + val (g k) ≡ cnt g n + val (f k) = cnt_at f g k n (omega arith) h in
    omega arith)
    (both (same k n))

pub cnt_some : (f : ℕ → Bool) (n : ℕ) → 0 < cnt f n → (k : ℕ) × (k < n) × (f k ≡ true)
unfolding cnt
cnt_some f zero h = absurd (omega arith)
cnt_some f (suc n) h =
    ⊎_elim (λ e. (n, omega arith, e))
    (λ e. let q : val (f n) ≡ 0 = ap val e in
    let r : (k : ℕ) × (k < n) × (f k ≡ true) = cnt_some f n (omega arith) in (r.0, omega arith, r.2))
    (both (f n))

pub cnt_none : (f : ℕ → Bool) (n : ℕ) → ((k : ℕ) → k < n → f k ≡ false) → cnt f n ≡ 0
unfolding cnt
cnt_none f zero h = refl
cnt_none f (suc n) h = omega (arith, ap val (h n (omega arith)), cnt_none f n (λ k l. h k (omega arith)))

pub cnt_mono : (f g : ℕ → Bool) (n : ℕ) → ((k : ℕ) → k < n → f k ≡ true → g k ≡ true) → cnt f n ≤ cnt g n
unfolding cnt
cnt_mono f g zero h = omega arith
cnt_mono f g (suc n) h = omega (arith, cnt_mono f g n (λ k l. h k (omega arith)), val_mono (f n) (g n) (h n (omega arith)))

-- A part that is as large is the whole.
pub cnt_full : (f g : ℕ → Bool) (n : ℕ) → ((k : ℕ) → k < n → f k ≡ true → g k ≡ true) → cnt g n ≤ cnt f n → (k : ℕ) → k < n → f k ≡ g k
unfolding cnt
cnt_full f g zero h le k l = absurd (omega arith)
cnt_full f g (suc n) h le k l =
    let a : cnt f n ≤ cnt g n = cnt_mono f g n (λ j i. h j (omega arith)) in
    let b : val (f n) ≤ val (g n) = val_mono (f n) (g n) (h n (omega arith)) in
    ⊎_elim (λ e. rw (same_eq k n e) (val_eq (f n) (g n) (omega arith)))
    (λ e. let p : k ≢ n = same_off k n e in cnt_full f g n (λ j i. h j (omega arith)) (omega arith) k (omega arith))
    (both (same k n))

pub cnt_le : (f : ℕ → Bool) (n : ℕ) → cnt f n ≤ n
unfolding cnt
cnt_le f zero = omega arith
cnt_le f (suc n) = omega (arith, cnt_le f n, val_mono (f n) true (λ e. refl))

pub cnt_pos : (f : ℕ → Bool) (k n : ℕ) → k < n → f k ≡ true → 0 < cnt f n
unfolding cnt
cnt_pos f k zero l h = omega arith
cnt_pos f k (suc n) l h =
    ⊎_elim (λ e. omega (arith, ap val (subst (λ (x : ℕ). f x ≡ true) (same_eq k n e) h)))
    (λ e. let p : k ≢ n = same_off k n e in omega (arith, cnt_pos f k n (omega arith) h))
    (both (same k n))

pub cnt_minus : (f g : ℕ → Bool) (n : ℕ) → ((k : ℕ) → g k ≡ true → f k ≡ true) → cnt (λ k. xor (f k) (g k)) n + cnt g n ≡ cnt f n
unfolding cnt
cnt_minus f g zero h = refl
cnt_minus f g (suc n) h = omega (arith, cnt_minus f g n h, val_minus (f n) (g n) (h n))
  where
    val_minus : (a b : Bool) → (b ≡ true → a ≡ true) → val (xor a b) + val b ≡ val a
    val_minus true true h = refl
    val_minus true false h = refl
    val_minus false true h = absurd (clash (h refl) refl)
    val_minus false false h = refl

pub cnt_sum_le : (f g : ℕ → Bool) (n : ℕ) → cnt (λ k. xor (f k) (g k)) n ≤ cnt f n + cnt g n
unfolding cnt
cnt_sum_le f g zero = omega arith
cnt_sum_le f g (suc n) = omega (arith, cnt_sum_le f g n, val_xor_le (f n) (g n))
  where
    val_xor_le : (a b : Bool) → val (xor a b) ≤ val a + val b
    val_xor_le true true = omega arith
    val_xor_le true false = omega arith
    val_xor_le false true = omega arith
    val_xor_le false false = omega arith

-- Parity.

pub val_xor_mod : (a b : Bool) → val (xor a b) ≡ (val a + val b) % 2
val_xor_mod true true = refl
val_xor_mod true false = refl
val_xor_mod false true = refl
val_xor_mod false false = refl

pub par_cnt : (f : ℕ → Bool) (n : ℕ) → val (par f n) ≡ cnt f n % 2
unfolding cnt par
par_cnt f zero = refl
par_cnt f (suc n) = omega (arith, par_cnt f n, val_xor_mod (f n) (par f n))

pub par_ext : (f g : ℕ → Bool) (n : ℕ) → ((k : ℕ) → k < n → f k ≡ g k) → par f n ≡ par g n
unfolding par
par_ext f g zero h = refl
par_ext f g (suc n) h = ap₂ xor (h n (omega arith)) (par_ext f g n (λ k l. h k (omega arith)))

pub par_xor : (f g : ℕ → Bool) (n : ℕ) → par (λ k. xor (f k) (g k)) n ≡ xor (par f n) (par g n)
unfolding par
par_xor f g zero = refl
par_xor f g (suc n) = ap (λ (x : Bool). xor (xor (f n) (g n)) x) (par_xor f g n) ∙ xor_swap (f n) (g n) (par f n) (par g n)

pub par_at : (f g : ℕ → Bool) (k n : ℕ) → k < n → ((j : ℕ) → j ≢ k → f j ≡ g j) → xor (par f n) (g k) ≡ xor (par g n) (f k)
unfolding par
par_at f g k zero l h = absurd (omega arith)
par_at f g k (suc n) l h =
    ⊎_elim
    (λ e. let p : k ≡ n = same_eq k n e in
    let q : par f n ≡ par g n = par_ext f g n (λ j i. h j (omega arith)) in
    rw (p, q) (xor_rot (f n) (par g n) (g n)))
    (λ e. let p : k ≢ n = same_off k n e in
    let q : f n ≡ g n = h n (λ s. p (sym s)) in
    let r : xor (par f n) (g k) ≡ xor (par g n) (f k) = par_at f g k n (omega arith) h in
    rw q (xor_assoc (g n) (par f n) (g k) ∙ ap (λ (x : Bool). xor (g n) x) r ∙ sym (xor_assoc (g n) (par g n) (f k))))
    (both (same k n))

pub par_some : (f : ℕ → Bool) (n : ℕ) → par f n ≡ true → (k : ℕ) × (k < n) × (f k ≡ true)
unfolding par
par_some f zero h = absurd (clash h refl)
par_some f (suc n) h =
    ⊎_elim (λ e. (n, omega arith, e))
    (λ e. let r : (k : ℕ) × (k < n) × (f k ≡ true) = par_some f n (rw e at h) in (r.0, omega arith, r.2))
    (both (f n))

pub par_none : (n : ℕ) → par (λ j. false) n ≡ false
unfolding par
par_none zero = refl
par_none (suc n) = par_none n

pub par_one : (p : ℕ → Bool) (k n : ℕ) → k < n → par (λ j. same k j && p j) n ≡ p k
par_one p k n l =
    let r = par_at (λ j. same k j && p j) (λ j. false) k n l (λ j i. ap (λ (x : Bool). x && p j) (same_ne k j (λ e. i (sym e)))) in
    let r₁ : xor (par (λ j. same k j && p j) n) false ≡ xor false (p k) = rw (par_none n, same_refl k) at r in
    sym (xor_false (par (λ j. same k j && p j) n)) ∙ r₁

-- One member more or less.

pub flip_off : (k : ℕ) (g : ℕ → Bool) (j : ℕ) → j ≢ k → flip k g j ≡ g j
flip_off k g j h = rw (same_ne k j (λ e. h (sym e)))

pub flip_at : (k : ℕ) (g : ℕ → Bool) → flip k g k ≡ not (g k)
flip_at k g = rw same_refl

pub flip_keep : (k : ℕ) (g : ℕ → Bool) (j : ℕ) → g k ≡ false → g j ≡ true → flip k g j ≡ true
flip_keep k g j f e = flip_off k g j (λ q. clash e (rw q f)) ∙ e

-- One new member.
pub cnt_new : (g p : ℕ → Bool) (k n : ℕ) → k < n → g k ≡ false → cnt (λ j. flip k g j && p j) n ≡ val (p k) + cnt (λ j. g j && p j) n
cnt_new g p k n l h =
    let r = cnt_at (λ j. flip k g j && p j) (λ j. g j && p j) k n l (λ j i. ap (λ (x : Bool). x && p j) (flip_off k g j i)) in
    let a : (g k && p k) ≡ false = rw h in
    let b : (flip k g k && p k) ≡ p k = rw (same_refl k, h) in
    let r₁ : cnt (λ j. flip k g j && p j) n + 0 ≡ cnt (λ j. g j && p j) n + val (p k) = rw (ap val a, ap val b) at r in
    omega arith

pub cnt_flip_le : (g : ℕ → Bool) (k n : ℕ) → k < n → cnt (flip k g) n ≤ suc (cnt g n)
cnt_flip_le g k n l =
    let r = cnt_at (flip k g) g k n l (flip_off k g) in
    omega (arith, val_mono (flip k g k) true (λ e. refl))

pub cnt_flip_new : (g : ℕ → Bool) (k n : ℕ) → k < n → g k ≡ false → cnt (flip k g) n ≡ suc (cnt g n)
cnt_flip_new g k n l h =
    let r = cnt_at (flip k g) g k n l (flip_off k g) in
    let r₁ : cnt (flip k g) n + 0 ≡ cnt g n + 1 = rw (same_refl k, h) at r in
    omega arith

-- One more in a union.
pub cnt_or_new : (g : ℕ → Bool) (k n : ℕ) → k < n → g k ≡ false → cnt (λ j. same k j || g j) n ≡ suc (cnt g n)
cnt_or_new g k n l h =
    let r = cnt_at (λ j. same k j || g j) g k n l (λ j i. ap (λ (x : Bool). x || g j) (same_ne k j (λ e. i (sym e)))) in
    let r₁ : cnt (λ j. same k j || g j) n + 0 ≡ cnt g n + 1 = rw (same_refl k, h) at r in
    omega arith
