-- Bonds that join different pairs of names are no more than there are pairs: so at most 96 bonds leave a cyclomatic number of at most 82.
use mathlib.Core.Path.{◌≡◌, refl, sym, ap, ◌∙◌}
use mathlib.Core.Logic.{◌⊎◌, inl, inr, ⊎_elim, ◌≢◌}
use Prim.Native.Nat.{ℕ, zero, suc, ◌+◌, ◌-◌, ◌*◌, ◌^◌, ◌<◌, ◌≤◌, min, max}
use native.Mathlib.Omega.{arith}
use lib.Pow.{pow-lt}
use Rattle.spans.proofs.Steinitz.{steinitz}
use Rattle.bondset.proofs.Laws.{lt_or_ge}
use Rattle.bondset.proofs.Group.{bond_sets}
use Rattle.cycles.specs.Compound.{Compound, m, one, other, Joins, Sound, cyclomatic}
use Rattle.cycles.proofs.Dimension.{length_singles_of, singles_of_all, singles_of_indep, span_singles, one_lt, other_lt, ends_differ}

-- Of different numbers below N there are at most N.
pub pigeonhole : (g : ℕ → ℕ) (N k : ℕ) → ((i : ℕ) → i < k → g i < N) → ((i j : ℕ) → i < k → j < i → g j ≢ g i) → k ≤ N
pigeonhole g N k below once =
    let h = steinitz bond_sets (singles_of_indep g k once) (singles_of_all g k (λ i l. span_singles N (2 ^ g i) (pow-lt (below i l)))) in
    omega (arith, h, length_singles_of g k, length_singles_of (λ i. i) N)

-- The number of pairs of different numbers below n.
unfoldable pub pairs : ℕ → ℕ
pairs zero = 0
pairs (suc n) = n + pairs n

-- Twice the pairs of n + 1 numbers.
pub pairs_suc : (n : ℕ) → 2 * pairs (suc n) ≡ suc n * n
unfolding pairs
pairs_suc zero = refl
pairs_suc (suc n) = omega (arith, pairs_suc n)

pairs_double : (n : ℕ) → 2 * pairs n ≡ n * (n - 1)
unfolding pairs
pairs_double zero = refl
pairs_double (suc n) = let e : n ≡ suc n - 1 = omega arith in pairs_suc n ∙ ap (λ (x : ℕ). suc n * x) e

pairs_mono : (i n : ℕ) → i ≤ n → pairs i ≤ pairs n
unfolding pairs
pairs_mono i zero h = let e : i ≡ 0 = omega arith in rw e (omega arith)
pairs_mono i (suc n) h =
    ⊎_elim
    (λ (l : i < suc n). omega (arith, pairs_mono i n (omega arith)))
    (λ (l : suc n ≤ i). let e : i ≡ suc n = omega arith in rw e (omega arith))
    (lt_or_ge i (suc n))

-- Two functions name two different numbers below N for each k < M, and no two k the same two, either way round.
pub record Pairing (f g : ℕ → ℕ) (M N : ℕ) : Type 0 where
  pub first_lt : (k : ℕ) → k < M → f k < N
  pub second_lt : (k : ℕ) → k < M → g k < N
  pub differ : (k : ℕ) → k < M → f k ≢ g k
  pub straight : (i j : ℕ) → i < M → j < M → f i ≡ f j → g i ≡ g j → i ≡ j
  pub crossed : (i j : ℕ) → i < M → j < M → f i ≡ g j → g i ≡ f j → i ≡ j

module _ {f g : ℕ → ℕ} {M N : ℕ} (p : Pairing f g M N) where
  -- The lower and the higher of the two.
  low : ℕ → ℕ
  low k = min (f k) (g k)

  high : ℕ → ℕ
  high k = max (f k) (g k)

  low_high : (k : ℕ) → k < M → low k < high k
  unfolding low high
  low_high k h = omega (arith, p.differ k h)

  high_lt : (k : ℕ) → k < M → high k < N
  unfolding high
  high_lt k h = omega (arith, p.first_lt k h, p.second_lt k h)

  -- Pairs by their higher member, then by the lower.
  code : ℕ → ℕ
  code k = pairs (high k) + low k

  code_lt : (k : ℕ) → k < M → code k < pairs (suc (high k))
  unfolding code pairs
  code_lt k h = omega (arith, low_high k h)

  code_far : (i j : ℕ) → i < M → high i < high j → code i ≢ code j
  unfolding code
  code_far i j h l e = omega (arith, code_lt i h, pairs_mono (suc (high i)) (high j) l)

  same_two : (i j : ℕ) → low i ≡ low j → high i ≡ high j → ((f i ≡ f j) × (g i ≡ g j)) ⊎ ((f i ≡ g j) × (g i ≡ f j))
  unfolding low high
  same_two i j e q =
      ⊎_elim
      (λ (l : f i < g i).
      ⊎_elim (λ (u : f j < g j). inl (omega arith, omega arith)) (λ (u : g j ≤ f j). inr (omega arith, omega arith)) (lt_or_ge (f j) (g j)))
      (λ (l : g i ≤ f i).
      ⊎_elim (λ (u : f j < g j). inr (omega arith, omega arith)) (λ (u : g j ≤ f j). inl (omega arith, omega arith)) (lt_or_ge (f j) (g j)))
      (lt_or_ge (f i) (g i))

  same_pair_lem : (i j : ℕ) → i < M → j < i → code j ≡ code i → high j ≢ high i
  unfolding code
  same_pair_lem i j h l e q =
      let lows : low j ≡ low i = omega (arith, ap pairs q) in
      ⊎_elim
      (λ t. let d = p.straight j i (omega arith) h t.0 t.1 in omega arith)
      (λ t. let d = p.crossed j i (omega arith) h t.0 t.1 in omega arith)
      (same_two j i lows q)

  code_once : (i j : ℕ) → i < M → j < i → code j ≢ code i
  code_once i j h l e =
      ⊎_elim
      (λ (u : high j < high i). absurd (code_far j i (omega arith) u e))
      (λ (u : high i ≤ high j).
      ⊎_elim
      (λ (w : high i < high j). absurd (code_far i j h w (sym e)))
      (λ (w : high j ≤ high i). same_pair_lem i j h l e (omega arith))
      (lt_or_ge (high i) (high j)))
      (lt_or_ge (high j) (high i))

  -- So many different pairs of numbers below N are no more than there are.
  pub pairing_bound : M ≤ pairs N
  pairing_bound = pigeonhole code (pairs N) M (λ k h. omega (arith, code_lt k h, pairs_mono (suc (high k)) N (high_lt k h))) code_once

-- At most 14 names have at most 91 pairs; from 15 names on, 96 bonds are too few.
pub few_names : (M N : ℕ) → M ≤ pairs N → M ≤ 96 → M + 1 ≤ 82 + N
unfolding pairs
few_names M N b h =
    ⊎_elim
    (λ (l : N < 14). omega (arith, pairs_mono N 13 (omega arith)))
    (λ (l : 14 ≤ N).
    ⊎_elim
    (λ (u : N < 15). omega (arith, pairs_mono N 14 (omega arith)))
    (λ (u : 15 ≤ N). omega arith)
    (lt_or_ge N 15))
    (lt_or_ge N 14)

module _ (c : Compound) (sound : Sound c) where
  -- The bonds name different pairs of atoms.
  bonds_pairing : Pairing (one c) (other c) (m c) c.n
  bonds_pairing =
      record {
        first_lt = one_lt c sound;
        second_lt = other_lt c sound;
        differ = ends_differ c sound;
        straight = λ i j h l e f. sound.once i j (one c j) (other c j) (Joins.given h e f) (Joins.given l refl refl);
        crossed = λ i j h l e f. sound.once i j (other c j) (one c j) (Joins.given h e f) (Joins.turned l refl refl);
      }

  -- Each bond joins two of the atoms, and no two bonds join the same two.
  pub pairs_bound : 2 * m c ≤ c.n * (c.n - 1)
  pairs_bound = omega (arith, pairing_bound bonds_pairing, pairs_double c.n)

  -- At most 96 bonds leave a cyclomatic number of at most 82.
  pub cyclomatic_few : m c ≤ 96 → cyclomatic c ≤ 82
  cyclomatic_few h = omega (arith, few_names (m c) c.n (pairing_bound bonds_pairing) h)
