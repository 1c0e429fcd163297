-- Sets in a flat array: a row that is stored, and the others; and an array of sets as a flat one.
use mathlib.Core.Path.{◌≡◌, refl, sym, ap, ap₂, ◌∙◌}
use mathlib.Core.List.{List, [], ◌∷◌}
use Prim.Native.Nat.{ℕ, zero, suc, ◌+◌, ◌*◌, ◌/◌, ◌%◌, ◌^◌, ◌≤◌, ◌<◌}
use native.Mathlib.Omega.{arith}
use lib.ListN.{length, get_or, set, replicate, length-set}
use lib.Seq.{get_or-set_same, get_or-set_other}
use lib.Pow.{split, high, low}
use Rattle.bondset.specs.declared.BondSet.{BondSet}
use Rattle.bondset.specs.Sets.{value}
use Rattle.bondset.specs.Rows.{row_at, put_row, flat}

module _ (rows : List ℕ) (i v : ℕ) where
  pub length_put_row : length (put_row rows i v) ≡ length rows
  unfolding put_row
  length_put_row = simp length-set

  -- a row is stored word by word
  pub put_words : (hi lo : ℕ) → lo < 2 ^ 64 → hi * 2 ^ 64 + lo ≡ v → set (set rows (2 * i) lo) (2 * i + 1) hi ≡ put_row rows i v
  unfolding put_row
  put_words hi lo h e =
      ap₂ (λ (x y : ℕ). set (set rows (2 * i) x) (2 * i + 1) y)
      (sym (low hi 64 h) ∙ ap (λ (x : ℕ). x % 2 ^ 64) e) (sym (high hi 64 h) ∙ ap (λ (x : ℕ). x / 2 ^ 64) e)

  pub row_same : 2 * (i + 1) ≤ length rows → row_at (put_row rows i v) i ≡ v
  unfolding row_at put_row
  row_same l =
      ap₂ (λ (x y : ℕ). x * 2 ^ 64 + y)
      (get_or-set_same (set rows (2 * i) (v % 2 ^ 64)) (2 * i + 1) (v / 2 ^ 64) 0 (rw length-set (omega arith)))
      (get_or-set_other (set rows (2 * i) (v % 2 ^ 64)) (2 * i + 1) (2 * i) (v / 2 ^ 64) 0 (omega arith)
      ∙ get_or-set_same rows (2 * i) (v % 2 ^ 64) 0 (omega arith))
      ∙ split v 64

  pub row_other : (j : ℕ) → j < i → row_at (put_row rows i v) j ≡ row_at rows j
  unfolding row_at put_row
  row_other j n =
      ap₂ (λ (x y : ℕ). x * 2 ^ 64 + y) (past (2 * j + 1) (omega arith)) (past (2 * j) (omega arith))
    where
      past : (k : ℕ) → k < 2 * i → get_or (set (set rows (2 * i) (v % 2 ^ 64)) (2 * i + 1) (v / 2 ^ 64)) k 0 ≡ get_or rows k 0
      past k h =
          get_or-set_other (set rows (2 * i) (v % 2 ^ 64)) (2 * i + 1) k (v / 2 ^ 64) 0 (omega arith)
          ∙ get_or-set_other rows (2 * i) k (v % 2 ^ 64) 0 (omega arith)

-- ---- an array of sets as a flat one

module _ (a b : ℕ) (xs : List ℕ) (i : ℕ) where
  -- the words after those of the first set
  low_next : get_or (a ∷ b ∷ xs) (2 * suc i) 0 ≡ get_or xs (2 * i) 0
  low_next = let e : 2 * suc i ≡ suc (suc (2 * i)) = omega arith in ap (λ (k : ℕ). get_or (a ∷ b ∷ xs) k 0) e

  high_next : get_or (a ∷ b ∷ xs) (2 * suc i + 1) 0 ≡ get_or xs (2 * i + 1) 0
  high_next = let e : 2 * suc i + 1 ≡ suc (suc (2 * i + 1)) = omega arith in ap (λ (k : ℕ). get_or (a ∷ b ∷ xs) k 0) e

  set_next : (x y : ℕ) → set (set (a ∷ b ∷ xs) (2 * suc i) x) (2 * suc i + 1) y ≡ a ∷ b ∷ set (set xs (2 * i) x) (2 * i + 1) y
  set_next x y =
      let e : 2 * suc i ≡ suc (suc (2 * i)) = omega arith in
      let f : 2 * suc i + 1 ≡ suc (suc (2 * i + 1)) = omega arith in
      ap₂ (λ (j k : ℕ). set (set (a ∷ b ∷ xs) j x) k y) e f

pub length_flat : (vs : List BondSet) → length (flat vs) ≡ 2 * length vs
unfolding flat
length_flat [] = refl
length_flat (v ∷ vs) = omega (arith, length_flat vs)

pub row_flat : (vs : List BondSet) (i : ℕ) → row_at (flat vs) i ≡ value (get_or vs i (record { lo = 0; hi = 0 }))
unfolding flat row_at
row_flat [] i = refl
row_flat (v ∷ vs) zero = refl
row_flat (v ∷ vs) (suc i) = ap₂ (λ (x y : ℕ). x * 2 ^ 64 + y) (high_next v.lo v.hi (flat vs) i) (low_next v.lo v.hi (flat vs) i) ∙ row_flat vs i

set_words : (vs : List BondSet) (i : ℕ) (v : BondSet) → flat (set vs i v) ≡ set (set (flat vs) (2 * i) v.lo) (2 * i + 1) v.hi
unfolding flat
set_words [] i v = refl
set_words (w ∷ vs) zero v = refl
set_words (w ∷ vs) (suc i) v = ap (λ (xs : List ℕ). w.lo ∷ w.hi ∷ xs) (set_words vs i v) ∙ sym (set_next w.lo w.hi (flat vs) i v.lo v.hi)

-- a set is stored as a row
pub put_flat : (vs : List BondSet) (i : ℕ) (v : BondSet) → v.lo < 2 ^ 64 → flat (set vs i v) ≡ put_row (flat vs) i (value v)
put_flat vs i v h = set_words vs i v ∙ put_words (flat vs) i (value v) v.hi v.lo h refl

-- sets of no bond are zeros
pub flat_empty : (v : BondSet) → value v ≡ 0 → (n : ℕ) → flat (replicate n v) ≡ replicate (2 * n) 0
unfolding flat
flat_empty v z zero = refl
flat_empty v z (suc n) =
    let low : v.lo ≡ 0 = omega (arith, z) in
    let high : v.hi ≡ 0 = omega (arith, z) in
    let two : 2 * suc n ≡ suc (suc (2 * n)) = omega arith in
    rw two (ap₂ (λ (a b : ℕ). a ∷ b ∷ flat (replicate n v)) low high ∙ ap (λ (xs : List ℕ). 0 ∷ 0 ∷ xs) (flat_empty v z n))
