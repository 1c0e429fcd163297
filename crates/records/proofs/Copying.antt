-- The bytes of the records in an array, one record after the other.
use mathlib.Core.Path.{◌≡◌, refl, sym, ap, ap₂, ◌∙◌}
use mathlib.Core.Bool.{Bool, true, false, cond}
use mathlib.Core.List.{List, [], ◌∷◌, ◌++◌, append_assoc}
use Prim.Native.Nat.{ℕ, suc, ◌+◌, ◌-◌, ◌*◌, ◌/◌, ◌<◌, ◌≤◌}
use native.Mathlib.Omega.{arith}
use lib.Dec.{ltb}
use lib.ListN.{length, get_or, set, replicate, take, length-append}
use lib.Seq.{take-suc, take-length, set_at, take_at, length-take-le}
use borrow.Author.Tests.{ltb-false}
use Rattle.answers.specs.Answered.{Told, Answered}
use Rattle.records.specs.Records.{flattened, laid, lent_bytes}
use Rattle.records.specs.declared.Bond.{Bond}
use Rattle.records.proofs.Handing.{handed, handed_where, length_flattened, answered_flattened}

abbrev pub no_bond : Bond
no_bond = record { a = 0; b = 0 }

-- The bytes with those of record k at their place.
abbrev pub put_at : List ℕ → ℕ → Bond → List ℕ
put_at bytes k bond = set (set bytes (2 * k) bond.a) (2 * k + 1) bond.b

pub laid_none : (bonds : List Bond) → laid bonds 0 ≡ replicate 192 0
unfolding flattened
laid_none bonds = refl

flattened_append : (xs ys : List Bond) → flattened (xs ++ ys) ≡ flattened xs ++ flattened ys
unfolding flattened
flattened_append [] ys = refl
flattened_append (x ∷ xs) ys = simp (flattened_append xs ys)

flattened_one : (bond : Bond) → flattened (bond ∷ []) ≡ bond.a ∷ bond.b ∷ []
unfolding flattened
flattened_one bond = refl

-- A record's bytes go where the zeros begin.
put_seam : (xs zs : List ℕ) (k : ℕ) (bond : Bond) → length xs ≡ 2 * k → put_at (xs ++ 0 ∷ 0 ∷ zs) k bond ≡ (xs ++ bond.a ∷ bond.b ∷ []) ++ zs
put_seam xs zs k bond e =
    ap (λ (l : List ℕ). set l (2 * k + 1) bond.b) (set_at xs 0 (0 ∷ zs) bond.a (2 * k) e ∙ sym (append_assoc xs (bond.a ∷ []) (0 ∷ zs)))
    ∙ set_at (xs ++ bond.a ∷ []) 0 zs bond.b (2 * k + 1) (length-append xs (bond.a ∷ []) ∙ ap (λ (j : ℕ). j + 1) e)
    ∙ append_assoc xs (bond.a ∷ []) (bond.b ∷ zs)
    ∙ sym (append_assoc xs (bond.a ∷ bond.b ∷ []) zs)

module _ (bonds : List Bond) (k : ℕ) (within : k < length bonds) (small : k < 96) where
  one_more : flattened (take (suc k) bonds) ≡ flattened (take k bonds) ++ (get_or bonds k no_bond).a ∷ (get_or bonds k no_bond).b ∷ []
  one_more =
      ap flattened (take-suc bonds k no_bond within) ∙ flattened_append (take k bonds) (get_or bonds k no_bond ∷ [])
      ∙ ap (λ (l : List ℕ). flattened (take k bonds) ++ l) (flattened_one (get_or bonds k no_bond))

  two_less : 192 - 2 * k ≡ suc (suc (192 - 2 * suc k))
  two_less = omega (arith, small)

  pub put_laid : put_at (laid bonds k) k (get_or bonds k no_bond) ≡ laid bonds (suc k)
  put_laid =
      ap (λ (j : ℕ). put_at (flattened (take k bonds) ++ replicate j 0) k (get_or bonds k no_bond)) two_less
      ∙ put_seam (flattened (take k bonds)) (replicate (192 - 2 * suc k) 0) k (get_or bonds k no_bond)
      (length_flattened (take k bonds) ∙ ap (λ (j : ℕ). 2 * j) (length-take-le k bonds (omega (arith, within))))
      ∙ ap (λ (l : List ℕ). l ++ replicate (192 - 2 * suc k) 0) (sym one_more)

-- How many records are copied: all, or none where there are more than 96.
ends_where : (count : ℕ) (many : Bool) → ltb 96 count ≡ many → (cond many 1 (2 * count) / 2 ≤ count) × (cond many 1 (2 * count) / 2 ≤ 96)
ends_where count true e = (omega arith, omega arith)
ends_where count false e = (omega arith, omega (arith, ltb-false 96 count e))

pub ends : (count : ℕ) → (lent_bytes count / 2 ≤ count) × (lent_bytes count / 2 ≤ 96)
ends count = ends_where count (ltb 96 count) refl

handed_where_lem : (bonds : List Bond) (many : Bool) → ltb 96 (length bonds) ≡ many → take (cond many 1 (2 * length bonds)) (laid bonds (cond many 1 (2 * length bonds) / 2)) ≡ handed_where many bonds
unfolding handed_where
handed_where_lem bonds true e = ap (take 1) (laid_none bonds)
handed_where_lem bonds false e =
    ap (λ (j : ℕ). take (2 * length bonds) (laid bonds j)) all ∙ take_at (flattened (take (length bonds) bonds)) _ (2 * length bonds) long
    ∙ ap flattened (take-length bonds)
  where
    all : 2 * length bonds / 2 ≡ length bonds
    all = omega arith

    long : length (flattened (take (length bonds) bonds)) ≡ 2 * length bonds
    long = ap (λ (l : List Bond). length (flattened l)) (take-length bonds) ∙ length_flattened bonds

-- What is lent of the bytes in the end is what the byte form is to be handed.
handed_copied : (bonds : List Bond) → take (lent_bytes (length bonds)) (laid bonds (lent_bytes (length bonds) / 2)) ≡ handed bonds
handed_copied bonds = handed_where_lem bonds (ltb 96 (length bonds)) refl

-- What is answered of the bytes lent is answered of the records' bytes.
pub answered_copied : {n : ℕ} (bonds : List Bond) {all rows class_rows rows' class_rows' : List ℕ} {count i : ℕ} {t : Told}
    → count ≡ lent_bytes (length bonds) → all ≡ laid bonds (lent_bytes (length bonds) / 2)
    → Answered n (take count all) rows class_rows i t rows' class_rows' → Answered n (flattened bonds) rows class_rows i t rows' class_rows'
answered_copied bonds many copied = answered_flattened bonds (ap₂ (λ (k : ℕ) (l : List ℕ). take k l) many copied ∙ handed_copied bonds)
