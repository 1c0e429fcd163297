-- The byte form answers what it is handed for the records as it would answer their bytes.
use mathlib.Core.Path.{◌≡◌, refl}
use mathlib.Core.Bool.{Bool, true, false}
use mathlib.Core.List.{List, [], ◌∷◌}
use mathlib.Core.Logic.{inl, inr}
use Prim.Native.Nat.{ℕ, ◌*◌, ◌/◌, ◌<◌}
use native.Mathlib.Omega.{arith}
use lib.Dec.{ltb}
use lib.ListN.{length}
use borrow.Author.Tests.{ltb-true}
use Rattle.cycles.specs.Refusal.{WrongBytes, Refused}
use Rattle.cycles.specs.Refusal as table
use Rattle.answers.specs.Answered.{Told, Answered}
use Rattle.answers.specs.Answered as answer
use Rattle.records.specs.Records.{flattened}
use Rattle.records.specs.declared.Bond.{Bond}

-- What the byte form is handed for the records: their bytes, and one byte for more than 96 records.
unfoldable pub handed_where : Bool → List Bond → List ℕ
handed_where true bonds = 0 ∷ []
handed_where false bonds = flattened bonds

abbrev pub handed : List Bond → List ℕ
handed bonds = handed_where (ltb 96 (length bonds)) bonds

pub length_flattened : (bonds : List Bond) → length (flattened bonds) ≡ 2 * length bonds
unfolding flattened
length_flattened [] = refl
length_flattened (bond ∷ bonds) = omega (arith, length_flattened bonds)

-- Two lists of bytes of the wrong number are refused alike: 1 comes before 2, and no later refusal is given.
module _ (n : ℕ) (bytes bytes' : List ℕ) (wrong : WrongBytes (record { n = n; bytes = bytes })) (wrong' : WrongBytes (record { n = n; bytes = bytes' })) where
  refused_alike : {number place : ℕ} → Refused (record { n = n; bytes = bytes }) number place → Refused (record { n = n; bytes = bytes' }) number place
  refused_alike (table.atoms w) = table.atoms w
  refused_alike (table.bytes fine w) = table.bytes fine wrong'
  refused_alike (table.no_atom fits _ _ _) = absurd (fits.bytes wrong)
  refused_alike (table.loop fits _ _ _ _) = absurd (fits.bytes wrong)
  refused_alike (table.again fits _ _ _ _ _) = absurd (fits.bytes wrong)
  refused_alike (table.pieces fits _ _) = absurd (fits.bytes wrong)

  answered_alike : {rows class_rows rows' class_rows' : List ℕ} {i : ℕ} {t : Told} → Answered n bytes rows class_rows i t rows' class_rows' → Answered n bytes' rows class_rows i t rows' class_rows'
  answered_alike (answer.by_input r) = answer.by_input (refused_alike r)
  answered_alike (answer.by_rows accepted _ _) = absurd (accepted.fits.bytes wrong)
  answered_alike (answer.by_class_rows accepted _ _ _) = absurd (accepted.fits.bytes wrong)
  answered_alike (answer.by_rings accepted _ _ _ _) = absurd (accepted.fits.bytes wrong)
  answered_alike (answer.in_full accepted _ _ _ _) = absurd (accepted.fits.bytes wrong)

answered_where : (n : ℕ) (bonds : List Bond) (many : Bool) → ltb 96 (length bonds) ≡ many → {rows class_rows rows' class_rows' : List ℕ} {i : ℕ} {t : Told}
    → Answered n (handed_where many bonds) rows class_rows i t rows' class_rows' → Answered n (flattened bonds) rows class_rows i t rows' class_rows'
unfolding handed_where
answered_where n bonds true e a = answered_alike n (0 ∷ []) (flattened bonds) (inl refl) (inr more) a
  where
    more : 96 < length (flattened bonds) / 2
    more = omega (arith, ltb-true 96 (length bonds) e, length_flattened bonds)
answered_where n bonds false e a = a

-- What the byte form answers of what it is handed, it answers of the records' bytes.
pub answered_flattened : {n : ℕ} (bonds : List Bond) {bytes rows class_rows rows' class_rows' : List ℕ} {i : ℕ} {t : Told} → bytes ≡ handed bonds
    → Answered n bytes rows class_rows i t rows' class_rows' → Answered n (flattened bonds) rows class_rows i t rows' class_rows'
answered_flattened {n} bonds e a = answered_where n bonds (ltb 96 (length bonds)) refl (rw e at a)
