-- What the listing program prints for a text.
use Rattle.std.specs.Prelude.{◌≡◌, List, ℕ, ◌<◌, get_or, replicate}
use Rattle.housetext.specs.Text.{passes, refuses, reads}
use Rattle.listingtext.specs.Listing.{Wrote, listing, refusal}
use Rattle.answers.specs.Answered.{Told, full, refused, Answered}
use Rattle.rings.specs.Calls.{Answer, told}

-- The lines of an answer: the listing, or the refusal.
unfoldable pub lines_of : (atoms bonds : ℕ) → (rows sizes class_rows : List ℕ) → Told → List ℕ
lines_of atoms bonds rows sizes class_rows (full cyclomatic families classes total rings size) =
    listing (record { atoms = atoms; bonds = bonds; cyclomatic = cyclomatic; families = families; classes = classes; total = total; rings = rings })
    rows sizes class_rows
lines_of atoms bonds rows sizes class_rows (refused number at) = refusal number at

-- The families that an answer tells: none in a refusal.
unfoldable pub families_in : Told → ℕ
families_in (full cyclomatic families classes total rings size) = families
families_in (refused number at) = 0

-- The classes that an answer tells: none in a refusal.
unfoldable pub classes_in : Told → ℕ
classes_in (full cyclomatic families classes total rings size) = classes
classes_in (refused number at) = 0

-- A text that departs gives refusal 10; any other gives the lines of the answer with 4,096 family rows and 82 class rows lent.
pub data Printed (text : List ℕ) : List ℕ → Type 0 where
  departs : {line : ℕ} → (reads text).says ≡ refuses 10 line → Printed text (refusal 10 line)
  answers : {atoms bonds : ℕ} (answer : Answer) (rows sizes class_rows : List ℕ) → (reads text).says ≡ passes atoms bonds
      → ((j : ℕ) → j < 4096
      → Answered atoms (reads text).bytes (replicate 32768 0) (replicate 410 0) j (told answer (get_or sizes j 0)) rows class_rows)
      → Printed text (lines_of atoms bonds rows sizes class_rows (told answer 0))

-- What is printed stands at the start of the buffer, up to `end`; all else is as it was.
pub record Listed (text lent left : List ℕ) (end : ℕ) : Type 0 where
  pub lines : List ℕ
  pub printed : Printed text lines
  pub wrote : Wrote lent 0 lines left end
