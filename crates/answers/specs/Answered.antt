-- The claim of a call: input, lent buffers, answer, and what the buffers hold afterwards.
use Rattle.std.specs.Prelude.{List, [], ◌∷◌, ◌++◌, ℕ, zero, suc, ◌/◌, ◌%◌, ◌<◌, ◌≤◌, min, length, drop}
use Rattle.cycles.specs.Compound.{Compound}
use Rattle.cycles.specs.Rows.{Row, ClassRow, Report, Right, most}
use Rattle.cycles.specs.Refusal.{Refused, Accepted}

-- The full answer's five numbers and the size asked for, or a refusal's number and "at".
pub data Told : Type 0 where
  full : (cyclomatic families classes total rings size : ℕ) → Told
  refused : (number at : ℕ) → Told

-- "Family row, 8 bytes: length, r, p, q, x (255 if odd), basis mark 0 or 1, class, and a byte 0."
unfoldable pub family_bytes : List Row → List ℕ
family_bytes [] = []
family_bytes (row ∷ rows) =
    row.family.long ∷ row.family.r ∷ row.family.p ∷ row.family.q ∷ row.family.x ∷ row.mark ∷ row.class ∷ 0 ∷ family_bytes rows

-- "Class row, 5 bytes: length, relative rank, number of families low byte, high byte, essential mark 0 or 1."
unfoldable pub class_bytes : List ClassRow → List ℕ
class_bytes [] = []
class_bytes (row ∷ rows) = row.long ∷ row.rank ∷ row.families % 256 ∷ row.families / 256 ∷ row.essential ∷ class_bytes rows

-- "Rows start at byte 0 of their buffer with no gaps; bytes after the last stay as they were."
unfoldable pub over : List ℕ → List ℕ → List ℕ
over bytes lent = bytes ++ drop (length bytes) lent

-- "A second call takes a row number besides, and adds that family's size, 0 past the last row."
unfoldable pub size_of : List Row → ℕ → ℕ
size_of [] i = 0
size_of (row ∷ rows) zero = row.size
size_of (row ∷ rows) (suc i) = size_of rows i

-- "the lent rows (bytes / 8 rounded down, and at most 4,096)"
abbrev pub family_room : List ℕ → ℕ
family_room lent = min (length lent / 8) 4096

-- "the lent rows (bytes / 5 rounded down)"
abbrev pub class_room : List ℕ → ℕ
class_room lent = length lent / 5

-- `Answered n bonds rows class_rows i told left-rows left-classRows`: with the row number i (any, for the first call).
module _ (n : ℕ) (bonds rows class_rows : List ℕ) (i : ℕ) where
  -- The input.
  abbrev pub compound : Compound
  compound = record { n = n; bytes = bonds }

  -- "An atom precedes another if its number is lower."
  abbrev pub RightReport : Report → Type 0
  RightReport R = Right compound (λ a. a) R

  -- "Each is given in exactly the stated case when no earlier one holds. A refused call answers its number and "at" only,
  -- and both buffers stay as lent."
  pub data Answered : Told → List ℕ → List ℕ → Type 0 where
    by_input : {number place : ℕ} → Refused compound number place → Answered (refused number place) rows class_rows
    by_rows : {R : Report} → Accepted compound → RightReport R → family_room rows < R.families
        → Answered (refused 7 R.families) rows class_rows
    by_class_rows : {R : Report} → Accepted compound → RightReport R → R.families ≤ family_room rows → class_room class_rows < R.classes
        → Answered (refused 8 R.classes) rows class_rows
    by_rings : {R : Report} → Accepted compound → RightReport R → R.families ≤ family_room rows → R.classes ≤ class_room class_rows
        → most < R.rings → Answered (refused 9 0) rows class_rows
    in_full : {R : Report} → Accepted compound → RightReport R → R.families ≤ family_room rows → R.classes ≤ class_room class_rows
        → R.rings ≤ most
        → Answered (full R.cyclomatic R.families R.classes R.total R.rings (size_of R.rows i))
        (over (family_bytes R.rows) rows) (over (class_bytes R.class_rows) class_rows)

-- The claim of the first call, which is asked for no row: whatever the row number, it tells what the second call tells, with some size.
abbrev pub AnsweredFirst : (n : ℕ) → (bonds rows class_rows : List ℕ) → (ℕ → Told) → (left left' : List ℕ) → Type 0
AnsweredFirst n bonds rows class_rows tell left left' = (i : ℕ) → (size : ℕ) × Answered n bonds rows class_rows i (tell size) left left'
