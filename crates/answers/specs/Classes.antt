-- What a report, and what a left buffer, says of lengths and classes, without a name of an atom or a bond.
use Rattle.std.specs.Prelude.{Bool, cond, List, [], ◌∷◌, ℕ, zero, suc, ◌+◌, ◌<◌, eqb}
use Rattle.cycles.specs.Compound.{Compound}
use Rattle.cycles.specs.Rows.{Row, ClassRow, Report}
use Rattle.answers.specs.Bytes.{long_at, rank_at, Exactly, OfClass}

-- The sum of the sizes of the rows that pass a test.
unfoldable pub sizes_of : (Row → Bool) → List Row → ℕ
sizes_of test [] = 0
sizes_of test (row ∷ rows) = cond (test row) row.size 0 + sizes_of test rows

-- "the number of relevant rings of each length"
abbrev pub rings_of_length : List Row → ℕ → ℕ
rings_of_length rows k = sizes_of (λ row. eqb row.family.long k) rows

-- The number of rings in class i.
abbrev pub rings_of_class : List Row → ℕ → ℕ
rings_of_class rows i = sizes_of (λ row. eqb row.class i) rows

-- A class "as (length, relative rank, rings)".
pub record Class : Type 0 where
  pub long : ℕ
  pub rank : ℕ
  pub rings : ℕ

-- The class of a class row, which is number i.
abbrev pub class_of : List Row → ℕ → ClassRow → Class
class_of rows i t = record { long = t.long; rank = t.rank; rings = rings_of_class rows i }

-- "the list of rule 1 classes", from class i on.
unfoldable pub class_list : List Row → ℕ → List ClassRow → List Class
class_list rows i [] = []
class_list rows i (t ∷ ts) = class_of rows i t ∷ class_list rows (suc i) ts

-- The classes of a report.
abbrev pub classes_of : Report → List Class
classes_of R = class_list R.rows 0 R.class_rows

-- The classes that the class rows of a left buffer name, so many from class i on, with the number of rings in each.
unfoldable pub classes_left : List ℕ → (ℕ → ℕ) → ℕ → ℕ → List Class
classes_left left rings i zero = []
classes_left left rings i (suc k) = record { long = long_at left i; rank = rank_at left i; rings = rings i } ∷ classes_left left rings (suc i) k

-- The numbers of rings in the classes: so many members of the families of rows of each class.
abbrev pub RingsIn : Compound → List ℕ → (families classes : ℕ) → (ℕ → ℕ) → Type 0
RingsIn c left families classes rings = (g : ℕ) → g < classes → Exactly (rings g) (OfClass c left families g)
