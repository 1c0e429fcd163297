-- The listing: its lines over the numbers, rows and sizes that an answer has.
use Rattle.std.specs.Prelude.{◌≡◌, cond, List, [], ◌∷◌, ◌++◌, ℕ, zero, suc, ◌+◌, ◌*◌, eqb, length, get_or, take, drop}
use Rattle.std.proofs.lemmas.List.Edits.{sets}
use Rattle.housetext.specs.Decimal.{decimal}
use Rattle.housetext.specs.Text.{newline, dash, atoms_word, bonds_word, field}
use Rattle.listingtext.specs.declared.Head.{Head}

-- `,`
abbrev pub comma : ℕ
comma = 44

-- `cyclomatic=`
abbrev pub cyclomatic_word : List ℕ
cyclomatic_word = 99 ∷ 121 ∷ 99 ∷ 108 ∷ 111 ∷ 109 ∷ 97 ∷ 116 ∷ 105 ∷ 99 ∷ 61 ∷ []

-- `families=`
abbrev pub families_word : List ℕ
families_word = 102 ∷ 97 ∷ 109 ∷ 105 ∷ 108 ∷ 105 ∷ 101 ∷ 115 ∷ 61 ∷ []

-- `classes=`
abbrev pub classes_word : List ℕ
classes_word = 99 ∷ 108 ∷ 97 ∷ 115 ∷ 115 ∷ 101 ∷ 115 ∷ 61 ∷ []

-- `total=`
abbrev pub total_word : List ℕ
total_word = 116 ∷ 111 ∷ 116 ∷ 97 ∷ 108 ∷ 61 ∷ []

-- `rings=`
abbrev pub rings_word : List ℕ
rings_word = 114 ∷ 105 ∷ 110 ∷ 103 ∷ 115 ∷ 61 ∷ []

-- `family=`
abbrev pub family_word : List ℕ
family_word = 102 ∷ 97 ∷ 109 ∷ 105 ∷ 108 ∷ 121 ∷ 61 ∷ []

-- `class=`
abbrev pub class_word : List ℕ
class_word = 99 ∷ 108 ∷ 97 ∷ 115 ∷ 115 ∷ 61 ∷ []

-- `refused=`
abbrev pub refused_word : List ℕ
refused_word = 114 ∷ 101 ∷ 102 ∷ 117 ∷ 115 ∷ 101 ∷ 100 ∷ 61 ∷ []

-- `at=`
abbrev pub at_word : List ℕ
at_word = 97 ∷ 116 ∷ 61 ∷ []

-- fields with a comma between each and the next
unfoldable pub joined : List (List ℕ) → List ℕ
joined [] = []
joined (x ∷ []) = x
joined (x ∷ y ∷ fields) = x ++ (comma ∷ joined (y ∷ fields))

-- numbers in decimal, each with a comma after it
unfoldable pub commas : List ℕ → List ℕ
commas [] = []
commas (x ∷ xs) = decimal x ++ (comma ∷ commas xs)

-- a family row's atom x: a dash if the family is odd
unfoldable pub cross : ℕ → List ℕ
cross x = cond (eqb x 255) (dash ∷ []) (decimal x)

-- byte i of a row, in decimal
abbrev pub shown : List ℕ → ℕ → List ℕ
shown row i = decimal (get_or row i 0)

-- length, r, p, q, x, basis mark, class, size
unfoldable pub family_line : List ℕ → ℕ → List ℕ
family_line row size =
    family_word
    ++ (joined (shown row 0 ∷ shown row 1 ∷ shown row 2 ∷ shown row 3 ∷ cross (get_or row 4 0) ∷ shown row 5 ∷ shown row 6 ∷ decimal size ∷ [])
    ++ newline ∷ [])

-- class, length, relative rank, families, essential mark
unfoldable pub class_line : ℕ → List ℕ → List ℕ
class_line class row =
    class_word
    ++ (joined (decimal class ∷ shown row 0 ∷ shown row 1 ∷ decimal (get_or row 2 0 + 256 * get_or row 3 0) ∷ shown row 4 ∷ [])
    ++ newline ∷ [])

-- row k of rows of so many bytes
abbrev pub row_of : ℕ → List ℕ → ℕ → List ℕ
row_of width rows k = take width (drop (width * k) rows)

-- the first lines, one for each number
unfoldable pub head_lines : Head → List ℕ
head_lines h =
    field atoms_word newline h.atoms
    ++ (field bonds_word newline h.bonds
    ++ (field cyclomatic_word newline h.cyclomatic
    ++ (field families_word newline h.families
    ++ (field classes_word newline h.classes ++ (field total_word newline h.total ++ field rings_word newline h.rings)))))

-- the lines of the first families
unfoldable pub family_lines : List ℕ → List ℕ → ℕ → List ℕ
family_lines rows sizes zero = []
family_lines rows sizes (suc k) = family_lines rows sizes k ++ family_line (row_of 8 rows k) (get_or sizes k 0)

-- the lines of the first classes
unfoldable pub class_lines : List ℕ → ℕ → List ℕ
class_lines rows zero = []
class_lines rows (suc k) = class_lines rows k ++ class_line k (row_of 5 rows k)

-- the listing whole
unfoldable pub listing : Head → List ℕ → List ℕ → List ℕ → List ℕ
listing h rows sizes class_rows = head_lines h ++ (family_lines rows sizes h.families ++ class_lines class_rows h.classes)

-- a refusal's two lines
unfoldable pub refusal : ℕ → ℕ → List ℕ
refusal number at = field refused_word newline number ++ field at_word newline at

-- the bytes are stored from place `at` on, where they end at `end`; all else is as it was
pub record Wrote (lent : List ℕ) (at : ℕ) (bytes left : List ℕ) (end : ℕ) : Type 0 where
  pub stored : left ≡ sets lent at bytes
  pub next : end ≡ at + length bytes
