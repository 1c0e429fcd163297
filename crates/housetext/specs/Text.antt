-- House text: the text of a compound, and what any text says or which of its lines departs first.
use Rattle.std.specs.Prelude.{◌≡◌, Bool, true, false, cond, List, [], ◌∷◌, ◌++◌, ℕ, zero, suc, ◌+◌, ◌/◌, ◌≤◌, eqb, length, get_or, drop}
use Rattle.std.specs.Prelude.{Option, Some, None, Result, Ok, Err}
use Rattle.housetext.specs.Decimal.{decimal}
use Rattle.housetext.specs.declared.Text.{Text}
use Rattle.housetext.specs.declared.Departure.{Departure}
use Rattle.housetext.specs.declared.Found.{Found}
use Rattle.housetext.specs.declared.BondLine.{BondLine}

-- the byte that ends a line
abbrev pub newline : ℕ
newline = 10

-- `-`
abbrev pub dash : ℕ
dash = 45

-- `atoms=`
abbrev pub atoms_word : List ℕ
atoms_word = 97 ∷ 116 ∷ 111 ∷ 109 ∷ 115 ∷ 61 ∷ []

-- `bonds=`
abbrev pub bonds_word : List ℕ
bonds_word = 98 ∷ 111 ∷ 110 ∷ 100 ∷ 115 ∷ 61 ∷ []

-- `bond=`
abbrev pub bond_word : List ℕ
bond_word = 98 ∷ 111 ∷ 110 ∷ 100 ∷ 61 ∷ []

-- a word, a number in decimal, and the byte that ends it
unfoldable pub field : List ℕ → ℕ → ℕ → List ℕ
field word end n = word ++ (decimal n ++ end ∷ [])

-- the line `bond=A-B`
unfoldable pub bond_line : ℕ → ℕ → List ℕ
bond_line a b = field bond_word dash a ++ field [] newline b

-- a line for each bond, two atom numbers a bond
unfoldable pub bond_lines : List ℕ → List ℕ
bond_lines [] = []
bond_lines (a ∷ []) = []
bond_lines (a ∷ b ∷ bytes) = bond_line a b ++ bond_lines bytes

-- the text of n atoms and the bonds whose bytes are given
unfoldable pub text_of : ℕ → List ℕ → List ℕ
text_of n bytes = field atoms_word newline n ++ (field bonds_word newline (length bytes / 2) ++ bond_lines bytes)

-- whether a text starts so
unfoldable pub starts : List ℕ → List ℕ → Bool
starts [] text = true
starts (x ∷ xs) [] = false
starts (x ∷ xs) (y ∷ ys) = cond (eqb x y) (starts xs ys) false

-- a number, and how many bytes it takes
abbrev pub found : ℕ → ℕ → Option Found
found n k = Some (record { value = n; next = k })

-- the number below k whose field the text starts with, and the field's length
unfoldable pub field_below : ℕ → List ℕ → ℕ → List ℕ → Option Found
field_below zero word end text = None
field_below (suc n) word end text = cond (starts (field word end n) text) (found n (length (field word end n))) (field_below n word end text)

-- the number from 0 to 255 whose field the text starts with
unfoldable pub field_at : List ℕ → ℕ → List ℕ → Option Found
field_at word end text = field_below 256 word end text

-- what follows if there is a number, and if there is none
abbrev pub on_found : {A : Type 0} → Option Found → A → (ℕ → ℕ → A) → A
on_found None none some = none
on_found (Some number) none some = some number.value number.next

-- the two atoms of a bond line, and how many bytes it takes
abbrev pub bond : ℕ → ℕ → ℕ → Option BondLine
bond a b k = Some (record { a = a; b = b; next = k })

-- the bond line that the text starts with
unfoldable pub bond_at : List ℕ → Option BondLine
bond_at text =
    on_found (field_at bond_word dash text) None
    (λ a i. on_found (field_at [] newline (drop i text)) None (λ b j. bond a b (i + j)))

-- what the scope document calls an answer: the numbers of atoms and bonds, or a refusal's number and its "at"
pub data Said : Type 0 where
  passes : (atoms bonds : ℕ) → Said
  refuses : (number at : ℕ) → Said

-- each answer of `read` in those words
abbrev pub said : Result Text Departure → Said
said (Ok text) = passes text.atoms text.bonds
said (Err departure) = refuses 10 departure.line

-- what is said, and the bond bytes read before
pub record Reading : Type 0 where
  pub says : Said
  pub bytes : List ℕ

-- after the last line: the text must be at its end
abbrev pub at_end : Said → ℕ → List ℕ → List ℕ → Reading
at_end s line done [] = record { says = s; bytes = done }
at_end s line done (x ∷ xs) = record { says = refuses 10 line; bytes = done }

-- what follows if there is a bond line, and if there is none
abbrev pub on_bond : {A : Type 0} → Option BondLine → A → (ℕ → ℕ → ℕ → A) → A
on_bond None none some = none
on_bond (Some line) none some = some line.a line.b line.next

-- so many bond lines and then the end, where s is to be said; the first is line number `line`, and the bytes `done` were read before
unfoldable pub bonds_from : Said → ℕ → ℕ → List ℕ → List ℕ → Reading
bonds_from s line zero text done = at_end s line done text
bonds_from s line (suc left) text done =
    on_bond (bond_at text)
    (record { says = refuses 10 line; bytes = done })
    (λ a b next. bonds_from s (line + 1) left (drop next text) (done ++ a ∷ b ∷ []))

-- line by line: each is read from the remainder of the text, and the first that departs gives refusal 10 at its number
unfoldable pub reads : List ℕ → Reading
reads text =
    on_found (field_at atoms_word newline text)
    (record { says = refuses 10 1; bytes = [] })
    (λ n i.
    on_found (field_at bonds_word newline (drop i text))
    (record { says = refuses 10 2; bytes = [] })
    (λ m j. bonds_from (passes n m) 3 m (drop j (drop i text)) []))

-- what an answer and a buffer must be after a reading: the bytes read stand at the buffer's start, and the rest is as lent
pub record Answers (reading : Reading) (answer : Result Text Departure) (lent left : List ℕ) : Type 0 where
  pub says : said answer ≡ reading.says
  pub holds : left ≡ reading.bytes ++ drop (length reading.bytes) lent

-- every element is a byte
abbrev pub Bytes : List ℕ → Type 0
Bytes xs = (i : ℕ) → get_or xs i 0 ≤ 255
