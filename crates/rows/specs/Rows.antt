-- Family rows and class rows as bytes, what numbering the classes does to them, and what naming them in the family rows does.
use Rattle.std.specs.Prelude.{◌≡◌, cond, List, [], ◌∷◌, ℕ, ◌+◌, ◌-◌, ◌*◌, ◌/◌, ◌%◌, ◌≤◌, eqb, ltb, length, get_or, set}
use Rattle.std.proofs.Math.Seq.{paste}
use Rattle.cycles.specs.Family.{Family}
use Rattle.model.specs.Fold.{through, count}
use Rattle.labels.specs.Labelled.{Labelled}

-- "Family row, 8 bytes: length, r, p, q, x (255 if odd), basis mark 0 or 1, class, and a byte 0."
unfoldable pub family_bytes : Family → ℕ → ℕ → List ℕ
family_bytes f mark class = f.long ∷ f.r ∷ f.p ∷ f.q ∷ f.x ∷ mark ∷ class ∷ 0 ∷ []

-- Row i, if there is room for it.
unfoldable pub put_family : List ℕ → ℕ → Family → ℕ → ℕ → List ℕ
put_family out i f mark class = cond (ltb i (length out / 8)) (paste out (8 * i) (family_bytes f mark class) 8) out

-- "Class row, 5 bytes: length, relative rank, number of families low byte, high byte, essential mark 0 or 1."
unfoldable pub class_bytes : ℕ → ℕ → ℕ → List ℕ
class_bytes k rank families = k ∷ rank % 256 ∷ families % 256 ∷ families / 256 % 256 ∷ cond (eqb (families % 65536) 1) 1 0 ∷ []

-- Class row c, if there is room for it.
abbrev pub put_class : List ℕ → ℕ → ℕ → ℕ → ℕ → List ℕ
put_class table c k rank families = cond (ltb c (length table / 5)) (paste table (5 * c) (class_bytes k rank families) 5) table

-- Class row c, new, of one marked ring and so many families.
unfoldable pub open_class : List ℕ → ℕ → ℕ → ℕ → List ℕ
open_class table c k held = put_class table c k 1 held

-- Class row c with one marked ring more, and its families.
unfoldable pub more_class : List ℕ → ℕ → ℕ → List ℕ
more_class table c held =
    put_class table c (get_or table (5 * c) 0) (get_or table (5 * c + 1) 0 + 1) (get_or table (5 * c + 2) 0 + 256 * get_or table (5 * c + 3) 0 + held)

pub record Numbers : Type 0 where
  pub labels : List ℕ
  pub classes : ℕ
  pub table : List ℕ

-- The labels, the number of classes and the class rows.
abbrev pub numbers_of : List ℕ → ℕ → List ℕ → Numbers
numbers_of labels classes table = record { labels = labels; classes = classes; table = table }

-- Marked ring i opens a new class if it is its own label, or joins the class of its label.
unfoldable pub numbered_in : ℕ → List ℕ → ℕ → Numbers → Numbers
numbered_in k holds i s =
    let l = get_or s.labels i 0 in
    let held = get_or holds i 0 % 65536 in
    let c = get_or s.labels l 0 in
    cond (eqb l i)
    (record { labels = set s.labels i s.classes; classes = s.classes + 1; table = open_class s.table s.classes k held })
    (record { labels = set s.labels i c; classes = s.classes; table = cond (ltb c s.classes) (more_class s.table c held) s.table })

-- The classes of the marked rings from, .., to - 1 are numbered.
pub record Numbered (k from to : ℕ) (holds labels : List ℕ) (classes : ℕ) (table labels' : List ℕ) (classes' : ℕ) (table' : List ℕ) : Type 0 where
  pub is : numbers_of labels' classes' table' ≡ through (numbered_in k holds) (count from (to - from)) (numbers_of labels classes table)
  pub few : classes' ≤ to
  pub labelled : Labelled labels'

-- Row i with its class in the place of the marked ring.
unfoldable pub patched : List ℕ → ℕ → List ℕ → List ℕ
patched labels i out = set out (8 * i + 6) (get_or labels (get_or out (8 * i + 6) 0) 0)
