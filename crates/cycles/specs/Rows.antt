-- The kept families in order, their marks, classes and sizes, the class rows, and the five numbers.
use Rattle.std.specs.Prelude.{◌≡◌, Bool, cond, ◌&&◌, List, [], ◌∷◌, ◌++◌, map, ◌↔◌, ℕ, suc, ◌+◌, ◌<◌, eqb, length}
use Rattle.spans.specs.Elements.{◌∈◌}
use Rattle.spans.specs.Basis.{All, Part, Sum}
use Rattle.spans.specs.Graded.{total}
use Rattle.bondset.proofs.Group.{bond_sets}
use Rattle.cycles.specs.Compound.{Compound, cyclomatic}
use Rattle.cycles.specs.Ring.{len}
use Rattle.cycles.specs.Basis.{Interchangeable}
use Rattle.cycles.specs.Family.{Family, Prototype, Kept, Size}

-- What is said of a family: its basis mark 0 or 1, its class, its size.
pub record Row : Type 0 where
  pub family : Family
  pub mark : ℕ
  pub class : ℕ
  pub size : ℕ

-- What is said of a class: "length, relative rank, number of families, essential mark 0 or 1".
pub record ClassRow : Type 0 where
  pub long : ℕ
  pub rank : ℕ
  pub families : ℕ
  pub essential : ℕ

-- "Kept families are ordered by length, then r, then x (odd counts as 255), then p, then q."
abbrev pub key : Family → List ℕ
key f = f.long ∷ f.r ∷ f.x ∷ f.p ∷ f.q ∷ []

-- Lists of numbers in dictionary order.
pub data Less : List ℕ → List ℕ → Type 0 where
  here : {a b : ℕ} {xs ys : List ℕ} → a < b → Less (a ∷ xs) (b ∷ ys)
  later : {a : ℕ} {xs ys : List ℕ} → Less xs ys → Less (a ∷ xs) (a ∷ ys)

-- Each family comes before the next.
pub data Ascending : List Family → Type 0 where
  none : Ascending []
  one : {f : Family} → Ascending (f ∷ [])
  more : {f g : Family} {fs : List Family} → Less (key f) (key g) → Ascending (g ∷ fs) → Ascending (f ∷ g ∷ fs)

-- Element i of the list is x.
pub data At {X : Type 0} : List X → ℕ → X → Type 0 where
  here : {x : X} {xs : List X} → At (x ∷ xs) 0 x
  later : {x y : X} {xs : List X} {i : ℕ} → At xs i x → At (y ∷ xs) (suc i) x

-- How many rows pass a test.
unfoldable pub how_many : (Row → Bool) → List Row → ℕ
how_many test [] = 0
how_many test (row ∷ rows) = cond (test row) 1 0 + how_many test rows

-- "The relative rank of a class is the number of marked prototypes in it. A class with exactly one family is marked
-- essential."
unfoldable pub class_row : List Row → ℕ → Family → ClassRow
class_row rows i f =
    let families = how_many (λ row. eqb row.class i) rows in
    record {
      long = f.long;
      rank = how_many (λ row. eqb row.class i && eqb row.mark 1) rows;
      families = families;
      essential = cond (eqb families 1) 1 0;
    }

-- The row of each class, from its number on: the list has the first family of each.
unfoldable pub class_rows : List Row → ℕ → List Family → List ClassRow
class_rows rows i [] = []
class_rows rows i (f ∷ fs) = class_row rows i f ∷ class_rows rows (suc i) fs

-- "The sum of the sizes."
unfoldable pub sizes : List Row → ℕ
sizes [] = 0
sizes (row ∷ rows) = row.size + sizes rows

module _ (c : Compound) (rank : ℕ → ℕ) where
  -- S is the sum of some of these.
  abbrev pub SumOf : List ℕ → ℕ → Type 0
  SumOf marked S = (part : List ℕ) × Part marked part × (Sum bond_sets part ≡ S)

  -- "In that order a prototype is marked for the basis if it is no sum of prototypes marked before it."
  -- `Marks before rows after`: the prototypes marked before and after the rows.
  pub data Marks : List ℕ → List Row → List ℕ → Type 0 where
    end : {marked : List ℕ} → Marks marked [] marked
    marked : {before after : List ℕ} {row : Row} {rows : List Row} {S : ℕ} → Prototype c rank row.family S → (SumOf before S → ⊥)
        → row.mark ≡ 1 → Marks (before ++ (S ∷ [])) rows after → Marks before (row ∷ rows) after
    unmarked : {before after : List ℕ} {row : Row} {rows : List Row} {S : ℕ} → Prototype c rank row.family S → SumOf before S
        → row.mark ≡ 0 → Marks before rows after → Marks before (row ∷ rows) after

  -- The prototypes of f and g are interchangeable, "of equal length".
  pub record Together (f g : Family) : Type 0 where
    pub C : ℕ
    pub D : ℕ
    pub prototype_c : Prototype c rank f C
    pub prototype_d : Prototype c rank g D
    pub long : f.long ≡ g.long
    pub interchangeable : Interchangeable c C D

  -- "a class is reported as a set of families. Classes are numbered from 0 by their first family."
  -- `Classes before rows after`: the first family of each class seen before and after the rows.
  pub data Classes : List Family → List Row → List Family → Type 0 where
    end : {firsts : List Family} → Classes firsts [] firsts
    old : {before after : List Family} {row : Row} {rows : List Row} {g : Family} → At before row.class g → Together row.family g
        → Classes before rows after → Classes before (row ∷ rows) after
    new : {before after : List Family} {row : Row} {rows : List Row} → ((g : Family) → g ∈ before → Together row.family g → ⊥)
        → row.class ≡ length before → Classes (before ++ (row.family ∷ [])) rows after → Classes before (row ∷ rows) after

-- "The call also answers: cyclomatic number, families, classes, total length of the basis, and rings (the sum of the sizes)."
pub record Report : Type 0 where
  pub cyclomatic : ℕ
  pub families : ℕ
  pub classes : ℕ
  pub total : ℕ
  pub rings : ℕ
  pub rows : List Row
  pub class_rows : List ClassRow

-- "rings would exceed 18,446,744,073,709,551,615"
abbrev pub most : ℕ
most = 18446744073709551615

-- The report is the right one for the compound: every part of it has its one meaning.
pub record Right (c : Compound) (rank : ℕ → ℕ) (R : Report) : Type 0 where
  pub ordered : Ascending (map (λ row. row.family) R.rows)
  pub kept : (f : Family) → (f ∈ map (λ row. row.family) R.rows) ↔ Kept c rank f
  pub sized : All (λ row. Size c rank row.family row.size) R.rows
  pub basis : List ℕ
  pub marks : Marks c rank [] R.rows basis
  pub firsts : List Family
  pub classed : Classes c rank [] R.rows firsts
  pub class_rows_are : R.class_rows ≡ class_rows R.rows 0 firsts
  pub cyclomatic_is : R.cyclomatic ≡ cyclomatic c
  pub families_are : R.families ≡ length R.rows
  pub classes_are : R.classes ≡ length firsts
  pub total_is : R.total ≡ total (len c) basis
  pub rings_are : R.rings ≡ sizes R.rows
