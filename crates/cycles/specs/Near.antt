-- The finer classes of rings: rule 2.
use Rattle.std.specs.Prelude.{◌≡◌, cond, List, [], ◌∷◌, ◌++◌, map, ℕ, suc, ◌+◌, ◌<◌, eqb, length}
use Rattle.std.specs.Int.Bits.{bit_xor}
use Rattle.spans.specs.Elements.{◌∈◌}
use Rattle.spans.specs.Basis.{All, Sum}
use Rattle.bondset.proofs.Group.{bond_sets}
use Rattle.cycles.specs.Compound.{Compound}
use Rattle.cycles.specs.Ring.{len, Ring}
use Rattle.cycles.specs.Family.{Family, Prototype}
use Rattle.cycles.specs.Rows.{Row, At, Report}

-- "Classes are numbered from 0 by their first family", whatever puts two together: `Numbered Rel before xs numbers after`, with the first of each
-- class seen before and after the xs.
pub data Numbered {X : Type 0} (Rel : X → X → Type 0) : List X → List X → List ℕ → List X → Type 0 where
  end : {firsts : List X} → Numbered Rel firsts [] [] firsts
  old : {before xs after : List X} {numbers : List ℕ} {x g : X} {k : ℕ} → At before k g → Rel x g → Numbered Rel before xs numbers after
      → Numbered Rel before (x ∷ xs) (k ∷ numbers) after
  new : {before xs after : List X} {numbers : List ℕ} {x : X} {k : ℕ} → ((g : X) → g ∈ before → Rel x g → ⊥) → k ≡ length before
      → Numbered Rel (before ++ (x ∷ [])) xs numbers after → Numbered Rel before (x ∷ xs) (k ∷ numbers) after

-- How many of the numbers are k.
unfoldable pub times_of : ℕ → List ℕ → ℕ
times_of k [] = 0
times_of k (j ∷ numbers) = cond (eqb j k) 1 0 + times_of k numbers

-- The sum of the sizes of the rows that have number k.
unfoldable pub sizes_of : ℕ → List ℕ → List Row → ℕ
sizes_of k [] rows = 0
sizes_of k (j ∷ numbers) [] = 0
sizes_of k (j ∷ numbers) (row ∷ rows) = cond (eqb j k) row.size 0 + sizes_of k numbers rows

-- What is said of a class of rule 2: it "counts its own rings and has no relative rank"; "under rule 2 the essential mark is that of the rule 1 class".
pub record NearClassRow : Type 0 where
  pub long : ℕ
  pub families : ℕ
  pub rings : ℕ
  pub essential : ℕ

-- The row of the class with number k, whose first row is given; under rule 1 "the essential mark is 1 exactly if" its class has one ring.
unfoldable pub near_class_row : List Row → List ℕ → ℕ → Row → NearClassRow
near_class_row rows numbers k first =
    record {
      long = first.family.long;
      families = times_of k numbers;
      rings = sizes_of k numbers rows;
      essential = cond (eqb (sizes_of first.class (map (λ row. row.class) rows) rows) 1) 1 0;
    }

-- The row of each class, from its number on: the list has the first row of each.
unfoldable pub near_class_rows : List Row → List ℕ → ℕ → List Row → List NearClassRow
near_class_rows rows numbers k [] = []
near_class_rows rows numbers k (first ∷ firsts) = near_class_row rows numbers k first ∷ near_class_rows rows numbers (suc k) firsts

module _ (c : Compound) where
  -- "two relevant rings of equal length are together if their sum is a sum of strictly shorter rings". That C and D are relevant rings is asked
  -- where the relation is used.
  pub record Near (C D : ℕ) : Type 0 where
    pub long : len c C ≡ len c D
    pub rings : List ℕ
    pub shorter : All (λ R. Ring c R × (len c R < len c C)) rings
    pub sum : Sum bond_sets rings ≡ bit_xor C D

  -- The prototypes of f and g are near: what puts families together under rule 2.
  pub record NearFamilies (rank : ℕ → ℕ) (f g : Family) : Type 0 where
    pub C : ℕ
    pub D : ℕ
    pub prototype_c : Prototype c rank f C
    pub prototype_d : Prototype c rank g D
    pub near : Near C D

  -- The class numbers and the class rows of rule 2 for a report: the right ones.
  pub record RightNear (rank : ℕ → ℕ) (R : Report) (numbers : List ℕ) (classes : List NearClassRow) : Type 0 where
    pub firsts : List Row
    pub classed : Numbered (λ u v. NearFamilies rank u.family v.family) [] R.rows numbers firsts
    pub classes_are : classes ≡ near_class_rows R.rows numbers 0 firsts
