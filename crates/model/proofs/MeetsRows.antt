-- Rows put behind rows of shorter lengths: their order, marks, classes, class rows and sizes.
use mathlib.Core.Path.{◌≡◌, refl, ap₂, ◌∙◌}
use mathlib.Core.Bool.{Bool, false, cond, ◌&&◌}
use mathlib.Core.List.{List, [], ◌∷◌, ◌++◌}
use Prim.Native.Nat.{ℕ, suc, ◌+◌, ◌<◌, ◌≤◌}
use native.Mathlib.Nat.{lt_of_lt_of_le}
use native.Mathlib.Omega.{arith}
use borrow.Author.Tests.{ne_eqb}
use lib.Dec.{eqb}
use lib.ListN.{length, length-append}
use Rattle.spans.specs.Basis.{All, Part}
use Rattle.spans.proofs.Lists.{all_map}
use Rattle.cycles.specs.Compound.{Compound}
use Rattle.cycles.specs.Family.{Family}
use Rattle.cycles.specs.Rows.{Row, Less, Ascending, Marks, Classes, how_many, class_row, class_rows, sizes}
use Rattle.cycles.proofs.Bases.{ascending_rest}
use Rattle.cycles.proofs.Ranks.{at_below}
use Rattle.cycles.proofs.Unique.{less_trans}
use Rattle.model.proofs.NumbersCount.{how_many_none}

-- ---- order

ascending_skip : {f g : Family} {fs : List Family} → Ascending (f ∷ g ∷ fs) → Ascending (f ∷ fs)
ascending_skip (Ascending.more l Ascending.one) = Ascending.one
ascending_skip (Ascending.more l (Ascending.more m a)) = Ascending.more (less_trans l m) a

ascending_behind : {f : Family} {fs gs : List Family} → Ascending (f ∷ fs) → Part fs gs → Ascending (f ∷ gs)
ascending_behind a Part.nil = a
ascending_behind (Ascending.more l a) (Part.keep p) = Ascending.more l (ascending_behind a p)
ascending_behind a (Part.skip p) = ascending_behind (ascending_skip a) p

-- A part of an ascending list is ascending.
pub ascending_part : {fs gs : List Family} → Ascending fs → Part fs gs → Ascending gs
ascending_part a Part.nil = a
ascending_part a (Part.keep p) = ascending_behind a p
ascending_part a (Part.skip p) = ascending_part (ascending_rest a) p

-- Families shorter than k, then families of length k or more.
pub ascending_append : {k : ℕ} {fs gs : List Family} → Ascending fs → Ascending gs → All (λ f. f.long < k) fs → All (λ g. k ≤ g.long) gs
    → Ascending (fs ++ gs)
ascending_append Ascending.none b l m = b
ascending_append Ascending.one b l All.nil = Ascending.one
ascending_append Ascending.one b (All.cons l ls) (All.cons m ms) = Ascending.more (Less.here (lt_of_lt_of_le l m)) b
ascending_append (Ascending.more h a) b (All.cons l ls) ms = Ascending.more h (ascending_append a b ls ms)

-- ---- marks and classes

module _ (c : Compound) (rank : ℕ → ℕ) where
  -- Marks of rows, and from there on of more rows.
  pub marks_append : {before mid after : List ℕ} {rows more : List Row} → Marks c rank before rows mid → Marks c rank mid more after
      → Marks c rank before (rows ++ more) after
  marks_append Marks.end m = m
  marks_append (Marks.marked p n e r) m = Marks.marked p n e (marks_append r m)
  marks_append (Marks.unmarked p s e r) m = Marks.unmarked p s e (marks_append r m)

  -- Classes of rows, and from there on of more rows.
  pub classes_append : {before mid after : List Family} {rows more : List Row} → Classes c rank before rows mid → Classes c rank mid more after
      → Classes c rank before (rows ++ more) after
  classes_append Classes.end m = m
  classes_append (Classes.old a t r) m = Classes.old a t (classes_append r m)
  classes_append (Classes.new n e r) m = Classes.new n e (classes_append r m)

  classes_grow : {before after : List Family} {rows : List Row} → Classes c rank before rows after → length before ≤ length after
  classes_grow Classes.end = omega arith
  classes_grow (Classes.old a t r) = classes_grow r
  classes_grow (Classes.new {before = before} {row = row} n e r) = omega (arith, classes_grow r, length-append before (row.family ∷ []))

  -- Each row has a class that has a first family.
  pub classes_below : {before after : List Family} {rows : List Row} → Classes c rank before rows after → All (λ row. row.class < length after) rows
  classes_below Classes.end = All.nil
  classes_below (Classes.old a t r) = All.cons (lt_of_lt_of_le (at_below a) (classes_grow r)) (classes_below r)
  classes_below {after} (Classes.new {before = before} {row = row} n e r) =
      let h : row.class < length after = omega (arith, classes_grow r, length-append before (row.family ∷ [])) in All.cons h (classes_below r)

-- ---- class rows

how_many_append : (test : Row → Bool) (rows more : List Row) → how_many test (rows ++ more) ≡ how_many test rows + how_many test more
unfolding how_many
how_many_append test [] more = omega arith
how_many_append test (row ∷ rows) more = omega (arith, how_many_append test rows more)

how_many_left : (test : Row → Bool) (rows more : List Row) → All (λ row. test row ≡ false) more → how_many test (rows ++ more) ≡ how_many test rows
how_many_left test rows more a = omega (arith, how_many_append test rows more, how_many_none a)

how_many_right : (test : Row → Bool) (rows more : List Row) → All (λ row. test row ≡ false) rows → how_many test (rows ++ more) ≡ how_many test more
how_many_right test rows more a = omega (arith, how_many_append test rows more, how_many_none a)

class_of : ℕ → Row → Bool
class_of i row = eqb row.class i

marked_of : ℕ → Row → Bool
marked_of i row = eqb row.class i && eqb row.mark 1

class_of_none : {i : ℕ} {rows : List Row} → All (λ row. row.class ≡ i → ⊥) rows → All (λ row. class_of i row ≡ false) rows
unfolding class_of
class_of_none {i} a = all_map (λ row n. ne_eqb row.class i n) a

marked_of_none : {i : ℕ} {rows : List Row} → All (λ row. row.class ≡ i → ⊥) rows → All (λ row. marked_of i row ≡ false) rows
unfolding marked_of
marked_of_none {i} a = all_map (λ row n. rw (ne_eqb row.class i n)) a

class_row_same : (rows more : List Row) (i : ℕ) (f : Family) → how_many (class_of i) rows ≡ how_many (class_of i) more
    → how_many (marked_of i) rows ≡ how_many (marked_of i) more → class_row rows i f ≡ class_row more i f
unfolding class_row class_of marked_of
class_row_same rows more i f a b =
    ap₂ (λ (families ranks : ℕ). record { long = f.long; rank = ranks; families = families; essential = cond (eqb families 1) 1 0 }) a b

module _ (rows more : List Row) (i : ℕ) (f : Family) where
  class_row_left : All (λ row. row.class ≡ i → ⊥) more → class_row (rows ++ more) i f ≡ class_row rows i f
  class_row_left a =
      class_row_same (rows ++ more) rows i f (how_many_left (class_of i) rows more (class_of_none a)) (how_many_left (marked_of i) rows more (marked_of_none a))

  class_row_right : All (λ row. row.class ≡ i → ⊥) rows → class_row (rows ++ more) i f ≡ class_row more i f
  class_row_right a =
      class_row_same (rows ++ more) more i f (how_many_right (class_of i) rows more (class_of_none a)) (how_many_right (marked_of i) rows more (marked_of_none a))

module _ (rows more : List Row) where
  class_rows_left : (i : ℕ) (fs : List Family) → All (λ row. i + length fs ≤ row.class) more → class_rows (rows ++ more) i fs ≡ class_rows rows i fs
  unfolding class_rows
  class_rows_left i [] a = refl
  class_rows_left i (f ∷ fs) a =
      ap₂ ◌∷◌ (class_row_left rows more i f (all_map (λ row h e. omega arith) a)) (class_rows_left (suc i) fs (all_map (λ row h. omega arith) a))

  class_rows_right : (i : ℕ) (fs : List Family) → All (λ row. row.class < i) rows → class_rows (rows ++ more) i fs ≡ class_rows more i fs
  unfolding class_rows
  class_rows_right i [] a = refl
  class_rows_right i (f ∷ fs) a =
      ap₂ ◌∷◌ (class_row_right rows more i f (all_map (λ row h e. omega arith) a)) (class_rows_right (suc i) fs (all_map (λ row h. omega arith) a))

class_rows_split : (rows : List Row) (i j : ℕ) (fs gs : List Family) → j ≡ i + length fs → class_rows rows i (fs ++ gs) ≡ class_rows rows i fs ++ class_rows rows j gs
unfolding class_rows
class_rows_split rows i j [] gs e = let d : i ≡ j = omega arith in rw d
class_rows_split rows i j (f ∷ fs) gs e = rw (class_rows_split rows (suc i) j fs gs (omega arith))

-- Rows of the classes that have a first family, then rows of new classes: their class rows one after the other.
pub class_rows_append : (rows more : List Row) (fs gs : List Family) → All (λ row. row.class < length fs) rows → All (λ row. length fs ≤ row.class) more
    → class_rows (rows ++ more) 0 (fs ++ gs) ≡ class_rows rows 0 fs ++ class_rows more (length fs) gs
class_rows_append rows more fs gs a b =
    class_rows_split (rows ++ more) 0 (length fs) fs gs (omega arith)
    ∙ ap₂ ◌++◌ (class_rows_left rows more 0 fs (all_map (λ row h. omega arith) b)) (class_rows_right rows more (length fs) gs a)

-- ---- sizes

-- The sizes of rows, and those of more rows.
pub sizes_append : (rows more : List Row) → sizes (rows ++ more) ≡ sizes rows + sizes more
unfolding sizes
sizes_append [] more = omega arith
sizes_append (row ∷ rows) more = omega (arith, sizes_append rows more)
