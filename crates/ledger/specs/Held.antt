-- The code's ledger as that of the theory, and what each method promises.
use Rattle.std.specs.Prelude.{◌≡◌, ℕ, List, slice_set}
use Rattle.bondset.specs.Rows.{flat, put_row}
use Rattle.bondset.specs.Reduction.{reduced, used, pushed_tag}
use Rattle.bondset.specs.Index.{held_by, fresh_pivot}
pub use Rattle.bondset.specs.Index.{Lacks}
use Rattle.rows.specs.declared.Family as family
use Rattle.rows.specs.Values.{family_of}
use Rattle.ledger.specs.declared.Classes as classes
use Rattle.ledger.specs.declared.Ledger as code
use Rattle.ledger.specs.Ledger.{Ledger, marked_in, summed_in, entered, settled_in}

-- The ledger of these classes and any rows, and the family rows and class rows that fit.
abbrev pub ledger_with : classes.Classes → List ℕ → List ℕ → List ℕ → List ℕ → List ℕ → Ledger
ledger_with C rows tags pivots out table =
    record {
      marks = C.tally.marks;
      short = C.tally.short;
      families = C.tally.families;
      classes = C.tally.classes;
      total = C.tally.total;
      rows = rows;
      tags = tags;
      pivots = pivots;
      labels = C.labels;
      holds = C.holds;
      out = out;
      table = table;
    }

-- The ledger and the family rows and class rows that fit.
abbrev pub ledger_of : code.Ledger → List ℕ → List ℕ → Ledger
ledger_of L out table = ledger_with L.classes (flat L.basis.rows) (flat L.basis.tags) L.basis.pivots out table

-- What the shorter marked rings leave of a ring, and which of them were summed.
pub record Leaves (L : code.Ledger) (ring rest names : ℕ) : Type 0 where
  pub rest_is : rest ≡ reduced (flat L.basis.rows) L.basis.pivots 0 L.classes.tally.short ring
  pub names_are : names ≡ used (flat L.basis.rows) (flat L.basis.tags) L.basis.pivots 0 L.classes.tally.short ring 0
  pub lacks : Lacks L.basis.pivots L.classes.tally.short rest

-- A kept prototype is marked; the class rows are whatever they are.
pub record Marks (f : family.Family) (rest names : ℕ) (before : code.Ledger) (out : List ℕ) (after : code.Ledger) (out' : List ℕ) : Type 0 where
  pub is : (table : List ℕ) → ledger_of after out' table ≡ marked_in (family_of f) rest names (ledger_of before out table)

-- A kept prototype is marked, and a class by itself; the reduction has it as one more row, and the class rows are whatever they are.
pub record MarksAlone (f : family.Family) (before : classes.Classes) (out : List ℕ) (after : classes.Classes) (out' : List ℕ) : Type 0 where
  pub is : (rest names : ℕ) (rows tags pivots rows' tags' pivots' table : List ℕ)
      → rows' ≡ put_row rows before.tally.marks rest → tags' ≡ put_row tags before.tally.marks (pushed_tag before.tally.marks names)
      → pivots' ≡ slice_set pivots before.tally.marks (fresh_pivot (held_by rows before.tally.marks) rest)
      → ledger_with after rows' tags' pivots' out' table ≡ marked_in (family_of f) rest names (ledger_with before rows tags pivots out table)

-- A kept prototype is a sum of marked ones; the reduction and the class rows are whatever they are.
pub record Sums (f : family.Family) (s : ℕ) (before : classes.Classes) (out : List ℕ) (after : classes.Classes) (out' : List ℕ) : Type 0 where
  pub is : (rows tags pivots table : List ℕ)
      → ledger_with after rows tags pivots out' table ≡ summed_in (family_of f) s (ledger_with before rows tags pivots out table)

-- A kept prototype is entered; the class rows are whatever they are.
pub record Enters (f : family.Family) (rest names : ℕ) (before : code.Ledger) (out : List ℕ) (after : code.Ledger) (out' : List ℕ) : Type 0 where
  pub is : (table : List ℕ) → ledger_of after out' table ≡ entered (family_of f) rest names (ledger_of before out table)

-- A length is settled; the reduction is whatever it is.
pub record Settles (k first : ℕ) (before : classes.Classes) (out table : List ℕ) (after : classes.Classes) (out' table' : List ℕ) : Type 0 where
  pub is : (rows tags pivots : List ℕ)
      → ledger_with after rows tags pivots out' table' ≡ settled_in k first (ledger_with before rows tags pivots out table)

-- A length of the whole ledger ends.
pub record Ends (k first : ℕ) (before : code.Ledger) (out table : List ℕ) (after : code.Ledger) (out' table' : List ℕ) : Type 0 where
  pub is : ledger_of after out' table' ≡ settled_in k first (ledger_of before out table)
