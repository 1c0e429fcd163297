-- What the calls answer, in the scope document's numbers, and what is promised on the way to an answer.
use Rattle.std.specs.Prelude.{◌≡◌, List, ℕ, ◌+◌, ◌/◌, ◌%◌, ◌<◌, ◌≤◌, min, length, get_or, Some, None, Result, Ok, Err, OnErr}
use Rattle.cycles.specs.Compound.{Compound, m, cyclomatic}
use Rattle.cycles.specs.Rows.{most}
use Rattle.cycles.specs.Refusal as table
use Rattle.answers.specs.Answered.{Told, full, refused, Answered, family_bytes, class_bytes, over, size_of, family_room, class_room, AnsweredFirst}
use Rattle.model.specs.Run.{report}
use Rattle.model.specs.Fault.{fault}
use Rattle.reading.specs.Reading.{fault_of}
use Rattle.reading.specs.declared.Fault.{Fault}
use Rattle.engine.specs.declared.Found.{Found}
use Rattle.rings.specs.declared.Full.{Full}
use Rattle.rings.specs.declared.Sized.{Sized}
use Rattle.rings.specs.declared.Refusal.{Refusal}
use Rattle.rings.specs.declared.Refusal.TheVariants.{WrongAtoms, WrongBytes, NoAtom, Loop, Again, Pieces, FewRows, FewClassRows, ManyRings}

-- The number of a refusal.
abbrev pub number_of : Refusal → ℕ
number_of WrongAtoms = 1
number_of WrongBytes = 2
number_of (NoAtom bond) = 3
number_of (Loop bond) = 4
number_of (Again bond) = 5
number_of Pieces = 6
number_of (FewRows needed) = 7
number_of (FewClassRows needed) = 8
number_of ManyRings = 9

-- Its "at": a bond, or the number of rows needed; 0 where it names nothing.
abbrev pub place_of : Refusal → ℕ
place_of WrongAtoms = 0
place_of WrongBytes = 0
place_of (NoAtom bond) = bond
place_of (Loop bond) = bond
place_of (Again bond) = bond
place_of Pieces = 0
place_of (FewRows needed) = needed
place_of (FewClassRows needed) = needed
place_of ManyRings = 0

-- What a call answers.
abbrev pub Answer : Type 0
Answer = Result Full Refusal

-- An answer with the size asked for: the five numbers, or the refusal's number and "at".
unfoldable pub told : Answer → ℕ → Told
told (Ok f) size = full f.cyclomatic f.families f.classes f.total f.rings size
told (Err r) size = refused (number_of r) (place_of r)

-- The same of an answer that has the size in it.
unfoldable pub told_sized : Result Sized Refusal → Told
told_sized (Ok s) = told (Ok s.full) s.size
told_sized (Err r) = told (Err r) 0

-- The refusal has the number and the place of the bond that is not fine.
abbrev pub Names : Fault → Refusal → Type 0
Names f r = fault_of (Err f) ≡ fault (number_of r) (place_of r)

-- Neither 1 nor 2 holds.
pub record Within (c : Compound) : Type 0 where
  pub some : 0 < c.n
  pub atoms : c.n ≤ 64
  pub even : length c.bytes % 2 ≡ 1 → ⊥
  pub few : m c ≤ 96

-- The refusal is that of this input.
abbrev pub RefusedBy : Compound → Refusal → Type 0
RefusedBy c r = table.Refused c (number_of r) (place_of r)

-- Of what the engine found and of so many lent bytes, none of 7 to 9 holds, and there are so many rings.
pub record Fit (found : Found) (row_bytes class_bytes rings : ℕ) : Type 0 where
  pub families : found.families ≤ min (row_bytes / 8) 4096
  pub classes : found.classes ≤ class_bytes / 5
  pub rings_are : found.rings ≡ Some rings

-- The refusal is the first of 7 to 9 that holds.
pub data Unfit (found : Found) (row_bytes class_bytes : ℕ) : Refusal → Type 0 where
  few_rows : min (row_bytes / 8) 4096 < found.families → Unfit found row_bytes class_bytes (FewRows found.families)
  few_class_rows : found.families ≤ min (row_bytes / 8) 4096 → class_bytes / 5 < found.classes
      → Unfit found row_bytes class_bytes (FewClassRows found.classes)
  many_rings : found.families ≤ min (row_bytes / 8) 4096 → found.classes ≤ class_bytes / 5 → found.rings ≡ None
      → Unfit found row_bytes class_bytes ManyRings

-- The numbers in what the engine found, of so many rings.
unfoldable pub full_of : Compound → Found → ℕ → Full
full_of c found rings =
    record { cyclomatic = cyclomatic c; families = found.families; classes = found.classes; total = found.total; rings = rings }

-- None of 7 to 9 holds.
pub record Fitting (c : Compound) (rows class_rows : List ℕ) : Type 0 where
  pub families : (report c).families ≤ family_room rows
  pub classes : (report c).classes ≤ class_room class_rows
  pub rings : (report c).rings ≤ most

-- The rows stand over the buffers as lent, and the sizes from a row on are those of the families.
pub record Delivered (c : Compound) (from : ℕ) (rows class_rows sizes rows' class_rows' sizes' : List ℕ) : Type 0 where
  pub families : rows' ≡ over (family_bytes (report c).rows) rows
  pub classes : class_rows' ≡ over (class_bytes (report c).class_rows) class_rows
  pub sized : (j : ℕ) → j < length sizes → get_or sizes' j 0 ≡ size_of (report c).rows (from + j)

-- The claim of a call for every row number, with the sizes of the rows from one on; in a refusal the sizes stay as lent.
pub record Answers (n : ℕ) (bonds : List ℕ) (from : ℕ) (rows class_rows sizes : List ℕ) (a : Answer) (rows' class_rows' sizes' : List ℕ) : Type 0 where
  pub answered : AnsweredFirst n bonds rows class_rows (told a) rows' class_rows'
  pub sized : (j : ℕ) → j < length sizes → Answered n bonds rows class_rows (from + j) (told a (get_or sizes' j 0)) rows' class_rows'
  pub kept : OnErr a (sizes' ≡ sizes)
