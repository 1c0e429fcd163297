-- A full answer and its right report, and what the bytes of each row say of it.
use mathlib.Core.Path.{◌≡◌, refl, sym, ◌∙◌, ap, subst}
use mathlib.Core.List.{List}
use Prim.Native.Nat.{ℕ, ◌<◌, ◌≤◌}
use native.Mathlib.Omega.{arith}
use lib.ListN.{length}
use Rattle.spans.specs.Elements.{◌∈◌}
use Rattle.cycles.specs.Compound.{Compound, Sound}
use Rattle.cycles.specs.Family.{Family, Member, Kept}
use Rattle.cycles.specs.Rows.{Row, Report, At}
use Rattle.cycles.specs.Refusal.{Accepted}
use Rattle.cycles.proofs.Ranks.{in_map, at_exists, class_rows_length}
use Rattle.cycles.proofs.Refusals.{accepted_sound}
use Rattle.answers.specs.Answered.{full, family_bytes, class_bytes, over, size_of, family_room, class_room, RightReport, Answered}
use Rattle.answers.specs.Bytes.{family_at, mark_at, class_at, MemberAt}
use Rattle.answers.proofs.Places.{family_at_row, mark_at_row, class_at_row}

-- The right report that a full answer tells.
pub record Reported (n : ℕ) (bonds rows class_rows : List ℕ) (i cyclomatic families classes total rings size : ℕ) (left left' : List ℕ) : Type 0 where
  pub R : Report
  pub accepted : Accepted (record { n = n; bytes = bonds })
  pub right : RightReport n bonds rows class_rows i R
  pub room : R.families ≤ family_room rows
  pub class_room_lem : R.classes ≤ class_room class_rows
  pub cyclomatic_is : cyclomatic ≡ R.cyclomatic
  pub families_are : families ≡ R.families
  pub classes_are : classes ≡ R.classes
  pub total_is : total ≡ R.total
  pub rings_are : rings ≡ R.rings
  pub size_is : size ≡ size_of R.rows i
  pub left_is : left ≡ over (family_bytes R.rows) rows
  pub left'_is : left' ≡ over (class_bytes R.class_rows) class_rows

-- Each full answer tells one.
pub reported : {n : ℕ} {bonds rows class_rows : List ℕ} {i cyclomatic families classes total rings size : ℕ} {left left' : List ℕ}
    → Answered n bonds rows class_rows i (full cyclomatic families classes total rings size) left left'
    → Reported n bonds rows class_rows i cyclomatic families classes total rings size left left'
reported (Answered.in_full {R = R} a r h l m) =
    record {
      R = R;
      accepted = a;
      right = r;
      room = h;
      class_room_lem = l;
      cyclomatic_is = refl;
      families_are = refl;
      classes_are = refl;
      total_is = refl;
      rings_are = refl;
      size_is = refl;
      left_is = refl;
      left'_is = refl;
    }

-- Row k of the report, as the buffer has it.
pub record RowAt (rows : List Row) (left : List ℕ) (k : ℕ) (row : Row) : Type 0 where
  pub at : At rows k row
  pub family : family_at left k ≡ row.family
  pub mark : mark_at left k ≡ row.mark
  pub class : class_at left k ≡ row.class

module _ {n : ℕ} {bonds rows class_rows : List ℕ} {i cyclomatic families classes total rings size : ℕ} {left left' : List ℕ}
    (s : Reported n bonds rows class_rows i cyclomatic families classes total rings size left left') where
  abbrev c : Compound
  c = record { n = n; bytes = bonds }

  -- The input is a sound compound.
  pub sound : Sound c
  sound = accepted_sound c s.accepted

  -- A family row for each row of the report.
  pub families_length : families ≡ length s.R.rows
  families_length = s.families_are ∙ s.right.families_are

  -- A class row for each class.
  pub classes_length : classes ≡ length s.R.class_rows
  classes_length = s.classes_are ∙ sym (class_rows_length c sound (λ a. a) (λ a b h l e. e) s.right)

  -- What the buffer has at the place of a row.
  pub row_there : {k : ℕ} {row : Row} → At s.R.rows k row → RowAt s.R.rows left k row
  row_there {k} {row} a =
      record {
        at = a;
        family = ap (λ (l : List ℕ). family_at l k) s.left_is ∙ family_at_row rows a;
        mark = ap (λ (l : List ℕ). mark_at l k) s.left_is ∙ mark_at_row rows a;
        class = ap (λ (l : List ℕ). class_at l k) s.left_is ∙ class_at_row rows a;
      }

  -- Each row below the number of families is there.
  pub row_at : (k : ℕ) → k < families → (row : Row) × RowAt s.R.rows left k row
  row_at k h = let (row, a) = at_exists s.R.rows k (omega (arith, families_length)) in (row, row_there a)

  -- The family of a row is kept.
  pub row_kept : {row : Row} → row ∈ s.R.rows → Kept c (λ a. a) row.family
  row_kept {row} l = (s.right.kept row.family).0 (in_map (λ row. row.family) l)

  -- A member of the family that the bytes name is one of the family of the row.
  pub row_member : {k C : ℕ} {row : Row} → RowAt s.R.rows left k row → MemberAt c left k C → Member c (λ a. a) row.family C
  row_member {C} t m = subst (λ (f : Family). Member c (λ a. a) f C) t.family m
