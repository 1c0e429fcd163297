-- The plain method against whatever meets the claim of a call: "its basis has the same number of rings of each length as the marked one, the same
-- total, and the same number in each class".
use mathlib.Core.Path.{◌≡◌, ◌∙◌}
use mathlib.Core.List.{List}
use Prim.Native.Nat.{ℕ, ◌<◌}
use lib.ListN.{length}
use Rattle.spans.specs.Basis.{Holding}
use Rattle.spans.specs.Graded.{total}
use Rattle.spans.proofs.Steinitz.{same_length}
use Rattle.bondset.proofs.Group.{bond_sets}
use Rattle.cycles.specs.Compound.{Compound}
use Rattle.cycles.specs.Ring.{len}
use Rattle.cycles.specs.Basis.{Minimum}
use Rattle.cycles.specs.Plain.{Plain}
use Rattle.cycles.proofs.PlainBasis.{plain_minimum}
use Rattle.cycles.proofs.PlainReport.{SameNumber, minimum_same_lengths}
use Rattle.answers.specs.Answered.{full, Answered}
use Rattle.answers.specs.Bytes.{rank_at, OfClass, MarkedRows}
use Rattle.answers.proofs.Demand3.{marked_rows_minimum, marked_rows_number, total_of_every_minimum, class_row_rank}
use Rattle.answers.proofs.Reported.{reported, sound}

module _ {n : ℕ} {bonds rows class_rows : List ℕ} {i cyclomatic families classes whole rings size : ℕ} {left left' : List ℕ}
    (answer : Answered n bonds rows class_rows i (full cyclomatic families classes whole rings size) left left') where
  abbrev c : Compound
  c = record { n = n; bytes = bonds }

  module _ {chosen : List ℕ} (plain : Plain c chosen) where
    minimum : Minimum c chosen
    minimum = plain_minimum c (sound (reported answer)) plain

    -- "The same total": that answered.
    pub plain_total : whole ≡ total (len c) chosen
    plain_total = total_of_every_minimum answer minimum

    -- "The same number in each class": the relative rank that the row of the class says.
    pub plain_class_rank : {g : ℕ} → g < classes → Holding (OfClass c left families g) chosen (rank_at left' g)
    plain_class_rank h = class_row_rank answer h minimum

    module _ {B : List ℕ} (marked : MarkedRows c left 0 families B) where
      -- "The same number of rings of each length as the marked one".
      pub plain_same_lengths : (k : ℕ) → SameNumber (λ C. len c C ≡ k) chosen B
      plain_same_lengths = minimum_same_lengths c minimum (marked_rows_minimum answer marked)

      -- ".. and the same number in each class".
      pub plain_same_in_class : {g : ℕ} → g < classes → SameNumber (OfClass c left families g) chosen B
      plain_same_in_class {g} h =
          record { number = rank_at left' g; first = plain_class_rank h; second = class_row_rank answer h (marked_rows_minimum answer marked) }

      -- As many rings in all: the cyclomatic number answered.
      pub plain_number : length chosen ≡ cyclomatic
      plain_number = same_length bond_sets minimum.basis (marked_rows_minimum answer marked).basis ∙ marked_rows_number answer marked
