-- What a run of the engine on a compound promises: its report.
use Rattle.std.specs.Prelude.{◌≡◌, List, ℕ, ◌+◌, ◌/◌, ◌<◌, ◌≤◌, length, get_or, replicate}
use Rattle.cycles.specs.Compound.{Compound, m}
use Rattle.cycles.specs.Rows.{most}
use Rattle.cycles.specs.Refusal.{Accepted}
use Rattle.answers.specs.Answered.{family_bytes, class_bytes, over, size_of}
use Rattle.model.specs.Net.{adj_of, touch_of}
use Rattle.model.specs.Run.{report}
use Rattle.counting.specs.Counts.{counted}
use Rattle.atoms.specs.declared.nets.Net as code
use Rattle.engine.specs.declared.Found.{Found}

-- The compound is accepted, and the net holds its atoms, and the neighbours and the bonds of each.
pub record Stands (c : Compound) (net : code.Net) : Type 0 where
  pub accepted : Accepted c
  pub atoms : net.n ≡ c.n
  pub neighbours : net.adj ≡ adj_of c (m c)
  pub bonds : net.touch ≡ touch_of c (m c)

-- The numbers of the report, and as much of it as there is room for, over the buffers as lent; sizes are told where all rings can be counted.
pub record Reports (c : Compound) (from : ℕ) (out table sizes : List ℕ) (r : Found) (out' table' sizes' : List ℕ) : Type 0 where
  pub families : r.families ≡ (report c).families
  pub classes : r.classes ≡ (report c).classes
  pub total : r.total ≡ (report c).total
  pub rings : r.rings ≡ counted most (report c).rings
  pub rows : (report c).families ≤ length out / 8 → out' ≡ over (family_bytes (report c).rows) out
  pub class_rows : (report c).families ≤ 4096 → (report c).classes ≤ length table / 5 → table' ≡ over (class_bytes (report c).class_rows) table
  pub sized : sizes ≡ replicate (length sizes) 0 → (report c).rings ≤ most
      → (j : ℕ) → j < length sizes → get_or sizes' j 0 ≡ size_of (report c).rows (from + j)
  pub out_kept : length out' ≡ length out
  pub table_kept : length table' ≡ length table
  pub sizes_kept : length sizes' ≡ length sizes
