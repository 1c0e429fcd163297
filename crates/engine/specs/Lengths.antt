-- All lengths over the engine's state, and what the code promises of them.
use Rattle.std.specs.Prelude.{◌≡◌, List, ℕ, Some, ◌-◌, ◌≤◌, replicate}
use Rattle.model.specs.Fold.{through, count}
use Rattle.model.specs.Net.{Net, preceding}
use Rattle.model.specs.Loops.{Running, running, length_round}
use Rattle.ledger.specs.Ledger.{settled_in, unmarked}
use Rattle.candidates.specs.Engine.{Engine, attempted}
use Rattle.candidates.specs.Going.{engine_of}
use Rattle.engine.specs.declared.Found.{Found}
use Rattle.engine.specs.declared.lengths.Running as code

-- The end of a length.
unfoldable pub settled_by : ℕ → Engine → Engine → Engine
settled_by k before after = record { ledger = settled_in k before.ledger.families after.ledger; rings = after.rings; sizes = after.sizes }

-- Before the first length, with the buffers as lent.
unfoldable pub begun : List ℕ → List ℕ → List ℕ → Engine
begun out table sizes = record { ledger = unmarked out table; rings = Some 0; sizes = sizes }

module _ (G : Net) (from full : ℕ) where
  -- One length, and its classes; nothing once the basis is full.
  abbrev pub round_by : ℕ → Running Engine → Running Engine
  round_by k s = length_round G (attempted G from) preceding (λ E. E.ledger.marks) settled_by full k s

  -- All lengths, into the buffers.
  unfoldable pub run_by : List ℕ → List ℕ → List ℕ → Engine
  run_by out table sizes = (through round_by (count 3 (G.n - 2)) (running (replicate 33 0) (begun out table sizes))).state

-- A run under way in the model's terms, with family rows, class rows and sizes as lent.
abbrev pub running_of : code.Running → List ℕ → List ℕ → List ℕ → Running Engine
running_of s out table sizes = running s.layers (engine_of s.going out table sizes)

-- All lengths were tried and settled, from nothing: what was found, and the buffers.
pub record Runs (G : Net) (from full : ℕ) (out table sizes : List ℕ) (r : Found) (out' table' sizes' : List ℕ) : Type 0 where
  pub marks : r.marks ≡ (run_by G from full out table sizes).ledger.marks
  pub short : r.short ≡ (run_by G from full out table sizes).ledger.short
  pub families : r.families ≡ (run_by G from full out table sizes).ledger.families
  pub classes : r.classes ≡ (run_by G from full out table sizes).ledger.classes
  pub total : r.total ≡ (run_by G from full out table sizes).ledger.total
  pub rings : r.rings ≡ (run_by G from full out table sizes).rings
  pub rows : out' ≡ (run_by G from full out table sizes).ledger.out
  pub class_rows : table' ≡ (run_by G from full out table sizes).ledger.table
  pub sized : sizes' ≡ (run_by G from full out table sizes).sizes
  pub few_marks : r.marks ≤ 82
  pub few_classes : r.classes ≤ 82
