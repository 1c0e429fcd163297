-- The code's values as those of the engine, and what is asked of them.
use Rattle.std.specs.Prelude.{◌≡◌, List, ℕ, ◌<◌, length}
use Rattle.counting.specs.Counts.{Disjoint}
use Rattle.ledger.specs.Held.{ledger_of}
use Rattle.candidates.specs.declared.Going as code
use Rattle.candidates.specs.Engine.{Engine}

-- The engine of what has been counted, with family rows, class rows and sizes as lent.
abbrev pub engine_of : code.Going → List ℕ → List ℕ → List ℕ → Engine
engine_of s out table sizes = record { ledger = ledger_of s.ledger out table; rings = s.rings; sizes = sizes }

-- There are the layers 0 to d, which share no atom.
pub record Place (layers : List ℕ) (d : ℕ) : Type 0 where
  pub deep : d < length layers
  pub disjoint : Disjoint layers d

-- Some candidates are tried; the class rows are whatever they are.
pub record Tries (F : Engine → Engine) (before : code.Going) (out sizes : List ℕ) (after : code.Going) (out' sizes' : List ℕ) : Type 0 where
  pub is : (table : List ℕ) → engine_of after out' table sizes' ≡ F (engine_of before out table sizes)
