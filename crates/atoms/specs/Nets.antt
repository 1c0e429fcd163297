-- Lent words as a net of the model: what a function reads of a compound.
use Rattle.std.specs.Prelude.{List, [], ℕ}
use Rattle.model.specs.Net.{Net}

-- n atoms with these neighbours.
abbrev pub atoms : ℕ → List ℕ → Net
atoms n adj = record { n = n; adj = adj; touch = [] }

-- The neighbours alone: all that a search reads.
abbrev pub neighbours : List ℕ → Net
neighbours adj = atoms 0 adj
