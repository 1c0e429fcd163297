-- The bonds at both atoms are the intersection of two rows.
use mathlib.Core.Path.{ap₂, ◌∙◌}
use lib.Bits.{bit_and}
use Rattle.model.specs.Net.{bond}
use Rattle.paths.proofs.bond.Goals as goal

pub returns : goal.returns
unfolding bond
returns c = c.intersection.ensures ∙ ap₂ bit_and c.row_at.ensures c.row_at-2.ensures
