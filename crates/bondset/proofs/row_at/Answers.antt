use mathlib.Core.Path.{refl}
use Rattle.bondset.specs.Rows.{row_at}
use Rattle.bondset.proofs.row_at.Goals as goal

pub returns : goal.returns
unfolding row_at
returns c = refl
