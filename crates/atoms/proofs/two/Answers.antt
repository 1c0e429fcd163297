-- Two atoms: something is left without the lowest.
use mathlib.Core.Path.{ap}
use lib.Dec.{ltb}
use Rattle.model.specs.Loops.{two}
use Rattle.atoms.proofs.two.Goals as goal

pub returns : goal.returns
unfolding two
returns c = ap (ltb 0) c.others.ensures
