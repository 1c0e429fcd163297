-- The table of layer 0, or that of the layer before and one layer more. The distance falls.
use Rattle.members.proofs.+count.Given as goal

abbrev pub decreases-count : goal.decreases-count
decreases-count l = l.d
