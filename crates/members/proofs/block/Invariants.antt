-- What remains to be written makes the whole: a place is read before it is written over, because the block does not start behind its source.
use mathlib.Core.Path.{◌≡◌}
use Prim.Native.Nat.{◌-◌, ◌≤◌}
use lib.ListN.{length}
use Rattle.bondset.specs.Sets.{value}
use Rattle.members.proofs.Places.{rest_block}
use Rattle.members.proofs.block.Given as goal

abbrev pub invariant-loop-j : goal.invariant-loop-j
invariant-loop-j l = (l.j ≤ l.count) × (length l.rings ≡ length l.initial.rings) × (rest_block (value l.set) l.from l.count l.at l.rings l.j ≡ rest_block (value l.set) l.from l.count l.at l.initial.rings 0)

abbrev pub decreases-loop-j : goal.decreases-loop-j
decreases-loop-j l = l.count - l.j
