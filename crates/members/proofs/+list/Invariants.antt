-- At the top a block is written. Else the call for each neighbour in the last layer writes its part. The layers become fewer.
use Rattle.std.proofs.Common.{length}
use Rattle.bondset.specs.Sets.{members}
use Rattle.members.specs.Listed.{set_of}
use Rattle.members.proofs.Listing.{Going}
use Rattle.members.proofs.+list.Given as goal

abbrev pub decreases-list : goal.decreases-list
decreases-list l = length l.layers.now

abbrev pub invariant-loop-s : goal.invariant-loop-s
invariant-loop-s l =
    (goal.iterator-loop-s).can_next l.s-iterator × (goal.iterator-loop-s).is_finite l.s-iterator
    × Going l.fn.net.adj l.fn.net.touch l.fn.layers (length l.fn.layers) (length l.nearer) l.t (set_of l.lo l.hi) l.count l.at l.initial.rings l.rings
    (members 64 l.s-iterator.rest) l.next
