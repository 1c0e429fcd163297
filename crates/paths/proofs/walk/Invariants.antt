-- The layers that are left take the ring so far to the whole walk.
use Rattle.std.proofs.Common.{◌≡◌}
use Rattle.std.specs.Iterator.Adapters.{enumerate_count, enumerate_source, rev_source}
use Rattle.std.specs.Slice.Iter.{iter_rest}
use Rattle.bondset.specs.Sets.{value}
use Rattle.model.specs.Layer.{walk}
use Rattle.paths.specs.Nets.{net}
use Rattle.paths.proofs.Steps.{Walking}
use Rattle.paths.proofs.walk.Given as goal

abbrev pub invariant-loop-i : goal.invariant-loop-i
invariant-loop-i l =
    let G = net l.adj l.touch in
    (goal.iterator-loop-i).can_next l.i-iterator × (goal.iterator-loop-i).is_finite l.i-iterator
    × (enumerate_count (rev_source l.i-iterator) ≡ 0)
    × Walking G l.layers (iter_rest (enumerate_source (rev_source l.i-iterator))) l.a l.b (value l.sum) (walk G l.layers l.d l.p l.q (value l.fn.ring))
