-- The paths from the start are those from where the loop stands, as long as each step had one way to go.
use Rattle.std.proofs.Common.{[]}
use Rattle.std.specs.Iterator.Adapters.{rev_source}
use Rattle.std.specs.Slice.Iter.{iter_rest}
use Rattle.model.specs.Layer.{ways}
use Rattle.paths.specs.Nets.{net}
use Rattle.counting.proofs.Tables.{Down}
use Rattle.counting.proofs.lone.Given as goal

abbrev pub invariant-loop-layer : goal.invariant-loop-layer
invariant-loop-layer l =
    let adj = l.adj in
    (goal.iterator-loop-layer).can_next l.layer-iterator × (goal.iterator-loop-layer).is_finite l.layer-iterator
    × Down adj l.layers (iter_rest (rev_source l.layer-iterator)) l.a (ways (net adj []) l.layers l.d l.t)
