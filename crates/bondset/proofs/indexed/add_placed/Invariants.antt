-- The loop's invariant: what is left of the hits adds what is missing.
use Rattle.bondset.specs.Sets.{value, members}
use Rattle.bondset.specs.Rows.{flat}
use Rattle.bondset.specs.Index.{add_placed}
use Rattle.bondset.proofs.IndexLoops.{PlacedLeft}
use Rattle.bondset.proofs.indexed.add_placed.Given as goal

abbrev pub invariant-loop-b : goal.invariant-loop-b
invariant-loop-b l =
    (goal.iterator-loop-b).can_next l.b-iterator × (goal.iterator-loop-b).is_finite l.b-iterator
    × PlacedLeft (flat l.fn.rows) (flat l.fn.tags) l.fn.place l.from l.to (members 128 (value l.b-iterator.rest)) (value l.w.rest) (value l.w.used)
    (add_placed (flat l.fn.rows) l.fn.place l.from l.to (members 128 (value l.fn.hits)) (value l.fn.v.rest))
    (add_placed (flat l.fn.tags) l.fn.place l.from l.to (members 128 (value l.fn.hits)) (value l.fn.v.used))
