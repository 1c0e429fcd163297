-- The loop's invariant: what is left of the late rows adds what is missing.
use Rattle.bondset.specs.Sets.{value, members}
use Rattle.bondset.specs.Rows.{flat}
use Rattle.bondset.specs.Index.{late_rest, late_used}
use Rattle.bondset.proofs.IndexLoops.{LateLeft}
use Rattle.bondset.proofs.indexed.add_late.Given as goal

abbrev pub invariant-loop-i : goal.invariant-loop-i
invariant-loop-i l =
    (goal.iterator-loop-i).can_next l.i-iterator × (goal.iterator-loop-i).is_finite l.i-iterator
    × LateLeft (flat l.fn.rows) (flat l.fn.tags) l.fn.pivots l.from l.to (members 128 (value l.i-iterator.rest)) (value l.w.rest) (value l.w.used)
    (late_rest (flat l.fn.rows) l.fn.pivots l.from l.to (members 128 (value l.fn.late)) (value l.fn.v.rest))
    (late_used (flat l.fn.rows) (flat l.fn.tags) l.fn.pivots l.from l.to (members 128 (value l.fn.late)) (value l.fn.v.rest) (value l.fn.v.used))
