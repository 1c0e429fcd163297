-- The loop's invariant: what is left of the rings takes the labels to what they are in the end.
use mathlib.Core.Path.{◌≡◌}
use Prim.Native.Nat.{◌-◌, ◌≤◌}
use lib.Count.{count_trailing_zeros}
use lib.ListN.{length}
use Rattle.bondset.specs.Sets.{value}
use Rattle.model.specs.Fold.{through, count}
use Rattle.model.specs.State.{relabel}
use Rattle.labels.proofs.join.Given as goal

abbrev pub invariant-loop-j : goal.invariant-loop-j
invariant-loop-j l = (l.from ≤ l.j) × (length l.labels ≡ length l.initial.labels)
    × (through (relabel (value l.w) (count_trailing_zeros 128 (value l.w))) (count l.j (l.to - l.j)) l.labels
    ≡ through (relabel (value l.w) (count_trailing_zeros 128 (value l.w))) (count l.from (l.to - l.from)) l.initial.labels)

abbrev pub decreases-loop-j : goal.decreases-loop-j
decreases-loop-j l = l.to - l.j
