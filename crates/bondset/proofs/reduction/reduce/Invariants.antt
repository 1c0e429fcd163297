-- The rest stands in four words besides, the last two empty, where the byte of a pivot finds its word.
use mathlib.Core.Path.{◌≡◌}
use Prim.Native.Nat.{◌-◌, ◌^◌, ◌≤◌, ◌<◌, max}
use Rattle.bondset.specs.Sets.{value}
use Rattle.bondset.specs.Rows.{flat}
use Rattle.bondset.specs.Reduction.{Reduces}
use Rattle.bondset.proofs.Words.{spread}
use Rattle.bondset.proofs.reduction.reduce.Given as goal

abbrev pub invariant-loop-i : goal.invariant-loop-i
invariant-loop-i l = (l.from ≤ l.i) × (l.i ≤ max l.from l.to) × (l.rest.lo < 2 ^ 64) × (l.rest.hi < 2 ^ 64) × (l.words ≡ spread l.rest.lo l.rest.hi)
    × Reduces (flat l.rows) (flat l.tags) l.pivots l.from l.i (value l.initial.rest) (value l.initial.used) (value l.rest) (value l.used)

abbrev pub decreases-loop-i : goal.decreases-loop-i
decreases-loop-i l = l.to - l.i
