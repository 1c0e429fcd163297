-- The loop's invariant: what is left of the rows takes the bytes to what they are in the end.
use Rattle.std.proofs.Common.{◌≡◌, ◌-◌}
use Rattle.model.specs.Fold.{through, count}
use Rattle.rows.specs.Rows.{patched}
use Rattle.rows.proofs.patch.Given as goal

abbrev pub invariant-loop-i : goal.invariant-loop-i
invariant-loop-i l =
    through (patched l.labels) (count l.i (l.i-end - l.i)) l.out ≡ through (patched l.labels) (count l.from (l.i-end - l.from)) l.initial.out
