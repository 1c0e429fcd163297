-- `digits`: what was stored and the room that is left are no more than the room that there was.
use Rattle.std.proofs.Common.{◌+◌, ◌≤◌}
use Rattle.limits.proofs.small.digits.Given as goal

abbrev pub invariant-loop-value : goal.invariant-loop-value
invariant-loop-value l =
    (goal.iterator-loop-value).can_next l.value-iterator ×
    (goal.iterator-loop-value).is_finite l.value-iterator ×
    (l.count + (goal.iterator-loop-value).remaining l.value-iterator ≤ 32)
