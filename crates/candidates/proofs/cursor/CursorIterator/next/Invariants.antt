-- What is to come stays the same until there is a q.
use mathlib.Core.Path.{◌≡◌}
use Rattle.candidates.specs.Cursor.{ahead, left}
use Rattle.candidates.proofs.cursor.CursorIterator.next.Given as goal

abbrev pub invariant-loop-q : goal.invariant-loop-q
invariant-loop-q l = ahead l.self ≡ ahead l.initial.self

abbrev pub decreases-loop-q : goal.decreases-loop-q
decreases-loop-q l = left l.self
