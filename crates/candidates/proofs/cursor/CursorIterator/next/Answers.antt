use Rattle.std.proofs.Common.{arith, sym, ap, ◌∙◌, List, length}
use Rattle.candidates.specs.Cursor.{Spot, ahead}
use Rattle.candidates.proofs.Ahead.{ahead_q}
use Rattle.candidates.proofs.cursor.CursorIterator.next.Goals as goal

pub returns-in-Some-clause-steps : goal.returns-in-Some-clause-steps
unfolding ahead
returns-in-Some-clause-steps c = sym c.loop-q.invariant ∙ ahead_q c.loop-q.self _ _ c.in-Some.ensures

pub returns-in-Some-clause-goes : goal.returns-in-Some-clause-goes
returns-in-Some-clause-goes c =
    let less = ap (λ (l : List Spot). length l) (returns-in-Some-clause-steps c) in
    record { on = λ h. (tt, h, omega (arith, less)); keeps = tt; rests = λ h. tt }
