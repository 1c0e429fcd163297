-- The search after so many steps; one whose front is empty has seen all that it will see.
use Rattle.std.proofs.Common.{◌≡◌, ◌-◌, ◌≤◌}
use Rattle.model.specs.Layer.{wave}
use Rattle.atoms.specs.Nets.{neighbours}
use Rattle.search.proofs.reached.Given as goal

abbrev pub invariant-loop : goal.invariant-loop
invariant-loop l =
    let at = wave (neighbours l.fn.adj) 0 0 l.counter in
    (l.counter ≤ l.fn.n) × (l.seen ≡ at.seen) × (l.front ≡ at.front)

abbrev pub decreases-loop : goal.decreases-loop
decreases-loop l = l.fn.n - l.counter
