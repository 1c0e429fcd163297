-- Either path has nowhere to go, or the test says whether they stay apart.
use Rattle.std.proofs.Common.{◌≡◌, not, arith, sym, ap, ◌∙◌, ne_eqb}
use Rattle.paths.specs.Nets.{apart}
use Rattle.paths.proofs.Steps.{none_one, none_other, one_atom, two_atoms, stepped}
use Rattle.paths.proofs.step.Goals as goal
use Rattle.paths.proofs.step.Goals.{then-a_next-b_next, else-a_next-b_next}

pub returns-in_err-a_next : goal.returns-in_err-a_next
returns-in_err-a_next c =
    let none = c.in_err-a_next.ensures in
    rw c.from_residual.ensures (sym (none_one _ _ _ (omega (arith, none))))

pub returns-in_err-b_next : goal.returns-in_err-b_next
returns-in_err-b_next c =
    let none = c.in_err-b_next.ensures in
    let a = c.in_ok-a_next.ensures in
    rw c.from_residual-in_err-b_next.ensures (sym (none_other _ _ _ (omega (arith, a.0, a.1)) (omega (arith, none))))

pub returns : goal.returns
returns c =
    let a = c.in_ok-a_next.ensures in
    let b = c.in_ok-b_next.ensures in
    let test : c.if-a_next-b_next.then_some ≡ apart c.in_ok-a_next.a_next c.in_ok-b_next.b_next c.args.i = elim c.if-a_next-b_next.branch [
      | then-a_next-b_next w ↦ w.then_some-is ∙ ap not (ne_eqb _ _ w.if-a_next-b_next.true) ∙ two_atoms _ _ _ a.0 b.0 w.if-a_next-b_next.true
      | else-a_next-b_next w ↦ w.then_some-is ∙ one_atom _ _ _ a.0 b.0 w.if-a_next-b_next.false
    ] in
    rw c.then_some.ensures (stepped _ _ _ _ a.1 b.1 test)
