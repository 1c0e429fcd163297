-- The top atoms are tried one by one, and then the length is settled; or nothing is done.
use Rattle.std.proofs.Common.{rules, refl, arith}
use Rattle.model.specs.Loops.{length_loop}
use Rattle.model.proofs.Turns.{left_next, left_none}
use Rattle.candidates.specs.Nets.{lent_graph}
use Rattle.engine.specs.Lengths.{running_of}
use Rattle.engine.proofs.Tried.{top_is, round_is, round_full}
use Rattle.engine.proofs.lengths.Running.round.Goals as goal

pub returns-then-self-task : goal.returns-then-self-task
returns-then-self-task c =
    let a = c.args in
    let task = a.task.now in
    round_full (lent_graph task.net) task.from task.full a.k (running_of a.self.now a.out.now a.table.now a.sizes.now) c.if-self-task.true

pub loop-r-init : goal.loop-r-init
unfolding length_loop
loop-r-init c = (search rules, search rules, record { same = rw (c.into_iter-r-iterator.ensures.into_iter_gives, c.each-r-items.ensures, c.args.task.now.all_tops) refl })

pub loop-r-preserved : goal.loop-r-preserved
loop-r-preserved c =
    let a = c.args in
    let at = c.loop-r in
    let net = lent_graph a.task.now.net in
    let turn = top_is net a.task.now.from a.k c.in-Some.r at.self.layers at.out a.table.now at.sizes c.lay.ensures.written c.seek.ensures in
    (search rules, search rules, left_next _ c.in-Some.ensures.steps turn at.invariant.2)

pub returns : goal.returns
returns c =
    let a = c.args in
    let task = a.task.now in
    round_is (lent_graph task.net) task.from task.full a.k (running_of a.self.now a.out.now a.table.now a.sizes.now) (omega (arith, c.if-self-task.false))
    (left_none _ c.in-None.ensures.steps.0 c.loop-r.invariant.2) c.settle.ensures.is
