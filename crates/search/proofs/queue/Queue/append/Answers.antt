use Rattle.std.proofs.Common.{rules, ◌∙◌, arith, refl, length-set}
use Rattle.bondset.proofs.Members.{first_lt}
use Rattle.search.proofs.Queues.{appending_start, appending_room, appending_next, appending_end, named_set}
use Rattle.search.proofs.queue.Queue.append.Goals as goal

pub overflow_cast-self : goal.overflow_cast-self
overflow_cast-self c = omega (arith, first_lt 64 _ _ _ c.in-Some.ensures.steps)

pub loop-t-init : goal.loop-t-init
loop-t-init c =
    let a = c.args in
    (search rules, search rules, refl, rw (c.into_iter-t-iterator.ensures.into_iter_gives, c.each-t-items.ensures) (appending_start a.self.now.atoms a.self.now.end a.s))

pub invariant_of-self-clause-long : goal.invariant_of-self-clause-long
invariant_of-self-clause-long c = length-set c.loop-t.self.atoms c.loop-t.end c.in-Some.t ∙ c.loop-t.self.long

pub invariant_of-self-clause-named : goal.invariant_of-self-clause-named
invariant_of-self-clause-named c = named_set _ _ _ c.loop-t.self.named (first_lt 64 _ _ _ c.in-Some.ensures.steps)

pub loop-t-preserved : goal.loop-t-preserved
loop-t-preserved c =
    let a = c.args in
    let i = c.loop-t.invariant in
    let split = c.in-Some.ensures.steps in
    (search rules, search rules, i.2, appending_next a.self.now.atoms a.self.now.end a.s _ _ split i.3 (omega (arith, c.loop-t.self.long, appending_room a.self.now.atoms a.self.now.end a.s _ _ split i.3)))

pub returns : goal.returns
returns c =
    let a = c.args in
    let i = c.loop-t.invariant in
    let end = appending_end a.self.now.atoms a.self.now.end a.s c.in-None.ensures.steps.0 i.3 in
    record { after = i.2; count = end.0; atoms = end.1 }
