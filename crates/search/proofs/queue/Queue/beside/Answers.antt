use Rattle.std.proofs.Common.{ap, ℕ, refl, add-one, drop-cons, get_or, drop_of_length-le}
use lib.Bits.{bit_or}
use Rattle.model.proofs.Turns.{left_next, left_none}
use Rattle.search.specs.Queue.{beside}
use Rattle.search.proofs.queue.Queue.beside.Goals as goal

pub loop-a-init : goal.loop-a-init
unfolding beside
loop-a-init c = record { same = refl }

pub loop-a-preserved : goal.loop-a-preserved
loop-a-preserved c =
    let l = c.loop-a in
    rw add-one (left_next _ (drop-cons _ l.a-index 0 c.loop-a-test.true) (ap (λ (a : ℕ). bit_or l.all (get_or c.args.adj.now a 0)) c.from.ensures) l.invariant)

pub returns : goal.returns
returns c = left_none _ (drop_of_length-le _ c.loop-a-test.false) c.loop-a.invariant
