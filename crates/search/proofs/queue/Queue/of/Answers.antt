use Rattle.std.proofs.Common.{ℕ, ◌<◌, subst, sym, arith}
use Rattle.model.proofs.NetRead.{get_or_zeros, zeros}
use Rattle.search.proofs.Queues.{named_set}
use Rattle.search.proofs.queue.Queue.of.Goals as goal

pub invariant_of-result-clause-named : goal.invariant_of-result-clause-named
invariant_of-result-clause-named c = named_set (zeros 64) 0 c.args.r (λ i. subst (λ (a : ℕ). a < 64) (sym (get_or_zeros 64 i)) (omega arith)) (omega arith)
