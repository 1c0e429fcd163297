-- No row, and each label is 0.
use Rattle.std.proofs.Common.{arith}
use Rattle.model.proofs.NetRead.{get_or_zeros}
use Rattle.ledger.proofs.Ledger.new.Goals as goal

pub invariant_of-result-2 : goal.invariant_of-result-2
invariant_of-result-2 c = record { labelled = record { below = λ i. omega (arith, get_or_zeros 82 i) } }
