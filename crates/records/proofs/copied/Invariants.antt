-- The array holds the bytes of the first k records, and zeros after them.
use Rattle.std.proofs.Common.{◌≡◌}
use Rattle.records.specs.Records.{laid}
use Rattle.records.proofs.copied.Given as goal

abbrev pub invariant-loop-k : goal.invariant-loop-k
invariant-loop-k l = l.all ≡ laid l.bonds l.k
