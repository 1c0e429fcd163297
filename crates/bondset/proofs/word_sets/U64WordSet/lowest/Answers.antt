-- The lowest atom is a number of at most 64.
use native.Mathlib.Omega.{arith}
use lib.Count.{trailing_le}
use Rattle.bondset.proofs.word_sets.U64WordSet.lowest.Goals as goal

pub overflow_cast-result : goal.overflow_cast-result
overflow_cast-result c = omega (arith, trailing_le 64 c.args.self)
