-- A set is empty if both words are 0.
use Rattle.bondset.proofs.Words.{words_zero}
use Rattle.std.proofs.Common.{arith}
use Rattle.bondset.proofs.Laws.{words_lt}
use Rattle.bondset.proofs.word_sets.BondSetWordSet.is_empty.Goals as goal

pub returns-clause-empty : goal.returns-clause-empty
returns-clause-empty c =
    let a = c.args.self in
    words_zero 64 a.hi a.lo

pub returns-clause-fits : goal.returns-clause-fits
returns-clause-fits c =
    let s = c.args.self in
    words_lt 64 s.hi s.lo (omega arith) (omega arith)
