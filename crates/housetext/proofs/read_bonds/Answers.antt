-- `read_bonds`: a line more, or one of the three ways out.
use Rattle.std.proofs.Common.{sym, ◌∙◌, arith, rules}
use Rattle.housetext.proofs.Reading.{along_none, along_more, answers_broken, answers_more, answers_read}
use Rattle.housetext.proofs.read_bonds.Goals as goal

pub loop-k-init : goal.loop-k-init
loop-k-init c = along_none _ _ _ _

pub returns-in_default : goal.returns-in_default
returns-in_default c = answers_broken c.loop-k.invariant (omega arith) (omega arith) (sym c.bond_line.ensures.value ∙ c.in_default.is)

pub loop-k-preserved : goal.loop-k-preserved
loop-k-preserved c = along_more c.loop-k.invariant (omega arith) (omega arith) (sym c.bond_line.ensures.value ∙ c.in-Some.is)

pub returns-then-not-is_empty : goal.returns-then-not-is_empty
returns-then-not-is_empty c = answers_more c.loop-k.invariant (omega arith) (omega arith) (search rules)

pub returns : goal.returns
returns c = answers_read c.loop-k.invariant (omega arith) (omega arith) (search rules)
