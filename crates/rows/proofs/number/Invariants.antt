-- The loop's invariant: what is left of the rings takes the numbers to what they are in the end.
use Rattle.std.proofs.Common.{◌≡◌, ◌-◌}
use Rattle.model.specs.Fold.{through, count}
use Rattle.rows.specs.Rows.{numbers_of, numbered_in}
use Rattle.rows.proofs.Numbering.{Before}
use Rattle.rows.proofs.number.Given as goal

abbrev pub invariant-loop-i : goal.invariant-loop-i
invariant-loop-i l = record {
  before : Before l.i (numbers_of l.labels l.c l.table);
  rest : through (numbered_in l.k l.holds) (count l.i (l.to - l.i)) (numbers_of l.labels l.c l.table)
      ≡ through (numbered_in l.k l.holds) (count l.from (l.to - l.from)) (numbers_of l.initial.labels l.initial.c l.initial.table);
}
