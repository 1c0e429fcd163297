-- There is a p left, or none and an x, or neither.
use Rattle.std.proofs.Common.{arith, rules}
use Rattle.bondset.proofs.Members.{first_lt}
use Rattle.candidates.specs.Cursor.{ahead}
use Rattle.candidates.proofs.Ahead.{ahead_p, ahead_x, ahead_none}
use Rattle.candidates.proofs.cursor.Cursor.step.Goals as goal

pub partners-self-requires : goal.partners-self-requires
partners-self-requires c = first_lt 64 _ _ _ c.in-Some.ensures

pub offset_bounds-self-x : goal.offset_bounds-self-x
offset_bounds-self-x c = omega (arith, first_lt 64 _ _ _ c.in_ok-x.ensures)

pub bounds-self-x : goal.bounds-self-x
bounds-self-x c = omega (arith, first_lt 64 _ _ _ c.in_ok-x.ensures, c.args.self.now.long)

pub returns-in-Some : goal.returns-in-Some
unfolding ahead
returns-in-Some c = ahead_p c.args.self.now c.requires _ _ _ c.in-Some.ensures c.partners-self.ensures

pub returns-in_ok-x : goal.returns-in_ok-x
unfolding ahead
returns-in_ok-x c = ahead_x c.args.self.now c.requires _ _ c.in_default.ensures c.in_ok-x.ensures

pub returns-in_err-x : goal.returns-in_err-x
returns-in_err-x c = search (rules, ahead_none c.args.self.now c.requires c.in_default.ensures c.in_err-x.ensures)
