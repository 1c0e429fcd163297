-- The pivot is entered as fresh, or the row as late.
use mathlib.Core.Path.{sym, ap, ◌∙◌}
use native.Mathlib.Omega.{arith}
use lib.Bits.{bit_xor, xor_comm, xor_zero_l}
use lib.Count.{trailing_le}
use lib.ListN.{length}
use borrow.Author.Tests.{eqb-true, eqb-false}
use Rattle.bondset.specs.Sets.{value}
use Rattle.bondset.proofs.Laws.{words_lt}
use Rattle.bondset.proofs.IndexPush.{new_of_lem, place_lt, enters_late, enters_fresh}
use Rattle.bondset.proofs.indexed.Index.enter.Goals as goal

pub overflow_cast-pivots : goal.overflow_cast-pivots
overflow_cast-pivots c =
    let a = c.args in
    omega (arith, c.lowest.ensures, trailing_le 128 (value a.rest))

pub returns-then-is_empty : goal.returns-then-is_empty
returns-then-is_empty c =
    let a = c.args in
    let x = a.self.now in
    let none = sym c.is_empty.ensures.empty ∙ c.if-is_empty.true in
    enters_late a.pivots.now a.place.now (value x.fresh) (value x.late) (value x.all) a.count (value a.rest)
    (new_of_lem (value x.all) (value a.rest) (value c.intersection.result) (value c.sum-new.result) c.intersection.ensures c.sum-new.ensures)
    (sym (ap (bit_xor (value x.all)) (eqb-true (value c.sum-new.result) 0 none) ∙ xor_comm (value x.all) 0 ∙ xor_zero_l (value x.all))) none
    c.lowest.ensures (c.sum-self.ensures ∙ ap (bit_xor (value x.late)) c.single.ensures)

pub overflow_cast-pivots-2 : goal.overflow_cast-pivots-2
overflow_cast-pivots-2 c = omega (arith, c.lowest-b.ensures, trailing_le 128 (value c.sum-new.result))

pub overflow_cast-place : goal.overflow_cast-place
overflow_cast-place c = omega (arith, c.lowest-b.ensures, trailing_le 128 (value c.sum-new.result))

pub bounds-place-b : goal.bounds-place-b
bounds-place-b c =
    let new = c.sum-new in
    place_lt (value new.result) c.lowest-b.result (length c.args.place.now)
    (eqb-false (value new.result) 0 (sym c.is_empty.ensures.empty ∙ c.if-is_empty.false))
    (words_lt 64 new.result.hi new.result.lo (omega arith) (omega arith)) c.lowest-b.ensures c.requires.in_bounds

pub returns : goal.returns
returns c =
    let a = c.args in
    let x = a.self.now in
    enters_fresh a.pivots.now a.place.now (value x.fresh) (value x.late) (value x.all) a.count (value a.rest)
    (new_of_lem (value x.all) (value a.rest) (value c.intersection.result) (value c.sum-new.result) c.intersection.ensures c.sum-new.ensures)
    c.sum-self-3.ensures (sym c.is_empty.ensures.empty ∙ c.if-is_empty.false)
    c.lowest-b.ensures (c.sum-self-2.ensures ∙ ap (bit_xor (value x.fresh)) c.single-2.ensures)
