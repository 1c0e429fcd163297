use Rattle.std.proofs.Common.{ap, ◌∙◌, [], length, arith, rules}
use Rattle.std.specs.Int.Bits.{bit_xor}
use Rattle.bondset.proofs.Members.{first_lt}
use Rattle.members.specs.Listed.{set_of}
use Rattle.members.proofs.Listing.{bond_net, top_below, top_listed, last_layer, going_start, going_room, going_more, going_end, room_front, listed_front}
use Rattle.members.proofs.+list.Goals as goal

pub block-requires-clause-at_le_from : goal.block-requires-clause-at_le_from
block-requires-clause-at_le_from t c =
    let a = c.args in
    top_below a.net.now.adj a.net.now.touch a.layers.now a.rings.now [] (length a.layers.now) a.t 0 a.count a.at c.in_default.ensures.cases c.requires.room

pub returns-in_default : goal.returns-in_default
returns-in_default t c =
    let a = c.args in
    top_listed a.net.now.adj a.net.now.touch a.layers.now a.rings.now _ (length a.layers.now) a.t (set_of a.lo a.hi) a.count a.at c.in_default.ensures.cases c.block.ensures

pub loop-s-init : goal.loop-s-init
loop-s-init t c =
    let last = c.in-Some.ensures.cases in
    rw (c.into_iter-s-iterator.ensures.into_iter_gives, c.each-s-items.ensures)
    (search rules, search rules, going_start _ _ _ _ _ _ _ _ _ _ (omega (arith, last.1)) (last_layer _ _ last.0) c.requires.room)

pub bond-requires-clause-b_bound : goal.bond-requires-clause-b_bound
bond-requires-clause-b_bound t c = first_lt 64 _ _ _ c.in-Some-s.ensures.steps

-- The atom is one of 64, and there is room for the paths from it.
pub list-next-requires : goal.list-next-requires
list-next-requires t c =
    let a = c.args in
    let last = c.in-Some.ensures.cases in
    let more = c.in-Some-s.ensures.steps in (
      omega (arith, last.1),
      (
        first_lt 64 _ _ _ more,
        room_front _ _ last.0 a.net.now.adj _ _ (omega arith) (going_room _ _ _ _ _ _ _ _ _ _ c.loop-s.invariant.2 c.requires.room.source more),
      ),
    )

pub loop-s-preserved : goal.loop-s-preserved
loop-s-preserved t c =
    let a = c.args in
    let last = c.in-Some.ensures.cases in (
      search rules,
      search rules,
      going_more _ _ _ _ _ _ _ _ _ _ c.loop-s.invariant.2 c.requires.room.source c.in-Some-s.ensures.steps
          (c.sum-set.ensures ∙ ap (bit_xor (set_of a.lo a.hi)) (c.bond.ensures ∙ bond_net a.net.now.adj a.net.now.touch a.t c.in-Some-s.s))
          (listed_front _ _ last.0 a.net.now.adj _ _ (omega arith) c.list-next.ensures),
    )

pub returns : goal.returns
returns t c = going_end _ _ _ _ _ _ _ _ _ _ c.in-None.ensures.steps.0 c.loop-s.invariant.2
