-- The counts, the test, and the rings.
use Rattle.std.proofs.Common.{arith, ◌<◌, get_or}
use Rattle.bondset.specs.Sets.{value}
use Rattle.counting.specs.Counts.{Counted}
use Rattle.counting.proofs.Tables.{layer_lt}
use Rattle.members.proofs.Answering.{short, counted, written}
use Rattle.members.proofs.rings.Goals as goal
use Rattle.members.proofs.rings.Goals.{Start, After-count}

p_lt : (s : Start) → s.args.p < 64
p_lt s = layer_lt s.args.net.now.adj s.args.layers.now s.args.d s.requires.disjoint s.args.p s.requires.ends.one

q_lt : (s : Start) → s.args.q < 64
q_lt s = layer_lt s.args.net.now.adj s.args.layers.now s.args.d s.requires.disjoint s.args.q s.requires.ends.other

-- The table has the counts of p and of q.
tabled : (c : After-count)
    → Counted c.args.net.now.adj c.args.layers.now c.args.d c.args.p c.args.q
    (record { from_p = get_or c.count.new.counts c.args.p 0; from_q = get_or c.count.new.counts c.args.q 0 })
tabled c =
    let a = c.args in
    record {
      one = c.count.ensures.holds a.d a.p (omega arith) c.requires.ends.one;
      other = c.count.ensures.holds a.d a.q (omega arith) c.requires.ends.other;
    }

pub bounds-counts-p : goal.bounds-counts-p
bounds-counts-p c = omega (arith, p_lt (goal.at.bounds-counts-p c).Start, c.requires.sized.room)

pub offset_bounds-counts-p : goal.offset_bounds-counts-p
offset_bounds-counts-p c = omega (arith, p_lt (goal.at.offset_bounds-counts-p c).Start)

pub bounds-counts-q : goal.bounds-counts-q
bounds-counts-q c = omega (arith, q_lt (goal.at.bounds-counts-q c).Start, c.requires.sized.room)

pub offset_bounds-counts-q : goal.offset_bounds-counts-q
offset_bounds-counts-q c = omega (arith, q_lt (goal.at.offset_bounds-counts-q c).Start)

pub returns-in_err-n : goal.returns-in_err-n
returns-in_err-n c =
    let a = c.args in
    rw c.from_residual.ensures (short (tabled (goal.at.returns-in_err-n c).After-count) a.net.now.touch (value a.link) c.in_err-n.ensures)

pub write-requires : goal.write-requires
write-requires c =
    let a = c.args in
    record {
      p_bound = p_lt (goal.at.write-requires c).Start;
      q_bound = q_lt (goal.at.write-requires c).Start;
      counted = counted (tabled (goal.at.write-requires c).After-count) a.net.now.touch (value a.link) a.rings.now (omega (arith, c.requires.sized.deep)) c.in_ok-n.ensures;
    }

pub returns : goal.returns
returns c =
    let a = c.args in
    written (tabled (goal.at.returns c).After-count) a.net.now.touch (value a.link) a.rings.now (omega (arith, c.requires.sized.deep)) c.in_ok-n.ensures c.write.ensures
