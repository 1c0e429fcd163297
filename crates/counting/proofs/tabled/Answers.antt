use Prim.Native.Nat.{◌<◌}
use native.Mathlib.Omega.{arith}
use borrow.Author.Rules.{rules}
use Rattle.counting.proofs.Tables.{layer_lt, table_start}
use Rattle.counting.proofs.tabled.Goals as goal
use Rattle.counting.proofs.tabled.Goals.{Start}

pub loop-e-init : goal.loop-e-init
loop-e-init c =
    let a = c.args in
    table_start a.adj.now a.layers.now _ c.ones.ensures

-- Both atoms are among 64.
p_lt : (s : Start) → s.args.p < 64
p_lt s = layer_lt s.args.adj.now s.args.layers.now s.args.d s.requires.disjoint s.args.p s.requires.p_value

q_lt : (s : Start) → s.args.q < 64
q_lt s = layer_lt s.args.adj.now s.args.layers.now s.args.d s.requires.disjoint s.args.q s.requires.q_value

pub offset_bounds-counts-p : goal.offset_bounds-counts-p
offset_bounds-counts-p c = omega (arith, p_lt (goal.at.offset_bounds-counts-p c).Start)

pub bounds-counts-p : goal.bounds-counts-p
bounds-counts-p c = let h = p_lt (goal.at.bounds-counts-p c).Start in search rules

pub offset_bounds-counts-q : goal.offset_bounds-counts-q
offset_bounds-counts-q c = omega (arith, q_lt (goal.at.offset_bounds-counts-q c).Start)

pub bounds-counts-q : goal.bounds-counts-q
bounds-counts-q c = let h = q_lt (goal.at.bounds-counts-q c).Start in search rules
