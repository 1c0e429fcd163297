-- One path leads from either atom, or the table counts them.
use Rattle.counting.proofs.Tables.{layer_lt}
use Rattle.counting.proofs.ways.Goals as goal

pub lone-requires-clause-t_bound : goal.lone-requires-clause-t_bound
lone-requires-clause-t_bound c = layer_lt c.args.adj.now c.args.layers.now c.args.d c.requires.disjoint c.args.p c.requires.p_value

pub lone-requires-then-lone-clause-t_bound : goal.lone-requires-then-lone-clause-t_bound
lone-requires-then-lone-clause-t_bound c =
    layer_lt c.args.adj.now c.args.layers.now c.args.d c.requires.disjoint c.args.q c.requires.q_value
