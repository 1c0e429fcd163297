-- The union works on each word.
use mathlib.Core.Path.{sym, ap, ◌∙◌}
use lib.Bits.{bit_or, or_block}
use native.Mathlib.Omega.{arith}
use Rattle.bondset.specs.Sets.{value}
use Rattle.bondset.proofs.Laws.{single_below}
use Rattle.labels.proofs.with.Goals as goal

pub returns : goal.returns
returns c =
    let a = c.args.a in
    let k = c.args.k in
    let b = c.single-b.result in
    sym (ap (bit_or (value a)) (sym (single_below k c.requires) ∙ sym c.single-b.ensures)
    ∙ or_block 64 a.hi b.hi a.lo b.lo (omega arith) (omega arith))
