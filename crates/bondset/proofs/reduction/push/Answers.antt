use mathlib.Core.Path.{ap, ◌∙◌}
use native.Mathlib.Omega.{arith}
use lib.Bits.{bit_xor}
use lib.Count.{trailing_le}
use lib.ListN.{set}
use Rattle.bondset.specs.Sets.{value}
use Rattle.bondset.specs.Rows.{put_row, flat}
use Rattle.bondset.specs.Reduction.{pushed_tag, pivot_of}
use Rattle.bondset.proofs.Rows.{put_flat}
use Rattle.bondset.proofs.reduction.push.Goals as goal

pub overflow_cast-pivots : goal.overflow_cast-pivots
overflow_cast-pivots c =
    let a = c.args in
    omega (arith, c.lowest.ensures, trailing_le 128 (value a.v.rest))

pub returns : goal.returns
unfolding pushed_tag pivot_of
returns c =
    let a = c.args in
    record {
      row_stored = put_flat a.rows.now a.count a.v.rest (omega arith);
      tag_stored =
          put_flat a.tags.now a.count c.sum.result (omega arith)
          ∙ ap (put_row (flat a.tags.now) a.count) (c.sum.ensures ∙ ap (bit_xor (value a.v.used)) c.single.ensures);
      pivot_stored = ap (set a.pivots.now a.count) c.lowest.ensures;
    }
