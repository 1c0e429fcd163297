-- The rows are found by the index with one more, because the rest is not empty and lacks the pivots before.
use mathlib.Core.Path.{ap, ◌∙◌}
use native.Mathlib.Omega.{arith}
use lib.Bits.{bit_xor}
use Rattle.bondset.specs.Sets.{value}
use Rattle.bondset.specs.Rows.{put_row, flat}
use Rattle.bondset.specs.Reduction.{pushed_tag}
use Rattle.bondset.proofs.Rows.{put_flat}
use Rattle.bondset.proofs.IndexPush.{rows_push}
use Rattle.bondset.proofs.indexed.push.Goals as goal

pub returns : goal.returns
unfolding pushed_tag
returns c =
    let a = c.args in
    record {
      row_stored = put_flat a.rows.now a.count a.v.rest (omega arith);
      tag_stored =
          put_flat a.tags.now a.count c.sum.result (omega arith)
          ∙ ap (put_row (flat a.tags.now) a.count) (c.sum.ensures ∙ ap (bit_xor (value a.v.used)) c.single.ensures);
      entered = c.enter.ensures;
      indexed =
          λ before rest lacks.
          rows_push a.rows.now a.count a.v.rest (omega arith) (omega arith) (omega (arith, c.requires))
          (omega (arith, c.requires)) (omega arith) (omega (arith, c.requires)) c.enter.ensures before rest lacks;
    }
