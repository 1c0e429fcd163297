-- The row of a takes bond k in.
use mathlib.Core.Path.{ap, ap₂, ◌∙◌}
use lib.Bits.{bit_xor}
use Rattle.bondset.specs.Rows.{put_row}
use Rattle.model.specs.Net.{touch1}
use Rattle.reading.proofs.touch_at.Goals as goal

pub returns : goal.returns
unfolding touch1
returns c =
    let a = c.args in
    c.put_row.ensures
    ∙ ap (put_row a.touch.now a.a) (c.sum-row.ensures ∙ ap₂ bit_xor c.row_at.ensures c.single.ensures)
