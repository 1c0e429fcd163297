-- The bytes that are read are those of the row.
use Rattle.std.proofs.Common.{◌+◌, ◌*◌, ◌%◌, ◌∙◌, arith}
use Rattle.rows.specs.Rows.{more_class}
use Rattle.rows.proofs.Bytes.{class_bytes_same}
use Rattle.rows.proofs.more_class.Goals as goal

pub returns : goal.returns
unfolding more_class
returns c =
    let k = c.byte_at-k.result in
    let rank = c.byte_at-rank.result in
    let families = c.from_le_bytes.result + c.args.held in
    let read = c.byte_at-low.result + 256 * c.byte_at-high.result + c.args.held in
    c.put_class.ensures
    ∙ rw (
      ← c.byte_at-k.ensures,
      ← c.byte_at-rank.ensures,
      ← c.byte_at-low.ensures,
      ← c.byte_at-high.ensures,
      class_bytes_same k ((rank + 1) % 256) (rank + 1) (families % 65536) read (omega arith) (omega arith),
    )
