-- The bytes that are copied are the row.
use Rattle.std.proofs.Common.{◌≡◌, ◌/◌, ◌%◌, length, lt-ltb, refl, arith}
use Rattle.std.proofs.lemmas.Slice.{put_mid-paste}
use Rattle.rows.specs.Rows.{class_bytes}
use Rattle.rows.proofs.put_class.Goals as goal

pub returns-then-c-table : goal.returns-then-c-table
unfolding class_bytes
returns-then-c-table c =
    let a = c.args in
    let rank : a.rank % 256 ≡ a.rank = omega arith in
    let families : a.families % 65536 ≡ a.families = omega arith in
    let row : c.copy_from_slice.new.self ≡ class_bytes a.k a.rank a.families = grind (arith, c.copy_from_slice.ensures.after, c.to_le_bytes.ensures, c.from.ensures, rank, families) in
    rw (lt-ltb a.c (length a.table.now / 5) c.if-c-table.true)
    (put_mid-paste _ _ a.table.now c.copy_from_slice.new.self (class_bytes a.k a.rank a.families) 5 row (omega arith) refl)
