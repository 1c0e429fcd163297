-- The bytes that are copied are the row.
use Rattle.std.proofs.Common.{◌/◌, length, lt-ltb, le-ltb, refl, ◌∙◌, arith}
use Rattle.std.proofs.lemmas.Slice.{put_mid-paste}
use Rattle.rows.specs.Rows.{put_family, family_bytes}
use Rattle.rows.specs.Values.{family_of}
use Rattle.rows.proofs.Family.put_family.Goals as goal

pub returns-then-i-out : goal.returns-then-i-out
unfolding put_family family_bytes
returns-then-i-out c =
    let a = c.args in
    rw (lt-ltb a.i (length a.out.now / 8) c.if-i-out.true)
    (put_mid-paste _ _ a.out.now c.copy_from_slice.new.self (family_bytes (family_of a.self) a.mark a.class) 8 (c.copy_from_slice.ensures.after ∙ rw c.cross.ensures) (omega arith) refl)

pub returns-else-i-out : goal.returns-else-i-out
unfolding put_family
returns-else-i-out c =
    let a = c.args in
    rw (le-ltb a.i (length a.out.now / 8) c.if-i-out.false)
