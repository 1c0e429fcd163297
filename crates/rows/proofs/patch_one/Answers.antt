-- One store.
use Rattle.rows.specs.Rows.{patched}
use Rattle.rows.proofs.patch_one.Goals as goal

pub returns : goal.returns
unfolding patched
returns c = rw (c.byte_at.ensures, c.from.ensures)
