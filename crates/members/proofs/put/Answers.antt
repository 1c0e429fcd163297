-- The part has room for 12 bytes.
use Rattle.bondset.specs.Sets.{value}
use Rattle.bondset.proofs.Bytes.{length_bytes_of}
use Rattle.members.proofs.Places.{put_part}
use Rattle.members.proofs.put.Goals as goal

pub returns : goal.returns
returns c = put_part c.args.rings.now c.args.j c.requires _ _ (length_bytes_of 12 (value c.args.v)) c.to_bytes.ensures
