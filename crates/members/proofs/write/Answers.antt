-- The link, then the last block, then all blocks; each call has the room that it asks for.
use Rattle.std.proofs.Common.{length}
use Rattle.bondset.specs.Sets.{value}
use Rattle.members.proofs.Writing.{write_none, write_all}
use Rattle.members.proofs.write.Goals as goal

pub returns-then-n-eq0 : goal.returns-then-n-eq0
returns-then-n-eq0 c =
    let a = c.args in
    write_none a.net.now.adj a.net.now.touch a.layers.now a.rings.now (length a.layers.now) a.p a.q (value a.link) a.b c.requires.counted c.if-n-eq0.true

pub returns : goal.returns
returns c =
    let a = c.args in
    write_all a.net.now.adj a.net.now.touch a.layers.now a.rings.now (length a.layers.now) a.p a.q (value a.link) a.b c.requires.counted c.if-n-eq0.false _ c.put.ensures _ _ c.list.ensures _ _ c.list-2.ensures
