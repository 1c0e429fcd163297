-- `class`: the line's five pieces, one after the other.
use Rattle.std.proofs.Common.{◌≡◌, ◌+◌, ◌*◌, get_or, arith}
use Rattle.listingtext.proofs.Writing.{adds_as, adds_then, class_pieces}
use Rattle.listingtext.proofs.Page.class.Goals as goal

pub returns-clause-adds : goal.returns-clause-adds
returns-clause-adds c =
    let families : c.from.result ≡ get_or c.args.row.now 2 0 + 256 * get_or c.args.row.now 3 0 = omega (arith, c.from.ensures, c.from_le_bytes-families.ensures) in
    adds_as (class_pieces c.args.class c.args.row.now _ _ c.requires.in_bounds families c.from-2.ensures)
    (adds_then c.word.ensures.adds
    (adds_then c.ended.ensures.adds
    (adds_then c.commas.ensures.adds (adds_then c.ended-2.ensures.adds c.ended-3.ensures.adds))))
