-- `family`: the line's five pieces, one after the other.
use Rattle.listingtext.proofs.Writing.{adds_as, adds_then, family_pieces}
use Rattle.listingtext.proofs.Page.family.Goals as goal

pub returns-clause-adds : goal.returns-clause-adds
returns-clause-adds c =
    adds_as (family_pieces c.args.row.now c.args.size c.requires.in_bounds)
    (adds_then c.word.ensures.adds
    (adds_then c.commas.ensures.adds (adds_then c.cross.ensures.adds (adds_then c.commas-2.ensures.adds c.ended.ensures.adds))))
