-- A bond that is not fine, and then the pieces.
use Rattle.std.proofs.lemmas.Result.{err_from_is_err_and}
use mathlib.Core.Path.{sym, ◌∙◌}
use Rattle.rings.proofs.Grounding.{refused_bond, refused_pieces, stands}
use Rattle.rings.proofs.call.admit.Goals as goal

pub returns-in_err-read-clause-refused : goal.returns-in_err-read-clause-refused
returns-in_err-read-clause-refused c =
    let p = err_from_is_err_and c.from_residual.result c.from_residual.ensures.1 in
    rw p.1 (refused_bond _ c.requires.within _ p.2 c.in_err-read.ensures.reading)

pub returns-then-in_one_piece-clause-standing : goal.returns-then-in_one_piece-clause-standing
returns-then-in_one_piece-clause-standing c =
    let read = c.in_ok-read.ensures in
    let seen = rw read.n_kept at c.in_one_piece.ensures in
    stands _ c.requires.within c.read.new.net read.reading read.n_kept (sym c.if-in_one_piece.true ∙ seen)

pub returns-else-in_one_piece-clause-refused : goal.returns-else-in_one_piece-clause-refused
returns-else-in_one_piece-clause-refused c =
    let read = c.in_ok-read.ensures in
    let seen = rw read.n_kept at c.in_one_piece.ensures in
    refused_pieces _ c.requires.within c.read.new.net read.reading (sym c.if-in_one_piece.false ∙ seen)
