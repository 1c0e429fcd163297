-- The word that the search is compared with is that of all atoms.
use Rattle.std.proofs.Common.{ap₂, eqb}
use Rattle.search.proofs.Words.{below_all}
use Rattle.search.proofs.in_one_piece.Goals as goal

pub returns : goal.returns
returns c = ap₂ eqb c.reached.ensures (below_all c.args.n c.requires.n_bound)
