-- With no atom x between them p and its partners are bonded.
use mathlib.Core.Path.{ap}
use lib.Bits.{bit_and}
use lib.ListN.{get_or}
use Rattle.candidates.specs.Cursor.{partners_in}
use Rattle.candidates.proofs.cursor.Cursor.partners.Goals as goal

pub returns-in-Some : goal.returns-in-Some
unfolding partners_in
returns-in-Some c = rw c.in-Some.is c.above-above.ensures

pub returns-in-None : goal.returns-in-None
unfolding partners_in
returns-in-None c = rw c.in-None.is (ap (λ s. bit_and s (get_or c.args.self.now.adj.now c.args.p 0)) c.above-above.ensures)
