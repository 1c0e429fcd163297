-- `read_bonds` goes from line to line: the bytes of the bonds before are stored, and the remainder is still to be read.
use Rattle.housetext.specs.Text.{passes}
use Rattle.housetext.proofs.Reading.{Along}
use Rattle.housetext.proofs.read_bonds.Given as goal

abbrev pub invariant-loop-k : goal.invariant-loop-k
invariant-loop-k l = Along l.text (passes l.said.atoms l.said.bonds) l.said.bonds l.initial.bonds l.bonds l.rest l.k
