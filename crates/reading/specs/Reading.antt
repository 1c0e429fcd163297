-- What reading a compound's bonds ends with.
use Rattle.std.specs.Prelude.{◌≡◌, ⊤, ◌||◌, Result, Ok, Err, List, ℕ, eqb, leb, get_or}
use Rattle.bondset.specs.Sets.{has}
use Rattle.cycles.specs.Compound.{Compound, m}
use Rattle.model.specs.Net.{adj_of, touch_of}
use Rattle.model.specs.Fault.{Fault, none, fault, or_else, when, first_of, bond_fault}
use Rattle.reading.specs.declared.Fault.{Fault as BondFault}
use Rattle.reading.specs.declared.Fault.TheVariants.{NoAtom, Loop, Again}

-- n atoms and the bonds that these bytes name.
abbrev pub compound : ℕ → List ℕ → Compound
compound n bytes = record { n = n; bytes = bytes }

-- What comes of reading: all bonds are fine, or the first that is not.
abbrev pub Outcome : Type 0
Outcome = Result ⊤ BondFault

-- The refusal's number and place.
unfoldable pub fault_of : Outcome → Fault
fault_of (Ok _) = none
fault_of (Err (NoAtom k)) = fault 3 k
fault_of (Err (Loop k)) = fault 4 k
fault_of (Err (Again k)) = fault 5 k

-- How many bonds were read: all, or those before the one that is not fine.
unfoldable pub bonds_read : Compound → Outcome → ℕ
bonds_read c (Ok _) = m c
bonds_read c (Err (NoAtom k)) = k
bonds_read c (Err (Loop k)) = k
bonds_read c (Err (Again k)) = k

-- The fault of a bond k from a to b, by the neighbours that the bonds before it gave.
unfoldable pub fault_by : ℕ → List ℕ → ℕ → ℕ → ℕ → Fault
fault_by n adj a b k =
    or_else (when (leb n a || leb n b) (fault 3 k)) (or_else (when (eqb a b) (fault 4 k)) (when (has (get_or adj a 0) b) (fault 5 k)))

-- The first fault of a bond is told, and the neighbours and the bonds of each atom are those of the bonds read.
pub record Reading (c : Compound) (r : Outcome) (adj touch : List ℕ) : Type 0 where
  pub fault : fault_of r ≡ first_of (m c) (bond_fault c)
  pub neighbours : adj ≡ adj_of c (bonds_read c r)
  pub bonds : touch ≡ touch_of c (bonds_read c r)
