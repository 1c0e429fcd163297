-- Walks from an atom, as the steps taken: each step holds its bond and the atom it leads to.
use Rattle.std.specs.Prelude.{◌≡◌, Bool, true, false, ◌||◌, ℕ, zero, suc, ◌<◌}
use Rattle.graphs.specs.Count.{xor, same}
use Rattle.graphs.specs.Graph.{Graph, BondSet, Joins}

-- The steps of a walk: each by a bond to an atom.
pub data Steps : Type 0 where
  end : Steps
  go : ℕ → ℕ → Steps → Steps

-- The atom where a walk from u ends.
abbrev pub last : ℕ → Steps → ℕ
last u end = u
last u (go k w p) = last w p

-- The number of steps.
abbrev pub len : Steps → ℕ
len end = 0
len (go k w p) = suc (len p)

-- The i-th atom of a walk from u, u being the 0-th.
abbrev pub atom : ℕ → Steps → ℕ → ℕ
atom u p zero = u
atom u end (suc i) = u
atom u (go k w p) (suc i) = atom w p i

-- The sum of the bonds of the steps.
abbrev pub edges : Steps → BondSet
edges end j = false
edges (go k w p) j = xor (same k j) (edges p j)

-- Whether a step leads to a.
abbrev pub heads : Steps → ℕ → Bool
heads end a = false
heads (go k w p) a = same w a || heads p a

-- Whether a walk from u meets a.
abbrev pub visits : ℕ → Steps → ℕ → Bool
visits u p a = same u a || heads p a

-- Each step goes along its bond.
abbrev pub IsWalk : Graph → ℕ → Steps → Type 0
IsWalk G u end = Unit {0}
IsWalk G u (go k w p) = (k < G.m) × Joins G k u w × IsWalk G w p

-- The atoms of a walk from u are distinct.
abbrev pub Distinct : ℕ → Steps → Type 0
Distinct u end = Unit {0}
Distinct u (go k w p) = (visits w p u ≡ false) × Distinct w p

-- The steps go along bonds of S.
abbrev pub Within : BondSet → Steps → Type 0
Within S end = Unit {0}
Within S (go k w p) = (S k ≡ true) × Within S p
