-- Walks and cycles as lists of atoms.
use Rattle.std.specs.Prelude.{◌≡◌, Bool, false, ◌&&◌, ◌||◌, cond, List, [], ◌∷◌, ℕ, zero, suc, ◌≤◌, ◌<◌, length}
use Rattle.graphs.specs.Count.{xor, same, flip}
use Rattle.graphs.specs.Graph.{Graph, BondSet, Joins}

-- A bond joins u and w.
abbrev pub Bonded : Graph → ℕ → ℕ → Type 0
Bonded G u w = (k : ℕ) × (k < G.m) × Joins G k u w

-- Consecutive atoms of u ∷ l are bonded.
abbrev pub Chain : Graph → ℕ → List ℕ → Type 0
Chain G u [] = Unit {0}
Chain G u (w ∷ l) = Bonded G u w × Chain G w l

-- The last atom of u ∷ l.
abbrev pub last_l : ℕ → List ℕ → ℕ
last_l u [] = u
last_l u (w ∷ l) = last_l w l

-- Whether a is in the list.
abbrev pub mem : List ℕ → ℕ → Bool
mem [] a = false
mem (x ∷ l) a = same x a || mem l a

-- No atom stands twice in the list.
abbrev pub Nodup : List ℕ → Type 0
Nodup [] = Unit {0}
Nodup (x ∷ l) = (mem l x ≡ false) × Nodup l

-- Whether bond k joins u and w.
unfoldable pub joinsb : Graph → ℕ → ℕ → ℕ → Bool
joinsb G k u w = (same (G.src k) u && same (G.tgt k) w) || (same (G.src k) w && same (G.tgt k) u)

-- The last bond before n that joins u and w, or m.
unfoldable pub look : Graph → ℕ → ℕ → ℕ → ℕ
look G u w zero = G.m
look G u w (suc n) = cond (joinsb G n u w) n (look G u w n)

-- The bond that joins u and w, or m.
unfoldable pub bond_of : Graph → ℕ → ℕ → ℕ
bond_of G u w = look G u w G.m

-- The sum of the bonds of consecutive atoms of u ∷ l.
abbrev pub edges_l : Graph → ℕ → List ℕ → BondSet
edges_l G u [] j = false
edges_l G u (w ∷ l) j = xor (same (bond_of G u w) j) (edges_l G w l j)

-- The list w ∷ l has three atoms or more, distinct, consecutive ones bonded, and the last bonded to the first.
pub record CycleList (G : Graph) (w : ℕ) (l : List ℕ) : Type 0 where
  pub three : 3 ≤ length (w ∷ l)
  pub chain : Chain G w l
  pub nodup : Nodup (w ∷ l)
  pub close : Bonded G (last_l w l) w

-- The bonds of such a list.
abbrev pub cycle_set : Graph → ℕ → List ℕ → BondSet
cycle_set G w l = flip (bond_of G (last_l w l) w) (edges_l G w l)
