-- The plain method, Horton's, with its ties decided: "every atom, every bond, one shortest path from each end of the bond back to the atom, rings
-- sorted by length, greedy choice". Nothing here rests on families.
use Rattle.std.specs.Prelude.{◌≡◌, List, [], ◌∷◌, ◌++◌, ◌↔◌, ℕ, suc, ◌^◌, ◌≤◌}
use Rattle.std.specs.Int.Bits.{bit_xor}
use Rattle.spans.specs.Elements.{◌∈◌}
use Rattle.spans.specs.Basis.{Part, Sum}
use Rattle.bondset.proofs.Group.{bond_sets}
use Rattle.cycles.specs.Compound.{Compound, Joins, Bonded, Distance}
use Rattle.cycles.specs.Ring.{len, Ring, Edges}
use Rattle.cycles.specs.Rows.{Less}

-- What is listed of a ring: its length, its atom, its bond, and its bond set.
pub record Entry : Type 0 where
  pub long : ℕ
  pub atom : ℕ
  pub bond : ℕ
  pub set : ℕ

-- "Rings sorted by length": "rings of equal length stand by atom, then by bond number".
abbrev pub place : Entry → List ℕ
place e = e.long ∷ e.atom ∷ e.bond ∷ []

-- Each entry comes before the next.
pub data Sorted : List Entry → Type 0 where
  none : Sorted []
  one : {e : Entry} → Sorted (e ∷ [])
  more : {e f : Entry} {es : List Entry} → Less (place e) (place f) → Sorted (f ∷ es) → Sorted (e ∷ f ∷ es)

-- S is the sum of some of these.
abbrev pub PlainSum : List ℕ → ℕ → Type 0
PlainSum chosen S = (part : List ℕ) × Part chosen part × (Sum bond_sets part ≡ S)

-- "Greedy choice": in that order a ring is chosen if it is no sum of rings chosen before it.
-- `Greedy before entries after`: the rings chosen before and after the entries.
pub data Greedy : List ℕ → List Entry → List ℕ → Type 0 where
  end : {chosen : List ℕ} → Greedy chosen [] chosen
  choose : {before after : List ℕ} {e : Entry} {es : List Entry} → (PlainSum before e.set → ⊥)
      → Greedy (before ++ (e.set ∷ [])) es after → Greedy before (e ∷ es) after
  pass : {before after : List ℕ} {e : Entry} {es : List Entry} → PlainSum before e.set → Greedy before es after → Greedy before (e ∷ es) after

module _ (c : Compound) where
  -- "Each path steps to the lowest-numbered nearer neighbour": the path from t to v, d steps long, as the list of its atoms.
  pub data Toward (v : ℕ) : ℕ → ℕ → List ℕ → Type 0 where
    top : Toward v v 0 (v ∷ [])
    step : {t next d : ℕ} {path : List ℕ} → Distance c t v (suc d) → Bonded c t next → Distance c next v d
        → ((s : ℕ) → Bonded c t s → Distance c s v d → next ≤ s) → Toward v next d path → Toward v t (suc d) (t ∷ path)

  -- That path: its atoms, and the sum of its bonds.
  pub record Path (v t d : ℕ) : Type 0 where
    pub atoms : List ℕ
    pub toward : Toward v t d atoms
    pub bonds : ℕ
    pub edges : Edges c atoms bonds

  -- S is the ring of atom v and bond j: "one shortest path from each end of the bond back to the atom", and the bond. "Two paths that share any
  -- atom but that one are dropped"; a bond at v makes up no ring.
  pub record PlainRing (v j S : ℕ) : Type 0 where
    pub y : ℕ
    pub z : ℕ
    pub joins : Joins c j y z
    pub steps_y : ℕ
    pub steps_z : ℕ
    pub path_y : Path v y steps_y
    pub path_z : Path v z steps_z
    pub apart : (a : ℕ) → a ∈ path_y.atoms → a ∈ path_z.atoms → a ≡ v
    pub sum : S ≡ bit_xor (bit_xor path_y.bonds path_z.bonds) (2 ^ j)
    pub ring : Ring c S

  -- The list of them all, "every atom, every bond", sorted.
  pub record PlainRings (list : List Entry) : Type 0 where
    pub sorted : Sorted list
    pub all : (e : Entry) → (e ∈ list) ↔ (PlainRing e.atom e.bond e.set × (e.long ≡ len c e.set))

  -- What the plain method chooses, in the order chosen.
  pub record Plain (chosen : List ℕ) : Type 0 where
    pub list : List Entry
    pub rings : PlainRings list
    pub greedy : Greedy [] list chosen
