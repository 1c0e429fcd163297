-- Rings, sums of rings, relevant rings, and cycles as walks.
use Rattle.std.specs.Prelude.{◌≡◌, false, ◌⊎◌, List, [], ◌∷◌, ℕ, ◌<◌}
use Rattle.graphs.specs.Count.{xor, cnt, flip}
use Rattle.graphs.specs.Graph.{Graph, BondSet, Joins, deg, Closed, Agree}
use Rattle.graphs.specs.Walk.{Steps, last, edges, IsWalk, Distinct, Within}

-- A walk along bonds of S leads from a to b.
pub record Joined (G : Graph) (S : BondSet) (a b : ℕ) : Type 0 where
  pub by : Steps
  pub walk : IsWalk G a by
  pub ends : last a by ≡ b
  pub within : Within S by

-- A closed set that is not empty, is connected, and meets each of its atoms exactly twice.
pub record Ring (G : Graph) (S : BondSet) : Type 0 where
  pub some : 0 < cnt S G.m
  pub closed : Closed G S
  pub two : (a : ℕ) → (deg G S a ≡ 0) ⊎ (deg G S a ≡ 2)
  pub joined : (a b : ℕ) → 0 < deg G S a → 0 < deg G S b → Joined G S a b

-- Each member of the list has P.
abbrev pub Each : {X : Type 0} → (X → Type 0) → List X → Type 0
Each P [] = Unit {0}
Each P (R ∷ L) = P R × Each P L

-- The sum of a list of bond sets.
abbrev pub sum_all : List BondSet → BondSet
sum_all [] k = false
sum_all (R ∷ L) k = xor (R k) (sum_all L k)

-- S is the sum of a list of sets that have P.
pub record SumOf (G : Graph) (P : BondSet → Type 0) (S : BondSet) : Type 0 where
  pub rings : List BondSet
  pub all : Each P rings
  pub is : Agree G S (sum_all rings)

-- R is a ring of fewer than s bonds.
abbrev pub Shorter : Graph → ℕ → BondSet → Type 0
Shorter G s R = Ring G R × (cnt R G.m < s)

-- A ring that is no sum of shorter rings.
pub record Relevant (G : Graph) (S : BondSet) : Type 0 where
  pub ring : Ring G S
  pub alone : SumOf G (Shorter G (cnt S G.m)) S → ⊥

-- The atoms w, .., u of the walk p are distinct, and a bond k that is none of its bonds leads from u to w.
pub record Cycle (G : Graph) : Type 0 where
  pub k : ℕ
  pub u : ℕ
  pub w : ℕ
  pub p : Steps
  pub k_in : k < G.m
  pub joins : Joins G k u w
  pub walk : IsWalk G w p
  pub ends : last w p ≡ u
  pub distinct : Distinct w p
  pub fresh : edges p k ≡ false

-- The bonds of a cycle.
abbrev pub cset : (G : Graph) → Cycle G → BondSet
cset G C = flip C.k (edges C.p)
