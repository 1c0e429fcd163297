-- How many relevant rings pass through a bond, and through an atom.
use Rattle.std.specs.Prelude.{◌≡◌, List, ◌↔◌, ℕ, zero, suc, ◌+◌, ◌*◌, ◌<◌, length, get_or}
use Rattle.spans.specs.Elements.{◌∈◌, Once}
use Rattle.spans.specs.Graded.{total}
use Rattle.bondset.specs.Sets.{bit}
use Rattle.cycles.specs.Compound.{Compound, m}
use Rattle.cycles.specs.Ring.{degree, Relevant}
use Rattle.cycles.specs.Rows.{Row}

-- Exactly k things have P: a list of them all, each once.
pub record Exactly {X : Type 0} (k : ℕ) (P : X → Type 0) : Type 0 where
  pub listed : List X
  pub once : Once listed
  pub all : (x : X) → (x ∈ listed) ↔ P x
  pub count : length listed ≡ k

-- f 0 + .. + f (k - 1).
unfoldable pub sum_to : ℕ → (ℕ → ℕ) → ℕ
sum_to zero f = 0
sum_to (suc k) f = sum_to k f + f k

-- "The sum, over families, of length times size."
abbrev pub lengths_times_sizes : List Row → ℕ
lengths_times_sizes rows = total (λ row. row.family.long * row.size) rows

module _ (c : Compound) where
  -- C is a relevant ring and has P.
  pub record RelevantWith (P : ℕ → Type 0) (C : ℕ) : Type 0 where
    pub relevant : Relevant c C
    pub has : P C

  -- C is a relevant ring that holds bond k.
  abbrev pub ThroughBond : ℕ → ℕ → Type 0
  ThroughBond k = RelevantWith (λ C. bit C k ≡ 1)

  -- C is a relevant ring that meets atom a.
  abbrev pub ThroughAtom : ℕ → ℕ → Type 0
  ThroughAtom a = RelevantWith (λ C. 0 < degree c C a)

  -- "Each entry counts the members of all kept families that hold the bond": entry k, exactly the relevant rings that hold bond k.
  abbrev pub BondEntries : (ℕ → ℕ) → Type 0
  BondEntries entry = (k : ℕ) → k < m c → Exactly (entry k) (ThroughBond k)

  -- "The same for atoms": entry a, exactly the relevant rings that meet atom a.
  abbrev pub AtomEntries : (ℕ → ℕ) → Type 0
  AtomEntries entry = (a : ℕ) → a < c.n → Exactly (entry a) (ThroughAtom a)

  -- The table of the bonds: an entry for each.
  pub record BondCounts (entries : List ℕ) : Type 0 where
    pub many : length entries ≡ m c
    pub entry : BondEntries (λ k. get_or entries k 0)

  -- The table of the atoms.
  pub record AtomCounts (entries : List ℕ) : Type 0 where
    pub many : length entries ≡ c.n
    pub entry : AtomEntries (λ a. get_or entries a 0)
