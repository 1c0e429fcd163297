-- Bond sets, closed sets, rings, relevant rings.
use Rattle.std.specs.Prelude.{◌≡◌, cond, ◌||◌, List, [], ◌∷◌, ◌⊎◌, ℕ, zero, suc, ◌+◌, ◌*◌, ◌%◌, ◌^◌, ◌<◌, eqb}
use Rattle.std.specs.Int.Bits.{bit_xor}
use Rattle.spans.specs.Basis.{All, Sum}
use Rattle.bondset.specs.Sets.{bit, length_to}
use Rattle.bondset.proofs.Group.{bond_sets}
use Rattle.cycles.specs.Compound.{Compound, m, one, other, Joins}

module _ (c : Compound) where
  -- "A bond set is any set of bonds: one bit for each, bond k having weight 2^k. Its length is the number of bonds in it."
  abbrev pub len : ℕ → ℕ
  len S = length_to (m c) S

  -- 1 if atom a is an end of bond k, else 0.
  abbrev pub meets : ℕ → ℕ → ℕ
  meets k a = cond (eqb (one c k) a || eqb (other c k) a) 1 0

  -- How many bonds of S before bond k atom a meets.
  unfoldable pub degree_to : ℕ → ℕ → ℕ → ℕ
  degree_to zero S a = 0
  degree_to (suc k) S a = bit S k * meets k a + degree_to k S a

  -- How many bonds of S atom a meets.
  abbrev pub degree : ℕ → ℕ → ℕ
  degree S a = degree_to (m c) S a

  -- "A bond set is closed if every atom meets an even number of its bonds." All its bonds are bonds of the compound.
  pub record Closed (S : ℕ) : Type 0 where
    pub bonds : S < 2 ^ m c
    pub even : (a : ℕ) → degree S a % 2 ≡ 0

  -- A way from a to b along bonds of S: `Along S b a`.
  pub data Along (S b : ℕ) : ℕ → Type 0 where
    here : Along S b b
    step : {k a next : ℕ} → bit S k ≡ 1 → Joins c k a next → Along S b next → Along S b a

  -- "A ring is a non-empty closed set that is connected and meets each of its atoms exactly twice."
  pub record Ring (S : ℕ) : Type 0 where
    pub some : 0 < S
    pub closed : Closed S
    pub connected : (a b : ℕ) → 0 < degree S a → 0 < degree S b → Along S b a
    pub twice : (a : ℕ) → (degree S a ≡ 0) ⊎ (degree S a ≡ 2)

  -- "A ring is relevant if no set of strictly shorter rings sums to it."
  pub record Relevant (S : ℕ) : Type 0 where
    pub ring : Ring S
    pub alone : (Rs : List ℕ) → All (λ R. Ring R × (len R < len S)) Rs → Sum bond_sets Rs ≡ S → ⊥

  -- The sum of the bonds between consecutive atoms of a path.
  pub data Edges : List ℕ → ℕ → Type 0 where
    point : {a : ℕ} → Edges (a ∷ []) 0
    more : {a b k S T : ℕ} {path : List ℕ} → Joins c k a b → Edges (b ∷ path) S → T ≡ bit_xor (2 ^ k) S → Edges (a ∷ b ∷ path) T
