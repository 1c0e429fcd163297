-- Graphs with numbered atoms and bonds, bond sets, degrees, closed sets and their sums.
use Rattle.std.specs.Prelude.{◌≡◌, Bool, true, false, ◌&&◌, ◌||◌, ◌⊎◌, ◌≢◌, ℕ, ◌<◌}
use Rattle.graphs.specs.Count.{xor, same, cnt, par}

-- Atoms 0 to n - 1 and bonds 0 to m - 1; bond k has the ends src k and tgt k.
pub record Graph : Type 0 where
  pub n : ℕ
  pub m : ℕ
  pub src : ℕ → ℕ
  pub tgt : ℕ → ℕ

-- A set of bonds, as a test.
abbrev pub BondSet : Type 0
BondSet = ℕ → Bool

-- Bond k joins u and w, either way round.
abbrev pub Joins : Graph → ℕ → ℕ → ℕ → Type 0
Joins G k u w = ((G.src k ≡ u) × (G.tgt k ≡ w)) ⊎ ((G.src k ≡ w) × (G.tgt k ≡ u))

-- Bond k meets atom a (in a graph without loops).
abbrev pub inc : Graph → ℕ → ℕ → Bool
inc G k a = xor (same (G.src k) a) (same (G.tgt k) a)

-- No bond joins an atom to itself, the ends are atoms, and two atoms have at most one bond.
pub record Simple (G : Graph) : Type 0 where
  pub no_loop : (k : ℕ) → k < G.m → G.src k ≢ G.tgt k
  pub src_in : (k : ℕ) → k < G.m → G.src k < G.n
  pub tgt_in : (k : ℕ) → k < G.m → G.tgt k < G.n
  pub once : (j k u w : ℕ) → j < G.m → k < G.m → Joins G j u w → Joins G k u w → j ≡ k

-- The bonds of S at atom a.
abbrev pub star : Graph → BondSet → ℕ → BondSet
star G S a k = S k && inc G k a

-- How many bonds of S meet atom a.
abbrev pub deg : Graph → BondSet → ℕ → ℕ
deg G S a = cnt (star G S a) G.m

-- The same as one would write it: how many bonds of S have a as one end or the other.
abbrev pub degree : Graph → BondSet → ℕ → ℕ
degree G S a = cnt (λ k. S k && (same (G.src k) a || same (G.tgt k) a)) G.m

-- Every atom meets an even number of the bonds of S.
abbrev pub Closed : Graph → BondSet → Type 0
Closed G S = (a : ℕ) → par (star G S a) G.m ≡ false

-- The bonds of one set and not of the other.
abbrev pub sum : BondSet → BondSet → BondSet
sum S T k = xor (S k) (T k)

-- S and T have the same bonds of the graph.
abbrev pub Agree : Graph → BondSet → BondSet → Type 0
Agree G S T = (k : ℕ) → k < G.m → S k ≡ T k

-- T has the bonds of S.
abbrev pub PartOf : BondSet → BondSet → Type 0
PartOf S T = (k : ℕ) → S k ≡ true → T k ≡ true
