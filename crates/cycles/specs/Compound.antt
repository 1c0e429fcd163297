-- What the unit works on: compounds, their bonds, walks and distances.
use Rattle.std.specs.Prelude.{◌≡◌, List, ℕ, suc, ◌+◌, ◌*◌, ◌/◌, ◌-◌, ◌<◌, ◌≤◌, length, get_or}

-- "A compound is n atoms numbered 0 to n-1 and m bonds numbered in the order given, from 0. Bonds are lent as bytes, two
-- atom numbers a bond."
pub record Compound : Type 0 where
  pub n : ℕ
  pub bytes : List ℕ

-- The number of bonds.
abbrev pub m : Compound → ℕ
m c = length c.bytes / 2

-- The first of the two atom numbers of bond k, in the order given.
abbrev pub one : Compound → ℕ → ℕ
one c k = get_or c.bytes (2 * k) 0

-- The second.
abbrev pub other : Compound → ℕ → ℕ
other c k = get_or c.bytes (2 * k + 1) 0

module _ (c : Compound) where
  -- Bond k joins atoms a and b, "either way round".
  pub data Joins (k : ℕ) : ℕ → ℕ → Type 0 where
    given : {a b : ℕ} → k < m c → one c k ≡ a → other c k ≡ b → Joins k a b
    turned : {a b : ℕ} → k < m c → other c k ≡ a → one c k ≡ b → Joins k a b

  -- Some bond joins atoms a and b.
  abbrev pub Bonded : ℕ → ℕ → Type 0
  Bonded a b = (k : ℕ) × Joins k a b

  -- A walk along bonds from a to b in so many steps: `Walk b a steps`.
  pub data Walk (b : ℕ) : ℕ → ℕ → Type 0 where
    here : Walk b b 0
    step : {a next steps : ℕ} → Bonded a next → Walk b next steps → Walk b a (suc steps)

  -- "Distances are in the whole compound": no walk from a to b has fewer than d steps, and one has d.
  pub record Distance (a b d : ℕ) : Type 0 where
    pub walk : Walk b a d
    pub least : (steps : ℕ) → Walk b a steps → d ≤ steps

  -- "The graph is simple, undirected, unweighted": each bond joins two different atoms of the compound, and no other
  -- bond joins the same two.
  pub record Sound : Type 0 where
    pub named : (k a b : ℕ) → Joins k a b → a < c.n
    pub no_loop : (k a : ℕ) → Joins k a a → ⊥
    pub once : (j k a b : ℕ) → Joins j a b → Joins k a b → j ≡ k

  -- ".. and in one piece": there is a walk between any two atoms.
  pub record OnePiece : Type 0 where
    pub walk : (a b : ℕ) → a < c.n → b < c.n → (steps : ℕ) × Walk b a steps

-- "The cyclomatic number is m - n + 1." A compound in one piece has at least n - 1 bonds.
abbrev pub cyclomatic : Compound → ℕ
cyclomatic c = m c + 1 - c.n
