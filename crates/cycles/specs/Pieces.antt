-- Pieces: which atoms are in one, and how many there are.
use Rattle.std.specs.Prelude.{◌≡◌, List, ℕ, ◌+◌, ◌-◌, ◌<◌, length}
use Rattle.spans.specs.Elements.{◌∈◌, Once}
use Rattle.cycles.specs.Compound.{Compound, m, Walk}

module _ (c : Compound) where
  -- Atoms a and b are in one piece: a walk joins them.
  abbrev pub SamePiece : ℕ → ℕ → Type 0
  SamePiece a b = (steps : ℕ) × Walk c b a steps

  -- The compound is in k pieces: k atoms, the heads, no two of them in one piece, and every atom in the piece of one of them.
  pub record Pieces (k : ℕ) : Type 0 where
    pub heads : List ℕ
    pub once : Once heads
    pub atoms : (h : ℕ) → h ∈ heads → h < c.n
    pub apart : (g h : ℕ) → g ∈ heads → h ∈ heads → SamePiece g h → g ≡ h
    pub each : (a : ℕ) → a < c.n → (h : ℕ) × (h ∈ heads) × SamePiece a h
    pub count : length heads ≡ k

-- "The cyclomatic number becomes m - n + c, with c pieces." A compound in c pieces has at least n - c bonds.
abbrev pub cyclomatic_of : Compound → ℕ → ℕ
cyclomatic_of c k = m c + k - c.n
