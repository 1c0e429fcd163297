-- Bases by length: the total length, the members below a length, minimum bases and graded ones.
use Rattle.std.specs.Prelude.{List, [], ◌∷◌, ℕ, ◌+◌, ◌<◌, ◌≤◌}
use Rattle.std.proofs.Math.Decide.{dec_lt}
use Rattle.spans.specs.Group.{Space}
use Rattle.spans.specs.Basis.{Basis, Spans}

-- x before xs if P holds, xs alone if not: one step of a choice from a list.
unfoldable pub keep_if : {X P : Type 0} → Dec P → X → List X → List X
keep_if (yes p) x xs = x ∷ xs
keep_if (no n) x xs = xs

module _ {X : Type 0} (ℓ : X → ℕ) where
  -- "Its total length": the sum of the members' lengths.
  unfoldable pub total : List X → ℕ
  total [] = 0
  total (x ∷ xs) = ℓ x + total xs

  -- "Strictly shorter": the members whose length is less than k.
  unfoldable pub below : ℕ → List X → List X
  below k [] = []
  below k (x ∷ xs) = keep_if (dec_lt (ℓ x) k) x (below k xs)

module _ {X : Type 0} (G : Space X) (ℓ : X → ℕ) (W : X → Type 0) where
  -- For each k the members of B shorter than k span the elements of W shorter than k.
  pub record Graded (B : List X) : Type 0 where
    pub spans : (k : ℕ) → Spans G (λ s. W s × (ℓ s < k)) (below ℓ k B)

  -- "It is minimum if its total length is the least of all."
  pub record Minimum (B : List X) : Type 0 where
    pub basis : Basis G W B
    pub least : (C : List X) → Basis G W C → total ℓ B ≤ total ℓ C
