-- Sums, parts of a list, independent lists and bases. Sets are listed: a part keeps some members and leaves the others.
use Rattle.std.specs.Prelude.{◌≡◌, List, [], ◌∷◌, ℕ, suc}
use Rattle.spans.specs.Group.{Space}

-- "Part": the second list is the first with some members left out.
pub data Part {X : Type 0} : List X → List X → Type 0 where
  nil : Part [] []
  keep : {x : X} {xs ys : List X} → Part xs ys → Part (x ∷ xs) (x ∷ ys)
  skip : {x : X} {xs ys : List X} → Part xs ys → Part (x ∷ xs) ys

-- Each member of the list has P.
pub data All {X : Type 0} (P : X → Type 0) : List X → Type 0 where
  nil : All P []
  cons : {x : X} {xs : List X} → P x → All P xs → All P (x ∷ xs)

-- "The number of .. in it": so many members of the list have K.
pub data Holding {X : Type 0} (K : X → Type 0) : List X → ℕ → Type 0 where
  none : Holding K [] 0
  inn : {x : X} {xs : List X} {n : ℕ} → K x → Holding K xs n → Holding K (x ∷ xs) (suc n)
  out : {x : X} {xs : List X} {n : ℕ} → ¬ K x → Holding K xs n → Holding K (x ∷ xs) n

module _ {X : Type 0} (G : Space X) where
  open G use {o, ◌⊕◌}

  -- What the members of a list sum to.
  unfoldable pub Sum : List X → X
  Sum [] = o
  Sum (x ∷ xs) = x ⊕ Sum xs

  -- "No non-empty part sums to the empty set."
  pub record Independent (B : List X) : Type 0 where
    pub empty : (ys : List X) → Part B ys → Sum ys ≡ o → ys ≡ []

  -- "Whose sums give every closed set": each element of W is the sum of a part of B.
  pub record Spans (W : X → Type 0) (B : List X) : Type 0 where
    pub part : (s : X) → W s → (ys : List X) × Part B ys × (Sum ys ≡ s)

  -- "A basis is a set of closed bond sets of which no non-empty part sums to the empty set, and whose sums give every
  -- closed set", with W for closed.
  pub record Basis (W : X → Type 0) (B : List X) : Type 0 where
    pub inside : All W B
    pub independent : Independent B
    pub spans : Spans W B

  -- W holds the empty set and the sum of any two that it holds, as the closed sets do.
  pub record Subgroup (W : X → Type 0) : Type 0 where
    pub zero : W o
    pub add : (x y : X) → W x → W y → W (x ⊕ y)
