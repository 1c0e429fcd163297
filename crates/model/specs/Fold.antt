-- Loops: a state taken through a list, one element a turn.
use Rattle.std.specs.Prelude.{List, [], ◌∷◌, ◌++◌, ℕ, zero, suc}

module _ {C S : Type 0} (step : C → S → S) where
  -- The state after the elements of the list, from the first on.
  unfoldable pub through : List C → S → S
  through [] s = s
  through (c ∷ cs) s = through cs (step c s)

-- The lists f a of the elements a of a list, one after the other.
unfoldable pub each : {A C : Type 0} → (A → List C) → List A → List C
each f [] = []
each f (a ∷ rest) = f a ++ each f rest

-- from, from + 1, .., so many numbers.
unfoldable pub count : ℕ → ℕ → List ℕ
count from zero = []
count from (suc k) = from ∷ count (suc from) k
