-- Elements of a list.
use Rattle.std.specs.Prelude.{List, [], ◌∷◌}

-- x is an element of the list.
pub data ◌∈◌ {X : Type 0} (x : X) : List X → Type 0 where
  first : {xs : List X} → x ∈ (x ∷ xs)
  later : {y : X} {xs : List X} → x ∈ xs → x ∈ (y ∷ xs)

infix 40 ◌∈◌
-- No element stands in the list twice.
pub data Once {X : Type 0} : List X → Type 0 where
  none : Once []
  more : {x : X} {xs : List X} → (x ∈ xs → ⊥) → Once xs → Once (x ∷ xs)
