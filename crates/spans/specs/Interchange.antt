-- When one element can stand for another, modulo the span of a list.
use Rattle.std.specs.Prelude.{◌≡◌, List, ◌∷◌, ◌++◌}
use Rattle.spans.specs.Group.{Space}
use Rattle.spans.specs.Basis.{Part, All, Sum, Independent}

module _ {X : Type 0} (G : Space X) (P : X → Type 0) (S : List X) where
  open G use {◌⊕◌}

  -- What stands behind "with the first replaced by the second", S being the strictly shorter part of a basis and P what
  -- its members of the one length have: x is the sum of y, of others that have P and of a part of S, and y, the others
  -- and S are independent.
  pub record Interchange (x y : X) : Type 0 where
    pub others : List X
    pub have : All P others
    pub short : List X
    pub from : Part S short
    pub sum : x ≡ y ⊕ (Sum G others ⊕ Sum G short)
    pub independent : Independent G (y ∷ (others ++ S))
