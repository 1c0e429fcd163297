-- Bases of the closed sets, and which rings can replace each other.
use Rattle.std.specs.Prelude.{◌≡◌, List, ◌∷◌, ◌++◌, ℕ}
use Rattle.spans.specs.Basis as Spans
use Rattle.spans.specs.Graded as Graded
use Rattle.bondset.proofs.Group.{bond_sets}
use Rattle.cycles.specs.Compound.{Compound}
use Rattle.cycles.specs.Ring.{Closed, len}

module _ (c : Compound) where
  -- "A basis is a set of closed bond sets of which no non-empty part sums to the empty set, and whose sums give every
  -- closed set."
  abbrev pub Basis : List ℕ → Type 0
  Basis B = Spans.Basis bond_sets (Closed c) B

  -- "It is minimum if its total length is the least of all."
  abbrev pub Minimum : List ℕ → Type 0
  Minimum B = Graded.Minimum bond_sets (len c) (Closed c) B

  -- "Two relevant rings of equal length are interchangeable if they are the same ring, or if some minimum basis holds the first and, with the first
  -- replaced by the second, is a minimum basis again." That C and D are relevant rings is asked where the relation is used; that they are of equal
  -- length follows.
  pub data Interchangeable (C D : ℕ) : Type 0 where
    same : C ≡ D → Interchangeable C D
    swap : (before after : List ℕ) → Minimum (before ++ C ∷ after) → Minimum (before ++ D ∷ after) → Interchangeable C D
