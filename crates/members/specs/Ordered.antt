-- The members of a family on paper.
use Rattle.std.specs.Prelude.{List, [], ◌∷◌, ◌++◌, ◌↔◌, ℕ}
use Rattle.spans.specs.Elements.{◌∈◌}
use Rattle.cycles.specs.Compound.{Compound}
use Rattle.cycles.specs.Family.{Family, Member}
use Rattle.cycles.specs.Rows.{Less}

module _ (c : Compound) (rank : ℕ → ℕ) (f : Family) where
  -- "ordered by its path from p and then its path from q, atom numbers compared one after another towards r"
  abbrev pub Sooner : ℕ → ℕ → Type 0
  Sooner C D = (one : Member c rank f C) (other : Member c rank f D) → Less (one.P ++ one.Q) (other.P ++ other.Q)

  -- Each ring comes sooner than all that follow it.
  pub data Rising : List ℕ → Type 0 where
    none : Rising []
    next : {C : ℕ} {Cs : List ℕ} → ((D : ℕ) → D ∈ Cs → Sooner C D) → Rising Cs → Rising (C ∷ Cs)

  -- "Every member stands there once", in that order.
  pub record Members (Cs : List ℕ) : Type 0 where
    pub all : (C : ℕ) → (C ∈ Cs) ↔ Member c rank f C
    pub ordered : Rising Cs
