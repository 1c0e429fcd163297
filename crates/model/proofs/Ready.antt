-- What the theorems on the model ask of a compound, and what is said of a list of layers.
use mathlib.Core.Path.{◌≡◌}
use mathlib.Core.List.{List}
use mathlib.Core.Logic.{◌↔◌}
use Prim.Native.Nat.{ℕ, ◌<◌, ◌≤◌}
use lib.ListN.{get_or}
use Rattle.bondset.specs.Sets.{bit}
use Rattle.cycles.specs.Compound.{Compound, m, Sound, OnePiece}
use Rattle.cycles.specs.Ring.{Relevant}
use Rattle.cycles.specs.Family.{Family, Down, Kept, Member}
use Rattle.model.specs.Net.{net_of}
use Rattle.model.specs.Layer.{layer}

-- A sound compound within the limits, and `pre r` is the set of its atoms that precede r in a ranking that may give atoms the same place.
pub record Held (c : Compound) (rank pre : ℕ → ℕ) : Type 0 where
  pub sound : Sound c
  pub atoms : c.n ≤ 64
  pub bonds : m c ≤ 96
  pub precede : (r a : ℕ) → r < c.n → a < c.n → (bit (pre r) a ≡ 1) ↔ (rank a < rank r)

-- A sound compound in one piece within the limits, and `pre r` is the set of its atoms that precede r in the ranking.
pub record Ready (c : Compound) (rank pre : ℕ → ℕ) : Type 0 where
  pub sound : Sound c
  pub one_piece : OnePiece c
  pub some : 0 < c.n
  pub atoms : c.n ≤ 64
  pub bonds : m c ≤ 96
  pub injective : (a b : ℕ) → a < c.n → b < c.n → rank a ≡ rank b → a ≡ b
  pub precede : (r a : ℕ) → r < c.n → a < c.n → (bit (pre r) a ≡ 1) ↔ (rank a < rank r)

abbrev pub held : {c : Compound} {rank pre : ℕ → ℕ} → Ready c rank pre → Held c rank pre
held ready = record { sound = ready.sound; atoms = ready.atoms; bonds = ready.bonds; precede = ready.precede }

-- r, or an atom under r, with the distance d.
abbrev pub DownFrom : Compound → (ℕ → ℕ) → ℕ → ℕ → ℕ → Type 0
DownFrom c rank r t d = (path : List ℕ) × Down c rank r t d path

-- The list holds the layers 0 to h of r.
pub record Layered (c : Compound) (pre : ℕ → ℕ) (r h : ℕ) (us : List ℕ) : Type 0 where
  pub are : (d : ℕ) → d ≤ h → get_or us d 0 ≡ layer (net_of c) (pre r) r d

-- Every relevant ring is a member of a kept family.
abbrev pub Covered : Compound → (ℕ → ℕ) → Type 0
Covered c rank = (C : ℕ) → Relevant c C → (f : Family) × Kept c rank f × Member c rank f C
