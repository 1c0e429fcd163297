-- Of a right report: no class joins two pieces.
use mathlib.Core.Path.{◌≡◌, refl}
use Prim.Native.Nat.{ℕ, ◌<◌}
use Rattle.spans.specs.Elements.{◌∈◌}
use Rattle.cycles.specs.Compound.{Compound, Sound}
use Rattle.cycles.specs.Ring.{degree}
use Rattle.cycles.specs.Family.{Member}
use Rattle.cycles.specs.Pieces.{SamePiece}
use Rattle.cycles.specs.Rows.{Row, Report, Right}
use Rattle.cycles.proofs.Ranks.{same_class_iff}
use Rattle.cycles.proofs.PiecesRings.{interchangeable_same_piece}

module _ (c : Compound) (sound : Sound c) (rank : ℕ → ℕ) (injective : (a b : ℕ) → a < c.n → b < c.n → rank a ≡ rank b → a ≡ b)
    {R : Report} (right : Right c rank R) where
  -- "No .. class joins two pieces": the rings of the families of one class are all in one piece.
  pub class_one_piece : {u v : Row} {C D a b : ℕ} → u ∈ R.rows → v ∈ R.rows → u.class ≡ v.class
      → Member c rank u.family C → Member c rank v.family D → 0 < degree c C a → 0 < degree c D b → SamePiece c a b
  class_one_piece i j e p q =
      interchangeable_same_piece c sound p.ring ((same_class_iff c sound rank injective right i j p q).0 e).1

  -- The rings of one family are all in one piece.
  pub family_one_piece : {u : Row} {C D a b : ℕ} → u ∈ R.rows → Member c rank u.family C → Member c rank u.family D
      → 0 < degree c C a → 0 < degree c D b → SamePiece c a b
  family_one_piece i p q = class_one_piece i i refl p q
