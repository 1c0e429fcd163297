-- Why a ring is in the listing or not: the row whose family it is a member of, or the marked rows whose prototypes sum to it.
use Rattle.std.specs.Prelude.{◌≡◌, List, [], ◌∷◌, ℕ, ◌<◌}
use Rattle.spans.specs.Basis.{All, Sum}
use Rattle.bondset.proofs.Group.{bond_sets}
use Rattle.cycles.specs.Compound.{Compound}
use Rattle.cycles.specs.Ring.{len, Relevant}
use Rattle.cycles.specs.Family.{Prototype, Member}
use Rattle.cycles.specs.Rows.{Row, At, Report}

-- "in row order": each number is less than all after it.
pub data InOrder : List ℕ → Type 0 where
  none : InOrder []
  more : {i : ℕ} {numbers : List ℕ} → All (λ j. i < j) numbers → InOrder numbers → InOrder (i ∷ numbers)

-- What is told of a ring: the number of a row, or numbers of marked rows.
pub data Reason : Type 0 where
  relevant : ℕ → Reason
  summed : List ℕ → Reason

module _ (c : Compound) (rank : ℕ → ℕ) where
  -- "The prototypes are named by row number": the rows with these numbers have mark 1, and the second list has their prototypes.
  pub data Named (rows : List Row) : List ℕ → List ℕ → Type 0 where
    none : Named rows [] []
    more : {i S : ℕ} {row : Row} {numbers Ss : List ℕ} → At rows i row → row.mark ≡ 1 → Prototype c rank row.family S
        → Named rows numbers Ss → Named rows (i ∷ numbers) (S ∷ Ss)

  -- "tell that it is a relevant ring with its family, or give marked prototypes, all strictly shorter, that sum to it, in row order."
  pub data Why (R : Report) (C : ℕ) : Reason → Type 0 where
    relevant : {i : ℕ} {row : Row} → Relevant c C → At R.rows i row → Member c rank row.family C → Why R C (Reason.relevant i)
    summed : {numbers Ss : List ℕ} → InOrder numbers → Named R.rows numbers Ss → All (λ S. len c S < len c C) Ss → Sum bond_sets Ss ≡ C
        → Why R C (Reason.summed numbers)
