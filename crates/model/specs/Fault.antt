-- The first fault of an input, as the engine finds it.
use Rattle.std.specs.Prelude.{Bool, true, false, ◌&&◌, ◌||◌, not, ℕ, zero, suc, ◌-◌, ◌%◌, ◌^◌, eqb, ltb, leb, length}
use Rattle.cycles.specs.Compound.{Compound, m, one, other}
use Rattle.model.specs.Net.{net_of}
use Rattle.model.specs.Layer.{wave}

-- No fault, or the number and the place of one.
pub data Fault : Type 0 where
  none : Fault
  fault : (number place : ℕ) → Fault

-- The first of two.
unfoldable pub or_else : Fault → Fault → Fault
or_else none g = g
or_else (fault number place) g = fault number place

unfoldable pub when : Bool → Fault → Fault
when true f = f
when false f = none

-- The first that f gives at 0, 1, .., n - 1.
unfoldable pub first_of : ℕ → (ℕ → Fault) → Fault
first_of zero f = none
first_of (suc i) f = or_else (first_of i f) (f i)

-- Some i below n passes the test.
unfoldable pub some_below : ℕ → (ℕ → Bool) → Bool
some_below zero test = false
some_below (suc i) test = some_below i test || test i

module _ (c : Compound) where
  unfoldable pub same_pair : ℕ → ℕ → Bool
  same_pair j k = (eqb (one c j) (one c k) && eqb (other c j) (other c k)) || (eqb (one c j) (other c k) && eqb (other c j) (one c k))

  -- 3, 4 or 5 at bond k.
  unfoldable pub bond_fault : ℕ → Fault
  bond_fault k =
      or_else (when (leb c.n (one c k) || leb c.n (other c k)) (fault 3 k))
      (or_else (when (eqb (one c k) (other c k)) (fault 4 k)) (when (some_below k (λ j. same_pair j k)) (fault 5 k)))

  -- The atoms that a search from atom 0 reaches.
  unfoldable pub reached : ℕ
  reached = (wave (net_of c) 0 0 c.n).seen

  unfoldable pub piece_fault : Fault
  piece_fault = when (not (eqb reached (2 ^ c.n - 1))) (fault 6 0)

  unfoldable pub size_fault : Fault
  size_fault =
      or_else (when (eqb c.n 0 || ltb 64 c.n) (fault 1 0)) (when (eqb (length c.bytes % 2) 1 || ltb 96 (m c)) (fault 2 0))

  -- "Order: 1, 2, then bond by bond 3, 4, 5, then 6."
  unfoldable pub first_fault : Fault
  first_fault = or_else size_fault (or_else (first_of (m c) bond_fault) piece_fault)
