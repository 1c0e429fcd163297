-- The loops of a reduction by an index, one turn at a time: what is left of the loop gives the same in the end.
use mathlib.Core.Path.{◌≡◌}
use mathlib.Core.List.{List, [], ◌∷◌}
use Prim.Native.Nat.{ℕ}
use lib.ListN.{get_or}
use Rattle.bondset.specs.Index.{add_placed, late_rest, late_used, AddsWithin, AddsHeld}

-- These bonds, all that is left of the hits, take s and u to g and h.
pub record PlacedLeft (rows tags place : List ℕ) (from to : ℕ) (bonds : List ℕ) (s u g h : ℕ) : Type 0 where
  pub rest : add_placed rows place from to bonds s ≡ g
  pub used : add_placed tags place from to bonds u ≡ h

module _ {rows tags place : List ℕ} {from to : ℕ} {bonds : List ℕ} {s u g h : ℕ} (so : PlacedLeft rows tags place from to bonds s u g h) where
  pub placed_more : {b t w i : ℕ} {others : List ℕ} → bonds ≡ b ∷ others → i ≡ get_or place b 0 → AddsWithin rows tags from to i s u t w
      → PlacedLeft rows tags place from to others t w g h
  unfolding add_placed
  placed_more {b} {t} {w} {i} {others} e f turn =
      record {
        rest = rw (turn.rest, f) (rw e at so.rest);
        used = rw (turn.used, f) (rw e at so.used);
      }

  pub placed_done : bonds ≡ [] → (s ≡ g) × (u ≡ h)
  unfolding add_placed
  placed_done e = (rw e at so.rest, rw e at so.used)

-- These rows, all that is left of the late ones, take s and u to g and h.
pub record LateLeft (rows tags pivots : List ℕ) (from to : ℕ) (is : List ℕ) (s u g h : ℕ) : Type 0 where
  pub rest : late_rest rows pivots from to is s ≡ g
  pub used : late_used rows tags pivots from to is s u ≡ h

module _ {rows tags pivots : List ℕ} {from to : ℕ} {is : List ℕ} {s u g h : ℕ} (so : LateLeft rows tags pivots from to is s u g h) where
  pub late_more : {i t w : ℕ} {others : List ℕ} → is ≡ i ∷ others → AddsHeld rows tags pivots from to i s u t w
      → LateLeft rows tags pivots from to others t w g h
  unfolding late_rest late_used
  late_more {i} {t} {w} {others} e turn =
      record {
        rest = rw turn.rest (rw e at so.rest);
        used = rw (turn.rest, turn.used) (rw e at so.used);
      }

  pub late_done : is ≡ [] → (s ≡ g) × (u ≡ h)
  unfolding late_rest late_used
  late_done e = (rw e at so.rest, rw e at so.used)
