-- The running count of rings: each way to add to it, and that it says what all that was added comes to.
use mathlib.Core.Path.{◌≡◌, refl, sym, ap}
use mathlib.Core.Logic.{◌⊎◌, inl, inr}
use Prim.Native.Nat.{ℕ, ◌+◌, ◌<◌, ◌≤◌}
use native.Mathlib.Omega.{arith}
use borrow.Author.Tests.{lt-ltb, le-ltb}
use Rattle.std.specs.Prelude.{Option, Some, None}
use Rattle.std.specs.Option.{SomeIff}
use Rattle.bondset.proofs.Laws.{lt_or_ge}
use Rattle.counting.specs.Counts.{added, counted}

-- So many rings are more than `max`, whatever was counted before.
pub added_past : (max : ℕ) (count : Option ℕ) (size : ℕ) → max < size → None ≡ added max count size
unfolding added
added_past max None size h = refl
added_past max (Some rings) size h = rw (lt-ltb max (rings + size) (omega arith))

-- The sum, if it is at most `max`.
pub added_some : (max rings size : ℕ) (sum : Option ℕ) → SomeIff sum (rings + size < max + 1) (rings + size) → sum ≡ added max (Some rings) size
unfolding added
added_some max rings size None h = rw (lt-ltb max (rings + size) (omega (arith, h)))
added_some max rings size (Some x) h = rw (le-ltb max (rings + size) (omega (arith, h.0))) (ap Some h.1)

-- There is no count if there are more rings than `max`.
pub counted_past : (max total : ℕ) → max < total → counted max total ≡ None
unfolding counted
counted_past max total h = rw (lt-ltb max total h)

-- Up to `max` the count is their number.
pub counted_within : (max total : ℕ) → total ≤ max → counted max total ≡ Some total
unfolding counted
counted_within max total h = rw (le-ltb max total h)

-- The count starts at no rings.
pub counted_none : (max : ℕ) → Some 0 ≡ counted max 0
counted_none max = sym (counted_within max 0 (omega arith))

-- What was added before, and more.
pub added_counted : (max total size : ℕ) → added max (counted max total) size ≡ counted max (total + size)
unfolding added counted
added_counted max total size = go (lt_or_ge max total)
  where
    go : (max < total) ⊎ (total ≤ max) → added max (counted max total) size ≡ counted max (total + size)
    go (inl l) = rw (counted_past max total l, lt-ltb max (total + size) (omega arith))
    go (inr l) = rw (counted_within max total l)
