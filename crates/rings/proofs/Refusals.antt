-- What a refusal's number and "at" are is what is told of it.
use mathlib.Core.Path.{◌≡◌, refl}
use Prim.Native.Nat.{ℕ}
use Rattle.std.specs.Prelude.{Err}
use Rattle.answers.specs.Answered.{refused}
use Rattle.rings.specs.declared.Refusal.{Refusal}
use Rattle.rings.specs.Calls.{number_of, place_of, told}

-- A refusal is told by its number and its "at", whatever the size.
pub told_refusal : (r : Refusal) (size : ℕ) → told (Err r) size ≡ refused (number_of r) (place_of r)
unfolding told
told_refusal r size = refl
