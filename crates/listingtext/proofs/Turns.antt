-- One turn of a loop over rows or numbers: which row or number comes, and what is left.
use mathlib.Core.Path.{◌≡◌, sym, ap, ◌∙◌}
use Prim.Native.Nat.{ℕ, ◌+◌, ◌*◌, ◌<◌}
use native.Mathlib.Nat.{mul-suc}
use native.Mathlib.Numerals.{add-one}
use native.Mathlib.Omega.{arith}
use mathlib.Core.List.{List, ◌∷◌, ◌++◌}
use lib.ListN.{length, get_or, take, drop, length-take, length-drop}
use Rattle.std.proofs.lemmas.List.{get_or-take, take_at, drop_at, drop-drop, drop_more}
use Rattle.listingtext.specs.Listing.{row_of}

-- after k rows of so many bytes comes row k
module _ {left : List ℕ} (row after : List ℕ) (width k : ℕ) (rows : List ℕ) (at : left ≡ drop (width * k) rows) (parts : left ≡ row ++ after) (long : length row ≡ width) where
  pub row_here : row ≡ row_of width rows k
  row_here = sym (take_at row after width long) ∙ ap (take width) (sym parts ∙ at)

  pub row_next : after ≡ drop (width * (k + 1)) rows
  row_next = sym (drop_at row after width long) ∙ ap (drop width) (sym parts ∙ at) ∙ rw (add-one k, mul-suc width k) (drop-drop width (width * k) rows)

-- after k of the first `count` numbers comes number k
module _ {left after : List ℕ} {x : ℕ} (k count : ℕ) (xs : List ℕ) (at : left ≡ drop k (take count xs)) (parts : left ≡ x ∷ after) where
  some_left : k < length (take count xs)
  some_left = omega (arith, ap length (sym parts ∙ at), length-drop k (take count xs))

  split : x ∷ after ≡ get_or (take count xs) k 0 ∷ drop (k + 1) (take count xs)
  split = sym parts ∙ at ∙ drop_more (take count xs) k 0 some_left

  pub number_here : x ≡ get_or xs k 0
  number_here = ap (λ (l : List ℕ). get_or l 0 0) split ∙ get_or-take count xs k 0 (omega (arith, some_left, length-take count xs))

  pub number_next : after ≡ drop (k + 1) (take count xs)
  number_next = ap (drop 1) split
