-- What is asked of labels, and when there is nothing to join.
use Rattle.std.specs.Prelude.{◌≡◌, List, ℕ, ◌<◌, get_or}
use Rattle.bondset.specs.Sets.{bit}

-- Each label names a marked ring or a class.
pub record Labelled (labels : List ℕ) : Type 0 where
  pub below : (i : ℕ) → get_or labels i 0 < 128

-- The marked rings that t names have one label.
abbrev pub Alike : List ℕ → ℕ → Type 0
Alike labels t = (i j : ℕ) → bit t i ≡ 1 → bit t j ≡ 1 → get_or labels i 0 ≡ get_or labels j 0
