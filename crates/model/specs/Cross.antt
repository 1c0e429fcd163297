-- The number that names the atom between p and q of a family.
use Rattle.std.specs.Prelude.{ℕ, Option, Some, None}

-- x itself: 255 if there is none.
abbrev pub cross : Option ℕ → ℕ
cross (Some x) = x
cross None = 255
