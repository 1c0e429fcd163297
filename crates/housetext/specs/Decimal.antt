-- Numbers in decimal.
use Rattle.std.specs.Prelude.{cond, List, [], ◌∷◌, ◌++◌, ℕ, zero, suc, ◌+◌, ◌/◌, ◌%◌, ltb}

-- the digits of n, where it has at most `more` after the first
unfoldable pub digits : ℕ → ℕ → List ℕ
digits zero n = (n + 48) ∷ []
digits (suc more) n = cond (ltb n 10) ((n + 48) ∷ []) (digits more (n / 10) ++ (n % 10 + 48) ∷ [])

-- n in decimal: the digits' bytes, the most significant first, with no leading zero
unfoldable pub decimal : ℕ → List ℕ
decimal n = digits n n
