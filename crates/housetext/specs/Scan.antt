-- What the number reader finds digit by digit. The definition of a text does not use it.
use Rattle.std.specs.Prelude.{cond, List, ℕ, zero, suc, ◌+◌, ◌-◌, ◌*◌, ltb, get_or, Option, Some, None}
use Rattle.housetext.specs.declared.Found.{Found}
use Rattle.housetext.specs.Text.{found}

-- the digit that a byte is, if it is one
unfoldable pub digit : ℕ → Option ℕ
digit b = cond (ltb b 48) None (cond (ltb 57 b) None (Some (b - 48)))

-- the digit at a place of a text, if there is one
unfoldable pub digit_at : List ℕ → ℕ → Option ℕ
digit_at text i = digit (get_or text i 0)

-- the number that three places make, up to the first that has no digit, and how many of them it takes: of a leading zero, that zero alone
unfoldable pub scanned : Option ℕ → Option ℕ → Option ℕ → Option Found
scanned None b c = None
scanned (Some zero) b c = found 0 1
scanned (Some (suc a)) None c = found (suc a) 1
scanned (Some (suc a)) (Some b) None = found (10 * suc a + b) 2
scanned (Some (suc a)) (Some b) (Some c) = cond (ltb 255 (100 * suc a + 10 * b + c)) None (found (100 * suc a + 10 * b + c) 3)

-- the number that the first three places of a text make
unfoldable pub scan : List ℕ → Option Found
scan text = scanned (digit_at text 0) (digit_at text 1) (digit_at text 2)
