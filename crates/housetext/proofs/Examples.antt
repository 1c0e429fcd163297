-- What some texts say, computed by the definitions.
use mathlib.Core.Path.{◌≡◌, refl}
use mathlib.Core.List.{List, [], ◌∷◌, map}
use Prim.Native.Nat.{ℕ}
use Rattle.housetext.specs.Decimal.{digits, decimal}
use Rattle.housetext.specs.Text.{field, starts, field_below, field_at, bond_at, passes, refuses, bonds_from, reads}

-- a single atom; one bond; nothing; a leading zero; a number above 255; no last newline; a line missing at the end; a byte after the last line
abbrev texts : List (List ℕ)
texts =
    (97 ∷ 116 ∷ 111 ∷ 109 ∷ 115 ∷ 61 ∷ 49 ∷ 10 ∷ 98 ∷ 111 ∷ 110 ∷ 100 ∷ 115 ∷ 61 ∷ 48 ∷ 10 ∷ [])
    ∷ (97 ∷ 116 ∷ 111 ∷ 109 ∷ 115 ∷ 61 ∷ 50 ∷ 10 ∷ 98 ∷ 111 ∷ 110 ∷ 100 ∷ 115 ∷ 61 ∷ 49 ∷ 10 ∷ 98 ∷ 111 ∷ 110 ∷ 100 ∷ 61 ∷ 48 ∷ 45 ∷ 49 ∷ 10 ∷ [])
    ∷ ([])
    ∷ (97 ∷ 116 ∷ 111 ∷ 109 ∷ 115 ∷ 61 ∷ 48 ∷ 49 ∷ 10 ∷ 98 ∷ 111 ∷ 110 ∷ 100 ∷ 115 ∷ 61 ∷ 48 ∷ 10 ∷ [])
    ∷ (97 ∷ 116 ∷ 111 ∷ 109 ∷ 115 ∷ 61 ∷ 50 ∷ 53 ∷ 54 ∷ 10 ∷ 98 ∷ 111 ∷ 110 ∷ 100 ∷ 115 ∷ 61 ∷ 48 ∷ 10 ∷ [])
    ∷ (97 ∷ 116 ∷ 111 ∷ 109 ∷ 115 ∷ 61 ∷ 49 ∷ 10 ∷ 98 ∷ 111 ∷ 110 ∷ 100 ∷ 115 ∷ 61 ∷ 48 ∷ [])
    ∷ (97 ∷ 116 ∷ 111 ∷ 109 ∷ 115 ∷ 61 ∷ 51 ∷ 10 ∷ 98 ∷ 111 ∷ 110 ∷ 100 ∷ 115 ∷ 61 ∷ 50 ∷ 10 ∷ 98 ∷ 111 ∷ 110 ∷ 100 ∷ 61 ∷ 48 ∷ 45 ∷ 49 ∷ 10 ∷ [])
    ∷ (97 ∷ 116 ∷ 111 ∷ 109 ∷ 115 ∷ 61 ∷ 49 ∷ 10 ∷ 98 ∷ 111 ∷ 110 ∷ 100 ∷ 115 ∷ 61 ∷ 48 ∷ 10 ∷ 10 ∷ [])
    ∷ []

-- each says what it should
pub reads_computed : map reads texts ≡
    record { says = passes 1 0; bytes = ([]) }
    ∷ record { says = passes 2 1; bytes = (0 ∷ 1 ∷ []) }
    ∷ record { says = refuses 10 1; bytes = ([]) }
    ∷ record { says = refuses 10 1; bytes = ([]) }
    ∷ record { says = refuses 10 1; bytes = ([]) }
    ∷ record { says = refuses 10 2; bytes = ([]) }
    ∷ record { says = refuses 10 4; bytes = (0 ∷ 1 ∷ []) }
    ∷ record { says = refuses 10 3; bytes = ([]) }
    ∷ []
unfolding digits decimal field starts field_below field_at bond_at bonds_from reads
reads_computed = refl
