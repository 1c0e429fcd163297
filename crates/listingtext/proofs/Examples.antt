-- The listing of the scope document, computed by the definitions.
use mathlib.Core.Path.{◌≡◌, refl}
use mathlib.Core.List.{List, [], ◌∷◌, ◌++◌}
use Prim.Native.Nat.{ℕ}
use Rattle.housetext.specs.Decimal.{digits, decimal}
use Rattle.housetext.specs.Text.{field}
use Rattle.listingtext.specs.Listing.{joined, cross, family_line, class_line, head_lines, family_lines, class_lines, listing}

abbrev together : List (List ℕ) → List ℕ
together [] = []
together (x ∷ xs) = x ++ together xs

-- the scope document's listing, line by line
abbrev lines : List (List ℕ)
lines =
    (97 ∷ 116 ∷ 111 ∷ 109 ∷ 115 ∷ 61 ∷ 56 ∷ 10 ∷ [])
    ∷ (98 ∷ 111 ∷ 110 ∷ 100 ∷ 115 ∷ 61 ∷ 57 ∷ 10 ∷ [])
    ∷ (99 ∷ 121 ∷ 99 ∷ 108 ∷ 111 ∷ 109 ∷ 97 ∷ 116 ∷ 105 ∷ 99 ∷ 61 ∷ 50 ∷ 10 ∷ [])
    ∷ (102 ∷ 97 ∷ 109 ∷ 105 ∷ 108 ∷ 105 ∷ 101 ∷ 115 ∷ 61 ∷ 51 ∷ 10 ∷ [])
    ∷ (99 ∷ 108 ∷ 97 ∷ 115 ∷ 115 ∷ 101 ∷ 115 ∷ 61 ∷ 49 ∷ 10 ∷ [])
    ∷ (116 ∷ 111 ∷ 116 ∷ 97 ∷ 108 ∷ 61 ∷ 49 ∷ 50 ∷ 10 ∷ [])
    ∷ (114 ∷ 105 ∷ 110 ∷ 103 ∷ 115 ∷ 61 ∷ 51 ∷ 10 ∷ [])
    ∷ (102 ∷ 97 ∷ 109 ∷ 105 ∷ 108 ∷ 121 ∷ 61 ∷ 54 ∷ 44 ∷ 53 ∷ 44 ∷ 48 ∷ 44 ∷ 51 ∷ 44 ∷ 50 ∷ 44 ∷ 49 ∷ 44 ∷ 48 ∷ 44 ∷ 49 ∷ 10 ∷ [])
    ∷ (102 ∷ 97 ∷ 109 ∷ 105 ∷ 108 ∷ 121 ∷ 61 ∷ 54 ∷ 44 ∷ 55 ∷ 44 ∷ 48 ∷ 44 ∷ 51 ∷ 44 ∷ 50 ∷ 44 ∷ 49 ∷ 44 ∷ 48 ∷ 44 ∷ 49 ∷ 10 ∷ [])
    ∷ (102 ∷ 97 ∷ 109 ∷ 105 ∷ 108 ∷ 121 ∷ 61 ∷ 54 ∷ 44 ∷ 55 ∷ 44 ∷ 48 ∷ 44 ∷ 53 ∷ 44 ∷ 52 ∷ 44 ∷ 48 ∷ 44 ∷ 48 ∷ 44 ∷ 49 ∷ 10 ∷ [])
    ∷ (99 ∷ 108 ∷ 97 ∷ 115 ∷ 115 ∷ 61 ∷ 48 ∷ 44 ∷ 54 ∷ 44 ∷ 50 ∷ 44 ∷ 51 ∷ 44 ∷ 48 ∷ 10 ∷ [])
    ∷ []

-- the listing of that answer is those lines; a triangle's line has a dash
pub listing_computed :
    (listing
    (record { atoms = 8; bonds = 9; cyclomatic = 2; families = 3; classes = 1; total = 12; rings = 3 })
    (6 ∷ 5 ∷ 0 ∷ 3 ∷ 2 ∷ 1 ∷ 0 ∷ 0 ∷ 6 ∷ 7 ∷ 0 ∷ 3 ∷ 2 ∷ 1 ∷ 0 ∷ 0 ∷ 6 ∷ 7 ∷ 0 ∷ 5 ∷ 4 ∷ 0 ∷ 0 ∷ 0 ∷ [])
    (1 ∷ 1 ∷ 1 ∷ [])
    (6 ∷ 2 ∷ 3 ∷ 0 ∷ 0 ∷ [])
    ≡ together lines)
    × (family_line (3 ∷ 2 ∷ 0 ∷ 1 ∷ 255 ∷ 1 ∷ 0 ∷ 0 ∷ []) 1
    ≡ 102 ∷ 97 ∷ 109 ∷ 105 ∷ 108 ∷ 121 ∷ 61 ∷ 51 ∷ 44 ∷ 50 ∷ 44 ∷ 48 ∷ 44 ∷ 49 ∷ 44 ∷ 45 ∷ 44 ∷ 49 ∷ 44 ∷ 48 ∷ 44 ∷ 49 ∷ 10 ∷ [])
unfolding digits decimal field joined cross family_line class_line head_lines family_lines class_lines listing
listing_computed = (refl, refl)
