-- Bonds as records: their bytes, and what the byte form is lent of them.
use Rattle.std.specs.Prelude.{List, [], ◌∷◌, ◌++◌, cond, ℕ, ◌-◌, ◌*◌, take, replicate, ltb}
use Rattle.records.specs.declared.Bond.{Bond}

-- The bytes of the records one after the other: "two atom numbers a bond".
unfoldable pub flattened : List Bond → List ℕ
flattened [] = []
flattened (bond ∷ bonds) = bond.a ∷ bond.b ∷ flattened bonds

-- The bytes of the first k records, and zeros up to 192 bytes.
abbrev pub laid : List Bond → ℕ → List ℕ
laid bonds k = flattened (take k bonds) ++ replicate (192 - 2 * k) 0

-- How many bytes the byte form is lent for so many records: two for each, and 1, which it refuses as it refuses their bytes, for more
-- than 96.
abbrev pub lent_bytes : ℕ → ℕ
lent_bytes count = cond (ltb 96 count) 1 (2 * count)
