-- Reducing a bond set by rows. Row i has a pivot, a bond that it holds, and a tag that names the chosen sets whose sum the row is.
use Rattle.std.specs.Prelude.{◌≡◌, List, [], ◌∷◌, ℕ, zero, suc, ◌+◌, ◌-◌, ◌*◌, ◌/◌, ◌%◌, ◌^◌, ◌<◌, ◌≤◌, length, get_or, set}
use Rattle.std.specs.Int.Bits.{bit_xor}
use Rattle.std.specs.Int.Count.{count_trailing_zeros}
use Rattle.bondset.specs.Sets.{bit, single}
use Rattle.bondset.specs.Rows.{row_at, put_row}

-- the set s after n rows in order, beginning at row `from`: each is added where the set then holds its pivot
unfoldable pub reduced_by : List ℕ → List ℕ → ℕ → ℕ → ℕ → ℕ
reduced_by rows pivots from zero s = s
reduced_by rows pivots from (suc n) s =
    let t = reduced_by rows pivots from n s in
    bit_xor t (bit t (get_or pivots (from + n) 0) * row_at rows (from + n))

-- the sum of u and the tags of the rows that were added
unfoldable pub used_by : List ℕ → List ℕ → List ℕ → ℕ → ℕ → ℕ → ℕ → ℕ
used_by rows tags pivots from zero s u = u
used_by rows tags pivots from (suc n) s u =
    bit_xor (used_by rows tags pivots from n s u) (bit (reduced_by rows pivots from n s) (get_or pivots (from + n) 0) * row_at tags (from + n))

-- the rest of s after the rows from, .., to - 1
unfoldable pub reduced : List ℕ → List ℕ → ℕ → ℕ → ℕ → ℕ
reduced rows pivots from to s = reduced_by rows pivots from (to - from) s

-- the tags used on the way, added to u
unfoldable pub used : List ℕ → List ℕ → List ℕ → ℕ → ℕ → ℕ → ℕ → ℕ
used rows tags pivots from to s u = used_by rows tags pivots from (to - from) s u

-- t is the rest of s after the rows from, .., to - 1, and w is u with the tags used on the way
pub record Reduces (rows tags pivots : List ℕ) (from to s u t w : ℕ) : Type 0 where
  pub rest : t ≡ reduced rows pivots from to s
  pub used : w ≡ used rows tags pivots from to s u

-- the tag of the row that is stored at count: what was used, and the new chosen set itself
unfoldable pub pushed_tag : ℕ → ℕ → ℕ
pushed_tag count u = bit_xor u (single count)

-- the pivot of a row: its lowest bond
unfoldable pub pivot_of : ℕ → ℕ
pivot_of s = count_trailing_zeros 128 s

-- the arrays after the rest of a set, with what was used, is stored as row count
pub record Pushes (rows tags pivots : List ℕ) (count rest u : ℕ) (rows' tags' pivots' : List ℕ) : Type 0 where
  pub row_stored : rows' ≡ put_row rows count rest
  pub tag_stored : tags' ≡ put_row tags count (pushed_tag count u)
  pub pivot_stored : pivots' ≡ set pivots count (pivot_of rest)

-- there is room for n rows, tags and pivots
pub record Room (rows tags pivots : List ℕ) (n : ℕ) : Type 0 where
  pub rows_fit : 2 * n ≤ length rows
  pub tags_fit : 2 * n ≤ length tags
  pub pivots_fit : n ≤ length pivots

-- the sum of the chosen sets that a tag names: it names set i where its digit i is 1
unfoldable pub combine : List ℕ → ℕ → ℕ
combine [] t = 0
combine (x ∷ xs) t = bit_xor (t % 2 * x) (combine xs (t / 2))

-- x in front of xs if the digit is 1
abbrev pub keep_if_one : ℕ → ℕ → List ℕ → List ℕ
keep_if_one zero x xs = xs
keep_if_one (suc d) x xs = x ∷ xs

-- the chosen sets that a tag names, in order
unfoldable pub named_by : List ℕ → ℕ → List ℕ
named_by [] t = []
named_by (x ∷ xs) t = keep_if_one (t % 2) x (named_by xs (t / 2))

-- The state of a reduction: one row, tag and pivot for each chosen set. A row holds its own pivot and none of the pivots before,
-- and is the sum of the chosen sets that its tag names, the last of which is the chosen set of the same number.
pub record Reduction (rows tags pivots chosen : List ℕ) : Type 0 where
  pub room : Room rows tags pivots (length chosen)
  pub chosen_fit : (i : ℕ) → i < length chosen → get_or chosen i 0 < 2 ^ 128
  pub bonds : (i : ℕ) → i < length chosen → get_or pivots i 0 < 128
  pub own : (i : ℕ) → i < length chosen → bit (row_at rows i) (get_or pivots i 0) ≡ 1
  pub others : (i j : ℕ) → i < length chosen → j < i → bit (row_at rows i) (get_or pivots j 0) ≡ 0
  pub named : (i : ℕ) → i < length chosen → row_at rows i ≡ combine chosen (row_at tags i)
  pub last : (i : ℕ) → i < length chosen → bit (row_at tags i) i ≡ 1
  pub up_to : (i : ℕ) → i < length chosen → row_at tags i < 2 ^ (i + 1)
