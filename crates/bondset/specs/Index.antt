-- Finding the rows of a reduction by their pivots. Besides rows, tags and pivots there is a place for each bond, and an index of three sets:
-- `fresh`, pivots that no other row holds; `late`, the numbers of the rows whose pivot is not fresh; `all`, the bonds of all rows.
use Rattle.std.specs.Prelude.{◌≡◌, cond, ◌⊎◌, List, [], ◌∷◌, ℕ, zero, suc, ◌+◌, ◌<◌, ◌≤◌, eqb, ltb, get_or, set}
use Rattle.std.specs.Int.Bits.{bit_xor, bit_and, bit_or}
use Rattle.std.specs.Int.Count.{count_trailing_zeros}
use Rattle.bondset.specs.Sets.{bit, has, single}
use Rattle.bondset.specs.Rows.{row_at, put_row}
use Rattle.bondset.specs.Reduction.{pushed_tag}

-- the bonds of the first n rows
unfoldable pub held_by : List ℕ → ℕ → ℕ
held_by rows zero = 0
held_by rows (suc n) = bit_or (held_by rows n) (row_at rows n)

-- ---- what an index promises

-- row i of the first n is found by its pivot: that is fresh, its place is i, and no other row holds it
pub record Fresh (rows pivots place : List ℕ) (fresh n i : ℕ) : Type 0 where
  pub among : bit fresh (get_or pivots i 0) ≡ 1
  pub placed : get_or place (get_or pivots i 0) 0 ≡ i
  pub alone : (j : ℕ) → j < n → (j ≡ i → ⊥) → bit (row_at rows j) (get_or pivots i 0) ≡ 0

-- the place of bond b is one of the first n rows, which has b as its pivot and is not late
pub record Placed (pivots place : List ℕ) (late n b : ℕ) : Type 0 where
  pub found : get_or place b 0 < n
  pub back : get_or pivots (get_or place b 0) 0 ≡ b
  pub early : bit late (get_or place b 0) ≡ 0

-- the index of the first n rows, each of which holds its own pivot and none of the pivots before
pub record Indexed (rows pivots place : List ℕ) (fresh late all n : ℕ) : Type 0 where
  pub own : (i : ℕ) → i < n → bit (row_at rows i) (get_or pivots i 0) ≡ 1
  pub others : (i j : ℕ) → i < n → j < i → bit (row_at rows i) (get_or pivots j 0) ≡ 0
  pub held : all ≡ held_by rows n
  pub split : (i : ℕ) → i < n → (bit late i ≡ 1) ⊎ Fresh rows pivots place fresh n i
  pub back : (b : ℕ) → bit fresh b ≡ 1 → Placed pivots place late n b
  pub within : (i : ℕ) → bit late i ≡ 1 → i < n

-- an index of at least n rows
pub record Reaches (rows pivots place : List ℕ) (fresh late all n : ℕ) : Type 0 where
  pub count : ℕ
  pub enough : n ≤ count
  pub indexed : Indexed rows pivots place fresh late all count

-- ---- reducing by an index

-- s with row i of an array, if i is one of from, .., to - 1
unfoldable pub add_within : List ℕ → ℕ → ℕ → ℕ → ℕ → ℕ
add_within arr from to i s = cond (ltb i from) s (cond (ltb i to) (bit_xor s (row_at arr i)) s)

-- the same, and only if the rest t holds the pivot of row i
unfoldable pub add_held : List ℕ → List ℕ → ℕ → ℕ → ℕ → ℕ → ℕ → ℕ
add_held arr pivots from to t i s = cond (has t (get_or pivots i 0)) (add_within arr from to i s) s

-- s with the rows at the places of these bonds
unfoldable pub add_placed : List ℕ → List ℕ → ℕ → ℕ → List ℕ → ℕ → ℕ
add_placed arr place from to [] s = s
add_placed arr place from to (b ∷ bs) s = add_placed arr place from to bs (add_within arr from to (get_or place b 0) s)

-- s after these rows in order, each added where the set then holds its pivot
unfoldable pub late_rest : List ℕ → List ℕ → ℕ → ℕ → List ℕ → ℕ → ℕ
late_rest rows pivots from to [] s = s
late_rest rows pivots from to (i ∷ is) s = late_rest rows pivots from to is (add_held rows pivots from to s i s)

-- u with the tags of the rows that were added
unfoldable pub late_used : List ℕ → List ℕ → List ℕ → ℕ → ℕ → List ℕ → ℕ → ℕ → ℕ
late_used rows tags pivots from to [] s u = u
late_used rows tags pivots from to (i ∷ is) s u =
    late_used rows tags pivots from to is (add_held rows pivots from to s i s) (add_held tags pivots from to s i u)

-- one row, and its tag
pub record AddsWithin (rows tags : List ℕ) (from to i s u t w : ℕ) : Type 0 where
  pub rest : t ≡ add_within rows from to i s
  pub used : w ≡ add_within tags from to i u

pub record AddsHeld (rows tags pivots : List ℕ) (from to i s u t w : ℕ) : Type 0 where
  pub rest : t ≡ add_held rows pivots from to s i s
  pub used : w ≡ add_held tags pivots from to s i u

-- the rows at the places of these bonds, and their tags
pub record AddsPlaced (rows tags place : List ℕ) (from to : ℕ) (bonds : List ℕ) (s u t w : ℕ) : Type 0 where
  pub rest : t ≡ add_placed rows place from to bonds s
  pub used : w ≡ add_placed tags place from to bonds u

-- these rows where they are held, and their tags
pub record AddsLate (rows tags pivots : List ℕ) (from to : ℕ) (is : List ℕ) (s u t w : ℕ) : Type 0 where
  pub rest : t ≡ late_rest rows pivots from to is s
  pub used : w ≡ late_used rows tags pivots from to is s u

-- ---- one more row

-- the bonds of s that no row holds
unfoldable pub new_in : ℕ → ℕ → ℕ
new_in all s = bit_xor s (bit_and s all)

-- the pivot of a row: its lowest bond that no row holds, or its lowest bond where there is none
unfoldable pub fresh_pivot : ℕ → ℕ → ℕ
fresh_pivot all s = count_trailing_zeros 128 (cond (eqb (new_in all s) 0) s (new_in all s))

-- the pivots, the places and the index after the pivot of row n is entered
pub record Enters (pivots place : List ℕ) (fresh late all n rest : ℕ) (pivots' place' : List ℕ) (fresh' late' all' : ℕ) : Type 0 where
  pub pivot_stored : pivots' ≡ set pivots n (fresh_pivot all rest)
  -- the bonds of the row join those of all rows
  pub all_grown : all' ≡ bit_or all rest
  -- the pivot is fresh, and has its place; or the row is late
  pub fresh_grown : fresh' ≡ cond (eqb (new_in all rest) 0) fresh (bit_xor fresh (single (fresh_pivot all rest)))
  pub late_grown : late' ≡ cond (eqb (new_in all rest) 0) (bit_xor late (single n)) late
  pub place_stored : place' ≡ cond (eqb (new_in all rest) 0) place (set place (fresh_pivot all rest) n)

-- s holds none of the first n pivots
pub record Lacks (pivots : List ℕ) (n s : ℕ) : Type 0 where
  pub lacks : (i : ℕ) → i < n → bit s (get_or pivots i 0) ≡ 0

-- the arrays and the index after the rest of a set, with what was used, is stored as row n
pub record PushesIndexed (rows tags pivots place : List ℕ) (fresh late all n rest u : ℕ) (rows' tags' pivots' place' : List ℕ) (fresh' late' all' : ℕ)
    : Type 0 where
  pub row_stored : rows' ≡ put_row rows n rest
  pub tag_stored : tags' ≡ put_row tags n (pushed_tag n u)
  pub entered : Enters pivots place fresh late all n rest pivots' place' fresh' late' all'
  -- what was the index of the first n rows is that of the first n + 1, if the rest is not empty and lacks the pivots of the first n
  pub indexed : Indexed rows pivots place fresh late all n → (rest ≡ 0 → ⊥) → ((i : ℕ) → i < n → bit rest (get_or pivots i 0) ≡ 0)
      → Indexed rows' pivots' place' fresh' late' all' (n + 1)
