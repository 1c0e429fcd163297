-- Places in lists: what stands at a place of the rows is what the bytes at that place of the left buffer say.
use mathlib.Core.Path.{◌≡◌, refl, sym, ◌∙◌, ap₂}
use mathlib.Core.List.{List, [], ◌∷◌, ◌++◌, append_assoc}
use Prim.Native.Nat.{ℕ, zero, suc, ◌+◌, ◌*◌, ◌<◌, ◌≤◌}
use native.Mathlib.Omega.{arith}
use native.Mathlib.Nat.{div-add-mod', mul-zero, mul-suc}
use lib.ListN.{length, get_or, drop, length-append, length-drop, get_or-append}
use lib.Seq.{get_or-append-add, drop-append_seam}
use Rattle.cycles.specs.Rows.{Row, ClassRow, At}
use Rattle.answers.specs.Answered.{family_bytes, class_bytes, over}
use Rattle.answers.specs.Bytes.{byte, family_at, mark_at, class_at, long_at, rank_at, families_at, essential_at, sum_to, SpareKept}

-- Blocks of w bytes, one for each element of a list.
module _ {X : Type 0} (w : ℕ) (block : X → List ℕ) (blocks : List X → List ℕ) (wide : (x : X) → length (block x) ≡ w) (none : blocks [] ≡ [])
    (more : (x : X) (xs : List X) → blocks (x ∷ xs) ≡ block x ++ blocks xs) where
  pub length_blocks : (xs : List X) → length (blocks xs) ≡ w * length xs
  length_blocks [] = rw none (sym (mul-zero w))
  length_blocks (x ∷ xs) = rw more (simp length-append (omega (arith, wide x, length_blocks xs, mul-suc w (length xs))))

  -- Byte j of block k.
  pub get_or_blocks : {x : X} {xs : List X} {k : ℕ} (j l : ℕ) (rest : List ℕ) → j < w → l ≡ w * k + j → At xs k x
      → get_or (blocks xs ++ rest) l 0 ≡ get_or (block x) j 0
  get_or_blocks {x} j l rest h e (At.here {xs = xs}) =
      let d : l ≡ j = omega (arith, mul-zero w) in
      let g : j < length (block x) = omega (arith, wide x) in
      rw (d, more, append_assoc) (get_or-append (block x) (blocks xs ++ rest) 0 j g)
  get_or_blocks j l rest h e (At.later {y = y} {xs = xs} {i = k} a) =
      let d : l ≡ length (block y) + (w * k + j) = omega (arith, wide y, mul-suc w k) in
      rw (d, more, append_assoc) (get_or-append-add (block y) (blocks xs ++ rest) (w * k + j) 0 ∙ get_or_blocks j (w * k + j) rest h refl a)

-- ---- the rows
-- The eight bytes of a row.
abbrev row_bytes : Row → List ℕ
row_bytes row = family_bytes (row ∷ [])

-- A row has eight bytes.
pub length_family_bytes : (rows : List Row) → length (family_bytes rows) ≡ 8 * length rows
unfolding family_bytes
length_family_bytes = length_blocks 8 row_bytes family_bytes (λ row. refl) refl (λ row rows. refl)

-- Byte j of row k.
pub get_or_family_bytes : {row : Row} {rows : List Row} {k : ℕ} (j l : ℕ) (rest : List ℕ) → j < 8 → l ≡ 8 * k + j → At rows k row
    → get_or (family_bytes rows ++ rest) l 0 ≡ get_or (row_bytes row) j 0
unfolding family_bytes
get_or_family_bytes = get_or_blocks 8 row_bytes family_bytes (λ row. refl) refl (λ row rows. refl)

module _ {row : Row} {rows : List Row} {k : ℕ} (lent : List ℕ) (a : At rows k row) where
  row_byte : (j l : ℕ) → j < 8 → l ≡ 8 * k + j → byte (over (family_bytes rows) lent) l ≡ get_or (row_bytes row) j 0
  unfolding over
  row_byte j l h e = get_or_family_bytes j l (drop (length (family_bytes rows)) lent) h e a

  -- Row k of the buffer names the family of row k.
  pub family_at_row : family_at (over (family_bytes rows) lent) k ≡ row.family
  unfolding family_at family_bytes
  family_at_row =
      let long = row_byte 0 (8 * k) (omega arith) (omega arith) in
      let r = row_byte 1 (8 * k + 1) (omega arith) refl in
      let p = row_byte 2 (8 * k + 2) (omega arith) refl in
      let q = row_byte 3 (8 * k + 3) (omega arith) refl in
      let x = row_byte 4 (8 * k + 4) (omega arith) refl in
      λ i. record { long = long i; r = r i; p = p i; q = q i; x = x i }

  -- It has the mark of row k.
  pub mark_at_row : mark_at (over (family_bytes rows) lent) k ≡ row.mark
  unfolding mark_at family_bytes
  mark_at_row = row_byte 5 (8 * k + 5) (omega arith) refl

  -- It has the class of row k.
  pub class_at_row : class_at (over (family_bytes rows) lent) k ≡ row.class
  unfolding class_at family_bytes
  class_at_row = row_byte 6 (8 * k + 6) (omega arith) refl

  -- ".. and a byte 0."
  pub last_byte_row : byte (over (family_bytes rows) lent) (8 * k + 7) ≡ 0
  unfolding family_bytes
  last_byte_row = row_byte 7 (8 * k + 7) (omega arith) refl

-- ---- the class rows
-- The five bytes of a class row.
abbrev class_row_bytes : ClassRow → List ℕ
class_row_bytes row = class_bytes (row ∷ [])

-- A class row has five bytes.
pub length_class_bytes : (rows : List ClassRow) → length (class_bytes rows) ≡ 5 * length rows
unfolding class_bytes
length_class_bytes = length_blocks 5 class_row_bytes class_bytes (λ row. refl) refl (λ row rows. refl)

-- Byte j of class row g.
pub get_or_class_bytes : {row : ClassRow} {rows : List ClassRow} {g : ℕ} (j l : ℕ) (rest : List ℕ) → j < 5 → l ≡ 5 * g + j → At rows g row
    → get_or (class_bytes rows ++ rest) l 0 ≡ get_or (class_row_bytes row) j 0
unfolding class_bytes
get_or_class_bytes = get_or_blocks 5 class_row_bytes class_bytes (λ row. refl) refl (λ row rows. refl)

module _ {row : ClassRow} {rows : List ClassRow} {g : ℕ} (lent : List ℕ) (a : At rows g row) where
  class_byte : (j l : ℕ) → j < 5 → l ≡ 5 * g + j → byte (over (class_bytes rows) lent) l ≡ get_or (class_row_bytes row) j 0
  unfolding over
  class_byte j l h e = get_or_class_bytes j l (drop (length (class_bytes rows)) lent) h e a

  -- Class row g of the buffer has the length of class row g.
  pub long_at_row : long_at (over (class_bytes rows) lent) g ≡ row.long
  unfolding long_at class_bytes
  long_at_row = class_byte 0 (5 * g) (omega arith) (omega arith)

  -- It has its relative rank.
  pub rank_at_row : rank_at (over (class_bytes rows) lent) g ≡ row.rank
  unfolding rank_at class_bytes
  rank_at_row = class_byte 1 (5 * g + 1) (omega arith) refl

  -- Its low and high byte make up the number of families.
  pub families_at_row : families_at (over (class_bytes rows) lent) g ≡ row.families
  unfolding families_at class_bytes
  families_at_row =
      let low = class_byte 2 (5 * g + 2) (omega arith) refl in
      let high = class_byte 3 (5 * g + 3) (omega arith) refl in
      ap₂ (λ (x y : ℕ). x + 256 * y) low high ∙ omega (arith, div-add-mod' row.families 256)

  -- It has its essential mark.
  pub essential_at_row : essential_at (over (class_bytes rows) lent) g ≡ row.essential
  unfolding essential_at class_bytes
  essential_at_row = class_byte 4 (5 * g + 4) (omega arith) refl

-- ---- the spare bytes
-- "Bytes after the last stay as they were", if the bytes written fit.
pub spare_kept : (bytes lent : List ℕ) (width count : ℕ) → width * count ≡ length bytes → length bytes ≤ length lent
    → SpareKept width count (over bytes lent) lent
unfolding over
spare_kept bytes lent width count e h =
    record { same_length = simp (length-append, length-drop) (omega arith); spare = rw e (drop-append_seam bytes (drop (length bytes) lent)) }

-- ---- sums over the rows
-- A sum's first summand, taken out.
pub sum_to_first : (k : ℕ) (f : ℕ → ℕ) → sum_to (suc k) f ≡ f 0 + sum_to k (λ j. f (suc j))
unfolding sum_to
sum_to_first zero f = omega arith
sum_to_first (suc k) f = omega (arith, sum_to_first k f)
