-- Bytes written over a list, sets as bytes, and the sets in the places of a buffer.
use mathlib.Core.Path.{◌≡◌, refl, sym, ap, ap₂, ◌∙◌}
use mathlib.Core.List.{List, [], ◌∷◌, ◌++◌, map, append_assoc, append-nil}
use Prim.Native.Nat.{ℕ, zero, suc, ◌+◌, ◌-◌, ◌*◌, ◌<◌, ◌≤◌, min}
use native.Mathlib.Nat.{add-zero, sub-zero}
use native.Mathlib.Omega.{arith}
use lib.Bits.{bit_xor}
use lib.ListN.{length, take, drop, length-append, length-take, length-drop, length-map, take-append-drop, drop_of_length-le}
use lib.Seq.{take_all, take_at, drop-append-add, drop-drop, paste}
use Rattle.bondset.specs.Bytes.{bytes_of, of_bytes}
use Rattle.bondset.proofs.Bytes.{length_bytes_of}
use Rattle.model.specs.Fold.{each}
use Rattle.members.specs.Listed.{sums, placed, places_at, over}

-- ---- bytes written over a list

module _ (d : List ℕ) (k : ℕ) where
  pub over_none : over d k [] ≡ d
  unfolding over
  over_none = rw add-zero (take-append-drop k d)

  pub length_over : (bs : List ℕ) → k + length bs ≤ length d → length (over d k bs) ≡ length d
  unfolding over
  length_over bs h = simp (length-append, length-take, length-drop) (omega arith)

  module _ (bs : List ℕ) (fits : k + length bs ≤ length d) where
    front : length (take k d ++ bs) ≡ k + length bs
    front = simp (length-append, length-take) (omega arith)

    split : over d k bs ≡ (take k d ++ bs) ++ drop (k + length bs) d
    unfolding over
    split = sym (append_assoc (take k d) bs (drop (k + length bs) d))

    take_over : take (k + length bs) (over d k bs) ≡ take k d ++ bs
    take_over = rw split (take_at (take k d ++ bs) (drop (k + length bs) d) (k + length bs) front)

    -- What lies behind the bytes stays.
    pub drop_over : (m : ℕ) → k + length bs ≤ m → drop m (over d k bs) ≡ drop m d
    drop_over m h =
        let x = m - (k + length bs) in
        let e : m ≡ length (take k d ++ bs) + x = omega (arith, front) in
        let f : k + length bs + x ≡ m = omega arith in
        ap (λ (l : List ℕ). drop m l) split
        ∙ ap (λ (i : ℕ). drop i ((take k d ++ bs) ++ drop (k + length bs) d)) e
        ∙ drop-append-add (take k d ++ bs) (drop (k + length bs) d) x
        ∙ drop-drop x (k + length bs) d ∙ ap (λ (i : ℕ). drop i d) f

    -- Bytes, and then more right behind them.
    pub over_over : (v : List ℕ) (j : ℕ) → j ≡ k + length bs → over (over d k bs) j v ≡ over d k (bs ++ v)
    unfolding over
    over_over v j e =
        let all : k + length bs + length v ≡ k + length (bs ++ v) = omega (arith, length-append bs v) in
        ap (λ (i : ℕ). over (over d k bs) i v) e
        ∙ ap₂ (λ (l r : List ℕ). l ++ (v ++ r)) take_over (drop_over (k + length bs + length v) (omega arith) ∙ ap (λ (i : ℕ). drop i d) all)
        ∙ append_assoc (take k d) bs (v ++ drop (k + length (bs ++ v)) d)
        ∙ ap (λ (l : List ℕ). take k d ++ l) (sym (append_assoc bs v (drop (k + length (bs ++ v)) d)))

-- A list that is written over as a whole.
pub over_whole : (d bs : List ℕ) → length bs ≡ length d → over d 0 bs ≡ bs
unfolding over
over_whole d bs e =
    let none : drop (0 + length bs) d ≡ [] = drop_of_length-le d {i = 0 + length bs} (omega arith) in
    ap (λ (l : List ℕ). bs ++ l) none ∙ append-nil bs

-- ---- one place

module _ (d : List ℕ) (j : ℕ) (fits : 12 * (j + 1) ≤ length d) where
  -- The part from byte 12j on is all that lies there.
  pub part_all : take (length d - 12 * j) (drop (12 * j) d) ≡ drop (12 * j) d
  part_all = take_all (length d - 12 * j) (drop (12 * j) d) (omega (arith, length-drop (12 * j) d))

  -- 12 bytes written into the part.
  pub put_part : (bs out : List ℕ) → length bs ≡ 12
      → let part = take (length d - 12 * j) (drop (12 * j) d) in out ≡ paste part 0 bs (min 12 (length part))
      → take (12 * j) d ++ (out ++ drop (length d - 12 * j) (drop (12 * j) d)) ≡ over d (12 * j) bs
  unfolding over
  put_part bs out long is =
      let part = take (length d - 12 * j) (drop (12 * j) d) in
      let few : min 12 (length part) ≡ 12 = omega (arith, ap length part_all, length-drop (12 * j) d) in
      let none : drop (length d - 12 * j) (drop (12 * j) d) ≡ [] = drop_of_length-le (drop (12 * j) d) {i = length d - 12 * j} (omega (arith, length-drop (12 * j) d)) in
      let written : out ≡ bs ++ drop (12 * j + 12) d =
      is ∙ ap₂ (λ (n : ℕ) (l : List ℕ). paste l 0 bs n) few part_all
      ∙ ap₂ (λ (x y : List ℕ). x ++ y) (take_all 12 bs (omega arith)) (drop-drop 12 (12 * j) d) in
      ap (λ (l : List ℕ). take (12 * j) d ++ (out ++ l)) none
      ∙ ap (λ (l : List ℕ). take (12 * j) d ++ l) (append-nil out ∙ written)
      ∙ ap (λ (n : ℕ). take (12 * j) d ++ (bs ++ drop (12 * j + n) d)) (sym long)

-- ---- lists

pub each_append : {A C : Type 0} (f : A → List C) (xs ys : List A) → each f (xs ++ ys) ≡ each f xs ++ each f ys
unfolding each
each_append f [] ys = refl
each_append f (x ∷ xs) ys = rw (each_append f xs ys) (sym (append_assoc (f x) (each f xs) (each f ys)))

pub placed_append : (xs ys : List ℕ) → placed (xs ++ ys) ≡ placed xs ++ placed ys
unfolding placed
placed_append xs ys = each_append (bytes_of 12) xs ys

pub placed_first : (x : ℕ) (xs : List ℕ) → placed (x ∷ xs) ≡ bytes_of 12 x ++ placed xs
unfolding placed each
placed_first x xs = refl

pub placed_one : (x : ℕ) → placed (x ∷ []) ≡ bytes_of 12 x
unfolding placed each
placed_one x = append-nil (bytes_of 12 x)

pub length_placed : (xs : List ℕ) → length (placed xs) ≡ 12 * length xs
unfolding placed each
length_placed [] = refl
length_placed (x ∷ xs) = omega (arith, length-append (bytes_of 12 x) (placed xs), length_bytes_of 12 x, length_placed xs)

pub sums_append : (A B xs : List ℕ) → sums (A ++ B) xs ≡ sums A xs ++ sums B xs
unfolding sums
sums_append A B xs = each_append (λ P. map (bit_xor P) xs) A B

pub length_sums : (A xs : List ℕ) → length (sums A xs) ≡ length A * length xs
unfolding sums each
length_sums [] xs = omega arith
length_sums (a ∷ A) xs = omega (arith, length-append (map (bit_xor a) xs) (sums A xs), length-map xs (bit_xor a), length_sums A xs)

-- ---- the sets in places

pub length_places : (bytes : List ℕ) (from n : ℕ) → length (places_at bytes from n) ≡ n
unfolding places_at
length_places bytes from zero = refl
length_places bytes from (suc n) = ap suc (length_places bytes (suc from) n)

-- They depend on what lies from the first of them on.
pub places_same : (a b : List ℕ) (from n : ℕ) → drop (12 * from) a ≡ drop (12 * from) b → places_at a from n ≡ places_at b from n
unfolding places_at
places_same a b from zero e = refl
places_same a b from (suc n) e = ap₂ (λ (x : ℕ) (l : List ℕ). x ∷ l) (ap of_bytes e) (places_same a b (suc from) n (next a ∙ ap (drop 12) e ∙ sym (next b)))
  where
    next : (l : List ℕ) → drop (12 * suc from) l ≡ drop 12 (drop (12 * from) l)
    next l = let f : 12 * suc from ≡ 12 * from + 12 = omega arith in ap (λ (i : ℕ). drop i l) f ∙ sym (drop-drop 12 (12 * from) l)

-- ---- a block, place by place

-- What is written when j places of the block are.
abbrev pub rest_block : ℕ → ℕ → ℕ → ℕ → List ℕ → ℕ → List ℕ
rest_block path from count at rings j = over rings (12 * (at + j)) (placed (map (bit_xor path) (places_at rings (from + j) (count - j))))

pub block_start : (path from count at : ℕ) (rings : List ℕ)
    → rest_block path from count at rings 0 ≡ over rings (12 * at) (placed (map (bit_xor path) (places_at rings from count)))
block_start path from count at rings = simp (add-zero, sub-zero)

module _ (path from count at : ℕ) (rings : List ℕ) (source : 12 * (from + count) ≤ length rings) (below : at ≤ from) where
  pub block_more : (j x : ℕ) → j < count → x ≡ bit_xor path (of_bytes (drop (12 * (from + j)) rings))
      → rest_block path from count at (over rings (12 * (at + j)) (bytes_of 12 x)) (j + 1) ≡ rest_block path from count at rings j
  unfolding places_at placed each
  block_more j x less is =
      let m = count - (j + 1) in
      let c : count - j ≡ suc m = omega arith in
      let g : from + (j + 1) ≡ suc (from + j) = omega arith in
      let u = bytes_of 12 x in
      let long = length_bytes_of 12 x in
      let rings' = over rings (12 * (at + j)) u in
      let same : places_at rings' (from + (j + 1)) m ≡ places_at rings (suc (from + j)) m =
      places_same rings' rings (from + (j + 1)) m (drop_over rings (12 * (at + j)) u (omega arith) (12 * (from + (j + 1))) (omega arith))
      ∙ ap (λ (i : ℕ). places_at rings i m) g in
      ap (λ (l : List ℕ). over rings' (12 * (at + (j + 1))) (placed (map (bit_xor path) l))) same
      ∙ over_over rings (12 * (at + j)) u (omega arith) (placed (map (bit_xor path) (places_at rings (suc (from + j)) m))) (12 * (at + (j + 1))) (omega arith)
      ∙ rw (is, c)

  pub block_end : (j : ℕ) → count ≤ j → rest_block path from count at rings j ≡ rings
  unfolding places_at placed each
  block_end j le = let c : count - j ≡ 0 = omega arith in rw c (over_none rings (12 * (at + j)))
