-- What is written into places and read again: the first 96 bonds of each set, which is all that 12 bytes hold.
use mathlib.Core.Path.{◌≡◌, refl, sym, ap, ap₂, ◌∙◌}
use mathlib.Core.List.{List, [], ◌∷◌, ◌++◌, map, append_assoc}
use Prim.Native.Nat.{ℕ, zero, suc, ◌+◌, ◌-◌, ◌*◌, ◌/◌, ◌%◌, ◌^◌, ◌<◌, ◌≤◌}
use native.Mathlib.Nat.{mod-lt, mod-mod, div-add-mod', zero-mul, mul-le-mul_right}
use native.Mathlib.Omega.{arith}
use lib.Arith.{lt-one}
use lib.Bits.{bit_xor, xor_zero_l, xor_mod}
use lib.ListN.{length, get_or, take, drop, get_or-append}
use lib.Pow.{pow_pos, mod-pow-add}
use lib.Seq.{drop_at, length-take-le}
use Rattle.bondset.specs.Bytes.{byte_of, bytes_of, of_first, of_bytes}
use Rattle.bondset.proofs.Laws.{pos_of_ne, field_word_lo}
use Rattle.bondset.proofs.Bytes.{length_bytes_of, get_or_bytes_of}
use Rattle.model.specs.Fold.{each}
use Rattle.model.specs.Layer.{ways}
use Rattle.paths.specs.Nets.{net}
use Rattle.members.specs.Listed.{path_sets, sums, member_sets, placed, places_at, over, last_sets, Counted, Listed}
use Rattle.members.proofs.Places.{length_over, over_over, over_whole, placed_append, placed_first, placed_one, length_placed, length_sums}
use Rattle.members.proofs.Listing.{path_sets_many}

-- ---- 12 bytes of a set

-- The bonds that 12 bytes hold.
abbrev pub kept : ℕ → ℕ
kept s = s % 2 ^ 96

byte_kept : (s j : ℕ) → j < 12 → byte_of (kept s) j ≡ byte_of s j
byte_kept s j h =
    sym (ap (λ (x : ℕ). x / 2 ^ (8 * j) % 256) (sym (div-add-mod' s (2 ^ 96)))
    ∙ field_word_lo 96 (s / 2 ^ 96) (s % 2 ^ 96) (mod-lt s (pow_pos 96)) 8 (8 * j) (omega arith))

bytes_same : (n s t : ℕ) → ((j : ℕ) → j < n → byte_of s j ≡ byte_of t j) → bytes_of n s ≡ bytes_of n t
unfolding bytes_of
bytes_same zero s t h = refl
bytes_same (suc n) s t h = ap₂ (λ (l : List ℕ) (b : ℕ). l ++ (b ∷ [])) (bytes_same n s t (λ j l. h j (omega arith))) (h n (omega arith))

bytes_kept : (s : ℕ) → bytes_of 12 (kept s) ≡ bytes_of 12 s
bytes_kept s = bytes_same 12 (kept s) s (byte_kept s)

-- A sum of kept bonds has the bytes of the sum.
pub bytes_sum : (a b : ℕ) → bytes_of 12 (bit_xor a (kept b)) ≡ bytes_of 12 (bit_xor a b)
bytes_sum a b =
    sym (bytes_kept (bit_xor a (kept b)))
    ∙ ap (bytes_of 12) (xor_mod a (kept b) 96 ∙ ap (bit_xor (kept a)) (mod-mod b (2 ^ 96)) ∙ sym (xor_mod a b 96))
    ∙ bytes_kept (bit_xor a b)

-- Bytes that are those of a set stand for its kept bonds.
first_bytes : (n s : ℕ) (bs : List ℕ) → ((j : ℕ) → j < n → get_or bs j 0 ≡ byte_of s j) → of_first n bs ≡ s % 2 ^ (8 * n)
unfolding of_first
first_bytes zero s bs h = sym (lt-one (mod-lt s (pow_pos 0)))
first_bytes (suc n) s bs h =
    ap₂ (λ (x y : ℕ). x * 2 ^ (8 * n) + y) (h n (omega arith)) (first_bytes n s bs (λ j l. h j (omega arith)))
    ∙ sym (mod-pow-add s 8 (8 * n)) ∙ ap (λ (x : ℕ). s % 2 ^ x) (omega arith)

pub bytes_read : (s : ℕ) (more : List ℕ) → of_bytes (bytes_of 12 s ++ more) ≡ kept s
bytes_read s more =
    first_bytes 12 s (bytes_of 12 s ++ more) (λ j h. get_or-append (bytes_of 12 s) more 0 j (rw length_bytes_of h) ∙ get_or_bytes_of 12 s j h)

-- ---- sets that were written are read

-- What lies from the first byte written on.
over_from : (d : List ℕ) (k : ℕ) (bs : List ℕ) → k ≤ length d → drop k (over d k bs) ≡ bs ++ drop (k + length bs) d
unfolding over
over_from d k bs h = drop_at (take k d) (bs ++ drop (k + length bs) d) k (length-take-le k d h)

pub read_back : (ys d : List ℕ) (k : ℕ) → 12 * (k + length ys) ≤ length d → places_at (over d (12 * k) (placed ys)) k (length ys) ≡ map kept ys
unfolding places_at
read_back [] d k h = refl
read_back (y ∷ ys) d k h =
    let u = bytes_of 12 y in
    let long : length u ≡ 12 = length_bytes_of 12 y in
    let behind = drop (12 * k + length (placed (y ∷ ys))) d in
    let split : over d (12 * k) (placed (y ∷ ys)) ≡ over (over d (12 * k) u) (12 * suc k) (placed ys) =
    ap (over d (12 * k)) (placed_first y ys) ∙ sym (over_over d (12 * k) u (omega arith) (placed ys) (12 * suc k) (omega arith)) in
    ap₂ (λ (x : ℕ) (l : List ℕ). x ∷ l)
    (ap of_bytes (over_from d (12 * k) (placed (y ∷ ys)) (omega arith) ∙ ap (λ (l : List ℕ). l ++ behind) (placed_first y ys) ∙ append_assoc u (placed ys) behind)
    ∙ bytes_read y (placed ys ++ behind))
    (ap (λ (l : List ℕ). places_at l (suc k) (length ys)) split
    ∙ read_back ys (over d (12 * k) u) (suc k) (omega (arith, length_over d (12 * k) u (omega arith))))

-- ---- sums with what was read

placed_kept : (P : ℕ) (ys : List ℕ) → placed (map (bit_xor P) (map kept ys)) ≡ placed (map (bit_xor P) ys)
unfolding placed each
placed_kept P [] = refl
placed_kept P (y ∷ ys) = ap₂ (λ (x l : List ℕ). x ++ l) (bytes_sum P y) (placed_kept P ys)

pub sums_kept : (Ps ys : List ℕ) → placed (sums Ps (map kept ys)) ≡ placed (sums Ps ys)
unfolding sums each
sums_kept [] ys = refl
sums_kept (P ∷ Ps) ys =
    placed_append (map (bit_xor P) (map kept ys)) (sums Ps (map kept ys))
    ∙ ap₂ (λ (x l : List ℕ). x ++ l) (placed_kept P ys) (sums_kept Ps ys)
    ∙ sym (placed_append (map (bit_xor P) ys) (sums Ps ys))

plus_none : (L : List ℕ) → map (bit_xor 0) L ≡ L
plus_none [] = refl
plus_none (x ∷ L) = ap₂ (λ (y : ℕ) (l : List ℕ). y ∷ l) (xor_zero_l x) (plus_none L)

none_of_length : (L : List ℕ) → length L ≡ 0 → L ≡ []
none_of_length [] e = refl
none_of_length (x ∷ L) e = absurd (omega arith)

-- ---- all members

-- There are as many members as pairs of paths.
pub member_sets_many : (adj touch layers : List ℕ) (d p q link : ℕ)
    → length (member_sets (net adj touch) layers d p q link) ≡ ways (net adj []) layers d p * ways (net adj []) layers d q
unfolding member_sets
member_sets_many adj touch layers d p q link =
    let G = net adj touch in
    length_sums (path_sets G layers d p) (sums (path_sets G layers d q) (link ∷ []))
    ∙ ap₂ (λ (x y : ℕ). x * y) (path_sets_many G layers d p) (length_sums (path_sets G layers d q) (link ∷ []) ∙ omega (arith, path_sets_many G layers d q))

module _ (adj touch layers rings : List ℕ) (d p q link b : ℕ) (counted : Counted adj layers rings d p q b) where
  abbrev Ps : List ℕ
  Ps = path_sets (net adj touch) layers d p

  abbrev Qs : List ℕ
  Qs = path_sets (net adj touch) layers d q

  abbrev last : List ℕ
  last = sums Qs (link ∷ [])

  abbrev n : ℕ
  n = length rings / 12

  n_is : n ≡ ways (net adj []) layers d p * b
  n_is = omega (arith, counted.places)

  whole : length rings ≡ 12 * n
  whole = omega (arith, counted.places)

  many_last : length last ≡ b
  many_last = length_sums Qs (link ∷ []) ∙ omega (arith, path_sets_many (net adj touch) layers d q, counted.from_q)

  many : length (member_sets (net adj touch) layers d p q link) ≡ n
  many =
      member_sets_many adj touch layers d p q link ∙ ap (λ (x : ℕ). ways (net adj []) layers d p * x) (sym counted.from_q) ∙ sym n_is

  -- There is no member.
  pub write_none : n ≡ 0 → rings ≡ placed (member_sets (net adj touch) layers d p q link)
  unfolding placed each
  write_none z = rw (none_of_length (member_sets (net adj touch) layers d p q link) (many ∙ z)) (none_of_length rings (omega (arith, whole)))

  module _ (some : n ≡ 0 → ⊥) where
    pub one_block : b ≤ n
    one_block =
        let w = ways (net adj []) layers d p in
        let w-some = pos_of_ne w (λ z. some (n_is ∙ ap (λ (x : ℕ). x * b) z ∙ zero-mul b)) in
        omega (arith, n_is, mul-le-mul_right b w-some)

    module _ (rings₁ : List ℕ) (linked : rings₁ ≡ over rings (12 * (n - 1)) (bytes_of 12 link)) where
      length₁ : length rings₁ ≡ length rings
      length₁ = ap length linked ∙ length_over rings (12 * (n - 1)) (bytes_of 12 link) (omega (arith, length_bytes_of 12 link, whole))

      module _ (rings₂ : List ℕ) (r : ℕ) (listed₂ : Listed adj touch layers d q 0 1 (n - b) rings₁ rings₂ r) where
        source₁ : last_sets rings₁ 1 ≡ map kept (link ∷ [])
        source₁ =
            ap₂ (λ (l : List ℕ) (i : ℕ). places_at l (i / 12 - 1) 1) (linked ∙ ap (over rings (12 * (n - 1))) (sym (placed_one link))) length₁
            ∙ read_back (link ∷ []) rings (n - 1) (omega (arith, whole))

        written₂ : rings₂ ≡ over rings₁ (12 * (n - b)) (placed last)
        written₂ =
            listed₂.written
            ∙ ap₂ (λ (L X : List ℕ). over rings₁ (12 * (n - b)) (placed (sums L X))) (plus_none Qs) source₁
            ∙ ap (over rings₁ (12 * (n - b))) (sums_kept Qs (link ∷ []))

        length₂ : length rings₂ ≡ length rings
        length₂ =
            ap length written₂
            ∙ length_over rings₁ (12 * (n - b)) (placed last) (omega (arith, length_placed last, many_last, length₁, one_block)) ∙ length₁

        module _ (rings₃ : List ℕ) (r' : ℕ) (listed₃ : Listed adj touch layers d p 0 b 0 rings₂ rings₃ r') where
          source₂ : last_sets rings₂ b ≡ map kept last
          source₂ =
              ap₂ (λ (l : List ℕ) (i : ℕ). places_at l (i / 12 - b) b) written₂ length₂
              ∙ ap (places_at (over rings₁ (12 * (n - b)) (placed last)) (n - b)) (sym many_last)
              ∙ read_back last rings₁ (n - b) (omega (arith, many_last, length₁, one_block))

          pub write_all : rings₃ ≡ placed (member_sets (net adj touch) layers d p q link)
          unfolding member_sets
          write_all =
              let M = placed (sums Ps last) in
              let wide : length M ≡ 12 * n = length_placed (sums Ps last) ∙ ap (λ (x : ℕ). 12 * x) many in
              listed₃.written
              ∙ ap₂ (λ (L X : List ℕ). over rings₂ 0 (placed (sums L X))) (plus_none Ps) source₂
              ∙ ap (over rings₂ 0) (sums_kept Ps last)
              ∙ over_whole rings₂ M (omega (arith, length₂, whole))
