-- Bond sets as bytes: each bond is a bit of one byte, and sets and bytes give each other back.
use mathlib.Core.Path.{◌≡◌, refl, sym, ap, ap₂, ◌∙◌, subst}
use mathlib.Core.Logic.{⊎_elim}
use mathlib.Core.List.{List, [], ◌∷◌, ◌++◌}
use Prim.Native.Nat.{ℕ, zero, suc, ◌+◌, ◌-◌, ◌*◌, ◌/◌, ◌%◌, ◌^◌, ◌≤◌, ◌<◌, min}
use native.Mathlib.Nat.{mod-eq_of_lt, mod-lt, add_assoc, add_comm, add-mul, mul_assoc, zero-add, zero-mul, suc-add, zero-lt-suc}
use native.Mathlib.Omega.{arith}
use lib.Arith.{digits_lt, lt-one}
use lib.ListN.{length, length-append, get_or, take, drop, replicate, get_or-append}
use lib.Pow.{pow_pos, pow-add, high, mod-pow-add, shr-shr}
use lib.Seq.{get_or_at, get_or-drop, ext_get_or, get_or-append_right}
use Rattle.std.proofs.lemmas.List.{get_or-take, get_or-replicate, get_or_past, length-take-le, length-drop}
use Rattle.std.proofs.Common.{pow-suc}
use Rattle.std.specs.Int.{w64, byte_at, byte_worth, bytes_low_first, sum_through, to_le_bytes, from_le_bytes}
use Rattle.bondset.specs.Sets.{bit}
use Rattle.bondset.specs.Bytes.{byte_of, bytes_of, of_first, of_bytes}
use Rattle.bondset.proofs.Laws.{bit_low, field_word_lo, shr_word_hi, lt_or_ge}

-- bond k is bit k mod 8 of byte k / 8
pub bit_byte_of : (s k : ℕ) → bit (byte_of s (k / 8)) (k % 8) ≡ bit s k
bit_byte_of s k =
    let e : 8 ≡ (7 - k % 8) + (1 + k % 8) = omega (arith, mod-lt k (zero-lt-suc 7)) in
    ap (λ (x : ℕ). bit (s / 2 ^ (8 * (k / 8)) % 2 ^ x) (k % 8)) e
    ∙ bit_low (7 - k % 8) (s / 2 ^ (8 * (k / 8))) (k % 8)
    ∙ ap (λ (x : ℕ). x % 2) (shr-shr s (8 * (k / 8)) (k % 8))
    ∙ ap (λ (x : ℕ). s / 2 ^ x % 2) (omega arith)

pub length_bytes_of : (n s : ℕ) → length (bytes_of n s) ≡ n
unfolding bytes_of
length_bytes_of zero s = refl
length_bytes_of (suc n) s = simp length-append (omega (arith, length_bytes_of n s))

pub get_or_bytes_of : (n s j : ℕ) → j < n → get_or (bytes_of n s) j 0 ≡ byte_of s j
unfolding bytes_of
get_or_bytes_of zero s j h = absurd (omega arith)
get_or_bytes_of (suc n) s j h =
    ⊎_elim (λ (l : j < n). get_or-append (bytes_of n s) (byte_of s n ∷ []) 0 j (rw length_bytes_of l) ∙ get_or_bytes_of n s j l)
    (λ (l : n ≤ j). let e : j ≡ n = omega arith in rw e (get_or_at (bytes_of n s) (byte_of s n) [] 0 n (length_bytes_of n s))) (lt_or_ge j n)

-- bytes that are those of a set stand for it
pub of_first_byte_of : (n s : ℕ) (bs : List ℕ) → ((j : ℕ) → j < n → get_or bs j 0 ≡ byte_of s j) → of_first n bs ≡ s % 2 ^ (8 * n)
unfolding of_first
of_first_byte_of zero s bs h = sym (lt-one (mod-lt s (pow_pos 0)))
of_first_byte_of (suc n) s bs h =
    ap₂ (λ (x y : ℕ). x * 2 ^ (8 * n) + y) (h n (omega arith)) (of_first_byte_of n s bs (λ j l. h j (omega arith)))
    ∙ sym (mod-pow-add s 8 (8 * n)) ∙ ap (λ (x : ℕ). s % 2 ^ x) (omega arith)

-- the 12 bytes of a set of 96 bonds give it back
pub of_bytes_bytes_of : (s : ℕ) → s < 2 ^ 96 → of_bytes (bytes_of 12 s) ≡ s
of_bytes_bytes_of s h = of_first_byte_of 12 s (bytes_of 12 s) (get_or_bytes_of 12 s) ∙ mod-eq_of_lt h

-- a byte over n bytes makes n + 1 bytes
byte_over : (n r b : ℕ) → r < 2 ^ (8 * n) → b < 256 → b * 2 ^ (8 * n) + r < 2 ^ (8 * suc n)
byte_over n r b h l =
    let e : 256 * 2 ^ (8 * n) ≡ 2 ^ (8 * suc n) = sym (pow-add 2 8 (8 * n)) ∙ ap (λ (x : ℕ). 2 ^ x) (omega arith) in
    subst (λ (x : ℕ). b * 2 ^ (8 * n) + r < x) e (digits_lt l h)

-- n bytes stand for a set of 8n bonds
pub of_first_lt : (n : ℕ) (bs : List ℕ) → ((j : ℕ) → j < n → get_or bs j 0 < 256) → of_first n bs < 2 ^ (8 * n)
unfolding of_first
of_first_lt zero bs h = pow_pos 0
of_first_lt (suc n) bs h =
    byte_over n (of_first n bs) (get_or bs n 0) (of_first_lt n bs (λ j l. h j (omega arith))) (h n (omega arith))

pub byte_of_of_first : (n : ℕ) (bs : List ℕ) → ((j : ℕ) → j < n → get_or bs j 0 < 256) → (j : ℕ) → j < n → byte_of (of_first n bs) j ≡ get_or bs j 0
unfolding of_first
byte_of_of_first zero bs h j l = absurd (omega arith)
byte_of_of_first (suc n) bs h j l =
    let r = of_first_lt n bs (λ i p. h i (omega arith)) in
    ⊎_elim (λ (p : j < n). field_word_lo (8 * n) (get_or bs n 0) (of_first n bs) r 8 (8 * j) (omega arith) ∙ byte_of_of_first n bs (λ i q. h i (omega arith)) j p)
    (λ (p : n ≤ j). let e : j ≡ n = omega arith in rw (e, high (get_or bs n 0) (8 * n) r) (mod-eq_of_lt (h n (omega arith)))) (lt_or_ge j n)

-- the set of 12 bytes gives them back
pub bytes_of_of_bytes : (bs : List ℕ) → length bs ≡ 12 → ((j : ℕ) → j < 12 → get_or bs j 0 < 256) → bytes_of 12 (of_bytes bs) ≡ bs
bytes_of_of_bytes bs e h =
    ext_get_or 0 (bytes_of 12 (of_bytes bs)) bs (length_bytes_of 12 (of_bytes bs) ∙ sym e)
    (λ i l. let p : i < 12 = rw length_bytes_of at l in get_or_bytes_of 12 (of_bytes bs) i p ∙ byte_of_of_first 12 bs h i p)

-- the bytes in two parts, each of which stands for a word
pub of_first_split : (m n : ℕ) (bs : List ℕ) → of_first (m + n) bs ≡ of_first m (drop n bs) * 2 ^ (8 * n) + of_first n bs
unfolding of_first
of_first_split zero n bs = rw zero-add (omega (arith, zero-mul (2 ^ (8 * n))))
of_first_split (suc m) n bs =
    let e : 8 * (m + n) ≡ 8 * m + 8 * n = omega arith in
    rw (suc-add, get_or-drop, add_comm n m, add-mul, add_assoc, ← of_first_split m n bs, e, pow-add, mul_assoc)

-- ---- the library's bytes of a word

pow_byte : (k : ℕ) → 256 ^ k ≡ 2 ^ (8 * k)
pow_byte zero = refl
pow_byte (suc k) = rw (pow-suc 256 k, pow_byte k) (sym (pow-add 2 (8 * k) 8) ∙ ap (λ (x : ℕ). 2 ^ x) (omega arith))

byte_at_of : (i n : ℕ) → byte_at i n ≡ byte_of n i
byte_at_of zero n = omega arith
byte_at_of (suc i) n = ap (λ (x : ℕ). n / x % 256) (pow_byte (suc i))

get_or_word : (i k n j : ℕ) → j < k → get_or (bytes_low_first i k n) j 0 ≡ byte_of n (i + j)
get_or_word i zero n j h = absurd (omega arith)
get_or_word i (suc k) n zero h = byte_at_of i n ∙ ap (byte_of n) (omega arith)
get_or_word i (suc k) n (suc j) h = get_or_word (suc i) k n j (omega arith) ∙ ap (byte_of n) (omega arith)

-- each byte of two words lies in one of them
module _ (hi lo : ℕ) (small : lo < 2 ^ 64) (j : ℕ) where
  pub byte_lo : j < 8 → get_or (to_le_bytes w64 lo) j 0 ≡ byte_of (hi * 2 ^ 64 + lo) j
  byte_lo h = get_or_word 0 8 lo j h ∙ ap (byte_of lo) (zero-add j) ∙ sym (field_word_lo 64 hi lo small 8 (8 * j) (omega arith))

  byte_hi : 8 ≤ j → j < 16 → get_or (to_le_bytes w64 hi) (j - 8) 0 ≡ byte_of (hi * 2 ^ 64 + lo) j
  byte_hi h l =
      let e : 8 * (j - 8) ≡ 8 * j - 64 = omega arith in
      get_or_word 0 8 hi (j - 8) (omega arith) ∙ ap (byte_of hi) (zero-add (j - 8)) ∙ ap (λ (x : ℕ). hi / 2 ^ x % 256) e
      ∙ ap (λ (x : ℕ). x % 256) (sym (shr_word_hi 64 hi lo small (8 * j) (omega arith)))

  byte_words : j < 16 → get_or (to_le_bytes w64 lo ++ to_le_bytes w64 hi) j 0 ≡ byte_of (hi * 2 ^ 64 + lo) j
  byte_words l =
      ⊎_elim (λ (h : j < 8). get_or-append (to_le_bytes w64 lo) (to_le_bytes w64 hi) 0 j h ∙ byte_lo h)
      (λ (h : 8 ≤ j). get_or-append_right (to_le_bytes w64 lo) (to_le_bytes w64 hi) j 0 h ∙ byte_hi h l) (lt_or_ge j 8)

-- the first bytes of two words are those of the set
pub take_words : (hi lo n : ℕ) → lo < 2 ^ 64 → n ≤ 12 → take n (to_le_bytes w64 lo ++ to_le_bytes w64 hi) ≡ take n (bytes_of 12 (hi * 2 ^ 64 + lo))
take_words hi lo n small h =
    let both = to_le_bytes w64 lo ++ to_le_bytes w64 hi in
    let s = hi * 2 ^ 64 + lo in
    let first : length (take n both) ≡ n = length-take-le n both (omega arith) in
    let second : length (take n (bytes_of 12 s)) ≡ n = length-take-le n (bytes_of 12 s) (rw length_bytes_of h) in
    ext_get_or 0 (take n both) (take n (bytes_of 12 s)) (first ∙ sym second)
    (λ i l.
    let p : i < n = rw first at l in
    get_or-take n both i 0 p ∙ byte_words hi lo small i (omega arith)
    ∙ sym (get_or_bytes_of 12 s i (omega arith)) ∙ sym (get_or-take n (bytes_of 12 s) i 0 p))

-- ---- a word that the library reads from bytes

read_through : (bs : List ℕ) (k : ℕ) → sum_through (λ i. byte_worth i (get_or bs i 0)) k ≡ of_first (suc k) bs
unfolding of_first
read_through bs zero = omega arith
read_through bs (suc k) =
    rw (read_through bs k, pow_byte (suc k)) (add_comm (of_first (suc k) bs) (get_or bs (suc k) 0 * 2 ^ (8 * suc k)))

of_first_same : (n : ℕ) (bs cs : List ℕ) → ((j : ℕ) → j < n → get_or bs j 0 ≡ get_or cs j 0) → of_first n bs ≡ of_first n cs
unfolding of_first
of_first_same zero bs cs h = refl
of_first_same (suc n) bs cs h =
    ap₂ (λ (x y : ℕ). x * 2 ^ (8 * n) + y) (h n (omega arith)) (of_first_same n bs cs (λ j l. h j (omega arith)))

of_first_zeros : (k n : ℕ) (bs : List ℕ) → ((j : ℕ) → n ≤ j → j < k + n → get_or bs j 0 ≡ 0) → of_first (k + n) bs ≡ of_first n bs
unfolding of_first
of_first_zeros zero n bs h = ap (λ (x : ℕ). of_first x bs) (zero-add n)
of_first_zeros (suc k) n bs h =
    rw (suc-add, h (k + n) (omega arith) (omega arith), zero-mul, zero-add) (of_first_zeros k n bs (λ j p l. h j p (omega arith)))

-- two words that are read from 16 bytes, of which 12 are those of the list and the others 0
module _ (all bs : List ℕ) (given : (j : ℕ) → j < 12 → get_or all j 0 ≡ get_or bs j 0) (rest : (j : ℕ) → 12 ≤ j → j < 16 → get_or all j 0 ≡ 0) where
  words_read : from_le_bytes w64 (take 8 (drop 8 all)) * 2 ^ 64 + from_le_bytes w64 (take 8 all) ≡ of_bytes bs
  words_read =
      let word : (cs : List ℕ) → from_le_bytes w64 (take 8 cs) ≡ of_first 8 cs =
      λ cs. read_through (take 8 cs) 7 ∙ of_first_same 8 (take 8 cs) cs (λ j l. get_or-take 8 cs j 0 l) in
      ap₂ (λ (x y : ℕ). x * 2 ^ 64 + y) (word (drop 8 all)) (word all) ∙ sym (of_first_split 8 8 all)
      ∙ of_first_zeros 4 12 all rest ∙ of_first_same 12 all bs given

-- the first bytes of a list in front of zeros, 16 bytes in all
abbrev pub padded : List ℕ → ℕ → List ℕ
padded bs n = take n bs ++ drop n (replicate 16 0)

module _ (bs : List ℕ) (n : ℕ) (e : n ≡ min 12 (length bs)) where
  front : length (take n bs) ≡ n
  front = length-take-le n bs (omega arith)

  pub length_padded : length (padded bs n) ≡ 16
  length_padded = simp length-append (omega (arith, front, length-drop {A = ℕ} n (replicate 16 0)))

  zeros : (j : ℕ) → n ≤ j → j < 16 → get_or (padded bs n) j 0 ≡ 0
  zeros j h l =
      get_or-append_right (take n bs) (drop n (replicate 16 0)) j 0 (rw front h) ∙ get_or-drop n (replicate 16 0) (j - length (take n bs)) 0
      ∙ get_or-replicate 16 (n + (j - length (take n bs))) 0 0 (rw front (omega arith))

  pub words_padded : from_le_bytes w64 (take 8 (drop 8 (padded bs n))) * 2 ^ 64 + from_le_bytes w64 (take 8 (padded bs n)) ≡ of_bytes bs
  words_padded =
      words_read (padded bs n) bs
      (λ j l.
      ⊎_elim (λ (h : j < n). get_or-append (take n bs) (drop n (replicate 16 0)) 0 j (rw front h) ∙ get_or-take n bs j 0 h)
      (λ (h : n ≤ j). zeros j h (omega arith) ∙ sym (get_or_past bs j 0 (omega arith))) (lt_or_ge j n))
      (λ j h l. zeros j (omega arith) l)
