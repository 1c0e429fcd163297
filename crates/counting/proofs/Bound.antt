-- The number of paths fits a word, because the layers share no atom: through a layer of s atoms there are at most s times as many, and s is at most 2^s.
use mathlib.Core.Path.{◌≡◌, ap, ◌∙◌}
use mathlib.Core.List.{List, [], ◌∷◌}
use mathlib.Core.Logic.{⊎_elim}
use Prim.Native.Nat.{ℕ, zero, suc, ◌+◌, ◌*◌, ◌^◌, ◌<◌, ◌≤◌}
use native.Mathlib.Nat.{suc-mul, mul_comm, mul-le-mul_right, pow-suc}
use native.Mathlib.Omega.{arith}
use lib.Bits.{bit_and, bit_or, and_le_r}
use lib.ListN.{length, get_or}
use lib.Pow.{pow_pos, pow_mono, pow-add}
use Rattle.bondset.specs.Sets.{bit, length_to, members}
use Rattle.bondset.proofs.Laws.{bit_and_lem, zero_bit, length_le, length_disjoint, bit_of_length_zero, pos_of_ne}
use Rattle.bondset.proofs.Members.{length_to_members}
use Rattle.model.specs.Fold.{through}
use Rattle.model.specs.Net.{Net, nbrs}
use Rattle.model.specs.Layer.{ways}
use Rattle.model.proofs.NetBits.{or_has, and_has, lt_of_has, zero_of_none}
use Rattle.counting.specs.Counts.{Disjoint}

-- ---- the size of a set

size_pos : (n s k : ℕ) → k < n → bit s k ≡ 1 → 0 < length_to n s
size_pos n s k h e = pos_of_ne (length_to n s) (λ z. omega (arith, bit_of_length_zero n s z k h))

size_and_le : (n a b : ℕ) → length_to n (bit_and a b) ≤ length_to n b
unfolding length_to
size_and_le zero a b = omega arith
size_and_le (suc n) a b = omega (arith, size_and_le n a b, bit_and_lem a b n)

le_two_pow : (n : ℕ) → n ≤ 2 ^ n
le_two_pow zero = omega arith
le_two_pow (suc n) = omega (arith, le_two_pow n, pow-suc 2 n, pow_pos n)

-- ---- the atoms of the first layers

together : List ℕ → ℕ → ℕ
together us zero = 0
together us (suc e) = bit_or (together us e) (get_or us e 0)

module _ (us : List ℕ) (d : ℕ) (disjoint : Disjoint us d) where
  -- No atom is in two layers.
  pub shared_none : (i j k : ℕ) → i < j → j ≤ d → bit (get_or us i 0) k ≡ 1 → bit (get_or us j 0) k ≡ 1 → ⊥
  shared_none i j k l h e f =
      omega (arith, (and_has (get_or us i 0) (get_or us j 0) k).1 (e, f), ap (λ (x : ℕ). bit x k) (disjoint.apart i j l h), zero_bit k)

  together_apart : (e j k : ℕ) → e ≤ j → j ≤ d → bit (together us e) k ≡ 1 → bit (get_or us j 0) k ≡ 1 → ⊥
  unfolding together
  together_apart zero j k l h a b = omega (arith, zero_bit k)
  together_apart (suc e) j k l h a b =
      ⊎_elim (λ (o : bit (together us e) k ≡ 1). together_apart e j k (omega arith) h o b)
      (λ (n : bit (get_or us e 0) k ≡ 1). shared_none e j k (omega arith) h n b) ((or_has (together us e) (get_or us e 0) k).0 a)

  together_none : (e : ℕ) → e ≤ d → bit_and (together us e) (get_or us e 0) ≡ 0
  together_none e h =
      zero_of_none 64 (bit_and (together us e) (get_or us e 0)) (omega (arith, and_le_r (together us e) (get_or us e 0), disjoint.words e h))
      (λ k s. let both = (and_has (together us e) (get_or us e 0) k).0 s in together_apart e e k (omega arith) h both.0 both.1)

  together_size : (e : ℕ) → e ≤ d → length_to 64 (together us (suc e)) ≡ length_to 64 (together us e) + length_to 64 (get_or us e 0)
  unfolding together
  together_size e h = length_disjoint 64 (together us e) (get_or us e 0) (together_none e h)

-- ---- sums over a list

-- A sum never falls.
pub le_sum : (f : ℕ → ℕ) (L : List ℕ) (acc : ℕ) → acc ≤ through (λ t acc. acc + f t) L acc
unfolding through
le_sum f [] acc = omega arith
le_sum f (t ∷ L) acc = omega (arith, le_sum f L (acc + f t))

sum_le : (f : ℕ → ℕ) (B : ℕ) → ((t : ℕ) → f t ≤ B) → (L : List ℕ) (acc : ℕ) → through (λ t acc. acc + f t) L acc ≤ acc + length L * B
unfolding through
sum_le f B bound [] acc = omega arith
sum_le f B bound (t ∷ L) acc = omega (arith, sum_le f B bound L (acc + f t), bound t, suc-mul (length L) B)

module _ (G : Net) (us : List ℕ) (d : ℕ) (disjoint : Disjoint us d) where
  ways_le : (e t : ℕ) → e ≤ d → ways G us e t ≤ 2 ^ length_to 64 (together us e)
  unfolding ways
  ways_le zero t h = pow_pos (length_to 64 (together us 0))
  ways_le (suc e) t h =
      let u = get_or us e 0 in
      let s = bit_and (nbrs G t) u in
      let B = 2 ^ length_to 64 (together us e) in
      let few : length (members 64 s) ≤ 2 ^ length_to 64 u =
      omega (arith, length_to_members 64 s, size_and_le 64 (nbrs G t) u, le_two_pow (length_to 64 u)) in
      let all : 2 ^ length_to 64 (together us (suc e)) ≡ B * 2 ^ length_to 64 u =
      ap (λ (x : ℕ). 2 ^ x) (together_size us d disjoint e (omega arith)) ∙ pow-add 2 (length_to 64 (together us e)) (length_to 64 u) in
      omega (arith, sum_le (ways G us e) B (λ v. ways_le e v (omega arith)) (members 64 s) 0, mul-le-mul_right B few, mul_comm B (2 ^ length_to 64 u))

  -- The number of paths from an atom of layer e fits a word.
  pub ways_fit : (e t : ℕ) → e ≤ d → bit (get_or us e 0) t ≡ 1 → ways G us e t < 2 ^ 64
  ways_fit e t h s =
      let u = get_or us e 0 in
      let some = size_pos 64 u t (lt_of_has 64 u t (disjoint.words e h) s) s in
      let small : length_to 64 (together us e) ≤ 63 = omega (arith, together_size us d disjoint e h, length_le 64 (together us (suc e))) in
      omega (arith, ways_le e t h, pow_mono small)
