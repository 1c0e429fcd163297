-- The members of a bond set as a list: which they are, how many, and a loop that takes the lowest away until none is left.
use mathlib.Core.Path.{◌≡◌, refl, sym, ap, ap₂, ◌∙◌}
use mathlib.Core.Logic.{⊎_elim, ◌↔◌}
use mathlib.Core.List.{List, [], ◌∷◌, ◌++◌, append-nil}
use Prim.Native.Nat.{ℕ, zero, suc, ◌+◌, ◌-◌, ◌*◌, ◌/◌, ◌%◌, ◌^◌, ◌≤◌, ◌<◌, min}
use native.Mathlib.Nat.{add_comm, pow-suc, mul-div_cancel, mul-mod_left, zero-min, mod-lt, zero-lt-suc}
use native.Mathlib.Numerals.{add-one}
use native.Mathlib.Omega.{arith}
use lib.Bits.{bit_xor, bit_and, differ, and_step, xor_step, and_self, xor_zero_r}
use lib.Count.{count_trailing_zeros, under}
use lib.ListN.{length, length-append}
use lib.Pow.{shr_lt}
use Rattle.spans.specs.Elements.{◌∈◌, first, later}
use Rattle.spans.proofs.Lists.{in_left, in_right, in_append}
use Rattle.bondset.specs.Sets.{bit, length_to, if_set, members, Climbs, none, next, Lowest}
use Rattle.bondset.proofs.Laws.{cases2, differ_zero, lt_or_ge, bit_lt, bit_xor_lem, bit_pow_same, bit_pow_other, zero_bit, trailing, lowest}

-- ---- how many there are

length_if_set : (b k : ℕ) → b < 2 → length (if_set b k) ≡ b
length_if_set b k h = cases2 (λ (b : ℕ). length (if_set b k) ≡ b) refl refl b h

-- the length of a set is the number of its members
pub length_to_members : (n s : ℕ) → length_to n s ≡ length (members n s)
unfolding length_to members
length_to_members zero s = refl
length_to_members (suc n) s =
    rw (length-append, length_if_set (bit s n) n (bit_lt s n), ← length_to_members n s) (add_comm (bit s n) (length_to n s))

-- ---- which they are

pub mem_of_bit : (n s k : ℕ) → k < n → bit s k ≡ 1 → k ∈ members n s
unfolding members
mem_of_bit zero s k h e = absurd (omega arith)
mem_of_bit (suc n) s k h e =
    ⊎_elim (λ (l : k < n). in_left (if_set (bit s n) n) (mem_of_bit n s k l e))
    (λ (l : n ≤ k). let q : k ≡ n = omega arith in in_right (members n s) (last (bit s n) q (rw q at e))) (lt_or_ge k n)
  where
    last : (b : ℕ) → k ≡ n → b ≡ 1 → k ∈ if_set b n
    last b q e = rw (e, q) first

∈_if_set_eq : (b : ℕ) {x k : ℕ} → x ∈ if_set b k → x ≡ k
∈_if_set_eq zero x3 = elim x3 [ ]
∈_if_set_eq (suc b) (later x7) = elim x7 [ ]
∈_if_set_eq (suc b) first = refl

∈_if_set_pos : (b k : ℕ) {x : ℕ} → x ∈ if_set b k → 0 < b
∈_if_set_pos zero k m = elim m [ ]
∈_if_set_pos (suc b) k m = omega arith

pub lt_of_mem : (n s k : ℕ) → k ∈ members n s → k < n
unfolding members
lt_of_mem zero s k m = elim m [ ]
lt_of_mem (suc n) s k m =
    ⊎_elim (λ (l : k ∈ members n s). omega (arith, lt_of_mem n s k l)) (λ (l : k ∈ if_set (bit s n) n). omega (arith, ∈_if_set_eq (bit s n) l))
    (in_append (members n s) (if_set (bit s n) n) m)

-- the first of the members is below n
pub first_lt : (n s k : ℕ) (ks : List ℕ) → members n s ≡ k ∷ ks → k < n
first_lt n s k ks e = lt_of_mem n s k (rw e first)

pub bit_of_mem : (n s k : ℕ) → k ∈ members n s → bit s k ≡ 1
unfolding members
bit_of_mem zero s k m = elim m [ ]
bit_of_mem (suc n) s k m =
    ⊎_elim (λ (l : k ∈ members n s). bit_of_mem n s k l)
    (λ (l : k ∈ if_set (bit s n) n). rw (∈_if_set_eq (bit s n) l) (omega (arith, ∈_if_set_pos (bit s n) n l, bit_lt s n)))
    (in_append (members n s) (if_set (bit s n) n) m)

-- the members are those below n whose bit is 1
pub mem_members : (n s k : ℕ) → (k ∈ members n s) ↔ ((k < n) × (bit s k ≡ 1))
mem_members n s k = (λ m. (lt_of_mem n s k m, bit_of_mem n s k m), λ p. mem_of_bit n s k p.0 p.1)

ascending_append : {xs : List ℕ} (k : ℕ) → Climbs xs → ((x : ℕ) → x ∈ xs → x < k) → Climbs (xs ++ (k ∷ []))
ascending_append k none h = next {x = k} {xs = []} (λ y. elim [ ]) none
ascending_append k (next {x} {xs} lt a) h =
    next (λ y m. ⊎_elim (λ (l : y ∈ xs). lt y l) (λ (l : y ∈ if_set 1 k). omega (arith, ∈_if_set_eq 1 l, h x first)) (in_append xs (k ∷ []) m))
    (ascending_append k a (λ y m. h y (later m)))

pub members_climb : (n s : ℕ) → Climbs (members n s)
unfolding members
members_climb zero s = none
members_climb (suc n) s = go (bit s n) (members_climb n s)
  where
    go : (b : ℕ) → Climbs (members n s) → Climbs (members n s ++ if_set b n)
    go zero a = rw append-nil a
    go (suc b) a = ascending_append n a (lt_of_mem n s)

-- ---- the lowest first

pub members_none : (n s : ℕ) → ((k : ℕ) → k < n → bit s k ≡ 0) → members n s ≡ []
unfolding members
members_none zero s h = refl
members_none (suc n) s h = rw (members_none n s (λ k l. h k (omega arith)), h n (omega arith))

-- the empty set has no member
pub members_zero : (n : ℕ) → members n 0 ≡ []
members_zero n = members_none n 0 (λ k l. zero_bit k)

-- the first member is the lowest bond, and the others are those of the set without it
pub members_lowest : (n s r t : ℕ) → t < n → Lowest s t → bit r t ≡ 0 → ((k : ℕ) → (k ≡ t → ⊥) → bit r k ≡ bit s k) → members n s ≡ t ∷ members n r
unfolding members
members_lowest zero s r t h low gone same = absurd (omega arith)
members_lowest (suc n) s r t h low gone same =
    ⊎_elim (λ (l : t < n). more l (members_lowest n s r t l low gone same)) (λ (l : n ≤ t). last (omega arith)) (lt_or_ge t n)
  where
    more : t < n → members n s ≡ t ∷ members n r → members n s ++ if_set (bit s n) n ≡ t ∷ (members n r ++ if_set (bit r n) n)
    more l e = rw (e, same n (omega arith))

    last : t ≡ n → members n s ++ if_set (bit s n) n ≡ t ∷ (members n r ++ if_set (bit r n) n)
    last e =
        let one : bit s n ≡ 1 = rw e at low.here in
        let zero : bit r n ≡ 0 = rw e at gone in
        rw (members_none n s (λ k l. low.below k (omega arith)), members_none n r (λ k l. same k (omega arith) ∙ low.below k (omega arith)), one, zero, e)

-- s and s - 1 share all bonds of s but the lowest
pub clear_lowest : (n s : ℕ) → 0 < s → s < 2 ^ n → bit_and s (s - 1) ≡ bit_xor s (2 ^ count_trailing_zeros n s)
unfolding count_trailing_zeros
clear_lowest zero s p h = absurd (omega arith)
clear_lowest (suc n) s p h =
    and_step s (s - 1) ∙ go (s % 2) refl (λ q. clear_lowest n (s / 2) q (shr_lt n 1 (rw add-one h)))
    ∙ sym (xor_step s (2 ^ under (s % 2) (count_trailing_zeros n (s / 2))))
  where
    go : (d : ℕ) → s % 2 ≡ d → (0 < s / 2 → bit_and (s / 2) (s / 2 - 1) ≡ bit_xor (s / 2) (2 ^ count_trailing_zeros n (s / 2)))
        → bit_and (s / 2) ((s - 1) / 2) * 2 + min d ((s - 1) % 2)
        ≡ bit_xor (s / 2) (2 ^ under d (count_trailing_zeros n (s / 2)) / 2) * 2 + differ d (2 ^ under d (count_trailing_zeros n (s / 2)) % 2)
    go zero e ih =
        let q : (s - 1) / 2 ≡ s / 2 - 1 = omega arith in
        rw (q, pow-suc, mul-div_cancel (2 ^ count_trailing_zeros n (s / 2)) (zero-lt-suc 1), mul-mod_left, zero-min, ih (omega arith))
    go (suc d) e ih =
        let q : (s - 1) / 2 ≡ s / 2 = omega arith in
        let z : (s - 1) % 2 ≡ 0 = omega arith in
        let o : d ≡ 0 = omega (arith, mod-lt s (zero-lt-suc 1)) in
        rw (q, z, o, and_self, xor_zero_r)

-- one turn of a loop over the members, which goes on with s & (s - 1)
pub members_step : (n s : ℕ) → 0 < s → s < 2 ^ n → members n s ≡ count_trailing_zeros n s ∷ members n (bit_and s (s - 1))
members_step n s p h =
    let t = trailing n s p h in
    let k = count_trailing_zeros n s in
    rw (clear_lowest n s p h)
    (members_lowest n s (bit_xor s (2 ^ k)) k t.small (lowest n s p h)
    (bit_xor_lem s (2 ^ k) k ∙ ap₂ differ t.here (bit_pow_same k))
    (λ j ne. bit_xor_lem s (2 ^ k) j ∙ ap (λ (x : ℕ). differ (bit s j) x) (bit_pow_other k j (λ e. ne (sym e))) ∙ differ_zero (bit s j)))

-- the same, of a lowest member and of others that are told
pub members_split : (n s k r : ℕ) → 0 < s → s < 2 ^ n → k ≡ count_trailing_zeros n s → r ≡ bit_and s (s - 1) → members n s ≡ k ∷ members n r
members_split n s k r p h e f = members_step n s p h ∙ sym (ap₂ (λ k r. k ∷ members n r) e f)
