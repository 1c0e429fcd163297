-- The model of a reduction, one row at a time.
use mathlib.Core.Path.{◌≡◌, sym, ap, ap₂, ◌∙◌}
use mathlib.Core.Bool.{true, false}
use mathlib.Core.List.{List}
use Prim.Native.Nat.{ℕ, suc, ◌+◌, ◌-◌, ◌*◌, ◌≤◌}
use native.Mathlib.Nat.{sub_self, zero-mul, one-mul}
use native.Mathlib.Numerals.{add-one}
use native.Mathlib.Omega.{arith}
use lib.ListN.{get_or}
use lib.Bits.{bit_xor, xor_zero_r}
use borrow.Author.Tests.{eqb-true, eqb-false}
use Rattle.bondset.specs.Sets.{bit, has}
use Rattle.bondset.specs.Rows.{row_at}
use Rattle.bondset.specs.Reduction.{reduced_by, used_by, reduced, used, Reduces}
use Rattle.bondset.proofs.Laws.{bit_lt}

module _ (rows pivots : List ℕ) (from s : ℕ) where
  pub reduced_none : reduced rows pivots from from s ≡ s
  unfolding reduced reduced_by
  reduced_none = rw (sub_self from)

  pub reduced_more : (i : ℕ) → from ≤ i
      → reduced rows pivots from (suc i) s
      ≡ bit_xor (reduced rows pivots from i s) (bit (reduced rows pivots from i s) (get_or pivots i 0) * row_at rows i)
  unfolding reduced reduced_by
  reduced_more i l =
      let n : suc i - from ≡ suc (i - from) = omega arith in
      let j : from + (i - from) ≡ i = omega arith in
      rw n (ap (λ (k : ℕ). bit_xor t (bit t (get_or pivots k 0) * row_at rows k)) j)
    where
      t : ℕ
      t = reduced_by rows pivots from (i - from) s

module _ (rows tags pivots : List ℕ) (from s u : ℕ) where
  pub used_none : used rows tags pivots from from s u ≡ u
  unfolding used used_by
  used_none = rw (sub_self from)

  pub used_more : (i : ℕ) → from ≤ i
      → used rows tags pivots from (suc i) s u
      ≡ bit_xor (used rows tags pivots from i s u) (bit (reduced rows pivots from i s) (get_or pivots i 0) * row_at tags i)
  unfolding reduced used used_by
  used_more i l =
      let n : suc i - from ≡ suc (i - from) = omega arith in
      let j : from + (i - from) ≡ i = omega arith in
      rw n (ap (λ (k : ℕ). bit_xor v (bit t (get_or pivots k 0) * row_at tags k)) j)
    where
      t : ℕ
      t = reduced_by rows pivots from (i - from) s

      v : ℕ
      v = used_by rows tags pivots from (i - from) s u

-- ---- the loop

module _ (rows tags pivots : List ℕ) (from s u : ℕ) where
  pub reduces_none : Reduces rows tags pivots from from s u s u
  reduces_none = record { rest = sym (reduced_none rows pivots from s); used = sym (used_none rows tags pivots from s u) }

  -- where the loop ends: at row to, or at once
  pub reduces_end : (i to t w : ℕ) → i - from ≡ to - from → Reduces rows tags pivots from i s u t w → Reduces rows tags pivots from to s u t w
  unfolding reduced used
  reduces_end i to t w e so =
      record {
        rest = so.rest ∙ ap (λ (n : ℕ). reduced_by rows pivots from n s) e;
        used = so.used ∙ ap (λ (n : ℕ). used_by rows tags pivots from n s u) e;
      }

  module _ (i : ℕ) (l : from ≤ i) (t w : ℕ) (so : Reduces rows tags pivots from i s u t w) (y z : ℕ) where
    -- the turn of row i adds it and its tag, times the digit of its pivot
    reduces_more : y ≡ bit_xor t (bit t (get_or pivots i 0) * row_at rows i) → z ≡ bit_xor w (bit t (get_or pivots i 0) * row_at tags i)
        → Reduces rows tags pivots from (i + 1) s u y z
    reduces_more p q =
        rw add-one
        (record {
          rest = p ∙ ap (λ (x : ℕ). bit_xor x (bit x (get_or pivots i 0) * row_at rows i)) so.rest ∙ sym (reduced_more rows pivots from s i l);
          used = q ∙ ap₂ (λ (x a : ℕ). bit_xor x (bit a (get_or pivots i 0) * row_at tags i)) so.used so.rest ∙ sym (used_more rows tags pivots from s u i l);
        })

    pub reduces_taken : has t (get_or pivots i 0) ≡ true → y ≡ bit_xor t (row_at rows i) → z ≡ bit_xor w (row_at tags i) → Reduces rows tags pivots from (i + 1) s u y z
    reduces_taken h p q = reduces_more (p ∙ ap (bit_xor t) (one (row_at rows i))) (q ∙ ap (bit_xor w) (one (row_at tags i)))
      where
        one : (r : ℕ) → r ≡ bit t (get_or pivots i 0) * r
        one r = sym (ap (λ (d : ℕ). d * r) (eqb-true (bit t (get_or pivots i 0)) 1 h) ∙ one-mul r)

    pub reduces_left : has t (get_or pivots i 0) ≡ false → y ≡ t → z ≡ w → Reduces rows tags pivots from (i + 1) s u y z
    reduces_left h p q = reduces_more (p ∙ none t (row_at rows i)) (q ∙ none w (row_at tags i))
      where
        none : (x r : ℕ) → x ≡ bit_xor x (bit t (get_or pivots i 0) * r)
        none x r =
            let d : bit t (get_or pivots i 0) ≡ 0 = omega (arith, bit_lt t (get_or pivots i 0), eqb-false (bit t (get_or pivots i 0)) 1 h) in
            sym (ap (bit_xor x) (ap (λ (a : ℕ). a * r) d ∙ zero-mul r) ∙ xor_zero_r x)
