-- Reducing by any range of rows is linear, and a row with its tag is reduced to nothing: a row of the range may be added before.
use mathlib.Core.Path.{◌≡◌, refl, sym, ap, ap₂, ◌∙◌, subst}
use mathlib.Core.Logic.{◌⊎◌, inl, inr}
use mathlib.Core.List.{List}
use Prim.Native.Nat.{ℕ, zero, suc, ◌+◌, ◌-◌, ◌*◌, ◌≤◌, ◌<◌}
use native.Mathlib.Nat.{add-zero, add-suc, le-add_right, one-mul, zero-mul}
use native.Mathlib.Omega.{arith}
use lib.ListN.{get_or}
use lib.Bits.{bit_xor, xor_self, xor_zero_r}
use Rattle.bondset.specs.Sets.{bit}
use Rattle.bondset.specs.Rows.{row_at}
use Rattle.bondset.specs.Reduction.{reduced_by, used_by, reduced, used, Reduces}
use Rattle.bondset.proofs.Laws.{bit_lt, bit_xor_lem, zero_bit, lt_or_ge, xor_swap}
use Rattle.bondset.proofs.ReductionModel.{reduced_none, reduced_more}
use Rattle.bondset.proofs.ReductionTags.{scale_xor}
use Rattle.bondset.proofs.ReductionTheorems.{add_lacking, add_xor, add_clears}

-- a tag is added as its row is
tag_xor : (x y a b p g : ℕ) → bit_xor (bit_xor x y) (bit (bit_xor a b) p * g) ≡ bit_xor (bit_xor x (bit a p * g)) (bit_xor y (bit b p * g))
tag_xor x y a b p g =
    ap (bit_xor (bit_xor x y)) (ap (λ (d : ℕ). d * g) (bit_xor_lem a b p) ∙ scale_xor g (bit a p) (bit b p) (bit_lt a p) (bit_lt b p))
    ∙ xor_swap x y (bit a p * g) (bit b p * g)

tag_lacking : (x t p g : ℕ) → bit t p ≡ 0 → bit_xor x (bit t p * g) ≡ x
tag_lacking x t p g z = ap (bit_xor x) (ap (λ (d : ℕ). d * g) z ∙ zero-mul g) ∙ xor_zero_r x

-- what is added where the pivot is held is gone
own_gone : (x t p g : ℕ) → bit t p ≡ 1 → x ≡ g → bit_xor x (bit t p * g) ≡ 0
own_gone x t p g e q = ap₂ bit_xor q (ap (λ (d : ℕ). d * g) e ∙ one-mul g) ∙ xor_self g

module _ (rows tags pivots : List ℕ) (from : ℕ) where
  rest_xor : (n a b : ℕ) → reduced_by rows pivots from n (bit_xor a b) ≡ bit_xor (reduced_by rows pivots from n a) (reduced_by rows pivots from n b)
  unfolding reduced_by
  rest_xor zero a b = refl
  rest_xor (suc n) a b =
      ap (λ (t : ℕ). bit_xor t (bit t (get_or pivots (from + n) 0) * row_at rows (from + n))) (rest_xor n a b)
      ∙ add_xor (reduced_by rows pivots from n a) (reduced_by rows pivots from n b) (get_or pivots (from + n) 0) (row_at rows (from + n))

  used_xor : (n a b u w : ℕ)
      → used_by rows tags pivots from n (bit_xor a b) (bit_xor u w) ≡ bit_xor (used_by rows tags pivots from n a u) (used_by rows tags pivots from n b w)
  unfolding used_by
  used_xor zero a b u w = refl
  used_xor (suc n) a b u w =
      ap₂ (λ (y t : ℕ). bit_xor y (bit t (get_or pivots (from + n) 0) * row_at tags (from + n))) (used_xor n a b u w) (rest_xor n a b)
      ∙ tag_xor (used_by rows tags pivots from n a u) (used_by rows tags pivots from n b w) (reduced_by rows pivots from n a) (reduced_by rows pivots from n b)
      (get_or pivots (from + n) 0) (row_at tags (from + n))

  -- a set without the pivots of n rows is left as it is, and nothing is used
  rest_lacking : (n s : ℕ) → ((k : ℕ) → k < n → bit s (get_or pivots (from + k) 0) ≡ 0) → reduced_by rows pivots from n s ≡ s
  unfolding reduced_by
  rest_lacking zero s h = refl
  rest_lacking (suc n) s h =
      ap (λ (t : ℕ). bit_xor t (bit t (get_or pivots (from + n) 0) * row_at rows (from + n))) (rest_lacking n s (λ k l. h k (omega arith)))
      ∙ add_lacking s (get_or pivots (from + n) 0) (row_at rows (from + n)) (h n (omega arith))

  used_lacking : (n s u : ℕ) → ((k : ℕ) → k < n → bit s (get_or pivots (from + k) 0) ≡ 0) → used_by rows tags pivots from n s u ≡ u
  unfolding used_by
  used_lacking zero s u h = refl
  used_lacking (suc n) s u h =
      ap₂ (λ (y t : ℕ). bit_xor y (bit t (get_or pivots (from + n) 0) * row_at tags (from + n)))
      (used_lacking n s u (λ k l. h k (omega arith))) (rest_lacking n s (λ k l. h k (omega arith)))
      ∙ tag_lacking u s (get_or pivots (from + n) 0) (row_at tags (from + n)) (h n (omega arith))

  -- m rows in order, each with its own pivot and none of the pivots before
  module _ (m : ℕ) (own : (k : ℕ) → k < m → bit (row_at rows (from + k)) (get_or pivots (from + k) 0) ≡ 1)
      (others : (k j : ℕ) → k < m → j < k → bit (row_at rows (from + k)) (get_or pivots (from + j) 0) ≡ 0) where
    row_rest : (n : ℕ) → n ≤ m → (k : ℕ) → k < n → reduced_by rows pivots from n (row_at rows (from + k)) ≡ 0
    unfolding reduced_by
    row_rest zero l k h = absurd (omega arith)
    row_rest (suc n) l k h = which (lt_or_ge k n) (row_rest n (omega arith) k)
      where
        which : (k < n) ⊎ (n ≤ k) → (k < n → reduced_by rows pivots from n (row_at rows (from + k)) ≡ 0)
            → reduced_by rows pivots from (suc n) (row_at rows (from + k)) ≡ 0
        which (inl q) before =
            ap (λ (t : ℕ). bit_xor t (bit t (get_or pivots (from + n) 0) * row_at rows (from + n))) (before q)
            ∙ add_lacking 0 (get_or pivots (from + n) 0) (row_at rows (from + n)) (zero_bit (get_or pivots (from + n) 0))
        which (inr q) before =
            let e : k ≡ n = omega arith in
            rw e
            (ap (λ (t : ℕ). bit_xor t (bit t (get_or pivots (from + n) 0) * row_at rows (from + n)))
            (rest_lacking n (row_at rows (from + n)) (λ j p. others n j (omega arith) p))
            ∙ own_gone (row_at rows (from + n)) (row_at rows (from + n)) (get_or pivots (from + n) 0) (row_at rows (from + n)) (own n (omega arith)) refl)

    row_used : (n : ℕ) → n ≤ m → (k : ℕ) → k < n → used_by rows tags pivots from n (row_at rows (from + k)) (row_at tags (from + k)) ≡ 0
    unfolding used_by
    row_used zero l k h = absurd (omega arith)
    row_used (suc n) l k h = which (lt_or_ge k n) (row_used n (omega arith) k)
      where
        which : (k < n) ⊎ (n ≤ k) → (k < n → used_by rows tags pivots from n (row_at rows (from + k)) (row_at tags (from + k)) ≡ 0)
            → used_by rows tags pivots from (suc n) (row_at rows (from + k)) (row_at tags (from + k)) ≡ 0
        which (inl q) before =
            ap₂ (λ (y t : ℕ). bit_xor y (bit t (get_or pivots (from + n) 0) * row_at tags (from + n))) (before q) (row_rest n (omega arith) k q)
            ∙ tag_lacking 0 0 (get_or pivots (from + n) 0) (row_at tags (from + n)) (zero_bit (get_or pivots (from + n) 0))
        which (inr q) before =
            let e : k ≡ n = omega arith in
            rw e
            (ap₂ (λ (y t : ℕ). bit_xor y (bit t (get_or pivots (from + n) 0) * row_at tags (from + n)))
            (used_lacking n (row_at rows (from + n)) (row_at tags (from + n)) (λ j p. others n j (omega arith) p))
            (rest_lacking n (row_at rows (from + n)) (λ j p. others n j (omega arith) p))
            ∙ own_gone (row_at tags (from + n)) (row_at rows (from + n)) (get_or pivots (from + n) 0) (row_at tags (from + n)) (own n (omega arith)) refl)

-- ---- over rows from, .., to - 1 of n

-- t and w are reduced to what s and u are reduced to
pub record Same (rows tags pivots : List ℕ) (from to s u t w : ℕ) : Type 0 where
  pub rest : reduced rows pivots from to t ≡ reduced rows pivots from to s
  pub used : used rows tags pivots from to t w ≡ used rows tags pivots from to s u

-- where the rest lacks each pivot of the range, all is done
pub same_done : {rows tags pivots : List ℕ} {from to s u t w : ℕ} → Same rows tags pivots from to s u t w
    → ((i : ℕ) → from ≤ i → i < to → bit t (get_or pivots i 0) ≡ 0) → Reduces rows tags pivots from to s u t w
unfolding reduced used
same_done {rows} {tags} {pivots} {from} {to} {s} {u} {t} {w} same lacks =
    record {
      rest = sym (rest_lacking rows tags pivots from (to - from) t (λ k h. lacks (from + k) (omega arith) (omega arith))) ∙ same.rest;
      used = sym (used_lacking rows tags pivots from (to - from) t w (λ k h. lacks (from + k) (omega arith) (omega arith))) ∙ same.used;
    }

module _ (rows tags pivots : List ℕ) (n : ℕ) (own : (i : ℕ) → i < n → bit (row_at rows i) (get_or pivots i 0) ≡ 1)
    (others : (i j : ℕ) → i < n → j < i → bit (row_at rows i) (get_or pivots j 0) ≡ 0) (from to : ℕ) (l : to ≤ n) where
  -- a row of the range, and its tag, may be added before
  pub same_add : (i s u : ℕ) → from ≤ i → i < to → Same rows tags pivots from to s u (bit_xor s (row_at rows i)) (bit_xor u (row_at tags i))
  unfolding reduced used
  same_add i s u low high =
      let e : from + (i - from) ≡ i = omega arith in
      record {
        rest =
            rest_xor rows tags pivots from (to - from) s (row_at rows i)
            ∙ ap (bit_xor (reduced_by rows pivots from (to - from) s))
            (ap (λ (x : ℕ). reduced_by rows pivots from (to - from) (row_at rows x)) (sym e) ∙ row_rest rows tags pivots from (to - from) own' others' (to - from) (omega arith) (i - from) (omega arith))
            ∙ xor_zero_r (reduced_by rows pivots from (to - from) s);
        used =
            used_xor rows tags pivots from (to - from) s (row_at rows i) u (row_at tags i)
            ∙ ap (bit_xor (used_by rows tags pivots from (to - from) s u))
            (ap (λ (x : ℕ). used_by rows tags pivots from (to - from) (row_at rows x) (row_at tags x)) (sym e)
            ∙ row_used rows tags pivots from (to - from) own' others' (to - from) (omega arith) (i - from) (omega arith))
            ∙ xor_zero_r (used_by rows tags pivots from (to - from) s u);
      }
    where
      own' : (k : ℕ) → k < to - from → bit (row_at rows (from + k)) (get_or pivots (from + k) 0) ≡ 1
      own' k h = own (from + k) (omega arith)

      others' : (k j : ℕ) → k < to - from → j < k → bit (row_at rows (from + k)) (get_or pivots (from + j) 0) ≡ 0
      others' k j h g = others (from + k) (from + j) (omega arith) (omega arith)

-- ---- no pivot is left

module _ (rows pivots : List ℕ) (n : ℕ) (own : (i : ℕ) → i < n → bit (row_at rows i) (get_or pivots i 0) ≡ 1)
    (others : (i j : ℕ) → i < n → j < i → bit (row_at rows i) (get_or pivots j 0) ≡ 0) (from s : ℕ)
    (before : (i : ℕ) → i < from → bit s (get_or pivots i 0) ≡ 0) where
  lacks_by : (k : ℕ) → from + k ≤ n → (i : ℕ) → i < from + k → bit (reduced rows pivots from (from + k) s) (get_or pivots i 0) ≡ 0
  lacks_by zero l i h = rw (add-zero, reduced_none) (before i (rw add-zero at h))
  lacks_by (suc k) l i h =
      rw (add-suc, reduced_more rows pivots from s (from + k) (le-add_right from k))
      (add_clears (reduced rows pivots from (from + k) s) (get_or pivots (from + k) 0) (row_at rows (from + k)) (get_or pivots i 0) (own (from + k) (omega arith))
      (which (lt_or_ge i (from + k)) (lacks_by k (omega arith) i)))
    where
      which : (i < from + k) ⊎ (from + k ≤ i) → (i < from + k → bit (reduced rows pivots from (from + k) s) (get_or pivots i 0) ≡ 0)
          → (get_or pivots i 0 ≡ get_or pivots (from + k) 0)
          ⊎ ((bit (reduced rows pivots from (from + k) s) (get_or pivots i 0) ≡ 0) × (bit (row_at rows (from + k)) (get_or pivots i 0) ≡ 0))
      which (inl q) ih = inr (ih q, others (from + k) i (omega arith) q)
      which (inr q) ih = let e : i ≡ from + k = omega arith in inl (ap (λ (j : ℕ). get_or pivots j 0) e)

  -- a set that lacks the pivots before `from`, reduced by the rows from, .., to - 1, lacks all pivots before `to`
  pub reduced_lacks : (to : ℕ) → from ≤ to → to ≤ n → (i : ℕ) → i < to → bit (reduced rows pivots from to s) (get_or pivots i 0) ≡ 0
  reduced_lacks to l h i q =
      let e : from + (to - from) ≡ to = omega arith in
      let r : i < from + (to - from) = omega arith in
      subst (λ (x : ℕ). bit (reduced rows pivots from x s) (get_or pivots i 0) ≡ 0) e (lacks_by (to - from) (omega arith) i r)
