-- What a reduction promises: the rest and the sets used make the set, and the rest is empty exactly if the set is a sum of chosen sets.
use mathlib.Core.Path.{◌≡◌, refl, sym, ap, ap₂, ◌∙◌, subst}
use mathlib.Core.Logic.{◌⊎◌, inl, inr}
use mathlib.Core.List.{List, [], ◌∷◌, ◌++◌}
use Prim.Native.Nat.{ℕ, zero, suc, ◌+◌, ◌-◌, ◌*◌, ◌/◌, ◌%◌, ◌^◌, ◌≤◌, ◌<◌, zero-le}
use native.Mathlib.Nat.{add-zero, add-suc, zero-mul, mul-zero, one-mul, mul-one, mod-lt, le-add_right, le_refl, le_of_lt, lt_trans, lt_of_lt_of_le}
use native.Mathlib.Numerals.{add-one}
use native.Mathlib.Omega.{arith}
use lib.ListN.{length, get_or, set, take, drop, length-append, length-set, get_or-append}
use lib.Seq.{take-suc, take-length, take-append_seam, get_or-append_seam, get_or-set_same, get_or-set_other}
use lib.Bits.{bit_xor, differ, xor_comm, xor_self, xor_zero_l, xor_zero_r, xor_lt}
use lib.Count.{count_trailing_zeros}
use lib.Pow.{pow_pos, pow_mono, pow-lt}
use Rattle.spans.specs.Basis.{All, Sum, Subgroup}
use Rattle.spans.proofs.Indep.{Indep, indep_perm}
use Rattle.spans.proofs.Lists.{all_append, perm_comm}
use Rattle.spans.proofs.Span.{Span, at}
use Rattle.spans.proofs.Steinitz.{span_inside}
use Rattle.bondset.specs.Sets.{bit}
use Rattle.bondset.specs.Rows.{row_at, put_row}
use Rattle.bondset.specs.Reduction.{reduced, used, pushed_tag, pivot_of, Room, combine, named_by, Reduction}
use Rattle.bondset.proofs.Laws.{cases2, bit_lt, bit_xor_lem, bit_pow_same, bit_beyond, single_below, zero_bit, lt_or_ge, pos_of_ne, trailing, xor_swap, xor_cancel}
use Rattle.bondset.proofs.Group.{bond_sets}
use Rattle.bondset.proofs.ReductionTags.{scale_xor, combine_zero, combine_xor, combine_scale, combine_single, combine_take, combine_lt}
use Rattle.bondset.proofs.ReductionTags.{combine_last, combine_split, combine_shifted, combine_span_take, digit_lt, named_by_sum}
use Rattle.bondset.proofs.Rows.{length_put_row, row_same, row_other}
use Rattle.bondset.proofs.ReductionModel.{reduced_none, reduced_more, used_none, used_more}

-- ---- one row

pub add_lacking : (t p r : ℕ) → bit t p ≡ 0 → bit_xor t (bit t p * r) ≡ t
add_lacking t p r z = ap (bit_xor t) (ap (λ (d : ℕ). d * r) z ∙ zero-mul r) ∙ xor_zero_r t

pub add_xor : (a b p r : ℕ) → bit_xor (bit_xor a b) (bit (bit_xor a b) p * r) ≡ bit_xor (bit_xor a (bit a p * r)) (bit_xor b (bit b p * r))
add_xor a b p r =
    ap (bit_xor (bit_xor a b)) (ap (λ (d : ℕ). d * r) (bit_xor_lem a b p) ∙ scale_xor r (bit a p) (bit b p) (bit_lt a p) (bit_lt b p))
    ∙ xor_swap a b (bit a p * r) (bit b p * r)

add_tagged : (xs : List ℕ) (t u d r g : ℕ) → d < 2 → r ≡ combine xs g
    → bit_xor (bit_xor t (d * r)) (combine xs (bit_xor u (d * g))) ≡ bit_xor t (combine xs u)
add_tagged xs t u d r g h e =
    ap (bit_xor (bit_xor t (d * r))) (combine_xor xs u (d * g) ∙ ap (bit_xor (combine xs u)) (combine_scale xs d g h ∙ ap (λ (x : ℕ). d * x) (sym e)))
    ∙ xor_swap t (d * r) (combine xs u) (d * r)
    ∙ ap (bit_xor (bit_xor t (combine xs u))) (xor_self (d * r))
    ∙ xor_zero_r (bit_xor t (combine xs u))

bit_scale : (d r q : ℕ) → d < 2 → bit (d * r) q ≡ d * bit r q
bit_scale d r q h =
    cases2 (λ (d : ℕ). bit (d * r) q ≡ d * bit r q) (ap (λ (x : ℕ). bit x q) (zero-mul r) ∙ zero_bit q ∙ sym (zero-mul (bit r q)))
    (ap (λ (x : ℕ). bit x q) (one-mul r) ∙ sym (one-mul (bit r q))) d h

differ_self : (d : ℕ) → differ d d ≡ 0
differ_self zero = refl
differ_self (suc d) = differ_self d

-- after one more row: what held of the pivots before still holds, and the row's own pivot is gone
pub add_clears : (t p r q : ℕ) → bit r p ≡ 1 → (q ≡ p) ⊎ ((bit t q ≡ 0) × (bit r q ≡ 0)) → bit (bit_xor t (bit t p * r)) q ≡ 0
add_clears t p r q own (inl e) =
    rw e
    (bit_xor_lem t (bit t p * r) p
    ∙ ap (differ (bit t p)) (bit_scale (bit t p) r p (bit_lt t p) ∙ ap (λ (x : ℕ). bit t p * x) own ∙ mul-one (bit t p))
    ∙ differ_self (bit t p))
add_clears t p r q own (inr e) =
    bit_xor_lem t (bit t p * r) q
    ∙ ap₂ differ e.0 (bit_scale (bit t p) r q (bit_lt t p) ∙ ap (λ (x : ℕ). bit t p * x) e.1 ∙ mul-zero (bit t p))

-- ---- the first n rows

module _ (rows pivots : List ℕ) where
  more : (n s : ℕ)
      → reduced rows pivots 0 (suc n) s
      ≡ bit_xor (reduced rows pivots 0 n s) (bit (reduced rows pivots 0 n s) (get_or pivots n 0) * row_at rows n)
  more n s = reduced_more rows pivots 0 s n zero-le

  -- reducing is linear
  pub reduced_xor : (n a b : ℕ) → reduced rows pivots 0 n (bit_xor a b) ≡ bit_xor (reduced rows pivots 0 n a) (reduced rows pivots 0 n b)
  reduced_xor zero a b = reduced_none rows pivots 0 (bit_xor a b) ∙ sym (ap₂ bit_xor (reduced_none rows pivots 0 a) (reduced_none rows pivots 0 b))
  reduced_xor (suc n) a b =
      more n (bit_xor a b)
      ∙ ap (λ (t : ℕ). bit_xor t (bit t (get_or pivots n 0) * row_at rows n)) (reduced_xor n a b)
      ∙ add_xor (reduced rows pivots 0 n a) (reduced rows pivots 0 n b) (get_or pivots n 0) (row_at rows n)
      ∙ sym (ap₂ bit_xor (more n a) (more n b))

  -- a set without the first n pivots is left as it is
  pub reduced_lacking : (n s : ℕ) → ((i : ℕ) → i < n → bit s (get_or pivots i 0) ≡ 0) → reduced rows pivots 0 n s ≡ s
  reduced_lacking zero s h = reduced_none rows pivots 0 s
  reduced_lacking (suc n) s h =
      more n s
      ∙ ap (λ (t : ℕ). bit_xor t (bit t (get_or pivots n 0) * row_at rows n)) (reduced_lacking n s (λ i l. h i (omega arith)))
      ∙ add_lacking s (get_or pivots n 0) (row_at rows n) (h n (omega arith))

  pub reduced_zero : (n : ℕ) → reduced rows pivots 0 n 0 ≡ 0
  reduced_zero n = reduced_lacking n 0 (λ i l. zero_bit (get_or pivots i 0))

  -- the sets that the first n rows reduce to nothing
  vanishing : (n : ℕ) → Subgroup bond_sets (λ v. reduced rows pivots 0 n v ≡ 0)
  unfolding bond_sets
  vanishing n = record { zero = reduced_zero n; add = λ a b p q. reduced_xor n a b ∙ ap₂ bit_xor p q }

-- ---- going on from row s

module _ (rows pivots : List ℕ) (from s : ℕ) (l : from ≤ s) (v : ℕ) where
  on_rest : (k : ℕ) → reduced rows pivots s (s + k) (reduced rows pivots from s v) ≡ reduced rows pivots from (s + k) v
  on_rest zero = rw add-zero (reduced_none rows pivots s (reduced rows pivots from s v))
  on_rest (suc k) =
      rw add-suc
      (reduced_more rows pivots s (reduced rows pivots from s v) (s + k) (le-add_right s k)
      ∙ ap (λ (t : ℕ). bit_xor t (bit t (get_or pivots (s + k) 0) * row_at rows (s + k))) (on_rest k)
      ∙ sym (reduced_more rows pivots from v (s + k) (omega arith)))

  -- reducing by the rows from, .., s - 1 and then by s, .., t - 1 is reducing by from, .., t - 1
  pub reduced_on : (t : ℕ) → s ≤ t → reduced rows pivots s t (reduced rows pivots from s v) ≡ reduced rows pivots from t v
  reduced_on t h =
      let e : s + (t - s) ≡ t = omega arith in
      subst (λ (x : ℕ). reduced rows pivots s x (reduced rows pivots from s v) ≡ reduced rows pivots from x v) e (on_rest (t - s))

module _ (rows tags pivots : List ℕ) (from s : ℕ) (l : from ≤ s) (v u : ℕ) where
  on_used : (k : ℕ)
      → used rows tags pivots s (s + k) (reduced rows pivots from s v) (used rows tags pivots from s v u) ≡ used rows tags pivots from (s + k) v u
  on_used zero = rw add-zero (used_none rows tags pivots s (reduced rows pivots from s v) (used rows tags pivots from s v u))
  on_used (suc k) =
      rw add-suc
      (used_more rows tags pivots s (reduced rows pivots from s v) (used rows tags pivots from s v u) (s + k) (le-add_right s k)
      ∙ ap₂ (λ (y t : ℕ). bit_xor y (bit t (get_or pivots (s + k) 0) * row_at tags (s + k))) (on_used k) (on_rest rows pivots from s l v k)
      ∙ sym (used_more rows tags pivots from v u (s + k) (omega arith)))

  -- and so for what was used
  pub used_on : (t : ℕ) → s ≤ t
      → used rows tags pivots s t (reduced rows pivots from s v) (used rows tags pivots from s v u) ≡ used rows tags pivots from t v u
  used_on t h =
      let e : s + (t - s) ≡ t = omega arith in
      subst
      (λ (x : ℕ). used rows tags pivots s x (reduced rows pivots from s v) (used rows tags pivots from s v u) ≡ used rows tags pivots from x v u)
      e (on_used (t - s))

-- ---- the promises

-- What reducing v by the first s rows gives, where `rest` is what remains of v and `used` the tags on the way.
pub record Rest (pivots chosen : List ℕ) (s v rest used : ℕ) : Type 0 where
  -- the rest and the chosen sets used make v
  pub makes : bit_xor rest (combine chosen used) ≡ v
  -- only the first s chosen sets are used
  pub below : used < 2 ^ s
  -- the rest holds none of the first s pivots
  pub lacks : (i : ℕ) → i < s → bit rest (get_or pivots i 0) ≡ 0
  -- the rest is empty exactly if v is a sum of the first s chosen sets
  pub spans : rest ≡ 0 → Span bond_sets (take s chosen) v
  pub empty : Span bond_sets (take s chosen) v → rest ≡ 0
  -- and then the tags name the chosen sets of which v is the sum
  pub names : rest ≡ 0 → v ≡ combine chosen used

-- for any arrays, nothing is chosen at first
pub reduction_none : (rows tags pivots : List ℕ) → Reduction rows tags pivots []
reduction_none rows tags pivots =
    record {
      room = record { rows_fit = omega arith; tags_fit = omega arith; pivots_fit = omega arith };
      chosen_fit = λ i l. absurd (omega arith);
      bonds = λ i l. absurd (omega arith);
      own = λ i l. absurd (omega arith);
      others = λ i j l k. absurd (omega arith);
      named = λ i l. absurd (omega arith);
      last = λ i l. absurd (omega arith);
      up_to = λ i l. absurd (omega arith);
    }

module _ {rows tags pivots chosen : List ℕ} (state : Reduction rows tags pivots chosen) where
  rest_makes : (s : ℕ) → s ≤ length chosen → (v : ℕ) → bit_xor (reduced rows pivots 0 s v) (combine chosen (used rows tags pivots 0 s v 0)) ≡ v
  rest_makes zero l v =
      ap₂ (λ (t u : ℕ). bit_xor t (combine chosen u)) (reduced_none rows pivots 0 v) (used_none rows tags pivots 0 v 0)
      ∙ ap (bit_xor v) (combine_zero chosen)
      ∙ xor_zero_r v
  rest_makes (suc s) l v =
      ap₂ (λ (t u : ℕ). bit_xor t (combine chosen u)) (more rows pivots s v) (used_more rows tags pivots 0 v 0 s zero-le)
      ∙ add_tagged chosen (reduced rows pivots 0 s v) (used rows tags pivots 0 s v 0) (bit (reduced rows pivots 0 s v) (get_or pivots s 0))
      (row_at rows s) (row_at tags s) (bit_lt (reduced rows pivots 0 s v) (get_or pivots s 0)) (state.named s l)
      ∙ rest_makes s (omega arith) v

  used_below : (s : ℕ) → s ≤ length chosen → (v : ℕ) → used rows tags pivots 0 s v 0 < 2 ^ s
  used_below zero l v = rw (used_none rows tags pivots 0 v 0) (pow_pos 0)
  used_below (suc s) l v =
      rw (used_more rows tags pivots 0 v 0 s zero-le)
      (xor_lt (suc s) (used rows tags pivots 0 s v 0) (bit (reduced rows pivots 0 s v) (get_or pivots s 0) * row_at tags s)
      (lt_of_lt_of_le (used_below s (omega arith) v) (pow_mono (omega arith)))
      (digit_lt (2 ^ suc s) (bit (reduced rows pivots 0 s v) (get_or pivots s 0)) (row_at tags s) (bit_lt (reduced rows pivots 0 s v) (get_or pivots s 0))
      (rw add-one at (state.up_to s l))))

  rest_lacks : (s : ℕ) → s ≤ length chosen → (v i : ℕ) → i < s → bit (reduced rows pivots 0 s v) (get_or pivots i 0) ≡ 0
  rest_lacks zero l v i h = absurd (omega arith)
  rest_lacks (suc s) l v i h =
      rw (more rows pivots s v)
      (add_clears (reduced rows pivots 0 s v) (get_or pivots s 0) (row_at rows s) (get_or pivots i 0) (state.own s l)
      (which (lt_or_ge i s) (rest_lacks s (omega arith) v i)))
    where
      which : (i < s) ⊎ (s ≤ i) → (i < s → bit (reduced rows pivots 0 s v) (get_or pivots i 0) ≡ 0)
          → (get_or pivots i 0 ≡ get_or pivots s 0) ⊎ ((bit (reduced rows pivots 0 s v) (get_or pivots i 0) ≡ 0) × (bit (row_at rows s) (get_or pivots i 0) ≡ 0))
      which (inl q) before = inr (before q, state.others s i l q)
      which (inr q) before = let e : i ≡ s = omega arith in inl (ap (λ (k : ℕ). get_or pivots k 0) e)

  -- each of the first s rows is reduced to nothing
  row_vanishes : (s : ℕ) → s ≤ length chosen → (i : ℕ) → i < s → reduced rows pivots 0 s (row_at rows i) ≡ 0
  row_vanishes zero l i h = absurd (omega arith)
  row_vanishes (suc s) l i h = more rows pivots s (row_at rows i) ∙ which (lt_or_ge i s) (row_vanishes s (omega arith) i)
    where
      which : (i < s) ⊎ (s ≤ i) → (i < s → reduced rows pivots 0 s (row_at rows i) ≡ 0)
          → bit_xor (reduced rows pivots 0 s (row_at rows i)) (bit (reduced rows pivots 0 s (row_at rows i)) (get_or pivots s 0) * row_at rows s) ≡ 0
      which (inl q) before =
          ap (λ (t : ℕ). bit_xor t (bit t (get_or pivots s 0) * row_at rows s)) (before q) ∙ add_lacking 0 (get_or pivots s 0) (row_at rows s) (zero_bit (get_or pivots s 0))
      which (inr q) before =
          let e : i ≡ s = omega arith in
          rw e
          (ap (λ (t : ℕ). bit_xor t (bit t (get_or pivots s 0) * row_at rows s)) (reduced_lacking rows pivots s (row_at rows s) (λ j k. state.others s j l k))
          ∙ ap (λ (d : ℕ). bit_xor (row_at rows s) (d * row_at rows s)) (state.own s l)
          ∙ ap (bit_xor (row_at rows s)) (one-mul (row_at rows s))
          ∙ xor_self (row_at rows s))

  -- and so is each of the first s chosen sets: it is its row and a sum of the chosen sets before
  lower : ℕ → ℕ
  lower k = combine chosen (row_at tags k % 2 ^ k)

  chosen_row : (k : ℕ) → k < length chosen → get_or chosen k 0 ≡ bit_xor (row_at rows k) (lower k)
  unfolding lower
  chosen_row k l =
      sym (xor_cancel (get_or chosen k 0) (lower k))
      ∙ ap (λ (x : ℕ). bit_xor x (lower k)) (sym (state.named k l ∙ combine_last chosen k (row_at tags k) (state.up_to k l) (state.last k l)))

  lower_vanishes : (s k : ℕ) → All (λ v. reduced rows pivots 0 s v ≡ 0) (take k chosen) → reduced rows pivots 0 s (lower k) ≡ 0
  unfolding lower
  lower_vanishes s k before =
      span_inside bond_sets (vanishing rows pivots s) before (combine_span_take k chosen (row_at tags k % 2 ^ k) (mod-lt (row_at tags k) (pow_pos k)))

  next_vanishes : (s : ℕ) → s ≤ length chosen → (k : ℕ) → k < s → All (λ v. reduced rows pivots 0 s v ≡ 0) (take k chosen)
      → reduced rows pivots 0 s (get_or chosen k 0) ≡ 0
  next_vanishes s l k h before =
      ap (reduced rows pivots 0 s) (chosen_row k (omega arith))
      ∙ reduced_xor rows pivots s (row_at rows k) (lower k)
      ∙ ap₂ bit_xor (row_vanishes s l k h) (lower_vanishes s k before)

  chosen_vanish : (s : ℕ) → s ≤ length chosen → (k : ℕ) → k ≤ s → All (λ v. reduced rows pivots 0 s v ≡ 0) (take k chosen)
  chosen_vanish s l zero h = All.nil
  chosen_vanish s l (suc k) h =
      let before = chosen_vanish s l k (omega arith) in
      rw (take-suc chosen k 0 (omega arith)) (all_append before (All.cons (next_vanishes s l k h before) All.nil))

  -- reducing v by the first s rows
  pub reduction_rest : (s : ℕ) → s ≤ length chosen → (v : ℕ) → Rest pivots chosen s v (reduced rows pivots 0 s v) (used rows tags pivots 0 s v 0)
  reduction_rest s l v =
      record {
        makes = makes;
        below = below;
        lacks = rest_lacks s l v;
        spans = λ z. at bond_sets (sym (names z)) (combine_span_take s chosen (used rows tags pivots 0 s v 0) below);
        empty = λ w. span_inside bond_sets (vanishing rows pivots s) (chosen_vanish s l s (le_refl s)) w;
        names = names;
      }
    where
      makes : bit_xor (reduced rows pivots 0 s v) (combine chosen (used rows tags pivots 0 s v 0)) ≡ v
      makes = rest_makes s l v

      below : used rows tags pivots 0 s v 0 < 2 ^ s
      below = used_below s l v

      names : reduced rows pivots 0 s v ≡ 0 → v ≡ combine chosen (used rows tags pivots 0 s v 0)
      names z = sym makes ∙ ap (λ (x : ℕ). bit_xor x (combine chosen (used rows tags pivots 0 s v 0))) z ∙ xor_zero_l (combine chosen (used rows tags pivots 0 s v 0))

  -- no chosen set is a sum of those before: its rest by the rows before is its row, which holds the pivot
  chosen_rest : (k : ℕ) → k < length chosen → reduced rows pivots 0 k (get_or chosen k 0) ≡ row_at rows k
  chosen_rest k l =
      ap (reduced rows pivots 0 k) (chosen_row k l)
      ∙ reduced_xor rows pivots k (row_at rows k) (lower k)
      ∙ ap₂ bit_xor (reduced_lacking rows pivots k (row_at rows k) (λ j h. state.others k j l h)) (lower_vanishes k k (chosen_vanish k (le_of_lt l) k (le_refl k)))
      ∙ xor_zero_r (row_at rows k)

  chosen_apart : (k : ℕ) → k < length chosen → ¬ Span bond_sets (take k chosen) (get_or chosen k 0)
  chosen_apart k l w =
      let z : row_at rows k ≡ 0 = sym (chosen_rest k l) ∙ (reduction_rest k (le_of_lt l) (get_or chosen k 0)).empty w in
      let e : ◌≡◌ {A = ℕ} 0 1 = sym (zero_bit (get_or pivots k 0)) ∙ ap (λ (x : ℕ). bit x (get_or pivots k 0)) (sym z) ∙ state.own k l in
      omega arith

  indep_take : (k : ℕ) → k ≤ length chosen → Indep bond_sets (take k chosen)
  indep_take zero l = Indep.none
  indep_take (suc k) l =
      rw (take-suc chosen k 0 l)
      (indep_perm bond_sets (perm_comm (get_or chosen k 0 ∷ []) (take k chosen)) (Indep.more (chosen_apart k l) (indep_take k (le_of_lt l))))

  -- the chosen sets are independent
  pub reduction_indep : Indep bond_sets chosen
  reduction_indep = rw take-length at (indep_take (length chosen) (le_refl (length chosen)))

  -- the rest of a set of bonds is a set of bonds, and only such a set has such a rest
  pub reduction_rest_lt : (s : ℕ) → s ≤ length chosen → (v : ℕ) → v < 2 ^ 128 → reduced rows pivots 0 s v < 2 ^ 128
  reduction_rest_lt s l v h =
      subst (λ (x : ℕ). x < 2 ^ 128)
      (ap (λ (x : ℕ). bit_xor x (combine chosen (used rows tags pivots 0 s v 0))) (sym (rest_makes s l v))
      ∙ xor_cancel (reduced rows pivots 0 s v) (combine chosen (used rows tags pivots 0 s v 0)))
      (xor_lt 128 v (combine chosen (used rows tags pivots 0 s v 0)) h (combine_lt 128 chosen (used rows tags pivots 0 s v 0) state.chosen_fit))

  pub reduction_set_lt : (s : ℕ) → s ≤ length chosen → (v : ℕ) → reduced rows pivots 0 s v < 2 ^ 128 → v < 2 ^ 128
  reduction_set_lt s l v h =
      subst (λ (x : ℕ). x < 2 ^ 128) (rest_makes s l v)
      (xor_lt 128 (reduced rows pivots 0 s v) (combine chosen (used rows tags pivots 0 s v 0)) h
      (combine_lt 128 chosen (used rows tags pivots 0 s v 0) state.chosen_fit))

-- ---- one more row

-- what holds of the numbers below the length and of the length holds of the numbers below the length of a list that is one longer
each_snoc : (P : ℕ → Type 0) (xs : List ℕ) (v : ℕ) → ((i : ℕ) → i < length xs → P i) → P (length xs) → (i : ℕ) → i < length (xs ++ (v ∷ [])) → P i
each_snoc P xs v h p i l = which (lt_or_ge i (length xs))
  where
    which : (i < length xs) ⊎ (length xs ≤ i) → P i
    which (inl q) = h i q
    which (inr q) = let e : length xs ≡ i = omega (arith, length-append xs (v ∷ [])) in subst P e p

-- the tag of the new row: its last digit is n
module _ (n u : ℕ) (h : u < 2 ^ n) where
  tag_last : bit (bit_xor u (2 ^ n)) n ≡ 1
  tag_last = bit_xor_lem u (2 ^ n) n ∙ ap₂ differ (bit_beyond n u n h (le_refl n)) (bit_pow_same n)

  tag_up_to : bit_xor u (2 ^ n) < 2 ^ (n + 1)
  tag_up_to = xor_lt (n + 1) u (2 ^ n) (lt_of_lt_of_le h (pow_mono (le-add_right n 1))) (pow-lt (omega arith))

pushed_tag_pow : (n u : ℕ) → n < 128 → pushed_tag n u ≡ bit_xor u (2 ^ n)
unfolding pushed_tag
pushed_tag_pow n u h = ap (bit_xor u) (single_below n h)

module _ {rows tags pivots chosen : List ℕ} (state : Reduction rows tags pivots chosen) (room : Room rows tags pivots (length chosen + 1))
    (v rest u p : ℕ) (r : Rest pivots chosen (length chosen) v rest u) (holds : bit rest p ≡ 1) (small : p < 128) where
  abbrev n : ℕ
  n = length chosen

  abbrev rows' : List ℕ
  rows' = put_row rows n rest

  abbrev tags' : List ℕ
  tags' = put_row tags n (bit_xor u (2 ^ n))

  abbrev pivots' : List ℕ
  pivots' = set pivots n p

  abbrev chosen' : List ℕ
  chosen' = chosen ++ (v ∷ [])

  old_row : (i : ℕ) → i < n → row_at rows' i ≡ row_at rows i
  old_row i l = row_other rows n rest i l

  old_tag : (i : ℕ) → i < n → row_at tags' i ≡ row_at tags i
  old_tag i l = row_other tags n (bit_xor u (2 ^ n)) i l

  old_pivot : (i : ℕ) → i < n → get_or pivots' i 0 ≡ get_or pivots i 0
  old_pivot i l = get_or-set_other pivots n i p 0 (omega arith)

  new_row : row_at rows' n ≡ rest
  new_row = row_same rows n rest room.rows_fit

  new_tag : row_at tags' n ≡ bit_xor u (2 ^ n)
  new_tag = row_same tags n (bit_xor u (2 ^ n)) room.tags_fit

  new_pivot : get_or pivots' n 0 ≡ p
  new_pivot = get_or-set_same pivots n p 0 (omega arith)

  old_below : (i : ℕ) → i < n → row_at tags i < 2 ^ n
  old_below i l = lt_of_lt_of_le (state.up_to i l) (pow_mono (omega arith))

  old_sum : (t : ℕ) → t < 2 ^ n → combine chosen t ≡ combine chosen' t
  old_sum t h = sym (combine_take n chosen' t h ∙ ap (λ (xs : List ℕ). combine xs t) (take-append_seam chosen (v ∷ [])))

  new_sum : rest ≡ combine chosen' (bit_xor u (2 ^ n))
  new_sum =
      sym (combine_xor chosen' u (2 ^ n)
      ∙ ap₂ bit_xor (sym (old_sum u r.below)) (combine_single chosen' n ∙ get_or-append_seam chosen v [] 0 ∙ sym r.makes)
      ∙ xor_comm (combine chosen u) (bit_xor rest (combine chosen u))
      ∙ xor_cancel rest (combine chosen u))

  grown : v < 2 ^ 128 → Reduction rows' tags' pivots' chosen'
  grown fits =
      record {
        room = record {
          rows_fit = rw (length_put_row, length-append chosen (v ∷ [])) room.rows_fit;
          tags_fit = rw (length_put_row, length-append chosen (v ∷ [])) room.tags_fit;
          pivots_fit = rw (length-set, length-append chosen (v ∷ [])) room.pivots_fit;
        };
        chosen_fit =
            each_snoc (λ i. get_or chosen' i 0 < 2 ^ 128) chosen v
            (λ i l. subst (λ (x : ℕ). x < 2 ^ 128) (sym (get_or-append chosen (v ∷ []) 0 i l)) (state.chosen_fit i l))
            (subst (λ (x : ℕ). x < 2 ^ 128) (sym (get_or-append_seam chosen v [] 0)) fits);
        bonds =
            each_snoc (λ i. get_or pivots' i 0 < 128) chosen v
            (λ i l. subst (λ (x : ℕ). x < 128) (sym (old_pivot i l)) (state.bonds i l))
            (subst (λ (x : ℕ). x < 128) (sym new_pivot) small);
        own =
            each_snoc (λ i. bit (row_at rows' i) (get_or pivots' i 0) ≡ 1) chosen v
            (λ i l. ap₂ bit (old_row i l) (old_pivot i l) ∙ state.own i l)
            (ap₂ bit new_row new_pivot ∙ holds);
        others =
            λ i j l k. each_snoc (λ i. (j : ℕ) → j < i → bit (row_at rows' i) (get_or pivots' j 0) ≡ 0) chosen v
            (λ i l j k. ap₂ bit (old_row i l) (old_pivot j (lt_trans k l)) ∙ state.others i j l k)
            (λ j k. ap₂ bit new_row (old_pivot j k) ∙ r.lacks j k) i l j k;
        named =
            each_snoc (λ i. row_at rows' i ≡ combine chosen' (row_at tags' i)) chosen v
            (λ i l. old_row i l ∙ state.named i l ∙ old_sum (row_at tags i) (old_below i l) ∙ ap (combine chosen') (sym (old_tag i l)))
            (new_row ∙ new_sum ∙ ap (combine chosen') (sym new_tag));
        last =
            each_snoc (λ i. bit (row_at tags' i) i ≡ 1) chosen v
            (λ i l. ap (λ (x : ℕ). bit x i) (old_tag i l) ∙ state.last i l)
            (ap (λ (x : ℕ). bit x n) new_tag ∙ tag_last n u r.below);
        up_to =
            each_snoc (λ i. row_at tags' i < 2 ^ (i + 1)) chosen v
            (λ i l. subst (λ (x : ℕ). x < 2 ^ (i + 1)) (sym (old_tag i l)) (state.up_to i l))
            (subst (λ (x : ℕ). x < 2 ^ (n + 1)) (sym new_tag) (tag_up_to n u r.below));
      }

-- A set v that the rows do not reduce to nothing is one more chosen set: its rest is stored as a row, with what was used and itself as the tag,
-- and with any bond of the rest as the pivot.
pub reduction_push_at : {rows tags pivots chosen : List ℕ} → Reduction rows tags pivots chosen → Room rows tags pivots (length chosen + 1) → length chosen < 128
    → (v : ℕ) → reduced rows pivots 0 (length chosen) v < 2 ^ 128 → (p : ℕ) → bit (reduced rows pivots 0 (length chosen) v) p ≡ 1 → p < 128
    → Reduction (put_row rows (length chosen) (reduced rows pivots 0 (length chosen) v))
    (put_row tags (length chosen) (pushed_tag (length chosen) (used rows tags pivots 0 (length chosen) v 0)))
    (set pivots (length chosen) p)
    (chosen ++ (v ∷ []))
reduction_push_at {rows} {tags} {pivots} {chosen} state room few v fits p holds small =
    let n = length chosen in
    let rest = reduced rows pivots 0 n v in
    let u = used rows tags pivots 0 n v 0 in
    subst (λ (g : ℕ). Reduction (put_row rows n rest) (put_row tags n g) (set pivots n p) (chosen ++ (v ∷ []))) (sym (pushed_tag_pow n u few))
    (grown state room v rest u p (reduction_rest state n (le_refl n) v) holds small (reduction_set_lt state n (le_refl n) v fits))

-- and so with the lowest bond of the rest
pub reduction_push : {rows tags pivots chosen : List ℕ} → Reduction rows tags pivots chosen → Room rows tags pivots (length chosen + 1) → length chosen < 128
    → (v : ℕ) → (reduced rows pivots 0 (length chosen) v ≡ 0 → ⊥) → reduced rows pivots 0 (length chosen) v < 2 ^ 128
    → Reduction (put_row rows (length chosen) (reduced rows pivots 0 (length chosen) v))
    (put_row tags (length chosen) (pushed_tag (length chosen) (used rows tags pivots 0 (length chosen) v 0)))
    (set pivots (length chosen) (pivot_of (reduced rows pivots 0 (length chosen) v)))
    (chosen ++ (v ∷ []))
unfolding pivot_of
reduction_push {rows} {tags} {pivots} {chosen} state room few v some fits =
    let t = trailing 128 (reduced rows pivots 0 (length chosen) v) (pos_of_ne (reduced rows pivots 0 (length chosen) v) some) fits in
    reduction_push_at state room few v fits (count_trailing_zeros 128 (reduced rows pivots 0 (length chosen) v)) t.here t.small

-- ---- an expansion, cut at the number of the shorter chosen sets

-- a set that a tag names, without the chosen sets from the short-th on that the tag names, is a sum of the first `short` chosen sets
pub span_short : (short : ℕ) (chosen : List ℕ) (t v : ℕ) → v ≡ combine chosen t
    → Span bond_sets (take short chosen) (bit_xor v (combine chosen (t / 2 ^ short * 2 ^ short)))
span_short short chosen t v e =
    at bond_sets (sym (ap (λ (x : ℕ). bit_xor x high) (e ∙ combine_split short chosen t ∙ xor_comm high low) ∙ xor_cancel low high))
    (combine_span_take short chosen (t % 2 ^ short) (mod-lt t (pow_pos short)))
  where
    high : ℕ
    high = combine chosen (t / 2 ^ short * 2 ^ short)

    low : ℕ
    low = combine chosen (t % 2 ^ short)

-- the chosen sets from the short-th on that a tag names: their list and their sum
pub sum_short : (short : ℕ) (chosen : List ℕ) (t : ℕ)
    → Sum bond_sets (named_by (drop short chosen) (t / 2 ^ short)) ≡ combine chosen (t / 2 ^ short * 2 ^ short)
sum_short short chosen t = named_by_sum (drop short chosen) (t / 2 ^ short) ∙ sym (combine_shifted short (t / 2 ^ short) chosen)

-- the same with the sets listed: an expansion over the chosen sets from the short-th on, modulo those before
pub remains_short : (short : ℕ) (chosen : List ℕ) (t v : ℕ) → v ≡ combine chosen t
    → Span bond_sets (take short chosen) (bit_xor v (Sum bond_sets (named_by (drop short chosen) (t / 2 ^ short))))
remains_short short chosen t v e = at bond_sets (ap (bit_xor v) (sym (sum_short short chosen t))) (span_short short chosen t v e)
