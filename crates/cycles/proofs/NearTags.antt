-- Rule 2 by tags: two rings of one length are near exactly if their tags agree from the number of the shorter marked rings on.
use mathlib.Core.Path.{◌≡◌, refl, sym, ◌∙◌, ap, ap₂, subst}
use mathlib.Core.List.{List, [], ◌∷◌, ◌++◌, append-nil}
use mathlib.Core.Logic.{◌↔◌}
use Prim.Native.Nat.{ℕ, suc, ◌+◌, ◌*◌, ◌/◌, ◌%◌, ◌^◌, ◌<◌, ◌≤◌}
use native.Mathlib.Nat.{zero-mul, one-mul, mod-lt, zero-lt-suc}
use native.Mathlib.Numerals.{add-one}
use native.Mathlib.Omega.{arith}
use lib.Arith.{lt-one}
use lib.Bits.{bit_xor, xor_lt, xor_shr, xor_self, xor_zero_l, xor_zero_r}
use lib.ListN.{length, take, drop, take-append-drop, length-drop}
use lib.Pow.{shr_lt}
use Rattle.spans.specs.Graded.{below}
use Rattle.spans.proofs.Span.{Span, at, add, left_of}
use Rattle.spans.proofs.Indep.{Indep, by_recursion, indep_right, span_apart}
use Rattle.spans.proofs.Xor.{cancel}
use Rattle.bondset.specs.Reduction.{combine}
use Rattle.bondset.proofs.Group.{bond_sets}
use Rattle.bondset.proofs.Laws.{cases2, xor_cancel}
use Rattle.bondset.proofs.ReductionTags.{combine_zero, combine_xor, combine_shifted, combine_span}
use Rattle.bondset.proofs.ReductionTheorems as Reduction
use Rattle.cycles.specs.Compound.{Compound, Sound}
use Rattle.cycles.specs.Ring.{len}
use Rattle.cycles.specs.Basis.{Minimum}
use Rattle.cycles.specs.Near.{Near}
use Rattle.cycles.specs.Rows.{Report, Right}
use Rattle.cycles.proofs.Bases.{marked_minimum}
use Rattle.cycles.proofs.ExplainedRows.{short_of, marked_front, marked_short_le}
use Rattle.cycles.proofs.Near.{near_span, span_near}

equal_by_zero : (a b : ℕ) → bit_xor a b ≡ 0 → a ≡ b
equal_by_zero a b e = sym (xor_cancel a b) ∙ ap (λ (x : ℕ). bit_xor x b) e ∙ xor_zero_l b

span_none : {v : ℕ} → Span bond_sets [] v → v ≡ 0
unfolding bond_sets
span_none (Span.none e) = e

-- ---- one tag for each sum of independent sets
no_digit : {x : ℕ} {xs : List ℕ} (d y : ℕ) → d < 2 → ¬ Span bond_sets xs x → Span bond_sets xs y → bit_xor (d * x) y ≡ 0 → (d ≡ 0) × (y ≡ 0)
no_digit {x} {xs} d y h n s =
    cases2 (λ (d : ℕ). bit_xor (d * x) y ≡ 0 → (d ≡ 0) × (y ≡ 0))
    (λ e. (refl, sym (equal_by_zero (0 * x) y e) ∙ zero-mul x))
    (λ e. absurd (n (at bond_sets (sym (equal_by_zero (1 * x) y e) ∙ one-mul x) s))) d h

half_lt : {t : ℕ} (k : ℕ) → t < 2 ^ suc k → t / 2 < 2 ^ k
half_lt k h = shr_lt k 1 (rw add-one h)

-- Of independent sets only the tag 0 names the empty sum.
pub combine_none : (xs : List ℕ) (t : ℕ) → Indep bond_sets xs → t < 2 ^ length xs → combine xs t ≡ 0 → t ≡ 0
unfolding combine
combine_none [] t i h e = lt-one h
combine_none (x ∷ xs) t (Indep.more n i) h e =
    let (d, y) = no_digit (t % 2) (combine xs (t / 2)) (mod-lt t (zero-lt-suc 1)) n (combine_span xs (t / 2)) e in
    let rest = combine_none xs (t / 2) i (half_lt (length xs) h) y in
    omega arith

module _ (short : ℕ) (B : List ℕ) (w : ℕ) where
  -- A tag that names none of the sets from the short-th on names a sum of the first ones.
  low_span : w / 2 ^ short ≡ 0 → Span bond_sets (take short B) (combine B w)
  unfolding bond_sets
  low_span e =
      at bond_sets
      (ap (bit_xor (combine B w)) (ap (combine B) (ap (λ (a : ℕ). a * 2 ^ short) e ∙ zero-mul (2 ^ short)) ∙ combine_zero B)
      ∙ xor_zero_r (combine B w))
      (Reduction.span_short short B w (combine B w) refl)

  -- And the other way round, if the sets are independent.
  span_low : Indep bond_sets B → short ≤ length B → w < 2 ^ length B → Span bond_sets (take short B) (combine B w) → w / 2 ^ short ≡ 0
  unfolding bond_sets
  span_low i few h s =
      let high = combine (drop short B) (w / 2 ^ short) in
      let both : Indep bond_sets (take short B ++ drop short B) = rw (take-append-drop short B) i in
      let first : Span bond_sets (take short B) high =
      at bond_sets (cancel bond_sets (combine B w) _ ∙ combine_shifted short (w / 2 ^ short) B)
      (add bond_sets s (Reduction.span_short short B w (combine B w) refl)) in
      let none = span_apart bond_sets (take short B) (drop short B) [] (rw (append-nil (drop short B)) both)
      (left_of bond_sets [] first) (left_of bond_sets [] (combine_span (drop short B) (w / 2 ^ short))) in
      let size : length (drop short B) + short ≡ length B = omega (arith, length-drop short B) in
      combine_none (drop short B) (w / 2 ^ short) (indep_right bond_sets (take short B) (drop short B) both)
      (shr_lt (length (drop short B)) short (rw size h)) (span_none none)

module _ (c : Compound) (sound : Sound c) {B : List ℕ} (minimum : Minimum c B) where
  -- Over a minimum basis whose first members are those shorter than C and D: near exactly if the tags agree in all digits from there on.
  pub near_iff_same_key : {C D t u short : ℕ} → take short B ≡ below (len c) (len c C) B → short ≤ length B → len c C ≡ len c D
      → C ≡ combine B t → D ≡ combine B u → t < 2 ^ length B → u < 2 ^ length B → Near c C D ↔ (t / 2 ^ short ≡ u / 2 ^ short)
  near_iff_same_key {C} {D} {t} {u} {short} front few long is_c is_d ht hu = (to, back)
    where
      sum : bit_xor C D ≡ combine B (bit_xor t u)
      sum = ap₂ bit_xor is_c is_d ∙ sym (combine_xor B t u)

      to : Near c C D → t / 2 ^ short ≡ u / 2 ^ short
      to s =
          equal_by_zero (t / 2 ^ short) (u / 2 ^ short)
          (sym (xor_shr t u short) ∙
          span_low short B (bit_xor t u) (by_recursion bond_sets B minimum.basis.independent) few (xor_lt (length B) t u ht hu)
          (subst (λ (L : List ℕ). Span bond_sets L (combine B (bit_xor t u))) (sym front) (at bond_sets sum (near_span c sound minimum s))))

      back : t / 2 ^ short ≡ u / 2 ^ short → Near c C D
      back e =
          span_near c sound minimum long
          (at bond_sets (sym sum)
          (subst (λ (L : List ℕ). Span bond_sets L (combine B (bit_xor t u))) front
          (low_span short B (bit_xor t u) (xor_shr t u short ∙ ap (λ (a : ℕ). bit_xor a (u / 2 ^ short)) e ∙ xor_self (u / 2 ^ short)))))

module _ (c : Compound) (sound : Sound c) (rank : ℕ → ℕ) (injective : (a b : ℕ) → a < c.n → b < c.n → rank a ≡ rank b → a ≡ b)
    {R : Report} (right : Right c rank R) where
  -- Near exactly if the tags over the marked prototypes agree from the number of the shorter ones on.
  pub marked_near_iff : {C D t u : ℕ} → len c C ≡ len c D → C ≡ combine right.basis t → D ≡ combine right.basis u
      → t < 2 ^ length right.basis → u < 2 ^ length right.basis → Near c C D ↔ (t / 2 ^ short_of c right (len c C) ≡ u / 2 ^ short_of c right (len c C))
  marked_near_iff {C} long is_c is_d ht hu =
      near_iff_same_key c sound (marked_minimum c sound rank injective right) (marked_front c sound rank right (len c C))
      (marked_short_le c sound rank right (len c C)) long is_c is_d ht hu
