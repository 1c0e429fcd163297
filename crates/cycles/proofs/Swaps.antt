-- Interchangeable rings: an equivalence, the same as the exchange over the shorter rings, and met by the members of one family.
use mathlib.Core.Path.{◌≡◌, refl, sym, ◌∙◌, ap, subst}
use mathlib.Core.List.{List}
use Prim.Native.Nat.{ℕ}
use lib.Bits.{bit_xor}
use Rattle.spans.specs.Graded.{below}
use Rattle.spans.proofs.Indep.{Indep}
use Rattle.spans.proofs.Graded.{below_indep}
use Rattle.spans.proofs.Interchange.{Swap, swap_refl, swap_trans}
use Rattle.spans.proofs.Short.{Short, SpansShort, short_add, short_at, relevant_not_span, minimum_spans_short, middle_minimum_relevant}
use Rattle.spans.proofs.Replace.{RelevantOf, replace_same_length, close_swap, replace_swap, swap_replace}
use Rattle.spans.proofs.Xor.{both}
use Rattle.bondset.proofs.Group.{bond_sets}
use Rattle.cycles.specs.Compound.{Compound, Sound}
use Rattle.cycles.specs.Ring.{len, Closed, Relevant}
use Rattle.cycles.specs.Basis.{Minimum, Interchangeable}
use Rattle.cycles.specs.Family.{Family, Prototype, Member, Kept}
use Rattle.cycles.proofs.Families.{member_relevant}
use Rattle.cycles.proofs.Exists.{minimum_exists}
use Rattle.cycles.proofs.Bases.{relevant_no_sum, no_sum_relevant, member_near_prototype}

module _ (c : Compound) where
  -- Every ring is interchangeable with itself.
  pub interchangeable_refl : {C : ℕ} → Interchangeable c C C
  interchangeable_refl = Interchangeable.same refl

  -- If C is interchangeable with D, then D is with C.
  pub interchangeable_sym : {C D : ℕ} → Interchangeable c C D → Interchangeable c D C
  interchangeable_sym (Interchangeable.same e) = Interchangeable.same (sym e)
  interchangeable_sym (Interchangeable.swap before after m n) = Interchangeable.swap before after n m

  -- Interchangeable rings are equally long.
  pub interchangeable_same_length : {C D : ℕ} → Interchangeable c C D → len c C ≡ len c D
  interchangeable_same_length (Interchangeable.same e) = ap (len c) e
  interchangeable_same_length (Interchangeable.swap before after m n) = replace_same_length bond_sets (len c) (Closed c) before after m n

  -- Independent closed sets shorter than k that span all sums of closed sets shorter than k.
  pub record Lower (k : ℕ) : Type 0 where
    pub sets : List ℕ
    pub indep : Indep bond_sets sets
    pub spans : SpansShort bond_sets (len c) (Closed c) k sets

  -- A minimum basis has such, for every k.
  pub minimum_lower : {B : List ℕ} → Minimum c B → (k : ℕ) → Lower k
  minimum_lower {B} m k =
      record {
        sets = below (len c) k B;
        indep = below_indep bond_sets (len c) (Closed c) m.basis k;
        spans = minimum_spans_short bond_sets (len c) (Closed c) m k;
      }

module _ (c : Compound) (sound : Sound c) where
  -- What is interchangeable with a relevant ring is a relevant ring.
  pub interchangeable_relevant : {C D : ℕ} → Interchangeable c C D → Relevant c C → Relevant c D
  interchangeable_relevant (Interchangeable.same e) r = subst (Relevant c) e r
  interchangeable_relevant (Interchangeable.swap before after m n) r =
      no_sum_relevant c sound (middle_minimum_relevant bond_sets (len c) (Closed c) before after n)

  module _ {k : ℕ} {S : List ℕ} (i : Indep bond_sets S) (h : SpansShort bond_sets (len c) (Closed c) k S) where
    -- Interchangeable relevant rings of length k: one is the other, and relevant rings of length k that are independent beside it, and a sum of S.
    pub interchangeable_swap : {C D : ℕ} → Relevant c C → len c C ≡ k → Interchangeable c C D
        → Swap bond_sets (RelevantOf bond_sets (len c) (Closed c) k) S C D
    interchangeable_swap {C} r e (Interchangeable.same d) =
        subst (λ (X : ℕ). Swap bond_sets (RelevantOf bond_sets (len c) (Closed c) k) S C X) d
        (swap_refl bond_sets (RelevantOf bond_sets (len c) (Closed c) k) S
        (Indep.more (relevant_not_span bond_sets (len c) (Closed c) h e (relevant_no_sum c sound r)) i))
    interchangeable_swap r e (Interchangeable.swap before after m n) = replace_swap bond_sets (len c) (Closed c) i h before after m n e

    -- And the other way round.
    pub swap_interchangeable : {C D : ℕ} → Relevant c C → Relevant c D → len c C ≡ k → len c D ≡ k
        → Swap bond_sets (RelevantOf bond_sets (len c) (Closed c) k) S C D → Interchangeable c C D
    swap_interchangeable r q e d s =
        let (B, m) = minimum_exists c sound in
        let t = swap_replace bond_sets (len c) (Closed c) i h s (relevant_no_sum c sound r, e) (relevant_no_sum c sound q, d) m in
        Interchangeable.swap t.before t.after t.holds t.replaced

    swaps_trans : {C D E : ℕ} → Relevant c C → Relevant c D → Relevant c E → len c D ≡ k → Interchangeable c C D → Interchangeable c D E
        → Interchangeable c C E
    swaps_trans r q p e a b =
        let d = interchangeable_same_length c a ∙ e in
        swap_interchangeable r p d (sym (interchangeable_same_length c b) ∙ e)
        (swap_trans bond_sets (RelevantOf bond_sets (len c) (Closed c) k) S (interchangeable_swap r d a) (interchangeable_swap q e b)
        (relevant_no_sum c sound q, e))

    -- Relevant rings of length k that differ by shorter closed sets are interchangeable.
    pub near_interchangeable : {C D : ℕ} → Relevant c C → Relevant c D → len c C ≡ k → len c D ≡ k → Short bond_sets (len c) (Closed c) k (bit_xor C D)
        → Interchangeable c C D
    unfolding bond_sets
    near_interchangeable r q e d s =
        swap_interchangeable r q e d (close_swap bond_sets (len c) (Closed c) i h (relevant_no_sum c sound q, d) s)

  -- "This is an equivalence."
  pub interchangeable_trans : {C D E : ℕ} → Interchangeable c C D → Interchangeable c D E → Interchangeable c C E
  interchangeable_trans {C} {D} {E} (Interchangeable.same e) b = subst (λ (X : ℕ). Interchangeable c X E) (sym e) b
  interchangeable_trans {C} {D} {E} (Interchangeable.swap before after m n) b =
      let (B, q) = minimum_exists c sound in
      let l = minimum_lower c q (len c D) in
      let r = no_sum_relevant c sound (middle_minimum_relevant bond_sets (len c) (Closed c) before after m) in
      let p = no_sum_relevant c sound (middle_minimum_relevant bond_sets (len c) (Closed c) before after n) in
      swaps_trans l.indep l.spans r p (interchangeable_relevant b p) refl (Interchangeable.swap before after m n) b

  module _ (rank : ℕ → ℕ) where
    members_near : {f : Family} {C D S : ℕ} → Member c rank f C → Member c rank f D → Prototype c rank f S
        → Short bond_sets (len c) (Closed c) (len c C) (bit_xor C D)
    unfolding bond_sets
    members_near {f} {C} {D} {S} a b p =
        short_at bond_sets (len c) (Closed c) (both bond_sets C D S)
        (short_add bond_sets (len c) (Closed c) (member_near_prototype c sound rank a p)
        (subst (λ (k : ℕ). Short bond_sets (len c) (Closed c) k (bit_xor D S)) (b.long ∙ sym a.long) (member_near_prototype c sound rank b p)))

    -- "Members of one family are always in one class."
    pub family_interchangeable : {f : Family} {C D : ℕ} → Kept c rank f → Member c rank f C → Member c rank f D → Interchangeable c C D
    family_interchangeable {f} {C} {D} k a b =
        let (B, q) = minimum_exists c sound in
        let l = minimum_lower c q (len c C) in
        let d : len c D ≡ len c C = b.long ∙ sym a.long in
        near_interchangeable l.indep l.spans (member_relevant c sound rank k a) (member_relevant c sound rank k b) refl d
        (members_near a b k.prototype)
