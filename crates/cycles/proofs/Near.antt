-- Rule 2: rings that differ by shorter rings. An equivalence, finer than rule 1, of whose classes no minimum basis holds two rings.
use mathlib.Core.Path.{◌≡◌, refl, sym, ◌∙◌, ap, subst}
use mathlib.Core.List.{List, [], ◌∷◌}
use mathlib.Core.Logic.{◌⊎◌, inl, inr, ⊎_elim}
use Prim.Native.Nat.{ℕ, suc, ◌<◌}
use native.Mathlib.Omega.{arith}
use native.Mathlib.Decide.{map_dec, ℕ_discrete}
use lib.Bits.{bit_xor, xor_comm}
use Rattle.spans.specs.Elements.{◌∈◌}
use Rattle.spans.specs.Graded.{below}
use Rattle.spans.proofs.Lists.{Perm, perm_comm, Pick, pick_perm}
use Rattle.spans.proofs.Sift.{sift_avoids}
use Rattle.spans.proofs.Span.{Span, at, add, head, mono, left_of, span_dec}
use Rattle.spans.proofs.Indep.{first, by_recursion, indep_perm}
use Rattle.spans.proofs.Graded.{split}
use Rattle.spans.proofs.Short.{span_short, minimum_spans_short}
use Rattle.spans.proofs.Xor.{undo}
use Rattle.bondset.proofs.Group.{bond_sets}
use Rattle.cycles.specs.Compound.{Compound, Sound}
use Rattle.cycles.specs.Ring.{len, Closed, Ring, Relevant}
use Rattle.cycles.specs.Basis.{Minimum, Interchangeable}
use Rattle.cycles.specs.Family.{Family, Member}
use Rattle.cycles.specs.Rows.{Row, At, Report, Right}
use Rattle.cycles.specs.Near.{Near}
use Rattle.cycles.proofs.PathsDecide.{both_dec}
use Rattle.cycles.proofs.PathsWays.{sums}
use Rattle.cycles.proofs.Shorter.{Shorter, shorter_zero, shorter_add, relevant_not_shorter, not_shorter_relevant}
use Rattle.cycles.proofs.Families.{made_differ_shorter, made_at, member_made}
use Rattle.cycles.proofs.Bases.{shorter_short, short_shorter}
use Rattle.cycles.proofs.Exists.{minimum_exists}
use Rattle.cycles.proofs.Swaps as Swaps
use Rattle.cycles.proofs.Swaps.{minimum_lower}
use Rattle.cycles.proofs.Ranks.{at_element, same_class_iff}

-- ---- an equivalence
self_sum : (C : ℕ) → 0 ≡ bit_xor C C
self_sum C = simp sums

through_sum : (C D E : ℕ) → bit_xor (bit_xor C D) (bit_xor D E) ≡ bit_xor C E
through_sum C D E = simp sums

without_sum : (C D : ℕ) → bit_xor (bit_xor C D) D ≡ C
without_sum C D = simp sums

-- An element is a sum of the list.
element_span : {x : ℕ} {xs : List ℕ} → x ∈ xs → Span bond_sets xs x
element_span ◌∈◌.first = head bond_sets
element_span (◌∈◌.later i) = Span.skip (element_span i)

at_pick : {X : Type 0} {xs : List X} {i : ℕ} {x : X} → At xs i x → (R : List X) × Pick xs x R
at_pick (At.here {xs = xs}) = (xs, Pick.here)
at_pick (At.later {y = y} a) = let (R, p) = at_pick a in (y ∷ R, Pick.there p)

-- Two places are one, or what stands at the second is among the others when the first is taken out.
two_picked : {X : Type 0} {xs : List X} {i j : ℕ} {x y : X} → At xs i x → At xs j y → (i ≡ j) ⊎ ((R : List X) × Pick xs x R × (y ∈ R))
two_picked At.here At.here = inl refl
two_picked At.here (At.later b) = inr (_, Pick.here, at_element b)
two_picked (At.later a) At.here = let (R, p) = at_pick a in inr (_ ∷ R, Pick.there p, ◌∈◌.first)
two_picked (At.later {y = z} a) (At.later b) =
    ⊎_elim (λ e. inl (ap suc e)) (λ (R, p, i). inr (z ∷ R, Pick.there p, ◌∈◌.later i)) (two_picked a b)

module _ (c : Compound) where
  -- Near rings differ by a sum of rings that are shorter than both.
  pub near_shorter : {C D : ℕ} → Near c C D → Shorter c (len c C) (bit_xor C D)
  near_shorter s = record { rings = s.rings; short = s.shorter; sum = s.sum }

  -- And the other way round.
  pub shorter_near : {C D : ℕ} → len c C ≡ len c D → Shorter c (len c C) (bit_xor C D) → Near c C D
  shorter_near e s = record { long = e; rings = s.rings; shorter = s.short; sum = s.sum }

  -- Every ring is near itself.
  pub near_refl : (C : ℕ) → Near c C C
  near_refl C = shorter_near refl (subst (Shorter c (len c C)) (self_sum C) (shorter_zero c (len c C)))

  -- If C is near D, then D is near C.
  pub near_sym : {C D : ℕ} → Near c C D → Near c D C
  near_sym {C} {D} s =
      shorter_near (sym s.long)
      (subst (λ (k : ℕ). Shorter c k (bit_xor D C)) s.long (subst (Shorter c (len c C)) (xor_comm C D) (near_shorter s)))

  -- If C is near D and D is near E, then C is near E.
  pub near_trans : {C D E : ℕ} → Near c C D → Near c D E → Near c C E
  near_trans {C} {D} {E} s t =
      shorter_near (s.long ∙ t.long)
      (subst (Shorter c (len c C)) (through_sum C D E)
      (shorter_add c (near_shorter s) (subst (λ (k : ℕ). Shorter c k (bit_xor D E)) (sym s.long) (near_shorter t))))

  -- A ring that is near a relevant one is relevant.
  pub near_relevant : {C D : ℕ} → Relevant c C → Ring c D → Near c C D → Relevant c D
  near_relevant {C} {D} relevant ring s =
      not_shorter_relevant c ring
      (λ t. relevant_not_shorter c relevant
      (subst (Shorter c (len c C)) (without_sum C D)
      (shorter_add c (near_shorter s) (subst (λ (k : ℕ). Shorter c k D) (sym s.long) t))))

module _ (c : Compound) (sound : Sound c) where
  -- The members of one family are near each other.
  pub members_near : {f : Family} {C D : ℕ} (rank : ℕ → ℕ) → Member c rank f C → Member c rank f D → Near c C D
  members_near {f} {C} {D} rank a b =
      shorter_near c (a.long ∙ sym b.long)
      (subst (λ (k : ℕ). Shorter c k (bit_xor C D)) (sym a.long)
      (made_differ_shorter c sound rank (member_made c sound rank a) (made_at c sound rank (member_made c sound rank b) a.candidate)))

  -- ---- finer than rule 1
  -- Near relevant rings are interchangeable.
  pub near_interchangeable : {C D : ℕ} → Relevant c C → Relevant c D → Near c C D → Interchangeable c C D
  near_interchangeable {C} r q s =
      let (B, m) = minimum_exists c sound in
      let l = minimum_lower c m (len c C) in
      Swaps.near_interchangeable c sound l.indep l.spans r q refl (sym s.long) (shorter_short c (near_shorter c s))

  -- "each rule 2 class lies within one rule 1 class": rows with near members have one class.
  pub near_same_class : {R : Report} {u v : Row} {C D : ℕ} (rank : ℕ → ℕ)
      → ((a b : ℕ) → a < c.n → b < c.n → rank a ≡ rank b → a ≡ b) → Right c rank R → u ∈ R.rows → v ∈ R.rows
      → Relevant c C → Relevant c D → Member c rank u.family C → Member c rank v.family D → Near c C D → u.class ≡ v.class
  near_same_class rank injective right i j r q a b s =
      (same_class_iff c sound rank injective right i j a b).1 (s.long, near_interchangeable r q s)

  -- ---- over a minimum basis
  module _ {B : List ℕ} (minimum : Minimum c B) where
    -- The sum of near rings is a sum of members of a minimum basis that are shorter than both.
    pub near_span : {C D : ℕ} → Near c C D → Span bond_sets (below (len c) (len c C) B) (bit_xor C D)
    near_span {C} {D} s = (minimum_spans_short bond_sets (len c) (Closed c) minimum (len c C)).spans (bit_xor C D) (shorter_short c (near_shorter c s))

    -- And the other way round.
    pub span_near : {C D : ℕ} → len c C ≡ len c D → Span bond_sets (below (len c) (len c C) B) (bit_xor C D) → Near c C D
    span_near {C} e s =
        shorter_near c e
        (short_shorter c sound
        (span_short bond_sets (len c) (Closed c) (minimum_spans_short bond_sets (len c) (Closed c) minimum (len c C)).inside s))

    -- A member of a minimum basis is near none of the others.
    pub near_picked : {R : List ℕ} {C D : ℕ} → Pick B C R → D ∈ R → Near c C D → ⊥
    unfolding bond_sets
    near_picked {R} {C} {D} p i s =
        let indep = indep_perm bond_sets (Perm.trans (perm_comm [] B) (pick_perm [] p)) (by_recursion bond_sets B minimum.basis.independent) in
        let low = mono bond_sets (sift_avoids (omega arith) (split (len c) (len c C) B) p) (near_span s) in
        first bond_sets indep (left_of bond_sets [] (at bond_sets (undo bond_sets C D) (add bond_sets low (element_span i))))

    -- "no minimum basis holds two rings of it": near members of a minimum basis stand at one place.
    pub minimum_near_once : {i j C D : ℕ} → At B i C → At B j D → Near c C D → i ≡ j
    minimum_near_once a b s = ⊎_elim (λ e. e) (λ r. absurd (near_picked r.1 r.2 s)) (two_picked a b)

  -- Whether two sets are near is decided.
  pub near_dec : (C D : ℕ) → Dec (Near c C D)
  near_dec C D =
      let (B, m) = minimum_exists c sound in
      map_dec (λ p. span_near m p.0 p.1) (λ s. (s.long, near_span m s))
      (both_dec (ℕ_discrete (len c C) (len c D)) (span_dec bond_sets (below (len c) (len c C) B) (bit_xor C D)))
