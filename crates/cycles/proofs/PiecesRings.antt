-- No ring, no distance and no interchange joins two pieces.
use mathlib.Core.Path.{◌≡◌, refl, sym, ap, ap₂, ◌∙◌, subst}
use mathlib.Core.Bool.{Bool, true, false, ◌&&◌}
use mathlib.Core.List.{List, ◌∷◌}
use mathlib.Core.Logic.{◌⊎◌, inl, inr, ⊎_elim, ◌≢◌}
use Prim.Native.Nat.{ℕ, suc, ◌^◌, ◌<◌, ◌≤◌}
use native.Mathlib.Decide.{ℕ_discrete}
use native.Mathlib.Omega.{arith}
use lib.Pow.{pow_pos}
use lib.Bits.{bit_xor, xor_lt}
use Rattle.spans.specs.Basis.{All, Subgroup}
use Rattle.spans.proofs.Lists.{all_map, all_and, all_head, all_tail, perm_front}
use Rattle.spans.proofs.Span.{Span, at, add, zero as span-zero, own}
use Rattle.spans.proofs.Indep.{first}
use Rattle.spans.proofs.Steinitz.{spanned, span_inside}
use Rattle.spans.proofs.Minimum.{basis_indep}
use Rattle.spans.proofs.Short.{minimum_perm}
use Rattle.bondset.proofs.Laws.{lt_or_ge}
use Rattle.bondset.proofs.Group.{bond_sets}
use Rattle.graphs.specs.Count.{xor, same}
use Rattle.graphs.proofs.Basics.{not_true, and_l, and_r, same_is, same_ne, clash, xor_and}
use Rattle.cycles.specs.Compound.{Compound, m, one, Walk, Distance, Sound}
use Rattle.cycles.specs.Ring.{len, degree, Closed, Along, Ring}
use Rattle.cycles.specs.Basis.{Minimum, Interchangeable}
use Rattle.cycles.specs.Pieces.{SamePiece}
use Rattle.cycles.proofs.Number.{holds, num, holds_xor, holds_zero, holds_ext, num_lt, holds_num}
use Rattle.cycles.proofs.Carry.{bit_one}
use Rattle.cycles.proofs.MembersAround.{meets_one, degree_to_pos, ring_atom}
use Rattle.cycles.proofs.Dimension.{Rooted, degree_to_outside}
use Rattle.cycles.proofs.Pieces.{rooted_exists}
use Rattle.cycles.proofs.Bases.{minimum_members_relevant}
use Rattle.cycles.proofs.PiecesCount.{walk_root, root_same_piece}

module _ (c : Compound) where
  -- A way along bonds of a set is a walk.
  along_same_piece : {S b a : ℕ} → Along c S b a → SamePiece c a b
  along_same_piece Along.here = (0, Walk.here)
  along_same_piece (Along.step {k = k} e j w) = let (steps, v) = along_same_piece w in (suc steps, Walk.step (k, j) v)

  -- "No ring .. joins two pieces": any two atoms of a ring are in one piece.
  pub ring_one_piece : {C a b : ℕ} → Ring c C → 0 < degree c C a → 0 < degree c C b → SamePiece c a b
  ring_one_piece {a = a} {b = b} ring h l = along_same_piece (ring.connected a b h l)

  -- "No .. distance joins two pieces": atoms with a distance are in one piece.
  pub distance_one_piece : {a b d : ℕ} → Distance c a b d → SamePiece c a b
  distance_one_piece {d = d} far = (d, far.walk)

  -- An atom that meets a bond of a set is an atom of the compound.
  pub met_atom : Sound c → (S : ℕ) {a : ℕ} → 0 < degree c S a → a < c.n
  met_atom sound S {a} h =
      ⊎_elim (λ (l : a < c.n). l) (λ (l : c.n ≤ a). absurd (omega (arith, degree_to_outside c sound S a l (m c) (omega arith)))) (lt_or_ge a c.n)

-- ---- a bond set within one piece
module _ (c : Compound) (root : ℕ → ℕ) (p : ℕ) where
  -- Bond k of S, if its piece has root p.
  kept : ℕ → ℕ → Bool
  kept S k = holds S k && same (root (one c k)) p

  -- The bonds of S in the piece with root p.
  within : ℕ → ℕ
  within S = num (kept S) (m c)

  within_lt : (S : ℕ) → within S < 2 ^ m c
  unfolding within
  within_lt S = num_lt (kept S) (m c)

  holds_within : (S k : ℕ) → k < m c → holds (within S) k ≡ (holds S k && same (root (one c k)) p)
  unfolding within kept
  holds_within S k h = holds_num (kept S) (m c) k h

  within_add : (S T : ℕ) → within (bit_xor S T) ≡ bit_xor (within S) (within T)
  within_add S T =
      holds_ext (m c) _ _ (within_lt (bit_xor S T)) (xor_lt (m c) _ _ (within_lt S) (within_lt T))
      (λ k h.
      holds_within (bit_xor S T) k h
      ∙ ap (λ (b : Bool). b && same (root (one c k)) p) (holds_xor S T k)
      ∙ xor_and (holds S k) (holds T k) (same (root (one c k)) p)
      ∙ sym (holds_xor (within S) (within T) k ∙ ap₂ xor (holds_within S k h) (holds_within T k h)))

  -- A set all of whose bonds are in the piece stays whole.
  within_all : (S : ℕ) → S < 2 ^ m c → ((k : ℕ) → k < m c → holds S k ≡ true → root (one c k) ≡ p) → within S ≡ S
  within_all S l f =
      holds_ext (m c) _ _ (within_lt S) l
      (λ k h. holds_within S k h ∙ both_same (holds S k) (same (root (one c k)) p) (λ e. same_is (root (one c k)) p (f k h e)))
    where
      both_same : (a b : Bool) → (a ≡ true → b ≡ true) → (a && b) ≡ a
      both_same true b g = g refl
      both_same false b g = refl

  -- Of a set none of whose bonds is in the piece nothing stays.
  within_none : (S : ℕ) → ((k : ℕ) → k < m c → holds S k ≡ true → root (one c k) ≢ p) → within S ≡ 0
  within_none S f =
      holds_ext (m c) _ _ (within_lt S) (pow_pos (m c))
      (λ k h.
      holds_within S k h
      ∙ not_true _ (λ e. clash (and_r (holds S k) _ e) (same_ne (root (one c k)) p (f k h (and_l (holds S k) _ e))))
      ∙ sym (holds_zero k))

  within_zero : within 0 ≡ 0
  within_zero = within_none 0 (λ k h e. absurd (clash e (holds_zero k)))

  -- The sets whose part in the piece is a sum of R.
  within_subgroup : (R : List ℕ) → Subgroup bond_sets (λ v. Span bond_sets R (within v))
  unfolding bond_sets
  within_subgroup R =
      record {
        zero = at bond_sets (sym within_zero) (span-zero bond_sets R);
        add = λ x y s t. at bond_sets (sym (within_add x y)) (add bond_sets s t);
      }

  module _ (r : Rooted c root) where
    -- Each bond of a ring is in the piece of each of its atoms.
    ring_bond_root : {C a k : ℕ} → Ring c C → 0 < degree c C a → k < m c → holds C k ≡ true → root (one c k) ≡ root a
    ring_bond_root {C} {a} {k} ring met h e =
        walk_root c r (ring_one_piece c ring (degree_to_pos c (m c) k C (one c k) h (bit_one C k e) (meets_one c k)) met).1

    -- A ring with an atom in the piece is all in it.
    ring_inside : {C a : ℕ} → Ring c C → 0 < degree c C a → root a ≡ p → within C ≡ C
    ring_inside {C} ring met e = within_all C ring.closed.bonds (λ k h b. ring_bond_root ring met h b ∙ e)

    -- A ring with an atom in another piece is not in it at all.
    ring_outside : {C a : ℕ} → Ring c C → 0 < degree c C a → root a ≢ p → within C ≡ 0
    ring_outside {C} ring met n = within_none C (λ k h b e. n (sym (ring_bond_root ring met h b) ∙ e))

    ring_either : {C : ℕ} → Ring c C → (within C ≡ C) ⊎ (within C ≡ 0)
    ring_either ring =
        let (a, met) = ring_atom c ring in
        elim (ℕ_discrete (root a) p) [ yes e ↦ inl (ring_inside ring met e) | no n ↦ inr (ring_outside ring met n) ]

    ring_within_span : {X : ℕ} {R : List ℕ} → Ring c X → Span bond_sets R X → Span bond_sets R (within X)
    unfolding bond_sets
    ring_within_span {R = R} ring s =
        elim (ring_either ring) [ inl e ↦ at bond_sets (sym e) s | inr e ↦ at bond_sets (sym e) (span-zero bond_sets R) ]

    -- What lies in the piece needs no ring that lies outside it.
    span_without : {C D : ℕ} {R : List ℕ} → All (Ring c) R → within C ≡ 0 → within D ≡ D → Span bond_sets (C ∷ R) D → Span bond_sets R D
    unfolding bond_sets
    span_without {R = R} rings outside inside s =
        at bond_sets inside
        (span_inside bond_sets (within_subgroup R)
        (All.cons (at bond_sets (sym outside) (span-zero bond_sets R)) (all_map (λ X q. ring_within_span q.0 q.1) (all_and rings (own bond_sets R)))) s)

-- ---- interchange
module _ (c : Compound) (sound : Sound c) where
  -- Rings in two pieces replace each other in no minimum basis.
  swap_same_root : {root : ℕ → ℕ} → Rooted c root → {C D a b : ℕ} {R : List ℕ} → Minimum c (C ∷ R) → Minimum c (D ∷ R) → 0 < degree c C a → 0 < degree c D b
      → root a ≢ root b → ⊥
  swap_same_root {root} r {C} {D} {a} {b} least least' h l n =
      let rings = all_map (λ X q. q.ring) (minimum_members_relevant c sound least) in
      let rings' = all_map (λ X q. q.ring) (minimum_members_relevant c sound least') in
      let s = spanned bond_sets least.basis.spans D (all_head least'.basis.inside) in
      first bond_sets (basis_indep bond_sets (Closed c) least'.basis)
      (span_without c root (root b) r (all_tail rings) (ring_outside c root (root b) r (all_head rings) h n)
      (ring_inside c root (root b) r (all_head rings') l refl) s)

  -- "No .. class joins two pieces": atoms of interchangeable rings are in one piece. (What is interchangeable with a relevant ring is one.)
  pub interchangeable_same_piece : {C D a b : ℕ} → Ring c C → Interchangeable c C D → 0 < degree c C a → 0 < degree c D b → SamePiece c a b
  interchangeable_same_piece {b = b} ring (Interchangeable.same e) h l =
      ring_one_piece c ring h (subst (λ (S : ℕ). 0 < degree c S b) (sym e) l)
  interchangeable_same_piece {C} {D} {a} {b} ring (Interchangeable.swap before after least least') h l =
      let (root, r) = rooted_exists c sound in
      elim (ℕ_discrete (root a) (root b)) [
        | yes e ↦ root_same_piece c r (met_atom c sound C h) (met_atom c sound D l) e
        | no n ↦
            absurd
            (swap_same_root r (minimum_perm bond_sets (len c) (Closed c) (perm_front before C after) least)
            (minimum_perm bond_sets (len c) (Closed c) (perm_front before D after) least') h l n)
      ]
