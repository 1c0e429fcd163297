-- Every relevant ring is a sum of one or two rings of the plain method that are no longer, but for shorter rings: seen from any atom on it.
use mathlib.Core.Path.{◌≡◌, refl, sym, subst}
use mathlib.Core.List.{List}
use Prim.Native.Nat.{ℕ, ◌^◌, ◌<◌}
use native.Mathlib.Omega.{arith}
use native.Mathlib.Decide.{ℕ_discrete}
use lib.Bits.{bit_xor}
use Rattle.spans.specs.Elements.{◌∈◌}
use Rattle.spans.proofs.Marking.{covered_add, covered_at}
use Rattle.bondset.proofs.Group.{bond_sets}
use Rattle.cycles.specs.Compound.{Compound, Sound}
use Rattle.cycles.specs.Ring.{len, Closed, Relevant, Edges}
use Rattle.cycles.specs.Family.{Family, Under, Candidate}
use Rattle.cycles.specs.Plain.{Path, PlainRing}
use Rattle.cycles.proofs.Edges.{is}
use Rattle.cycles.proofs.Arcs.{around}
use Rattle.cycles.proofs.PathsDecide.{joins_sym}
use Rattle.cycles.proofs.PathsWays.{sums}
use Rattle.cycles.proofs.PathsDown.{down_far, down_some}
use Rattle.cycles.proofs.Families.{Made, made_differ_shorter}
use Rattle.cycles.proofs.MembersApart.{is_other}
use Rattle.cycles.proofs.MembersAround.{Found, fresh_other, ring_atom, around_found}
use Rattle.cycles.proofs.PlainPaths.{other_precedes, path_exists}
use Rattle.cycles.proofs.PlainBonds.{loop, path_made, Reached, shorter_reached, level_reached, up_reached}

odd_sum : (C T : ℕ) → bit_xor (bit_xor C T) T ≡ C
odd_sum C T = simp sums

even_sum : (C T Y Z X I J : ℕ) → T ≡ bit_xor (bit_xor Y Z) (bit_xor I (bit_xor J 0))
    → bit_xor (bit_xor C T) (bit_xor (bit_xor (bit_xor Y X) I) (bit_xor (bit_xor Z X) J)) ≡ C
even_sum C T Y Z X I J t = simp (t, sums)

link_sum : (Y Z J : ℕ) → bit_xor (bit_xor Y Z) J ≡ bit_xor (bit_xor Y Z) (bit_xor J 0)
link_sum Y Z J = simp sums

module _ (c : Compound) (sound : Sound c) where
  -- Where every other atom precedes v, the top atom of a candidate is v.
  top_is : (v r p : ℕ) → is v p < is v r → Dec (v ≡ r) → r ≡ v
  top_is v r p before (yes e) = sym e
  top_is v r p before (no n) = absurd (omega (arith, is_other v r n))

  candidate_top : {v d : ℕ} {f : Family} {link : List ℕ} → Candidate c (is v) f d link → f.r ≡ v
  candidate_top {v} (Candidate.odd {r = r} {p = p} less bond under_p under_q long) = top_is v r p under_p.0 (ℕ_discrete v r)
  candidate_top {v} (Candidate.even {r = r} {p = p} less bond_p bond_q under_x under_p under_q long) = top_is v r p under_p.0 (ℕ_discrete v r)

  -- The path of the method from an atom under r.
  under_path : {rank : ℕ → ℕ} {r t d : ℕ} → Under c rank r t d → Path c r t d
  under_path {rank} under = path_exists c sound (down_far c rank under.1.1)

  reached_add : {ps : List ℕ} {k S T U : ℕ} → Reached c ps k S → Reached c ps k T → bit_xor S T ≡ U → Reached c ps k U
  unfolding bond_sets
  reached_add s t e = covered_at bond_sets (len c) (Closed c) e (covered_add bond_sets (len c) (Closed c) s t)

  module _ (ps : List ℕ) (listed : (v j S : ℕ) → PlainRing c v j S → S ∈ ps) where
    -- What a candidate's paths make up, where every other atom precedes its top atom.
    made_reached : {f : Family} {d C : ℕ} {link P Q : List ℕ} → Candidate c (is f.r) f d link → Made c sound (is f.r) f d link P Q C
        → Reached c ps f.long C
    made_reached {C = C} (Candidate.odd {r = v} {d = d} {k = k} less (j, joins) under_p under_q long) made =
        let Y = under_path under_p in
        let Z = under_path under_q in
        let T = loop c Y Z j in
        let some = down_some c (is v) under_p.1.1 under_p.0 in
        let own =
        path_made c sound Y Z (Candidate.odd less (j, joins) under_p under_q long) (Edges.more joins Edges.point refl)
        (link_sum Y.bonds Z.bonds (2 ^ j)) in
        reached_add (shorter_reached c (made_differ_shorter c sound (is v) made own))
        (subst (λ (n : ℕ). Reached c ps n T) (sym long) (level_reached c sound v ps (listed v) joins some Y Z)) (odd_sum C T)
    made_reached {C = C} (Candidate.even {r = v} {d = d} {k = k} less (i, to_x) (j, to_q) under_x under_p under_q long) made =
        let Y = under_path under_p in
        let Z = under_path under_q in
        let X = under_path under_x in
        let T = bit_xor (bit_xor Y.bonds Z.bonds) (bit_xor (2 ^ i) (bit_xor (2 ^ j) 0)) in
        let own =
        path_made c sound Y Z (Candidate.even less (i, to_x) (j, to_q) under_x under_p under_q long)
        (Edges.more to_x (Edges.more to_q Edges.point refl) refl) refl in
        let H = bit_xor (bit_xor (bit_xor Y.bonds X.bonds) (2 ^ i)) (loop c Z X j) in
        let first = up_reached c sound v ps (listed v) to_x Y X in
        let second = up_reached c sound v ps (listed v) (joins_sym c to_q) Z X in
        reached_add (shorter_reached c (made_differ_shorter c sound (is v) made own))
        (subst (λ (n : ℕ). Reached c ps n H) (sym long) (reached_add first second refl))
        (even_sum C T Y.bonds Z.bonds X.bonds (2 ^ i) (2 ^ j) refl)

    found_reached : (v : ℕ) {C : ℕ} → Found c sound (is v) C → Reached c ps (len c C) C
    found_reached v {C} w =
        let top = sym (candidate_top w.made.candidate) in
        subst (λ (n : ℕ). Reached c ps n C) (sym w.long)
        (made_reached (subst (λ (x : ℕ). Candidate c (is x) w.f w.d w.link) top w.made.candidate)
        (subst (λ (x : ℕ). Made c sound (is x) w.f w.d w.link w.P w.Q C) top w.made))

    -- A relevant ring is a sum of rings of the method that are no longer, but for shorter rings.
    pub relevant_reached : {C : ℕ} → Relevant c C → Reached c ps (len c C) C
    relevant_reached relevant =
        let (v, met) = ring_atom c relevant.ring in
        let w = around c sound relevant met in
        found_reached v (around_found c sound (is v) w (λ a h. other_precedes c v a (fresh_other w.once h)))
