-- The two paths of a family's member meet in r alone: an atom where they crossed would meet four of its bonds.
use mathlib.Core.Path.{◌≡◌, refl, sym, ap, ap₂, ◌∙◌, subst}
use mathlib.Core.Bool.{Bool, true, false, cond, ◌||◌}
use mathlib.Core.List.{List}
use mathlib.Core.Logic.{⊎_elim}
use Prim.Native.Nat.{ℕ, zero, suc, ◌+◌, ◌*◌, ◌<◌, ◌≤◌}
use native.Mathlib.Omega.{arith}
use borrow.Author.Tests.{eq-eqb, ne_eqb}
use lib.Bits.{bit_xor, differ}
use lib.Dec.{eqb}
use Rattle.spans.specs.Elements.{◌∈◌}
use Rattle.bondset.specs.Sets.{bit, length_to}
use Rattle.bondset.proofs.Laws.{cases2, bit_lt, bit_xor_lem}
use Rattle.cycles.specs.Compound.{Compound, m, one, other, Sound, Distance}
use Rattle.cycles.specs.Ring.{len, degree_to, degree, Ring, Edges}
use Rattle.cycles.specs.Family.{Family, Down, Candidate}
use Rattle.cycles.proofs.Edges.{is, edges_length, edges_unique}
use Rattle.cycles.proofs.PathsWays.{Way, way_none, way_len, way_parity}
use Rattle.cycles.proofs.PathsDown.{distance_unique, down_far, cut, Cut}
use Rattle.cycles.proofs.Families.{Made, apart_or_crossing}

differ_sum_le : (x y : ℕ) (b : Bool) → x < 2 → y < 2 → x * cond b 1 0 + y * cond b 1 0 + differ x y ≤ differ x y * cond b 1 0 + (x + y)
differ_sum_le x y true hx hy =
    cases2 (λ (x : ℕ). x * 1 + y * 1 + differ x y ≤ differ x y * 1 + (x + y)) (omega arith)
    (cases2 (λ (y : ℕ). 1 * 1 + y * 1 + differ 1 y ≤ differ 1 y * 1 + (1 + y)) (omega arith) (omega arith) y hy) x hx
differ_sum_le x y false hx hy =
    cases2 (λ (x : ℕ). x * 0 + y * 0 + differ x y ≤ differ x y * 0 + (x + y)) (omega arith)
    (cases2 (λ (y : ℕ). 1 * 0 + y * 0 + differ 1 y ≤ differ 1 y * 0 + (1 + y)) (omega arith) (omega arith) y hy) x hx

module _ (c : Compound) where
  degree_to_sum : (n S T a : ℕ) → degree_to c n S a + degree_to c n T a + length_to n (bit_xor S T)
      ≤ degree_to c n (bit_xor S T) a + (length_to n S + length_to n T)
  unfolding degree_to length_to
  degree_to_sum zero S T a = omega arith
  degree_to_sum (suc n) S T a =
      let here = differ_sum_le (bit S n) (bit T n) (eqb (one c n) a || eqb (other c n) a) (bit_lt S n) (bit_lt T n) in
      rw (bit_xor_lem S T n) (omega (arith, degree_to_sum n S T a))

  -- What a sum loses of its degrees it loses of its length.
  degree_sum : (S T a : ℕ) → degree c S a + degree c T a + len c (bit_xor S T) ≤ degree c (bit_xor S T) a + (len c S + len c T)
  degree_sum = degree_to_sum (m c)

  degree_four : {C : ℕ} (U D U' D' L a : ℕ) → C ≡ bit_xor (bit_xor (bit_xor U D) (bit_xor U' D')) L
      → degree c U a + degree c D a + degree c U' a + degree c D' a + len c C ≤ degree c C a + (len c U + len c D + len c U' + len c D' + len c L)
  degree_four U D U' D' L a e =
      let upper = bit_xor U D in
      let lower = bit_xor U' D' in
      rw e (omega (arith, degree_sum U D a, degree_sum U' D' a, degree_sum upper lower a, degree_sum (bit_xor upper lower) L a))

pub is_same : (u : ℕ) → is u u ≡ 1
is_same u = ap (λ (b : Bool). cond b 1 0) (eq-eqb u u refl)

pub is_other : (u a : ℕ) → (u ≡ a → ⊥) → is u a ≡ 0
is_other u a h = ap (λ (b : Bool). cond b 1 0) (ne_eqb u a h)

module _ (c : Compound) (sound : Sound c) where
  way_meets_first : {u v n S : ℕ} → Way c u v n S → (u ≡ v → ⊥) → 0 < degree c S u
  way_meets_first {u} {v} way h = omega (arith, way_parity c sound way u, is_same u, is_other v u (λ e. h (sym e)))

  way_meets_last : {u v n S : ℕ} → Way c u v n S → (u ≡ v → ⊥) → 0 < degree c S v
  way_meets_last {u} {v} way h = omega (arith, way_parity c sound way v, is_same v, is_other u v h)

  module _ (rank : ℕ → ℕ) where
    candidate_less : {f : Family} {d : ℕ} {link : List ℕ} → Candidate c rank f d link → f.p < f.q
    candidate_less (Candidate.odd less bond under_p under_q long) = less
    candidate_less (Candidate.even less bond_p bond_q under_x under_p under_q long) = less

    link_len : {f : Family} {d L : ℕ} {link : List ℕ} → Candidate c rank f d link → Edges c link L → len c L + 2 * d ≤ f.long
    link_len (Candidate.odd less bond under_p under_q long) edges = omega (arith, edges_length c edges)
    link_len (Candidate.even less bond_p bond_q under_x under_p under_q long) edges = omega (arith, edges_length c edges)

    -- No step leads to the first atom of a path.
    first_steps : {r t d a : ℕ} {P : List ℕ} → Down c rank r t d P → (k : Cut c rank r t a d P) → t ≡ a → k.i ≡ 0
    first_steps {r} down k e =
        omega (arith, k.steps, distance_unique c (subst (λ (x : ℕ). Distance c x r k.e) (sym e) k.far) (down_far c rank down))

    crossing_degree : {f : Family} {d : ℕ} {link P Q : List ℕ} {C a : ℕ} → Made c sound rank f d link P Q C → a ∈ P → a ∈ Q → (a ≡ f.r → ⊥)
        → len c C ≡ f.long → 4 ≤ degree c C a
    crossing_degree {f} {a} s in_p in_q other long =
        let p = cut c rank s.down_p in_p in
        let q = cut c rank s.down_q in_q in
        let same : p.e ≡ q.e = distance_unique c p.far q.far in
        let alike : p.i ≡ q.i = omega (arith, p.steps, q.steps) in
        let two : p.i ≡ 0 → ⊥ = λ z.
        omega (arith, candidate_less s.candidate, way_none c p.above z, way_none c q.above (sym alike ∙ z)) in
        let from_p = edges_unique c sound s.made.edges_p p.whole in
        let from_q = edges_unique c sound s.made.edges_q q.whole in
        let sum = s.made.sum ∙ ap₂ (λ (x y : ℕ). bit_xor (bit_xor x y) s.made.between) from_p from_q in
        omega (
          arith,
          degree_four c p.upper p.lower q.upper q.lower s.made.between a sum,
          way_meets_last p.above (λ e. two (first_steps s.down_p p e)),
          way_meets_first p.below other,
          way_meets_last q.above (λ e. two (alike ∙ first_steps s.down_q q e)),
          way_meets_first q.below other,
          way_len c p.above,
          way_len c p.below,
          way_len c q.above,
          way_len c q.below,
          link_len s.candidate s.made.edges_link,
          p.steps,
          q.steps,
        )

    -- The paths of a ring that is as long as its family says meet in r alone.
    pub ring_apart : {f : Family} {d : ℕ} {link P Q : List ℕ} {C : ℕ} → Made c sound rank f d link P Q C → Ring c C → len c C ≡ f.long
        → (a : ℕ) → a ∈ P → a ∈ Q → a ≡ f.r
    ring_apart {f} {P} {Q} s ring long =
        ⊎_elim (λ apart. apart) (λ w. absurd (crossed w.0 w.1 w.2 w.3)) (apart_or_crossing c sound rank s)
      where
        crossed : (a : ℕ) → a ∈ P → a ∈ Q → (a ≡ f.r → ⊥) → ⊥
        crossed a in_p in_q other =
            let many = crossing_degree s in_p in_q other long in
            ⊎_elim (λ e. omega (arith, e)) (λ e. omega (arith, e)) (ring.twice a)
