-- A ring is a cycle that starts at any of its atoms.
use mathlib.Core.Path.{◌≡◌, refl, sym, ap, ◌∙◌}
use mathlib.Core.Bool.{Bool, true, false}
use mathlib.Core.Logic.{inl, ⊎_elim, ◌≢◌}
use Prim.Native.Nat.{ℕ, zero, suc, ◌*◌, ◌≤◌, ◌<◌}
use native.Mathlib.Omega.{arith}
use Rattle.graphs.specs.Count.{xor, same, val, flip}
use Rattle.graphs.specs.Graph.{Graph, BondSet, Joins, inc, Simple, star, deg, Agree}
use Rattle.graphs.specs.Walk.{Steps, end, go, last, len, atom, edges, visits, IsWalk, Distinct, Within}
use Rattle.graphs.specs.Ring.{Joined, Ring, Cycle, cset}
use Rattle.graphs.proofs.Basics.{both, clash, not_true, and_l, and_r, xor_left_comm, same_refl, same_is, same_ne}
use Rattle.graphs.proofs.Count.{val_some, cnt_mono, cnt_full, cnt_pos}
use Rattle.graphs.proofs.Graph.{joins_sym, joins_ne, joins_at, deg_ext}
use Rattle.graphs.proofs.Steps.{snoc, last_snoc, len_snoc, walk_snoc, edges_snoc, distinct_snoc, atom_snoc, atom_of}
use Rattle.graphs.proofs.Walk.{distinct_fresh}
use Rattle.graphs.proofs.Cycle.{cycle_deg, cycle_ring}
use Rattle.graphs.proofs.Extract.{Found, has_cycle}

-- A cycle from another of its atoms.

-- The bond set S as a cycle that starts at r.
pub record RingFrom (G : Graph) (S : BondSet) (r : ℕ) : Type 0 where
  pub cycle : Cycle G
  pub start : cycle.w ≡ r
  pub is : Agree G (cset G cycle) S

turn_fresh : (G : Graph) (k w j x : ℕ) (q : Steps) → IsWalk G w (go j x q) → Distinct w (go j x q)
    → edges (go j x q) k ≡ false → edges (snoc q k w) j ≡ false
turn_fresh G k w j x q h d f =
    let fj : edges q j ≡ false = distinct_fresh G j w x q h d in
    let ne : j ≢ k = λ p.
    let fk : edges q k ≡ false = rw p at fj in
    let a : edges (go j x q) k ≡ true = rw (same_is j k p, fk) in clash a f in
    edges_snoc q k w j ∙ rw (same_ne k j (λ p. ne (sym p)), fj)

rotate : (G : Graph) (r i k u w : ℕ) (p : Steps) → k < G.m → Joins G k u w → IsWalk G w p → last w p ≡ u → Distinct w p → edges p k ≡ false
    → i ≤ len p → atom w p i ≡ r → RingFrom G (flip k (edges p)) r
rotate G r zero k u w p l jn h e d f le at =
    record {
      cycle = record { k = k; u = u; w = w; p = p; k_in = l; joins = jn; walk = h; ends = e; distinct = d; fresh = f };
      start = at;
      is = λ b z. refl;
    }
rotate G r (suc i) k u w end l jn h e d f le at = absurd (omega arith)
rotate G r (suc i) k u w (go j x q) l jn h e d f le at =
    let R : RingFrom G (flip j (edges (snoc q k w))) r =
    rotate G r i j w x (snoc q k w) h.0 h.1 (walk_snoc G x q k w h.2 l (rw e jn)) (last_snoc x q k w)
    (distinct_snoc x q k w d.1 d.0) (turn_fresh G k w j x q h d f) (omega (arith, len_snoc q k w)) (atom_snoc x q k w i (omega arith) ∙ at) in
    record {
      cycle = R.cycle;
      start = R.start;
      is = λ b z. R.is b z ∙ ap (λ (y : Bool). xor (same j b) y) (edges_snoc q k w b) ∙ xor_left_comm (same j b) (same k b) (edges q b);
    }

cycle_from : (G : Graph) (C : Cycle G) (r : ℕ) → visits C.w C.p r ≡ true → RingFrom G (cset G C) r
cycle_from G C r v =
    let t = atom_of C.w C.p r v in
    rotate G r t.0 C.k C.u C.w C.p C.k_in C.joins C.walk C.ends C.distinct C.fresh t.1 t.2

-- A cycle within a ring is the whole ring.

module _ (G : Graph) (Z : Simple G) (S : BondSet) (R : Ring G S) (F : Found G S) where
  abbrev C : BondSet
  C = cset G F.cycle

  part_star : (a k : ℕ) → k < G.m → star G C a k ≡ true → star G S a k ≡ true
  part_star a k l e = rw (F.within k (and_l (C k) (inc G k a) e)) (and_r (C k) (inc G k a) e)

  -- At an atom of C the bonds of S are those of C
  at_atom : (a : ℕ) → 0 < deg G C a → Agree G (star G C a) (star G S a)
  at_atom a h =
      let Q : Ring G C = cycle_ring G Z F.cycle in
      let d₁ : 2 ≤ deg G C a = ⊎_elim (λ e. omega arith) (λ e. omega arith) (Q.two a) in
      let d₂ : deg G S a ≤ 2 = ⊎_elim (λ e. omega arith) (λ e. omega arith) (R.two a) in
      cnt_full (star G C a) (star G S a) G.m (part_star a) (omega arith)

  stays : (a : ℕ) (p : Steps) → IsWalk G a p → Within S p → 0 < deg G C a → 0 < deg G C (last a p)
  stays a end h s d = d
  stays a (go k b p) h s d =
      let ab = joins_ne G Z k a b h.0 h.1 in
      let x : star G C a k ≡ true = at_atom a d k h.0 ∙ rw s.0 (joins_at G k a b h.1 ab) in
      let y : inc G k b ≡ true = joins_at G k b a (joins_sym G k a b h.1) (λ e. ab (sym e)) in
      stays b p h.2 s.1 (cnt_pos (star G C b) k G.m h.0 (rw (and_l (C k) (inc G k a) x) y))

  pub ring_is_cycle : Agree G (cset G F.cycle) S
  ring_is_cycle k l =
      ⊎_elim
      (λ e. let O : Cycle G = F.cycle in
      let a : ℕ = G.src k in
      let i : inc G k a ≡ true = joins_at G k a (G.tgt k) (inl (refl, refl)) (Z.no_loop k l) in
      let Sk : star G S a k ≡ true = rw e i in
      let d₀ : deg G C O.w ≡ 2 * 1 = cycle_deg G O (joins_ne G Z O.k O.u O.w O.k_in O.joins) O.w ∙ rw (same_refl O.w) in
      let d₁ : deg G C O.w ≤ deg G S O.w = cnt_mono (star G C O.w) (star G S O.w) G.m (part_star O.w) in
      let J : Joined G S O.w a = R.joined O.w a (omega arith) (cnt_pos (star G S a) k G.m l Sk) in
      let d : 0 < deg G C a = rw J.ends at (stays O.w J.by J.walk J.within (omega arith)) in
      and_l (C k) (inc G k a) (at_atom a d k l ∙ Sk) ∙ sym e)
      (λ e. not_true (C k) (λ c. clash (F.within k c) e) ∙ sym e)
      (both (S k))

-- A ring is a cycle from any atom that it meets.
pub ring_from : (G : Graph) → Simple G → (S : BondSet) → Ring G S → (r : ℕ) → 0 < deg G S r → RingFrom G S r
ring_from G Z S R r h =
    let F : Found G S = has_cycle G Z S R.closed R.some in
    let O : Cycle G = F.cycle in
    let A : Agree G (cset G O) S = ring_is_cycle G Z S R F in
    let d : deg G (cset G O) r ≡ 2 * val (visits O.w O.p r) = cycle_deg G O (joins_ne G Z O.k O.u O.w O.k_in O.joins) r in
    let E : RingFrom G (cset G O) r = cycle_from G O r (val_some (visits O.w O.p r) (omega (arith, deg_ext G (cset G O) S A r))) in
    record { cycle = E.cycle; start = E.start; is = λ k l. E.is k l ∙ A k l }
