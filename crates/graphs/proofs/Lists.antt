-- Rings as lists of atoms: a closed list of different atoms is a ring, and the atoms of a cycle are such a list.
use mathlib.Core.Path.{◌≡◌, sym, ap, ap₂, ◌∙◌}
use mathlib.Core.Bool.{Bool, true, false}
use mathlib.Core.Logic.{⊎_elim}
use mathlib.Core.List.{List, ◌∷◌}
use Prim.Native.Nat.{ℕ, suc, ◌≤◌, ◌<◌}
use native.Mathlib.Omega.{arith}
use lib.ListN.{length}
use Rattle.graphs.specs.Count.{xor, same, cnt, flip}
use Rattle.graphs.specs.Graph.{Graph, Joins, Simple, Agree}
use Rattle.graphs.specs.Walk.{Steps, end, go, last, len, edges, heads, IsWalk, Distinct}
use Rattle.graphs.specs.Ring.{Ring, Cycle, cset}
use Rattle.graphs.specs.AtomList.{Bonded, Chain, last_l, Nodup, CycleList, cycle_set}
use Rattle.graphs.proofs.Basics.{both, clash, not_true, or_r, same_refl, same_eq, same_is}
use Rattle.graphs.proofs.Count.{cnt_ext}
use Rattle.graphs.proofs.Graph.{joins_sym, joins_ne, joins_at, joins_other}
use Rattle.graphs.proofs.Walk.{edge_visits}
use Rattle.graphs.proofs.Cycle.{cycle_size, cycle_ring}
use Rattle.graphs.proofs.Decompose.{ring_ext}
use Rattle.graphs.proofs.AtomList.{steps, steps_walk, steps_last, steps_len, steps_distinct, atoms, atoms_chain, atoms_len, last_l_atoms}
use Rattle.graphs.proofs.AtomList.{nodup_atoms, bond_of_is, edges_l_is}

-- From a list of atoms to a ring.

last_head : (x k w : ℕ) (p : Steps) → heads (go k w p) (last x (go k w p)) ≡ true
last_head x k w end = rw same_refl
last_head x k w (go j y p) = or_r (same w (last y p)) (heads (go j y p) (last y p)) (last_head w j y p)

-- The closing bond is new where there are three atoms or more.
pub close_fresh : (G : Graph) → Simple G → (k u w : ℕ) (p : Steps) → k < G.m → Joins G k u w → IsWalk G w p → last w p ≡ u → Distinct w p → 2 ≤ len p
    → edges p k ≡ false
close_fresh G Z k u w end l jn h e d le = absurd (omega arith)
close_fresh G Z k u w (go j x end) l jn h e d le = absurd (omega arith)
close_fresh G Z k u w (go j x (go i y p)) l jn h e d le =
    ⊎_elim
    (λ s. let J : Joins G k w x = rw (same_eq j k s) at h.1 in
    let xu : x ≡ u = joins_other G k w x u J (joins_sym G k u w jn) in
    let a : heads (go i y p) u ≡ true = rw e at (last_head x i y p) in
    absurd (clash a (rw xu at d.1.0)))
    (λ s. rw s
    (not_true (edges (go i y p) k)
    (λ a. clash (edge_visits G x (go i y p) h.2 k w a (joins_at G k w u (joins_sym G k u w jn) (λ q. joins_ne G Z k u w l jn (sym q)))) d.0)))
    (both (same j k))

abbrev cycle_of : (G : Graph) → Simple G → (w : ℕ) (l : List ℕ) → 2 ≤ length l → (c : Chain G w l) → Nodup (w ∷ l) → Bonded G (last_l w l) w → Cycle G
cycle_of G Z w l le c d b =
    let p : Steps = steps G w l c in
    record {
      k = b.0;
      u = last_l w l;
      w = w;
      p = p;
      k_in = b.1;
      joins = b.2;
      walk = steps_walk G w l c;
      ends = steps_last G w l c;
      distinct = steps_distinct G w l c d;
      fresh =
          close_fresh G Z b.0 (last_l w l) w p b.1 b.2 (steps_walk G w l c) (steps_last G w l c) (steps_distinct G w l c d) (omega (arith, steps_len G w l c));
    }

cycle_set_is : (G : Graph) → Simple G → (w : ℕ) (l : List ℕ) (c : Chain G w l) (b : Bonded G (last_l w l) w) (j : ℕ)
    → flip b.0 (edges (steps G w l c)) j ≡ cycle_set G w l j
cycle_set_is G Z w l c b j =
    ap₂ (λ (x : ℕ) (y : Bool). xor (same x j) y) (sym (bond_of_is G Z b.0 (last_l w l) w b.1 b.2)) (sym (edges_l_is G Z w l c j))

pub list_ring : (G : Graph) → Simple G → (w : ℕ) (l : List ℕ) → CycleList G w l → Ring G (cycle_set G w l) × (cnt (cycle_set G w l) G.m ≡ length (w ∷ l))
list_ring G Z w l h =
    let C : Cycle G = cycle_of G Z w l (omega (arith, h.three)) h.chain h.nodup h.close in
    let A : Agree G (cset G C) (cycle_set G w l) = λ k i. cycle_set_is G Z w l h.chain h.close k in (
      ring_ext G (cset G C) (cycle_set G w l) A (cycle_ring G Z C),
      sym (cnt_ext (cset G C) (cycle_set G w l) G.m A) ∙ cycle_size G C ∙ ap suc (steps_len G w l h.chain),
    )

-- From a ring to a list of its atoms.

atoms_ends : {G : Graph} (C : Cycle G) → last_l C.w (atoms C.p) ≡ C.u
atoms_ends C = last_l_atoms C.w C.p ∙ C.ends

cycle_three : (G : Graph) → Simple G → (C : Cycle G) → 2 ≤ len C.p
cycle_three G Z C = three C.p C.walk C.ends C.fresh
  where
    three : (p : Steps) → IsWalk G C.w p → last C.w p ≡ C.u → edges p C.k ≡ false → 2 ≤ len p
    three end h e f = absurd (joins_ne G Z C.k C.u C.w C.k_in C.joins (sym e))
    three (go j x end) h e f =
        let J : Joins G j C.w C.u = rw e at h.1 in
        let q : j ≡ C.k = Z.once j C.k C.w C.u h.0 C.k_in J (joins_sym G C.k C.u C.w C.joins) in
        let a : edges (go j x end) C.k ≡ true = rw (same_is j C.k q) in
        absurd (clash a f)
    three (go j x (go i y p)) h e f = omega arith

pub atoms_cycle : (G : Graph) → Simple G → (C : Cycle G) → CycleList G C.w (atoms C.p)
atoms_cycle G Z C =
    record {
      three = omega (arith, atoms_len C.p, cycle_three G Z C);
      chain = atoms_chain G C.w C.p C.walk;
      nodup = nodup_atoms C.w C.p C.distinct;
      close = (C.k, C.k_in, rw (atoms_ends C) C.joins);
    }
