-- A relevant ring from one of its atoms: its atoms in order, and how far they are.
use mathlib.Core.Path.{◌≡◌, refl, sym, ap, ◌∙◌}
use mathlib.Core.List.{List, [], ◌∷◌}
use Prim.Native.Nat.{ℕ, suc, ◌-◌, ◌^◌, ◌<◌, ◌≤◌, min}
use native.Mathlib.Omega.{arith}
use lib.Bits.{bit_xor, xor_lt}
use lib.ListN.{length, get_or}
use lib.Pow.{pow-lt}
use Rattle.spans.specs.Elements.{◌∈◌, Once}
use Rattle.graphs.specs.Count.{xor, same}
use Rattle.graphs.specs.Distance.{Dist}
use Rattle.graphs.specs.Ring.{Cycle, cset, Relevant as RelevantIn}
use Rattle.graphs.specs.Walk.{Steps, end, go, edges, IsWalk, Distinct, last, len as steps}
use Rattle.graphs.specs.AtomList.{last_l}
use Rattle.graphs.proofs.Arcs.{RelevantFrom, relevant_from}
use Rattle.graphs.proofs.AtomList.{atoms, atoms_len, get_or_atoms, last_l_atoms}
use Rattle.graphs.proofs.Basics.{clash}
use Rattle.graphs.proofs.Count.{cnt_ext}
use Rattle.graphs.proofs.Cycle.{cycle_size}
use Rattle.graphs.proofs.Lists.{atoms_cycle}
use Rattle.graphs.proofs.Steps.{rev_s, walk_rev, last_rev, len_rev}
use Rattle.cycles.proofs.Number.{holds, holds_zero, holds_ext}
use Rattle.cycles.specs.Compound.{Compound, m, Joins, Sound, Walk, here, step, Distance}
use Rattle.cycles.specs.Ring.{len, degree, Relevant, Edges, point, more}
use Rattle.cycles.proofs.Carry.{holds_flip, graph_of, simple, joins_graph, graph_joins, degree_deg, len_cnt, ring_graph}
use Rattle.cycles.proofs.Shorter.{relevant_not_shorter, graph_shorter}
use Rattle.cycles.proofs.Edges.{in_visits, edges_bonds}

-- The atoms of a walk that meets none twice.
pub distinct_once : (u : ℕ) (p : Steps) → Distinct u p → Once (u ∷ atoms p)
distinct_once u end d = let none : u ∈ [] → ⊥ = elim [ ] in Once.more none Once.none
distinct_once u (go k w p) d = Once.more (λ i. clash (in_visits w p u i) d.0) (distinct_once w p d.1)

module _ (c : Compound) where
  -- ---- walks and distances
  steps_walk : (a : ℕ) (p : Steps) → IsWalk (graph_of c) a p → Walk c (last a p) a (steps p)
  steps_walk a end h = here
  steps_walk a (go k v p) h = step (k, graph_joins c h.0 h.1) (steps_walk v p h.2)

  record Stepped (b a n : ℕ) : Type 0 where
    pub by : Steps
    pub walk : IsWalk (graph_of c) a by
    pub ends : last a by ≡ b
    pub long : steps by ≡ n

  walk_steps : {b a n : ℕ} → Walk c b a n → Stepped b a n
  walk_steps here = record { by = end; walk = tt; ends = refl; long = refl }
  walk_steps (step {next = v} (k, j) w) =
      let r = walk_steps w in
      let J = joins_graph c j in
      record { by = go k v r.by; walk = (J.0, J.1, r.walk); ends = r.ends; long = ap suc r.long }

  -- Distances in the graph are distances.
  pub graph_distance : {r t d : ℕ} → Dist (graph_of c) r t d → Distance c t r d
  graph_distance {r} {t} {d} D =
      let G = graph_of c in
      let back : Steps = rev_s r D.by end in
      let ends : last t back ≡ r = rw D.ends at (last_rev r D.by end) in
      let long : steps back ≡ d = omega (arith, len_rev r D.by end, D.steps) in
      record {
        walk = rw (ends, long) at (steps_walk t back (rw D.ends at (walk_rev G r D.by end D.walk tt)));
        least = λ n w.
            let s = walk_steps w in
            let far = D.least (rev_s t s.by end) (rw s.ends at (walk_rev G t s.by end s.walk tt)) (rw s.ends at (last_rev t s.by end)) in
            omega (arith, len_rev t s.by end, s.long);
      }

  -- The bonds of a walk along its path.
  record Bonds (u : ℕ) (p : Steps) : Type 0 where
    pub set : ℕ
    pub edges_are : Edges c (u ∷ atoms p) set
    pub bonds_are : (j : ℕ) → holds set j ≡ edges p j

  walk_edges : (u : ℕ) (p : Steps) → IsWalk (graph_of c) u p → Bonds u p
  walk_edges u end h = record { set = 0; edges_are = point; bonds_are = holds_zero }
  walk_edges u (go k w p) h =
      let r = walk_edges w p h.2 in
      record {
        set = bit_xor (2 ^ k) r.set;
        edges_are = more (graph_joins c h.0 h.1) r.edges_are refl;
        bonds_are = λ i. holds_flip k r.set i ∙ ap (xor (same k i)) (r.bonds_are i);
      }

module _ (c : Compound) (sound : Sound c) where
  -- A relevant ring is relevant in the graph.
  pub relevant_graph : {S : ℕ} → Relevant c S → RelevantIn (graph_of c) (holds S)
  relevant_graph {S} r =
      record { ring = ring_graph c sound r.ring; alone = λ s. relevant_not_shorter c r (rw (len_cnt c S) (graph_shorter c sound r.ring.closed.bonds s)) }

  -- The atoms r ∷ path of the ring C in order, the bond that closes it, and the distance of each from r.
  pub record Around (C r : ℕ) : Type 0 where
    pub path : List ℕ
    pub along : ℕ
    pub closing : ℕ
    pub edges : Edges c (r ∷ path) along
    pub closes : Joins c closing (last_l r path) r
    pub sum : C ≡ bit_xor (2 ^ closing) along
    pub once : Once (r ∷ path)
    pub long : len c C ≡ suc (length path)
    pub three : 2 ≤ length path
    pub far : (i : ℕ) → i ≤ length path → Distance c (get_or (r ∷ path) i 0) r (min i (len c C - i))

  around_cycle : {C r : ℕ} → Relevant c C → (F : RelevantFrom (graph_of c) (holds C) r) → Around C F.ring.cycle.w
  around_cycle {C} {r} rel F =
      let G = graph_of c in
      let O : Cycle G = F.ring.cycle in
      let w : ℕ = O.w in
      let p : Steps = O.p in
      let B = walk_edges c w p O.walk in
      let ends : last_l w (atoms p) ≡ O.u = last_l_atoms w p ∙ O.ends in
      let long : len c C ≡ suc (steps p) = len_cnt c C ∙ sym (cnt_ext (cset G O) (holds C) (m c) F.ring.is) ∙ cycle_size G O in
      record {
        path = atoms p;
        along = B.set;
        closing = O.k;
        edges = B.edges_are;
        closes = graph_joins c O.k_in (rw ends O.joins);
        sum = holds_ext (m c) C (bit_xor (2 ^ O.k) B.set) rel.ring.closed.bonds
            (xor_lt (m c) (2 ^ O.k) B.set (pow-lt O.k_in) (edges_bonds c B.edges_are))
            (λ k l. sym (F.ring.is k l) ∙ sym (holds_flip O.k B.set k ∙ ap (xor (same O.k k)) (B.bonds_are k)));
        once = distinct_once w p O.distinct;
        long = long ∙ ap suc (sym (atoms_len p));
        three = omega (arith, (atoms_cycle G (simple c sound) O).three);
        far = λ i l.
            let h : i ≤ steps p = omega (arith, atoms_len p) in
            rw (F.ring.start, get_or_atoms r p i h, long) (graph_distance c (F.far i h));
      }

  -- A relevant ring, told from any atom that it meets.
  pub around : {C r : ℕ} → Relevant c C → 0 < degree c C r → Around C r
  around {C} {r} rel h =
      let F = relevant_from (graph_of c) (simple c sound) (holds C) (relevant_graph rel) r (omega (arith, degree_deg c sound C r)) in
      rw F.ring.start at (around_cycle rel F)
