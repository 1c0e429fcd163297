-- The bonds of a path of atoms: parity of degrees, length, and closed paths of different atoms as rings.
use mathlib.Core.Path.{◌≡◌, refl, sym, ap, ap₂, ◌∙◌}
use mathlib.Core.Bool.{Bool, true, false, cond}
use mathlib.Core.List.{List, ◌∷◌}
use mathlib.Core.Logic.{◌↔◌, ⊎_elim}
use Prim.Native.Nat.{ℕ, suc, ◌+◌, ◌*◌, ◌%◌, ◌^◌, ◌<◌, ◌≤◌}
use native.Mathlib.Omega.{arith}
use lib.Pow.{pow_pos, pow-lt}
use lib.Bits.{bit_xor, xor_lt}
use lib.Dec.{eqb}
use lib.ListN.{length}
use Rattle.spans.specs.Elements.{◌∈◌, first, later, Once}
use Rattle.graphs.specs.Count.{xor, same, val}
use Rattle.graphs.specs.Graph.{Agree, star}
use Rattle.graphs.specs.Ring.{Cycle, cset}
use Rattle.graphs.specs.Walk.{Steps, end, go, edges, heads, visits, IsWalk, Distinct, last, len as steps}
use Rattle.graphs.specs.AtomList.{last_l}
use Rattle.graphs.proofs.AtomList.{atoms, atoms_len, last_l_atoms}
use Rattle.graphs.proofs.Basics.{not_true, or_l, or_r, or_cases, same_is, same_eq, clash}
use Rattle.graphs.proofs.Count.{cnt_ext, val_xor_mod, par_cnt, val_some}
use Rattle.graphs.proofs.Cycle.{cycle_size, cycle_deg, cycle_ring as cycle-ring-graph}
use Rattle.graphs.proofs.Decompose.{ring_ext}
use Rattle.graphs.proofs.Graph.{deg_ext, joins_ne}
use Rattle.graphs.proofs.Lists.{close_fresh}
use Rattle.graphs.proofs.Walk.{boundary, size_le}
use Rattle.cycles.proofs.Number.{holds, holds_zero}
use Rattle.cycles.specs.Compound.{Compound, m, Joins, Sound}
use Rattle.cycles.specs.Ring.{len, degree, Ring, Edges, point, more}
use Rattle.cycles.proofs.Carry.{holds_flip, graph_of, simple, joins_graph, degree_deg, len_cnt, graph_ring}

-- 1 if a is u, else 0.
abbrev pub is : ℕ → ℕ → ℕ
is u a = cond (eqb u a) 1 0

is_val : (u a : ℕ) → val (same u a) ≡ is u a
unfolding same
is_val u a = go (eqb u a)
  where
    go : (b : Bool) → val b ≡ cond b 1 0
    go true = refl
    go false = refl

-- ---- the atoms of a walk
-- An atom that a walk visits is on its path.
pub visits_in : (u : ℕ) (p : Steps) (a : ℕ) → visits u p a ≡ true → a ∈ (u ∷ atoms p)
visits_in u end a v = ⊎_elim (λ e. rw (same_eq u a e) first) (λ e. absurd (clash e refl)) (or_cases (same u a) false v)
visits_in u (go k w p) a v = ⊎_elim (λ e. rw (same_eq u a e) first) (λ e. later (visits_in w p a e)) (or_cases (same u a) (visits w p a) v)

-- An atom on the path of a walk is visited.
pub in_visits : (u : ℕ) (p : Steps) (a : ℕ) → a ∈ (u ∷ atoms p) → visits u p a ≡ true
in_visits u end a first = or_l (same u u) (heads end u) (same_is u u refl)
in_visits u end a (later i) = elim i [ ]
in_visits u (go k w p) a first = or_l (same u u) (heads (go k w p) u) (same_is u u refl)
in_visits u (go k w p) a (later i) = or_r (same u a) (visits w p a) (in_visits w p a i)

once_distinct : (u : ℕ) (p : Steps) → Once (u ∷ atoms p) → Distinct u p
once_distinct u end o = tt
once_distinct u (go k w p) (Once.more new o) = (not_true (visits w p u) (λ v. new (visits_in w p u v)), once_distinct w p o)

module _ (c : Compound) where
  pub edges_bonds : {w : List ℕ} {S : ℕ} → Edges c w S → S < 2 ^ m c
  edges_bonds point = pow_pos (m c)
  edges_bonds (more {k = k} {S = S} j e q) = rw q (xor_lt (m c) (2 ^ k) S (pow-lt (joins_graph c j).0) (edges_bonds e))

  -- A walk in the graph along the path u ∷ path, with the bonds S.
  pub record Walked (u : ℕ) (path : List ℕ) (S : ℕ) : Type 0 where
    pub by : Steps
    pub walk : IsWalk (graph_of c) u by
    pub atoms_are : atoms by ≡ path
    pub bonds_are : (j : ℕ) → holds S j ≡ edges by j

  -- The bonds of a path are those of a walk along it.
  pub edges_walk : {u S : ℕ} {path : List ℕ} → Edges c (u ∷ path) S → Walked u path S
  edges_walk point = record { by = end; walk = tt; atoms_are = refl; bonds_are = holds_zero }
  edges_walk (more {b = b} {k = k} {S = S} j e q) =
      let r = edges_walk e in
      let J = joins_graph c j in
      record {
        by = go k b r.by;
        walk = (J.0, J.1, r.walk);
        atoms_are = ap (λ (l : List ℕ). b ∷ l) r.atoms_are;
        bonds_are = λ i. ap (λ (x : ℕ). holds x i) q ∙ holds_flip k S i ∙ ap (xor (same k i)) (r.bonds_are i);
      }

  -- At most as many bonds as steps.
  pub edges_length : {u S : ℕ} {path : List ℕ} → Edges c (u ∷ path) S → len c S ≤ length path
  edges_length {u} {S} e =
      let r = edges_walk e in
      omega (
        arith,
        len_cnt c S,
        cnt_ext (holds S) (edges r.by) (m c) (λ k l. r.bonds_are k),
        size_le (graph_of c) u r.by r.walk,
        atoms_len r.by,
        ap length r.atoms_are,
      )

module _ (c : Compound) (sound : Sound c) where
  pub edges_unique : {w : List ℕ} {S T : ℕ} → Edges c w S → Edges c w T → S ≡ T
  edges_unique point point = refl
  edges_unique (more {a = a} {b = b} {k = k} j e q) (more {k = l} i f r) =
      q ∙ ap₂ (λ (x y : ℕ). bit_xor (2 ^ x) y) (sound.once k l a b j i) (edges_unique e f) ∙ sym r

  -- An odd number of the bonds meets an atom exactly if it is one end of the path and not the other.
  pub edges_parity : {u S : ℕ} {path : List ℕ} → Edges c (u ∷ path) S → (a : ℕ) → degree c S a % 2 ≡ (is u a + is (last_l u path) a) % 2
  edges_parity {u} {S} {path} e a =
      let r = edges_walk c e in
      let G = graph_of c in
      let p : Steps = r.by in
      let ends : last u p ≡ last_l u path = sym (last_l_atoms u p) ∙ ap (last_l u) r.atoms_are in
      ap (λ (x : ℕ). x % 2) (degree_deg c sound S a ∙ deg_ext G (holds S) (edges p) (λ k l. r.bonds_are k) a)
      ∙ sym (par_cnt (star G (edges p) a) (m c)) ∙ ap val (boundary G u p r.walk a) ∙ val_xor_mod (same u a) (same (last u p) a)
      ∙ ap₂ (λ (x y : ℕ). (x + y) % 2) (is_val u a) (is_val (last u p) a ∙ ap (λ (x : ℕ). is x a) ends)

  -- A ring from three or more different atoms, each bonded to the next and the last to the first.
  pub record RingOf (S : ℕ) (atoms : List ℕ) : Type 0 where
    pub ring : Ring c S
    pub long : len c S ≡ length atoms
    pub met : (a : ℕ) → (0 < degree c S a) ↔ (a ∈ atoms)

  pub cycle_ring : {u k S : ℕ} {path : List ℕ} → Edges c (u ∷ path) S → Joins c k (last_l u path) u → Once (u ∷ path) → 2 ≤ length path
      → RingOf (bit_xor (2 ^ k) S) (u ∷ path)
  cycle_ring {u} {k} {S} {path} e j o three =
      let r = edges_walk c e in
      let G = graph_of c in
      let Z = simple c sound in
      let J = joins_graph c j in
      let p : Steps = r.by in
      let T : ℕ = bit_xor (2 ^ k) S in
      let ends : last u p ≡ last_l u path = sym (last_l_atoms u p) ∙ ap (last_l u) r.atoms_are in
      let apart : Distinct u p = once_distinct u p (rw r.atoms_are o) in
      let long : steps p ≡ length path = sym (atoms_len p) ∙ ap length r.atoms_are in
      let C : Cycle G =
      record {
        k = k;
        u = last_l u path;
        w = u;
        p = p;
        k_in = J.0;
        joins = J.1;
        walk = r.walk;
        ends = ends;
        distinct = apart;
        fresh = close_fresh G Z k (last_l u path) u p J.0 J.1 r.walk ends apart (omega arith);
      } in
      let A : Agree G (cset G C) (holds T) = λ i l. sym (holds_flip k S i ∙ ap (xor (same k i)) (r.bonds_are i)) in
      let D : (a : ℕ) → degree c T a ≡ 2 * val (visits u p a) =
      λ a. degree_deg c sound T a ∙ sym (deg_ext G (cset G C) (holds T) A a) ∙ cycle_deg G C (joins_ne G Z k (last_l u path) u J.0 J.1) a in
      let seen : (a : ℕ) → 0 < degree c T a → visits u p a ≡ true = λ a h. val_some (visits u p a) (omega (arith, D a)) in
      let met : (a : ℕ) → visits u p a ≡ true → 0 < degree c T a = λ a v. omega (arith, D a, ap val v) in
      record {
        ring = graph_ring c sound (xor_lt (m c) (2 ^ k) S (pow-lt J.0) (edges_bonds c e)) (ring_ext G (cset G C) (holds T) A (cycle-ring-graph G Z C));
        long = len_cnt c T ∙ sym (cnt_ext (cset G C) (holds T) (m c) A) ∙ cycle_size G C ∙ ap suc long;
        met = λ a. (λ h. rw r.atoms_are at (visits_in u p a (seen a h)), λ i. met a (in_visits u p a (rw r.atoms_are i)));
      }
