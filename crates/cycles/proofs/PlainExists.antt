-- The plain method has a choice for every compound, and the loops may stop at n bonds, or as soon as a basis is full.
use mathlib.Core.Path.{◌≡◌, ap, ◌∙◌, subst}
use mathlib.Core.List.{List, ◌∷◌}
use mathlib.Core.Logic.{inl, inr}
use Prim.Native.Nat.{ℕ, zero, suc, ◌<◌, ◌≤◌}
use native.Mathlib.Omega.{arith}
use native.Mathlib.Decide.{ℕ_discrete}
use lib.ListN.{length}
use Rattle.spans.specs.Elements.{◌∈◌}
use Rattle.spans.specs.Basis.{All}
use Rattle.spans.proofs.Lists.{all_map}
use Rattle.spans.proofs.Span.{Span, at, span_dec, to_part, from_part}
use Rattle.spans.proofs.Indep.{Indep}
use Rattle.spans.proofs.Steinitz.{fills, spanned}
use Rattle.spans.proofs.Marking.{marking_indep, marking_all}
use Rattle.bondset.proofs.Group.{bond_sets}
use Rattle.graphs.specs.Graph.{Graph, Simple, Joins}
use Rattle.graphs.specs.Ring.{cset}
use Rattle.graphs.specs.Walk.{Steps, end, go, IsWalk}
use Rattle.graphs.proofs.AtomList.{atoms, atoms_len}
use Rattle.graphs.proofs.Count.{cnt_ext}
use Rattle.graphs.proofs.Cycle.{cycle_size}
use Rattle.graphs.proofs.Extract.{has_cycle}
use Rattle.graphs.proofs.Rotate.{ring_is_cycle}
use Rattle.cycles.specs.Compound.{Compound, m, Sound}
use Rattle.cycles.specs.Ring.{len, Closed, Ring}
use Rattle.cycles.specs.Basis.{Basis}
use Rattle.cycles.specs.Plain.{PlainSum, PlainRing, Plain}
use Rattle.cycles.proofs.Number.{holds}
use Rattle.cycles.proofs.Carry.{graph_of, simple, len_cnt, ring_graph}
use Rattle.cycles.proofs.Arcs.{distinct_once}
use Rattle.cycles.proofs.PathsDown.{in_one}
use Rattle.cycles.proofs.MembersLists.{once_length_le}
use Rattle.cycles.proofs.Ranks.{all_each}
use Rattle.cycles.proofs.PlainBasis.{all_sets, greedy_marking}
use Rattle.cycles.proofs.PlainRings.{plain_ring_unique}
use Rattle.cycles.proofs.PlainDecide.{in_numbers, length_numbers, plain_ring_dec}
use Rattle.cycles.proofs.PlainLoops.{Tried, Gone, gone_start, gone_try, gone_atom, gone_length, gone_plain}

-- ---- a ring has at most as many bonds as there are atoms
joins_in : (G : Graph) → Simple G → (k u w : ℕ) → k < G.m → Joins G k u w → w < G.n
joins_in G Z k u w h (inl (e, f)) = subst (λ (x : ℕ). x < G.n) f (Z.tgt_in k h)
joins_in G Z k u w h (inr (e, f)) = subst (λ (x : ℕ). x < G.n) e (Z.src_in k h)

walk_in : (G : Graph) → Simple G → (u : ℕ) (p : Steps) → IsWalk G u p → u < G.n → (a : ℕ) → a ∈ (u ∷ atoms p) → a < G.n
walk_in G Z u end h l a i = subst (λ (x : ℕ). x < G.n) (in_one i) l
walk_in G Z u (go k w p) h l a ◌∈◌.first = l
walk_in G Z u (go k w p) h l a (◌∈◌.later i) = walk_in G Z w p h.2 (joins_in G Z k u w h.0 h.1) a i

module _ (c : Compound) (sound : Sound c) where
  -- A ring has at most n bonds.
  pub ring_few : {S : ℕ} → Ring c S → len c S ≤ c.n
  ring_few {S} ring =
      let G = graph_of c in
      let Z = simple c sound in
      let R = ring_graph c sound ring in
      let F = has_cycle G Z (holds S) R.closed R.some in
      let O = F.cycle in
      let inside = walk_in G Z O.w O.p O.walk (joins_in G Z O.k O.u O.w O.k_in O.joins) in
      let few = once_length_le (distinct_once O.w O.p O.distinct) (λ a i. in_numbers c.n a (inside a i)) in
      omega (
        arith,
        len_cnt c S,
        cnt_ext (cset G O) (holds S) (m c) (ring_is_cycle G Z (holds S) R F),
        cycle_size G O,
        atoms_len O.p,
        few,
        length_numbers c.n,
      )

  -- ---- there is a choice
  try_ring : {k v j S : ℕ} {before : List ℕ} → PlainRing c v j S → len c S ≡ k → Dec (Span bond_sets before S) → (after : List ℕ) × Tried c k v j before after
  try_ring r l (yes s) = (_, Tried.pass r l (to_part bond_sets s))
  try_ring r l (no n) = (_, Tried.choose r l (λ p. n (at bond_sets p.2 (from_part bond_sets p.1))))

  try_found : {k v j : ℕ} (before : List ℕ) → Dec ((S : ℕ) × PlainRing c v j S) → (after : List ℕ) × Tried c k v j before after
  try_found before (no n) = (_, Tried.none (λ S r l. n (S, r)))
  try_found {k} {v} {j} before (yes (S, r)) = long (ℕ_discrete (len c S) k)
    where
      long : Dec (len c S ≡ k) → (after : List ℕ) × Tried c k v j before after
      long (yes l) = try_ring r l (span_dec bond_sets before S)
      long (no n) = (_, Tried.none (λ T t l. n (ap (len c) (plain_ring_unique c sound r t) ∙ l)))

  -- Each turn can be taken.
  pub tried_exists : (k v j : ℕ) (before : List ℕ) → (after : List ℕ) × Tried c k v j before after
  tried_exists k v j before = try_found before (plain_ring_dec c sound v j)

  bonds_gone : {k v : ℕ} (j : ℕ) {before : List ℕ} → Gone c k v 0 before → (after : List ℕ) × Gone c k v j after
  bonds_gone zero w = (_, w)
  bonds_gone {k} {v} (suc j) w =
      let (mid, g) = bonds_gone j w in
      let (after, t) = tried_exists k v j mid in
      (after, gone_try c sound g t)

  atoms_gone : {k : ℕ} (v : ℕ) {before : List ℕ} → Gone c k 0 0 before → (after : List ℕ) × Gone c k v 0 after
  atoms_gone zero w = (_, w)
  atoms_gone (suc v) w =
      let (mid, g) = atoms_gone v w in
      let (after, h) = bonds_gone (m c) g in
      (after, gone_atom c h)

  lengths_gone : (i : ℕ) → (k : ℕ) × (i < k) × (chosen : List ℕ) × Gone c k 0 0 chosen
  lengths_gone zero = (3, omega arith, _, gone_start c sound)
  lengths_gone (suc i) =
      let (k, h, mid, g) = lengths_gone i in
      let (after, w) = atoms_gone c.n g in
      (suc k, omega arith, after, gone_length c sound w)

  -- After the lengths 3 to n the choice is that of the method.
  pub gone_all : {k : ℕ} {chosen : List ℕ} → Gone c k 0 0 chosen → c.n < k → Plain c chosen
  gone_all w h = gone_plain c sound w (λ v j S r. let l = ring_few r.ring in omega arith)

  -- The plain method has a choice for every simple compound.
  pub plain_exists : (chosen : List ℕ) × Plain c chosen
  plain_exists = let (k, h, chosen, w) = lengths_gone c.n in (chosen, gone_all w h)

  -- ---- once the chosen rings give every closed set, no turn changes anything
  module _ {chosen : List ℕ} (full : (S : ℕ) → Closed c S → PlainSum chosen S) where
    -- No turn chooses anything more.
    pub full_tried : (k v j : ℕ) → Tried c k v j chosen chosen
    full_tried k v j = found (plain_ring_dec c sound v j)
      where
        found : Dec ((S : ℕ) × PlainRing c v j S) → Tried c k v j chosen chosen
        found (no n) = Tried.none (λ S r l. n (S, r))
        found (yes (S, r)) = long (ℕ_discrete (len c S) k)
          where
            long : Dec (len c S ≡ k) → Tried c k v j chosen chosen
            long (yes l) = Tried.pass r l (full S r.ring.closed)
            long (no n) = Tried.none (λ T t l. n (ap (len c) (plain_ring_unique c sound r t) ∙ l))

    full_bonds : {k v : ℕ} (j : ℕ) → Gone c k v 0 chosen → Gone c k v j chosen
    full_bonds zero w = w
    full_bonds {k} {v} (suc j) w = gone_try c sound (full_bonds j w) (full_tried k v j)

    full_atoms : {k : ℕ} (v : ℕ) → Gone c k 0 0 chosen → Gone c k v 0 chosen
    full_atoms zero w = w
    full_atoms (suc v) w = gone_atom c (full_bonds (m c) (full_atoms v w))

    full_lengths : {k : ℕ} (i : ℕ) → Gone c k 0 0 chosen → (l : ℕ) × (i < l) × Gone c l 0 0 chosen
    full_lengths {k} zero w = (suc k, omega arith, gone_length c sound (full_atoms c.n w))
    full_lengths (suc i) w = let (l, h, g) = full_lengths i w in (suc l, omega arith, gone_length c sound (full_atoms c.n g))

  module _ {k : ℕ} {chosen : List ℕ} (w : Gone c k 0 0 chosen) where
    gone_indep : Indep bond_sets chosen
    gone_indep = marking_indep bond_sets (greedy_marking w.greedy) Indep.none

    gone_closed : All (Closed c) chosen
    gone_closed =
        marking_all bond_sets {P = Closed c} (greedy_marking w.greedy) All.nil
        (all_sets {P = Closed c} (all_each w.list (λ e i. (w.good e i).0.0.ring.closed)))

    -- Once as many rings are chosen as a basis has, after any length, the choice is that of the method.
    pub gone_full : {B : List ℕ} → Basis c B → length chosen ≡ length B → Plain c chosen
    gone_full {B} b e =
        let full : (S : ℕ) → Closed c S → PlainSum chosen S =
        λ S h. to_part bond_sets (fills bond_sets gone_indep (all_map (λ C t. spanned bond_sets b.spans C t) gone_closed) e (spanned bond_sets b.spans S h)) in
        let (l, h, g) = full_lengths full c.n w in
        gone_all g h
