-- Along a relevant ring the distances are those of the graph.
use mathlib.Core.Path.{◌≡◌, sym, ap, ◌∙◌}
use mathlib.Core.Bool.{Bool, false}
use mathlib.Core.Logic.{⊎_elim}
use Prim.Native.Nat.{ℕ, suc, ◌+◌, ◌-◌, ◌≤◌, ◌<◌, min}
use native.Mathlib.Omega.{arith}
use Rattle.graphs.specs.Count.{xor, same, cnt}
use Rattle.graphs.specs.Graph.{Graph, BondSet, Simple, sum, Agree}
use Rattle.graphs.specs.Walk.{Steps, end, go, last, len, atom, edges, IsWalk}
use Rattle.graphs.specs.Ring.{SumOf, Shorter, Relevant, Cycle, cset}
use Rattle.graphs.specs.Distance.{Dist}
use Rattle.graphs.proofs.Basics.{xor_false, xor_chain, xor_turn, lt_or_ge}
use Rattle.graphs.proofs.Count.{cnt_ext}
use Rattle.graphs.proofs.Steps.{app, last_app, len_app, walk_app, edges_app, take_s, drop_s, split, last_take, len_take, len_drop, walk_take, walk_drop}
use Rattle.graphs.proofs.Steps.{last_drop, rev_s, walk_rev, last_rev, len_rev, edges_rev}
use Rattle.graphs.proofs.Cycle.{cycle_size}
use Rattle.graphs.proofs.Decompose.{join_sums, walks_sum}

module _ (G : Graph) (C : Cycle G) (i : ℕ) where
  abbrev w : ℕ
  w = C.w

  abbrev t : ℕ
  t = atom w C.p i

  abbrev rest : Steps
  rest = app (drop_s i C.p) (go C.k w end)

  rest_last : last t rest ≡ w
  rest_last = last_app t (drop_s i C.p) (go C.k w end)

  -- The other arc: from the start of a cycle to its i-th atom the other way round.
  abbrev arc : Steps
  arc = rev_s t rest end

  arc_walk : IsWalk G w arc
  arc_walk =
      let e : last t (drop_s i C.p) ≡ C.u = last_drop w i C.p ∙ C.ends in
      let h : IsWalk G t rest = walk_app G t (drop_s i C.p) (go C.k w end) (walk_drop G w i C.p C.walk) (C.k_in, rw e C.joins, tt) in
      rw rest_last at (walk_rev G t rest end h tt)

  arc_last : last w arc ≡ t
  arc_last = rw rest_last at (last_rev t rest end)

  arc_len : i ≤ len C.p → len arc + i ≡ suc (len C.p)
  arc_len le = omega (arith, len_rev t rest end, len_app (drop_s i C.p) (go C.k w end), len_drop i C.p le)

  -- The two arcs are the cycle.
  arc_edges : (k : ℕ) → cset G C k ≡ xor (edges (take_s i C.p) k) (edges arc k)
  arc_edges k =
      let A : Steps = take_s i C.p in
      let D : Steps = drop_s i C.p in
      let a : edges C.p k ≡ xor (edges A k) (edges D k) = ap (λ (x : Steps). edges x k) (sym (split i C.p)) ∙ edges_app A D k in
      let b : edges arc k ≡ xor (edges D k) (xor (same C.k k) false) =
      edges_rev t rest end k ∙ xor_false (edges rest k) ∙ edges_app D (go C.k w end) k in
      ap (λ (x : Bool). xor (same C.k k) x) a ∙ xor_turn (same C.k k) (edges A k) (edges D k) ∙ ap (λ (x : Bool). xor (edges A k) x) (sym b)

-- A short cut across a cycle, from its start to its i-th atom: the cycle is a sum of shorter rings.
pub short_cut : (G : Graph) → Simple G → (C : Cycle G) (i : ℕ) → i ≤ len C.p → (q : Steps) → IsWalk G C.w q → last C.w q ≡ atom C.w C.p i
    → len q < i → i + len q < suc (len C.p) → SumOf G (Shorter G (cnt (cset G C) G.m)) (cset G C)
short_cut G Z C i le q h e s₁ s₂ =
    let s : ℕ = cnt (cset G C) G.m in
    let A : Steps = take_s i C.p in
    let B : Steps = arc G C i in
    let l_a : len A + len q < s = omega (arith, cycle_size G C, len_take i C.p le) in
    let l_b : len q + len B < s = omega (arith, cycle_size G C, arc_len G C i le) in
    join_sums G (Shorter G s) (cset G C) (sum (edges A) (edges q)) (sum (edges q) (edges B))
    (walks_sum G Z s C.w A q (walk_take G C.w i C.p C.walk) h (last_take C.w i C.p ∙ sym e) l_a)
    (walks_sum G Z s C.w q B h (arc_walk G C i) (e ∙ sym (arc_last G C i)) l_b)
    (λ k l. arc_edges G C i k ∙ sym (xor_chain (edges A k) (edges q k) (edges B k)))

shorter_ext : (G : Graph) (S T : BondSet) → Agree G S T → SumOf G (Shorter G (cnt S G.m)) S → SumOf G (Shorter G (cnt T G.m)) T
shorter_ext G S T h s =
    let e : cnt S G.m ≡ cnt T G.m = cnt_ext S T G.m h in
    record { rings = s.rings; all = rw e at s.all; is = λ k l. sym (h k l) ∙ s.is k l }

-- The distances along a relevant ring are distances in the graph.
pub relevant_dist : (G : Graph) → Simple G → (S : BondSet) → Relevant G S → (C : Cycle G) → Agree G (cset G C) S
    → (i : ℕ) → i ≤ len C.p → Dist G C.w (atom C.w C.p i) (min i (suc (len C.p) - i))
relevant_dist G Z S rel C A i le =
    ⊎_elim
    (λ l. record { by = arc G C i; walk = arc_walk G C i; ends = arc_last G C i; steps = omega (arith, arc_len G C i le); least = least })
    (λ l. record { by = take_s i p; walk = walk_take G C.w i p C.walk; ends = last_take C.w i p; steps = omega (arith, len_take i p le); least = least })
    (lt_or_ge (suc (len p) - i) i)
  where
    p : Steps
    p = C.p

    least : (q : Steps) → IsWalk G C.w q → last C.w q ≡ atom C.w p i → min i (suc (len p) - i) ≤ len q
    least q h e =
        ⊎_elim (λ l. absurd (rel.alone (shorter_ext G (cset G C) S A (short_cut G Z C i le q h e (omega arith) (omega arith))))) (λ l. l)
        (lt_or_ge (len q) (min i (suc (len p) - i)))
