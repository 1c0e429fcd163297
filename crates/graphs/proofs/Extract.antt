-- A closed set that is not empty holds a cycle.
use mathlib.Core.Path.{◌≡◌, refl, sym, ap, ◌∙◌, subst}
use mathlib.Core.Bool.{true, false, not}
use mathlib.Core.Logic.{inl, ⊎_elim, ◌≢◌}
use Prim.Native.Nat.{ℕ, zero, suc, ◌+◌, ◌<◌}
use native.Mathlib.Omega.{arith}
use Rattle.graphs.specs.Count.{xor, same, cnt, par, flip}
use Rattle.graphs.specs.Graph.{Graph, BondSet, Joins, inc, Simple, star, Closed, PartOf}
use Rattle.graphs.specs.Walk.{Steps, end, go, last, len, edges, visits, IsWalk, Distinct, Within}
use Rattle.graphs.specs.Ring.{Cycle, cset}
use Rattle.graphs.proofs.Basics.{both, clash, not_true, and_l, and_r, or_l, or_r, or_cases, xor_true_off, same_refl, same_eq, same_ne}
use Rattle.graphs.proofs.Count.{cnt_some, cnt_none, cnt_le, par_at, par_some, flip_off, flip_at, cnt_or_new}
use Rattle.graphs.proofs.Graph.{joins_sym, joins_ne, joins_at, joins_in, other_end}
use Rattle.graphs.proofs.Walk.{edge_visits, step_ne, within_part}

-- A path of distinct atoms has at most n of them.

visits_cnt : (G : Graph) → Simple G → (u : ℕ) (p : Steps) → u < G.n → IsWalk G u p → Distinct u p → cnt (visits u p) G.n ≡ suc (len p)
visits_cnt G Z u end l h d = cnt_or_new (λ j. false) u G.n l refl ∙ ap suc (cnt_none (λ j. false) G.n (λ k l. refl))
visits_cnt G Z u (go k w p) l h d =
    cnt_or_new (visits w p) u G.n l d.0 ∙ ap suc (visits_cnt G Z w p (joins_in G Z k u w h.0 h.1) h.2 d.1)

-- In a closed set a bond goes on at its end.

another : (G : Graph) (S : BondSet) → Closed G S → (k v : ℕ) → k < G.m → S k ≡ true → inc G k v ≡ true
    → (j : ℕ) × (j < G.m) × (S j ≡ true) × (inc G j v ≡ true) × (j ≢ k)
another G S c k v l s i =
    let g : BondSet = star G S v in
    let gk : g k ≡ true = rw (s, i) in
    let r = par_at (flip k g) g k G.m l (flip_off k g) in
    let r₁ : xor (par (flip k g) G.m) true ≡ false = rw (gk, c v, same_refl k) at r in
    let o : par (flip k g) G.m ≡ true = xor_true_off (par (flip k g) G.m) r₁ in
    let t : (j : ℕ) × (j < G.m) × (flip k g j ≡ true) = par_some (flip k g) G.m o in
    let ne : t.0 ≢ k = λ e. clash (subst (λ (x : ℕ). flip k g x ≡ true) e t.2) (flip_at k g ∙ ap not gk) in
    let gj : g t.0 ≡ true = sym (flip_off k g t.0 ne) ∙ t.2 in
    (t.0, t.1, and_l (S t.0) (inc G t.0 v) gj, and_r (S t.0) (inc G t.0 v) gj, ne)

-- The part of a path up to an atom on it.

-- A part of the path p, from u to x.
record Cut (G : Graph) (S : BondSet) (u : ℕ) (p : Steps) (x : ℕ) : Type 0 where
  pub by : Steps
  pub walk : IsWalk G u by
  pub ends : last u by ≡ x
  pub distinct : Distinct u by
  pub within : Within S by
  pub part : (a : ℕ) → visits u by a ≡ true → visits u p a ≡ true

cut_more : (G : Graph) (S : BondSet) (u k w : ℕ) (p : Steps) (x : ℕ) → IsWalk G u (go k w p) → Distinct u (go k w p) → Within S (go k w p)
    → Cut G S w p x → Cut G S u (go k w p) x
cut_more G S u k w p x h d s c =
    record {
      by = go k w c.by;
      walk = (h.0, h.1, c.walk);
      ends = c.ends;
      distinct = (not_true (visits w c.by u) (λ e. clash (c.part u e) d.0), c.distinct);
      within = (s.0, c.within);
      part = λ a q.
          ⊎_elim (λ t. or_l (same u a) (visits w p a) t) (λ t. or_r (same u a) (visits w p a) (c.part a t)) (or_cases (same u a) (visits w c.by a) q);
    }

cut : (G : Graph) (S : BondSet) (u : ℕ) (p : Steps) (x : ℕ) → IsWalk G u p → Distinct u p → Within S p → visits u p x ≡ true → Cut G S u p x
cut G S u end x h d s v =
    ⊎_elim (λ e. record { by = end; walk = tt; ends = same_eq u x e; distinct = tt; within = tt; part = λ a q. q }) (λ e. absurd (clash e refl))
    (or_cases (same u x) false v)
cut G S u (go k w p) x h d s v =
    ⊎_elim
    (λ e. record {
      by = end;
      walk = tt;
      ends = same_eq u x e;
      distinct = tt;
      within = tt;
      part = λ a q. ⊎_elim (λ t. or_l (same u a) (visits w p a) t) (λ t. absurd (clash t refl)) (or_cases (same u a) false q);
    })
    (λ e. cut_more G S u k w p x h d s (cut G S w p x h.2 d.1 s.1 e))
    (or_cases (same u x) (visits w p x) v)

-- A walk along S that cannot go on without meeting itself closes a cycle.

-- A cycle along bonds of S.
pub record Found (G : Graph) (S : BondSet) : Type 0 where
  pub cycle : Cycle G
  pub within : PartOf (cset G cycle) S

module _ (G : Graph) (Z : Simple G) (S : BondSet) (c : Closed G S) where
  -- The new bond j leads from the front v back to x on the path.
  found : (v k w : ℕ) (p : Steps) → IsWalk G v (go k w p) → Distinct v (go k w p) → Within S (go k w p)
      → (j x : ℕ) → j < G.m → S j ≡ true → j ≢ k → Joins G j v x → visits w p x ≡ true → Found G S
  found v k w p h d s j x l sj ne jn vis =
      let C : Cut G S w p x = cut G S w p x h.2 d.1 s.1 vis in
      let nv : visits w C.by v ≡ false = not_true (visits w C.by v) (λ e. clash (C.part v e) d.0) in
      let jv : inc G j v ≡ true = joins_at G j v x jn (joins_ne G Z j v x l jn) in
      let fr : edges C.by j ≡ false = not_true (edges C.by j) (λ e. clash (edge_visits G w C.by C.walk j v e jv) nv) in
      record {
        cycle = record {
          k = j;
          u = x;
          w = v;
          p = go k w C.by;
          k_in = l;
          joins = joins_sym G j v x jn;
          walk = (h.0, h.1, C.walk);
          ends = C.ends;
          distinct = (nv, C.distinct);
          fresh = rw (same_ne k j (λ e. ne (sym e))) fr;
        };
        within = within_part S (go j v (go k w C.by)) (sj, (s.0, C.within));
      }

  -- The path grows at its front v until it meets itself.
  extract : (f v k w : ℕ) (p : Steps) → IsWalk G v (go k w p) → Distinct v (go k w p) → Within S (go k w p) → v < G.n
      → G.n < f + suc (suc (len p)) → Found G S
  extract zero v k w p h d s l f = absurd (omega (arith, visits_cnt G Z v (go k w p) l h d, cnt_le (visits v (go k w p)) G.n))
  extract (suc f) v k w p h d s l q =
      let t = another G S c k v h.0 s.0 (joins_at G k v w h.1 (step_ne v w p d.0)) in
      let o = other_end G t.0 v t.3 in
      let ne : v ≢ o.0 = joins_ne G Z t.0 v o.0 t.1 o.1 in
      ⊎_elim
      (λ e. found v k w p h d s t.0 o.0 t.1 t.2 t.4 o.1 e)
      (λ e. let nx : visits v (go k w p) o.0 ≡ false = rw (same_ne v o.0 ne) e in
      extract f o.0 t.0 v (go k w p) (t.1, joins_sym G t.0 v o.0 o.1, h) (nx, d) (t.2, s)
      (joins_in G Z t.0 v o.0 t.1 o.1) (omega arith))
      (both (visits w p o.0))

  pub has_cycle : 0 < cnt S G.m → Found G S
  has_cycle h =
      let t : (k : ℕ) × (k < G.m) × (S k ≡ true) = cnt_some S G.m h in
      let x : ℕ = G.src t.0 in
      let y : ℕ = G.tgt t.0 in
      extract G.n x t.0 y end (t.1, inl (refl, refl), tt) (rw (same_ne y x (λ e. Z.no_loop t.0 t.1 (sym e))), tt) (t.2, tt)
      (Z.src_in t.0 t.1) (omega arith)
