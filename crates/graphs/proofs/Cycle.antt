-- A cycle is a ring with as many bonds as atoms.
use mathlib.Core.Path.{◌≡◌, refl, ap, ◌∙◌, subst}
use mathlib.Core.Bool.{true, false}
use mathlib.Core.Logic.{inl, inr, ⊎_elim, ◌≢◌}
use Prim.Native.Nat.{ℕ, suc, ◌+◌, ◌*◌, ◌<◌}
use native.Mathlib.Omega.{arith}
use Rattle.graphs.specs.Count.{same, val, cnt, flip}
use Rattle.graphs.specs.Graph.{Graph, BondSet, Joins, inc, Simple, deg, Closed}
use Rattle.graphs.specs.Walk.{Steps, end, go, last, len, edges, visits, IsWalk, Distinct, Within}
use Rattle.graphs.specs.Ring.{Joined, Ring, Cycle, cset}
use Rattle.graphs.proofs.Basics.{both, clash, or_cases, same_eq}
use Rattle.graphs.proofs.Count.{val_some, val_xor, val_or, cnt_none, flip_keep, cnt_new, cnt_flip_new}
use Rattle.graphs.proofs.Graph.{joins_sym, joins_inc, joins_ne}
use Rattle.graphs.proofs.Walk.{closed_walk, step_ne, distinct_fresh, size_eq, within_edges}

-- Joined within a bond set.

pub joined_refl : (G : Graph) (S : BondSet) (a : ℕ) → Joined G S a a
joined_refl G S a = record { by = end; walk = tt; ends = refl; within = tt }

pub joined_step : (G : Graph) (S : BondSet) (k a b c : ℕ) → k < G.m → S k ≡ true → Joins G k a b → Joined G S b c → Joined G S a c
joined_step G S k a b c l s j r = record { by = go k b r.by; walk = (l, j, r.walk); ends = r.ends; within = (s, r.within) }

joined_app : (G : Graph) (S : BondSet) (a c : ℕ) (p : Steps) → IsWalk G a p → Within S p → Joined G S (last a p) c → Joined G S a c
joined_app G S a c end h s r = r
joined_app G S a c (go k w p) h s r = joined_step G S k a w c h.0 s.0 h.1 (joined_app G S w c p h.2 s.1 r)

pub joined_trans : (G : Graph) (S : BondSet) (a b c : ℕ) → Joined G S a b → Joined G S b c → Joined G S a c
joined_trans G S a b c p q = joined_app G S a c p.by p.walk p.within (rw p.ends q)

joined_rev : (G : Graph) (S : BondSet) (a c : ℕ) (p : Steps) → IsWalk G a p → Within S p → Joined G S a c → Joined G S (last a p) c
joined_rev G S a c end h s r = r
joined_rev G S a c (go k w p) h s r = joined_rev G S w c p h.2 s.1 (joined_step G S k w a c h.0 s.0 (joins_sym G k a w h.1) r)

pub joined_sym : (G : Graph) (S : BondSet) (a b : ℕ) → Joined G S a b → Joined G S b a
joined_sym G S a b p = rw p.ends at (joined_rev G S a a p.by p.walk p.within (joined_refl G S a))

-- Every atom of a walk is joined to its start in any set that has its bonds.
joined_visits : (G : Graph) (S : BondSet) (u : ℕ) (p : Steps) → IsWalk G u p → Within S p → (a : ℕ) → visits u p a ≡ true → Joined G S u a
joined_visits G S u end h s a v =
    ⊎_elim (λ e. subst (λ (x : ℕ). Joined G S u x) (same_eq u a e) (joined_refl G S u)) (λ e. absurd (clash e refl)) (or_cases (same u a) false v)
joined_visits G S u (go k w p) h s a v =
    ⊎_elim (λ e. subst (λ (x : ℕ). Joined G S u x) (same_eq u a e) (joined_refl G S u))
    (λ e. joined_step G S k u w a h.0 s.0 h.1 (joined_visits G S w p h.2 s.1 a e))
    (or_cases (same u a) (visits w p a) v)

-- The bonds of a cycle: how many they are, and that they are a ring.

pub cycle_size : (G : Graph) (C : Cycle G) → cnt (cset G C) G.m ≡ suc (len C.p)
cycle_size G C = cnt_flip_new (edges C.p) C.k G.m C.k_in C.fresh ∙ ap suc (size_eq G C.w C.p C.walk C.distinct)

pub cycle_closed : (G : Graph) (C : Cycle G) → Closed G (cset G C)
cycle_closed G C = closed_walk G C.u (go C.k C.w C.p) (C.k_in, C.joins, C.walk) C.ends

-- How often a step leads to a.
abbrev head_count : Steps → ℕ → ℕ
head_count end a = 0
head_count (go k w p) a = val (same w a) + head_count p a

-- How often a step starts at a.
abbrev tail_count : ℕ → Steps → ℕ → ℕ
tail_count u end a = 0
tail_count u (go k w p) a = val (same u a) + tail_count w p a

tail_head : (u : ℕ) (p : Steps) (a : ℕ) → val (same u a) + head_count p a ≡ tail_count u p a + val (same (last u p) a)
tail_head u end a = omega arith
tail_head u (go k w p) a = omega (arith, tail_head w p a)

deg_new : (G : Graph) (S : BondSet) (k u w a : ℕ) → k < G.m → Joins G k u w → u ≢ w → S k ≡ false → deg G (flip k S) a ≡ val (same u a) + val (same w a) + deg G S a
deg_new G S k u w a l j e f =
    omega (arith, cnt_new S (λ k. inc G k a) k G.m l f, ap val (joins_inc G k u w a j), val_xor u w a e)

path_deg : (G : Graph) (u : ℕ) (p : Steps) → IsWalk G u p → Distinct u p → (a : ℕ) → deg G (edges p) a ≡ tail_count u p a + head_count p a
path_deg G u end h d a = omega (arith, cnt_none (λ j. false) G.m (λ k l. refl))
path_deg G u (go k w p) h d a =
    omega (arith, deg_new G (edges p) k u w a h.0 h.1 (step_ne u w p d.0) (distinct_fresh G k u w p h d), path_deg G w p h.2 d.1 a)

val_visits : (u : ℕ) (p : Steps) → Distinct u p → (a : ℕ) → val (visits u p a) ≡ val (same u a) + head_count p a
val_visits u end d a = val_or (same u a) false (λ e. refl)
val_visits u (go k w p) d a =
    val_or (same u a) (visits w p a) (λ e. subst (λ (x : ℕ). visits w p x ≡ false) (same_eq u a e) d.0)
    ∙ ap (λ (x : ℕ). val (same u a) + x) (val_visits w p d.1 a)

pub cycle_deg : (G : Graph) (C : Cycle G) → C.u ≢ C.w → (a : ℕ) → deg G (cset G C) a ≡ 2 * val (visits C.w C.p a)
cycle_deg G C e a =
    let r : val (same C.w a) + head_count C.p a ≡ tail_count C.w C.p a + val (same C.u a) = rw C.ends at (tail_head C.w C.p a) in
    let s = deg_new G (edges C.p) C.k C.u C.w a C.k_in C.joins e C.fresh in
    omega (arith, path_deg G C.w C.p C.walk C.distinct a, val_visits C.w C.p C.distinct a)

pub cycle_ring : (G : Graph) → Simple G → (C : Cycle G) → Ring G (cset G C)
cycle_ring G Z C =
    let ne : C.u ≢ C.w = joins_ne G Z C.k C.u C.w C.k_in C.joins in
    let D : (a : ℕ) → deg G (cset G C) a ≡ 2 * val (visits C.w C.p a) = cycle_deg G C ne in
    let W : Within (cset G C) C.p =
    within_edges G C.w C.p C.walk C.distinct (cset G C) (λ j e. flip_keep C.k (edges C.p) j C.fresh e) in
    let Vs : (a : ℕ) → 0 < deg G (cset G C) a → visits C.w C.p a ≡ true = λ a h. val_some (visits C.w C.p a) (omega (arith, D a)) in
    let R : (a : ℕ) → 0 < deg G (cset G C) a → Joined G (cset G C) C.w a = λ a h. joined_visits G (cset G C) C.w C.p C.walk W a (Vs a h) in
    record {
      some = omega (arith, cycle_size G C);
      closed = cycle_closed G C;
      two = λ a. ⊎_elim (λ e. inr (omega (arith, D a, ap val e))) (λ e. inl (omega (arith, D a, ap val e))) (both (visits C.w C.p a));
      joined = λ a b h g. joined_trans G (cset G C) a C.w b (joined_sym G (cset G C) C.w a (R a h)) (R b g);
    }
