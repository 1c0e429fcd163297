-- The boundary and the size of a walk.
use mathlib.Core.Path.{◌≡◌, refl, sym, ap, ap₂, ◌∙◌}
use mathlib.Core.Bool.{true, false}
use mathlib.Core.Logic.{⊎_elim, ◌≢◌}
use Prim.Native.Nat.{ℕ, suc, ◌≤◌}
use native.Mathlib.Omega.{arith}
use Rattle.graphs.specs.Count.{xor, same, cnt, par}
use Rattle.graphs.specs.Graph.{Graph, BondSet, inc, star, Closed, sum, PartOf}
use Rattle.graphs.specs.Walk.{Steps, end, go, last, len, edges, heads, visits, IsWalk, Distinct, Within}
use Rattle.graphs.proofs.Basics.{both, clash, not_true, or_l, or_r, or_off_l, xor_self, xor_chain, same_refl, same_eq, same_off}
use Rattle.graphs.proofs.Count.{cnt_none, par_none, flip_keep, cnt_flip_le, cnt_flip_new}
use Rattle.graphs.proofs.Graph.{joins_inc, joins_at, par_sum, par_flip}

-- An atom has odd degree exactly if it is one end of the walk and not the other.
pub boundary : (G : Graph) (u : ℕ) (p : Steps) → IsWalk G u p → (a : ℕ) → par (star G (edges p) a) G.m ≡ xor (same u a) (same (last u p) a)
boundary G u end h a = par_none G.m ∙ sym (xor_self (same u a))
boundary G u (go k w p) h a =
    par_flip G (edges p) k a h.0 ∙ ap₂ xor (joins_inc G k u w a h.1) (boundary G w p h.2 a)
    ∙ xor_chain (same u a) (same w a) (same (last w p) a)

pub closed_walk : (G : Graph) (u : ℕ) (p : Steps) → IsWalk G u p → last u p ≡ u → Closed G (edges p)
closed_walk G u p h e a = boundary G u p h a ∙ rw e (xor_self (same u a))

-- Two walks with the same ends differ by a closed set.
pub closed_walks : (G : Graph) (u : ℕ) (p q : Steps) → IsWalk G u p → IsWalk G u q → last u p ≡ last u q → Closed G (sum (edges p) (edges q))
closed_walks G u p q h g e a = par_sum G (edges p) (edges q) a ∙ rw (boundary G u p h a, boundary G u q g a, e) (xor_self (xor (same u a) (same (last u q) a)))

pub size_le : (G : Graph) (u : ℕ) (p : Steps) → IsWalk G u p → cnt (edges p) G.m ≤ len p
size_le G u end h = omega (arith, cnt_none (λ j. false) G.m (λ k l. refl))
size_le G u (go k w p) h = omega (arith, size_le G w p h.2, cnt_flip_le (edges p) k G.m h.0)

-- The bonds of a walk meet only its atoms.
pub edge_visits : (G : Graph) (u : ℕ) (p : Steps) → IsWalk G u p → (k a : ℕ) → edges p k ≡ true → inc G k a ≡ true → visits u p a ≡ true
edge_visits G u end h k a e i = absurd (clash e refl)
edge_visits G u (go j w p) h k a e i =
    ⊎_elim
    (λ s. let i₁ : inc G j a ≡ true = rw (same_eq j k s) i in
    let i₂ : xor (same u a) (same w a) ≡ true = sym (joins_inc G j u w a h.1) ∙ i₁ in
    ⊎_elim (λ t. or_l (same u a) (heads (go j w p) a) t)
    (λ t. or_r (same u a) (heads (go j w p) a) (or_l (same w a) (heads p a) (rw t at i₂)))
    (both (same u a)))
    (λ s. or_r (same u a) (heads (go j w p) a) (edge_visits G w p h.2 k a (rw s at e) i))
    (both (same j k))

pub step_ne : (u w : ℕ) (p : Steps) → visits w p u ≡ false → u ≢ w
step_ne u w p h e = same_off w u (or_off_l (same w u) (heads p u) h) (sym e)

pub distinct_fresh : (G : Graph) (k u w : ℕ) (p : Steps) → IsWalk G u (go k w p) → Distinct u (go k w p) → edges p k ≡ false
distinct_fresh G k u w p h d =
    not_true (edges p k) (λ e. clash (edge_visits G w p h.2 k u e (joins_at G k u w h.1 (step_ne u w p d.0))) d.0)

pub size_eq : (G : Graph) (u : ℕ) (p : Steps) → IsWalk G u p → Distinct u p → cnt (edges p) G.m ≡ len p
size_eq G u end h d = cnt_none (λ j. false) G.m (λ k l. refl)
size_eq G u (go k w p) h d = cnt_flip_new (edges p) k G.m h.0 (distinct_fresh G k u w p h d) ∙ ap suc (size_eq G w p h.2 d.1)

pub within_part : (S : BondSet) (p : Steps) → Within S p → PartOf (edges p) S
within_part S end s k e = absurd (clash e refl)
within_part S (go j w p) s k e =
    ⊎_elim (λ t. rw (same_eq j k t) at s.0) (λ t. within_part S p s.1 k (rw t at e)) (both (same j k))

pub within_edges : (G : Graph) (u : ℕ) (p : Steps) → IsWalk G u p → Distinct u p → (S : BondSet) → PartOf (edges p) S → Within S p
within_edges G u end h d S i = tt
within_edges G u (go k w p) h d S i =
    let f : edges p k ≡ false = distinct_fresh G k u w p h d in
    (i k (rw (same_refl k, f)), within_edges G w p h.2 d.1 S (λ j e. i j (flip_keep k (edges p) j f e)))
