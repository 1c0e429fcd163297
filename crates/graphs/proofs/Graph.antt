-- Bonds and their ends; closed sets are closed under sums.
use mathlib.Core.Path.{◌≡◌, refl, sym, ap, ◌∙◌}
use mathlib.Core.Bool.{Bool, true, false, ◌&&◌, ◌||◌}
use mathlib.Core.Logic.{inl, inr, ⊎_elim, ◌≢◌}
use Prim.Native.Nat.{ℕ, ◌%◌, ◌<◌}
use Rattle.graphs.specs.Count.{xor, same, val, par, flip}
use Rattle.graphs.specs.Graph.{Graph, BondSet, Joins, inc, Simple, star, deg, degree, Closed, sum, Agree}
use Rattle.graphs.proofs.Basics.{both, xor_comm, xor_and, same_refl, same_eq, same_ne, xor_or}
use Rattle.graphs.proofs.Count.{val_eq, cnt_ext, par_cnt, par_ext, par_xor, par_one}

-- A bond and its ends.

pub joins_sym : (G : Graph) (k u w : ℕ) → Joins G k u w → Joins G k w u
joins_sym G k u w (inl h) = inr h
joins_sym G k u w (inr h) = inl h

pub joins_inc : (G : Graph) (k u w a : ℕ) → Joins G k u w → inc G k a ≡ xor (same u a) (same w a)
joins_inc G k u w a (inl h) = rw (h.0, h.1)
joins_inc G k u w a (inr h) = rw (h.0, h.1) (xor_comm (same w a) (same u a))

pub joins_ne : (G : Graph) → Simple G → (k u w : ℕ) → k < G.m → Joins G k u w → u ≢ w
joins_ne G Z k u w l (inl h) e = Z.no_loop k l (h.0 ∙ e ∙ sym h.1)
joins_ne G Z k u w l (inr h) e = Z.no_loop k l (h.0 ∙ sym e ∙ sym h.1)

pub joins_at : (G : Graph) (k u w : ℕ) → Joins G k u w → u ≢ w → inc G k u ≡ true
joins_at G k u w h e = joins_inc G k u w u h ∙ rw (same_refl u, same_ne w u (λ q. e (sym q)))

pub joins_other : (G : Graph) (k u w x : ℕ) → Joins G k u w → Joins G k u x → w ≡ x
joins_other G k u w x (inl h) (inl g) = sym h.1 ∙ g.1
joins_other G k u w x (inl h) (inr g) = sym h.1 ∙ g.1 ∙ sym h.0 ∙ g.0
joins_other G k u w x (inr h) (inl g) = sym h.0 ∙ g.0 ∙ sym h.1 ∙ g.1
joins_other G k u w x (inr h) (inr g) = sym h.0 ∙ g.0

pub joins_in : (G : Graph) → Simple G → (k u w : ℕ) → k < G.m → Joins G k u w → w < G.n
joins_in G Z k u w l (inl h) = rw h.1 at (Z.tgt_in k l)
joins_in G Z k u w l (inr h) = rw h.0 at (Z.src_in k l)

pub other_end : (G : Graph) (j v : ℕ) → inc G j v ≡ true → (x : ℕ) × Joins G j v x
other_end G j v i =
    ⊎_elim (λ e. (G.tgt j, inl (same_eq (G.src j) v e, refl)))
    (λ e. let f : same (G.tgt j) v ≡ true = rw e at i in (G.src j, inr (refl, same_eq (G.tgt j) v f)))
    (both (same (G.src j) v))

-- The parity of the degree is linear; closed is of even degree everywhere.

pub par_sum : (G : Graph) (S T : BondSet) (a : ℕ) → par (star G (sum S T) a) G.m ≡ xor (par (star G S a) G.m) (par (star G T a) G.m)
par_sum G S T a =
    par_ext (star G (sum S T) a) (λ k. xor (star G S a k) (star G T a k)) G.m (λ k l. xor_and (S k) (T k) (inc G k a))
    ∙ par_xor (star G S a) (star G T a) G.m

pub closed_sum : (G : Graph) (S T : BondSet) → Closed G S → Closed G T → Closed G (sum S T)
closed_sum G S T p q a = par_sum G S T a ∙ rw (p a, q a)

pub par_flip : (G : Graph) (S : BondSet) (k a : ℕ) → k < G.m → par (star G (flip k S) a) G.m ≡ xor (inc G k a) (par (star G S a) G.m)
par_flip G S k a l = par_sum G (same k) S a ∙ ap (λ (x : Bool). xor x (par (star G S a) G.m)) (par_one (λ j. inc G j a) k G.m l)

pub closed_even : (G : Graph) (S : BondSet) → Closed G S → (a : ℕ) → deg G S a % 2 ≡ 0
closed_even G S h a = sym (par_cnt (star G S a) G.m) ∙ ap val (h a)

pub even_closed : (G : Graph) (S : BondSet) → ((a : ℕ) → deg G S a % 2 ≡ 0) → Closed G S
even_closed G S h a = val_eq (par (star G S a) G.m) false (par_cnt (star G S a) G.m ∙ h a)

-- Sets that agree on the bonds of the graph.

pub star_ext : (G : Graph) (S T : BondSet) → Agree G S T → (a : ℕ) → Agree G (star G S a) (star G T a)
star_ext G S T h a k l = ap (λ (x : Bool). x && inc G k a) (h k l)

pub deg_ext : (G : Graph) (S T : BondSet) → Agree G S T → (a : ℕ) → deg G S a ≡ deg G T a
deg_ext G S T h a = cnt_ext (star G S a) (star G T a) G.m (star_ext G S T h a)

pub closed_ext : (G : Graph) (S T : BondSet) → Agree G S T → Closed G S → Closed G T
closed_ext G S T h c a = sym (par_ext (star G S a) (star G T a) G.m (star_ext G S T h a)) ∙ c a

-- The degree as a reader writes it.

pub degree_is : (G : Graph) → Simple G → (S : BondSet) (a : ℕ) → degree G S a ≡ deg G S a
degree_is G Z S a =
    cnt_ext (λ k. S k && (same (G.src k) a || same (G.tgt k) a)) (star G S a) G.m
    (λ k l. ap (λ (x : Bool). S k && x) (xor_or (G.src k) (G.tgt k) a (Z.no_loop k l)))
