-- A closed set is a sum of rings.
use mathlib.Core.Path.{◌≡◌, refl, sym, ap, ap₂, ◌∙◌}
use mathlib.Core.Bool.{Bool}
use mathlib.Core.Logic.{⊎_elim}
use mathlib.Core.List.{List, [], ◌∷◌, ◌++◌}
use Prim.Native.Nat.{ℕ, zero, suc, ◌+◌, ◌≤◌, ◌<◌}
use native.Mathlib.Omega.{arith}
use Rattle.graphs.specs.Count.{xor, cnt}
use Rattle.graphs.specs.Graph.{Graph, BondSet, Simple, Closed, sum, Agree, PartOf}
use Rattle.graphs.specs.Walk.{Steps, end, go, last, len, edges, IsWalk, Within}
use Rattle.graphs.specs.Ring.{Joined, Ring, Each, sum_all, SumOf, Shorter, cset}
use Rattle.graphs.proofs.Basics.{not_true, xor_assoc, xor_back, xor_part, lt_or_ge}
use Rattle.graphs.proofs.Count.{cnt_ext, cnt_mono, cnt_full, cnt_pos, cnt_minus, cnt_sum_le}
use Rattle.graphs.proofs.Graph.{closed_sum, deg_ext, closed_ext}
use Rattle.graphs.proofs.Walk.{closed_walks, size_le}
use Rattle.graphs.proofs.Cycle.{cycle_size, cycle_closed, cycle_ring}
use Rattle.graphs.proofs.Extract.{Found, has_cycle}

-- Sets that agree are rings alike.

within_ext : (G : Graph) (S T : BondSet) → Agree G S T → (u : ℕ) (p : Steps) → IsWalk G u p → Within S p → Within T p
within_ext G S T h u end w s = tt
within_ext G S T h u (go k x p) w s = (sym (h k w.0) ∙ s.0, within_ext G S T h x p w.2 s.1)

pub ring_ext : (G : Graph) (S T : BondSet) → Agree G S T → Ring G S → Ring G T
ring_ext G S T h r =
    record {
      some = rw (cnt_ext S T G.m h) at r.some;
      closed = closed_ext G S T h r.closed;
      two = λ a. rw (deg_ext G S T h a) at (r.two a);
      joined = λ a b p q.
          let J : Joined G S a b = r.joined a b (rw (deg_ext G S T h a) p) (rw (deg_ext G S T h b) q) in
          record { by = J.by; walk = J.walk; ends = J.ends; within = within_ext G S T h a J.by J.walk J.within };
    }

-- Sums of lists of bond sets.

each_map : (P Q : BondSet → Type 0) → ((R : BondSet) → P R → Q R) → (L : List BondSet) → Each P L → Each Q L
each_map P Q f [] h = tt
each_map P Q f (R ∷ L) h = (f R h.0, each_map P Q f L h.1)

pub sum_map : (G : Graph) (P Q : BondSet → Type 0) (S : BondSet) → ((R : BondSet) → P R → Q R) → SumOf G P S → SumOf G Q S
sum_map G P Q S f s = record { rings = s.rings; all = each_map P Q f s.rings s.all; is = s.is }

sum_all_app : (L M : List BondSet) (k : ℕ) → sum_all (L ++ M) k ≡ xor (sum_all L k) (sum_all M k)
sum_all_app [] M k = refl
sum_all_app (R ∷ L) M k = ap (λ (x : Bool). xor (R k) x) (sum_all_app L M k) ∙ sym (xor_assoc (R k) (sum_all L k) (sum_all M k))

each_app : (P : BondSet → Type 0) (L M : List BondSet) → Each P L → Each P M → Each P (L ++ M)
each_app P [] M h g = g
each_app P (R ∷ L) M h g = (h.0, each_app P L M h.1 g)

pub join_sums : (G : Graph) (P : BondSet → Type 0) (S X Y : BondSet) → SumOf G P X → SumOf G P Y → Agree G S (sum X Y) → SumOf G P S
join_sums G P S X Y p q h =
    record {
      rings = p.rings ++ q.rings;
      all = each_app P p.rings q.rings p.all q.all;
      is = λ k l. h k l ∙ ap₂ xor (p.is k l) (q.is k l) ∙ sym (sum_all_app p.rings q.rings k);
    }

-- Taking away one cycle after another.

module _ (G : Graph) (Z : Simple G) where
  empty_sum : (S : BondSet) → cnt S G.m ≤ 0 → SumOf G (λ R. Ring G R × PartOf R S) S
  empty_sum S h = record { rings = []; all = tt; is = λ k l. not_true (S k) (λ e. omega (arith, cnt_pos S k G.m l e)) }

  peel : (S : BondSet) (F : Found G S) → SumOf G (λ R. Ring G R × PartOf R (sum S (cset G F.cycle))) (sum S (cset G F.cycle))
      → SumOf G (λ R. Ring G R × PartOf R S) S
  peel S F s =
      let C : BondSet = cset G F.cycle in
      record {
        rings = C ∷ s.rings;
        all = (
          (cycle_ring G Z F.cycle, F.within),
          each_map (λ R. Ring G R × PartOf R (sum S C)) (λ R. Ring G R × PartOf R S)
              (λ R h. (h.0, λ k e. xor_part (S k) (C k) (F.within k) (h.1 k e))) s.rings s.all,
        );
        is = λ k l. xor_back (S k) (C k) ∙ ap (λ (x : Bool). xor (C k) x) (s.is k l);
      }

  decompose : (f : ℕ) (S : BondSet) → Closed G S → cnt S G.m ≤ f → SumOf G (λ R. Ring G R × PartOf R S) S
  decompose zero S c h = empty_sum S (omega arith)
  decompose (suc f) S c h =
      ⊎_elim
      (λ e. let F : Found G S = has_cycle G Z S c e in
      let C : BondSet = cset G F.cycle in
      let q : cnt (sum S C) G.m + cnt C G.m ≡ cnt S G.m = cnt_minus S C G.m F.within in
      peel S F (decompose f (sum S C) (closed_sum G S C c (cycle_closed G F.cycle)) (omega (arith, cycle_size G F.cycle))))
      (λ e. empty_sum S e)
      (lt_or_ge 0 (cnt S G.m))

  -- A closed set is a sum of rings, each a part of it.
  pub ring_sum : (S : BondSet) → Closed G S → SumOf G (λ R. Ring G R × PartOf R S) S
  ring_sum S c = decompose (cnt S G.m) S c (omega arith)

  shorter : (S R : BondSet) → (Ring G S → ⊥) → Ring G R → PartOf R S → cnt R G.m < cnt S G.m
  shorter S R nr r p =
      ⊎_elim (λ e. e) (λ e. absurd (nr (ring_ext G R S (cnt_full R S G.m (λ k l. p k) e) r))) (lt_or_ge (cnt R G.m) (cnt S G.m))

  -- A closed set that is no ring is a sum of rings shorter than it.
  pub shorter_sum : (S : BondSet) → Closed G S → (Ring G S → ⊥) → SumOf G (Shorter G (cnt S G.m)) S
  shorter_sum S c nr =
      sum_map G (λ R. Ring G R × PartOf R S) (Shorter G (cnt S G.m)) S (λ R h. (h.0, shorter S R nr h.0 h.1)) (ring_sum S c)

  -- A closed set shorter than s is a sum of rings shorter than s.
  pub small_sum : (s : ℕ) (S : BondSet) → Closed G S → cnt S G.m < s → SumOf G (Shorter G s) S
  small_sum s S c l =
      sum_map G (λ R. Ring G R × PartOf R S) (Shorter G s) S (λ R h. (h.0, omega (arith, cnt_mono R S G.m (λ k i. h.1 k)))) (ring_sum S c)

  -- Two walks with the same ends and fewer than s steps together differ by a sum of rings shorter than s.
  pub walks_sum : (s u : ℕ) (p q : Steps) → IsWalk G u p → IsWalk G u q → last u p ≡ last u q → len p + len q < s
      → SumOf G (Shorter G s) (sum (edges p) (edges q))
  walks_sum s u p q h g e l =
      small_sum s (sum (edges p) (edges q)) (closed_walks G u p q h g e)
      (omega (arith, cnt_sum_le (edges p) (edges q) G.m, size_le G u p h, size_le G u q g))
