-- A closed set is a ring or a sum of shorter rings, and it is decided which.
use mathlib.Core.Logic.{◌⊎◌, inl, inr, ⊎_elim}
use Prim.Native.Nat.{◌≤◌, ◌<◌}
use native.Mathlib.Omega.{arith}
use Rattle.graphs.specs.Count.{cnt}
use Rattle.graphs.specs.Graph.{Graph, BondSet, Simple, Closed}
use Rattle.graphs.specs.Ring.{Ring, SumOf, Shorter, cset}
use Rattle.graphs.proofs.Basics.{lt_or_ge}
use Rattle.graphs.proofs.Count.{cnt_ext, cnt_full}
use Rattle.graphs.proofs.Cycle.{cycle_ring}
use Rattle.graphs.proofs.Extract.{Found, has_cycle}
use Rattle.graphs.proofs.Decompose.{ring_ext, shorter_sum}
use Rattle.graphs.proofs.Rotate.{ring_is_cycle}

-- The cycle found in S is the whole of S, or S is no ring.
pub ring_dec : (G : Graph) → Simple G → (S : BondSet) → Closed G S → 0 < cnt S G.m → Ring G S ⊎ (Ring G S → ⊥)
ring_dec G Z S c h =
    let F : Found G S = has_cycle G Z S c h in
    let C : BondSet = cset G F.cycle in
    ⊎_elim
    (λ (l : cnt C G.m < cnt S G.m). inr (λ r. omega (arith, l, cnt_ext C S G.m (ring_is_cycle G Z S r F))))
    (λ (l : cnt S G.m ≤ cnt C G.m). inl (ring_ext G C S (cnt_full C S G.m (λ k i. F.within k) l) (cycle_ring G Z F.cycle)))
    (lt_or_ge (cnt C G.m) (cnt S G.m))

pub ring_or_shorter : (G : Graph) → Simple G → (S : BondSet) → Closed G S → 0 < cnt S G.m → Ring G S ⊎ SumOf G (Shorter G (cnt S G.m)) S
ring_or_shorter G Z S c h = ⊎_elim (λ r. inl r) (λ r. inr (shorter_sum G Z S c r)) (ring_dec G Z S c h)
