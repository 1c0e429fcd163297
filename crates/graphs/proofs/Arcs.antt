-- A relevant ring from one of its atoms: its atoms in order, and how far each is.
use Prim.Native.Nat.{ℕ, suc, ◌-◌, ◌≤◌, ◌<◌, min}
use Rattle.graphs.specs.Graph.{Graph, BondSet, Simple, deg}
use Rattle.graphs.specs.Walk.{len, atom}
use Rattle.graphs.specs.Ring.{Relevant}
use Rattle.graphs.specs.Distance.{Dist}
use Rattle.graphs.proofs.Rotate.{RingFrom, ring_from}
use Rattle.graphs.proofs.Relevant.{relevant_dist}

-- The ring S as a cycle that starts at r, with the distances from r.
pub record RelevantFrom (G : Graph) (S : BondSet) (r : ℕ) : Type 0 where
  pub ring : RingFrom G S r
  pub far : (i : ℕ) → i ≤ len ring.cycle.p → Dist G r (atom r ring.cycle.p i) (min i (suc (len ring.cycle.p) - i))

pub relevant_from : (G : Graph) → Simple G → (S : BondSet) → Relevant G S → (r : ℕ) → 0 < deg G S r → RelevantFrom G S r
relevant_from G Z S rel r h =
    let F : RingFrom G S r = ring_from G Z S rel.ring r h in
    record { ring = F; far = λ i le. rw F.start at (relevant_dist G Z S rel F.cycle F.is i le) }
