-- The distance of two atoms, and what a breadth-first search leaves.
use Rattle.std.specs.Prelude.{◌≡◌, Bool, true, ℕ, suc, ◌≤◌, ◌<◌}
use Rattle.graphs.specs.Graph.{Graph, Joins}
use Rattle.graphs.specs.Walk.{Steps, last, len, IsWalk}

-- A walk of d steps leads from r to t, and none of fewer.
pub record Dist (G : Graph) (r t d : ℕ) : Type 0 where
  pub by : Steps
  pub walk : IsWalk G r by
  pub ends : last r by ≡ t
  pub steps : len by ≡ d
  pub least : (p : Steps) → IsWalk G r p → last r p ≡ t → d ≤ len p

-- What a breadth-first search from r leaves: R, which atoms are reached, and D, at which depth.
pub record Layers (G : Graph) (r : ℕ) (R : ℕ → Bool) (D : ℕ → ℕ) : Type 0 where
  pub root : R r ≡ true
  pub root_d : D r ≡ 0
  pub only : (t : ℕ) → R t ≡ true → D t ≡ 0 → t ≡ r
  pub next : (k u w : ℕ) → k < G.m → Joins G k u w → R u ≡ true → (R w ≡ true) × (D w ≤ suc (D u))
  pub back : (t d : ℕ) → R t ≡ true → D t ≡ suc d → (k : ℕ) × (x : ℕ) × (k < G.m) × Joins G k x t × (R x ≡ true) × (D x ≡ d)
