-- What a breadth-first search leaves are the distances.
use mathlib.Core.Path.{◌≡◌, refl, sym, ap, ◌∙◌}
use mathlib.Core.Bool.{Bool, true, false}
use Prim.Native.Nat.{ℕ, zero, suc, ◌+◌, ◌≤◌}
use native.Mathlib.Omega.{arith}
use Rattle.graphs.specs.Graph.{Graph}
use Rattle.graphs.specs.Walk.{Steps, end, go, last, len, IsWalk}
use Rattle.graphs.specs.Distance.{Dist, Layers}
use Rattle.graphs.proofs.Basics.{clash}
use Rattle.graphs.proofs.Steps.{snoc, last_snoc, len_snoc, walk_snoc}

module _ (G : Graph) (r : ℕ) (R : ℕ → Bool) (D : ℕ → ℕ) (L : Layers G r R D) where
  depth_le : (u : ℕ) (p : Steps) → IsWalk G u p → R u ≡ true → (R (last u p) ≡ true) × (D (last u p) ≤ D u + len p)
  depth_le u end h e = (e, omega arith)
  depth_le u (go k w p) h e =
      let s = L.next k u w h.0 h.1 e in
      let t = depth_le w p h.2 s.0 in
      (t.0, omega arith)

  walk_of_depth : (d t : ℕ) → R t ≡ true → D t ≡ d → (p : Steps) × IsWalk G r p × (last r p ≡ t) × (len p ≡ d)
  walk_of_depth zero t e q = (end, tt, sym (L.only t e q), refl)
  walk_of_depth (suc d) t e q =
      let b = L.back t d e q in
      let w = walk_of_depth d b.1 b.4 b.5 in
      (snoc w.0 b.0 t, walk_snoc G r w.0 b.0 t w.1 b.2 (rw w.2 b.3), last_snoc r w.0 b.0 t, len_snoc w.0 b.0 t ∙ ap suc w.3)

  pub layers_dist : (t : ℕ) → R t ≡ true → Dist G r t (D t)
  layers_dist t e =
      let u = walk_of_depth (D t) t e refl in
      record {
        by = u.0;
        walk = u.1;
        ends = u.2;
        steps = u.3;
        least = λ p h q. let s = depth_le r p h L.root in let s₁ : D t ≤ D r + len p = rw q at s.1 in omega (arith, L.root_d);
      }

  pub layers_none : (t : ℕ) → R t ≡ false → (p : Steps) → IsWalk G r p → last r p ≡ t → ⊥
  layers_none t e p h q = clash (rw q at (depth_le r p h L.root).0) e
