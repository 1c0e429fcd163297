-- The candidates under a top atom that are still to come.
use Rattle.std.specs.Prelude.{◌≡◌, List, [], ◌∷◌, ◌++◌, ℕ, ◌+◌, ◌-◌, ◌*◌, ◌/◌, ◌<◌, Option, Some, None, IfSome, MatchOption, get_or, length, map}
use Rattle.std.specs.Int.Bits.{bit_and}
use Rattle.spans.specs.Elements.{◌∈◌}
use Rattle.bondset.specs.Sets.{bit, members}
use Rattle.cycles.specs.Family.{Family}
use Rattle.model.specs.Fold.{each}
use Rattle.model.specs.Loops.{above, fam}
use Rattle.model.specs.Candidates.{found}
use Rattle.model.specs.Cross.{cross}
use Rattle.candidates.specs.declared.cursor.Cursor.{Cursor}

-- The atoms p and q of a candidate, and the atom x between them if there is one.
abbrev pub Spot : Type 0
Spot = ℕ × ℕ × Option ℕ

-- The partners of p: the atoms above it, and of these its neighbours if there is no x.
unfoldable pub partners_in : List ℕ → ℕ → Option ℕ → ℕ → ℕ
partners_in adj all (Some x) p = above all p
partners_in adj all None p = bit_and (above all p) (get_or adj p 0)

-- This x, this p and a q of a set.
unfoldable pub with_q : Option ℕ → ℕ → ℕ → List Spot
with_q x p qs = each (λ q. (p, q, x) ∷ []) (members 64 qs)

-- This x, a p of a set, and each of its partners.
unfoldable pub with_p : List ℕ → ℕ → Option ℕ → ℕ → List Spot
with_p adj all x ps = each (λ p. with_q x p (partners_in adj all x p)) (members 64 ps)

-- An x of a set, and two of its neighbours in the layer `below`.
unfoldable pub with_x : List ℕ → ℕ → ℕ → List Spot
with_x adj below xs = each (λ x. let all = bit_and (get_or adj x 0) below in with_p adj all (Some x) all) (members 64 xs)

-- The candidates still to come, in order.
unfoldable pub ahead : Cursor → List Spot
ahead c = let adj = c.adj.now in with_q c.x c.p c.qs ++ (with_p adj c.all c.x c.ps ++ with_x adj c.below c.xs)

-- How much is left but the q of the p in hand. One x outweighs all p, of which there are 64 at the most.
abbrev pub left : Cursor → ℕ
left c = length (members 64 c.xs) * 65 + length (members 64 c.ps)

-- On to another p or x, with the same candidates to come; or none is to come.
abbrev pub Moves : Cursor → Option (Unit {0}) → Cursor → Type 0
Moves c r t = MatchOption r ((ahead c ≡ []) × (ahead t ≡ [])) (λ _. (ahead t ≡ ahead c) × (left t < left c))

-- The family of length k with top atom r of a candidate.
abbrev pub named : ℕ → ℕ → Spot → Family
named k r (p, q, x) = fam k r (cross x) p q

-- The p and q of a candidate are atoms of a layer, and its x is an atom.
pub record Within (layer : ℕ) (s : Spot) : Type 0 where
  pub p_atom : s.0 < 64
  pub q_atom : s.1 < 64
  pub x_atom : IfSome s.2 (λ x. x < 64)
  pub p_in : bit layer s.0 ≡ 1
  pub q_in : bit layer s.1 ≡ 1

-- All candidates of length k are to come.
pub record Firsts (adj layers : List ℕ) (k : ℕ) (c : Cursor) : Type 0 where
  pub all : (n : ℕ) (touch : List ℕ) (r : ℕ)
      → map (named k r) (ahead c) ≡ found (record { n = n; adj = adj; touch = touch }) k r (get_or layers (k / 2) 0) (get_or layers (k / 2 - 1) 0)
  pub within : (s : Spot) → s ∈ ahead c → Within (get_or layers ((k - 1) / 2) 0) s
