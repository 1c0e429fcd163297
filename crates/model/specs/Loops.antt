-- The loops of the engine over any state: `attempt us d f` is what a candidate f does to it, p and q standing d steps below
-- the top in the layers us.
use Rattle.std.specs.Prelude.{Bool, cond, List, ℕ, ◌+◌, ◌-◌, ◌*◌, ◌/◌, ◌%◌, ◌^◌, eqb, ltb, get_or}
use Rattle.std.specs.Int.Bits.{bit_and, bit_or}
use Rattle.bondset.specs.Sets.{members}
use Rattle.cycles.specs.Family.{Family}
use Rattle.model.specs.Fold.{through, count}
use Rattle.model.specs.Net.{Net, nbrs}
use Rattle.model.specs.Layer.{layers_into}

-- The atoms of a set above p.
unfoldable pub above : ℕ → ℕ → ℕ
above s p = s / 2 ^ (p + 1) * 2 ^ (p + 1)

-- A family in the order of the loops.
abbrev pub fam : ℕ → ℕ → ℕ → ℕ → ℕ → Family
fam k r x p q = record { long = k; r = r; p = p; q = q; x = x }

-- Whether a set has two atoms or more.
unfoldable pub two : ℕ → Bool
two s = ltb 0 (bit_and s (s - 1))

module _ (G : Net) (pre : ℕ → ℕ) where
  -- The set with r added if two or more neighbours of r precede it.
  unfoldable pub top_step : ℕ → ℕ → ℕ
  top_step r acc = cond (two (bit_and (nbrs G r) (pre r))) (bit_or acc (2 ^ r)) acc

  -- The atoms with two or more neighbours that precede them: the candidates of every other top atom are dropped.
  unfoldable pub tops : ℕ
  tops = through top_step (count 0 G.n) 0

-- The layers as they were last written, and the state.
pub record Running (X : Type 0) : Type 0 where
  pub layers : List ℕ
  pub state : X

abbrev pub running : {X : Type 0} → List ℕ → X → Running X
running us s = record { layers = us; state = s }

module _ {X : Type 0} (G : Net) (attempt : List ℕ → ℕ → Family → X → X) where
  -- All q of a set, with p.
  unfoldable pub partners : List ℕ → ℕ → ℕ → ℕ → ℕ → ℕ → ℕ → X → X
  partners us d k r x p qs s = through (λ q s. attempt us d (fam k r x p q) s) (members 64 qs) s

  -- odd: p and q in one layer, bonded
  unfoldable pub odd_loop : List ℕ → ℕ → ℕ → ℕ → ℕ → X → X
  odd_loop us d k r u s = through (λ p s. partners us d k r 255 p (bit_and (above u p) (nbrs G p)) s) (members 64 u) s

  -- even: p and q in the layer before that of x, both bonded to x
  unfoldable pub tip_loop : List ℕ → ℕ → ℕ → ℕ → ℕ → ℕ → X → X
  tip_loop us d k r x ps s = through (λ p s. partners us d k r x p (above ps p) s) (members 64 ps) s

  unfoldable pub even_loop : List ℕ → ℕ → ℕ → ℕ → ℕ → ℕ → X → X
  even_loop us d k r u below s = through (λ x s. tip_loop us d k r x (bit_and (nbrs G x) below) s) (members 64 u) s

  -- All candidates of length k with top atom r.
  unfoldable pub seek : ℕ → ℕ → List ℕ → X → X
  seek k r us s =
      let h = k / 2 in
      cond (eqb (k % 2) 1) (odd_loop us h k r (get_or us h 0) s) (even_loop us (h - 1) k r (get_or us h 0) (get_or us (h - 1) 0) s)

  module _ (pre : ℕ → ℕ) where
    -- The layers under r down to k / 2, and then the candidates.
    unfoldable pub top_loop : ℕ → ℕ → Running X → Running X
    top_loop k r s = let us = layers_into G (pre r) r (k / 2) s.layers in running us (seek k r us s.state)

    -- All candidates of one length.
    unfoldable pub length_loop : ℕ → Running X → Running X
    length_loop k s = through (top_loop k) (members 64 (tops G pre)) s

    -- One length and its end, `settle k before after`; nothing once so many rings are marked.
    unfoldable pub length_round : (X → ℕ) → (ℕ → X → X → X) → ℕ → ℕ → Running X → Running X
    length_round marks settle full k s =
        cond (ltb (marks s.state) full) (let t = length_loop k s in running t.layers (settle k s.state t.state)) s
