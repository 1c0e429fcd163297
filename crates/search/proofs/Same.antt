-- A search reads the neighbours alone, so what the functions promise of them holds of a whole net and of a compound.
use mathlib.Core.Path.{◌≡◌, refl, ap}
use mathlib.Core.List.{List}
use Prim.Native.Nat.{ℕ, zero, suc}
use Rattle.cycles.specs.Compound.{Compound, m}
use Rattle.model.specs.Net.{Net, near, adj_of, net_of}
use Rattle.model.specs.Layer.{Wave, spread, wave, layer, layers_into}
use Rattle.model.specs.Fault.{reached}
use Rattle.atoms.specs.Nets.{neighbours}

module _ (G : Net) where
  -- The search after d steps.
  pub wave_same : (pre r d : ℕ) → wave (neighbours G.adj) pre r d ≡ wave G pre r d
  unfolding wave spread near
  wave_same pre r zero = refl
  wave_same pre r (suc d) = ap (spread G pre) (wave_same pre r d)

  -- One layer.
  pub layer_same : (pre r d : ℕ) → layer (neighbours G.adj) pre r d ≡ layer G pre r d
  unfolding layer
  layer_same pre r d = ap (λ (w : Wave). w.under) (wave_same pre r d)

  -- The layers as `layers` writes them.
  pub layers_into_same : (pre r depth : ℕ) (us : List ℕ) → layers_into (neighbours G.adj) pre r depth us ≡ layers_into G pre r depth us
  unfolding layers_into
  layers_into_same pre r depth us = simp (layer_same pre r)

-- The atoms that `in_one_piece` compares with all are those that the model reaches.
pub reached_same : (c : Compound) → (wave (neighbours (adj_of c (m c))) 0 0 c.n).seen ≡ reached c
unfolding reached net_of
reached_same c = ap (λ (w : Wave). w.seen) (wave_same (net_of c) 0 0 c.n)
