-- Two states that go through the same loops: what relates them before and after each candidate relates them all along.
use mathlib.Core.Path.{◌≡◌, refl}
use mathlib.Core.Bool.{Bool, true, false, cond}
use mathlib.Core.List.{List, [], ◌∷◌}
use Prim.Native.Nat.{ℕ, ◌-◌, ◌/◌, ◌%◌}
use lib.Bits.{bit_and}
use lib.Dec.{eqb}
use lib.ListN.{get_or}
use Rattle.bondset.specs.Sets.{members}
use Rattle.cycles.specs.Family.{Family}
use Rattle.model.specs.Fold.{through}
use Rattle.model.specs.Net.{Net, nbrs}
use Rattle.model.specs.Layer.{layers_into}
use Rattle.model.specs.Loops.{above, fam, tops, Running, partners, odd_loop, tip_loop, even_loop, seek, top_loop, length_loop}

module _ {C X Y : Type 0} (R : X → Y → Type 0) where
  -- A loop keeps what each turn keeps.
  pub through_related : {f : C → X → X} {g : C → Y → Y} → ((c : C) (x : X) (y : Y) → R x y → R (f c x) (g c y))
      → (cs : List C) (x : X) (y : Y) → R x y → R (through f cs x) (through g cs y)
  unfolding through
  through_related turn [] x y r = r
  through_related {f} {g} turn (c ∷ cs) x y r = through_related turn cs (f c x) (g c y) (turn c x y r)

module _ {X Y : Type 0} (R : X → Y → Type 0) where
  either_related : (b : Bool) {x x' : X} {y y' : Y} → R x y → R x' y' → R (cond b x x') (cond b y y')
  either_related true r s = r
  either_related false r s = s

  module _ (G : Net) (f : List ℕ → ℕ → Family → X → X) (g : List ℕ → ℕ → Family → Y → Y) where
    module _ (us : List ℕ) (turn : (d : ℕ) (a : Family) (x : X) (y : Y) → R x y → R (f us d a x) (g us d a y)) (d k r : ℕ) where
      partners_related : (t p qs : ℕ) (x : X) (y : Y) → R x y → R (partners G f us d k r t p qs x) (partners G g us d k r t p qs y)
      unfolding partners
      partners_related t p qs = through_related R (λ q x y s. turn d (fam k r t p q) x y s) (members 64 qs)

      odd_related : (u : ℕ) (x : X) (y : Y) → R x y → R (odd_loop G f us d k r u x) (odd_loop G g us d k r u y)
      unfolding odd_loop
      odd_related u = through_related R (λ p x y s. partners_related 255 p (bit_and (above u p) (nbrs G p)) x y s) (members 64 u)

      tip_related : (t ps : ℕ) (x : X) (y : Y) → R x y → R (tip_loop G f us d k r t ps x) (tip_loop G g us d k r t ps y)
      unfolding tip_loop
      tip_related t ps = through_related R (λ p x y s. partners_related t p (above ps p) x y s) (members 64 ps)

      even_related : (u below : ℕ) (x : X) (y : Y) → R x y → R (even_loop G f us d k r u below x) (even_loop G g us d k r u below y)
      unfolding even_loop
      even_related u below = through_related R (λ t x y s. tip_related t (bit_and (nbrs G t) below) x y s) (members 64 u)

    module _ (turn : (us : List ℕ) (d : ℕ) (a : Family) (x : X) (y : Y) → R x y → R (f us d a x) (g us d a y)) where
      seek_related : (k r : ℕ) (us : List ℕ) (x : X) (y : Y) → R x y → R (seek G f k r us x) (seek G g k r us y)
      unfolding seek
      seek_related k r us x y s =
          either_related (eqb (k % 2) 1)
          (odd_related us (turn us) (k / 2) k r (get_or us (k / 2) 0) x y s)
          (even_related us (turn us) (k / 2 - 1) k r (get_or us (k / 2) 0) (get_or us (k / 2 - 1) 0) x y s)

      -- The layers are the same, and the states are related.
      pub record Along (s : Running X) (t : Running Y) : Type 0 where
        pub layers : s.layers ≡ t.layers
        pub state : R s.state t.state

      module _ (pre : ℕ → ℕ) where
        top_related : (k r : ℕ) (s : Running X) (t : Running Y) → Along s t → Along (top_loop G f pre k r s) (top_loop G g pre k r t)
        unfolding top_loop
        top_related k r s t a =
            rw a.layers (record { layers = refl; state = seek_related k r (layers_into G (pre r) r (k / 2) t.layers) s.state t.state a.state })

        -- All candidates of one length keep what each candidate keeps.
        pub length_related : (k : ℕ) (s : Running X) (t : Running Y) → Along s t → Along (length_loop G f pre k s) (length_loop G g pre k t)
        unfolding length_loop
        length_related k = through_related Along (top_related k) (members 64 (tops G pre))
