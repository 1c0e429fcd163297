-- The number of paths asks for the neighbours alone.
use mathlib.Core.Path.{◌≡◌, refl, ap, ◌∙◌}
use mathlib.Core.List.{List, [], ◌∷◌}
use Prim.Native.Nat.{ℕ, zero, suc, ◌+◌}
use lib.Bits.{bit_and}
use lib.ListN.{get_or}
use Rattle.bondset.specs.Sets.{members}
use Rattle.model.specs.Fold.{through}
use Rattle.model.specs.Net.{Net, nbrs}
use Rattle.model.specs.Layer.{ways}
use Rattle.paths.specs.Nets.{net}

through_same : (f g : ℕ → ℕ) → ((t : ℕ) → f t ≡ g t) → (L : List ℕ) (acc : ℕ) → through (λ t acc. acc + f t) L acc ≡ through (λ t acc. acc + g t) L acc
unfolding through
through_same f g e [] acc = refl
through_same f g e (t ∷ L) acc = ap (λ (x : ℕ). through (λ t acc. acc + f t) L (acc + x)) (e t) ∙ through_same f g e L (acc + g t)

pub ways_net : (G : Net) (us : List ℕ) (e t : ℕ) → ways (net G.adj []) us e t ≡ ways G us e t
unfolding ways
ways_net G us zero t = refl
ways_net G us (suc e) t = through_same (ways (net G.adj []) us e) (ways G us e) (ways_net G us e) (members 64 (bit_and (nbrs G t) (get_or us e 0))) 0
