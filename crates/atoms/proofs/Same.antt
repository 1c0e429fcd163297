-- `tops` reads the atoms and their neighbours alone, so what it promises of them holds of a whole net.
use mathlib.Core.Path.{◌≡◌, refl}
use Prim.Native.Nat.{ℕ}
use Rattle.model.specs.Net.{Net}
use Rattle.model.specs.Loops.{top_step, tops}
use Rattle.atoms.specs.Nets.{atoms}

-- The top atoms, which `tops` finds.
pub tops_same : (G : Net) (pre : ℕ → ℕ) → tops (atoms G.n G.adj) pre ≡ tops G pre
unfolding tops top_step
tops_same G pre = refl
