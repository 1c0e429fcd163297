-- Layers 0 to d are written, and the search stands at distance d - 1.
use Rattle.std.proofs.Common.{◌≡◌, ◌-◌, length, set}
use Rattle.model.specs.Layer.{layer}
use Rattle.atoms.specs.Nets.{neighbours}
use Rattle.atoms.proofs.Loops.{Upto}
use Rattle.search.specs.Search.{Layering}
use Rattle.search.proofs.layers.Given as goal

abbrev pub invariant-loop-d : goal.invariant-loop-d
invariant-loop-d l =
    let G = neighbours l.fn.adj in
    (length l.layers ≡ length l.initial.layers) × Layering G l.pre l.r (l.d - 1) l.search
    × Upto (λ i us. set us i (layer G l.pre l.r i)) 2 l.initial.layers (l.d - 1) l.layers
