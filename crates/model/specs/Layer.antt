-- The layers of atoms under a top atom, chosen paths through them, and the number of paths.
use Rattle.std.specs.Prelude.{cond, ◌&&◌, List, ℕ, zero, suc, ◌+◌, ◌-◌, ◌^◌, eqb, ltb, get_or, set}
use Rattle.std.specs.Int.Bits.{bit_and, bit_xor}
use Rattle.std.specs.Int.Count.{count_trailing_zeros}
use Rattle.bondset.specs.Sets.{members}
use Rattle.model.specs.Fold.{through, count}
use Rattle.model.specs.Net.{Net, nbrs, near, bond}

-- A search from r as far as it has come: all atoms seen, those at the last distance, and those of them under r.
pub record Wave : Type 0 where
  pub seen : ℕ
  pub front : ℕ
  pub under : ℕ

-- One step further, among the atoms `pre` that precede r.
unfoldable pub spread : Net → ℕ → Wave → Wave
spread G pre w =
    let reach = near G w.front in
    let front = reach - bit_and reach w.seen in
    record { seen = w.seen + front; front = front; under = bit_and (bit_and front (near G w.under)) pre }

unfoldable pub wave : Net → ℕ → ℕ → ℕ → Wave
wave G pre r zero = record { seen = 2 ^ r; front = 2 ^ r; under = 2 ^ r }
wave G pre r (suc d) = spread G pre (wave G pre r d)

-- The atoms under r at distance d; r itself for d = 0.
unfoldable pub layer : Net → ℕ → ℕ → ℕ → ℕ
layer G pre r d = (wave G pre r d).under

-- The layers 0 to depth, written over the list.
unfoldable pub layers_into : Net → ℕ → ℕ → ℕ → List ℕ → List ℕ
layers_into G pre r depth us = through (λ d us. set us d (layer G pre r d)) (count 0 (suc depth)) us

-- The lowest atom of a set of atoms.
abbrev pub low : ℕ → ℕ
low s = count_trailing_zeros 64 s

-- The chosen paths from a and b, i steps below the top, walked in step: the bonds on the way added to `ring`, or the
-- empty set if they meet below the top.
unfoldable pub walk : Net → List ℕ → ℕ → ℕ → ℕ → ℕ → ℕ
walk G us zero a b ring = ring
walk G us (suc i) a b ring =
    let a' = low (bit_and (nbrs G a) (get_or us i 0)) in
    let b' = low (bit_and (nbrs G b) (get_or us i 0)) in
    cond (ltb a' 64 && ltb b' 64) (cond (eqb a' b' && ltb 0 i) 0 (walk G us i a' b' (bit_xor (bit_xor ring (bond G a a')) (bond G b b')))) 0

-- The number of paths from t to the top, e steps below it.
unfoldable pub ways : Net → List ℕ → ℕ → ℕ → ℕ
ways G us zero t = 1
ways G us (suc e) t = through (λ s acc. acc + ways G us e s) (members 64 (bit_and (nbrs G t) (get_or us e 0))) 0
