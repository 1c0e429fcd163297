-- Small inputs and the refusal that each must get, or none, and that the model gives it.
use Rattle.std.specs.Prelude.{◌≡◌, refl, List, [], ◌∷◌, ℕ, zero, suc}
use Rattle.cycles.specs.Compound.{Compound}
use Rattle.bondset.specs.Sets.{members}
use Rattle.model.specs.Fold.{through, count}
use Rattle.model.specs.Net.{near1, read_adj, adj_of, net_of, near}
use Rattle.model.specs.Layer.{spread, wave}
use Rattle.model.specs.Fault.{Fault, none, fault, or_else, when, first_of, some_below, same_pair, bond_fault, reached, piece_fault, size_fault, first_fault}
use Rattle.model.specs.Bench.{Each}

-- An input and what it must get.
pub record FaultCase : Type 0 where
  pub compound : Compound
  pub expected : Fault

-- atoms, bonds; the fault
abbrev case : ℕ → List ℕ → Fault → FaultCase
case n bonds f = record { compound = record { n = n; bytes = bonds }; expected = f }

-- Bonds a to a + 1, a + 1 to a + 2, ..: so many.
unfoldable pub chain : ℕ → ℕ → List ℕ
chain zero a = []
chain (suc k) a = a ∷ suc a ∷ chain k (suc a)

-- The cases, refusal by refusal.
unfoldable pub fault_bench : List FaultCase
fault_bench =
    -- 1: no atom, also with other faults; 65 atoms
    case 0 [] (fault 1 0)
    ∷ case 0 (1 ∷ []) (fault 1 0)
    ∷ case 65 (chain 64 0) (fault 1 0)
    -- 2: an odd number of bytes; 97 bonds; both before any bond is looked at
    ∷ case 3 (0 ∷ []) (fault 2 0)
    ∷ case 3 (3 ∷ 3 ∷ 2 ∷ []) (fault 2 0)
    ∷ case 64 (chain 97 0) (fault 2 0)
    -- 3: atom n, first or second in the bond; at the first such bond; before 4 in the same bond
    ∷ case 3 (0 ∷ 1 ∷ 1 ∷ 3 ∷ []) (fault 3 1)
    ∷ case 3 (3 ∷ 0 ∷ []) (fault 3 0)
    ∷ case 64 (chain 96 0) (fault 3 63)
    ∷ case 3 (3 ∷ 3 ∷ 2 ∷ 2 ∷ []) (fault 3 0)
    -- 4: a loop; before a later 3; before 5 in the same bond
    ∷ case 3 (0 ∷ 1 ∷ 2 ∷ 2 ∷ []) (fault 4 1)
    ∷ case 3 (2 ∷ 2 ∷ 3 ∷ 3 ∷ []) (fault 4 0)
    -- 5: a repeated bond, the same way and the other way round; before a later 4
    ∷ case 3 (0 ∷ 1 ∷ 1 ∷ 2 ∷ 0 ∷ 1 ∷ []) (fault 5 2)
    ∷ case 3 (0 ∷ 1 ∷ 1 ∷ 2 ∷ 1 ∷ 0 ∷ []) (fault 5 2)
    ∷ case 3 (0 ∷ 1 ∷ 0 ∷ 1 ∷ 1 ∷ 1 ∷ []) (fault 5 1)
    -- 6: two atoms without a bond; two pieces; the last atom alone
    ∷ case 2 [] (fault 6 0)
    ∷ case 4 (0 ∷ 1 ∷ 2 ∷ 3 ∷ []) (fault 6 0)
    ∷ case 4 (0 ∷ 1 ∷ 1 ∷ 2 ∷ 2 ∷ 0 ∷ []) (fault 6 0)
    -- accepted: one atom; two; a ring; a chain with its bonds in reverse order; a chain of 64 atoms
    ∷ case 1 [] none
    ∷ case 2 (1 ∷ 0 ∷ []) none
    ∷ case 3 (0 ∷ 1 ∷ 1 ∷ 2 ∷ 2 ∷ 0 ∷ []) none
    ∷ case 5 (3 ∷ 4 ∷ 2 ∷ 3 ∷ 1 ∷ 2 ∷ 0 ∷ 1 ∷ []) none
    ∷ case 64 (chain 63 0) none
    ∷ []

-- `first_fault` with all that it calls open, to be run.
unfoldable pub computed_fault : Compound → Fault
unfolding members through count near1 read_adj adj_of net_of near spread wave or_else when first_of some_below same_pair bond_fault reached piece_fault size_fault first_fault
computed_fault c = first_fault c

-- The model gives what each case says.
pub bench_refused : Each (λ (k : FaultCase). first_fault k.compound ≡ k.expected) fault_bench
unfolding computed_fault fault_bench chain
bench_refused = (refl, (refl, (refl, (refl, (refl, (refl, (refl, (refl, (refl, (refl, (refl, (refl, (refl, (refl, (refl, (refl, (refl, (refl, (refl, (refl, (refl, (refl, (refl, tt)))))))))))))))))))))))
