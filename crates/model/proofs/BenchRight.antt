-- The expected reports of the bench set, and of the cases beside it, are the right ones, by the definitions.
use mathlib.Core.Path.{◌≡◌, refl, subst}
use mathlib.Core.List.{List, [], ◌∷◌}
use Prim.Native.Nat.{ℕ}
use native.Mathlib.Omega.{arith}
use Rattle.cycles.specs.Rows.{Right}
use Rattle.bondset.specs.Sets.{single, members}
use Rattle.bondset.specs.Rows.{row_at, put_row}
use Rattle.model.specs.Fold.{through, count}
use Rattle.model.specs.Net.{near1, touch1, read_adj, read_touch, adj_of, touch_of, net_of, near}
use Rattle.model.specs.Layer.{spread, wave}
use Rattle.model.specs.Fault.{Fault, none, fault, or_else, when, first_of, some_below, same_pair, bond_fault, reached, piece_fault, size_fault, first_fault}
use Rattle.model.specs.Run.{report}
use Rattle.model.specs.Bench.{Case, Each, bench, further_cases, bench_reported, further_reported}
use Rattle.model.proofs.Faults.{none_accepted}
use Rattle.model.proofs.Meets.{report_accepted}

-- The first fault of any case.
fault_of : List Case → Fault
fault_of [] = none
fault_of (k ∷ ks) = or_else (first_fault k.compound) (fault_of ks)

faultless : (fault_of bench ≡ none) × (fault_of further_cases ≡ none)
unfolding bench further_cases fault_of or_else when first_of some_below same_pair bond_fault reached piece_fault size_fault first_fault single members row_at put_row through count near1 touch1 read_adj read_touch adj_of touch_of net_of near spread wave
faultless = (refl, refl)

or_none : (f g : Fault) → or_else f g ≡ none → (f ≡ none) × (g ≡ none)
unfolding or_else
or_none Fault.none g e = (refl, e)
or_none (Fault.fault number place) g e = (e, absurd (impossible e))
  where
    impossible : fault number place ≡ none → ⊥
    impossible e = let z : ◌≡◌ {A = ℕ} 0 1 = cc in omega arith

cases_right : (ks : List Case) → fault_of ks ≡ none → Each (λ (k : Case). report k.compound ≡ k.expected) ks
    → Each (λ (k : Case). Right k.compound (λ a. a) k.expected) ks
unfolding fault_of
cases_right [] e r = tt
cases_right (k ∷ ks) e r =
    let (one, others) = or_none (first_fault k.compound) (fault_of ks) e in
    (subst (Right k.compound (λ a. a)) r.0 (report_accepted k.compound ((none_accepted k.compound).0 one)), cases_right ks others r.1)

-- Every expected report of the bench set is the right one for its compound.
pub bench_right : Each (λ (k : Case). Right k.compound (λ a. a) k.expected) bench
bench_right = cases_right bench faultless.0 bench_reported

-- Every expected report beside the bench set is the right one for its compound.
pub further_right : Each (λ (k : Case). Right k.compound (λ a. a) k.expected) further_cases
further_right = cases_right further_cases faultless.1 further_reported
