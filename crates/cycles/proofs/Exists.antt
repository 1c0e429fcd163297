-- Every compound has a minimum basis: a basis that is not minimum gives way to a shorter one, which a search finds.
use mathlib.Core.List.{List}
use mathlib.Core.Logic.Dec
use mathlib.Core.Logic.{◌⊎◌, inl, inr}
use Prim.Native.Nat.{ℕ, zero, suc, ◌^◌, ◌<◌}
use native.Mathlib.Omega.{arith}
use native.Mathlib.Decide.{map_dec, ℕ_discrete, dec_lt}
use Rattle.spans.specs.Graded.{total, below}
use Rattle.spans.proofs.Lists.{all_map}
use Rattle.spans.proofs.Sift.{sift_most}
use Rattle.spans.proofs.Span.{Span, span_dec, mono}
use Rattle.spans.proofs.Steinitz.{spans}
use Rattle.spans.proofs.Graded.{split, split_part, split_low, graded_minimum}
use Rattle.spans.proofs.Minimum.{shorter_basis}
use Rattle.bondset.proofs.Group.{bond_sets}
use Rattle.cycles.specs.Compound.{Compound, Sound, m}
use Rattle.cycles.specs.Ring.{len, Closed}
use Rattle.cycles.specs.Basis.{Basis, Minimum}
use Rattle.cycles.proofs.PathsDecide.{both_dec, Least, least_below}
use Rattle.cycles.proofs.Dimension.{boundary, closed_boundary, boundary_closed, closed_basis}

module _ (c : Compound) (sound : Sound c) where
  -- Whether a bond set is closed is decided.
  pub closed_dec : (S : ℕ) → Dec (Closed c S)
  closed_dec S =
      map_dec (λ p. boundary_closed c sound p.0 p.1) (λ C. (C.bonds, closed_boundary c C))
      (both_dec (dec_lt S (2 ^ m c)) (ℕ_discrete (boundary c S) 0))

  -- A closed set that the members of B up to its length do not span.
  abbrev Missed : List ℕ → ℕ → Type 0
  Missed B S = Closed c S × ¬ Span bond_sets (below (len c) (suc (len c S)) B) S

  missed_dec : (B : List ℕ) (S : ℕ) → Dec (Missed B S)
  missed_dec B S = both_dec (closed_dec S) (Dec.not (span_dec bond_sets (below (len c) (suc (len c S)) B) S))

  none_missed_minimum : {B : List ℕ} → Basis c B → ((S : ℕ) → S < 2 ^ m c → Missed B S → ⊥) → Minimum c B
  none_missed_minimum {B} b none =
      graded_minimum bond_sets (len c) (Closed c) b
      (record { spans = λ k. spans bond_sets (λ S w. by_cases k S w.0 w.1 (span_dec bond_sets (below (len c) (suc (len c S)) B) S)) })
    where
      by_cases : (k S : ℕ) → Closed c S → len c S < k → Dec (Span bond_sets (below (len c) (suc (len c S)) B) S) → Span bond_sets (below (len c) k B) S
      by_cases k S w h (yes s) =
          let low = split (len c) (suc (len c S)) B in
          mono bond_sets (sift_most _ (split (len c) k B) (split_part (len c) low) (all_map (λ T l. omega arith) (split_low (len c) low))) s
      by_cases k S w h (no n) = absurd (none S w.bonds (w, n))

  improved : (bound : ℕ) {B : List ℕ} → Basis c B → total (len c) B < bound → (M : List ℕ) × Minimum c M
  improved zero b h = absurd (omega arith)
  improved (suc bound) {B} b h = go (least_below (Missed B) (missed_dec B) (2 ^ m c)) (λ C d l. improved bound d l)
    where
      go : Least (Missed B) (2 ^ m c) ⊎ ((S : ℕ) → S < 2 ^ m c → Missed B S → ⊥)
          → ((C : List ℕ) → Basis c C → total (len c) C < bound → (M : List ℕ) × Minimum c M) → (M : List ℕ) × Minimum c M
      go (inl l) rest =
          let (C, d, less) = shorter_basis bond_sets (len c) (Closed c) (suc (len c l.at)) b l.holds.0 (omega arith) l.holds.1 in
          rest C d (omega arith)
      go (inr none) rest = (B, none_missed_minimum b none)

  -- Every compound has a minimum basis.
  pub minimum_exists : (B : List ℕ) × Minimum c B
  minimum_exists = let (B, b) = closed_basis c sound in improved (suc (total (len c) B)) b (omega arith)
