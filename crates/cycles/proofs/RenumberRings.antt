-- A compound numbered anew has the same relevant rings, minimum bases, interchangeable rings and total.
use mathlib.Core.Path.{◌≡◌, sym, ap, ◌∙◌, subst₂}
use mathlib.Core.List.{List, map}
use Prim.Native.Nat.{ℕ, ◌<◌}
use Rattle.spans.specs.Basis.{Holding}
use Rattle.spans.proofs.Alike.{Alike, alike_sym, holding_map, total_map, basis_alike, minimum_alike, middle_alike}
use Rattle.spans.proofs.Alike as Spans
use Rattle.bondset.proofs.Group.{bond_sets}
use Rattle.cycles.specs.Compound.{Compound, Sound}
use Rattle.cycles.specs.Ring.{len, Closed, Relevant}
use Rattle.cycles.specs.Basis.{Basis, Minimum, Interchangeable}
use Rattle.cycles.specs.Rows.{Report, Right}
use Rattle.cycles.specs.Renumbered.{Renumbered}
use Rattle.cycles.proofs.Bases.{relevant_no_sum, no_sum_relevant, marked_minimum, marked_total}
use Rattle.cycles.proofs.RenumberClosed.{renumber, renumbered_alike}

-- The closed sets of two compounds are alike.
abbrev pub AlikeSets : Compound → Compound → Type 0
AlikeSets c c' = Alike bond_sets bond_sets (len c) (len c') (Closed c) (Closed c')

module _ {c c' : Compound} (f : AlikeSets c c') where
  -- Interchangeable rings go to interchangeable rings.
  pub interchangeable_alike : {C D : ℕ} → Interchangeable c C D → Interchangeable c' (f.to C) (f.to D)
  interchangeable_alike (Interchangeable.same e) = Interchangeable.same (ap f.to e)
  interchangeable_alike {C} {D} (Interchangeable.swap before after m n) =
      Interchangeable.swap (map f.to before) (map f.to after) (middle_alike f before C after m) (middle_alike f before D after n)

  -- A relevant ring goes to a relevant ring.
  pub relevant_alike : Sound c → Sound c' → {C : ℕ} → Relevant c C → Relevant c' (f.to C)
  relevant_alike sound sound' r = no_sum_relevant c' sound' (Spans.relevant_alike f (relevant_no_sum c sound r))

module _ {c c' : Compound} (f : AlikeSets c c') where
  -- Closed sets that go to interchangeable ones are interchangeable.
  pub alike_interchangeable : {C D : ℕ} → Closed c C → Closed c D → Interchangeable c' (f.to C) (f.to D) → Interchangeable c C D
  alike_interchangeable {C} {D} p q s =
      subst₂ (Interchangeable c) (f.back_to C p) (f.back_to D q) (interchangeable_alike (alike_sym f) s)

  -- A minimum basis goes to one that holds as many rings interchangeable with the image of C as the first holds with C.
  pub holding_alike : {B : List ℕ} {C n : ℕ} → Minimum c B → Closed c C → Holding (λ D. Interchangeable c D C) B n
      → Holding (λ D. Interchangeable c' D (f.to C)) (map f.to B) n
  holding_alike b p h =
      holding_map f b.basis.inside (λ D w s. interchangeable_alike f s) (λ D w s. alike_interchangeable w p s) h

  module _ (sound : Sound c) (sound' : Sound c') {rank rank' : ℕ → ℕ} (injective : (a b : ℕ) → a < c.n → b < c.n → rank a ≡ rank b → a ≡ b)
      (injective' : (a b : ℕ) → a < c'.n → b < c'.n → rank' a ≡ rank' b → a ≡ b) where
    -- The right reports have one total.
    pub total_alike : {R R' : Report} → Right c rank R → Right c' rank' R' → R.total ≡ R'.total
    total_alike right right' =
        let b = marked_minimum c sound rank injective right in
        right.total_is ∙ sym (total_map f b.basis.inside) ∙ sym (marked_total c' sound' rank' injective' right' (minimum_alike f b))

module _ {c c' : Compound} (r : Renumbered c c') (sound : Sound c) (sound' : Sound c') where
  -- A relevant ring is one in the new numbering.
  pub relevant_renumbered : {S : ℕ} → Relevant c S → Relevant c' (renumber r S)
  relevant_renumbered = relevant_alike (renumbered_alike r sound sound') sound sound'

  -- A basis is one in the new numbering.
  pub basis_renumbered : {B : List ℕ} → Basis c B → Basis c' (map (renumber r) B)
  basis_renumbered = basis_alike (renumbered_alike r sound sound')

  -- A minimum basis is one in the new numbering.
  pub minimum_renumbered : {B : List ℕ} → Minimum c B → Minimum c' (map (renumber r) B)
  minimum_renumbered = minimum_alike (renumbered_alike r sound sound')

  -- Interchangeable rings are interchangeable in the new numbering.
  pub interchangeable_renumbered : {C D : ℕ} → Interchangeable c C D → Interchangeable c' (renumber r C) (renumber r D)
  interchangeable_renumbered = interchangeable_alike (renumbered_alike r sound sound')

  -- And only these.
  pub interchangeable_before : {C D : ℕ} → Closed c C → Closed c D → Interchangeable c' (renumber r C) (renumber r D) → Interchangeable c C D
  interchangeable_before = alike_interchangeable (renumbered_alike r sound sound')

  module _ {rank rank' : ℕ → ℕ} (injective : (a b : ℕ) → a < c.n → b < c.n → rank a ≡ rank b → a ≡ b)
      (injective' : (a b : ℕ) → a < c'.n → b < c'.n → rank' a ≡ rank' b → a ≡ b) where
    -- The total is the same in any numbering, by any ranking.
    pub total_renumbered : {R R' : Report} → Right c rank R → Right c' rank' R' → R.total ≡ R'.total
    total_renumbered = total_alike (renumbered_alike r sound sound') sound sound' injective injective'
