-- How large closed sets are, and how many of them are independent, in a compound within the limits.
use mathlib.Core.List.{List}
use Prim.Native.Nat.{ℕ, ◌^◌, ◌<◌, ◌≤◌}
use native.Mathlib.Nat.{lt_of_lt_of_le}
use native.Mathlib.Omega.{arith}
use lib.ListN.{length}
use lib.Pow.{pow_mono}
use Rattle.spans.specs.Basis.{All}
use Rattle.spans.proofs.Lists.{all_map}
use Rattle.spans.proofs.Indep.{Indep}
use Rattle.spans.proofs.Steinitz.{steinitz, spanned}
use Rattle.bondset.proofs.Group.{bond_sets}
use Rattle.cycles.specs.Compound.{Compound, m, Sound, OnePiece}
use Rattle.cycles.specs.Ring.{Closed}
use Rattle.cycles.proofs.Dimension.{closed_basis, dimension_one_piece}
use Rattle.cycles.proofs.Few.{cyclomatic_few}

module _ (c : Compound) where
  -- A closed set of at most 96 bonds fits into two words.
  pub closed_fits : {S : ℕ} → m c ≤ 96 → Closed c S → S < 2 ^ 128
  closed_fits l h = lt_of_lt_of_le h.bonds (pow_mono (room l))
    where
      room : m c ≤ 96 → m c ≤ 128
      room l = omega arith

module _ (c : Compound) (sound : Sound c) where
  -- Independent closed sets of a compound within the limits are at most 82.
  pub closed_few : {xs : List ℕ} → OnePiece c → 0 < c.n → m c ≤ 96 → Indep bond_sets xs → All (Closed c) xs → length xs ≤ 82
  closed_few {xs} piece some l i a =
      let (B, b) = closed_basis c sound in
      let h : length xs ≤ length B = steinitz bond_sets i (all_map (spanned bond_sets b.spans) a) in
      omega (arith, dimension_one_piece c sound piece some B b, cyclomatic_few c sound l)
