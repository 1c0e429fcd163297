-- The bonds of an accepted compound.
use Prim.Native.Nat.{◌+◌, ◌≤◌}
use native.Mathlib.Omega.{arith}
use Rattle.cycles.specs.Compound.{Compound, m}
use Rattle.cycles.specs.Refusal.{Accepted}
use Rattle.cycles.proofs.Dimension.{closed_basis, dimension_one_piece_sum}
use Rattle.model.proofs.Meets.{accepted_ready}

module _ (c : Compound) where
  -- An accepted compound has bonds enough to hang together.
  pub accepted_bonds : Accepted c → c.n ≤ m c + 1
  accepted_bonds accepted =
      let ready = accepted_ready c accepted in
      let basis = closed_basis c ready.sound in
      omega (arith, dimension_one_piece_sum c ready.sound ready.one_piece ready.some basis.0 basis.1)
