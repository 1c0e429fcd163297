-- Bond sets, as numbers under exclusive or, are a group in which each element is its own inverse.
use Prim.Native.Nat.{ℕ, zero}
use native.Mathlib.Decide.{ℕ_discrete}
use lib.Bits.{bit_xor, xor_comm, xor_self, xor_zero_l}
use Rattle.spans.specs.Group.{Space}
use Rattle.bondset.proofs.Laws.{xor_assoc}

unfoldable pub bond_sets : Space ℕ
bond_sets = record { o = zero; ◌⊕◌ = bit_xor; comm = xor_comm; assoc = xor_assoc; self = xor_self; left = xor_zero_l; dec = ℕ_discrete }
