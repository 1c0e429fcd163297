-- What the bytes of the left count buffers say: how many relevant rings pass through a bond, and through an atom.
use mathlib.Core.Path.{◌≡◌, refl, sym, ◌∙◌, subst}
use mathlib.Core.List.{List}
use Prim.Native.Nat.{ℕ, ◌+◌, ◌*◌, ◌^◌, ◌<◌, ◌≤◌}
use native.Mathlib.Nat.{mod-eq_of_lt}
use native.Mathlib.Omega.{arith}
use lib.ListN.{length, get_or, drop}
use lib.Seq.{get_or-drop}
use Rattle.bondset.specs.Bytes.{byte_of, bytes_of}
use Rattle.bondset.proofs.Bytes.{length_bytes_of, get_or_bytes_of, of_first_byte_of}
use Rattle.cycles.specs.Compound.{Compound, m, Sound}
use Rattle.cycles.specs.Rows.{At, Report, Right, most}
use Rattle.cycles.specs.Through.{sum_to, lengths_times_sizes, BondEntries, AtomEntries, BondCounts, AtomCounts}
use Rattle.cycles.proofs.Ranks.{at_exists}
use Rattle.cycles.proofs.Exact.{exactly_at}
use Rattle.cycles.proofs.ThroughRows.{bond_entries_sum, atom_entries_sum, entry_fits}
use Rattle.answers.specs.Answered.{over}
use Rattle.answers.specs.Through.{count_bytes, entry_at}
use Rattle.answers.proofs.Places.{length_blocks, get_or_blocks}

at_get_d : {es : List ℕ} {k x : ℕ} → At es k x → get_or es k 0 ≡ x
at_get_d At.here = refl
at_get_d (At.later a) = at_get_d a

-- An entry has eight bytes.
pub length_count_bytes : (es : List ℕ) → length (count_bytes es) ≡ 8 * length es
unfolding count_bytes
length_count_bytes = length_blocks 8 (bytes_of 8) count_bytes (length_bytes_of 8) refl (λ x xs. refl)

module _ (es lent : List ℕ) where
  abbrev left : List ℕ
  left = over (count_bytes es) lent

  entry_byte : {k x : ℕ} (j : ℕ) → At es k x → j < 8 → get_or (drop (8 * k) left) j 0 ≡ byte_of x j
  unfolding over count_bytes
  entry_byte {k} {x} j a h =
      get_or-drop (8 * k) left j 0
      ∙ get_or_blocks 8 (bytes_of 8) count_bytes (length_bytes_of 8) refl (λ x xs. refl) j (8 * k + j) (drop (length (count_bytes es)) lent) h refl a
      ∙ get_or_bytes_of 8 x j h

  -- An entry that fits is read back.
  pub entry_read : (k : ℕ) → k < length es → get_or es k 0 < 2 ^ 64 → entry_at left k ≡ get_or es k 0
  unfolding entry_at
  entry_read k inside fits =
      let (x, a) = at_exists es k inside in
      let same = at_get_d a in
      of_first_byte_of 8 x (drop (8 * k) left) (λ j h. entry_byte j a h) ∙ mod-eq_of_lt (subst (λ (n : ℕ). n < 2 ^ 64) same fits) ∙ sym same

module _ (c : Compound) (sound : Sound c) (rank : ℕ → ℕ) (injective : (a b : ℕ) → a < c.n → b < c.n → rank a ≡ rank b → a ≡ b) {R : Report}
    (right : Right c rank R) (fits : R.rings ≤ most) (es lent : List ℕ) where
  -- Entry k of the left buffer counts exactly the relevant rings that hold bond k.
  pub left_bonds : BondCounts c es → BondEntries c (entry_at (over (count_bytes es) lent))
  left_bonds counts k inside =
      let s = counts.entry k inside in
      exactly_at (sym (entry_read es lent k (omega (arith, counts.many)) (omega (arith, entry_fits c sound rank injective right s, fits)))) s

  -- Entry a of the left buffer counts exactly the relevant rings that meet atom a.
  pub left_atoms : AtomCounts c es → AtomEntries c (entry_at (over (count_bytes es) lent))
  left_atoms counts a inside =
      let s = counts.entry a inside in
      exactly_at (sym (entry_read es lent a (omega (arith, counts.many)) (omega (arith, entry_fits c sound rank injective right s, fits)))) s

  -- "The entries together equal the sum, over families, of length times size."
  pub left_bonds_sum : BondCounts c es → sum_to (m c) (entry_at (over (count_bytes es) lent)) ≡ lengths_times_sizes R.rows
  left_bonds_sum counts = bond_entries_sum c sound rank injective right _ (left_bonds counts)

  pub left_atoms_sum : AtomCounts c es → sum_to c.n (entry_at (over (count_bytes es) lent)) ≡ lengths_times_sizes R.rows
  left_atoms_sum counts = atom_entries_sum c sound rank injective right _ (left_atoms counts)
