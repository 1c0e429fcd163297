-- Bases and marked prototypes of a compound in any number of pieces: how many there are, at most 82, and when all have been found.
use mathlib.Core.Path.{◌≡◌}
use mathlib.Core.List.{List}
use Prim.Native.Nat.{ℕ, ◌+◌, ◌<◌, ◌≤◌}
use native.Mathlib.Omega.{arith}
use lib.ListN.{length}
use Rattle.spans.specs.Basis.{All}
use Rattle.spans.specs.Graded.{below}
use Rattle.spans.proofs.Lists.{all_map}
use Rattle.spans.proofs.Indep.{Indep}
use Rattle.spans.proofs.Steinitz.{steinitz, spanned}
use Rattle.spans.proofs.Short.{SpansShort}
use Rattle.spans.proofs.Marking.{full_stops}
use Rattle.bondset.proofs.Group.{bond_sets}
use Rattle.cycles.specs.Compound.{Compound, m, Sound}
use Rattle.cycles.specs.Ring.{len, Closed, Relevant}
use Rattle.cycles.specs.Basis.{Basis}
use Rattle.cycles.specs.Pieces.{Pieces, cyclomatic_of}
use Rattle.cycles.specs.Rows.{Report, Right}
use Rattle.cycles.proofs.Dimension.{closed_basis}
use Rattle.cycles.proofs.Bases.{relevant_no_sum, marked_minimum, marked_full_no_longer}
use Rattle.cycles.proofs.PiecesCount.{pieces_exist, pieces_rooted, dimension_pieces}
use Rattle.cycles.proofs.PiecesFew.{pieces_few}

module _ (c : Compound) (sound : Sound c) where
  -- In k pieces there are at least n - k bonds.
  pub pieces_bonds : {k : ℕ} → Pieces c k → c.n ≤ m c + k
  pieces_bonds p = let (B, b) = closed_basis c sound in omega (arith, dimension_pieces c sound p B b)

  -- A basis of the closed sets of at most 96 bonds has at most 82 members.
  pub basis_few : {B : List ℕ} → m c ≤ 96 → Basis c B → length B ≤ 82
  basis_few {B} h b = let (k, p) = pieces_exist c sound in omega (arith, dimension_pieces c sound p B b, pieces_few c sound p h)

  -- Independent closed sets of at most 96 bonds are at most 82.
  pub independent_few : {S : List ℕ} → m c ≤ 96 → Indep bond_sets S → All (Closed c) S → length S ≤ 82
  independent_few h i a =
      let (B, b) = closed_basis c sound in
      omega (arith, steinitz bond_sets i (all_map (spanned bond_sets b.spans) a), basis_few h b)

  -- Once the closed sets shorter than j have m - n + k independent members, no relevant ring has length j or more.
  pub full_no_longer_pieces : {k j C : ℕ} {S : List ℕ} → Pieces c k → Indep bond_sets S → SpansShort bond_sets (len c) (Closed c) j S
      → length S + c.n ≡ m c + k → Relevant c C → len c C < j
  full_no_longer_pieces {S = S} p i h e r =
      let (B, b) = closed_basis c sound in
      let full : length S ≡ length B = omega (arith, dimension_pieces c sound p B b) in
      full_stops bond_sets (len c) (Closed c) i h b full (relevant_no_sum c sound r)

  module _ (rank : ℕ → ℕ) (injective : (a b : ℕ) → a < c.n → b < c.n → rank a ≡ rank b → a ≡ b) {R : Report} (right : Right c rank R) where
    -- In k pieces m - n + k prototypes are marked.
    pub marked_count_of_pieces : {k : ℕ} → Pieces c k → length right.basis + c.n ≡ m c + k
    marked_count_of_pieces p = dimension_pieces c sound p right.basis (marked_minimum c sound rank injective right).basis

    -- As many as the cyclomatic number says.
    pub marked_number_of_pieces : {k : ℕ} → Pieces c k → length right.basis ≡ cyclomatic_of c k
    marked_number_of_pieces p = omega (arith, marked_count_of_pieces p)

    -- Once so many prototypes shorter than j are marked, no relevant ring has length j or more.
    pub marked_full_no_longer_pieces : {k j C : ℕ} → Pieces c k → length (below (len c) j right.basis) + c.n ≡ m c + k → Relevant c C → len c C < j
    marked_full_no_longer_pieces {j = j} p e r =
        let (root, rooted, d) = pieces_rooted c sound p in
        marked_full_no_longer c sound rank injective right root rooted (omega (arith, e, d)) r
