-- The model's entry of a bond, and of an atom, counts exactly the relevant rings that pass through it.
use mathlib.Core.Path.{◌≡◌, sym, ◌∙◌, subst}
use mathlib.Core.List.{List}
use Prim.Native.Nat.{ℕ, ◌<◌}
use native.Mathlib.Omega.{arith}
use lib.ListN.{get_or, replicate, length-replicate}
use Rattle.spans.specs.Elements.{◌∈◌}
use Rattle.bondset.specs.Sets.{bit}
use Rattle.cycles.specs.Compound.{Compound, m, one, other}
use Rattle.cycles.specs.Ring.{degree}
use Rattle.cycles.specs.Family.{Family, Candidate, Kept}
use Rattle.cycles.specs.Rows.{Row, Report, Right}
use Rattle.cycles.specs.Through.{Exactly, sum_to, lengths_times_sizes, BondEntries, AtomEntries, BondCounts, AtomCounts}
use Rattle.cycles.proofs.PathsDown.{down_some}
use Rattle.cycles.proofs.Families.{prototype_made}
use Rattle.cycles.proofs.Exact.{exactly_at}
use Rattle.cycles.proofs.Ranks.{in_map, all_each}
use Rattle.cycles.proofs.ThroughRows.{MemberWith, bond_count, atom_count, bond_entries_sum, atom_entries_sum}
use Rattle.model.specs.Net.{net_of}
use Rattle.model.specs.Through.{bond_share, atom_share, deep, layers_of, bond_entry, atom_entry}
use Rattle.model.specs.Tables.{bond_by_tables, atom_by_tables, down_of, up_of, bond_of_row, atom_of_row, bond_counts, atom_counts}
use Rattle.model.specs.Run.{report_by}
use Rattle.model.proofs.Ready.{held, Ready, Layered}
use Rattle.model.proofs.Layers.{layers_layered}
use Rattle.model.proofs.ItemsCandidates.{down_small, top_named}
use Rattle.model.proofs.MeetsBounds.{kept_long}
use Rattle.model.proofs.Meets.{report_right}
use Rattle.model.proofs.Shares.{bond_share_exact, atom_share_exact, different, layers_apart, layer_top, layer_p, layer_q, layers_some}
use Rattle.model.proofs.Tables.{Apart, family_bond_by_tables, family_atom_by_tables, zero_places, entries_added}

module _ (c : Compound) (rank pre : ℕ → ℕ) (ready : Ready c rank pre) where
  candidate_deep : {f : Family} {d : ℕ} {link : List ℕ} → Candidate c rank f d link → d ≡ deep f
  candidate_deep (Candidate.odd less bond under_p under_q long) = omega arith
  candidate_deep (Candidate.even less bond_p bond_q under_x under_p under_q long) = omega arith

  ends_precede : {f : Family} {d : ℕ} {link : List ℕ} → Candidate c rank f d link → rank f.p < rank f.r
  ends_precede (Candidate.odd less bond under_p under_q long) = under_p.0
  ends_precede (Candidate.even less bond_p bond_q under_x under_p under_q long) = under_p.0

  module _ {f : Family} (kept : Kept c rank f) where
    abbrev link : List ℕ
    link = kept.prototype.link

    deep_candidate : Candidate c rank f (deep f) link
    deep_candidate =
        subst (λ (d : ℕ). Candidate c rank f d link) (candidate_deep kept.prototype.candidate) kept.prototype.candidate

    top_small : f.r < c.n
    top_small =
        let made = prototype_made c ready.sound rank kept.prototype in
        let some = down_some c rank made.down_p (ends_precede made.candidate) in
        top_named c rank pre ready made.down_p (down_small c rank pre ready made.down_p some)

    layers_are : Layered c pre f.r (deep f) (layers_of c pre f)
    unfolding layers_of
    layers_are =
        layers_layered c rank pre (held ready) f.r (deep f) (replicate 33 0)
        (omega (arith, length-replicate {A = ℕ} 33 0, (kept_long c ready.sound rank kept).1, ready.atoms))

    abbrev us : List ℕ
    us = layers_of c pre f

    apart : Apart (net_of c) us (deep f)
    apart = layers_apart c rank pre ready us (deep f) (deep f) f top_small layers_are (omega arith) deep_candidate kept

    some : 0 < deep f
    some = layers_some c rank pre ready us (deep f) (deep f) f top_small layers_are (omega arith) deep_candidate kept

    top : (t : ℕ) → bit (get_or us 0 0) t ≡ 1 → f.r ≡ t
    top = layer_top c rank pre ready us (deep f) (deep f) f top_small layers_are (omega arith) deep_candidate kept

    in_p : bit (get_or us (deep f) 0) f.p ≡ 1
    in_p = layer_p c rank pre ready us (deep f) (deep f) f top_small layers_are (omega arith) deep_candidate kept

    in_q : bit (get_or us (deep f) 0) f.q ≡ 1
    in_q = layer_q c rank pre ready us (deep f) (deep f) f top_small layers_are (omega arith) deep_candidate kept

    other' : f.p ≡ f.q → ⊥
    other' = different c rank pre ready us (deep f) (deep f) f top_small layers_are (omega arith) deep_candidate kept

    -- A kept family's share of a bond counts its members that hold the bond.
    pub family_bond : {k : ℕ} → k < m c
        → Exactly (bond_share (net_of c) (layers_of c pre f) (deep f) f (one c k) (other c k)) (MemberWith c rank (λ C. bit C k ≡ 1) f)
    family_bond inside =
        bond_share_exact c rank pre ready (layers_of c pre f) (deep f) (deep f) f top_small layers_are (omega arith) deep_candidate kept inside

    -- A kept family's share of an atom counts its members that meet the atom.
    pub family_atom : {a : ℕ} → a < c.n
        → Exactly (atom_share (net_of c) (layers_of c pre f) (deep f) f a) (MemberWith c rank (λ C. 0 < degree c C a) f)
    family_atom inside =
        atom_share_exact c rank pre ready (layers_of c pre f) (deep f) (deep f) f top_small layers_are (omega arith) deep_candidate kept inside

    -- The same from the family's two tables.
    pub family_bond_tables : {k : ℕ} → k < m c
        → Exactly (bond_by_tables (net_of c) (layers_of c pre f) (deep f) f (up_of (net_of c) (layers_of c pre f) (deep f) f)
        (down_of (net_of c) (layers_of c pre f) (deep f) f) (one c k) (other c k)) (MemberWith c rank (λ C. bit C k ≡ 1) f)
    family_bond_tables {k} inside =
        exactly_at (sym (family_bond_by_tables (net_of c) us (deep f) f apart some top in_p in_q other' (one c k) (other c k))) (family_bond inside)

    pub family_atom_tables : {a : ℕ} → a < c.n
        → Exactly (atom_by_tables (net_of c) (layers_of c pre f) (deep f) f (up_of (net_of c) (layers_of c pre f) (deep f) f)
        (down_of (net_of c) (layers_of c pre f) (deep f) f) a) (MemberWith c rank (λ C. 0 < degree c C a) f)
    family_atom_tables {a} inside =
        exactly_at (sym (family_atom_by_tables (net_of c) us (deep f) f apart some top in_p in_q other' a)) (family_atom inside)

  module _ {R : Report} (right : Right c rank R) where
    row_kept : {row : Row} → row ∈ R.rows → Kept c rank row.family
    row_kept {row} i = (right.kept row.family).0 (in_map (λ row. row.family) i)

    -- The model's entries of the bonds are right, for any right report.
    pub bond_entries : BondEntries c (bond_entry c pre R.rows)
    unfolding bond_entry
    bond_entries k inside =
        bond_count c ready.sound rank ready.injective right k _ (all_each R.rows (λ row i. family_bond (row_kept i) inside))

    -- The model's entries of the atoms are right, for any right report.
    pub atom_entries : AtomEntries c (atom_entry c pre R.rows)
    unfolding atom_entry
    atom_entries a inside =
        atom_count c ready.sound rank ready.injective right a _ (all_each R.rows (λ row i. family_atom (row_kept i) inside))

    -- The counts that the tables give are the right ones: of the bonds ..
    pub bond_counts_lem : BondCounts c (bond_counts c pre R.rows)
    unfolding bond_counts bond_of_row
    bond_counts_lem =
        let added = entries_added (bond_of_row c pre) (m c) R.rows (replicate (m c) 0) (omega (arith, length-replicate {A = ℕ} (m c) 0)) in
        record {
          many = added.long ∙ length-replicate (m c) 0;
          entry = λ k inside.
              exactly_at (omega (arith, added.entry k inside, zero_places (m c) k))
              (bond_count c ready.sound rank ready.injective right k (λ row. bond_of_row c pre row k)
              (all_each R.rows (λ row i. family_bond_tables (row_kept i) inside)));
        }

    -- .. and of the atoms.
    pub atom_counts_lem : AtomCounts c (atom_counts c pre R.rows)
    unfolding atom_counts atom_of_row
    atom_counts_lem =
        let added = entries_added (atom_of_row c pre) c.n R.rows (replicate c.n 0) (omega (arith, length-replicate {A = ℕ} c.n 0)) in
        record {
          many = added.long ∙ length-replicate c.n 0;
          entry = λ a inside.
              exactly_at (omega (arith, added.entry a inside, zero_places c.n a))
              (atom_count c ready.sound rank ready.injective right a (λ row. atom_of_row c pre row a)
              (all_each R.rows (λ row i. family_atom_tables (row_kept i) inside)));
        }

    -- The entries of the bonds, and those of the atoms, add up to the lengths times the sizes.
    pub entries_sum : (sum_to (m c) (bond_entry c pre R.rows) ≡ lengths_times_sizes R.rows)
        × (sum_to c.n (atom_entry c pre R.rows) ≡ lengths_times_sizes R.rows)
    entries_sum = (
      bond_entries_sum c ready.sound rank ready.injective right _ bond_entries,
      atom_entries_sum c ready.sound rank ready.injective right _ atom_entries,
    )

  -- For the model's own report.
  pub report_bond_counts : BondCounts c (bond_counts c pre (report_by pre c).rows)
  report_bond_counts = bond_counts_lem (report_right c rank pre ready)

  pub report_atom_counts : AtomCounts c (atom_counts c pre (report_by pre c).rows)
  report_atom_counts = atom_counts_lem (report_right c rank pre ready)
