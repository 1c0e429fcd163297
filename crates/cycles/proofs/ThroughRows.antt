-- The rings through a bond or an atom, row by row; and all bonds, or all atoms, together.
use mathlib.Core.Path.{◌≡◌, refl, sym, ap, ap₂, ◌∙◌, subst}
use mathlib.Core.Bool.{Bool, true}
use mathlib.Core.List.{List, [], ◌∷◌, ◌++◌, map}
use mathlib.Core.Logic.{◌↔◌, ⊎_elim}
use Prim.Native.Nat.{ℕ, ◌+◌, ◌*◌, ◌<◌, ◌≤◌}
use borrow.Author.Tests.{ltb-true, lt-ltb}
use lib.Dec.{ltb}
use lib.Seq.{ext_get_or}
use Rattle.spans.specs.Elements.{◌∈◌, Once}
use Rattle.spans.specs.Basis.{All}
use Rattle.spans.specs.Graded.{total}
use Rattle.spans.proofs.Lists.{in_left, in_right, in_append, all_map}
use Rattle.spans.proofs.Replace.{total_append}
use Rattle.bondset.specs.Sets.{bit}
use Rattle.graphs.specs.Count.{cnt}
use Rattle.cycles.specs.Compound.{Compound, m, Sound}
use Rattle.cycles.specs.Ring.{len, degree, Relevant}
use Rattle.cycles.specs.Family.{Family, Member, Size}
use Rattle.cycles.specs.Rows.{Row, Ascending, Report, Right, sizes}
use Rattle.cycles.specs.Through.{Exactly, sum_to, lengths_times_sizes, RelevantWith, ThroughBond, ThroughAtom, BondEntries, AtomEntries, BondCounts, AtomCounts}
use Rattle.cycles.proofs.Number.{holds}
use Rattle.cycles.proofs.Carry.{holds_true, bit_one, len_cnt}
use Rattle.cycles.proofs.Edges.{cycle_ring}
use Rattle.cycles.proofs.Arcs.{around}
use Rattle.cycles.proofs.PathsDecide.{not_in_none, joins_sym}
use Rattle.cycles.proofs.MembersAround.{ring_atom}
use Rattle.cycles.proofs.MembersLists.{once_append}
use Rattle.cycles.proofs.MembersCorners.{member_family}
use Rattle.cycles.proofs.Bases.{ascending_rest}
use Rattle.cycles.proofs.Ranks.{in_map, InRow, relevant_in_row}
use Rattle.cycles.proofs.Unique.{ascending_fresh}
use Rattle.cycles.proofs.OneRow.{row_member_relevant}
use Rattle.cycles.proofs.Exact.{exactly_as, exactly_at, exactly_unique, exactly_le, Weighed, weighed_exactly, exactly_weighed, total_same, total_equal, passing, passing_exactly, sum_same, double_count, cnt_exactly}

module _ (c : Compound) (sound : Sound c) where
  -- A relevant ring meets exactly as many atoms as it has bonds.
  pub ring_atoms : {C : ℕ} → Relevant c C → Exactly (len c C) (λ a. 0 < degree c C a)
  ring_atoms {C} relevant =
      let met = ring_atom c relevant.ring in
      let w = around c sound relevant met.1 in
      let ring = cycle_ring c sound w.edges w.closes w.once w.three in
      record {
        listed = met.0 ∷ w.path;
        once = w.once;
        all = λ a. (λ h. rw w.sum ((ring.met a).1 h), λ h. (ring.met a).0 (rw w.sum at h));
        count = sym w.long;
      }

  met_named : {C a : ℕ} → Relevant c C → 0 < degree c C a → a < c.n
  met_named {a} relevant h = let w = around c sound relevant h in sound.named w.closing a _ (joins_sym c w.closes)

  -- A relevant ring, tried at each atom, passes as many times as it has bonds.
  ring_meets : {C : ℕ} → Relevant c C → cnt (λ a. ltb 0 (degree c C a)) c.n ≡ len c C
  ring_meets {C} relevant =
      exactly_unique (cnt_exactly (λ a. ltb 0 (degree c C a)) c.n)
      (exactly_as (ring_atoms relevant) (λ a. (λ h. (met_named relevant h, lt-ltb 0 (degree c C a) h), λ p. ltb-true 0 (degree c C a) p.1)))

sizes_total : (rows : List Row) → sizes rows ≡ total (λ row. row.size) rows
unfolding sizes total
sizes_total [] = refl
sizes_total (row ∷ rows) = ap (λ (n : ℕ). row.size + n) (sizes_total rows)

module _ (c : Compound) (rank : ℕ → ℕ) where
  -- C is a member of the family and has P.
  pub record MemberWith (P : ℕ → Type 0) (f : Family) (C : ℕ) : Type 0 where
    pub member : Member c rank f C
    pub has : P C

  -- C is a member of the family of one of the rows and has P.
  record InRowWith (P : ℕ → Type 0) (rows : List Row) (C : ℕ) : Type 0 where
    in_row : InRow c rank rows C
    has : P C

  in_first : {P : ℕ → Type 0} {row : Row} {rows : List Row} {C : ℕ} → MemberWith P row.family C → InRowWith P (row ∷ rows) C
  in_first {row} w = record { in_row = record { row = row; listed = ◌∈◌.first; member = w.member }; has = w.has }

  in_later : {P : ℕ → Type 0} {row : Row} {rows : List Row} {C : ℕ} → InRowWith P rows C → InRowWith P (row ∷ rows) C
  in_later w =
      record { in_row = record { row = w.in_row.row; listed = ◌∈◌.later w.in_row.listed; member = w.in_row.member }; has = w.has }

  in_rows : {P : ℕ → Type 0} {row other : Row} {rows : List Row} {C : ℕ} {xs ys : List ℕ} → (MemberWith P row.family C → C ∈ xs)
      → (InRowWith P rows C → C ∈ ys) → P C → other ∈ (row ∷ rows) → Member c rank other.family C → C ∈ (xs ++ ys)
  in_rows {ys} f g p ◌∈◌.first member = in_left ys (f (record { member = member; has = p }))
  in_rows {other} {xs} f g p (◌∈◌.later l) member =
      in_right xs (g (record { in_row = record { row = other; listed = l; member = member }; has = p }))

  -- A family's members, weighed by their lengths.
  size_weighed : {f : Family} {s : ℕ} → Size c rank f s → Weighed (len c) (f.long * s) (MemberWith (λ C. Unit {0}) f)
  size_weighed {f} s = record {
    listed = s.members;
    once = s.once;
    all = λ C. (λ h. record { member = (s.all C).0 h; has = tt }, λ w. (s.all C).1 w.member);
    weight = total_equal (len c) f.long s.members (λ C h. ((s.all C).0 h).long) ∙ ap (λ (n : ℕ). f.long * n) s.count;
  }

  -- A family's members, each counted once.
  size_exactly : {f : Family} {s : ℕ} → Size c rank f s → Exactly s (MemberWith (λ C. Unit {0}) f)
  size_exactly s = record {
    listed = s.members;
    once = s.once;
    all = λ C. (λ h. record { member = (s.all C).0 h; has = tt }, λ w. (s.all C).1 w.member);
    count = s.count;
  }

  module _ (sound : Sound c) where
    rows_apart : {f : Family} {rows : List Row} {C : ℕ} → Ascending (f ∷ map (λ row. row.family) rows) → Member c rank f C → InRow c rank rows C → ⊥
    rows_apart {rows} a m w =
        ascending_fresh a
        (subst (λ (f : Family). f ∈ map (λ row. row.family) rows) (member_family c sound rank w.member m)
        (in_map (λ row. row.family) w.listed))

    -- What is weighed in each row is weighed in all: the weights add up.
    rows_weighed : {P : ℕ → Type 0} (ℓ : ℕ → ℕ) (n : Row → ℕ) {rows : List Row} → All (λ row. Weighed ℓ (n row) (MemberWith P row.family)) rows
        → Ascending (map (λ row. row.family) rows) → Weighed ℓ (total n rows) (InRowWith P rows)
    unfolding total
    rows_weighed ℓ n All.nil a = record {
      listed = [];
      once = Once.none;
      all = λ C. (λ h. absurd (not_in_none h), λ w. absurd (not_in_none w.in_row.listed));
      weight = refl;
    }
    rows_weighed {P} ℓ n (All.cons {x = row} {xs = rows} s ss) a =
        let t = rows_weighed ℓ n ss (ascending_rest a) in
        record {
          listed = s.listed ++ t.listed;
          once = once_append s.once t.once (λ C h l. rows_apart a ((s.all C).0 h).member ((t.all C).0 l).in_row);
          all = λ C. (
            λ h. ⊎_elim (λ l. in_first ((s.all C).0 l)) (λ l. in_later ((t.all C).0 l)) (in_append s.listed t.listed h),
            λ w. in_rows {P = P} {row = row} {rows = rows} (s.all C).1 (t.all C).1 w.has w.in_row.listed w.in_row.member,
          );
          weight = total_append ℓ s.listed t.listed ∙ ap₂ ◌+◌ s.weight t.weight;
        }

module _ (c : Compound) (sound : Sound c) (rank : ℕ → ℕ) (injective : (a b : ℕ) → a < c.n → b < c.n → rank a ≡ rank b → a ≡ b) {R : Report}
    (right : Right c rank R) where
  in_row_relevant : {P : ℕ → Type 0} (C : ℕ) → InRowWith c rank P R.rows C ↔ RelevantWith c P C
  in_row_relevant C = (
    λ w. record { relevant = row_member_relevant c sound rank right w.in_row.listed w.in_row.member; has = w.has },
    λ w. record { in_row = relevant_in_row c sound rank injective right w.relevant; has = w.has },
  )

  -- The relevant rings that have P are, row by row, the members that have P.
  pub rows_count : {P : ℕ → Type 0} (n : Row → ℕ) → All (λ row. Exactly (n row) (MemberWith c rank P row.family)) R.rows
      → Exactly (total n R.rows) (RelevantWith c P)
  rows_count n counts =
      exactly_as (weighed_exactly (rows_weighed c rank sound (λ C. 1) n (all_map (λ row s. exactly_weighed s) counts) right.ordered)) in_row_relevant

  -- "Each entry counts the members of all kept families that hold the bond."
  pub bond_count : (k : ℕ) (n : Row → ℕ) → All (λ row. Exactly (n row) (MemberWith c rank (λ C. bit C k ≡ 1) row.family)) R.rows
      → Exactly (total n R.rows) (ThroughBond c k)
  bond_count k = rows_count

  pub atom_count : (a : ℕ) (n : Row → ℕ) → All (λ row. Exactly (n row) (MemberWith c rank (λ C. 0 < degree c C a) row.family)) R.rows
      → Exactly (total n R.rows) (ThroughAtom c a)
  atom_count a = rows_count

  -- All relevant rings, weighed by their lengths.
  all_rings : Weighed (len c) (lengths_times_sizes R.rows) (RelevantWith c (λ C. Unit {0}))
  all_rings =
      let s = rows_weighed c rank sound (len c) (λ row. row.family.long * row.size) (all_map (λ row s. size_weighed c rank s) right.sized) right.ordered in
      record { listed = s.listed; once = s.once; all = λ C. (λ h. (in_row_relevant C).0 ((s.all C).0 h), λ w. (s.all C).1 ((in_row_relevant C).1 w)); weight = s.weight }

  -- Places that each ring has as many of as it has bonds: the rings that have a place, added up over the places.
  module _ (P : ℕ → ℕ → Type 0) (test : ℕ → ℕ → Bool) (tests : (k C : ℕ) → (test C k ≡ true) ↔ P k C) (n : ℕ)
      (long : (C : ℕ) → Relevant c C → cnt (test C) n ≡ len c C) where
    places_sum : (entry : ℕ → ℕ) → ((k : ℕ) → k < n → Exactly (entry k) (RelevantWith c (P k))) → sum_to n entry ≡ lengths_times_sizes R.rows
    places_sum entry counts =
        sum_same n entry (λ k. passing (λ C. test C k) rings) (λ k h. exactly_unique (counts k h) (passed k))
        ∙ double_count test n rings
        ∙ total_same (λ C. cnt (test C) n) (len c) rings (λ C h. long C ((all_rings.all C).0 h).relevant)
        ∙ all_rings.weight
      where
        rings : List ℕ
        rings = all_rings.listed

        passed : (k : ℕ) → Exactly (passing (λ C. test C k) rings) (RelevantWith c (P k))
        passed k =
            exactly_as (passing_exactly (λ C. test C k) all_rings.once) (λ C. (
              λ p. record { relevant = ((all_rings.all C).0 p.0).relevant; has = (tests k C).0 p.1 },
              λ w. ((all_rings.all C).1 (record { relevant = w.relevant; has = tt }), (tests k C).1 w.has),
            ))

  -- "The entries together equal the sum, over families, of length times size."
  pub bond_entries_sum : (entry : ℕ → ℕ) → BondEntries c entry → sum_to (m c) entry ≡ lengths_times_sizes R.rows
  bond_entries_sum = places_sum (λ k C. bit C k ≡ 1) holds (λ k C. (bit_one C k, holds_true C k)) (m c) (λ C r. sym (len_cnt c C))

  -- "The same for atoms": a ring has as many atoms as bonds.
  pub atom_entries_sum : (entry : ℕ → ℕ) → AtomEntries c entry → sum_to c.n entry ≡ lengths_times_sizes R.rows
  atom_entries_sum =
      places_sum (λ a C. 0 < degree c C a) (λ C a. ltb 0 (degree c C a)) (λ a C. (ltb-true 0 (degree c C a), lt-ltb 0 (degree c C a))) c.n
      (λ C r. ring_meets c sound r)

  -- The number of rings is that of the relevant rings.
  pub rings_count : Exactly R.rings (Relevant c)
  rings_count =
      exactly_at (sym (sizes_total R.rows) ∙ sym right.rings_are)
      (exactly_as (rows_count (λ row. row.size) (all_map (λ row s. size_exactly c rank s) right.sized))
      (λ C. (λ w. w.relevant, λ r. record { relevant = r; has = tt })))

  -- An entry is at most the number of rings, so it fits where that number fits.
  pub entry_fits : {P : ℕ → Type 0} {entry : ℕ} → Exactly entry (RelevantWith c P) → entry ≤ R.rings
  entry_fits s = exactly_le s rings_count (λ C w. w.relevant)

-- There is one table of the bonds, and one of the atoms.
module _ (c : Compound) where
  pub bond_counts_unique : {es es' : List ℕ} → BondCounts c es → BondCounts c es' → es ≡ es'
  bond_counts_unique {es} {es'} s t =
      ext_get_or 0 es es' (s.many ∙ sym t.many) (λ k h. exactly_unique (s.entry k (subst (λ (n : ℕ). k < n) s.many h)) (t.entry k (subst (λ (n : ℕ). k < n) s.many h)))

  pub atom_counts_unique : {es es' : List ℕ} → AtomCounts c es → AtomCounts c es' → es ≡ es'
  atom_counts_unique {es} {es'} s t =
      ext_get_or 0 es es' (s.many ∙ sym t.many) (λ a h. exactly_unique (s.entry a (subst (λ (n : ℕ). a < n) s.many h)) (t.entry a (subst (λ (n : ℕ). a < n) s.many h)))
