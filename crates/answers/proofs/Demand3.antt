-- Demand 3, of the rows as they stand in the left buffers: "The marked rings are independent, span every closed bond set, with least total. Two rings
-- share a class exactly if one can replace the other in some minimum basis; any minimum basis at all, from any engine, holds from each class exactly
-- the relative rank we report."
use mathlib.Core.Path.{◌≡◌, refl, sym, ◌∙◌, ap, ap₂, subst, subst₂}
use mathlib.Core.Bool.{Bool, cond}
use mathlib.Core.List.{List, [], ◌∷◌, ◌++◌, append_assoc, append-nil}
use mathlib.Core.Logic.{◌↔◌, ◌⊎◌, inl, inr}
use Prim.Native.Nat.{ℕ, zero, suc, ◌+◌, ◌<◌, ◌≤◌}
use native.Mathlib.Omega.{arith}
use lib.Dec.{eqb}
use lib.ListN.{length}
use Rattle.spans.specs.Elements.{◌∈◌}
use Rattle.spans.specs.Basis.{Holding, Independent}
use Rattle.spans.specs.Graded.{total}
use Rattle.bondset.proofs.Group.{bond_sets}
use Rattle.bondset.proofs.Laws.{pos_of_ne}
use Rattle.cycles.specs.Compound.{Compound, Sound}
use Rattle.cycles.specs.Ring.{Closed, Ring, len}
use Rattle.cycles.specs.Basis.{Basis, Minimum, Interchangeable}
use Rattle.cycles.specs.Family.{Family, Prototype, Member}
use Rattle.cycles.specs.Rows.{Row, ClassRow, At, how_many, Marks, SumOf}
use Rattle.cycles.proofs.Families.{prototype_unique, prototype_member}
use Rattle.cycles.proofs.Bases.{marked_minimum, marked_count, marked_none_no_ring, marked_total}
use Rattle.cycles.proofs.Swaps.{interchangeable_sym, interchangeable_same_length, interchangeable_relevant}
use Rattle.cycles.proofs.Ranks as Ranks
use Rattle.cycles.proofs.Ranks.{at_element, at_exists, element_at, at_below, same_class_iff, class_row_exists, class_row_of}
use Rattle.cycles.proofs.Ranks.{relative_rank_in_every_minimum, holding_iff}
use Rattle.cycles.proofs.FirstMarked.{first_family_marked}
use Rattle.cycles.proofs.Order.{class_numbers_ascend}
use Rattle.answers.specs.Answered.{full, Answered}
use Rattle.answers.specs.Bytes.{family_at, mark_at, class_at, long_at, rank_at, families_at, essential_at, sum_to, rows_of, MemberAt, ClassCount, OfClass, MarkedRows}
use Rattle.answers.proofs.Places.{long_at_row, rank_at_row, families_at_row, essential_at_row, sum_to_first}
use Rattle.answers.proofs.Counts.{class_below, right_classes}
use Rattle.answers.proofs.Demand2.{row_members_relevant, relevant_in_one_row}
use Rattle.answers.proofs.Reported.{Reported, reported, sound, families_length, classes_length, row_there, row_at, row_kept, row_member}

module _ (c : Compound) (left : List ℕ) where
  -- The rows say what the buffer has from row k on.
  abbrev Read : ℕ → List Row → Type 0
  Read k rows = (j l : ℕ) (row : Row) → l ≡ k + j → At rows j row → (family_at left l ≡ row.family) × (mark_at left l ≡ row.mark)

  -- The marked prototypes of the rows, after those marked before.
  marked_rows : (k : ℕ) {before after : List ℕ} {rows : List Row} → Marks c (λ a. a) before rows after → Read k rows
      → (B : List ℕ) × MarkedRows c left k (length rows) B × (after ≡ before ++ B)
  marked_rows k (Marks.end {marked = before}) read = ([], MarkedRows.none, sym (append-nil before))
  marked_rows k (Marks.marked {before = before} {row = row} {S = S} p n e m) read =
      let (B, r, d) = marked_rows (suc k) m (λ j l row e a. read (suc j) l row (omega arith) (At.later a)) in
      let (f, g) = read 0 k row (omega arith) At.here in
      (S ∷ B, MarkedRows.marked (g ∙ e) (subst (λ (h : Family). Prototype c (λ a. a) h S) (sym f) p) r, d ∙ append_assoc before (S ∷ []) B)
  marked_rows k (Marks.unmarked {row = row} p s e m) read =
      let (B, r, d) = marked_rows (suc k) m (λ j l row e a. read (suc j) l row (omega arith) (At.later a)) in
      let (f, g) = read 0 k row (omega arith) At.here in
      (B, MarkedRows.unmarked (g ∙ e) r, d)

  marked_rows_unique : {k count : ℕ} {B C : List ℕ} → Sound c → MarkedRows c left k count B → MarkedRows c left k count C → B ≡ C
  marked_rows_unique s MarkedRows.none MarkedRows.none = refl
  marked_rows_unique s (MarkedRows.marked e p m) (MarkedRows.marked d q n) = ap₂ ◌∷◌ (prototype_unique c s (λ a. a) p q) (marked_rows_unique s m n)
  marked_rows_unique s (MarkedRows.marked e p m) (MarkedRows.unmarked d n) = absurd (omega arith)
  marked_rows_unique s (MarkedRows.unmarked e m) (MarkedRows.marked d q n) = absurd (omega arith)
  marked_rows_unique s (MarkedRows.unmarked e m) (MarkedRows.unmarked d n) = marked_rows_unique s m n

  marked_rows_mark : {first count : ℕ} {B : List ℕ} (j k : ℕ) → j < count → k ≡ first + j → MarkedRows c left first count B
      → (mark_at left k ≡ 0) ⊎ (mark_at left k ≡ 1)
  marked_rows_mark j k h e MarkedRows.none = absurd (omega arith)
  marked_rows_mark {first} zero k h e (MarkedRows.marked d p m) =
      let l : first ≡ k = omega arith in inr (subst (λ (x : ℕ). mark_at left x ≡ 1) l d)
  marked_rows_mark {first} zero k h e (MarkedRows.unmarked d m) =
      let l : first ≡ k = omega arith in inl (subst (λ (x : ℕ). mark_at left x ≡ 0) l d)
  marked_rows_mark (suc j) k h e (MarkedRows.marked d p m) = marked_rows_mark j k (omega arith) (omega arith) m
  marked_rows_mark (suc j) k h e (MarkedRows.unmarked d m) = marked_rows_mark j k (omega arith) (omega arith) m

how_many_sum : (test : Row → Bool) (rows : List Row) (f : ℕ → ℕ) → ((j : ℕ) (row : Row) → At rows j row → f j ≡ cond (test row) 1 0)
    → how_many test rows ≡ sum_to (length rows) f
unfolding how_many sum_to
how_many_sum test [] f read = refl
how_many_sum test (row ∷ rows) f read =
    omega (arith, read 0 row At.here, how_many_sum test rows (λ j. f (suc j)) (λ j row a. read (suc j) row (At.later a)), sum_to_first (length rows) f)

module _ {n : ℕ} {bonds rows class_rows : List ℕ} {i cyclomatic families classes whole rings size : ℕ} {left left' : List ℕ}
    (answer : Answered n bonds rows class_rows i (full cyclomatic families classes whole rings size) left left') where
  abbrev c : Compound
  c = record { n = n; bytes = bonds }

  told : Reported n bonds rows class_rows i cyclomatic families classes whole rings size left left'
  told = reported answer

  -- ---- the marked rows
  basis_rows : MarkedRows c left 0 families told.right.basis
  basis_rows =
      let (B, m, e) = marked_rows c left 0 told.right.marks
      (λ j l row e a.
      let d : j ≡ l = omega arith in
      let t = row_there told (subst (λ (k : ℕ). At told.R.rows k row) d a) in
      (t.family, t.mark)) in
      subst₂ (MarkedRows c left 0) (sym (families_length told)) (sym e) m

  module _ {B : List ℕ} (marked : MarkedRows c left 0 families B) where
    basis_is : told.right.basis ≡ B
    basis_is = marked_rows_unique c left (sound told) basis_rows marked

    -- The prototypes of the marked rows are a minimum basis.
    pub marked_rows_minimum : Minimum c B
    marked_rows_minimum = subst (Minimum c) basis_is (marked_minimum c (sound told) (λ a. a) (λ a b h l e. e) told.right)

    -- "The marked rings are independent": no non-empty part sums to the empty set.
    pub marked_rows_independent : Independent bond_sets B
    marked_rows_independent = marked_rows_minimum.basis.independent

    -- ".. span every closed bond set"
    pub marked_rows_span : (S : ℕ) → Closed c S → SumOf c (λ a. a) B S
    marked_rows_span = marked_rows_minimum.basis.spans.part

    -- ".. with least total"
    pub marked_rows_least : (C : List ℕ) → Basis c C → total (len c) B ≤ total (len c) C
    marked_rows_least = marked_rows_minimum.least

    -- The total answered is theirs.
    pub marked_rows_total : whole ≡ total (len c) B
    marked_rows_total = told.total_is ∙ told.right.total_is ∙ ap (total (len c)) basis_is

    -- There are as many as the cyclomatic number answered.
    pub marked_rows_number : length B ≡ cyclomatic
    marked_rows_number =
        let some = pos_of_ne n (λ e. told.accepted.fits.atoms (inl e)) in
        let count = marked_count c (sound told) (λ a. a) (λ a b h l e. e) told.right told.accepted.one_piece some in
        ap length (sym basis_is) ∙ count ∙ sym (told.cyclomatic_is ∙ told.right.cyclomatic_is)

    -- "An empty basis meets demand 3 only where the compound has no ring."
    pub marked_rows_none_no_ring : {C : ℕ} → B ≡ [] → Ring c C → ⊥
    marked_rows_none_no_ring e = marked_none_no_ring c (sound told) (λ a. a) (λ a b h l e. e) told.right (basis_is ∙ e)

  -- The total answered is that of every minimum basis.
  pub total_of_every_minimum : {B : List ℕ} → Minimum c B → whole ≡ total (len c) B
  total_of_every_minimum b = told.total_is ∙ marked_total c (sound told) (λ a. a) (λ a b h l e. e) told.right b

  -- Each marked row has its prototype.
  pub marked_rows_exist : (B : List ℕ) × MarkedRows c left 0 families B
  marked_rows_exist = (told.right.basis, basis_rows)

  -- ---- the classes
  -- "Two rings share a class exactly if one can replace the other in some minimum basis."
  pub class_byte_iff_interchangeable : {j k C D : ℕ} → j < families → k < families → MemberAt c left j C → MemberAt c left k D
      → (class_at left j ≡ class_at left k) ↔ ((len c C ≡ len c D) × Interchangeable c C D)
  class_byte_iff_interchangeable {j} {k} h l p q =
      let (u, s) = row_at told j h in
      let (v, t) = row_at told k l in
      let both =
      same_class_iff c (sound told) (λ a. a) (λ a b h l e. e) told.right (at_element s.at) (at_element t.at) (row_member told s p)
      (row_member told t q) in
      (λ e. both.0 (sym s.class ∙ e ∙ t.class), λ r. s.class ∙ both.1 r ∙ sym t.class)

  -- The class row of a ring.
  record ClassRowAt (g C : ℕ) : Type 0 where
    row : Row
    listed : row ∈ told.R.rows
    member : Member c (λ a. a) row.family C
    class_row : ClassRow
    at : At told.R.class_rows row.class class_row
    long : long_at left' g ≡ class_row.long
    rank : rank_at left' g ≡ class_row.rank

  class_row_at : {g C : ℕ} → OfClass c left families g C → ClassRowAt g C
  class_row_at {g} o =
      let (u, s) = row_at told o.row o.inside in
      let e : u.class ≡ g = sym s.class ∙ o.class in
      let (t, a) = class_row_exists c (sound told) (λ a. a) (λ a b h l e. e) told.right (at_element s.at) in
      let b : At told.R.class_rows g t = subst (λ (k : ℕ). At told.R.class_rows k t) e a in
      record {
        row = u;
        listed = at_element s.at;
        member = row_member told s o.member;
        class_row = t;
        at = a;
        long = ap (λ (l : List ℕ). long_at l g) told.left'_is ∙ long_at_row class_rows b;
        rank = ap (λ (l : List ℕ). rank_at l g) told.left'_is ∙ rank_at_row class_rows b;
      }

  -- The class row of a ring has its length.
  pub class_row_long : {g C : ℕ} → OfClass c left families g C → long_at left' g ≡ len c C
  class_row_long o =
      let t = class_row_at o in
      t.long ∙ Ranks.class_row_long c (sound told) (λ a. a) (λ a b h l e. e) told.right t.listed t.member t.at

  -- ".. any minimum basis at all, from any engine, holds" of the rings that are interchangeable with a ring of class g "exactly the relative rank".
  pub class_row_rank_interchangeable : {g C : ℕ} {B : List ℕ} → OfClass c left families g C → Minimum c B
      → Holding (λ D. Interchangeable c D C) B (rank_at left' g)
  class_row_rank_interchangeable {C} {B} o b =
      let t = class_row_at o in
      subst (Holding (λ D. Interchangeable c D C) B) (sym t.rank)
      (relative_rank_in_every_minimum c (sound told) (λ a. a) (λ a b h l e. e) told.right t.listed t.member t.at b)

  module _ {g : ℕ} (h : g < classes) where
    class_row_there : (t : ClassRow) × At told.R.class_rows g t
    class_row_there = at_exists told.R.class_rows g (omega (arith, classes_length told))

    -- Each class number below the number of classes is the class of a row.
    pub class_has_row : (k : ℕ) × (k < families) × (class_at left k ≡ g)
    class_has_row =
        let (u, l, e) = class_row_of c (sound told) (λ a. a) (λ a b h l e. e) told.right class_row_there.1 in
        let (k, a) = element_at l in
        (k, omega (arith, at_below a, families_length told), (row_there told a).class ∙ e)

    -- It has a ring.
    pub class_has_ring : (C : ℕ) × OfClass c left families g C
    class_has_ring =
        let (k, l, e) = class_has_row in
        let (u, t) = row_at told k l in
        let p = row_kept told (at_element t.at) in
        let m = prototype_member c (sound told) (λ a. a) p.prototype in
        (p.ring, record { row = k; inside = l; class = e; member = subst (λ (f : Family). Member c (λ a. a) f p.ring) (sym t.family) m })

    -- "Any minimum basis at all, from any engine, holds from each class exactly the relative rank we report."
    pub class_row_rank : {B : List ℕ} → Minimum c B → Holding (OfClass c left families g) B (rank_at left' g)
    class_row_rank b =
        let (C, o) = class_has_ring in
        holding_iff
        (λ D s.
        let r = interchangeable_relevant c (sound told) (interchangeable_sym c s) (row_members_relevant answer o.inside o.member) in
        let w = relevant_in_one_row answer r in
        let e = (class_byte_iff_interchangeable w.inside o.inside w.member o.member).1 (interchangeable_same_length c s, s) in
        record { row = w.row; inside = w.inside; class = e ∙ o.class; member = w.member })
        (λ D w. ((class_byte_iff_interchangeable w.inside o.inside w.member o.member).0 (w.class ∙ sym o.class)).1)
        (class_row_rank_interchangeable o b)

    -- "Number of families low byte, high byte": as many rows are of the class.
    pub class_row_families : families_at left' g ≡ rows_of left families g
    class_row_families =
        let (t, a) = class_row_there in
        let count =
        how_many_sum (λ row. eqb row.class g) told.R.rows (λ k. cond (eqb (class_at left k) g) 1 0)
        (λ j row b. ap (λ (k : ℕ). cond (eqb k g) 1 0) (row_there told b).class) in
        ap (λ (l : List ℕ). families_at l g) told.left'_is ∙ families_at_row class_rows a
        ∙ Ranks.class_row_families c (sound told) (λ a. a) (λ a b h l e. e) told.right a ∙ count
        ∙ ap (λ (k : ℕ). rows_of left k g) (sym (families_length told))

    -- "A class with exactly one family is marked essential."
    pub class_row_essential : essential_at left' g ≡ cond (eqb (families_at left' g) 1) 1 0
    class_row_essential =
        let (t, a) = class_row_there in
        let e = ap (λ (l : List ℕ). families_at l g) told.left'_is ∙ families_at_row class_rows a in
        ap (λ (l : List ℕ). essential_at l g) told.left'_is ∙ essential_at_row class_rows a
        ∙ Ranks.class_row_essential c (sound told) (λ a. a) (λ a b h l e. e) told.right a
        ∙ ap (λ (k : ℕ). cond (eqb k 1) 1 0) (sym e)

  -- The class of a row is below the number of classes.
  pub class_byte_below : (k : ℕ) → k < families → class_at left k < classes
  class_byte_below k h =
      let (u, t) = row_at told k h in
      let below = class_below c (sound told) (λ a. a) (λ a b h l e. e) told.right (at_element t.at) in
      omega (arith, t.class, told.classes_are)

  -- The classes answered are those of the relevant rings: as many.
  pub classes_count : ClassCount c classes
  classes_count = subst (ClassCount c) (sym told.classes_are) (right_classes c (sound told) (λ a. a) (λ a b h l e. e) told.right)

  -- "Basis mark 0 or 1"
  pub mark_byte : (k : ℕ) → k < families → (mark_at left k ≡ 0) ⊎ (mark_at left k ≡ 1)
  mark_byte k h = marked_rows_mark c left k k h (omega arith) basis_rows

  -- "Classes are numbered from 0 by their first family": every lower number has come up in an earlier row.
  pub class_bytes_ascend : (k g : ℕ) → k < families → g < class_at left k → (j : ℕ) × (j < k) × (class_at left j ≡ g)
  class_bytes_ascend k g h l =
      let (row, t) = row_at told k h in
      let lower : g < row.class = omega (arith, t.class) in
      let (j, m, o) = class_numbers_ascend c (λ a. a) told.right t.at lower in
      (j, m, (row_there told o.at).class ∙ o.class)

  -- The first row of a class is marked.
  pub first_of_class_marked : {g k : ℕ} → k < families → class_at left k ≡ g → ((j : ℕ) → j < k → class_at left j ≡ g → ⊥) → mark_at left k ≡ 1
  first_of_class_marked {g} {k} h e first =
      let (row, t) = row_at told k h in
      let no-earlier : (j : ℕ) (u : Row) → j < k → At told.R.rows j u → u.class ≡ row.class → ⊥ =
      λ j u l a d. first j l ((row_there told a).class ∙ d ∙ sym t.class ∙ e) in
      t.mark ∙ first_family_marked c (sound told) (λ a. a) (λ a b h l e. e) told.right t.at no-earlier
