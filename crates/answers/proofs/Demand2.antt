-- Demand 2, of the rows as they stand in the left buffer: "A ring is relevant if it is no sum of strictly shorter rings. Every relevant ring is in
-- exactly one reported family, every member of a reported family is relevant, sizes count members."
use mathlib.Core.Path.{◌≡◌, refl, sym, ◌∙◌, ap, subst}
use mathlib.Core.List.{List, [], ◌∷◌}
use Prim.Native.Nat.{ℕ, zero, suc, ◌+◌, ◌*◌, ◌<◌, ◌≤◌}
use native.Mathlib.Omega.{arith}
use lib.ListN.{length}
use Rattle.spans.proofs.Marking.{all_element}
use Rattle.cycles.specs.Compound.{Compound}
use Rattle.cycles.specs.Ring.{Relevant}
use Rattle.cycles.specs.Family.{Family, Member, Kept, Size}
use Rattle.cycles.specs.Rows.{Row, key, Less, At, sizes}
use Rattle.cycles.proofs.Ranks.{at_element, at_below}
use Rattle.cycles.proofs.OneRow as OneRow
use Rattle.cycles.proofs.OneRow.{row_member_relevant}
use Rattle.cycles.proofs.Order as Order
use Rattle.answers.specs.Answered.{full, family_bytes, class_bytes, size_of, Answered}
use Rattle.answers.specs.Bytes.{byte, family_at, sum_to, Exactly, SpareKept, MemberAt, InOneRow}
use Rattle.answers.proofs.Places.{length_family_bytes, length_class_bytes, spare_kept, last_byte_row, sum_to_first}
use Rattle.answers.proofs.Counts.{right_families, right_rings}
use Rattle.answers.proofs.Reported.{Reported, reported, sound, families_length, classes_length, row_there, row_at, row_kept, row_member}

size_of_at : {rows : List Row} {k : ℕ} {row : Row} → At rows k row → size_of rows k ≡ row.size
unfolding size_of
size_of_at At.here = refl
size_of_at (At.later a) = size_of_at a

pub size_of_past : (rows : List Row) (k : ℕ) → length rows ≤ k → size_of rows k ≡ 0
unfolding size_of
size_of_past [] k h = refl
size_of_past (row ∷ rows) zero h = absurd (omega arith)
size_of_past (row ∷ rows) (suc k) h = size_of_past rows k (omega arith)

sizes_sum : (rows : List Row) → sizes rows ≡ sum_to (length rows) (size_of rows)
unfolding sizes size_of sum_to
sizes_sum [] = refl
sizes_sum (row ∷ rows) = omega (arith, sizes_sum rows, sum_to_first (length rows) (size_of (row ∷ rows)))

module _ {n : ℕ} {bonds rows class_rows : List ℕ} {i cyclomatic families classes total rings size : ℕ} {left left' : List ℕ}
    (answer : Answered n bonds rows class_rows i (full cyclomatic families classes total rings size) left left') where
  abbrev c : Compound
  c = record { n = n; bytes = bonds }

  told : Reported n bonds rows class_rows i cyclomatic families classes total rings size left left'
  told = reported answer

  -- "Rows start at byte 0 of their buffer with no gaps; bytes after the last stay as they were."
  pub spare_bytes_kept : SpareKept 8 families left rows × SpareKept 5 classes left' class_rows
  spare_bytes_kept =
      let bytes = length_family_bytes told.R.rows in
      let class_bytes_lem = length_class_bytes told.R.class_rows in (
        rw told.left_is (spare_kept (family_bytes told.R.rows) rows 8 families (omega (arith, families_length told))
            (omega (arith, families_length told, told.families_are, told.room))),
        rw told.left'_is (spare_kept (class_bytes told.R.class_rows) class_rows 5 classes (omega (arith, classes_length told))
            (omega (arith, classes_length told, told.classes_are, told.class_room_lem))),
      )

  -- "Every member of a reported family is relevant."
  pub row_members_relevant : {k C : ℕ} → k < families → MemberAt c left k C → Relevant c C
  row_members_relevant {k} h m =
      let (row, t) = row_at told k h in row_member_relevant c (sound told) (λ a. a) told.right (at_element t.at) (row_member told t m)

  -- "Every relevant ring is in exactly one reported family."
  pub relevant_in_one_row : {C : ℕ} → Relevant c C → InOneRow c left families C
  relevant_in_one_row {C} relevant =
      let w = OneRow.relevant_in_one_row c (sound told) (λ a. a) (λ a b h l e. e) told.right relevant in
      record {
        row = w.place;
        inside = omega (arith, at_below w.at, families_length told);
        member = subst (λ (f : Family). Member c (λ a. a) f C) (sym (row_there told w.at).family) w.member;
        only = λ j h m. let (row, t) = row_at told j h in (w.only j row t.at (row_member told t m)).0;
      }

  size_there : (k : ℕ) → k < families → Size c (λ a. a) (family_at left k) (size_of told.R.rows k)
  size_there k h =
      let (row, t) = row_at told k h in
      rw (t.family, size_of_at t.at) (all_element told.right.sized (at_element t.at))

  -- "Sizes count members": the size answered is the number of members of the family of the row asked for.
  pub row_size_counts : i < families → Size c (λ a. a) (family_at left i) size
  row_size_counts h = rw told.size_is (size_there i h)

  -- "0 past the last row"
  pub row_size_past : families ≤ i → size ≡ 0
  row_size_past h = told.size_is ∙ size_of_past told.R.rows i (omega (arith, families_length told))

  -- "rings (the sum of the sizes)"
  pub rings_sum_sizes : (sizes : ℕ → ℕ) × ((k : ℕ) → k < families → Size c (λ a. a) (family_at left k) (sizes k)) × (rings ≡ sum_to families sizes)
  rings_sum_sizes = (
    size_of told.R.rows,
    size_there,
    told.rings_are ∙ told.right.rings_are ∙ sizes_sum told.R.rows ∙ ap (λ (k : ℕ). sum_to k (size_of told.R.rows)) (sym (families_length told)),
  )

  -- So it is the number of relevant rings.
  pub rings_count_relevant : Exactly rings (Relevant c)
  rings_count_relevant = rw told.rings_are (right_rings c (sound told) (λ a. a) (λ a b h l e. e) told.right)

  -- The families of the rows are kept ..
  pub row_is_kept : (k : ℕ) → k < families → Kept c (λ a. a) (family_at left k)
  row_is_kept k h = let (row, t) = row_at told k h in subst (Kept c (λ a. a)) (sym t.family) (row_kept told (at_element t.at))

  -- .. each kept family has a row ..
  pub kept_has_row : {f : Family} → Kept c (λ a. a) f → (k : ℕ) × (k < families) × (family_at left k ≡ f)
  kept_has_row h =
      let (k, row, a, e) = Order.kept_has_row c (λ a. a) told.right h in
      (k, omega (arith, at_below a, families_length told), (row_there told a).family ∙ e)

  -- "Kept families are ordered by length, then r, then x (odd counts as 255), then p, then q."
  pub rows_ascend : (j k : ℕ) → j < k → k < families → Less (key (family_at left j)) (key (family_at left k))
  rows_ascend j k h l =
      let (u, t) = row_at told j (omega arith) in
      let (v, w) = row_at told k l in
      rw (t.family, w.family) (Order.rows_ascend c (λ a. a) told.right t.at w.at h)

  -- .. and there are as many rows as kept families.
  pub rows_count_kept : Exactly families (Kept c (λ a. a))
  rows_count_kept = rw told.families_are (right_families c (sound told) (λ a. a) (λ a b h l e. e) told.right)

  -- ".. and a byte 0."
  pub row_ends_zero : (k : ℕ) → k < families → byte left (8 * k + 7) ≡ 0
  row_ends_zero k h = rw told.left_is (last_byte_row rows (row_at told k h).1.at)
