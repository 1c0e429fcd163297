-- "The same compound numbered anew": what full answers for the two, and the class rows that they leave, have in common.
use mathlib.Core.Path.{◌≡◌, refl, sym, ap, ap₂, ◌∙◌, subst, subst₂}
use mathlib.Core.List.{List, [], ◌∷◌}
use Prim.Native.Nat.{ℕ, suc, ◌+◌, ◌<◌}
use native.Mathlib.Omega.{arith}
use lib.ListN.{length}
use Rattle.spans.proofs.Lists.{Perm}
use Rattle.cycles.specs.Compound.{Compound}
use Rattle.cycles.specs.Ring.{len, Relevant}
use Rattle.cycles.specs.Rows.{Row, ClassRow, At}
use Rattle.cycles.specs.Renumbered.{Renumbered}
use Rattle.cycles.proofs.Swaps.{interchangeable_same_length}
use Rattle.cycles.proofs.Ranks.{at_element, at_below}
use Rattle.cycles.proofs.RenumberRings.{total_renumbered}
use Rattle.answers.specs.Answered.{full, Answered}
use Rattle.answers.specs.Bytes.{long_at, rank_at, Exactly, OfClass}
use Rattle.answers.specs.Classes.{rings_of_class, class_list, classes_of, classes_left, RingsIn}
use Rattle.answers.proofs.Places.{long_at_row, rank_at_row}
use Rattle.answers.proofs.Reported.{Reported, reported, sound, classes_length, row_at, row_member}
use Rattle.answers.proofs.Demand2.{row_members_relevant, relevant_in_one_row}
use Rattle.answers.proofs.Demand3.{class_byte_iff_interchangeable, class_has_ring}
use Rattle.answers.proofs.RenumberCounts.{exactly_unique, exactly_iff, rings_of_class_lem}
use Rattle.answers.proofs.Renumber.{class_same, exactly_of_length_renumbered, rings_renumbered, classes_renumbered, class_list_renumbered}

-- The bytes of the class rows name the classes of the list.
left_class_list : (left : List ℕ) (rings : ℕ → ℕ) (rows : List Row) (k : ℕ) (ts : List ClassRow)
    → ((j l : ℕ) (t : ClassRow) → l ≡ k + j → At ts j t → (long_at left l ≡ t.long) × (rank_at left l ≡ t.rank) × (rings l ≡ rings_of_class rows l))
    → classes_left left rings k (length ts) ≡ class_list rows k ts
unfolding classes_left class_list
left_class_list left rings rows k [] read = refl
left_class_list left rings rows k (t ∷ ts) read =
    let (p, q, e) = read 0 k t (omega arith) At.here in
    ap₂ ◌∷◌ (class_same p q e) (left_class_list left rings rows (suc k) ts (λ j l s d a. read (suc j) l s (omega arith) (At.later a)))

module _ {n : ℕ} {bonds rows class_rows : List ℕ} {i cyclomatic families classes whole rings size : ℕ} {left left' : List ℕ}
    (answer : Answered n bonds rows class_rows i (full cyclomatic families classes whole rings size) left left') where
  abbrev c : Compound
  c = record { n = n; bytes = bonds }

  abbrev told : Reported n bonds rows class_rows i cyclomatic families classes whole rings size left left'
  told = reported answer

  -- The rings of class g are as many as the sizes of the rows of that class say.
  class_rings : RingsIn c left families classes (rings_of_class told.R.rows)
  class_rings g h =
      let (C, o) = class_has_ring answer h in
      let (u, t) = row_at told o.row o.inside in
      subst (λ (k : ℕ). Exactly (rings_of_class told.R.rows k) (OfClass c left families g)) (sym t.class ∙ o.class)
      (exactly_iff
      (λ D. (
        λ p.
            let w = relevant_in_one_row answer p.0 in
            let e = (class_byte_iff_interchangeable answer w.inside o.inside w.member o.member).1 (interchangeable_same_length c p.1, p.1) in
            record { row = w.row; inside = w.inside; class = e ∙ o.class; member = w.member },
        λ w. (
          row_members_relevant answer w.inside w.member,
          ((class_byte_iff_interchangeable answer w.inside o.inside w.member o.member).0 (w.class ∙ sym o.class)).1,
        ),
      ))
      (rings_of_class_lem c (sound told) (λ a. a) (λ a b h l e. e) told.right (at_element t.at) (row_member told t o.member)))

  -- Each class has a number of rings.
  pub class_rings_exist : (of : ℕ → ℕ) × RingsIn c left families classes of
  class_rings_exist = (rings_of_class told.R.rows, class_rings)

  -- The classes that the left class rows name are those of the report.
  left_classes : (of : ℕ → ℕ) → RingsIn c left families classes of → classes_left left' of 0 classes ≡ classes_of told.R
  left_classes of count =
      ap (classes_left left' of 0) (classes_length told)
      ∙ left_class_list left' of told.R.rows 0 told.R.class_rows
      (λ j l t e a.
      let d : j ≡ l = omega arith in
      let b = subst (λ (k : ℕ). At told.R.class_rows k t) d a in
      let h : l < classes = omega (arith, at_below b, classes_length told) in (
        ap (λ (x : List ℕ). long_at x l) told.left'_is ∙ long_at_row class_rows b,
        ap (λ (x : List ℕ). rank_at x l) told.left'_is ∙ rank_at_row class_rows b,
        exactly_unique (count l h) (class_rings l h),
      ))

-- Two calls, each with its own row number and lent buffers, and the compound of the second is that of the first numbered anew.
module _ {n n₂ : ℕ} {bonds bonds₂ rows rows₂ class_rows class_rows₂ : List ℕ} {i i₂ cyclomatic cyclomatic₂ families families₂ : ℕ}
    {classes classes₂ whole whole₂ rings rings₂ size size₂ : ℕ} {left left₂ left' left'₂ : List ℕ}
    (r : Renumbered (record { n = n; bytes = bonds }) (record { n = n₂; bytes = bonds₂ }))
    (answer : Answered n bonds rows class_rows i (full cyclomatic families classes whole rings size) left left')
    (answer₂ : Answered n₂ bonds₂ rows₂ class_rows₂ i₂ (full cyclomatic₂ families₂ classes₂ whole₂ rings₂ size₂) left₂ left'₂) where
  -- "the total"
  pub full_total_renumbered : whole ≡ whole₂
  full_total_renumbered =
      let s = reported answer in
      let t = reported answer₂ in
      s.total_is ∙ total_renumbered r (sound s) (sound t) (λ a b h l e. e) (λ a b h l e. e) s.right t.right ∙ sym t.total_is

  -- "the number of relevant rings of each length"
  pub full_rings_of_length_renumbered : {j k : ℕ} → Exactly j (λ C. Relevant (record { n = n; bytes = bonds }) C × (len (record { n = n; bytes = bonds }) C ≡ k))
      → Exactly j (λ D. Relevant (record { n = n₂; bytes = bonds₂ }) D × (len (record { n = n₂; bytes = bonds₂ }) D ≡ k))
  full_rings_of_length_renumbered = exactly_of_length_renumbered r (sound (reported answer)) (sound (reported answer₂))

  -- The number of relevant rings.
  pub full_rings_renumbered : rings ≡ rings₂
  full_rings_renumbered =
      let s = reported answer in
      let t = reported answer₂ in
      s.rings_are ∙ rings_renumbered r (sound s) (sound t) (λ a b h l e. e) (λ a b h l e. e) s.right t.right ∙ sym t.rings_are

  -- The number of classes.
  pub full_classes_renumbered : classes ≡ classes₂
  full_classes_renumbered =
      let s = reported answer in
      let t = reported answer₂ in
      s.classes_are ∙ classes_renumbered r (sound s) (sound t) (λ a b h l e. e) (λ a b h l e. e) s.right t.right ∙ sym t.classes_are

  -- "the list of rule 1 classes as (length, relative rank, rings), taken without order": as the left class rows have them.
  pub full_class_rows_renumbered : (of of₂ : ℕ → ℕ) → RingsIn (record { n = n; bytes = bonds }) left families classes of
      → RingsIn (record { n = n₂; bytes = bonds₂ }) left₂ families₂ classes₂ of₂ → Perm (classes_left left' of 0 classes) (classes_left left'₂ of₂ 0 classes₂)
  full_class_rows_renumbered of of₂ count count₂ =
      let s = reported answer in
      let t = reported answer₂ in
      subst₂ Perm (sym (left_classes answer of count)) (sym (left_classes answer₂ of₂ count₂))
      (class_list_renumbered r (sound s) (sound t) (λ a b h l e. e) (λ a b h l e. e) s.right t.right)
