-- "Which and when is fixed": the claim and the input leave one answer and one content of both buffers.
use mathlib.Core.Path.{◌≡◌, refl, subst}
use mathlib.Core.List.{List}
use Prim.Native.Nat.{ℕ, ◌<◌, ◌≤◌}
use native.Mathlib.Omega.{arith}
use Rattle.cycles.specs.Compound.{Compound}
use Rattle.cycles.specs.Rows.{Report, most}
use Rattle.cycles.specs.Refusal.{Refused, Accepted}
use Rattle.cycles.proofs.Unique.{right_unique}
use Rattle.cycles.proofs.Refusals.{refused_unique, refused_not_accepted, accepted_sound}
use Rattle.answers.specs.Answered.{Told, full, refused, family_bytes, class_bytes, over, size_of, family_room, class_room, RightReport, Answered}

module _ (n : ℕ) (bonds rows class_rows : List ℕ) (i : ℕ) where
  abbrev c : Compound
  c = record { n = n; bytes = bonds }

  -- What is answered and left where the right report is R.
  data Given (R : Report) : Told → List ℕ → List ℕ → Type 0 where
    few_rows : family_room rows < R.families → Given R (refused 7 R.families) rows class_rows
    few_class_rows : R.families ≤ family_room rows → class_room class_rows < R.classes → Given R (refused 8 R.classes) rows class_rows
    many_rings : R.families ≤ family_room rows → R.classes ≤ class_room class_rows → most < R.rings → Given R (refused 9 0) rows class_rows
    all_fits : R.families ≤ family_room rows → R.classes ≤ class_room class_rows → R.rings ≤ most
        → Given R (full R.cyclomatic R.families R.classes R.total R.rings (size_of R.rows i))
        (over (family_bytes R.rows) rows) (over (class_bytes R.class_rows) class_rows)

  -- An answer by the input alone, or by its right report.
  data Kind : Told → List ℕ → List ℕ → Type 0 where
    by_input : {number place : ℕ} → Refused c number place → Kind (refused number place) rows class_rows
    by_report : {told : Told} {left left' : List ℕ} {R : Report} → Accepted c → RightReport n bonds rows class_rows i R → Given R told left left'
        → Kind told left left'

  kind : {told : Told} {left left' : List ℕ} → Answered n bonds rows class_rows i told left left' → Kind told left left'
  kind (Answered.by_input r) = Kind.by_input r
  kind (Answered.by_rows a r h) = Kind.by_report a r (Given.few_rows h)
  kind (Answered.by_class_rows a r h l) = Kind.by_report a r (Given.few_class_rows h l)
  kind (Answered.by_rings a r h l m) = Kind.by_report a r (Given.many_rings h l m)
  kind (Answered.in_full a r h l m) = Kind.by_report a r (Given.all_fits h l m)

  -- One answer, and both buffers alike.
  abbrev Same : Told → List ℕ → List ℕ → Told → List ℕ → List ℕ → Type 0
  Same told left left' told' other other' = (told ≡ told') × (left ≡ other) × (left' ≡ other')

  given_unique : {R : Report} {told told' : Told} {left left' other other' : List ℕ} → Given R told left left' → Given R told' other other'
      → Same told left left' told' other other'
  given_unique (Given.few_rows h) (Given.few_rows g) = (refl, refl, refl)
  given_unique (Given.few_rows h) (Given.few_class_rows g l) = absurd (omega arith)
  given_unique (Given.few_rows h) (Given.many_rings g l m) = absurd (omega arith)
  given_unique (Given.few_rows h) (Given.all_fits g l m) = absurd (omega arith)
  given_unique (Given.few_class_rows h k) (Given.few_rows g) = absurd (omega arith)
  given_unique (Given.few_class_rows h k) (Given.few_class_rows g l) = (refl, refl, refl)
  given_unique (Given.few_class_rows h k) (Given.many_rings g l m) = absurd (omega arith)
  given_unique (Given.few_class_rows h k) (Given.all_fits g l m) = absurd (omega arith)
  given_unique (Given.many_rings h k j) (Given.few_rows g) = absurd (omega arith)
  given_unique (Given.many_rings h k j) (Given.few_class_rows g l) = absurd (omega arith)
  given_unique (Given.many_rings h k j) (Given.many_rings g l m) = (refl, refl, refl)
  given_unique (Given.many_rings h k j) (Given.all_fits g l m) = absurd (omega arith)
  given_unique (Given.all_fits h k j) (Given.few_rows g) = absurd (omega arith)
  given_unique (Given.all_fits h k j) (Given.few_class_rows g l) = absurd (omega arith)
  given_unique (Given.all_fits h k j) (Given.many_rings g l m) = absurd (omega arith)
  given_unique (Given.all_fits h k j) (Given.all_fits g l m) = (refl, refl, refl)

  kind_unique : {told told' : Told} {left left' other other' : List ℕ} → Kind told left left' → Kind told' other other'
      → Same told left left' told' other other'
  kind_unique (Kind.by_input r) (Kind.by_input s) = let (e, d) = refused_unique c r s in (cc, refl, refl)
  kind_unique (Kind.by_input r) (Kind.by_report a s g) = absurd (refused_not_accepted c r a)
  kind_unique (Kind.by_report a r g) (Kind.by_input s) = absurd (refused_not_accepted c s a)
  kind_unique {told} {left} {left'} (Kind.by_report a r g) (Kind.by_report b s h) =
      given_unique (subst (λ (R : Report). Given R told left left') (right_unique c (accepted_sound c a) (λ x. x) r s) g) h

  -- "The full answer or one numbered refusal; which and when is fixed": two answers that meet the claim on one input are equal, and so is what
  -- they leave in both buffers.
  pub answered_unique : {told told' : Told} {left left' other other' : List ℕ} → Answered n bonds rows class_rows i told left left'
      → Answered n bonds rows class_rows i told' other other' → (told ≡ told') × (left ≡ other) × (left' ≡ other')
  answered_unique a b = kind_unique (kind a) (kind b)
