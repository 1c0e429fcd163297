-- A reply says what it was made from.
use mathlib.Core.Path.{◌≡◌, refl, sym, ap, ◌∙◌, subst}
use mathlib.Core.List.{List}
use Prim.Native.Nat.{ℕ}
use Rattle.answers.specs.Answered.{Told, Answered, AnsweredFirst}
use Rattle.hatch.specs.declared.Reply.{Reply}
use Rattle.std.specs.Prelude.{Result, Ok, Err}
use Rattle.rings.specs.Calls.{Answer, told, told_sized}
use Rattle.rings.specs.declared.Sized.{Sized}
use Rattle.rings.specs.declared.Refusal.{Refusal}
use Rattle.rings.specs.declared.Refusal.TheVariants.{WrongAtoms, WrongBytes, NoAtom, Loop, Again, Pieces, FewRows, FewClassRows, ManyRings}
use Rattle.hatch.specs.Replies.{told_by, told_as, reply_of, with_size}

told_by_reply_of : (a : Answer) (size : ℕ) → told_by (reply_of (told a size)) ≡ told a size
unfolding told told_as reply_of
told_by_reply_of (Ok f) size = refl
told_by_reply_of (Err WrongAtoms) size = refl
told_by_reply_of (Err WrongBytes) size = refl
told_by_reply_of (Err (NoAtom bond)) size = refl
told_by_reply_of (Err (Loop bond)) size = refl
told_by_reply_of (Err (Again bond)) size = refl
told_by_reply_of (Err Pieces) size = refl
told_by_reply_of (Err (FewRows needed)) size = refl
told_by_reply_of (Err (FewClassRows needed)) size = refl
told_by_reply_of (Err ManyRings) size = refl

with_size_told : (a : Answer) (size other : ℕ) → with_size (told a size) other ≡ told a other
unfolding told with_size
with_size_told (Ok f) size other = refl
with_size_told (Err r) size other = refl

told_by_sized : (r : Result Sized Refusal) → told_by (reply_of (told_sized r)) ≡ told_sized r
unfolding told_sized
told_by_sized (Ok s) = told_by_reply_of (Ok s.full) s.size
told_by_sized (Err r) = told_by_reply_of (Err r) 0

-- The claim of a call, for what is told in another form.
answered_as : {n i : ℕ} {bonds rows class_rows rows' class_rows' : List ℕ} {s t : Told} → t ≡ s
    → Answered n bonds rows class_rows i s rows' class_rows' → Answered n bonds rows class_rows i t rows' class_rows'
answered_as {n} {i} {bonds} {rows} {class_rows} {rows'} {class_rows'} e = subst (λ t. Answered n bonds rows class_rows i t rows' class_rows') (sym e)

-- What a call on an answer ensures of the reply that is made of it: without a size, and with one.
module _ {n : ℕ} {bonds rows class_rows rows' class_rows' : List ℕ} {r : Reply} where
  pub families_told : (a : Answer) → r ≡ reply_of (told a 0) → AnsweredFirst n bonds rows class_rows (told a) rows' class_rows'
      → AnsweredFirst n bonds rows class_rows (with_size (told_by r)) rows' class_rows' × (r ≡ reply_of (with_size (told_by r) 0))
  families_told a made claim = (
    λ i. ((claim i).0, answered_as (sized (claim i).0) (claim i).1),
    made ∙ ap reply_of (sym (sized 0)),
  )
    where
      sized : (size : ℕ) → with_size (told_by r) size ≡ told a size
      sized size = ap (λ (s : Reply). with_size (told_by s) size) made ∙ ap (λ (t : Told). with_size t size) (told_by_reply_of a 0) ∙ with_size_told a 0 size

  pub size_told : {row : ℕ} (a : Result Sized Refusal) → r ≡ reply_of (told_sized a) → Answered n bonds rows class_rows row (told_sized a) rows' class_rows'
      → Answered n bonds rows class_rows row (told_by r) rows' class_rows' × (r ≡ reply_of (told_by r))
  size_told a made claim =
      let same : told_by r ≡ told_sized a = ap told_by made ∙ told_by_sized a in
      (answered_as same claim, made ∙ ap reply_of (sym same))
