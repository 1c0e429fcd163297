-- The claims of the calls for C leave one reply and one content of each buffer, whether bonds are lent as bytes or as records.
use mathlib.Core.Path.{◌≡◌, refl, sym, ap, ◌∙◌}
use mathlib.Core.List.{List}
use Prim.Native.Nat.{ℕ}
use Rattle.answers.specs.Answered.{Told, full, refused, Answered, AnsweredFirst}
use Rattle.answers.proofs.Unique.{answered_unique}
use Rattle.hatch.specs.declared.Reply.{Reply}
use Rattle.hatch.specs.Replies.{told_by, reply_of, with_size}

with_size_last : (t : Told) (size other : ℕ) → with_size (with_size t size) other ≡ with_size t other
unfolding with_size
with_size_last (full cyclomatic families classes total rings old) size other = refl
with_size_last (refused number at) size other = refl

module _ (n : ℕ) (bonds rows class_rows : List ℕ) {left left' other other' : List ℕ} where
  -- What a call without a row number promises.
  pub families_reply_unique : (r s : Reply)
      → AnsweredFirst n bonds rows class_rows (with_size (told_by r)) left left' → r ≡ reply_of (with_size (told_by r) 0)
      → AnsweredFirst n bonds rows class_rows (with_size (told_by s)) other other' → s ≡ reply_of (with_size (told_by s) 0)
      → (r ≡ s) × (left ≡ other) × (left' ≡ other')
  families_reply_unique r s p plain q plain' =
      let (e, l, l') = answered_unique n bonds rows class_rows 0 (p 0).1 (q 0).1 in
      let same : with_size (told_by r) 0 ≡ with_size (told_by s) 0 = sym (with_size_last (told_by r) (p 0).0 0) ∙ ap (λ t. with_size t 0) e ∙ with_size_last (told_by s) (q 0).0 0 in
      (plain ∙ ap reply_of same ∙ sym plain', l, l')

  -- What a call with a row number promises.
  pub size_reply_unique : (row : ℕ) (r s : Reply)
      → Answered n bonds rows class_rows row (told_by r) left left' → r ≡ reply_of (told_by r)
      → Answered n bonds rows class_rows row (told_by s) other other' → s ≡ reply_of (told_by s)
      → (r ≡ s) × (left ≡ other) × (left' ≡ other')
  size_reply_unique row r s p plain q plain' =
      let (e, l, l') = answered_unique n bonds rows class_rows row p q in
      (plain ∙ ap reply_of e ∙ sym plain', l, l')
