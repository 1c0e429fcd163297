-- The claims of the calls leave one answer, one content of each buffer, and one size of each row asked for.
use mathlib.Core.Path.{◌≡◌, refl, sym, ap, ◌∙◌, subst}
use mathlib.Core.Bool.{cond}
use mathlib.Core.List.{List}
use Prim.Native.Nat.{ℕ, ◌<◌}
use lib.Dec.{eqb}
use lib.ListN.{length, get_or}
use lib.Seq.{ext_get_or}
use Rattle.std.specs.Prelude.{Result, Ok, Err, OnErr}
use Rattle.std.proofs.lemmas.Result.{on_err_weaker}
use Rattle.answers.specs.Answered.{Told, full, refused, Answered, AnsweredFirst}
use Rattle.answers.proofs.Unique.{answered_unique}
use Rattle.rings.specs.declared.Sized.{Sized}
use Rattle.rings.specs.declared.Refusal.{Refusal}
use Rattle.rings.specs.declared.Refusal.TheVariants.{WrongAtoms, WrongBytes, NoAtom, Loop, Again, Pieces, FewRows, FewClassRows, ManyRings}
use Rattle.rings.specs.Calls.{number_of, place_of, Answer, told, told_sized}

-- ---- what is told names the answer

refusal_at : ℕ → ℕ → Refusal
refusal_at number place =
    cond (eqb number 1) WrongAtoms
    (cond (eqb number 2) WrongBytes
    (cond (eqb number 3) (NoAtom place)
    (cond (eqb number 4) (Loop place)
    (cond (eqb number 5) (Again place)
    (cond (eqb number 6) Pieces (cond (eqb number 7) (FewRows place) (cond (eqb number 8) (FewClassRows place) ManyRings)))))))

refusal_at_its : (r : Refusal) → refusal_at (number_of r) (place_of r) ≡ r
unfolding refusal_at
refusal_at_its WrongAtoms = refl
refusal_at_its WrongBytes = refl
refusal_at_its (NoAtom bond) = refl
refusal_at_its (Loop bond) = refl
refusal_at_its (Again bond) = refl
refusal_at_its Pieces = refl
refusal_at_its (FewRows needed) = refl
refusal_at_its (FewClassRows needed) = refl
refusal_at_its ManyRings = refl

answer_of : Told → Answer
answer_of (full cyclomatic families classes total rings size) =
    Ok (record { cyclomatic = cyclomatic; families = families; classes = classes; total = total; rings = rings })
answer_of (refused number place) = Err (refusal_at number place)

answer_of_told : (a : Answer) (size : ℕ) → answer_of (told a size) ≡ a
unfolding answer_of told
answer_of_told (Ok f) size = refl
answer_of_told (Err r) size = ap Err (refusal_at_its r)

-- Different answers are told differently.
pub told_injective : (a b : Answer) (size size' : ℕ) → told a size ≡ told b size' → a ≡ b
told_injective a b size size' e = sym (answer_of_told a size) ∙ ap answer_of e ∙ answer_of_told b size'

size_in : Told → ℕ
size_in (full cyclomatic families classes total rings size) = size
size_in (refused number place) = 0

-- What is told names the size too, but in a refusal.
pub same_size : (a : Answer) (s t : ℕ) → told a s ≡ told a t → OnErr a (s ≡ t) → s ≡ t
unfolding told size_in
same_size (Ok f) s t e k = ap size_in e
same_size (Err r) s t e k = k

told_size : (a b : Answer) (s t : ℕ) → told a s ≡ told b t → (OnErr a (OnErr b (s ≡ t))) → s ≡ t
told_size a b s t e k =
    let same : b ≡ a = sym (told_injective a b s t e) in
    same_size a s t (e ∙ ap (λ (x : Answer). told x t) same) (at_err a b same k)
  where
    at_err : (a b : Answer) → b ≡ a → OnErr a (OnErr b (s ≡ t)) → OnErr a (s ≡ t)
    at_err (Ok f) b same k = tt
    at_err (Err r) b same k = subst (λ (x : Answer). OnErr x (s ≡ t)) same k

sized_of : Told → Result Sized Refusal
sized_of (full cyclomatic families classes total rings size) =
    Ok (record { full = record { cyclomatic = cyclomatic; families = families; classes = classes; total = total; rings = rings }; size = size })
sized_of (refused number place) = Err (refusal_at number place)

sized_of_told : (r : Result Sized Refusal) → sized_of (told_sized r) ≡ r
unfolding sized_of told told_sized
sized_of_told (Ok s) = refl
sized_of_told (Err r) = ap Err (refusal_at_its r)

-- ---- the calls

module _ (n : ℕ) (bonds rows class_rows : List ℕ) {left left' other other' : List ℕ} where
  -- What `families` promises leaves one answer and one content of both buffers.
  pub families_unique : (a b : Answer) → AnsweredFirst n bonds rows class_rows (told a) left left'
      → AnsweredFirst n bonds rows class_rows (told b) other other' → (a ≡ b) × (left ≡ other) × (left' ≡ other')
  families_unique a b p q =
      let (e, l, l') = answered_unique n bonds rows class_rows 0 (p 0).1 (q 0).1 in
      (told_injective a b (p 0).0 (q 0).0 e, l, l')

  -- What `family_size` promises leaves one answer with one size, and one content of both buffers.
  pub family_size_unique : (row : ℕ) (r s : Result Sized Refusal)
      → Answered n bonds rows class_rows row (told_sized r) left left'
      → Answered n bonds rows class_rows row (told_sized s) other other'
      → (r ≡ s) × (left ≡ other) × (left' ≡ other')
  family_size_unique row r s p q =
      let (e, l, l') = answered_unique n bonds rows class_rows row p q in
      (sym (sized_of_told r) ∙ ap sized_of e ∙ sized_of_told s, l, l')

  -- What `families_sized` promises besides leaves one content of the sizes.
  pub sizes_unique : (a b : Answer) (sizes xs ys : List ℕ) → length xs ≡ length sizes → length ys ≡ length sizes
      → ((j : ℕ) → j < length sizes → Answered n bonds rows class_rows j (told a (get_or xs j 0)) left left')
      → OnErr a (xs ≡ sizes)
      → ((j : ℕ) → j < length sizes → Answered n bonds rows class_rows j (told b (get_or ys j 0)) other other')
      → OnErr b (ys ≡ sizes)
      → xs ≡ ys
  sizes_unique a b sizes xs ys long long' p k q l =
      ext_get_or 0 xs ys (long ∙ sym long')
      (λ j h.
      told_size a b (get_or xs j 0) (get_or ys j 0) (answered_unique n bonds rows class_rows j (p j (rw (← long) h)) (q j (rw (← long) h))).0
      (on_err_weaker a (λ x. on_err_weaker b (λ y. ap (λ (s : List ℕ). get_or s j 0) (x ∙ sym y)) l) k))
