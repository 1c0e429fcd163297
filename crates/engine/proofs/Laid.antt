-- Rows of so many bytes each, laid over a buffer from its start as far as there is room: one row more, another row in the place of one, and what is read.
use mathlib.Core.Path.{◌≡◌, refl, sym, ap, ◌∙◌}
use mathlib.Core.Bool.{cond}
use mathlib.Core.List.{List, [], ◌∷◌, ◌++◌, append_assoc, append-nil}
use mathlib.Core.Logic.{⊎_elim}
use Prim.Native.Nat.{ℕ, suc, ◌+◌, ◌-◌, ◌*◌, ◌/◌, ◌<◌, ◌≤◌}
use native.Mathlib.Nat.{mul-zero, mul-suc, zero-add, suc-add}
use native.Mathlib.Omega.{arith}
use borrow.Author.Tests.{lt-ltb, le-ltb}
use lib.Dec.{ltb}
use lib.ListN.{length, get_or, take, drop, set, length-append, length-drop, length-take, get_or-append}
use lib.Seq.{paste, take_all, take-nil, take_at, drop_at, drop-drop, drop-append-add, take-append-le, take-append-add, get_or-append-add, set-append_left}
use Rattle.bondset.proofs.Laws.{lt_or_ge}
use Rattle.answers.specs.Answered.{over}
use Rattle.model.specs.Fold.{each}

each_append : {X Y : Type 0} (f : X → List Y) (xs ys : List X) → each f (xs ++ ys) ≡ each f xs ++ each f ys
unfolding each
each_append f [] ys = refl
each_append f (x ∷ xs) ys = rw (each_append f xs ys) (sym (append_assoc (f x) (each f xs) (each f ys)))

set_append_add : {X : Type 0} (xs ys : List X) (n : ℕ) (v : X) → set (xs ++ ys) (length xs + n) v ≡ xs ++ set ys n v
set_append_add [] ys n v = rw (zero-add n)
set_append_add (x ∷ xs) ys n v = rw (suc-add (length xs) n, set_append_add xs ys n v)

-- Bytes that fit keep the buffer's length.
pub length_over : (bytes lent : List ℕ) → length bytes ≤ length lent → length (over bytes lent) ≡ length lent
unfolding over
length_over bytes lent h = simp (length-append, length-drop) (omega arith)

-- ---- bytes in the middle

module _ (P b R : List ℕ) (at : ℕ) (before : length P ≡ at) where
  get_or_mid : (j : ℕ) → j < length b → get_or (P ++ (b ++ R)) (at + j) 0 ≡ get_or b j 0
  get_or_mid j h = rw (← before, get_or-append-add P (b ++ R) j 0) (get_or-append b R 0 j h)

  set_mid : (j v : ℕ) → j < length b → set (P ++ (b ++ R)) (at + j) v ≡ P ++ (set b j v ++ R)
  set_mid j v h = rw (← before, set_append_add P (b ++ R) j v, set-append_left b R j v h)

  paste_mid : (w : ℕ) (b' : List ℕ) → length b ≡ w → length b' ≡ w → paste (P ++ (b ++ R)) at b' w ≡ P ++ (b' ++ R)
  paste_mid w b' e e' =
      let all : length b' ≤ w = omega arith in
      let seam : length (P ++ b) ≡ at + w = rw (length-append P b) (omega arith) in
      rw (take_at P (b ++ R) at before, take_all w b' all, ← append_assoc P b R, drop_at (P ++ b) R (at + w) seam) (append_assoc P b' R)

-- The next bytes.
paste_next : (P b lent : List ℕ) (at w : ℕ) → length P ≡ at → length b ≡ w → paste (over P lent) at b w ≡ over (P ++ b) lent
unfolding over
paste_next P b lent at w before e =
    let all : length b ≤ w = omega arith in
    rw (
      ← before,
      take_at P (drop (length P) lent) (length P) refl,
      take_all w b all,
      drop-append-add P (drop (length P) lent) w,
      drop-drop w (length P) lent,
      length-append P b,
      e,
    )

-- The middle of the bytes over a buffer.
over_mid : (P b Q lent : List ℕ) → over (P ++ (b ++ Q)) lent ≡ P ++ (b ++ (Q ++ drop (length P + (length b + length Q)) lent))
unfolding over
over_mid P b Q lent = simp (length-append, append_assoc)

-- ---- rows

module _ {X : Type 0} (w : ℕ) (bytes : X → List ℕ) where
  -- The rows over the buffer, as many as there is room for.
  unfoldable pub laid : List ℕ → List X → List ℕ
  laid lent rows = over (each bytes (take (length lent / w) rows)) lent

  -- Row i, if there is room for it.
  abbrev pub put : List ℕ → ℕ → X → List ℕ
  put out i x = cond (ltb i (length out / w)) (paste out (w * i) (bytes x) w) out

module _ {X : Type 0} (w : ℕ) (bytes : X → List ℕ) (wide : (x : X) → length (bytes x) ≡ w) (room : (n l : ℕ) → n ≤ l / w → w * n ≤ l) where
  length_each : (xs : List X) → length (each bytes xs) ≡ w * length xs
  unfolding each
  length_each [] = sym (mul-zero w)
  length_each (x ∷ xs) = omega (arith, length-append (bytes x) (each bytes xs), wide x, length_each xs, mul-suc w (length xs))

  -- The buffer keeps its length.
  pub length_laid : (lent : List ℕ) (rows : List X) → length (laid w bytes lent rows) ≡ length lent
  unfolding laid
  length_laid lent rows =
      let kept : List X = take (length lent / w) rows in
      length_over (each bytes kept) lent
      (rw (length_each kept) (room (length kept) (length lent) (omega (arith, length-take (length lent / w) rows))))

  -- Without rows the buffer is as lent.
  pub laid_none : (lent : List ℕ) → laid w bytes lent [] ≡ lent
  unfolding laid each over
  laid_none lent = rw (take-nil {A = X} (length lent / w))

  -- Where all rows fit they are all there.
  pub laid_all : (lent : List ℕ) (rows : List X) → length rows ≤ length lent / w → laid w bytes lent rows ≡ over (each bytes rows) lent
  unfolding laid
  laid_all lent rows h = rw (take_all (length lent / w) rows h)

  -- Rows past the room leave no trace.
  pub laid_out : (lent : List ℕ) (rows more : List X) → length lent / w ≤ length rows → laid w bytes lent (rows ++ more) ≡ laid w bytes lent rows
  unfolding laid
  laid_out lent rows more h = rw (take-append-le (length lent / w) rows more h)

  -- One row more.
  pub laid_next : (lent : List ℕ) (rows : List X) (x : X) → put w bytes (laid w bytes lent rows) (length rows) x ≡ laid w bytes lent (rows ++ (x ∷ []))
  unfolding each
  laid_next lent rows x =
      rw (length_laid lent rows)
      (⊎_elim (λ (h : length rows < length lent / w). rw (lt-ltb (length rows) (length lent / w) h) (inside h))
      (λ (h : length lent / w ≤ length rows). rw (le-ltb (length rows) (length lent / w) h) (sym (laid_out lent rows (x ∷ []) h)))
      (lt_or_ge (length rows) (length lent / w)))
    where
      inside : length rows < length lent / w → paste (laid w bytes lent rows) (w * length rows) (bytes x) w ≡ laid w bytes lent (rows ++ (x ∷ []))
      inside h =
          let more : length (rows ++ (x ∷ [])) ≤ length lent / w = rw (length-append rows (x ∷ [])) (omega arith) in
          rw (laid_all lent rows (omega arith), laid_all lent (rows ++ (x ∷ [])) more, each_append bytes rows (x ∷ []), append-nil (bytes x))
          (paste_next (each bytes rows) (bytes x) lent (w * length rows) w (length_each rows) (wide x))

  module _ (lent : List ℕ) (A B : List X) (i : ℕ) (before : length A ≡ i) where
    abbrev later : List X
    later = take (length lent / w - suc i) B

    laid_mid : (x : X) → i < length lent / w → laid w bytes lent (A ++ x ∷ B) ≡ over (each bytes A ++ (bytes x ++ each bytes later)) lent
    unfolding laid each
    laid_mid x h =
        let split : length lent / w ≡ length A + suc (length lent / w - suc i) = omega arith in
        ap (λ (n : ℕ). over (each bytes (take n (A ++ x ∷ B))) lent) split
        ∙ rw (take-append-add A (x ∷ B) (suc (length lent / w - suc i)), each_append bytes A (x ∷ later))

    middle : List ℕ → List ℕ
    middle b = each bytes A ++ (b ++ (each bytes later ++ drop (length (each bytes A) + (w + length (each bytes later))) lent))

    laid_middle : (x : X) → i < length lent / w → laid w bytes lent (A ++ x ∷ B) ≡ middle (bytes x)
    unfolding middle
    laid_middle x h = laid_mid x h ∙ over_mid (each bytes A) (bytes x) (each bytes later) lent ∙ rw (wide x)

    at : length (each bytes A) ≡ w * i
    at = length_each A ∙ ap (λ (n : ℕ). w * n) before

    -- Byte j of row i.
    pub get_or_laid : (x : X) (j : ℕ) → i < length lent / w → j < w → get_or (laid w bytes lent (A ++ x ∷ B)) (w * i + j) 0 ≡ get_or (bytes x) j 0
    unfolding middle
    get_or_laid x j h l = rw (laid_middle x h) (get_or_mid (each bytes A) (bytes x) _ (w * i) at j (omega (arith, wide x)))

    -- Row i with another byte j.
    pub set_laid : (x y : X) (j v : ℕ) → i < length lent / w → j < w → bytes y ≡ set (bytes x) j v
        → set (laid w bytes lent (A ++ x ∷ B)) (w * i + j) v ≡ laid w bytes lent (A ++ y ∷ B)
    unfolding middle
    set_laid x y j v h l e =
        rw (laid_middle x h, laid_middle y h, e) (set_mid (each bytes A) (bytes x) _ (w * i) at j v (omega (arith, wide x)))

    -- Another row in the place of row i.
    pub put_laid : (x y : X) → put w bytes (laid w bytes lent (A ++ x ∷ B)) i y ≡ laid w bytes lent (A ++ y ∷ B)
    unfolding middle
    put_laid x y =
        rw (length_laid lent (A ++ x ∷ B))
        (⊎_elim
        (λ (h : i < length lent / w).
        rw (lt-ltb i (length lent / w) h, laid_middle x h, laid_middle y h) (paste_mid (each bytes A) (bytes x) _ (w * i) at w (bytes y) (wide x) (wide y)))
        (λ (h : length lent / w ≤ i). rw (le-ltb i (length lent / w) h) (out x h ∙ sym (out y h)))
        (lt_or_ge i (length lent / w)))
      where
        out : (z : X) → length lent / w ≤ i → laid w bytes lent (A ++ z ∷ B) ≡ laid w bytes lent A
        out z h = laid_out lent A (z ∷ B) (omega arith)
