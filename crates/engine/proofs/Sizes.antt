-- The sizes of the rows asked for: those from a row on, over a list as far as there is room.
use mathlib.Core.Path.{◌≡◌, refl, sym, ap, ◌∙◌}
use mathlib.Core.Bool.{Bool, true, false, cond, ◌&&◌}
use mathlib.Core.List.{List, [], ◌∷◌, ◌++◌, map, map-append}
use mathlib.Core.Logic.{⊎_elim}
use Prim.Native.Nat.{ℕ, suc, ◌-◌, ◌<◌, ◌≤◌}
use native.Mathlib.Numerals.{add-one}
use native.Mathlib.Omega.{arith}
use borrow.Author.Tests.{lt-ltb, le-ltb, le-leb, lt-leb}
use lib.Dec.{leb, ltb}
use lib.ListN.{length, get_or, take, drop, set, length-append, length-drop, length-take, length-map, length-set, drop_of_length-le}
use lib.Seq.{take_all, take-nil, drop-nil, drop-cons, drop-append-le, take-append-le, append_snoc, set-append_seam}
use Rattle.bondset.proofs.Laws.{lt_or_ge}
use Rattle.cycles.specs.Rows.{Row}
use Rattle.answers.specs.Answered.{over}
use Rattle.candidates.specs.Engine.{put_size}
use Rattle.engine.proofs.Laid.{length_over}

-- The numbers from one on, over a list as far as there is room.
unfoldable pub written_from : ℕ → List ℕ → List ℕ → List ℕ
written_from from lent xs = over (take (length lent) (drop from xs)) lent

-- The sizes of the rows from one on, over a list as far as there is room.
abbrev pub written_sizes : ℕ → List ℕ → List Row → List ℕ
written_sizes from lent rows = written_from from lent (map (λ row. row.size) rows)

-- The list keeps its length.
pub length_written_from : (from : ℕ) (lent xs : List ℕ) → length (written_from from lent xs) ≡ length lent
unfolding written_from
length_written_from from lent xs = length_over (take (length lent) (drop from xs)) lent (omega (arith, length-take (length lent) (drop from xs)))

-- At the start nothing is written.
pub written_none : (from : ℕ) (lent : List ℕ) → written_from from lent [] ≡ lent
unfolding written_from over
written_none from lent = rw (drop-nil {A = ℕ} from, take-nil {A = ℕ} (length lent))

-- A size put in its place, or not, leaves the length.
pub length_put_size : (from i size : ℕ) (sizes : List ℕ) → length (put_size from i size sizes) ≡ length sizes
unfolding put_size
length_put_size from i size sizes = go (leb from i && ltb (i - from) (length sizes))
  where
    go : (b : Bool) → length (cond b (set sizes (i - from) size) sizes) ≡ length sizes
    go true = length-set sizes (i - from) size
    go false = refl

set_over : (D z : List ℕ) (v : ℕ) → length D < length z → set (over D z) (length D) v ≡ over (D ++ (v ∷ [])) z
unfolding over
set_over D z v h =
    rw (drop-cons z (length D) 0 h, set-append_seam D (get_or z (length D) 0) (drop (suc (length D)) z) v, length-append D (v ∷ []), add-one (length D))
    (sym (append_snoc D v (drop (suc (length D)) z)))

module _ (from : ℕ) (z xs : List ℕ) (v : ℕ) where
  put_before : length xs < from → put_size from (length xs) v (written_from from z xs) ≡ written_from from z (xs ++ (v ∷ []))
  unfolding put_size written_from
  put_before h =
      let none : length xs ≤ from = omega arith in
      let still : length (xs ++ (v ∷ [])) ≤ from = omega (arith, length-append xs (v ∷ [])) in
      rw (lt-leb from (length xs) h, drop_of_length-le xs none, drop_of_length-le (xs ++ (v ∷ [])) still)

  put_after : from ≤ length xs → put_size from (length xs) v (written_from from z xs) ≡ written_from from z (xs ++ (v ∷ []))
  unfolding put_size written_from over
  put_after h =
      rw (le-leb from (length xs) h, length_written_from from z xs)
      (⊎_elim (λ (l : length xs - from < length z). rw (lt-ltb (length xs - from) (length z) l) (inside l))
      (λ (l : length z ≤ length xs - from). rw (le-ltb (length xs - from) (length z) l) (past l))
      (lt_or_ge (length xs - from) (length z)))
    where
      D : List ℕ
      D = drop from xs

      long : length D ≡ length xs - from
      long = length-drop from xs

      all : length xs - from < length z → written_from from z xs ≡ over D z
      all l = ap (λ (ys : List ℕ). over ys z) (take_all (length z) D (omega (arith, long)))

      inside : length xs - from < length z → set (written_from from z xs) (length xs - from) v ≡ written_from from z (xs ++ (v ∷ []))
      inside l =
          ap (λ (ys : List ℕ). set ys (length xs - from) v) (all l)
          ∙ ap (λ (n : ℕ). set (over D z) n v) (sym long)
          ∙ set_over D z v (omega (arith, long))
          ∙ ap (λ (ys : List ℕ). over ys z)
          (sym (take_all (length z) (D ++ (v ∷ [])) (omega (arith, length-append D (v ∷ []), long))) ∙ ap (take (length z)) (sym (drop-append-le from xs (v ∷ []) h)))

      past : length z ≤ length xs - from → written_from from z xs ≡ written_from from z (xs ++ (v ∷ []))
      past l =
          ap (λ (ys : List ℕ). over ys z)
          (sym (take-append-le (length z) D (v ∷ []) (omega (arith, long))) ∙ ap (take (length z)) (sym (drop-append-le from xs (v ∷ []) h)))

-- One row more.
pub size_next : (from : ℕ) (lent : List ℕ) (rows : List Row) (row : Row)
    → put_size from (length rows) row.size (written_sizes from lent rows) ≡ written_sizes from lent (rows ++ (row ∷ []))
size_next from lent rows row =
    let xs : List ℕ = map (λ row. row.size) rows in
    rw (map-append (λ (row : Row). row.size) rows (row ∷ []), ← length-map rows (λ (row : Row). row.size))
    (⊎_elim (put_before from lent xs row.size) (put_after from lent xs row.size) (lt_or_ge (length xs) from))
