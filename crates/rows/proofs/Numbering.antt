-- The arms of numbering one marked ring; labels stay below 128, and classes are fewer than the rings numbered.
use mathlib.Core.Path.{◌≡◌}
use mathlib.Core.List.{List}
use Prim.Native.Nat.{ℕ, ◌+◌, ◌%◌, ◌≤◌, ◌<◌}
use native.Mathlib.Omega.{arith}
use lib.Dec.{eqb}
use lib.ListN.{get_or, set}
use borrow.Author.Tests.{eq-eqb, ne_eqb, lt-ltb, le-ltb}
use Rattle.labels.specs.Labelled.{Labelled}
use Rattle.labels.proofs.Below.{cond_both, labelled_set}
use Rattle.rows.specs.Rows.{Numbers, put_class, open_class, more_class, numbers_of, numbered_in}

module _ (labels holds table : List ℕ) (k i classes : ℕ) where
  pub numbered_opens : get_or labels i 0 ≡ i → (table' : List ℕ) → table' ≡ put_class table classes k 1 (get_or holds i 0 % 65536)
      → numbers_of (set labels i classes) (classes + 1) table' ≡ numbered_in k holds i (numbers_of labels classes table)
  unfolding numbered_in open_class
  numbered_opens e table' f = rw (eq-eqb (get_or labels i 0) i e, f)

  module _ (other : get_or labels i 0 ≡ i → ⊥) (c : ℕ) (is : c ≡ get_or labels (get_or labels i 0) 0) where
    pub numbered_joins : c < classes → (table' : List ℕ) → table' ≡ more_class table c (get_or holds i 0 % 65536)
        → numbers_of (set labels i c) classes table' ≡ numbered_in k holds i (numbers_of labels classes table)
    unfolding numbered_in
    numbered_joins l table' f = rw (ne_eqb (get_or labels i 0) i other, ← is, lt-ltb c classes l, f)

    pub numbered_stays : classes ≤ c → numbers_of (set labels i c) classes table ≡ numbered_in k holds i (numbers_of labels classes table)
    unfolding numbered_in
    numbered_stays l = rw (ne_eqb (get_or labels i 0) i other, ← is, le-ltb c classes l)

-- The numbers before ring i is numbered.
pub record Before (i : ℕ) (s : Numbers) : Type 0 where
  pub few : s.classes ≤ i
  pub labelled : Labelled s.labels

numbered_before : (k : ℕ) (holds : List ℕ) (i : ℕ) (s : Numbers) → i < 128 → Before i s → Before (i + 1) (numbered_in k holds i s)
unfolding numbered_in
numbered_before k holds i s l b =
    cond_both (Before (i + 1)) (eqb (get_or s.labels i 0) i) _ _
    (record { few = omega arith; labelled = labelled_set s.labels i s.classes b.labelled (omega arith) })
    (record { few = omega arith; labelled = labelled_set s.labels i _ b.labelled (b.labelled.below (get_or s.labels i 0)) })

pub numbered_after : (k : ℕ) (holds : List ℕ) (i : ℕ) (s t : Numbers) → t ≡ numbered_in k holds i s → i < 128 → Before i s → Before (i + 1) t
numbered_after k holds i s t e l b = rw e (numbered_before k holds i s l b)
