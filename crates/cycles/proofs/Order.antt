-- The rows stand in the order of the scope document, and classes are numbered in the order in which they come up.
use mathlib.Core.Path.{◌≡◌, refl}
use mathlib.Core.List.{List, [], ◌∷◌, map}
use mathlib.Core.Logic.{◌⊎◌, inl, inr}
use Prim.Native.Nat.{ℕ, suc, ◌<◌}
use native.Mathlib.Omega.{arith}
use lib.ListN.{length, length-append}
use Rattle.spans.proofs.Marking.{all_element}
use Rattle.bondset.proofs.Laws.{lt_or_ge}
use Rattle.cycles.specs.Compound.{Compound}
use Rattle.cycles.specs.Family.{Family, Kept}
use Rattle.cycles.specs.Rows.{Row, key, Less, Ascending, At, Classes, Report, Right}
use Rattle.cycles.proofs.Bases.{ascending_rest}
use Rattle.cycles.proofs.Ranks.{at_element, at_below, element_at}
use Rattle.cycles.proofs.Unique.{ascending_less}
use Rattle.cycles.proofs.OneRow.{at_map}

-- An earlier member of an ascending list comes before a later one.
ascending_at : {fs : List Family} {f g : Family} {j k : ℕ} → Ascending fs → At fs j f → At fs k g → j < k → Less (key f) (key g)
ascending_at a At.here At.here h = absurd (omega arith)
ascending_at a At.here (At.later q) h = all_element (ascending_less a) (at_element q)
ascending_at a (At.later p) At.here h = absurd (omega arith)
ascending_at a (At.later p) (At.later q) h = ascending_at (ascending_rest a) p q (omega arith)

-- What stands in a list of families stands there as the family of a row.
at_unmap : (rows : List Row) {k : ℕ} {f : Family} → At (map (λ row. row.family) rows) k f → (row : Row) × At rows k row × (row.family ≡ f)
at_unmap [] a = elim a [ ]
at_unmap (row ∷ rows) At.here = (row, At.here, refl)
at_unmap (row ∷ rows) (At.later a) = let (u, b, e) = at_unmap rows a in (u, At.later b, e)

-- The row at place j is of class g.
pub record OfClassAt (rows : List Row) (j g : ℕ) : Type 0 where
  pub row : Row
  pub at : At rows j row
  pub class : row.class ≡ g

module _ (c : Compound) (rank : ℕ → ℕ) where
  -- A class number is one of those before the rows, or that of an earlier row, or one more than all of these.
  classes_earlier : {before after : List Family} {rows : List Row} {k g : ℕ} {row : Row} → Classes c rank before rows after → At rows k row → g < row.class
      → (g < length before) ⊎ ((j : ℕ) × (j < k) × OfClassAt rows j g)
  classes_earlier Classes.end a h = elim a [ ]
  classes_earlier (Classes.old b t r) At.here h = inl (omega (arith, at_below b))
  classes_earlier (Classes.new n e r) At.here h = inl (omega (arith, e))
  classes_earlier (Classes.old b t r) (At.later a) h = elim (classes_earlier r a h) [
    | inl l ↦ inl l
    | inr (j, l, o) ↦ inr (suc j, omega (arith, l), record { row = o.row; at = At.later o.at; class = o.class })
  ]
  classes_earlier {before} {g = g} (Classes.new {row = u} n e r) (At.later a) h = elim (classes_earlier r a h) [
    | inl l ↦ elim (lt_or_ge g (length before)) [
      | inl m ↦ inl m
      | inr m ↦
          inr (0, omega arith, record { row = u; at = At.here; class = omega (arith, e, m, l, length-append before (u.family ∷ [])) })
    ]
    | inr (j, l, o) ↦ inr (suc j, omega (arith, l), record { row = o.row; at = At.later o.at; class = o.class })
  ]

  module _ {R : Report} (right : Right c rank R) where
    -- "Kept families are ordered by length, then r, then x (odd counts as 255), then p, then q."
    pub rows_ascend : {j k : ℕ} {u v : Row} → At R.rows j u → At R.rows k v → j < k → Less (key u.family) (key v.family)
    rows_ascend a b h = ascending_at right.ordered (at_map (λ row. row.family) a) (at_map (λ row. row.family) b) h

    -- Each kept family has a row.
    pub kept_has_row : {f : Family} → Kept c rank f → (k : ℕ) × (row : Row) × At R.rows k row × (row.family ≡ f)
    kept_has_row {f} h = let (k, a) = element_at ((right.kept f).1 h) in let (row, b, e) = at_unmap R.rows a in (k, row, b, e)

    -- "Classes are numbered from 0 by their first family": every lower number has come up in an earlier row.
    pub class_numbers_ascend : {k g : ℕ} {row : Row} → At R.rows k row → g < row.class → (j : ℕ) × (j < k) × OfClassAt R.rows j g
    class_numbers_ascend a h = elim (classes_earlier right.classed a h) [ inl l ↦ absurd (omega arith) | inr w ↦ w ]
