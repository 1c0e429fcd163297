-- What the numbers of a right report count: kept families, classes of relevant rings, relevant rings.
use mathlib.Core.Path.{◌≡◌, sym, ◌∙◌}
use mathlib.Core.List.{map}
use Prim.Native.Nat.{ℕ, ◌<◌}
use native.Mathlib.Omega.{arith}
use lib.ListN.{length-map}
use Rattle.spans.specs.Elements.{◌∈◌}
use Rattle.cycles.specs.Compound.{Compound, Sound}
use Rattle.cycles.specs.Ring.{Relevant}
use Rattle.cycles.specs.Family.{Member, Kept}
use Rattle.cycles.specs.Rows.{Row, Report, Right}
use Rattle.cycles.proofs.Families.{prototype_member}
use Rattle.cycles.proofs.Swaps.{interchangeable_same_length}
use Rattle.cycles.proofs.Ranks.{in_map, at_exists, at_below, relevant_in_row, same_class_iff, class_rows_length, class_row_of, class_row_exists}
use Rattle.cycles.proofs.Unique.{ascending_once}
use Rattle.cycles.proofs.ThroughRows.{rings_count}
use Rattle.answers.specs.Bytes.{Exactly, ClassCount}

module _ (c : Compound) (sound : Sound c) (rank : ℕ → ℕ) (injective : (a b : ℕ) → a < c.n → b < c.n → rank a ≡ rank b → a ≡ b) where
  module _ {R : Report} (right : Right c rank R) where
    -- The number of families is that of the kept families.
    pub right_families : Exactly R.families (Kept c rank)
    right_families =
        record {
          listed = map (λ row. row.family) R.rows;
          once = ascending_once _ right.ordered;
          all = right.kept;
          count = length-map R.rows (λ row. row.family) ∙ sym right.families_are;
        }

    -- The number of rings is that of the relevant rings.
    pub right_rings : Exactly R.rings (Relevant c)
    right_rings = rings_count c sound rank injective right

    -- A row of class g.
    record RowOf (g : ℕ) : Type 0 where
      row : Row
      listed : row ∈ R.rows
      class : row.class ≡ g
      kept : Kept c rank row.family

    row_of : (g : ℕ) → g < R.classes → RowOf g
    row_of g h =
        let (t, a) = at_exists R.class_rows g (omega (arith, class_rows_length c sound rank injective right)) in
        let (u, l, e) = class_row_of c sound rank injective right a in
        record { row = u; listed = l; class = e; kept = (right.kept u.family).0 (in_map (λ row. row.family) l) }

    row_ring : {g : ℕ} (w : RowOf g) → Member c rank w.row.family w.kept.ring
    row_ring w = prototype_member c sound rank w.kept.prototype

    -- The class of a row is below the number of classes.
    pub class_below : {u : Row} → u ∈ R.rows → u.class < R.classes
    class_below l =
        let (t, a) = class_row_exists c sound rank injective right l in
        omega (arith, at_below a, class_rows_length c sound rank injective right)

    -- The number of classes is that of the classes of interchangeable relevant rings.
    pub right_classes : ClassCount c R.classes
    right_classes =
        record {
          ring = λ g h. (row_of g h).kept.ring;
          relevant = λ g h. (row_of g h).kept.relevant;
          apart = λ g j h l s.
              let u = row_of g h in
              let v = row_of j l in
              sym u.class
              ∙ (same_class_iff c sound rank injective right u.listed v.listed (row_ring u) (row_ring v)).1 (interchangeable_same_length c s, s)
              ∙ v.class;
          all = λ C r.
              let w = relevant_in_row c sound rank injective right r in
              let g = w.row.class in
              let h = class_below w.listed in
              let u = row_of g h in
              (g, h, ((same_class_iff c sound rank injective right w.listed u.listed w.member (row_ring u)).0 (sym u.class)).1);
        }
