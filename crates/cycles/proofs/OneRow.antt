-- Demand 2, of the rows of a right report: every relevant ring is in exactly one of them, and every member of one is relevant.
use mathlib.Core.Path.{◌≡◌, refl, sym, ap, subst}
use mathlib.Core.List.{List, map}
use Prim.Native.Nat.{ℕ, suc, ◌<◌}
use Rattle.spans.specs.Elements.{◌∈◌}
use Rattle.cycles.specs.Compound.{Compound, Sound}
use Rattle.cycles.specs.Ring.{Relevant}
use Rattle.cycles.specs.Family.{Family, Member}
use Rattle.cycles.specs.Rows.{Row, At, Ascending, Report, Right}
use Rattle.cycles.proofs.Families.{member_relevant}
use Rattle.cycles.proofs.MembersCorners.{member_family}
use Rattle.cycles.proofs.Bases.{ascending_rest}
use Rattle.cycles.proofs.Ranks.{in_map, at_element, element_at, at_unique, relevant_in_row}
use Rattle.cycles.proofs.Unique.{ascending_fresh}

pub at_map : {X Y : Type 0} (f : X → Y) {x : X} {xs : List X} {k : ℕ} → At xs k x → At (map f xs) k (f x)
at_map f At.here = At.here
at_map f (At.later a) = At.later (at_map f a)

equal_place : {fs : List Family} {f g : Family} {j k : ℕ} → Ascending fs → f ≡ g → At fs j f → At fs k g → j ≡ k
equal_place a e At.here At.here = refl
equal_place a e At.here (At.later {xs = xs} q) = absurd (ascending_fresh a (subst (λ h. h ∈ xs) (sym e) (at_element q)))
equal_place a e (At.later {xs = xs} p) At.here = absurd (ascending_fresh a (subst (λ h. h ∈ xs) e (at_element p)))
equal_place a e (At.later p) (At.later q) = ap suc (equal_place (ascending_rest a) e p q)

ascending_place : {fs : List Family} {f : Family} {j k : ℕ} → Ascending fs → At fs j f → At fs k f → j ≡ k
ascending_place a p q = equal_place a refl p q

module _ (c : Compound) (rank : ℕ → ℕ) where
  -- C is a member of the family of the row at one place, and of no other row.
  pub record InOneRow (rows : List Row) (C : ℕ) : Type 0 where
    pub place : ℕ
    pub row : Row
    pub at : At rows place row
    pub member : Member c rank row.family C
    pub only : (k : ℕ) (other : Row) → At rows k other → Member c rank other.family C → (k ≡ place) × (other ≡ row)

module _ (c : Compound) (sound : Sound c) (rank : ℕ → ℕ) where
  -- "Every member of a reported family is relevant."
  pub row_member_relevant : {R : Report} {row : Row} {C : ℕ} → Right c rank R → row ∈ R.rows → Member c rank row.family C → Relevant c C
  row_member_relevant {row} right l m = member_relevant c sound rank ((right.kept row.family).0 (in_map (λ row. row.family) l)) m

  module _ (injective : (a b : ℕ) → a < c.n → b < c.n → rank a ≡ rank b → a ≡ b) {R : Report} (right : Right c rank R) where
    -- No ring is a member of the families of two rows.
    pub row_place_unique : {j k C : ℕ} {u v : Row} → At R.rows j u → At R.rows k v → Member c rank u.family C → Member c rank v.family C → j ≡ k
    row_place_unique {j} {u} {v} a b p q =
        ascending_place right.ordered
        (subst (At (map (λ row. row.family) R.rows) j) (member_family c sound rank p q) (at_map (λ row. row.family) a))
        (at_map (λ row. row.family) b)

    -- "Every relevant ring is in exactly one reported family."
    pub relevant_in_one_row : {C : ℕ} → Relevant c C → InOneRow c rank R.rows C
    relevant_in_one_row relevant =
        let w = relevant_in_row c sound rank injective right relevant in
        let (k, a) = element_at w.listed in
        record {
          place = k;
          row = w.row;
          at = a;
          member = w.member;
          only = λ j other b m.
              let e = row_place_unique b a m w.member in
              (e, at_unique (subst (λ (i : ℕ). At R.rows i other) e b) a);
        }
