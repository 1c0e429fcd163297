-- That rows are found by their index is a fact with one proof, so that a struct can carry it.
use Rattle.std.specs.Prelude.{◌≡◌, ℕ, ◌⊎◌, ◌<◌, List, get_or}
use Rattle.std.specs.Coded.{Π_prop}
use Rattle.std.proofs.Common.{inl, inr, sym, ◌∙◌, ap, arith}
use Rattle.std.proofs.Props.{props}
use Rattle.bondset.specs.Sets.{bit}
use Rattle.bondset.specs.Rows.{row_at}
use Rattle.bondset.specs.Index.{Indexed, Fresh, Placed, held_by}

-- a fact of which one half excludes the other has one proof, if each half has
either_prop : {A B : Type 0} → IsProp A → IsProp B → (A → B → ⊥) → IsProp (A ⊎ B)
either_prop a b apart (inl x) (inl y) = ap inl (a x y)
either_prop a b apart (inl x) (inr y) = absurd (apart x y)
either_prop a b apart (inr x) (inl y) = absurd (apart y x)
either_prop a b apart (inr x) (inr y) = ap inr (b x y)

module _ (rows pivots place : List ℕ) (fresh late all n : ℕ) where
  -- a late row is not fresh, because the place of a fresh pivot is early
  late_apart : Indexed rows pivots place fresh late all n → (i : ℕ) → bit late i ≡ 1 → Fresh rows pivots place fresh n i → ⊥
  late_apart x i l f =
      let early : bit late i ≡ 0 = ap (bit late) (sym f.placed) ∙ (x.back (get_or pivots i 0) f.among).early in
      absurd (omega (arith, l, early))

  fresh_prop : (i : ℕ) → IsProp (Fresh rows pivots place fresh n i)
  fresh_prop i = Prim.hlevel props

  placed_prop : (b : ℕ) → IsProp (Placed pivots place late n b)
  placed_prop b = Prim.hlevel props

  split_prop : Indexed rows pivots place fresh late all n → IsProp ((i : ℕ) → i < n → (bit late i ≡ 1) ⊎ Fresh rows pivots place fresh n i)
  split_prop x = Π_prop (λ i. Π_prop (λ l. either_prop (Prim.hlevel props) (fresh_prop i) (late_apart x i)))

  pub Indexed-prop : IsProp (Indexed rows pivots place fresh late all n)
  Indexed-prop x y =
      let own_prop : IsProp ((i : ℕ) → i < n → bit (row_at rows i) (get_or pivots i 0) ≡ 1) = Prim.hlevel props in
      let others_prop : IsProp ((i j : ℕ) → i < n → j < i → bit (row_at rows i) (get_or pivots j 0) ≡ 0) = Prim.hlevel props in
      let held_prop : IsProp (all ≡ held_by rows n) = Prim.hlevel props in
      let back_prop : IsProp ((b : ℕ) → bit fresh b ≡ 1 → Placed pivots place late n b) = Prim.hlevel (props, placed_prop) in
      let within_prop : IsProp ((i : ℕ) → bit late i ≡ 1 → i < n) = Prim.hlevel props in
      λ i. record {
        own = own_prop x.own y.own i;
        others = others_prop x.others y.others i;
        held = held_prop x.held y.held i;
        split = split_prop x x.split y.split i;
        back = back_prop x.back y.back i;
        within = within_prop x.within y.within i;
      }
