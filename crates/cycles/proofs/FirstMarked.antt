-- The first family of each class is marked.
use mathlib.Core.Path.{◌≡◌, sym, ◌∙◌, subst}
use mathlib.Core.List.{List, [], ◌∷◌, ◌++◌, append_assoc, append-nil}
use mathlib.Core.Logic.{◌⊎◌, inl, inr}
use Prim.Native.Nat.{ℕ, suc, ◌<◌}
use native.Mathlib.Omega.{arith}
use Rattle.spans.specs.Elements.{◌∈◌}
use Rattle.spans.specs.Basis.{All}
use Rattle.spans.proofs.Lists.{all_append}
use Rattle.spans.proofs.Span.{at, from_part}
use Rattle.spans.proofs.Replace.{summed_replaces}
use Rattle.bondset.proofs.Group.{bond_sets}
use Rattle.cycles.specs.Compound.{Compound, Sound}
use Rattle.cycles.specs.Ring.{len, Closed}
use Rattle.cycles.specs.Basis.{Minimum, Interchangeable}
use Rattle.cycles.specs.Family.{Prototype}
use Rattle.cycles.specs.Rows.{Row, At, SumOf, Marks, Report, Right}
use Rattle.cycles.proofs.Families.{prototype_member}
use Rattle.cycles.proofs.Bases.{relevant_no_sum, kept_prototype_relevant, marked_minimum}
use Rattle.cycles.proofs.Swaps.{interchangeable_same_length}
use Rattle.cycles.proofs.Ranks.{in_map, at_element, same_class_iff}

module _ (c : Compound) (rank : ℕ → ℕ) where
  -- What was marked before stays in front.
  marks_front : {before after : List ℕ} {rows : List Row} → Marks c rank before rows after → (rest : List ℕ) × (after ≡ before ++ rest)
  marks_front (Marks.end {marked = before}) = ([], sym (append-nil before))
  marks_front (Marks.marked {before = before} {S = S} p n e m) =
      let (rest, d) = marks_front m in (S ∷ rest, d ∙ append_assoc before (S ∷ []) rest)
  marks_front (Marks.unmarked p s e m) = marks_front m

  module _ (Q : Row → Type 0) where
    -- D is the prototype of a row that has Q.
    abbrev PrototypeOf : ℕ → Type 0
    PrototypeOf D = (u : Row) × Q u × Prototype c rank u.family D

    -- The prototype of the row is a sum of marked ones that stand before all others, and each of these is the prototype of a row that has Q.
    record Summed (row : Row) (marked : List ℕ) : Type 0 where
      ring : ℕ
      prototype : Prototype c rank row.family ring
      front : List ℕ
      rest : List ℕ
      in_front : marked ≡ front ++ rest
      sum : SumOf c rank front ring
      of : All PrototypeOf front

    -- A row is marked, or its prototype is a sum of those marked before it. Q is what the rows before it have.
    marked_or_summed : {i : ℕ} {row : Row} {rows : List Row} {before after : List ℕ} → Marks c rank before rows after → At rows i row
        → ((j : ℕ) (u : Row) → j < i → At rows j u → Q u) → All PrototypeOf before → (row.mark ≡ 1) ⊎ Summed row after
    marked_or_summed Marks.end p q a = elim p [ ]
    marked_or_summed (Marks.marked p n e m) At.here q a = inl e
    marked_or_summed (Marks.unmarked {before = before} {S = S} p s e m) At.here q a =
        let (rest, d) = marks_front m in
        inr (record { ring = S; prototype = p; front = before; rest = rest; in_front = d; sum = s; of = a })
    marked_or_summed (Marks.marked {row = row} p n e m) (At.later t) q a =
        marked_or_summed m t (λ j u h b. q (suc j) u (omega arith) (At.later b))
        (all_append a (All.cons (row, q 0 row (omega arith) At.here, p) All.nil))
    marked_or_summed (Marks.unmarked p s e m) (At.later t) q a =
        marked_or_summed m t (λ j u h b. q (suc j) u (omega arith) (At.later b)) a

module _ (c : Compound) (sound : Sound c) (rank : ℕ → ℕ) (injective : (a b : ℕ) → a < c.n → b < c.n → rank a ≡ rank b → a ≡ b)
    {R : Report} (right : Right c rank R) where
  -- "Classes are numbered from 0 by their first family": a family before which no other is of its class is marked. Were its prototype a sum of those
  -- marked before, it could stand in the place of one of them, and that one would be of its class.
  pub first_family_marked : {i : ℕ} {row : Row} → At R.rows i row
      → ((j : ℕ) (u : Row) → j < i → At R.rows j u → u.class ≡ row.class → ⊥) → row.mark ≡ 1
  first_family_marked {i} {row} t first =
      go (marked_or_summed c rank Other right.marks t (λ j u h a. (at_element a, first j u h a)) All.nil)
    where
      Other : Row → Type 0
      Other u = (u ∈ R.rows) × (u.class ≡ row.class → ⊥)

      go : (row.mark ≡ 1) ⊎ Summed c rank Other row right.basis → row.mark ≡ 1
      go (inl e) = e
      go (inr s) =
          let k = (right.kept row.family).0 (in_map (λ row. row.family) (at_element t)) in
          let (part, p, e) = s.sum in
          let (D, (u, (l, other), q), w) = summed_replaces bond_sets (len c) (Closed c) s.front s.rest
          (subst (Minimum c) s.in_front (marked_minimum c sound rank injective right))
          (relevant_no_sum c sound (kept_prototype_relevant c sound rank k s.prototype)) (at bond_sets e (from_part bond_sets p)) s.of in
          let like : Interchangeable c D s.ring = Interchangeable.swap w.before w.after w.holds w.replaced in
          absurd (other ((same_class_iff c sound rank injective right l (at_element t) (prototype_member c sound rank q)
          (prototype_member c sound rank s.prototype)).1 (interchangeable_same_length c like, like)))
