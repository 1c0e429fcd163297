-- The essential mark: a relevant ring is interchangeable with no other exactly if every minimum basis holds it.
use mathlib.Core.Path.{◌≡◌, refl, sym, ◌∙◌, ap, subst}
use mathlib.Core.Bool.{Bool, cond}
use mathlib.Core.List.{List, [], ◌∷◌, ◌++◌, map, append-nil}
use mathlib.Core.Logic.{◌↔◌, ⊎_elim}
use Prim.Native.Nat.{ℕ, suc, ◌+◌, ◌<◌}
use native.Mathlib.Omega.{arith}
use native.Mathlib.Decide.{ℕ_discrete}
use borrow.Author.Tests.{eq-eqb, ne_eqb}
use lib.Dec.{eqb}
use lib.ListN.{length}
use Rattle.spans.specs.Elements.{◌∈◌, Once}
use Rattle.spans.proofs.Lists.{pick_middle, in_left, in_right, in_append}
use Rattle.spans.proofs.Marking.{all_element}
use Rattle.spans.proofs.Replace.{summed_replaces}
use Rattle.spans.proofs.Steinitz.{spanned}
use Rattle.bondset.proofs.Group.{bond_sets}
use Rattle.cycles.specs.Compound.{Compound, Sound}
use Rattle.cycles.specs.Ring.{len, Closed, Relevant}
use Rattle.cycles.specs.Basis.{Minimum, Interchangeable}
use Rattle.cycles.specs.Family.{Member}
use Rattle.cycles.specs.Rows.{Row, At, Report, Right}
use Rattle.cycles.specs.Near.{Near, NearClassRow, near_class_row, near_class_rows, times_of, NearFamilies, RightNear, sizes_of}
use Rattle.cycles.proofs.PathsDecide.{not_in_none, in_cases}
use Rattle.cycles.proofs.PathsDown.{in_one}
use Rattle.cycles.proofs.Bases.{relevant_no_sum, minimum_members_relevant}
use Rattle.cycles.proofs.Swaps.{interchangeable_sym}
use Rattle.cycles.proofs.Ranks.{all_each, at_element}
use Rattle.cycles.proofs.OneRow.{row_member_relevant}
use Rattle.cycles.proofs.Near.{near_refl, near_picked}
use Rattle.cycles.proofs.NearNumbers.{first_numbered}
use Rattle.cycles.proofs.NearClasses.{Counted, rule1_rings, rule2_rings}

-- ---- counting one
-- A list of which all elements are x, each once, has one element if it has x.
once_alone : {x : ℕ} (xs : List ℕ) → Once xs → ((y : ℕ) → y ∈ xs → y ≡ x) → x ∈ xs → length xs ≡ 1
once_alone [] o f i = absurd (not_in_none i)
once_alone (y ∷ []) o f i = refl
once_alone (y ∷ z ∷ xs) (Once.more n o) f i =
    absurd (n (subst (λ (w : ℕ). w ∈ (z ∷ xs)) (f z (◌∈◌.later ◌∈◌.first) ∙ sym (f y ◌∈◌.first)) ◌∈◌.first))

one_alone : {x y : ℕ} (xs : List ℕ) → length xs ≡ 1 → x ∈ xs → y ∈ xs → y ≡ x
one_alone [] e i j = absurd (not_in_none i)
one_alone (z ∷ []) e i j = sym (in_one j) ∙ in_one i
one_alone (z ∷ w ∷ xs) e i j = absurd (omega arith)

-- One has P exactly if all that have it are the same.
pub counted_one_iff : {n x : ℕ} {P : ℕ → Type 0} → Counted n P → P x → (n ≡ 1) ↔ ((y : ℕ) → P y → y ≡ x)
counted_one_iff {n} {x} t p = (
  λ e y q. one_alone t.listed (t.count ∙ e) ((t.all x).1 p) ((t.all y).1 q),
  λ f. sym t.count ∙ once_alone t.listed t.once (λ y i. f y ((t.all y).0 i)) ((t.all x).1 p),
)

mark_iff : (n : ℕ) → (◌≡◌ {A = ℕ} (cond (eqb n 1) 1 0) 1) ↔ (n ≡ 1)
mark_iff n = (λ e. go e (ℕ_discrete n 1), λ e. ap (λ (b : Bool). cond b 1 0) (eq-eqb n 1 e))
  where
    go : ◌≡◌ {A = ℕ} (cond (eqb n 1) 1 0) 1 → Dec (n ≡ 1) → n ≡ 1
    go e (yes d) = d
    go e (no d) = let z : ◌≡◌ {A = ℕ} 0 1 = sym (ap (λ (b : Bool). cond b 1 0) (ne_eqb n 1 d)) ∙ e in absurd (omega arith)

class_rows_at : (rows : List Row) (numbers : List ℕ) (j : ℕ) (firsts : List Row) {k : ℕ} {t : NearClassRow}
    → At (near_class_rows rows numbers j firsts) k t → (u : Row) × At firsts k u × (t ≡ near_class_row rows numbers (j + k) u)
unfolding near_class_rows
class_rows_at rows numbers j [] a = absurd (none a)
  where
    none : {k : ℕ} {t : NearClassRow} → At [] k t → ⊥
    none = elim [ ]
class_rows_at rows numbers j (u ∷ us) At.here = (u, At.here, ap (λ (i : ℕ). near_class_row rows numbers i u) (omega arith))
class_rows_at rows numbers j (u ∷ us) (At.later a) =
    let (v, b, e) = class_rows_at rows numbers (suc j) us a in (v, At.later b, e ∙ ap (λ (i : ℕ). near_class_row rows numbers i v) (omega arith))

class_row_at : (rows : List Row) (numbers : List ℕ) (firsts : List Row) {k : ℕ} {t : NearClassRow} → At (near_class_rows rows numbers 0 firsts) k t
    → (u : Row) × At firsts k u × (t ≡ near_class_row rows numbers k u)
class_row_at rows numbers firsts {k} a =
    let (u, b, e) = class_rows_at rows numbers 0 firsts a in (u, b, e ∙ ap (λ (i : ℕ). near_class_row rows numbers i u) (omega arith))

module _ (c : Compound) (sound : Sound c) where
  -- No other ring is interchangeable with C.
  abbrev pub Alone : ℕ → Type 0
  Alone C = (D : ℕ) → Relevant c D → Interchangeable c C D → D ≡ C

  -- Every minimum basis holds C.
  abbrev pub InEveryMinimum : ℕ → Type 0
  InEveryMinimum C = (B : List ℕ) → Minimum c B → C ∈ B

  alone_in_every : {C : ℕ} → Relevant c C → Alone C → InEveryMinimum C
  alone_in_every {C} r alone B m =
      let span = spanned bond_sets m.basis.spans C r.ring.closed in
      let (D, i, w) = summed_replaces bond_sets (len c) (Closed c) B [] (subst (Minimum c) (sym (append-nil B)) m) (relevant_no_sum c sound r) span
      (all_each B (λ D i. i)) in
      let like : Interchangeable c D C = Interchangeable.swap w.before w.after w.holds w.replaced in
      subst (λ (E : ℕ). E ∈ B) (alone D (all_element (minimum_members_relevant c sound m) i) (interchangeable_sym c like)) i

  in_every_alone : {C : ℕ} → InEveryMinimum C → Alone C
  in_every_alone every D r (Interchangeable.same e) = sym e
  in_every_alone {C} every D r (Interchangeable.swap before after m n) =
      ⊎_elim (λ i. again (in_left after i)) (λ i. ⊎_elim (λ e. e) (λ j. again (in_right before j)) (in_cases i))
      (in_append before (D ∷ after) (every (before ++ (D ∷ after)) n))
    where
      again : {E : ℕ} → C ∈ (before ++ after) → E ≡ C
      again i = absurd (near_picked c sound m (pick_middle before C after) i (near_refl c C))

  -- A relevant ring is interchangeable with no other exactly if every minimum basis holds it.
  pub alone_iff_in_every : {C : ℕ} → Relevant c C → Alone C ↔ InEveryMinimum C
  alone_iff_in_every r = (alone_in_every r, in_every_alone)

  module _ (rank : ℕ → ℕ) (injective : (a b : ℕ) → a < c.n → b < c.n → rank a ≡ rank b → a ≡ b) {R : Report} (right : Right c rank R) where
    -- The sizes of the rows of a class of rule 1 add up to 1 exactly if every minimum basis holds the ring.
    pub one_ring_iff_in_every : {C : ℕ} {u : Row} → u ∈ R.rows → Member c rank u.family C
        → (sizes_of u.class (map (λ row. row.class) R.rows) R.rows ≡ 1) ↔ InEveryMinimum C
    one_ring_iff_in_every {C} i m =
        let r = row_member_relevant c sound rank right i m in
        let one = counted_one_iff (rule1_rings c sound rank injective right i m) (r, Interchangeable.same refl) in
        let every = alone_iff_in_every r in
        (λ e. every.0 (λ D q s. one.0 e D (q, s)), λ f. one.1 (λ D p. every.1 f D p.0 p.1))

    -- What the class row with number k says: it is made from a row u with that number; the rings that it counts are those near C, and the essential mark
    -- is 1 exactly if every minimum basis holds C, whichever member C of the family of u is.
    pub record NearRowSays (numbers : List ℕ) (k : ℕ) (t : NearClassRow) : Type 0 where
      pub place : ℕ
      pub row : Row
      pub at : At R.rows place row
      pub number : At numbers place k
      pub long : t.long ≡ row.family.long
      pub families : t.families ≡ times_of k numbers
      pub rings : {C : ℕ} → Member c rank row.family C → Counted t.rings (λ D. Relevant c D × Near c C D)
      pub essential : {C : ℕ} → Member c rank row.family C → (t.essential ≡ 1) ↔ InEveryMinimum C

    row_says : {numbers : List ℕ} {classes : List NearClassRow} {k i : ℕ} {t : NearClassRow} (u : Row) → RightNear c rank R numbers classes
        → At R.rows i u → At numbers i k → t ≡ near_class_row R.rows numbers k u → NearRowSays numbers k t
    unfolding near_class_row
    row_says {numbers} {k = k} {i = i} {t = t} u near p q e =
        record {
          place = i;
          row = u;
          at = p;
          number = q;
          long = ap (λ (w : NearClassRow). w.long) e;
          families = ap (λ (w : NearClassRow). w.families) e;
          rings = λ {C} m.
              subst (λ (n : ℕ). Counted n (λ D. Relevant c D × Near c C D)) (sym (ap (λ (w : NearClassRow). w.rings) e))
              (rule2_rings c sound rank injective right near p q m);
          essential = λ {C} m. essential m;
        }
      where
        d : t.essential ≡ cond (eqb (sizes_of u.class (map (λ row. row.class) R.rows) R.rows) 1) 1 0
        d = ap (λ (w : NearClassRow). w.essential) e

        essential : {C : ℕ} → Member c rank u.family C → (t.essential ≡ 1) ↔ InEveryMinimum C
        essential m =
            let mark = mark_iff (sizes_of u.class (map (λ row. row.class) R.rows) R.rows) in
            let one = one_ring_iff_in_every (at_element p) m in
            (λ h. one.0 (mark.0 (sym d ∙ h)), λ f. d ∙ mark.1 (one.1 f))

    -- Each class row of rule 2 says what it is to say.
    pub near_class_row_says : {numbers : List ℕ} {classes : List NearClassRow} {k : ℕ} {t : NearClassRow} → RightNear c rank R numbers classes
        → At classes k t → NearRowSays numbers k t
    near_class_row_says {numbers} {classes} {k} {t} near a =
        let (u, b, e) = class_row_at R.rows numbers near.firsts (subst (λ (ts : List NearClassRow). At ts k t) near.classes_are a) in
        let (i, p, q) = first_numbered (λ u v. NearFamilies c rank u.family v.family) near.classed b in
        row_says u near p q e
