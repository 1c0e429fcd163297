-- Classes and relative ranks: what a class number and a relative rank say of rings and of every minimum basis.
use mathlib.Core.Path.{◌≡◌, refl, sym, ◌∙◌, ap, subst}
use mathlib.Core.Bool.{cond, ◌&&◌, and-false}
use mathlib.Core.List.{List, [], ◌∷◌, ◌++◌, map}
use mathlib.Core.Logic.{◌↔◌, ◌⊎◌, inl, inr}
use Prim.Native.Nat.{ℕ, zero, suc, ◌+◌, ◌<◌}
use native.Mathlib.Omega.{arith}
use native.Mathlib.Decide.{ℕ_discrete}
use borrow.Author.Tests.{eq-eqb, ne_eqb}
use lib.Dec.{eqb}
use lib.ListN.{length}
use Rattle.spans.specs.Elements.{◌∈◌}
use Rattle.spans.specs.Basis.{All, Holding}
use Rattle.spans.proofs.Lists.{all_append}
use Rattle.spans.proofs.Sift.{Sift, sift, sifted, sift_holding, holding_unique}
use Rattle.spans.proofs.Classes.{same_count}
use Rattle.spans.proofs.Profile.{exact, exact_sift}
use Rattle.spans.proofs.Marking.{all_element}
use Rattle.spans.proofs.Replace.{RelevantOf, minimum_level}
use Rattle.bondset.proofs.Group.{bond_sets}
use Rattle.cycles.specs.Compound.{Compound, Sound}
use Rattle.cycles.specs.Ring.{len, Closed, Relevant}
use Rattle.cycles.specs.Basis.{Minimum, Interchangeable}
use Rattle.cycles.specs.Family.{Family, Prototype, Member, Kept}
use Rattle.cycles.specs.Rows.{Row, ClassRow, Report, Right, At, how_many, class_row, class_rows, Marks, Together, Classes, later}
use Rattle.cycles.proofs.Families.{prototype_member, prototype_unique}
use Rattle.cycles.proofs.Members.{relevant_in_family}
use Rattle.cycles.proofs.Bases.{no_sum_relevant, relevant_dec, prototype_long, kept_prototype_relevant, marked_minimum}
use Rattle.cycles.proofs.Swaps.{interchangeable_sym, interchangeable_same_length, interchangeable_relevant, interchangeable_trans}
use Rattle.cycles.proofs.Swaps.{swap_interchangeable, minimum_lower, family_interchangeable}

-- The image of an element is an element of the images.
pub in_map : {X Y : Type 0} (f : X → Y) {x : X} {xs : List X} → x ∈ xs → f x ∈ map f xs
in_map f ◌∈◌.first = ◌∈◌.first
in_map f (◌∈◌.later i) = ◌∈◌.later (in_map f i)

module _ {X : Type 0} where
  -- What holds of each element holds of all.
  pub all_each : {P : X → Type 0} (xs : List X) → ((x : X) → x ∈ xs → P x) → All P xs
  all_each [] f = All.nil
  all_each (x ∷ xs) f = All.cons (f x ◌∈◌.first) (all_each xs (λ y i. f y (◌∈◌.later i)))

  -- What stands at a place is an element.
  pub at_element : {xs : List X} {i : ℕ} {x : X} → At xs i x → x ∈ xs
  at_element At.here = ◌∈◌.first
  at_element (At.later a) = ◌∈◌.later (at_element a)

  -- A place of the list is below its length.
  pub at_below : {xs : List X} {i : ℕ} {x : X} → At xs i x → i < length xs
  at_below At.here = omega arith
  at_below (At.later a) = omega (arith, at_below a)

  -- Below its length a list has something at each place.
  pub at_exists : (xs : List X) (k : ℕ) → k < length xs → (x : X) × At xs k x
  at_exists [] k h = absurd (omega arith)
  at_exists (x ∷ xs) zero h = (x, At.here)
  at_exists (x ∷ xs) (suc k) h = let (y, a) = at_exists xs k (omega arith) in (y, At.later a)

  -- Each element stands at a place.
  pub element_at : {x : X} {xs : List X} → x ∈ xs → (k : ℕ) × At xs k x
  element_at ◌∈◌.first = (0, At.here)
  element_at (◌∈◌.later i) = let (k, a) = element_at i in (suc k, At.later a)

  -- One thing stands at a place.
  pub at_unique : {xs : List X} {i : ℕ} {x y : X} → At xs i x → At xs i y → x ≡ y
  at_unique At.here At.here = refl
  at_unique (At.later a) (At.later b) = at_unique a b

  pub at_append : {xs : List X} {i : ℕ} {x : X} (ys : List X) → At xs i x → At (xs ++ ys) i x
  at_append ys At.here = At.here
  at_append ys (At.later a) = At.later (at_append ys a)

  pub at_end_lem : (xs : List X) (x : X) → At (xs ++ (x ∷ [])) (length xs) x
  at_end_lem [] x = At.here
  at_end_lem (y ∷ xs) x = At.later (at_end_lem xs x)

  -- What stands in a longer list stands in the list or at its end.
  pub at_snoc : (xs : List X) {i : ℕ} {x y : X} → At (xs ++ (y ∷ [])) i x → At xs i x ⊎ ((i ≡ length xs) × (x ≡ y))
  at_snoc [] (later a) = elim a [ ]
  at_snoc [] At.here = inr (refl, refl)
  at_snoc (z ∷ xs) At.here = inl At.here
  at_snoc (z ∷ xs) (At.later a) = go (at_snoc xs a)
    where
      go : {i : ℕ} {x y : X} → At xs i x ⊎ ((i ≡ length xs) × (x ≡ y)) → At (z ∷ xs) (suc i) x ⊎ ((suc i ≡ suc (length xs)) × (x ≡ y))
      go (inl b) = inl (At.later b)
      go (inr (e, d)) = inr (ap suc e, d)

  module _ {K : X → Type 0} where
    holding_end_in : (x : X) {xs : List X} {n : ℕ} → K x → Holding K xs n → Holding K (xs ++ (x ∷ [])) (suc n)
    holding_end_in x k Holding.none = Holding.inn k Holding.none
    holding_end_in x k (Holding.inn j h) = Holding.inn j (holding_end_in x k h)
    holding_end_in x k (Holding.out j h) = Holding.out j (holding_end_in x k h)

    holding_end_out : (x : X) {xs : List X} {n : ℕ} → ¬ K x → Holding K xs n → Holding K (xs ++ (x ∷ [])) n
    holding_end_out x k Holding.none = Holding.out k Holding.none
    holding_end_out x k (Holding.inn j h) = Holding.inn j (holding_end_out x k h)
    holding_end_out x k (Holding.out j h) = Holding.out j (holding_end_out x k h)

    holding_sift : {L : X → Type 0} {xs ys : List X} {n : ℕ} → Sift L xs ys → ((x : X) → K x → L x) → Holding K ys n → Holding K xs n
    holding_sift Sift.nil f h = h
    holding_sift (Sift.inn l s) f (Holding.inn k h) = Holding.inn k (holding_sift s f h)
    holding_sift (Sift.inn l s) f (Holding.out k h) = Holding.out k (holding_sift s f h)
    holding_sift (Sift.out {x = x} l s) f h = Holding.out (λ k. l (f x k)) (holding_sift s f h)

  -- As many have what is the same.
  pub holding_iff : {K L : X → Type 0} {xs : List X} {n : ℕ} → ((x : X) → K x → L x) → ((x : X) → L x → K x) → Holding K xs n → Holding L xs n
  holding_iff f g Holding.none = Holding.none
  holding_iff f g (Holding.inn {x = x} k h) = Holding.inn (f x k) (holding_iff f g h)
  holding_iff f g (Holding.out {x = x} k h) = Holding.out (λ l. k (g x l)) (holding_iff f g h)

-- How many rows of class i are marked.
abbrev marked_in : ℕ → List Row → ℕ
marked_in i rows = how_many (λ row. eqb row.class i && eqb row.mark 1) rows

count_none : (i : ℕ) → marked_in i [] ≡ 0
unfolding how_many
count_none i = refl

count_in : (i : ℕ) (row : Row) (rows : List Row) → row.class ≡ i → row.mark ≡ 1 → marked_in i (row ∷ rows) ≡ suc (marked_in i rows)
unfolding how_many
count_in i row rows e d = rw (eq-eqb row.class i e, eq-eqb row.mark 1 d) (omega arith)

count_other : (i : ℕ) (row : Row) (rows : List Row) → ¬ (row.class ≡ i) → marked_in i (row ∷ rows) ≡ marked_in i rows
unfolding how_many
count_other i row rows n = rw (ne_eqb row.class i n) (omega arith)

count_unmarked : (i : ℕ) (row : Row) (rows : List Row) → row.mark ≡ 0 → marked_in i (row ∷ rows) ≡ marked_in i rows
unfolding how_many
count_unmarked i row rows e = rw (e, and-false) (omega arith)

class_rows_at : (rows : List Row) (base : ℕ) (fs : List Family) {j : ℕ} {t : ClassRow} (i : ℕ) → At (class_rows rows base fs) j t → i ≡ base + j
    → (g : Family) × At fs j g × (t ≡ class_row rows i g)
unfolding class_rows
class_rows_at rows base [] i a e = elim a [ ]
class_rows_at rows base (f ∷ fs) i At.here e = (f, At.here, ap (λ (l : ℕ). class_row rows l f) (omega arith))
class_rows_at rows base (f ∷ fs) i (At.later a) e =
    let (g, b, d) = class_rows_at rows (suc base) fs i a (omega arith) in (g, At.later b, d)

-- There is a class row for each first family.
pub length_class_rows : (rows : List Row) (base : ℕ) (fs : List Family) → length (class_rows rows base fs) ≡ length fs
unfolding class_rows
length_class_rows rows base [] = refl
length_class_rows rows base (f ∷ fs) = ap suc (length_class_rows rows (suc base) fs)

at_class_rows : (rows : List Row) (base : ℕ) {fs : List Family} {j : ℕ} {g : Family} → At fs j g → (t : ClassRow) × At (class_rows rows base fs) j t
unfolding class_rows
at_class_rows rows base (At.here {x = f}) = (class_row rows base f, At.here)
at_class_rows rows base (At.later a) = let (t, b) = at_class_rows rows (suc base) a in (t, At.later b)

module _ (c : Compound) (sound : Sound c) where
  module _ {D : ℕ} (dec : (C : ℕ) → Dec (Interchangeable c C D)) where
    abbrev Like : ℕ → Type 0
    Like C = Interchangeable c C D

    class_holding : (B : List ℕ) → Holding Like B (length (sift Like dec (exact (len c) (len c D) B)))
    class_holding B =
        holding_sift (exact_sift (len c) (len c D) B) (λ C k. interchangeable_same_length c k)
        (sift_holding Like (sifted Like dec (exact (len c) (len c D) B)))

    class_count : {A B : List ℕ} → Minimum c A → Minimum c B
        → length (sift Like dec (exact (len c) (len c D) A)) ≡ length (sift Like dec (exact (len c) (len c D) B))
    class_count {A} {B} a b =
        let l = minimum_lower c a (len c D) in
        same_count bond_sets (RelevantOf bond_sets (len c) (Closed c) (len c D)) l.sets Like dec
        (λ C E p q k s.
        let r = swap_interchangeable c sound l.indep l.spans (no_sum_relevant c sound p.0) (no_sum_relevant c sound q.0) p.1 q.1 s in
        interchangeable_trans c sound (interchangeable_sym c r) k)
        (exact (len c) (len c D) A) (exact (len c) (len c D) B)
        (minimum_level bond_sets (len c) (Closed c) l.indep l.spans a) (minimum_level bond_sets (len c) (Closed c) l.indep l.spans b)

    -- Two minimum bases hold as many rings that are interchangeable with D.
    pub minimum_same_in_class : {A B : List ℕ} {n : ℕ} → Minimum c A → Minimum c B
        → Holding (λ C. Interchangeable c C D) A n → Holding (λ C. Interchangeable c C D) B n
    minimum_same_in_class {A} {B} a b h =
        subst (Holding Like B) (sym (class_count a b) ∙ holding_unique Like (class_holding A) h) (class_holding B)

module _ (c : Compound) (rank : ℕ → ℕ) where
  -- The row of a family to which the ring belongs.
  pub record InRow (rows : List Row) (C : ℕ) : Type 0 where
    pub row : Row
    pub listed : row ∈ rows
    pub member : Member c rank row.family C

  member_in_row : {f : Family} {C : ℕ} (rows : List Row) → f ∈ map (λ row. row.family) rows → Member c rank f C → InRow rows C
  member_in_row [] h m = elim h [ ]
  member_in_row (row ∷ rows) ◌∈◌.first m = record { row = row; listed = ◌∈◌.first; member = m }
  member_in_row (row ∷ rows) (◌∈◌.later i) m =
      let t = member_in_row rows i m in record { row = t.row; listed = ◌∈◌.later t.listed; member = t.member }

module _ (c : Compound) (sound : Sound c) (rank : ℕ → ℕ) where
  together_interchangeable : {f g : Family} {C D : ℕ} → Together c rank f g → Prototype c rank f C → Prototype c rank g D → Interchangeable c C D
  together_interchangeable {D} t p q =
      subst (λ (X : ℕ). Interchangeable c X D) (prototype_unique c sound rank t.prototype_c p)
      (subst (Interchangeable c t.C) (prototype_unique c sound rank t.prototype_d q) t.interchangeable)

  interchangeable_together : {f g : Family} {C D : ℕ} → Prototype c rank f C → Prototype c rank g D → Interchangeable c C D → Together c rank f g
  interchangeable_together {C} {D} p q i =
      record {
        C = C;
        D = D;
        prototype_c = p;
        prototype_d = q;
        long = sym (prototype_long c sound rank p) ∙ interchangeable_same_length c i ∙ prototype_long c sound rank q;
        interchangeable = i;
      }

  -- If f is together with g, then g is with f.
  pub together_sym : {f g : Family} → Together c rank f g → Together c rank g f
  together_sym t = interchangeable_together t.prototype_d t.prototype_c (interchangeable_sym c t.interchangeable)

  -- What is together with one is together with all that it is with.
  pub together_trans : {f g h : Family} → Together c rank f g → Together c rank g h → Together c rank f h
  together_trans t u =
      interchangeable_together t.prototype_c u.prototype_d
      (interchangeable_trans c sound (together_interchangeable t t.prototype_c u.prototype_c) u.interchangeable)

  -- The class of a row stands for its first family.
  record FirstOf (firsts : List Family) (row : Row) : Type 0 where
    first : Family
    listed : At firsts row.class first
    together : Together c rank row.family first

  classes_extend : {before after : List Family} {rows : List Row} {i : ℕ} {g : Family} → Classes c rank before rows after → At before i g → At after i g
  classes_extend Classes.end a = a
  classes_extend (Classes.old b t cl) a = classes_extend cl a
  classes_extend (Classes.new n e cl) a = classes_extend cl (at_append _ a)

  classes_first : {before after : List Family} {rows : List Row} → Classes c rank before rows after → All (λ row. Kept c rank row.family) rows
      → All (FirstOf after) rows
  classes_first Classes.end All.nil = All.nil
  classes_first (Classes.old {g = g} b t cl) (All.cons k r) =
      All.cons (record { first = g; listed = classes_extend cl b; together = t }) (classes_first cl r)
  classes_first (Classes.new {before = before} {row = row} n e cl) (All.cons k r) =
      All.cons
      (record {
        first = row.family;
        listed = classes_extend cl (subst (λ (i : ℕ). At (before ++ (row.family ∷ [])) i row.family) (sym e) (at_end_lem before row.family));
        together = interchangeable_together k.prototype k.prototype (Interchangeable.same refl);
      })
      (classes_first cl r)

  classes_kept : {before after : List Family} {rows : List Row} → Classes c rank before rows after → All (λ row. Kept c rank row.family) rows
      → All (Kept c rank) before → All (Kept c rank) after
  classes_kept Classes.end All.nil b = b
  classes_kept (Classes.old a t cl) (All.cons k r) b = classes_kept cl r b
  classes_kept (Classes.new n e cl) (All.cons k r) b = classes_kept cl r (all_append b (All.cons k All.nil))

  -- No two of the first families are together.
  abbrev pub Apart : List Family → Type 0
  Apart firsts = (i j : ℕ) (g h : Family) → At firsts i g → At firsts j h → Together c rank g h → i ≡ j

  -- A family that is together with none of them may join them.
  pub apart_more : {f : Family} (before : List Family) → ((g : Family) → g ∈ before → Together c rank f g → ⊥) → Apart before → Apart (before ++ (f ∷ []))
  apart_more {f} before n d i j g h a b t = go (at_snoc before a) (at_snoc before b)
    where
      go : At before i g ⊎ ((i ≡ length before) × (g ≡ f)) → At before j h ⊎ ((j ≡ length before) × (h ≡ f)) → i ≡ j
      go (inl x) (inl y) = d i j g h x y t
      go (inl x) (inr (e, p)) = absurd (n g (at_element x) (together_sym (subst (Together c rank g) p t)))
      go (inr (e, p)) (inl y) = absurd (n h (at_element y) (subst (λ (l : Family). Together c rank l h) p t))
      go (inr (e, p)) (inr (e', q)) = e ∙ sym e'

  classes_apart : {before after : List Family} {rows : List Row} → Classes c rank before rows after → Apart before → Apart after
  classes_apart Classes.end d = d
  classes_apart (Classes.old a t cl) d = classes_apart cl d
  classes_apart (Classes.new {before = before} n e cl) d = classes_apart cl (apart_more before n d)

  -- Of no families no two are together.
  pub apart_none : Apart []
  apart_none i j g h a b t = absurd (let l : i < 0 = at_below a in omega arith)

  module _ {K : ℕ → Type 0} (i : ℕ) where
    marked_holding : {before : List ℕ} {n t : ℕ} (S : ℕ) (row : Row) (rows : List Row) → K S ↔ (row.class ≡ i) → row.mark ≡ 1 → Dec (row.class ≡ i)
        → Holding K before n → t ≡ marked_in i (row ∷ rows) + n → (m : ℕ) × Holding K (before ++ (S ∷ [])) m × (t ≡ marked_in i rows + m)
    marked_holding {n} S row rows f d (yes q) h e = (suc n, holding_end_in S (f.1 q) h, omega (arith, count_in i row rows q d))
    marked_holding {n} S row rows f d (no q) h e = (n, holding_end_out S (λ k. q (f.0 k)) h, omega (arith, count_other i row rows q))

    -- If the prototypes that have K are those of class i, then as many marked ones have K as there are marked rows of class i.
    marks_holding : {before after : List ℕ} {rows : List Row} {n : ℕ} (t : ℕ) → Marks c rank before rows after
        → All (λ row. (S : ℕ) → Prototype c rank row.family S → K S ↔ (row.class ≡ i)) rows
        → Holding K before n → t ≡ marked_in i rows + n → Holding K after t
    marks_holding {before} {n} t Marks.end All.nil h e = let d : n ≡ t = omega (arith, count_none i) in subst (Holding K before) d h
    marks_holding t (Marks.marked {row = row} {rows = rows} {S = S} p n d m) (All.cons f r) h e =
        let (l, g, b) = marked_holding S row rows (f S p) d (ℕ_discrete row.class i) h e in marks_holding t m r g b
    marks_holding t (Marks.unmarked {row = row} {rows = rows} p s d m) (All.cons f r) h e =
        marks_holding t m r h (omega (arith, count_unmarked i row rows d))

  module _ (injective : (a b : ℕ) → a < c.n → b < c.n → rank a ≡ rank b → a ≡ b) {R : Report} (right : Right c rank R) where
    -- Each relevant ring is a member of the family of a row.
    pub relevant_in_row : {C : ℕ} → Relevant c C → InRow c rank R.rows C
    relevant_in_row r = let t = relevant_in_family c sound rank injective r in member_in_row c rank R.rows ((right.kept t.family).1 t.kept) t.member

    kept : All (λ row. Kept c rank row.family) R.rows
    kept = all_each R.rows (λ row i. (right.kept row.family).0 (in_map (λ row. row.family) i))

    first_of : {row : Row} → row ∈ R.rows → FirstOf right.firsts row
    first_of i = all_element (classes_first right.classed kept) i

    apart : Apart right.firsts
    apart = classes_apart right.classed apart_none

    first_kept : {i : ℕ} {g : Family} → At right.firsts i g → Kept c rank g
    first_kept a = all_element (classes_kept right.classed kept All.nil) (at_element a)

    -- A row is of class i exactly if its family is together with the first family of class i.
    class_first : {i : ℕ} {g : Family} {row : Row} → row ∈ R.rows → At right.firsts i g → (row.class ≡ i) ↔ Together c rank row.family g
    class_first {i} {g} {row} l a =
        let t = first_of l in (
          λ e. subst (Together c rank row.family) (at_unique t.listed (subst (λ (j : ℕ). At right.firsts j g) (sym e) a)) t.together,
          λ u. apart row.class i t.first g t.listed a (together_trans (together_sym t.together) u),
        )

    -- Two rows have one class exactly if their prototypes are interchangeable, "of equal length".
    pub rows_same_class_iff : {u v : Row} → u ∈ R.rows → v ∈ R.rows → (u.class ≡ v.class) ↔ Together c rank u.family v.family
    rows_same_class_iff {u} {v} i j =
        let t = first_of j in (
          λ e. together_trans ((class_first i t.listed).0 e) (together_sym t.together),
          λ s. (class_first i t.listed).1 (together_trans s t.together),
        )

    member_like : {row : Row} {C S : ℕ} → row ∈ R.rows → Member c rank row.family C → Prototype c rank row.family S → Interchangeable c C S
    member_like i m p = family_interchangeable c sound rank (all_element kept i) m (prototype_member c sound rank p)

    -- A member of the family of a row is interchangeable with the prototype of the first family of class i exactly if the row is of class i.
    class_like : {i C D : ℕ} {g : Family} {row : Row} → row ∈ R.rows → Member c rank row.family C → At right.firsts i g → Prototype c rank g D
        → Interchangeable c C D ↔ (row.class ≡ i)
    class_like l m a q =
        let k = all_element kept l in
        let s = member_like l m k.prototype in (
          λ t. (class_first l a).1 (interchangeable_together k.prototype q (interchangeable_trans c sound (interchangeable_sym c s) t)),
          λ e. interchangeable_trans c sound s (together_interchangeable ((class_first l a).0 e) k.prototype q),
        )

    -- "Two rings share a class exactly if one can replace the other in some minimum basis."
    pub same_class_iff : {u v : Row} {C D : ℕ} → u ∈ R.rows → v ∈ R.rows → Member c rank u.family C → Member c rank v.family D
        → (u.class ≡ v.class) ↔ ((len c C ≡ len c D) × Interchangeable c C D)
    same_class_iff {u} {v} i j m n =
        let t = first_of j in
        let g = first_kept t.listed in
        let d = (class_like j n t.listed g.prototype).1 refl in (
          λ e.
              let s = interchangeable_trans c sound ((class_like i m t.listed g.prototype).1 e) (interchangeable_sym c d) in
              (interchangeable_same_length c s, s),
          λ s. (class_like i m t.listed g.prototype).0 (interchangeable_trans c sound s.1 d),
        )

    module _ {i D : ℕ} {g : Family} (a : At right.firsts i g) (p : Prototype c rank g D) where
      decide_class : {C : ℕ} → Dec (Relevant c C) → Dec (Interchangeable c C D)
      decide_class (no n) = no λ s. n (interchangeable_relevant c sound (interchangeable_sym c s) (kept_prototype_relevant c sound rank (first_kept a) p))
      decide_class {C} (yes r) = go (ℕ_discrete t.row.class i)
        where
          t : InRow c rank R.rows C
          t = relevant_in_row r

          go : Dec (t.row.class ≡ i) → Dec (Interchangeable c C D)
          go (yes e) = yes ((class_like t.listed t.member a p).1 e)
          go (no n) = no λ s. n ((class_like t.listed t.member a p).0 s)

      -- "The relative rank of a class is the number of marked prototypes in it": any minimum basis holds as many rings of the class.
      pub class_rank : {B : List ℕ} → Minimum c B → Holding (λ C. Interchangeable c C D) B (class_row R.rows i g).rank
      unfolding class_row
      class_rank b =
          minimum_same_in_class c sound (λ C. decide_class (relevant_dec c sound C)) (marked_minimum c sound rank injective right) b
          (marks_holding i (marked_in i R.rows) right.marks
          (all_each R.rows (λ row l S q. class_like l (prototype_member c sound rank q) a p)) Holding.none (omega arith))

    -- Each row has the row of its class.
    pub class_row_exists : {u : Row} → u ∈ R.rows → (t : ClassRow) × At R.class_rows u.class t
    class_row_exists l = rw right.class_rows_are (at_class_rows R.rows 0 (first_of l).listed)

    -- There are as many class rows as classes.
    pub class_rows_length : length R.class_rows ≡ R.classes
    class_rows_length = ap length right.class_rows_are ∙ length_class_rows R.rows 0 right.firsts ∙ sym right.classes_are

    module _ {g : ℕ} {t : ClassRow} (a : At R.class_rows g t) where
      class_row_is : (f : Family) × At right.firsts g f × (t ≡ class_row R.rows g f)
      class_row_is = class_rows_at R.rows 0 right.firsts g (rw right.class_rows_are at a) (omega arith)

      -- Each class has a row.
      pub class_row_of : (u : Row) × (u ∈ R.rows) × (u.class ≡ g)
      class_row_of =
          let (f, b, e) = class_row_is in
          let k = first_kept b in
          let w = member_in_row c rank R.rows ((right.kept f).1 k) (prototype_member c sound rank k.prototype) in
          (w.row, w.listed, (class_like w.listed w.member b k.prototype).0 (Interchangeable.same refl))

      -- The row of a class counts the rows that are of it.
      pub class_row_families : t.families ≡ how_many (λ row. eqb row.class g) R.rows
      unfolding class_row
      class_row_families = let (f, b, e) = class_row_is in ap (λ (s : ClassRow). s.families) e

      -- "A class with exactly one family is marked essential."
      pub class_row_essential : t.essential ≡ cond (eqb t.families 1) 1 0
      unfolding class_row
      class_row_essential =
          let (f, b, e) = class_row_is in
          ap (λ (s : ClassRow). s.essential) e ∙ sym (ap (λ (s : ClassRow). cond (eqb s.families 1) 1 0) e)

    module _ {C : ℕ} {u : Row} {t : ClassRow} (l : u ∈ R.rows) (m : Member c rank u.family C) (a : At R.class_rows u.class t) where
      -- The row of the class of C says how long C is.
      pub class_row_long : t.long ≡ len c C
      unfolding class_row
      class_row_long =
          let (g, f, e) = class_row_is a in
          let p = (first_kept f).prototype in
          ap (λ (s : ClassRow). s.long) e ∙ sym (interchangeable_same_length c ((class_like l m f p).1 refl) ∙ prototype_long c sound rank p)

      -- "The relative rank of a class": any minimum basis at all, from any engine, holds of the rings interchangeable with C exactly as many as the
      -- row of the class of C says.
      pub relative_rank_in_every_minimum : {B : List ℕ} → Minimum c B → Holding (λ D. Interchangeable c D C) B t.rank
      relative_rank_in_every_minimum {B} b =
          let (g, f, e) = class_row_is a in
          let p = (first_kept f).prototype in
          let s = (class_like l m f p).1 refl in
          subst (λ (r : ClassRow). Holding (λ D. Interchangeable c D C) B r.rank) (sym e)
          (holding_iff (λ D k. interchangeable_trans c sound k (interchangeable_sym c s)) (λ D k. interchangeable_trans c sound k s) (class_rank f p b))
