-- Exactly so many: one number, carried by maps there and back; and the sizes of the rows that pass a test count the rings of these rows.
use mathlib.Core.Path.{◌≡◌, refl, sym, ap, ap₂, ◌∙◌, subst}
use mathlib.Core.Bool.{Bool, true, false, true≢false}
use mathlib.Core.List.{List, [], ◌∷◌, ◌++◌, map}
use mathlib.Core.Logic.{◌↔◌, ⊎_elim, ◌⊎◌, inl, inr}
use Prim.Native.Nat.{ℕ, ◌+◌, ◌<◌}
use native.Mathlib.Omega.{arith}
use borrow.Author.Tests.{eqb-true, eq-eqb}
use lib.Dec.{eqb}
use lib.ListN.{length-append, length-map}
use Rattle.spans.specs.Elements.{◌∈◌, Once}
use Rattle.spans.specs.Basis.{All}
use Rattle.spans.proofs.Lists.{in_left, in_right, in_append}
use Rattle.cycles.specs.Compound.{Compound, Sound}
use Rattle.cycles.specs.Ring.{len, Relevant}
use Rattle.cycles.specs.Basis.{Interchangeable}
use Rattle.cycles.specs.Family.{Family, Member, Size}
use Rattle.cycles.specs.Rows.{Row, Ascending, Report, Right}
use Rattle.cycles.proofs.PathsDecide.{not_in_none}
use Rattle.cycles.proofs.MembersCorners.{member_family}
use Rattle.cycles.proofs.MembersLists.{once_append, same_elements_length}
use Rattle.cycles.proofs.Bases.{ascending_rest}
use Rattle.cycles.proofs.Ranks.{in_map, relevant_in_row, same_class_iff}
use Rattle.cycles.proofs.Swaps.{interchangeable_same_length}
use Rattle.cycles.proofs.Unique.{ascending_fresh}
use Rattle.cycles.proofs.OneRow.{row_member_relevant}
use Rattle.answers.specs.Bytes.{Exactly}
use Rattle.answers.specs.Classes.{sizes_of, rings_of_length, rings_of_class}

-- ---- exactly so many

module _ {X Y : Type 0} (f : X → Y) where
  -- An element of the images is the image of an element.
  map_element : (xs : List X) {y : Y} → y ∈ map f xs → (x : X) × (x ∈ xs) × (y ≡ f x)
  map_element [] h = elim h [ ]
  map_element (x ∷ xs) ◌∈◌.first = (x, ◌∈◌.first, refl)
  map_element (x ∷ xs) (◌∈◌.later h) = let (z, i, e) = map_element xs h in (z, ◌∈◌.later i, e)

  -- Where no two elements have one image, no image stands twice.
  once_map : {xs : List X} → ((x z : X) → x ∈ xs → z ∈ xs → f x ≡ f z → x ≡ z) → Once xs → Once (map f xs)
  once_map one Once.none = Once.none
  once_map one (Once.more {x = x} {xs = xs} fresh once) =
      Once.more (λ h. let (z, i, e) = map_element xs h in fresh (subst (λ w. w ∈ xs) (sym (one x z ◌∈◌.first (◌∈◌.later i) e)) i))
      (once_map (λ z w i j. one z w (◌∈◌.later i) (◌∈◌.later j)) once)

-- Two numbers of the same things are equal.
pub exactly_unique : {X : Type 0} {P : X → Type 0} {j k : ℕ} → Exactly j P → Exactly k P → j ≡ k
exactly_unique s t =
    sym s.count ∙ same_elements_length s.once t.once (λ x. (λ h. (t.all x).1 ((s.all x).0 h), λ h. (s.all x).1 ((t.all x).0 h))) ∙ t.count

-- As many have what is the same.
pub exactly_iff : {X : Type 0} {P Q : X → Type 0} {k : ℕ} → ((x : X) → P x ↔ Q x) → Exactly k P → Exactly k Q
exactly_iff same s =
    record { listed = s.listed; once = s.once; all = λ x. (λ h. (same x).0 ((s.all x).0 h), λ q. (s.all x).1 ((same x).1 q)); count = s.count }

-- Maps of what has P to what has Q and back.
pub record Paired {X Y : Type 0} (P : X → Type 0) (Q : Y → Type 0) : Type 0 where
  pub to : X → Y
  pub back : Y → X
  pub to_has : (x : X) → P x → Q (to x)
  pub back_has : (y : Y) → Q y → P (back y)
  pub back_to : (x : X) → P x → back (to x) ≡ x
  pub to_back : (y : Y) → Q y → to (back y) ≡ y

-- As many have Q as have P.
pub exactly_paired : {X Y : Type 0} {P : X → Type 0} {Q : Y → Type 0} {k : ℕ} → Paired P Q → Exactly k P → Exactly k Q
exactly_paired {Q = Q} f s =
    record {
      listed = map f.to s.listed;
      once =
          once_map f.to
          (λ x z i j e. sym (f.back_to x ((s.all x).0 i)) ∙ ap f.back e ∙ f.back_to z ((s.all z).0 j)) s.once;
      all = λ y. (
        λ h. let (x, i, e) = map_element f.to s.listed h in subst Q (sym e) (f.to_has x ((s.all x).0 i)),
        λ q. subst (λ z. z ∈ map f.to s.listed) (f.to_back y q) (in_map f.to ((s.all (f.back y)).1 (f.back_has y q))),
      );
      count = length-map s.listed f.to ∙ s.count;
    }

-- ---- the rows that pass a test

true_or_false : (b : Bool) → (b ≡ true) ⊎ (b ≡ false)
true_or_false true = inl refl
true_or_false false = inr refl

-- A row that passes adds its size.
sizes_in : (test : Row → Bool) (row : Row) (rows : List Row) → test row ≡ true → sizes_of test (row ∷ rows) ≡ row.size + sizes_of test rows
unfolding sizes_of
sizes_in test row rows e = rw e

-- A row that does not pass adds nothing.
sizes_out : (test : Row → Bool) (row : Row) (rows : List Row) → test row ≡ false → sizes_of test (row ∷ rows) ≡ sizes_of test rows
unfolding sizes_of
sizes_out test row rows e = rw e (omega arith)

sizes_none : (test : Row → Bool) → sizes_of test [] ≡ 0
unfolding sizes_of
sizes_none test = refl

module _ (c : Compound) (sound : Sound c) (rank : ℕ → ℕ) (test : Row → Bool) where
  -- C is a member of the family of a row that passes.
  record Passing (rows : List Row) (C : ℕ) : Type 0 where
    row : Row
    listed : row ∈ rows
    passes : test row ≡ true
    member : Member c rank row.family C

  passing_later : {row : Row} {rows : List Row} {C : ℕ} → Passing rows C → Passing (row ∷ rows) C
  passing_later w = record { row = w.row; listed = ◌∈◌.later w.listed; passes = w.passes; member = w.member }

  -- The first row, or a later one.
  passing_cases : {row : Row} {rows : List Row} {C : ℕ} {P : Type 0} → (test row ≡ true → Member c rank row.family C → P) → (Passing rows C → P)
      → Passing (row ∷ rows) C → P
  passing_cases {row} {rows} {C} {P} f g w = go w.listed w.passes w.member
    where
      go : {other : Row} → other ∈ (row ∷ rows) → test other ≡ true → Member c rank other.family C → P
      go ◌∈◌.first e m = f e m
      go {other} (◌∈◌.later l) e m = g (record { row = other; listed = l; passes = e; member = m })

  passing_apart : {f : Family} {rows : List Row} {C : ℕ} → Ascending (f ∷ map (λ row. row.family) rows) → Member c rank f C → Passing rows C → ⊥
  passing_apart {rows} a m w =
      ascending_fresh a
      (subst (λ (f : Family). f ∈ map (λ row. row.family) rows) (member_family c sound rank w.member m) (in_map (λ row. row.family) w.listed))

  passing_none : Exactly (sizes_of test []) (Passing [])
  passing_none =
      record {
        listed = [];
        once = Once.none;
        all = λ C. (λ h. absurd (not_in_none h), λ w. absurd (not_in_none w.listed));
        count = sym (sizes_none test);
      }

  passing_in : {row : Row} {rows : List Row} → test row ≡ true → Ascending (map (λ row. row.family) (row ∷ rows)) → Size c rank row.family row.size
      → Exactly (sizes_of test rows) (Passing rows) → Exactly (sizes_of test (row ∷ rows)) (Passing (row ∷ rows))
  passing_in {row} {rows} e a s t =
      record {
        listed = s.members ++ t.listed;
        once = once_append s.once t.once (λ C h l. passing_apart a ((s.all C).0 h) ((t.all C).0 l));
        all = λ C. (
          λ h.
              ⊎_elim (λ l. record { row = row; listed = ◌∈◌.first; passes = e; member = (s.all C).0 l }) (λ l. passing_later ((t.all C).0 l))
              (in_append s.members t.listed h),
          λ w. passing_cases (λ d m. in_left t.listed ((s.all C).1 m)) (λ v. in_right s.members ((t.all C).1 v)) w,
        );
        count = length-append s.members t.listed ∙ ap₂ ◌+◌ s.count t.count ∙ sym (sizes_in test row rows e);
      }

  passing_out : {row : Row} {rows : List Row} → test row ≡ false → Exactly (sizes_of test rows) (Passing rows)
      → Exactly (sizes_of test (row ∷ rows)) (Passing (row ∷ rows))
  passing_out {row} {rows} e t =
      record {
        listed = t.listed;
        once = t.once;
        all = λ C. (
          λ h. passing_later ((t.all C).0 h),
          λ w. passing_cases (λ d m. absurd (true≢false (sym d ∙ e))) (λ v. (t.all C).1 v) w,
        );
        count = t.count ∙ sym (sizes_out test row rows e);
      }

  -- The members of the families of the rows that pass are as many as the sum of their sizes.
  passing_rings : {rows : List Row} → All (λ row. Size c rank row.family row.size) rows → Ascending (map (λ row. row.family) rows)
      → Exactly (sizes_of test rows) (Passing rows)
  passing_rings All.nil a = passing_none
  passing_rings (All.cons {x = row} {xs = rows} s ss) a =
      let t = passing_rings ss (ascending_rest a) in
      ⊎_elim (λ e. passing_in e a s t) (λ e. passing_out e t) (true_or_false (test row))

module _ (c : Compound) (sound : Sound c) (rank : ℕ → ℕ) (injective : (a b : ℕ) → a < c.n → b < c.n → rank a ≡ rank b → a ≡ b)
    {R : Report} (right : Right c rank R) where
  -- If a row passes exactly if its members have K, then the sizes of the rows that pass count the relevant rings that have K.
  sizes_count : {K : ℕ → Type 0} (test : Row → Bool)
      → ((row : Row) (C : ℕ) → row ∈ R.rows → Member c rank row.family C → (test row ≡ true) ↔ K C)
      → Exactly (sizes_of test R.rows) (λ C. Relevant c C × K C)
  sizes_count test same =
      exactly_iff
      (λ C. (
        λ w. (row_member_relevant c sound rank right w.listed w.member, (same w.row C w.listed w.member).0 w.passes),
        λ p.
            let w = relevant_in_row c sound rank injective right p.0 in
            record { row = w.row; listed = w.listed; passes = (same w.row C w.listed w.member).1 p.1; member = w.member },
      ))
      (passing_rings c sound rank test right.sized right.ordered)

  -- "the number of relevant rings of each length": the sizes of the rows of length k.
  pub rings_of_length_lem : (k : ℕ) → Exactly (rings_of_length R.rows k) (λ C. Relevant c C × (len c C ≡ k))
  rings_of_length_lem k =
      sizes_count (λ row. eqb row.family.long k)
      (λ row C l m. (λ e. m.long ∙ eqb-true row.family.long k e, λ e. eq-eqb row.family.long k (sym m.long ∙ e)))

  -- The rings in the class of a ring C: the relevant rings that are interchangeable with C.
  pub rings_of_class_lem : {C : ℕ} {u : Row} → u ∈ R.rows → Member c rank u.family C
      → Exactly (rings_of_class R.rows u.class) (λ D. Relevant c D × Interchangeable c D C)
  rings_of_class_lem {C} {u} i n =
      sizes_count (λ row. eqb row.class u.class)
      (λ row D l m.
      let same = same_class_iff c sound rank injective right l i m n in (
        λ e. (same.0 (eqb-true row.class u.class e)).1,
        λ s. eq-eqb row.class u.class (same.1 (interchangeable_same_length c s, s)),
      ))
