-- A compound has one right report: the rules leave no choice.
use mathlib.Core.Path.{◌≡◌, refl, sym, ap, ap₂, ◌∙◌, subst, subst₂}
use mathlib.Core.List.{List, [], ◌∷◌, ◌++◌, map}
use mathlib.Core.Logic.{◌⊎◌, inl, inr}
use Prim.Native.Nat.{ℕ, ◌<◌}
use native.Mathlib.Omega.{arith}
use lib.ListN.{length}
use Rattle.spans.specs.Elements.{◌∈◌, Once}
use Rattle.spans.specs.Basis.{All}
use Rattle.spans.proofs.Lists.{all_map}
use Rattle.spans.proofs.Marking.{all_element}
use Rattle.cycles.specs.Compound.{Compound, Sound}
use Rattle.cycles.specs.Family.{Family, Prototype, Size}
use Rattle.cycles.specs.Rows.{Row, key, Less, Ascending, At, Marks, SumOf, Together, Classes, Report, Right}
use Rattle.cycles.proofs.PathsDecide.{not_in_none, in_cases}
use Rattle.cycles.proofs.Families.{prototype_unique}
use Rattle.cycles.proofs.Ranks.{at_element, together_sym, together_trans, Apart, apart_none, apart_more}
use Rattle.cycles.proofs.Members.{size_unique}
use Rattle.cycles.proofs.Bases.{ascending_rest}

-- ---- the order of the families
less_differ : {xs ys : List ℕ} → Less xs ys → xs ≡ ys → ⊥
less_differ (Less.here {a = a} {b = b} h) e = let d : a ≡ b = cc in omega arith
less_differ (Less.later l) e = less_differ l (cc)

-- Keys that come one after the other are in order.
pub less_trans : {xs ys zs : List ℕ} → Less xs ys → Less ys zs → Less xs zs
less_trans (Less.here {a = x} h) (Less.here {b = z} l) = let d : x < z = omega arith in Less.here d
less_trans (Less.here h) (Less.later l) = Less.here h
less_trans (Less.later h) (Less.here l) = Less.here l
less_trans (Less.later h) (Less.later l) = Less.later (less_trans h l)

pub ascending_less : {f : Family} {fs : List Family} → Ascending (f ∷ fs) → All (λ g. Less (key f) (key g)) fs
ascending_less Ascending.one = All.nil
ascending_less (Ascending.more l a) = All.cons l (all_map (λ g h. less_trans l h) (ascending_less a))

module _ {X : Type 0} (by : X → List ℕ) where
  -- Each element comes before all those after it, by its key.
  pub data Ordered : List X → Type 0 where
    nil : Ordered []
    cons : {x : X} {xs : List X} → All (λ y. Less (by x) (by y)) xs → Ordered xs → Ordered (x ∷ xs)

  ordered_head : {x y : X} {xs ys : List X} → All (λ z. Less (by x) (by z)) xs → All (λ z. Less (by y) (by z)) ys → x ∈ (y ∷ ys) → y ∈ (x ∷ xs)
      → x ≡ y
  ordered_head {x} {y} {xs} {ys} a b i j = go (in_cases i) (in_cases j)
    where
      go : (y ≡ x) ⊎ (x ∈ ys) → (x ≡ y) ⊎ (y ∈ xs) → x ≡ y
      go (inl e) q = sym e
      go (inr u) (inl e) = e
      go (inr u) (inr v) = absurd (less_differ (less_trans (all_element a v) (all_element b u)) refl)

  ordered_tail : {x y : X} {xs ys : List X} → x ≡ y → All (λ z. Less (by x) (by z)) xs → ((z : X) → z ∈ (x ∷ xs) → z ∈ (y ∷ ys))
      → (z : X) → z ∈ xs → z ∈ ys
  ordered_tail {y} {xs} {ys} e a to z i = go (in_cases (to z (◌∈◌.later i)))
    where
      go : (y ≡ z) ⊎ (z ∈ ys) → z ∈ ys
      go (inl d) = absurd (less_differ (all_element a (subst (λ (u : X). u ∈ xs) (sym (e ∙ d)) i)) refl)
      go (inr j) = j

  -- Two such lists that have the same elements are one.
  pub ordered_unique : {xs ys : List X} → Ordered xs → Ordered ys → ((x : X) → x ∈ xs → x ∈ ys) → ((x : X) → x ∈ ys → x ∈ xs) → xs ≡ ys
  ordered_unique Ordered.nil Ordered.nil to back = refl
  ordered_unique Ordered.nil (Ordered.cons {x = y} b q) to back = absurd (not_in_none (back y ◌∈◌.first))
  ordered_unique (Ordered.cons {x = x} a p) Ordered.nil to back = absurd (not_in_none (to x ◌∈◌.first))
  ordered_unique (Ordered.cons {x = x} a p) (Ordered.cons {x = y} b q) to back =
      let e = ordered_head a b (to x ◌∈◌.first) (back y ◌∈◌.first) in
      ap₂ ◌∷◌ e (ordered_unique p q (ordered_tail e a to) (ordered_tail (sym e) b back))

ascending_ordered : {fs : List Family} → Ascending fs → Ordered key fs
ascending_ordered Ascending.none = Ordered.nil
ascending_ordered Ascending.one = Ordered.cons All.nil Ordered.nil
ascending_ordered (Ascending.more l a) = Ordered.cons (ascending_less (Ascending.more l a)) (ascending_ordered a)

-- In an ascending list the first stands nowhere else.
pub ascending_fresh : {f : Family} {fs : List Family} → Ascending (f ∷ fs) → f ∈ fs → ⊥
ascending_fresh a i = less_differ (all_element (ascending_less a) i) refl

-- No family stands twice in an ascending list.
pub ascending_once : (fs : List Family) → Ascending fs → Once fs
ascending_once [] a = Once.none
ascending_once (f ∷ fs) a = Once.more (ascending_fresh a) (ascending_once fs (ascending_rest a))

-- Two lists in order that have the same elements are one.
pub ascending_unique : (fs gs : List Family) → Ascending fs → Ascending gs → ((f : Family) → f ∈ fs → f ∈ gs) → ((f : Family) → f ∈ gs → f ∈ fs)
    → fs ≡ gs
ascending_unique fs gs a b to back = ordered_unique key (ascending_ordered a) (ascending_ordered b) to back

-- ---- the rows
-- The rows of two lists, as many, are related one by one.
data Pairwise (P : Row → Row → Type 0) : List Row → List Row → Type 0 where
  none : Pairwise P [] []
  more : {row other : Row} {rows others : List Row} → P row other → Pairwise P rows others → Pairwise P (row ∷ rows) (other ∷ others)

abbrev SameFamily : Row → Row → Type 0
SameFamily row other = row.family ≡ other.family

abbrev SameMark : Row → Row → Type 0
SameMark row other = row.mark ≡ other.mark

abbrev SameClass : Row → Row → Type 0
SameClass row other = row.class ≡ other.class

abbrev SameSize : Row → Row → Type 0
SameSize row other = row.size ≡ other.size

same_families : (rows others : List Row) → map (λ row. row.family) rows ≡ map (λ row. row.family) others → Pairwise SameFamily rows others
same_families [] [] e = Pairwise.none
same_families [] (other ∷ others) e = let z : ◌≡◌ {A = ℕ} 0 1 = cc in absurd (omega arith)
same_families (row ∷ rows) [] e = let z : ◌≡◌ {A = ℕ} 0 1 = cc in absurd (omega arith)
same_families (row ∷ rows) (other ∷ others) e =
    let d : row.family ≡ other.family = cc in
    let rest : map (λ row. row.family) rows ≡ map (λ row. row.family) others = cc in
    Pairwise.more d (same_families rows others rest)

same_row : {row other : Row} → SameFamily row other → SameMark row other → SameClass row other → SameSize row other → row ≡ other
same_row f k l s = λ i. record { family = f i; mark = k i; class = l i; size = s i }

same_rows : {rows others : List Row} → Pairwise SameFamily rows others → Pairwise SameMark rows others → Pairwise SameClass rows others
    → Pairwise SameSize rows others → rows ≡ others
same_rows Pairwise.none Pairwise.none Pairwise.none Pairwise.none = refl
same_rows (Pairwise.more f fs) (Pairwise.more k ks) (Pairwise.more l ls) (Pairwise.more s ss) = ap₂ ◌∷◌ (same_row f k l s) (same_rows fs ks ls ss)

same_report : {R Q : Report} → R.cyclomatic ≡ Q.cyclomatic → R.families ≡ Q.families → R.classes ≡ Q.classes → R.total ≡ Q.total
    → R.rings ≡ Q.rings → R.rows ≡ Q.rows → R.class_rows ≡ Q.class_rows → R ≡ Q
same_report m f l t g rows classes =
    λ i. record { cyclomatic = m i; families = f i; classes = l i; total = t i; rings = g i; rows = rows i; class_rows = classes i }

module _ (c : Compound) (sound : Sound c) (rank : ℕ → ℕ) where
  same_size : {f g : Family} {s t : ℕ} → f ≡ g → Size c rank f s → Size c rank g t → s ≡ t
  same_size {s} e a b = size_unique c rank (subst (λ (f : Family). Size c rank f s) e a) b

  sizes_unique : {rows others : List Row} → Pairwise SameFamily rows others → All (λ row. Size c rank row.family row.size) rows
      → All (λ row. Size c rank row.family row.size) others → Pairwise SameSize rows others
  sizes_unique Pairwise.none All.nil All.nil = Pairwise.none
  sizes_unique (Pairwise.more e es) (All.cons s ss) (All.cons t ts) = Pairwise.more (same_size e s t) (sizes_unique es ss ts)

  same_prototype : {f g : Family} {S T : ℕ} → f ≡ g → Prototype c rank f S → Prototype c rank g T → S ≡ T
  same_prototype {T} e p q = prototype_unique c sound rank p (subst (λ (f : Family). Prototype c rank f T) (sym e) q)

  marks_unique : {before before' after after' : List ℕ} {rows others : List Row} → Pairwise SameFamily rows others → before ≡ before'
      → Marks c rank before rows after → Marks c rank before' others after' → Pairwise SameMark rows others × (after ≡ after')
  marks_unique Pairwise.none d Marks.end Marks.end = (Pairwise.none, d)
  marks_unique (Pairwise.more e es) d (Marks.marked p n k m) (Marks.marked p' n' k' m') =
      let (ms, r) = marks_unique es (ap₂ (λ (xs : List ℕ) (S : ℕ). xs ++ (S ∷ [])) d (same_prototype e p p')) m m' in (Pairwise.more (k ∙ sym k') ms, r)
  marks_unique (Pairwise.more e es) d (Marks.marked p n k m) (Marks.unmarked p' s' k' m') =
      absurd (n (subst₂ (SumOf c rank) (sym d) (sym (same_prototype e p p')) s'))
  marks_unique (Pairwise.more e es) d (Marks.unmarked p s k m) (Marks.marked p' n' k' m') =
      absurd (n' (subst₂ (SumOf c rank) d (same_prototype e p p') s))
  marks_unique (Pairwise.more e es) d (Marks.unmarked p s k m) (Marks.unmarked p' s' k' m') =
      let (ms, r) = marks_unique es d m m' in (Pairwise.more (k ∙ sym k') ms, r)

  not_old_and_new : {f f' g : Family} {before before' : List Family} {i : ℕ} → f ≡ f' → before ≡ before' → At before i g → Together c rank f g
      → ((h : Family) → h ∈ before' → Together c rank f' h → ⊥) → ⊥
  not_old_and_new {g} e d i t n =
      n g (subst (λ (fs : List Family). g ∈ fs) d (at_element i)) (subst (λ (f : Family). Together c rank f g) e t)

  classes_unique : {before before' after after' : List Family} {rows others : List Row} → Pairwise SameFamily rows others → before ≡ before'
      → Apart c sound rank before → Classes c rank before rows after → Classes c rank before' others after'
      → Pairwise SameClass rows others × (after ≡ after')
  classes_unique Pairwise.none d a Classes.end Classes.end = (Pairwise.none, d)
  classes_unique (Pairwise.more e es) d a (Classes.old {row = row} {g = g} i t k) (Classes.old {row = other} {g = h} j u l) =
      let (cs, r) = classes_unique es d a k l in
      let j' = subst (λ (fs : List Family). At fs other.class h) (sym d) j in
      let u' = subst (λ (f : Family). Together c rank f h) (sym e) u in
      (Pairwise.more (a row.class other.class g h i j' (together_trans c sound rank (together_sym c sound rank t) u')) cs, r)
  classes_unique (Pairwise.more e es) d a (Classes.old i t k) (Classes.new n q l) = absurd (not_old_and_new e d i t n)
  classes_unique (Pairwise.more e es) d a (Classes.new n q k) (Classes.old j u l) = absurd (not_old_and_new (sym e) (sym d) j u n)
  classes_unique (Pairwise.more e es) d a (Classes.new {before = before} n q k) (Classes.new n' q' l) =
      let (cs, r) = classes_unique es (ap₂ (λ (fs : List Family) (f : Family). fs ++ (f ∷ [])) d e) (apart_more c sound rank before n a) k l in
      (Pairwise.more (q ∙ ap length d ∙ sym q') cs, r)

  -- The rules leave no choice: a compound has one right report.
  pub right_unique : {R Q : Report} → Right c rank R → Right c rank Q → R ≡ Q
  right_unique {R} {Q} r q =
      let fs =
      same_families R.rows Q.rows
      (ascending_unique _ _ r.ordered q.ordered (λ f i. (q.kept f).1 ((r.kept f).0 i)) (λ f i. (r.kept f).1 ((q.kept f).0 i))) in
      let (ms, basis) = marks_unique fs refl r.marks q.marks in
      let (cs, firsts) = classes_unique fs refl (apart_none c sound rank) r.classed q.classed in
      let rows = same_rows fs ms cs (sizes_unique fs r.sized q.sized) in
      same_report (cc) (cc) (cc) (cc) (cc) rows (cc)
