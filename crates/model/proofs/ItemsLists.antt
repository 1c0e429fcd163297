-- Loops within loops are one loop over one list; what is in that list, and that it ascends.
use mathlib.Core.Path.{◌≡◌, refl, sym, ap, ap₂, ◌∙◌}
use mathlib.Core.List.{List, [], ◌∷◌, ◌++◌, map, map-append}
use mathlib.Core.Logic.{⊎_elim}
use Prim.Native.Nat.{ℕ, ◌<◌}
use Rattle.spans.specs.Elements.{◌∈◌, first, later}
use Rattle.spans.proofs.Lists.{in_left, in_right, in_append}
use Rattle.bondset.specs.Sets.{Climbs}
use Rattle.cycles.specs.Family.{Family}
use Rattle.cycles.specs.Rows.{key, Less, Ascending}
use Rattle.model.specs.Fold.{through, each}

-- ---- loops

module _ {C S : Type 0} (step : C → S → S) where
  -- A loop over two lists is one after the other.
  pub through_append : (xs ys : List C) (s : S) → through step (xs ++ ys) s ≡ through step ys (through step xs s)
  unfolding through
  through_append [] ys s = refl
  through_append (x ∷ xs) ys s = through_append xs ys (step x s)

  -- A loop whose turns are loops is one loop.
  pub through_each : {A : Type 0} (f : A → List C) (turn : A → S → S) → ((a : A) (s : S) → turn a s ≡ through step (f a) s)
      → (over : List A) (s : S) → through turn over s ≡ through step (each f over) s
  unfolding through each
  through_each f turn same [] s = refl
  through_each f turn same (a ∷ rest) s =
      through_each f turn same rest (turn a s) ∙ ap (λ (t : S). through step (each f rest) t) (same a s) ∙ sym (through_append (f a) (each f rest) s)

  -- A loop over a mapped list.
  pub through_map : {A : Type 0} (f : A → C) (over : List A) (s : S) → through step (map f over) s ≡ through (λ a s. step (f a) s) over s
  unfolding through
  through_map f [] s = refl
  through_map f (a ∷ rest) s = through_map f rest (step (f a) s)

-- ---- mapped lists

-- What is mapped in each of the lists is mapped in all of them together.
module _ {A B C : Type 0} (f : B → C) (g : A → List B) (h : A → List C) (same : (a : A) → map f (g a) ≡ h a) where
  pub map_each : (over : List A) → map f (each g over) ≡ each h over
  unfolding each
  map_each [] = refl
  map_each (a ∷ rest) = map-append f (g a) (each g rest) ∙ ap₂ ◌++◌ (same a) (map_each rest)

-- ---- what is in a list

module _ {A C : Type 0} (f : A → List C) where
  -- What is in one of the lists is in all of them together.
  pub ∈_each : {x : C} {a : A} {over : List A} → a ∈ over → x ∈ f a → x ∈ each f over
  unfolding each
  ∈_each (first {xs}) m = in_left (each f xs) m
  ∈_each (later {y} h) m = in_right (f y) (∈_each h m)

  -- The list that x comes from.
  pub record From (over : List A) (x : C) : Type 0 where
    pub a : A
    pub mem : a ∈ over
    pub here : x ∈ f a

  -- What is in all of them together comes from one.
  pub from_each : {x : C} (over : List A) → x ∈ each f over → From over x
  unfolding each
  from_each [] m = elim m [ ]
  from_each {x} (a ∷ rest) m =
      ⊎_elim (λ (l : x ∈ f a). record { a = a; mem = first; here = l })
      (λ (r : x ∈ each f rest). let g = from_each rest r in record { a = g.a; mem = later g.mem; here = g.here }) (in_append (f a) (each f rest) m)

-- ---- ascending lists

-- Each family comes before all that follow it.
pub data Sorted : List Family → Type 0 where
  none : Sorted []
  next : {f : Family} {fs : List Family} → ((g : Family) → g ∈ fs → Less (key f) (key g)) → Sorted fs → Sorted (f ∷ fs)

-- A sorted list ascends.
pub sorted_ascending : {fs : List Family} → Sorted fs → Ascending fs
sorted_ascending Sorted.none = Ascending.none
sorted_ascending (Sorted.next less Sorted.none) = Ascending.one
sorted_ascending (Sorted.next less (Sorted.next {f = g} less' rest)) = Ascending.more (less g first) (sorted_ascending (Sorted.next less' rest))

sorted_append : {fs : List Family} (gs : List Family) → Sorted fs → Sorted gs
    → ((f g : Family) → f ∈ fs → g ∈ gs → Less (key f) (key g)) → Sorted (fs ++ gs)
sorted_append gs Sorted.none b less = b
sorted_append gs (Sorted.next {f} {fs} l a) b less =
    Sorted.next (λ g m. ⊎_elim (λ (i : g ∈ fs). l g i) (λ (i : g ∈ gs). less f g first i) (in_append fs gs m))
    (sorted_append gs a b (λ f' g m n. less f' g (later m) n))

-- Sorted lists one after the other, for numbers that climb.
pub sorted_each : (f : ℕ → List Family) → ((a b : ℕ) (x y : Family) → a < b → x ∈ f a → y ∈ f b → Less (key x) (key y)) → ((a : ℕ) → Sorted (f a))
    → {over : List ℕ} → Climbs over → Sorted (each f over)
unfolding each
sorted_each f less sorted Climbs.none = Sorted.none
sorted_each f less sorted (Climbs.next {x} {xs} up rest) =
    sorted_append (each f xs) (sorted x) (sorted_each f less sorted rest)
    (λ g h m n. let w = from_each f xs n in less x w.a g h (up w.a w.mem) m w.here)
