-- Numbering by first members, for any relation that puts things together: it exists, is one, and tells what is together.
use mathlib.Core.Path.{◌≡◌, refl, sym, ◌∙◌, ap₂, subst}
use mathlib.Core.List.{List, [], ◌∷◌, ◌++◌}
use mathlib.Core.Logic.{◌↔◌, ◌⊎◌, inl, inr, ⊎_elim}
use Prim.Native.Nat.{ℕ, suc, ◌<◌}
use native.Mathlib.Omega.{arith}
use lib.ListN.{length}
use Rattle.spans.specs.Elements.{◌∈◌}
use Rattle.spans.specs.Basis.{All}
use Rattle.spans.proofs.Lists.{all_append}
use Rattle.cycles.specs.Rows.{At}
use Rattle.cycles.specs.Near.{Numbered}
use Rattle.cycles.proofs.PathsDecide.{not_in_none}
use Rattle.cycles.proofs.Ranks.{at_element, at_below, at_unique, at_append, at_end_lem, at_snoc}

-- Each has a number.
pub numbered_at : {X : Type 0} {Rel : X → X → Type 0} {before xs after : List X} {numbers : List ℕ} {i : ℕ} {x : X}
    → Numbered Rel before xs numbers after → At xs i x → (k : ℕ) × At numbers i k
numbered_at Numbered.end a = elim a [ ]
numbered_at (Numbered.old b t n) At.here = (_, At.here)
numbered_at (Numbered.new f e n) At.here = (_, At.here)
numbered_at (Numbered.old b t n) (At.later a) = let (k, p) = numbered_at n a in (k, At.later p)
numbered_at (Numbered.new f e n) (At.later a) = let (k, p) = numbered_at n a in (k, At.later p)

module _ {X : Type 0} (Rel : X → X → Type 0) where
  numbered_extend : {before xs after : List X} {numbers : List ℕ} {i : ℕ} {g : X} → Numbered Rel before xs numbers after → At before i g → At after i g
  numbered_extend Numbered.end a = a
  numbered_extend (Numbered.old b t n) a = numbered_extend n a
  numbered_extend (Numbered.new f e n) a = numbered_extend n (at_append _ a)

  -- The number of x stands for the first of its class.
  record First (firsts : List X) (x : X) (k : ℕ) : Type 0 where
    first : X
    listed : At firsts k first
    related : Rel x first

  numbered_first : {xs : List X} → All (λ y. Rel y y) xs → {before after : List X} {numbers : List ℕ} {i k : ℕ} {x : X}
      → Numbered Rel before xs numbers after → At xs i x → At numbers i k → First after x k
  numbered_first All.nil n p q = elim p [ ]
  numbered_first (All.cons r a) (Numbered.old {g = g} b t n) At.here At.here = record { first = g; listed = numbered_extend n b; related = t }
  numbered_first (All.cons r a) (Numbered.new {before = before} {x = x} f e n) At.here At.here = record {
    first = x;
    listed = numbered_extend n (subst (λ (i : ℕ). At (before ++ (x ∷ [])) i x) (sym e) (at_end_lem before x));
    related = r;
  }
  numbered_first (All.cons r a) (Numbered.old b t n) (At.later p) (At.later q) = numbered_first a n p q
  numbered_first (All.cons r a) (Numbered.new f e n) (At.later p) (At.later q) = numbered_first a n p q

  first_from : {before xs after : List X} {numbers : List ℕ} {k : ℕ} {g : X} → Numbered Rel before xs numbers after → At after k g
      → At before k g ⊎ ((i : ℕ) × At xs i g × At numbers i k)
  first_from Numbered.end a = inl a
  first_from (Numbered.old b t n) a = ⊎_elim inl (λ (i, p, q). inr (suc i, At.later p, At.later q)) (first_from n a)
  first_from {k = k} {g = g} (Numbered.new {before = before} {xs = xs} {numbers = numbers} {x = x} {k = j} f e n) a =
      ⊎_elim (λ b. ⊎_elim inl (λ h. inr (0, here h.1, number h.0)) (at_snoc before b)) (λ (i, p, q). inr (suc i, At.later p, At.later q)) (first_from n a)
    where
      here : g ≡ x → At (x ∷ xs) 0 g
      here d = subst (λ (y : X). At (x ∷ xs) 0 y) (sym d) At.here

      number : k ≡ length before → At (j ∷ numbers) 0 k
      number d = subst (λ (l : ℕ). At (j ∷ numbers) 0 l) (e ∙ sym d) At.here

  -- No two of the firsts are together.
  abbrev Apart : List X → Type 0
  Apart firsts = (i j : ℕ) (g h : X) → At firsts i g → At firsts j h → Rel g h → i ≡ j

  apart_none : Apart []
  apart_none i j g h a b t = absurd (let l : i < 0 = at_below a in omega arith)

  -- The first with number k stands in the list, and has number k.
  pub first_numbered : {xs after : List X} {numbers : List ℕ} {k : ℕ} {g : X} → Numbered Rel [] xs numbers after → At after k g
      → (i : ℕ) × At xs i g × At numbers i k
  first_numbered n a = ⊎_elim (λ b. absurd (let l : _ < 0 = at_below b in omega arith)) (λ w. w) (first_from n a)

  module _ (back : (x y : X) → Rel x y → Rel y x) (trans : (x y z : X) → Rel x y → Rel y z → Rel x z) where
    apart_more : {x : X} (before : List X) → ((g : X) → g ∈ before → Rel x g → ⊥) → Apart before → Apart (before ++ (x ∷ []))
    apart_more {x} before n d i j g h a b t = go (at_snoc before a) (at_snoc before b)
      where
        go : At before i g ⊎ ((i ≡ length before) × (g ≡ x)) → At before j h ⊎ ((j ≡ length before) × (h ≡ x)) → i ≡ j
        go (inl u) (inl v) = d i j g h u v t
        go (inl u) (inr (e, p)) = absurd (n g (at_element u) (back g x (subst (Rel g) p t)))
        go (inr (e, p)) (inl v) = absurd (n h (at_element v) (subst (λ (l : X). Rel l h) p t))
        go (inr (e, p)) (inr (e', q)) = e ∙ sym e'

    numbered_apart : {before xs after : List X} {numbers : List ℕ} → Numbered Rel before xs numbers after → Apart before → Apart after
    numbered_apart Numbered.end d = d
    numbered_apart (Numbered.old a t n) d = numbered_apart n d
    numbered_apart (Numbered.new {before = before} f e n) d = numbered_apart n (apart_more before f d)

    -- Two have one number exactly if they are together.
    pub same_number_iff : {xs after : List X} {numbers : List ℕ} {i j k l : ℕ} {x y : X} → All (λ y. Rel y y) xs → Numbered Rel [] xs numbers after
        → At xs i x → At numbers i k → At xs j y → At numbers j l → (k ≡ l) ↔ Rel x y
    same_number_iff {after = after} {k = k} {l = l} {x = x} {y = y} r n a p b q =
        let s = numbered_first r n a p in
        let t = numbered_first r n b q in (
          λ e.
              let same = at_unique (subst (λ (j : ℕ). At after j s.first) e s.listed) t.listed in
              trans x t.first y (subst (Rel x) same s.related) (back y t.first t.related),
          λ u.
              numbered_apart n apart_none k l s.first t.first s.listed t.listed
              (trans s.first x t.first (back x s.first s.related) (trans x y t.first u t.related)),
        )

    numbered_same : {before xs after after' : List X} {numbers others : List ℕ} → Apart before → Numbered Rel before xs numbers after
        → Numbered Rel before xs others after' → (numbers ≡ others) × (after ≡ after')
    numbered_same d Numbered.end Numbered.end = (refl, refl)
    numbered_same d (Numbered.old {x = x} {g = g} {k = k} a t n) (Numbered.old {g = h} {k = l} b u m) =
        let (e, f) = numbered_same d n m in (ap₂ ◌∷◌ (d k l g h a b (trans g x h (back x g t) u)) e, f)
    numbered_same d (Numbered.old {g = g} a t n) (Numbered.new f e m) = absurd (f g (at_element a) t)
    numbered_same d (Numbered.new f e n) (Numbered.old {g = g} b u m) = absurd (f g (at_element b) u)
    numbered_same d (Numbered.new {before = before} f e n) (Numbered.new f' e' m) =
        let (q, r) = numbered_same (apart_more before f d) n m in (ap₂ ◌∷◌ (e ∙ sym e') q, r)

    -- The numbering is one, and so are the firsts.
    pub numbered_unique : {xs after after' : List X} {numbers others : List ℕ} → Numbered Rel [] xs numbers after → Numbered Rel [] xs others after'
        → (numbers ≡ others) × (after ≡ after')
    numbered_unique n m = numbered_same apart_none n m

  module _ {P : X → Type 0} (dec : (x y : X) → P x → P y → Dec (Rel x y)) where
    find : {x : X} (before : List X) → P x → All P before → ((k : ℕ) × (g : X) × At before k g × Rel x g) ⊎ ((g : X) → g ∈ before → Rel x g → ⊥)
    find [] p All.nil = inr (λ g i r. not_in_none i)
    find {x} (y ∷ ys) p (All.cons q a) = go (dec x y p q) (find ys p a)
      where
        none : (Rel x y → ⊥) → ((g : X) → g ∈ ys → Rel x g → ⊥) → (g : X) → g ∈ (y ∷ ys) → Rel x g → ⊥
        none n f _ ◌∈◌.first r = n r
        none n f g (◌∈◌.later i) r = f g i r

        go : Dec (Rel x y) → ((k : ℕ) × (g : X) × At ys k g × Rel x g) ⊎ ((g : X) → g ∈ ys → Rel x g → ⊥)
            → ((k : ℕ) × (g : X) × At (y ∷ ys) k g × Rel x g) ⊎ ((g : X) → g ∈ (y ∷ ys) → Rel x g → ⊥)
        go (yes r) rest = inl (0, y, At.here, r)
        go (no n) (inl (k, g, a, r)) = inl (suc k, g, At.later a, r)
        go (no n) (inr f) = inr (none n f)

    -- There is a numbering, where it is decided what is together.
    pub numbered_exists : (before xs : List X) → All P before → All P xs → (numbers : List ℕ) × (after : List X) × Numbered Rel before xs numbers after
    numbered_exists before [] b a = ([], before, Numbered.end)
    numbered_exists before (x ∷ xs) b (All.cons p a) =
        go (find before p b) (numbered_exists before xs b a) (numbered_exists (before ++ (x ∷ [])) xs (all_append b (All.cons p All.nil)) a)
      where
        go : ((k : ℕ) × (g : X) × At before k g × Rel x g) ⊎ ((g : X) → g ∈ before → Rel x g → ⊥)
            → ((numbers : List ℕ) × (after : List X) × Numbered Rel before xs numbers after)
            → ((numbers : List ℕ) × (after : List X) × Numbered Rel (before ++ (x ∷ [])) xs numbers after)
            → (numbers : List ℕ) × (after : List X) × Numbered Rel before (x ∷ xs) numbers after
        go (inl (k, g, i, r)) (numbers, after, n) rest = (k ∷ numbers, after, Numbered.old i r n)
        go (inr f) rest (numbers, after, n) = (length before ∷ numbers, after, Numbered.new f refl n)
