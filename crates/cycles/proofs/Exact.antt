-- So many things have a property: told otherwise, put together, weighed, and counted in a list and below a bound.
use mathlib.Core.Path.{◌≡◌, refl, sym, ap, ap₂, ◌∙◌, subst}
use mathlib.Core.Bool.{Bool, true, false}
use mathlib.Core.List.{List, [], ◌∷◌, ◌++◌}
use mathlib.Core.Logic.{◌↔◌, ◌⊎◌, inl, inr, ⊎_elim}
use Prim.Native.Nat.{ℕ, zero, suc, ◌+◌, ◌*◌, ◌<◌, ◌≤◌}
use native.Mathlib.Omega.{arith}
use native.Mathlib.Nat.{mul-suc}
use lib.ListN.{length, length-append}
use Rattle.spans.specs.Elements.{◌∈◌, Once}
use Rattle.spans.specs.Graded.{total}
use Rattle.spans.proofs.Lists.{in_left, in_right, in_append}
use Rattle.graphs.specs.Count.{val, cnt}
use Rattle.graphs.proofs.Basics.{clash, lt_or_ge}
use Rattle.cycles.specs.Through.{Exactly, sum_to}
use Rattle.cycles.proofs.PathsDecide.{not_in_none, in_cases}
use Rattle.cycles.proofs.MembersLists.{once_length_le, same_elements_length, once_append, table}

module _ {X : Type 0} where
  -- The same number has an equivalent property.
  pub exactly_as : {k : ℕ} {P Q : X → Type 0} → Exactly k P → ((x : X) → P x ↔ Q x) → Exactly k Q
  exactly_as s same = record {
    listed = s.listed;
    once = s.once;
    all = λ x. (λ h. (same x).0 ((s.all x).0 h), λ q. (s.all x).1 ((same x).1 q));
    count = s.count;
  }

  -- A number equal to it.
  pub exactly_at : {j k : ℕ} {P : X → Type 0} → j ≡ k → Exactly j P → Exactly k P
  exactly_at {P} e s = subst (λ (n : ℕ). Exactly n P) e s

  -- There is one such number.
  pub exactly_unique : {j k : ℕ} {P : X → Type 0} → Exactly j P → Exactly k P → j ≡ k
  exactly_unique s t =
      sym s.count
      ∙ same_elements_length s.once t.once (λ x. (λ h. (t.all x).1 ((s.all x).0 h), λ h. (s.all x).1 ((t.all x).0 h)))
      ∙ t.count

  -- None has a property that none can have.
  pub exactly_none : {P : X → Type 0} → ((x : X) → P x → ⊥) → Exactly 0 P
  exactly_none none = record {
    listed = [];
    once = Once.none;
    all = λ x. (λ h. absurd (not_in_none h), λ p. absurd (none x p));
    count = refl;
  }

  -- Two properties that exclude each other: the numbers add up.
  pub exactly_either : {j k : ℕ} {P Q : X → Type 0} → Exactly j P → Exactly k Q → ((x : X) → P x → Q x → ⊥) → Exactly (j + k) (λ x. P x ⊎ Q x)
  exactly_either {P} {Q} s t apart = record {
    listed = s.listed ++ t.listed;
    once = once_append s.once t.once (λ x h g. apart x ((s.all x).0 h) ((t.all x).0 g));
    all = λ x. (
      λ h. ⊎_elim (λ l. inl ((s.all x).0 l)) (λ l. inr ((t.all x).0 l)) (in_append s.listed t.listed h),
      ⊎_elim (λ p. in_left t.listed ((s.all x).1 p)) (λ q. in_right s.listed ((t.all x).1 q)),
    );
    count = length-append s.listed t.listed ∙ ap₂ ◌+◌ s.count t.count;
  }

  -- Exactly one thing is x.
  pub exactly_one : (x : X) → Exactly 1 (λ y. x ≡ y)
  exactly_one x = record {
    listed = x ∷ [];
    once = Once.more {x = x} not_in_none Once.none;
    all = λ y. (λ h. ⊎_elim (λ e. e) (λ n. absurd (not_in_none n)) (in_cases h), λ e. subst (λ (z : X). z ∈ (x ∷ [])) e ◌∈◌.first);
    count = refl;
  }

  -- Fewer things have a narrower property.
  pub exactly_le : {j k : ℕ} {P Q : X → Type 0} → Exactly j P → Exactly k Q → ((x : X) → P x → Q x) → j ≤ k
  exactly_le s t part = omega (arith, once_length_le s.once (λ x h. (t.all x).1 (part x ((s.all x).0 h))), s.count, t.count)

  -- An element of the list has P of x.
  pub record Among {A : Type 0} (as' : List A) (P : A → X → Type 0) (x : X) : Type 0 where
    pub by : A
    pub listed : by ∈ as'
    pub has : P by x

  -- Properties that exclude each other, one for each element of a list: the numbers add up.
  pub exactly_each : {A : Type 0} (F : A → ℕ) (P : A → X → Type 0) → ((a b : A) (x : X) → P a x → P b x → a ≡ b) → {as' : List A} → Once as'
      → ((a : A) → a ∈ as' → Exactly (F a) (P a)) → Exactly (total F as') (Among as' P)
  unfolding total
  exactly_each F P apart Once.none counts = exactly_none (λ x w. not_in_none w.listed)
  exactly_each {A} F P apart (Once.more {x = a} {xs = as'} fresh once) counts =
      exactly_as
      (exactly_either (counts a ◌∈◌.first) (exactly_each F P apart once (λ b h. counts b (◌∈◌.later h)))
      (λ x p w. fresh (subst (λ (b : A). b ∈ as') (sym (apart a w.by x p w.has)) w.listed)))
      (λ x. (
        ⊎_elim (λ p. record { by = a; listed = ◌∈◌.first; has = p }) (λ w. record { by = w.by; listed = ◌∈◌.later w.listed; has = w.has }),
        λ w. back x w.listed w.has,
      ))
    where
      back : {b : A} (x : X) → b ∈ (a ∷ as') → P b x → P a x ⊎ Among as' P x
      back x ◌∈◌.first p = inl p
      back {b} x (◌∈◌.later h) p = inr (record { by = b; listed = h; has = p })

  -- A number below n has P of x.
  pub record Below (n : ℕ) (P : ℕ → X → Type 0) (x : X) : Type 0 where
    pub by : ℕ
    pub less : by < n
    pub has : P by x

  -- Properties that exclude each other, one for each number below n: the numbers add up.
  pub exactly_sum : (n : ℕ) (F : ℕ → ℕ) (P : ℕ → X → Type 0) → ((i j : ℕ) (x : X) → P i x → P j x → i ≡ j)
      → ((i : ℕ) → i < n → Exactly (F i) (P i)) → Exactly (sum_to n F) (Below n P)
  unfolding sum_to
  exactly_sum zero F P apart counts = exactly_none (λ x w. omega (arith, w.less))
  exactly_sum (suc n) F P apart counts =
      exactly_as
      (exactly_either (exactly_sum n F P apart (λ i h. counts i (omega arith))) (counts n (omega arith))
      (λ x w p. omega (arith, w.less, apart w.by n x w.has p)))
      (λ x. (
        ⊎_elim (λ w. record { by = w.by; less = omega (arith, w.less); has = w.has }) (λ p. record { by = n; less = omega arith; has = p }),
        λ w. back x w.by w.less w.has (lt_or_ge w.by n),
      ))
    where
      back : (x : X) (i : ℕ) → i < suc n → P i x → (i < n) ⊎ (n ≤ i) → Below n P x ⊎ P n x
      back x i l p (inl h) = inl (record { by = i; less = h; has = p })
      back x i l p (inr h) = let same : i ≡ n = omega arith in inr (subst (λ (j : ℕ). P j x) same p)

  -- The things that have P, all of them, each once: their weights add up to w.
  pub record Weighed (ℓ : X → ℕ) (w : ℕ) (P : X → Type 0) : Type 0 where
    pub listed : List X
    pub once : Once listed
    pub all : (x : X) → (x ∈ listed) ↔ P x
    pub weight : total ℓ listed ≡ w

  total_ones : (xs : List X) → total (λ x. 1) xs ≡ length xs
  unfolding total
  total_ones [] = refl
  total_ones (x ∷ xs) = omega (arith, total_ones xs)

  -- With the weight 1 each, their number.
  pub weighed_exactly : {w : ℕ} {P : X → Type 0} → Weighed (λ x. 1) w P → Exactly w P
  weighed_exactly s = record { listed = s.listed; once = s.once; all = s.all; count = sym (total_ones s.listed) ∙ s.weight }

  pub exactly_weighed : {w : ℕ} {P : X → Type 0} → Exactly w P → Weighed (λ x. 1) w P
  exactly_weighed s = record { listed = s.listed; once = s.once; all = s.all; weight = total_ones s.listed ∙ s.count }

  -- Weights that are equal in the list add up to the same.
  pub total_same : (f g : X → ℕ) (xs : List X) → ((x : X) → x ∈ xs → f x ≡ g x) → total f xs ≡ total g xs
  unfolding total
  total_same f g [] same = refl
  total_same f g (x ∷ xs) same = ap₂ ◌+◌ (same x ◌∈◌.first) (total_same f g xs (λ y h. same y (◌∈◌.later h)))

  -- Equal weights: one of them times their number.
  pub total_equal : (f : X → ℕ) (k : ℕ) (xs : List X) → ((x : X) → x ∈ xs → f x ≡ k) → total f xs ≡ k * length xs
  unfolding total
  total_equal f k [] same = omega arith
  total_equal f k (x ∷ xs) same =
      omega (arith, same x ◌∈◌.first, total_equal f k xs (λ y h. same y (◌∈◌.later h)), mul-suc k (length xs))

  -- How many of a list pass a test.
  unfoldable pub passing : (X → Bool) → List X → ℕ
  passing f [] = 0
  passing f (x ∷ xs) = val (f x) + passing f xs

  module _ (f : X → Bool) where
    -- Of a list without repeats exactly so many pass.
    pub passing_exactly : {xs : List X} → Once xs → Exactly (passing f xs) (λ x. (x ∈ xs) × (f x ≡ true))
    unfolding passing
    passing_exactly Once.none = exactly_none (λ x h. not_in_none h.0)
    passing_exactly (Once.more {x = x} {xs = xs} fresh once) = go (f x) refl (passing_exactly once)
      where
        go : (b : Bool) → f x ≡ b → Exactly (passing f xs) (λ y. (y ∈ xs) × (f y ≡ true))
            → Exactly (val (f x) + passing f xs) (λ y. (y ∈ (x ∷ xs)) × (f y ≡ true))
        go true e t = record {
          listed = x ∷ t.listed;
          once = Once.more (λ h. fresh ((t.all x).0 h).0) t.once;
          all = λ y. (to y, λ p. back y p.0 p.1);
          count = omega (arith, ap val e, t.count);
        }
          where
            to : (y : X) → y ∈ (x ∷ t.listed) → (y ∈ (x ∷ xs)) × (f y ≡ true)
            to y ◌∈◌.first = (◌∈◌.first, e)
            to y (◌∈◌.later h) = let p = (t.all y).0 h in (◌∈◌.later p.0, p.1)

            back : (y : X) → y ∈ (x ∷ xs) → f y ≡ true → y ∈ (x ∷ t.listed)
            back y ◌∈◌.first p = ◌∈◌.first
            back y (◌∈◌.later h) p = ◌∈◌.later ((t.all y).1 (h, p))
        go false e t = exactly_at (omega (arith, ap val e)) (exactly_as t (λ y. (λ p. (◌∈◌.later p.0, p.1), λ p. (back y p.0 p.1, p.1))))
          where
            back : (y : X) → y ∈ (x ∷ xs) → f y ≡ true → y ∈ xs
            back y ◌∈◌.first p = absurd (clash p e)
            back y (◌∈◌.later h) p = h

-- What a pair of things, the one with P and the other with Q, makes.
pub record Paired {A B X : Type 0} (Makes : A → B → X → Type 0) (P : A → Type 0) (Q : B → Type 0) (z : X) : Type 0 where
  pub one : A
  pub other : B
  pub left : P one
  pub right : Q other
  pub makes : Makes one other z

-- Pairs make things, each pair one, and no two pairs the same: as many as there are pairs.
pub exactly_pairs : {A B X : Type 0} {P : A → Type 0} {Q : B → Type 0} {j k : ℕ} (Makes : A → B → X → Type 0)
    → ((a : A) (b : B) (y z : X) → Makes a b y → Makes a b z → y ≡ z)
    → ((a a' : A) (b b' : B) (z : X) → Makes a b z → Makes a' b' z → (a ≡ a') × (b ≡ b'))
    → ((a : A) (b : B) → P a → Q b → (z : X) × Makes a b z) → Exactly j P → Exactly k Q → Exactly (j * k) (Paired Makes P Q)
exactly_pairs Makes unique apart total s t =
    let pairs = table Makes unique apart s.once t.once (λ a b h g. total a b ((s.all a).0 h) ((t.all b).0 g)) in
    record {
      listed = pairs.made;
      once = pairs.once;
      all = λ z. (
        λ h.
            let w = (pairs.all z).0 h in
            record { one = w.0; other = w.1; left = (s.all w.0).0 w.2; right = (t.all w.1).0 w.3; makes = w.4 },
        λ w. (pairs.all z).1 (w.one, w.other, (s.all w.one).1 w.left, (t.all w.other).1 w.right, w.makes),
      );
      count = pairs.count ∙ ap₂ ◌*◌ s.count t.count;
    }

-- ---- sums below a bound

-- Values that are equal below the bound add up to the same.
pub sum_same : (n : ℕ) (f g : ℕ → ℕ) → ((k : ℕ) → k < n → f k ≡ g k) → sum_to n f ≡ sum_to n g
unfolding sum_to
sum_same zero f g same = refl
sum_same (suc n) f g same = ap₂ ◌+◌ (sum_same n f g (λ k h. same k (omega arith))) (same n (omega arith))

sum_zero : (n : ℕ) → sum_to n (λ k. 0) ≡ 0
unfolding sum_to
sum_zero zero = refl
sum_zero (suc n) = omega (arith, sum_zero n)

sum_add : (n : ℕ) (f g : ℕ → ℕ) → sum_to n (λ k. f k + g k) ≡ sum_to n f + sum_to n g
unfolding sum_to
sum_add zero f g = refl
sum_add (suc n) f g = omega (arith, sum_add n f g)

-- The values of a test add up to the number of those that pass.
sum_cnt : (f : ℕ → Bool) (n : ℕ) → sum_to n (λ k. val (f k)) ≡ cnt f n
unfolding sum_to cnt
sum_cnt f zero = refl
sum_cnt f (suc n) = omega (arith, sum_cnt f n)

-- Double counting: over the columns how many rows pass, or over the rows how many columns.
pub double_count : {X : Type 0} (f : X → ℕ → Bool) (n : ℕ) (xs : List X) → sum_to n (λ k. passing (λ x. f x k) xs) ≡ total (λ x. cnt (f x) n) xs
unfolding passing total
double_count f n [] = sum_zero n
double_count f n (x ∷ xs) =
    sum_add n (λ k. val (f x k)) (λ k. passing (λ y. f y k) xs) ∙ ap₂ ◌+◌ (sum_cnt (f x) n) (double_count f n xs)

-- Below n exactly so many numbers pass.
pub cnt_exactly : (f : ℕ → Bool) (n : ℕ) → Exactly (cnt f n) (λ k. (k < n) × (f k ≡ true))
unfolding cnt
cnt_exactly f zero = exactly_none (λ k (h : (k < 0) × (f k ≡ true)). omega (arith, h.0))
cnt_exactly f (suc n) = go (f n) refl (cnt_exactly f n)
  where
    go : (b : Bool) → f n ≡ b → Exactly (cnt f n) (λ k. (k < n) × (f k ≡ true)) → Exactly (val (f n) + cnt f n) (λ k. (k < suc n) × (f k ≡ true))
    go true e t = record {
      listed = n ∷ t.listed;
      once = Once.more (λ (h : n ∈ t.listed). omega (arith, ((t.all n).0 h).0)) t.once;
      all = λ k. (to k, λ p. back k p.0 p.1 (lt_or_ge k n));
      count = omega (arith, ap val e, t.count);
    }
      where
        to : (k : ℕ) → k ∈ (n ∷ t.listed) → (k < suc n) × (f k ≡ true)
        to k ◌∈◌.first = (omega arith, e)
        to k (◌∈◌.later h) = let p = (t.all k).0 h in (omega (arith, p.0), p.1)

        back : (k : ℕ) → k < suc n → f k ≡ true → (k < n) ⊎ (n ≤ k) → k ∈ (n ∷ t.listed)
        back k l p (inl h) = ◌∈◌.later ((t.all k).1 (h, p))
        back k l p (inr h) = let same : n ≡ k = omega arith in subst (λ (j : ℕ). j ∈ (n ∷ t.listed)) same ◌∈◌.first
    go false e t =
        exactly_at (omega (arith, ap val e))
        (exactly_as t (λ k. (λ p. (omega (arith, p.0), p.1), λ p. (below k p.0 p.1 (lt_or_ge k n), p.1))))
      where
        below : (k : ℕ) → k < suc n → f k ≡ true → (k < n) ⊎ (n ≤ k) → k < n
        below k l p (inl h) = h
        below k l p (inr h) = let same : k ≡ n = omega arith in absurd (clash p (ap f same ∙ e))
