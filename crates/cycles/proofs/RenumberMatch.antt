-- Matching one list with another: where each place has a partner of its own with the same thing, one list is the other in a different order.
use mathlib.Core.Path.{◌≡◌, refl, sym, ap, ap₂, ◌∙◌, subst, subst₂}
use mathlib.Core.List.{List, [], ◌∷◌, ◌++◌, map, append-nil}
use Prim.Native.Nat.{ℕ, suc, ◌+◌, ◌≤◌}
use native.Mathlib.Omega.{arith}
use lib.ListN.{length, length-append}
use Rattle.spans.specs.Elements.{◌∈◌, Once}
use Rattle.spans.proofs.Lists.{Perm, Pick, perm_refl, perm_sym}
use Rattle.cycles.specs.Rows.{At}
use Rattle.cycles.proofs.MembersLists.{in_pick, pick_others}

-- The lists are equally long, and what stands at one place in both has M.
data Pairs {X Y : Type 0} (M : X → Y → Type 0) : List X → List Y → Type 0 where
  none : Pairs M [] []
  more : {x : X} {y : Y} {xs : List X} {ys : List Y} → M x y → Pairs M xs ys → Pairs M (x ∷ xs) (y ∷ ys)

-- Partners for the elements of xs out of ys, each with one of its own, and those that are left.
record Matching {X Y : Type 0} (M : X → Y → Type 0) (xs : List X) (ys : List Y) : Type 0 where
  partners : List Y
  spare : List Y
  perm : Perm ys (partners ++ spare)
  pairs : Pairs M xs partners

-- A list is the element picked and the others, in another order.
pick_first : {X : Type 0} {x : X} {xs ys : List X} → Pick xs x ys → Perm xs (x ∷ ys)
pick_first {xs} Pick.here = perm_refl xs
pick_first (Pick.there p) = Perm.trans (Perm.cons (pick_first p)) Perm.swap

-- Where each element has a partner in ys, and no two have one, there is a matching.
matching : {X Y : Type 0} {M : X → Y → Type 0} {xs : List X} {ys : List Y} → Once xs → ((x : X) → x ∈ xs → (y : Y) × (y ∈ ys) × M x y)
    → ((x z : X) (y : Y) → M x y → M z y → x ≡ z) → Matching M xs ys
matching {ys} Once.none partner one = record { partners = []; spare = ys; perm = perm_refl ys; pairs = Pairs.none }
matching {Y = Y} {M = M} (Once.more {x = x} {xs = xs} fresh once) partner one =
    let (y, i, p) = partner x ◌∈◌.first in
    let (zs, k) = in_pick i in
    let t = matching {ys = zs} once
    (λ z h.
    let (v, j, q) = partner z (◌∈◌.later h) in
    (v, pick_others k j (λ e. fresh (subst (λ w. w ∈ xs) (one z x y (subst (M z) e q) p) h)), q))
    one in
    record {
      partners = y ∷ t.partners;
      spare = t.spare;
      perm = Perm.trans (pick_first k) (Perm.cons t.perm);
      pairs = Pairs.more p t.pairs;
    }

-- Paired lists are equally long.
pairs_length : {X Y : Type 0} {M : X → Y → Type 0} {xs : List X} {ys : List Y} → Pairs M xs ys → length xs ≡ length ys
pairs_length Pairs.none = refl
pairs_length (Pairs.more p ps) = ap suc (pairs_length ps)

-- A list in another order is as long.
perm_length : {X : Type 0} {xs ys : List X} → Perm xs ys → length xs ≡ length ys
perm_length Perm.nil = refl
perm_length (Perm.cons p) = ap suc (perm_length p)
perm_length Perm.swap = refl
perm_length (Perm.trans p q) = perm_length p ∙ perm_length q

-- The images of a list in another order are in that order.
perm_map : {X Y : Type 0} (f : X → Y) {xs ys : List X} → Perm xs ys → Perm (map f xs) (map f ys)
perm_map f Perm.nil = Perm.nil
perm_map f (Perm.cons p) = Perm.cons (perm_map f p)
perm_map f Perm.swap = Perm.swap
perm_map f (Perm.trans p q) = Perm.trans (perm_map f p) (perm_map f q)

-- A matched list is no longer than the other.
matching_length : {X Y : Type 0} {M : X → Y → Type 0} {xs : List X} {ys : List Y} → Matching M xs ys → length xs ≤ length ys
matching_length t = omega (arith, pairs_length t.pairs, perm_length t.perm, length-append t.partners t.spare)

-- A list of no elements is empty.
length_zero : {X : Type 0} (xs : List X) → length xs ≡ 0 → xs ≡ []
length_zero [] e = refl
length_zero (x ∷ xs) e = absurd (omega arith)

-- Of equally long lists all are partners.
matching_all : {X Y : Type 0} {M : X → Y → Type 0} {xs : List X} {ys : List Y} (t : Matching M xs ys) → length xs ≡ length ys → Perm ys t.partners
matching_all {ys} t e =
    let none = length_zero t.spare (omega (arith, pairs_length t.pairs, perm_length t.perm, length-append t.partners t.spare)) in
    subst (Perm ys) (ap (λ l. t.partners ++ l) none ∙ append-nil t.partners) t.perm

-- A thing and its place.
record Placed (X : Type 0) : Type 0 where
  place : ℕ
  item : X

module _ {X : Type 0} where
  -- The things of a list with their places, from the place k on.
  unfoldable placed : ℕ → List X → List (Placed X)
  placed k [] = []
  placed k (x ∷ xs) = record { place = k; item = x } ∷ placed (suc k) xs

  placed_items : (k : ℕ) (xs : List X) → map (λ e. e.item) (placed k xs) ≡ xs
  unfolding placed
  placed_items k [] = refl
  placed_items k (x ∷ xs) = ap (λ l. x ∷ l) (placed_items (suc k) xs)

  placed_length : (k : ℕ) (xs : List X) → length (placed k xs) ≡ length xs
  unfolding placed
  placed_length k [] = refl
  placed_length k (x ∷ xs) = ap suc (placed_length (suc k) xs)

  placed_at : (k : ℕ) (xs : List X) {e : Placed X} → e ∈ placed k xs → (j : ℕ) × (e.place ≡ k + j) × At xs j e.item
  unfolding placed
  placed_at k [] a = elim a [ ]
  placed_at k (x ∷ xs) ◌∈◌.first = (0, omega arith, At.here)
  placed_at k (x ∷ xs) (◌∈◌.later h) = let (j, d, a) = placed_at (suc k) xs h in (suc j, omega arith, At.later a)

  at_placed : (k : ℕ) {xs : List X} {j : ℕ} {x : X} (i : ℕ) → i ≡ k + j → At xs j x → record { place = i; item = x } ∈ placed k xs
  unfolding placed
  at_placed k {x = x} i e (At.here {xs = xs}) =
      let d : k ≡ i = omega arith in subst (λ l. record { place = l; item = x } ∈ placed k (x ∷ xs)) d ◌∈◌.first
  at_placed k i e (At.later a) = ◌∈◌.later (at_placed (suc k) i (omega arith) a)

  placed_fresh : (k : ℕ) (x : X) (xs : List X) → record { place = k; item = x } ∈ placed (suc k) xs → ⊥
  placed_fresh k x xs h = let (j, d, a) = placed_at (suc k) xs h in absurd (below j d)
    where
      below : (j : ℕ) → k ≡ suc k + j → ⊥
      below j d = omega arith

  placed_once : (k : ℕ) (xs : List X) → Once (placed k xs)
  unfolding placed
  placed_once k [] = Once.none
  placed_once k (x ∷ xs) = Once.more (placed_fresh k x xs) (placed_once (suc k) xs)

  -- The things are the same, and the places have M.
  record Partner (M : ℕ → ℕ → Type 0) (e d : Placed X) : Type 0 where
    items : e.item ≡ d.item
    places : M e.place d.place

  partner_items : {M : ℕ → ℕ → Type 0} {xs ys : List (Placed X)} → Pairs (Partner M) xs ys → map (λ e. e.item) xs ≡ map (λ e. e.item) ys
  partner_items Pairs.none = refl
  partner_items (Pairs.more p ps) = ap₂ ◌∷◌ p.items (partner_items ps)

  placed_same : {e d : Placed X} → e.place ≡ d.place → e.item ≡ d.item → e ≡ d
  placed_same p q = ap₂ (λ (i : ℕ) (x : X). record { place = i; item = x }) p q

  -- Each place of xs has a partner in ys with the same thing, and no two have one.
  pub record Partners (M : ℕ → ℕ → Type 0) (xs ys : List X) : Type 0 where
    pub partner : (i : ℕ) (x : X) → At xs i x → (j : ℕ) × At ys j x × M i j
    pub own : (i k j : ℕ) → M i j → M k j → i ≡ k

  module _ {M : ℕ → ℕ → Type 0} {xs ys : List X} (p : Partners M xs ys) where
    places_match : Matching (Partner M) (placed 0 xs) (placed 0 ys)
    places_match =
        matching (placed_once 0 xs) (λ e h. let (i, d, a) = placed_at 0 xs h in found e i d a)
        (λ e d y s t. placed_same (p.own e.place d.place y.place s.places t.places) (s.items ∙ sym t.items))
      where
        found : (e : Placed X) (i : ℕ) → e.place ≡ 0 + i → At xs i e.item → (d : Placed X) × (d ∈ placed 0 ys) × Partner M e d
        found e i s a =
            let l : i ≡ e.place = omega arith in
            let (j, b, q) = p.partner e.place e.item (subst (λ k. At xs k e.item) l a) in
            (record { place = j; item = e.item }, at_placed 0 j (omega arith) b, record { items = refl; places = q })

    -- Then xs is no longer than ys.
    pub partners_length : length xs ≤ length ys
    partners_length = omega (arith, matching_length places_match, placed_length 0 xs, placed_length 0 ys)

    -- And if they are equally long, one is the other in a different order.
    pub partners_perm : length xs ≡ length ys → Perm xs ys
    partners_perm e =
        let t = places_match in
        let q = perm_map (λ d. d.item) (matching_all t (placed_length 0 xs ∙ e ∙ sym (placed_length 0 ys))) in
        perm_sym (subst₂ Perm (placed_items 0 ys) (sym (partner_items t.pairs) ∙ placed_items 0 xs) q)
