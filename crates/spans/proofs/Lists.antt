-- Parts of a list, its orders, what holds of each member, and the elements of two lists one after the other.
use mathlib.Core.List.{List, [], ◌∷◌, ◌++◌}
use mathlib.Core.Logic.{◌⊎◌, inl, inr, ⊎_elim}
use Rattle.spans.specs.Elements.{◌∈◌}
use Rattle.spans.specs.Basis.{Part, All}

module _ {X : Type 0} where
  -- Parts.

  pub part_refl : (xs : List X) → Part xs xs
  part_refl [] = Part.nil
  part_refl (x ∷ xs) = Part.keep (part_refl xs)

  pub part_none : (xs : List X) → Part xs []
  part_none [] = Part.nil
  part_none (x ∷ xs) = Part.skip (part_none xs)

  pub part_trans : {xs ys zs : List X} → Part xs ys → Part ys zs → Part xs zs
  part_trans Part.nil Part.nil = Part.nil
  part_trans (Part.keep p) (Part.keep q) = Part.keep (part_trans p q)
  part_trans (Part.keep p) (Part.skip q) = Part.skip (part_trans p q)
  part_trans (Part.skip p) q = Part.skip (part_trans p q)

  pub part_append : {xs ys : List X} (zs : List X) → Part xs ys → Part (xs ++ zs) (ys ++ zs)
  part_append zs Part.nil = part_refl zs
  part_append zs (Part.keep p) = Part.keep (part_append zs p)
  part_append zs (Part.skip p) = Part.skip (part_append zs p)

  -- What holds of each member.

  pub part_all : {P : X → Type 0} {xs ys : List X} → Part xs ys → All P xs → All P ys
  part_all Part.nil All.nil = All.nil
  part_all (Part.keep p) (All.cons a r) = All.cons a (part_all p r)
  part_all (Part.skip p) (All.cons a r) = part_all p r

  pub all_map : {P Q : X → Type 0} {xs : List X} → ((x : X) → P x → Q x) → All P xs → All Q xs
  all_map f All.nil = All.nil
  all_map f (All.cons {x = x} a r) = All.cons (f x a) (all_map f r)

  pub all_and : {P Q : X → Type 0} {xs : List X} → All P xs → All Q xs → All (λ x. P x × Q x) xs
  all_and All.nil All.nil = All.nil
  all_and (All.cons a r) (All.cons b s) = All.cons (a, b) (all_and r s)

  pub all_append : {P : X → Type 0} {xs ys : List X} → All P xs → All P ys → All P (xs ++ ys)
  all_append All.nil bs = bs
  all_append (All.cons a r) bs = All.cons a (all_append r bs)

  pub all_left : {P : X → Type 0} (xs ys : List X) → All P (xs ++ ys) → All P xs
  all_left [] ys r = All.nil
  all_left (x ∷ xs) ys (All.cons a r) = All.cons a (all_left xs ys r)

  pub all_right : {P : X → Type 0} (xs ys : List X) → All P (xs ++ ys) → All P ys
  all_right [] ys r = r
  all_right (x ∷ xs) ys (All.cons a r) = all_right xs ys r

  pub all_head : {P : X → Type 0} {x : X} {xs : List X} → All P (x ∷ xs) → P x
  all_head (All.cons a r) = a

  pub all_tail : {P : X → Type 0} {x : X} {xs : List X} → All P (x ∷ xs) → All P xs
  all_tail (All.cons a r) = r

  -- Orders.

  -- One list is another in a different order.
  pub data Perm : List X → List X → Type 0 where
    nil : Perm [] []
    cons : {x : X} {xs ys : List X} → Perm xs ys → Perm (x ∷ xs) (x ∷ ys)
    swap : {x y : X} {xs : List X} → Perm (x ∷ y ∷ xs) (y ∷ x ∷ xs)
    trans : {xs ys zs : List X} → Perm xs ys → Perm ys zs → Perm xs zs

  pub perm_refl : (xs : List X) → Perm xs xs
  perm_refl [] = Perm.nil
  perm_refl (x ∷ xs) = Perm.cons (perm_refl xs)

  pub perm_sym : {xs ys : List X} → Perm xs ys → Perm ys xs
  perm_sym Perm.nil = Perm.nil
  perm_sym (Perm.cons p) = Perm.cons (perm_sym p)
  perm_sym Perm.swap = Perm.swap
  perm_sym (Perm.trans p q) = Perm.trans (perm_sym q) (perm_sym p)

  pub perm_front : (xs : List X) (y : X) (ys : List X) → Perm (xs ++ (y ∷ ys)) (y ∷ (xs ++ ys))
  perm_front [] y ys = perm_refl (y ∷ ys)
  perm_front (x ∷ xs) y ys = Perm.trans (Perm.cons (perm_front xs y ys)) Perm.swap

  pub perm_left : (xs : List X) {ys zs : List X} → Perm ys zs → Perm (xs ++ ys) (xs ++ zs)
  perm_left [] p = p
  perm_left (x ∷ xs) p = Perm.cons (perm_left xs p)

  pub perm_right : {xs ys : List X} (zs : List X) → Perm xs ys → Perm (xs ++ zs) (ys ++ zs)
  perm_right zs Perm.nil = perm_refl zs
  perm_right zs (Perm.cons p) = Perm.cons (perm_right zs p)
  perm_right zs Perm.swap = Perm.swap
  perm_right zs (Perm.trans p q) = Perm.trans (perm_right zs p) (perm_right zs q)

  pub perm_comm : (xs ys : List X) → Perm (xs ++ ys) (ys ++ xs)
  perm_comm [] [] = Perm.nil
  perm_comm [] (y ∷ ys) = Perm.cons (perm_comm [] ys)
  perm_comm (x ∷ xs) ys = Perm.trans (Perm.cons (perm_comm xs ys)) (perm_sym (perm_front ys x xs))

  pub perm_blocks : (xs ys zs : List X) → Perm (xs ++ (ys ++ zs)) (ys ++ (xs ++ zs))
  perm_blocks [] ys zs = perm_refl (ys ++ zs)
  perm_blocks (x ∷ xs) ys zs = Perm.trans (Perm.cons (perm_blocks xs ys zs)) (perm_sym (perm_front ys x (xs ++ zs)))

  pub all_perm : {P : X → Type 0} {xs ys : List X} → Perm xs ys → All P xs → All P ys
  all_perm Perm.nil r = r
  all_perm (Perm.cons p) (All.cons a r) = All.cons a (all_perm p r)
  all_perm Perm.swap (All.cons a (All.cons b r)) = All.cons b (All.cons a r)
  all_perm (Perm.trans p q) r = all_perm q (all_perm p r)

  -- One member and the others.

  -- c is a member of the first list, and the second holds the others.
  pub data Pick : List X → X → List X → Type 0 where
    here : {c : X} {xs : List X} → Pick (c ∷ xs) c xs
    there : {x c : X} {xs ys : List X} → Pick xs c ys → Pick (x ∷ xs) c (x ∷ ys)

  pub pick_perm : {xs ys : List X} {c : X} (zs : List X) → Pick xs c ys → Perm (xs ++ zs) (c ∷ (ys ++ zs))
  pick_perm {xs} zs Pick.here = perm_refl (xs ++ zs)
  pick_perm zs (Pick.there p) = Perm.trans (Perm.cons (pick_perm zs p)) Perm.swap

  pub pick_part : {xs ys : List X} {c : X} → Pick xs c ys → Part xs ys
  pick_part {ys} Pick.here = Part.skip (part_refl ys)
  pick_part (Pick.there p) = Part.keep (pick_part p)

  pub pick_middle : (before : List X) (x : X) (after : List X) → Pick (before ++ (x ∷ after)) x (before ++ after)
  pick_middle [] x after = Pick.here
  pick_middle (y ∷ before) x after = Pick.there (pick_middle before x after)

  pub all_pick : {P : X → Type 0} {xs ys : List X} {c : X} → Pick xs c ys → All P xs → P c
  all_pick Pick.here (All.cons a r) = a
  all_pick (Pick.there p) (All.cons a r) = all_pick p r

  pub all_picks : {P : X → Type 0} (xs : List X) → ((c : X) (ys : List X) → Pick xs c ys → P c) → All P xs
  all_picks [] f = All.nil
  all_picks (x ∷ xs) f = All.cons (f x xs Pick.here) (all_picks xs (λ c ys p. f c (x ∷ ys) (Pick.there p)))

  -- Elements.

  pub in_left : {a : X} {xs : List X} (ys : List X) → a ∈ xs → a ∈ (xs ++ ys)
  in_left ys ◌∈◌.first = ◌∈◌.first
  in_left ys (◌∈◌.later h) = ◌∈◌.later (in_left ys h)

  pub in_right : {a : X} (xs : List X) {ys : List X} → a ∈ ys → a ∈ (xs ++ ys)
  in_right [] h = h
  in_right (x ∷ xs) h = ◌∈◌.later (in_right xs h)

  pub in_append : {a : X} (xs ys : List X) → a ∈ (xs ++ ys) → (a ∈ xs) ⊎ (a ∈ ys)
  in_append [] ys h = inr h
  in_append (x ∷ xs) ys ◌∈◌.first = inl ◌∈◌.first
  in_append (x ∷ xs) ys (◌∈◌.later h) = ⊎_elim (λ l. inl (◌∈◌.later l)) inr (in_append xs ys h)
