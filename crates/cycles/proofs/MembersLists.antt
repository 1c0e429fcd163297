-- Lists without repeats: how long they are, and the list of what all pairs make.
use mathlib.Core.Path.{◌≡◌, refl, sym, ap, ◌∙◌, subst}
use mathlib.Core.List.{List, [], ◌∷◌, ◌++◌}
use mathlib.Core.Logic.{◌↔◌, ⊎_elim}
use Prim.Native.Nat.{suc, ◌*◌, ◌≤◌}
use native.Mathlib.Nat.{suc-mul}
use native.Mathlib.Omega.{arith}
use lib.ListN.{length, length-append}
use Rattle.spans.specs.Elements.{◌∈◌, Once}
use Rattle.spans.proofs.Lists.{Pick, in_left, in_right, in_append}
use Rattle.cycles.proofs.PathsDecide.{not_in_none}

module _ {X : Type 0} where
  -- An element of a list, and the others.
  pub in_pick : {x : X} {ys : List X} → x ∈ ys → (zs : List X) × Pick ys x zs
  in_pick ◌∈◌.first = (_, Pick.here)
  in_pick (◌∈◌.later h) = (_, Pick.there (in_pick h).1)

  pub pick_length : {x : X} {ys zs : List X} → Pick ys x zs → length ys ≡ suc (length zs)
  pick_length Pick.here = refl
  pick_length (Pick.there p) = ap suc (pick_length p)

  -- An element that is not the one picked is among the others.
  pub pick_others : {a x : X} {ys zs : List X} → Pick ys x zs → a ∈ ys → (a ≡ x → ⊥) → a ∈ zs
  pick_others Pick.here ◌∈◌.first other = absurd (other refl)
  pick_others Pick.here (◌∈◌.later h) other = h
  pick_others (Pick.there p) ◌∈◌.first other = ◌∈◌.first
  pick_others (Pick.there p) (◌∈◌.later h) other = ◌∈◌.later (pick_others p h other)

module _ {X Y : Type 0} where
  -- Elements with a key each, no two with the same, are no more than the keys.
  pub keyed_length_le : {xs : List X} {keys : List Y} (Key : X → Y → Type 0) → ((x y : X) (k : Y) → Key x k → Key y k → x ≡ y) → Once xs
      → ((x : X) → x ∈ xs → (k : Y) × (k ∈ keys) × Key x k) → length xs ≤ length keys
  keyed_length_le Key same Once.none find = omega arith
  keyed_length_le {keys = keys} Key same (Once.more {x = x} {xs = xs} fresh once) find =
      let (k, i, e) = find x ◌∈◌.first in
      let pick = in_pick i in
      let rest = keyed_length_le Key same once (λ y h. other e pick.1 h (find y (◌∈◌.later h))) in
      omega (arith, pick_length pick.1)
    where
      other : {k : Y} {zs : List Y} {y : X} → Key x k → Pick keys k zs → y ∈ xs → (l : Y) × (l ∈ keys) × Key y l → (l : Y) × (l ∈ zs) × Key y l
      other {k} {y = y} e pick h (l, i, d) =
          (l, pick_others pick i (λ q. fresh (subst (λ (z : X). z ∈ xs) (same y x k (subst (Key y) q d) e) h)), d)

module _ {X : Type 0} where
  -- A list without repeats is no longer than one that has all its elements.
  pub once_length_le : {xs ys : List X} → Once xs → ((a : X) → a ∈ xs → a ∈ ys) → length xs ≤ length ys
  once_length_le once inside = keyed_length_le ◌≡◌ (λ x y k e h. e ∙ sym h) once (λ a h. (a, inside a h, refl))

  -- Lists without repeats that have the same elements are equally long.
  pub same_elements_length : {xs ys : List X} → Once xs → Once ys → ((a : X) → (a ∈ xs) ↔ (a ∈ ys)) → length xs ≡ length ys
  same_elements_length s t same =
      let to = once_length_le s (λ a. (same a).0) in
      let back = once_length_le t (λ a. (same a).1) in
      omega arith

  pub once_append : {xs ys : List X} → Once xs → Once ys → ((a : X) → a ∈ xs → a ∈ ys → ⊥) → Once (xs ++ ys)
  once_append Once.none t apart = t
  once_append {ys} (Once.more {x = x} {xs = xs} fresh s) t apart =
      Once.more (λ h. ⊎_elim fresh (apart x ◌∈◌.first) (in_append xs ys h)) (once_append s t (λ a h. apart a (◌∈◌.later h)))

-- Pairs make things: each pair at most one, and no two pairs the same.
module _ {A B X : Type 0} (Makes : A → B → X → Type 0) (unique : (a : A) (b : B) (y z : X) → Makes a b y → Makes a b z → y ≡ z)
    (apart : (a a' : A) (b b' : B) (z : X) → Makes a b z → Makes a' b' z → (a ≡ a') × (b ≡ b')) where
  -- What one element makes with each of a list.
  record Line (a : A) (bs : List B) : Type 0 where
    made : List X
    once : Once made
    all : (z : X) → (z ∈ made) ↔ ((b : B) × (b ∈ bs) × Makes a b z)
    count : length made ≡ length bs

  line : {a : A} {bs : List B} → Once bs → ((b : B) → b ∈ bs → (z : X) × Makes a b z) → Line a bs
  line Once.none total = record {
    made = [];
    once = Once.none;
    all = λ z. (λ h. absurd (not_in_none h), λ w. absurd (not_in_none w.1));
    count = refl;
  }
  line {a} (Once.more {x = b} {xs = bs} fresh once) total = go (total b ◌∈◌.first) (line once (λ b h. total b (◌∈◌.later h)))
    where
      go : (z : X) × Makes a b z → Line a bs → Line a (b ∷ bs)
      go (x, makes) rest = record {
        made = x ∷ rest.made;
        once = Once.more new rest.once;
        all = λ z. (to, λ w. back w.1 w.2);
        count = ap suc rest.count;
      }
        where
          new : x ∈ rest.made → ⊥
          new h = let w = (rest.all x).0 h in fresh (subst (λ (y : B). y ∈ bs) (apart _ _ _ _ _ w.2 makes).1 w.1)

          to : {z : X} → z ∈ (x ∷ rest.made) → (b' : B) × (b' ∈ (b ∷ bs)) × Makes a b' z
          to ◌∈◌.first = (b, ◌∈◌.first, makes)
          to {z} (◌∈◌.later h) = let w = (rest.all z).0 h in (w.0, ◌∈◌.later w.1, w.2)

          back : {z : X} {b' : B} → b' ∈ (b ∷ bs) → Makes a b' z → z ∈ (x ∷ rest.made)
          back ◌∈◌.first m = subst (λ (y : X). y ∈ (x ∷ rest.made)) (unique _ _ _ _ makes m) ◌∈◌.first
          back {z} {b'} (◌∈◌.later h) m = ◌∈◌.later ((rest.all z).1 (b', h, m))

  -- What each element of one list makes with each of another.
  pub record Table (xs : List A) (ys : List B) : Type 0 where
    pub made : List X
    pub once : Once made
    pub all : (z : X) → (z ∈ made) ↔ ((a : A) × (b : B) × (a ∈ xs) × (b ∈ ys) × Makes a b z)
    pub count : length made ≡ length xs * length ys

  -- All that the pairs make, each once: as many as there are pairs.
  pub table : {xs : List A} {ys : List B} → Once xs → Once ys → ((a : A) (b : B) → a ∈ xs → b ∈ ys → (z : X) × Makes a b z) → Table xs ys
  table Once.none ys total = record {
    made = [];
    once = Once.none;
    all = λ z. (λ h. absurd (not_in_none h), λ w. absurd (not_in_none w.2));
    count = omega arith;
  }
  table {ys} (Once.more {x = a} {xs = xs} fresh once) bs total =
      go (line bs (λ b h. total a b ◌∈◌.first h)) (table once bs (λ a b h. total a b (◌∈◌.later h)))
    where
      go : Line a ys → Table xs ys → Table (a ∷ xs) ys
      go top rest = record {
        made = top.made ++ rest.made;
        once = once_append top.once rest.once new;
        all = λ z. (λ h. ⊎_elim to_top to_rest (in_append top.made rest.made h), λ w. back w.2 w.3 w.4);
        count =
            length-append top.made rest.made ∙ omega (arith, top.count, rest.count, suc-mul (length xs) (length ys));
      }
        where
          new : (z : X) → z ∈ top.made → z ∈ rest.made → ⊥
          new z h g =
              let s = (top.all z).0 h in
              let t = (rest.all z).0 g in
              fresh (subst (λ (y : A). y ∈ xs) (apart _ _ _ _ _ t.4 s.2).0 t.2)

          to_top : {z : X} → z ∈ top.made → (a' : A) × (b : B) × (a' ∈ (a ∷ xs)) × (b ∈ ys) × Makes a' b z
          to_top {z} h = let w = (top.all z).0 h in (a, w.0, ◌∈◌.first, w.1, w.2)

          to_rest : {z : X} → z ∈ rest.made → (a' : A) × (b : B) × (a' ∈ (a ∷ xs)) × (b ∈ ys) × Makes a' b z
          to_rest {z} h = let w = (rest.all z).0 h in (w.0, w.1, ◌∈◌.later w.2, w.3, w.4)

          back : {z : X} {a' : A} {b : B} → a' ∈ (a ∷ xs) → b ∈ ys → Makes a' b z → z ∈ (top.made ++ rest.made)
          back {z} {b = b} ◌∈◌.first h m = in_left rest.made ((top.all z).1 (b, h, m))
          back {z} {a'} {b} (◌∈◌.later g) h m = in_right top.made ((rest.all z).1 (a', b, g, h, m))
