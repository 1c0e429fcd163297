-- The members of a list that have K, taken out by a decision, and the view of that choice that proofs go by.
use mathlib.Core.Path.{◌≡◌, refl, ap}
use mathlib.Core.List.{List, [], ◌∷◌, ◌++◌}
use Prim.Native.Nat.{ℕ, suc}
use lib.ListN.{length}
use Rattle.spans.specs.Basis.{Part, All, Holding}
use Rattle.spans.specs.Graded.{keep_if}
use Rattle.spans.proofs.Lists.{Perm, perm_sym, perm_front, Pick}

module _ {X : Type 0} (K : X → Type 0) where
  -- The second list is the members of the first that have K.
  pub data Sift : List X → List X → Type 0 where
    nil : Sift [] []
    inn : {x : X} {xs ys : List X} → K x → Sift xs ys → Sift (x ∷ xs) (x ∷ ys)
    out : {x : X} {xs ys : List X} → ¬ K x → Sift xs ys → Sift (x ∷ xs) ys

  pub sift_all : {xs ys : List X} → Sift xs ys → All K ys
  sift_all Sift.nil = All.nil
  sift_all (Sift.inn k s) = All.cons k (sift_all s)
  sift_all (Sift.out n s) = sift_all s

  pub sift_part : {xs ys : List X} → Sift xs ys → Part xs ys
  sift_part Sift.nil = Part.nil
  sift_part (Sift.inn k s) = Part.keep (sift_part s)
  sift_part (Sift.out n s) = Part.skip (sift_part s)

  -- A part whose members all have K is a part of the sifted list.
  pub sift_most : {xs ys zs : List X} → Sift xs ys → Part xs zs → All K zs → Part ys zs
  sift_most Sift.nil Part.nil a = Part.nil
  sift_most (Sift.inn k s) (Part.keep p) (All.cons a r) = Part.keep (sift_most s p r)
  sift_most (Sift.inn k s) (Part.skip p) r = Part.skip (sift_most s p r)
  sift_most (Sift.out n s) (Part.keep p) (All.cons a r) = absurd (n a)
  sift_most (Sift.out n s) (Part.skip p) r = sift_most s p r

  pub sift_unique : {xs ys zs : List X} → Sift xs ys → Sift xs zs → ys ≡ zs
  sift_unique Sift.nil Sift.nil = refl
  sift_unique (Sift.inn {x = x} k s) (Sift.inn j t) = ap (λ (l : List X). x ∷ l) (sift_unique s t)
  sift_unique (Sift.inn k s) (Sift.out n t) = absurd (n k)
  sift_unique (Sift.out n s) (Sift.inn k t) = absurd (n k)
  sift_unique (Sift.out n s) (Sift.out m t) = sift_unique s t

  pub sift_holding : {xs ys : List X} → Sift xs ys → Holding K xs (length ys)
  sift_holding Sift.nil = Holding.none
  sift_holding (Sift.inn k s) = Holding.inn k (sift_holding s)
  sift_holding (Sift.out n s) = Holding.out n (sift_holding s)

  pub holding_unique : {xs : List X} {m n : ℕ} → Holding K xs m → Holding K xs n → m ≡ n
  holding_unique Holding.none Holding.none = refl
  holding_unique (Holding.inn k s) (Holding.inn j t) = ap suc (holding_unique s t)
  holding_unique (Holding.inn k s) (Holding.out n t) = absurd (n k)
  holding_unique (Holding.out n s) (Holding.inn k t) = absurd (n k)
  holding_unique (Holding.out n s) (Holding.out m t) = holding_unique s t

  -- One step of a choice by a decision.
  pub sift_step : {xs ys : List X} (x : X) → Sift xs ys → (d : Dec (K x)) → Sift (x ∷ xs) (keep_if d x ys)
  unfolding keep_if
  sift_step x s (yes p) = Sift.inn p s
  sift_step x s (no n) = Sift.out n s

  module _ (dec : (x : X) → Dec (K x)) where
    -- The members that have K, in order.
    unfoldable pub sift : List X → List X
    sift [] = []
    sift (x ∷ xs) = keep_if (dec x) x (sift xs)

    pub sifted : (xs : List X) → Sift xs (sift xs)
    unfolding sift
    sifted [] = Sift.nil
    sifted (x ∷ xs) = sift_step x (sifted xs) (dec x)

-- The members that have K, and then the others.
pub sift_perm : {X : Type 0} {K : X → Type 0} {xs ys zs : List X} → Sift K xs ys → Sift (λ x. ¬ K x) xs zs → Perm xs (ys ++ zs)
sift_perm Sift.nil Sift.nil = Perm.nil
sift_perm (Sift.inn k s) (Sift.inn n t) = absurd (n k)
sift_perm (Sift.inn k s) (Sift.out n t) = Perm.cons (sift_perm s t)
sift_perm {ys} (Sift.out k s) (Sift.inn {x = x} {ys = zs} n t) = Perm.trans (Perm.cons (sift_perm s t)) (perm_sym (perm_front ys x zs))
sift_perm (Sift.out k s) (Sift.out n t) = absurd (n k)

-- A member that has not K stands among the others.
pub sift_avoids : {X : Type 0} {K : X → Type 0} {c : X} {xs ys zs : List X} → ¬ K c → Sift K xs ys → Pick xs c zs → Part zs ys
sift_avoids n Sift.nil p = elim p [ ]
sift_avoids n (Sift.inn k s) Pick.here = absurd (n k)
sift_avoids {K} n (Sift.out m s) Pick.here = sift_part K s
sift_avoids n (Sift.inn k s) (Pick.there q) = Part.keep (sift_avoids n s q)
sift_avoids n (Sift.out m s) (Pick.there q) = Part.skip (sift_avoids n s q)
