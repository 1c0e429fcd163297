-- Two parts of an independent list whose sums differ by what has K agree in what has not K.
use mathlib.Core.Path.{◌≡◌, sym, ap, ap₂, ◌∙◌, subst}
use mathlib.Core.List.{List, [], ◌++◌, append-nil}
use Rattle.spans.specs.Group.{Space}
use Rattle.spans.specs.Basis.{Part, Sum}
use Rattle.spans.proofs.Xor.{xor, left_comm, undo}
use Rattle.spans.proofs.Lists.{Perm, perm_comm}
use Rattle.spans.proofs.Sift.{Sift, sift_part, sift_perm}
use Rattle.spans.proofs.Span.{Span, at, add, left_of, from_part}
use Rattle.spans.proofs.Indep.{Indep, indep_part, indep_perm, span_apart, independent, part_unique}

module _ {X : Type 0} (K : X → Type 0) where
  -- The members that have K of a part are a part of the members that have K.
  pub part_sift : {xs ys ks ls : List X} → Part xs ys → Sift K xs ks → Sift K ys ls → Part ks ls
  part_sift Part.nil Sift.nil Sift.nil = Part.nil
  part_sift (Part.keep p) (Sift.inn k s) (Sift.inn j t) = Part.keep (part_sift p s t)
  part_sift (Part.keep p) (Sift.inn k s) (Sift.out n t) = absurd (n k)
  part_sift (Part.keep p) (Sift.out n s) (Sift.inn k t) = absurd (n k)
  part_sift (Part.keep p) (Sift.out n s) (Sift.out m t) = part_sift p s t
  part_sift (Part.skip p) (Sift.inn k s) t = Part.skip (part_sift p s t)
  part_sift (Part.skip p) (Sift.out n s) t = part_sift p s t

module _ {X : Type 0} (G : Space X) where
  open G use {o, ◌⊕◌, left}

  -- The sum of two sums over equal high parts is the sum of their low parts.
  low_remains : (k n l m : X) → n ≡ m → k ⊕ l ≡ (k ⊕ n) ⊕ (l ⊕ m)
  low_remains k n l m e = rw e (simp (xor, G))

  -- Without the low parts the high parts remain.
  high_remains : (k n l m : X) → ((k ⊕ n) ⊕ (l ⊕ m)) ⊕ (k ⊕ l) ≡ n ⊕ m
  high_remains k n l m = simp (xor, G)

  equal_by_zero : (n m : X) → n ⊕ m ≡ o → n ≡ m
  equal_by_zero n m e = sym (undo G n m) ∙ ap (λ (u : X). u ⊕ m) e ∙ left m

  span_none : {v : X} → Span G [] v → v ≡ o
  span_none (Span.none e) = e

module _ {X : Type 0} (G : Space X) {K : X → Type 0} where
  open G use {o, ◌⊕◌, left, assoc}

  -- A sum is the sum of what has K and of what has not.
  pub sift_sum : {xs ks ns : List X} → Sift K xs ks → Sift (λ x. ¬ K x) xs ns → Sum G xs ≡ Sum G ks ⊕ Sum G ns
  unfolding Sum
  sift_sum Sift.nil Sift.nil = sym (left o)
  sift_sum (Sift.inn k s) (Sift.inn n t) = absurd (n k)
  sift_sum (Sift.inn {x = x} k s) (Sift.out n t) = ap (λ (u : X). x ⊕ u) (sift_sum s t) ∙ sym (assoc x _ _)
  sift_sum (Sift.out m s) (Sift.inn {x = x} n t) = ap (λ (u : X). x ⊕ u) (sift_sum s t) ∙ left_comm G x _ _
  sift_sum (Sift.out m s) (Sift.out n t) = absurd (n m)

  module _ {B low high ys zs ly lz hy hz : List X} (i : Indep G B) (p : Part B ys) (q : Part B zs) (l : Sift K B low) (h : Sift (λ x. ¬ K x) B high)
      (sy : Sift K ys ly) (ty : Sift (λ x. ¬ K x) ys hy) (sz : Sift K zs lz) (tz : Sift (λ x. ¬ K x) zs hz) where
    low_spans : Span G low (Sum G ly ⊕ Sum G lz)
    low_spans = add G (from_part G (part_sift K p l sy)) (from_part G (part_sift K q l sz))

    high_spans : Span G high (Sum G hy ⊕ Sum G hz)
    high_spans = add G (from_part G (part_sift (λ x. ¬ K x) p h ty)) (from_part G (part_sift (λ x. ¬ K x) q h tz))

    -- Parts that agree in what has not K differ by a sum of what has K.
    pub agree_spans : hy ≡ hz → Span G low (Sum G ys ⊕ Sum G zs)
    agree_spans e =
        at G
        (low_remains G (Sum G ly) (Sum G hy) (Sum G lz) (Sum G hz) (ap (Sum G) e) ∙ sym (ap₂ (λ (u v : X). u ⊕ v) (sift_sum sy ty) (sift_sum sz tz)))
        low_spans

    -- Parts that differ by a sum of what has K agree in what has not K.
    pub spans_agree : Span G low (Sum G ys ⊕ Sum G zs) → hy ≡ hz
    spans_agree s =
        let t = at G (ap (λ (u : X). u ⊕ (Sum G ly ⊕ Sum G lz)) (ap₂ (λ (u v : X). u ⊕ v) (sift_sum sy ty) (sift_sum sz tz))
        ∙ high_remains G (Sum G ly) (Sum G hy) (Sum G lz) (Sum G hz)) (add G s low_spans) in
        let both = indep_perm G (Perm.trans (sift_perm l h) (perm_comm low high)) i in
        let zero =
        span_apart G high low [] (subst (λ (L : List X). Indep G (high ++ L)) (sym (append-nil low)) both) (left_of G [] high_spans)
        (left_of G [] t) in
        part_unique G (independent G (indep_part G (sift_part (λ x. ¬ K x) h) i)) (part_sift (λ x. ¬ K x) p h ty) (part_sift (λ x. ¬ K x) q h tz)
        (equal_by_zero G (Sum G hy) (Sum G hz) (span_none G zero))
