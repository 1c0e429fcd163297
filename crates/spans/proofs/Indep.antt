-- Independent lists, by recursion: exchange, extension, and the one expansion of each sum.
use mathlib.Core.Path.{◌≡◌, refl, sym, ◌∙◌, ap}
use mathlib.Core.List.{List, [], ◌∷◌, ◌++◌, cons≢nil}
use mathlib.Core.HLevel.{dec→stable}
use Rattle.spans.specs.Group.{Space}
use Rattle.spans.specs.Basis.{Part, All, Sum, Independent}
use Rattle.spans.proofs.Xor.{cancel, both, undo, differ}
use Rattle.spans.proofs.Lists.{part_none, all_map, all_append, Perm, perm_sym, pick_perm}
use Rattle.spans.proofs.Span.{Span, at, head, add, span_dec, through, own_part, mono}
use Rattle.spans.proofs.Span.{right_of, span_perm, span_middle, exchange, to_part, from_part, uses}

module _ {X : Type 0} (G : Space X) where
  open G use {◌⊕◌, comm}

  -- No member lies in the span of those after it.
  pub data Indep : List X → Type 0 where
    none : Indep []
    more : {x : X} {xs : List X} → ¬ Span G xs x → Indep xs → Indep (x ∷ xs)

  pub first : {x : X} {xs : List X} → Indep (x ∷ xs) → ¬ Span G xs x
  first (more n i) = n

  pub rest : {x : X} {xs : List X} → Indep (x ∷ xs) → Indep xs
  rest (more n i) = i

  pub indep_part : {xs ys : List X} → Part xs ys → Indep xs → Indep ys
  indep_part Part.nil i = i
  indep_part (Part.keep p) (more n i) = more (λ s. n (mono G p s)) (indep_part p i)
  indep_part (Part.skip p) (more n i) = indep_part p i

  pub indep_perm : {xs ys : List X} → Perm xs ys → Indep xs → Indep ys
  indep_perm Perm.nil i = i
  indep_perm (Perm.cons p) (more n i) = more (λ s. n (span_perm G (perm_sym p) s)) (indep_perm p i)
  indep_perm Perm.swap (more n (more m i)) = more (λ s. n (exchange G s m)) (more (λ s. n (Span.skip s)) i)
  indep_perm (Perm.trans p q) i = indep_perm q (indep_perm p i)

  pub indep_right : (xs ys : List X) → Indep (xs ++ ys) → Indep ys
  indep_right [] ys i = i
  indep_right (x ∷ xs) ys (more n i) = indep_right xs ys i

  pub indep_fresh : (xs : List X) {ys : List X} → Indep (xs ++ ys) → All (λ x. ¬ Span G ys x) xs
  indep_fresh [] i = All.nil
  indep_fresh (x ∷ xs) (more n i) = All.cons (λ s. n (right_of G xs s)) (indep_fresh xs i)

  module _ {ys zs : List X} (f : (v : X) → Span G zs v → Span G ys v) where
    -- Over a list that spans more a list spans more.
    pub span_over : (xs : List X) {v : X} → Span G (xs ++ zs) v → Span G (xs ++ ys) v
    span_over [] {v} s = f v s
    span_over (x ∷ xs) (Span.skip s) = Span.skip (span_over xs s)
    span_over (x ∷ xs) (Span.take s) = Span.take (span_over xs s)

    -- Over a list that spans less an independent list stays independent.
    pub indep_over : (xs : List X) → Indep zs → Indep (xs ++ ys) → Indep (xs ++ zs)
    indep_over [] i j = i
    indep_over (x ∷ xs) i (more n j) = more (λ s. n (span_over xs s)) (indep_over xs i j)

  -- What each of two lists spans modulo zs lies in the span of zs, if both together are independent modulo zs.
  pub span_apart : (xs ys zs : List X) {v : X} → Indep (xs ++ (ys ++ zs)) → Span G (xs ++ zs) v → Span G (ys ++ zs) v → Span G zs v
  span_apart xs ys zs {v} i s t = dec→stable (span_dec G zs v) not_outside
    where
      not_outside : ¬ ¬ Span G zs v
      not_outside n =
          let u = uses G xs zs v s n in
          first (indep_perm (pick_perm (ys ++ zs) u.pick) i)
          (at G (cancel G v u.one) (add G (right_of G u.others t) (span_middle G u.others ys zs u.remains)))

  -- Exchange: v comes in for b, which the expansion of v holds; independence and the span stay.
  pub record Exchanged (b v : X) (xs : List X) : Type 0 where
    pub indep : Indep (v ∷ xs)
    pub into : {w : X} → Span G (b ∷ xs) w → Span G (v ∷ xs) w
    pub back : {w : X} → Span G (v ∷ xs) w → Span G (b ∷ xs) w

  exchange_span : {b v w : X} {xs : List X} → Span G xs (v ⊕ b) → Span G (b ∷ xs) w → Span G (v ∷ xs) w
  exchange_span s (Span.skip t) = Span.skip t
  exchange_span s (Span.take t) = Span.take (at G (both G _ _ _) (add G t s))

  pub exchanged : {b v : X} {xs : List X} → Indep (b ∷ xs) → Span G xs (v ⊕ b) → Exchanged b v xs
  exchanged {b} {v} (more n i) s =
      record {
        indep = more (λ t. n (at G (cancel G v b) (add G t s))) i;
        into = λ t. exchange_span s t;
        back = λ t. exchange_span (at G (comm v b) s) t;
      }

  -- Extension: an independent list, extended by members of ys until it spans them.
  pub record Extended (xs ys : List X) : Type 0 where
    pub new : List X
    pub chosen : Part ys new
    pub indep : Indep (new ++ xs)
    pub covers : All (Span G (new ++ xs)) ys

  extend_by : {xs ys : List X} (y : X) (e : Extended xs ys) → Dec (Span G (e.new ++ xs) y) → Extended xs (y ∷ ys)
  extend_by y e (yes s) = record { new = e.new; chosen = Part.skip e.chosen; indep = e.indep; covers = All.cons s e.covers }
  extend_by y e (no n) =
      record {
        new = y ∷ e.new;
        chosen = Part.keep e.chosen;
        indep = more n e.indep;
        covers = All.cons (head G) (all_map (λ v s. Span.skip s) e.covers);
      }

  pub extend : {xs : List X} (ys : List X) → Indep xs → Extended xs ys
  extend {xs} [] i = record { new = []; chosen = Part.nil; indep = i; covers = All.nil }
  extend {xs} (y ∷ ys) i = let e = extend ys i in extend_by y e (span_dec G (e.new ++ xs) y)

  pub extended_spans : {xs ys : List X} {v : X} (e : Extended xs ys) → Span G ys v → Span G (e.new ++ xs) v
  extended_spans e s = through G e.covers s

  -- If xs lies in the span of ys, the extended list spans no more than ys.
  pub extended_inside : {xs ys : List X} {v : X} (e : Extended xs ys) → All (Span G ys) xs → Span G (e.new ++ xs) v → Span G ys v
  extended_inside e a s = through G (all_append (own_part G e.chosen) a) s

  -- A sum with x and a sum without it differ.
  kept_and_left : {x v w : X} {xs : List X} → ¬ Span G xs x → Span G xs v → Span G xs w → x ⊕ v ≡ w → ⊥
  kept_and_left {x} {v} n s t e = n (at G (ap (λ (u : X). u ⊕ v) (sym e) ∙ undo G x v) (add G t s))

  parts_same : {xs ys zs : List X} → Indep xs → Part xs ys → Part xs zs → Sum G ys ≡ Sum G zs → ys ≡ zs
  unfolding Sum
  parts_same i Part.nil Part.nil e = refl
  parts_same (more n i) (Part.keep {x = x} p) (Part.keep q) e =
      ap (λ (l : List X). x ∷ l) (parts_same i p q (sym (cancel G x _) ∙ ap (λ (u : X). x ⊕ u) e ∙ cancel G x _))
  parts_same (more n i) (Part.keep p) (Part.skip q) e = absurd (kept_and_left n (from_part G p) (from_part G q) e)
  parts_same (more n i) (Part.skip p) (Part.keep q) e = absurd (kept_and_left n (from_part G q) (from_part G p) (sym e))
  parts_same (more n i) (Part.skip p) (Part.skip q) e = parts_same i p q e

  -- The reader's independence.
  pub independent : {xs : List X} → Indep xs → Independent G xs
  unfolding Sum
  independent {xs} i = record { empty = λ ys p e. parts_same i p (part_none xs) e }

  pub by_recursion : (xs : List X) → Independent G xs → Indep xs
  unfolding Sum
  by_recursion [] h = none
  by_recursion (x ∷ xs) h =
      more
      (λ s. let (ys, p, e) = to_part G s in cons≢nil (h.empty (x ∷ ys) (Part.keep p) (differ G x (Sum G ys) (sym e))))
      (by_recursion xs (record { empty = λ ys p e. h.empty ys (Part.skip p) e }))

  -- Two parts of an independent list with one sum are the same part.
  pub part_unique : {xs ys zs : List X} → Independent G xs → Part xs ys → Part xs zs → Sum G ys ≡ Sum G zs → ys ≡ zs
  part_unique {xs} h p q e = parts_same (by_recursion xs h) p q e
