-- The span of a list, as a data type: v is in Span xs if v is the sum of a part of xs. It is decidable.
use mathlib.Core.Path.{◌≡◌, refl, sym, ◌∙◌, ap, subst}
use mathlib.Core.List.{List, [], ◌∷◌, ◌++◌}
use Rattle.spans.specs.Group.{Space}
use Rattle.spans.specs.Basis.{Part, All, Sum}
use Rattle.spans.proofs.Xor.{right, left_comm, right_comm, undo, undo_left, both, zeros}
use Rattle.spans.proofs.Lists.{part_refl, part_all, all_map, Perm, Pick, perm_blocks}

module _ {X : Type 0} (G : Space X) where
  open G use {o, ◌⊕◌, comm, assoc, self, dec}

  -- v is the sum of some members of the list: each is left out or taken.
  pub data Span : List X → X → Type 0 where
    none : {v : X} → v ≡ o → Span [] v
    skip : {x v : X} {xs : List X} → Span xs v → Span (x ∷ xs) v
    take : {x v : X} {xs : List X} → Span xs (v ⊕ x) → Span (x ∷ xs) v

  pub at : {xs : List X} {v w : X} → v ≡ w → Span xs v → Span xs w
  at {xs} e s = subst (λ (u : X). Span xs u) e s

  -- `take` and `none` as functions: a tactic in an argument sees the expected type.
  pub pick : {x v w : X} {xs : List X} → Span xs w → w ≡ v ⊕ x → Span (x ∷ xs) v
  pick s e = take (at e s)

  pub null : {v : X} → v ≡ o → Span [] v
  null p = none p

  pub zero : (xs : List X) → Span xs o
  zero [] = none refl
  zero (x ∷ xs) = skip (zero xs)

  pub head : {x : X} {xs : List X} → Span (x ∷ xs) x
  head {x} {xs} = pick (zero xs) (sym (self x))

  pub add : {xs : List X} {v w : X} → Span xs v → Span xs w → Span xs (v ⊕ w)
  add (none p) (none q) = none (zeros G _ _ p q)
  add (skip s) (skip t) = skip (add s t)
  add (skip s) (take t) = take (at (sym (assoc _ _ _)) (add s t))
  add (take s) (skip t) = take (at (right_comm G _ _ _) (add s t))
  add (take s) (take t) = skip (at (both G _ _ _) (add s t))

  unfoldable pub dec_none : {v : X} → Dec (v ≡ o) → Dec (Span [] v)
  dec_none (yes p) = yes (none p)
  dec_none (no n) = no λ s. out s n
    where
      out : {v : X} → Span [] v → ¬ ¬ (v ≡ o)
      out (none p) n = n p

  unfoldable pub dec_more : {x v : X} {xs : List X} → Dec (Span xs v) → Dec (Span xs (v ⊕ x)) → Dec (Span (x ∷ xs) v)
  dec_more (yes s) d = yes (skip s)
  dec_more (no n) (yes t) = yes (take t)
  dec_more {x} {v} {xs} (no n) (no m) = no λ s. out s n m
    where
      out : {x v : X} {xs : List X} → Span (x ∷ xs) v → ¬ Span xs v → ¬ ¬ Span xs (v ⊕ x)
      out (skip s) n m = n s
      out (take s) n m = m s

  unfoldable pub span_dec : (xs : List X) (v : X) → Dec (Span xs v)
  span_dec [] v = dec_none (dec v o)
  span_dec (x ∷ xs) v = dec_more (span_dec xs v) (span_dec xs (v ⊕ x))

  -- What lies in the span of a list that lies in the span of ys lies in the span of ys.
  pub through : {ys xs : List X} {v : X} → All (Span ys) xs → Span xs v → Span ys v
  through {ys} All.nil (none p) = at (sym p) (zero ys)
  through (All.cons a r) (skip s) = through r s
  through (All.cons a r) (take s) = at (undo G _ _) (add (through r s) a)

  pub own : (xs : List X) → All (Span xs) xs
  own [] = All.nil
  own (x ∷ xs) = All.cons head (all_map (λ v s. skip s) (own xs))

  pub own_part : {xs ys : List X} → Part xs ys → All (Span xs) ys
  own_part {xs} p = part_all p (own xs)

  pub mono : {xs ys : List X} {v : X} → Part xs ys → Span ys v → Span xs v
  mono p s = through (own_part p) s

  pub right_of : (xs : List X) {ys : List X} {v : X} → Span ys v → Span (xs ++ ys) v
  right_of [] s = s
  right_of (x ∷ xs) s = skip (right_of xs s)

  pub left_of : {xs : List X} (ys : List X) {v : X} → Span xs v → Span (xs ++ ys) v
  left_of ys (none p) = at (sym p) (zero ys)
  left_of ys (skip s) = skip (left_of ys s)
  left_of ys (take s) = take (left_of ys s)

  pub span_perm : {xs ys : List X} {v : X} → Perm xs ys → Span xs v → Span ys v
  span_perm Perm.nil s = s
  span_perm (Perm.cons p) (skip s) = skip (span_perm p s)
  span_perm (Perm.cons p) (take s) = take (span_perm p s)
  span_perm Perm.swap (skip (skip s)) = skip (skip s)
  span_perm Perm.swap (skip (take s)) = take (skip s)
  span_perm Perm.swap (take (skip s)) = skip (take s)
  span_perm Perm.swap (take (take s)) = take (take (at (right_comm G _ _ _) s))
  span_perm (Perm.trans p q) s = span_perm q (span_perm p s)

  pub span_middle : (xs ys zs : List X) {v : X} → Span (xs ++ zs) v → Span (xs ++ (ys ++ zs)) v
  span_middle xs ys zs s = span_perm (perm_blocks ys xs zs) (right_of ys s)

  pub exchange : {x v : X} {xs : List X} → Span (x ∷ xs) v → ¬ Span xs v → Span (v ∷ xs) x
  exchange (skip s) n = absurd (n s)
  exchange (take s) n = take (at (comm _ _) s)

  -- A sum over two lists is a sum of two.
  pub halves : (xs ys : List X) {v : X} → Span (xs ++ ys) v → (w : X) × Span xs w × Span ys (v ⊕ w)
  halves [] ys s = (o, none refl, at (sym (right G _)) s)
  halves (x ∷ xs) ys (skip s) = let (w, a, b) = halves xs ys s in (w, skip a, b)
  halves (x ∷ xs) ys (take {v = v} s) =
      let (w, a, b) = halves xs ys s in
      (w ⊕ x, take (at (sym (undo G w x)) a), at (assoc v x w ∙ ap (λ (u : X). v ⊕ u) (comm x w)) b)

  -- The span is the sums of the parts.
  pub to_part : {xs : List X} {v : X} → Span xs v → (ys : List X) × Part xs ys × (Sum G ys ≡ v)
  unfolding Sum
  to_part (none p) = ([], Part.nil, sym p)
  to_part (skip s) = let (ys, p, e) = to_part s in (ys, Part.skip p, e)
  to_part (take {x = x} {v = v} s) =
      let (ys, p, e) = to_part s in (x ∷ ys, Part.keep p, ap (λ (u : X). x ⊕ u) e ∙ comm x (v ⊕ x) ∙ undo G v x)

  pub from_part : {xs ys : List X} → Part xs ys → Span xs (Sum G ys)
  unfolding Sum
  from_part Part.nil = none refl
  from_part (Part.keep p) = pick (from_part p) (sym (undo_left G _ _))
  from_part (Part.skip p) = skip (from_part p)

  pub sum_in : (xs : List X) → Span xs (Sum G xs)
  sum_in xs = from_part (part_refl xs)

  pub pick_sum : {xs ys : List X} {c : X} → Pick xs c ys → Sum G xs ≡ c ⊕ Sum G ys
  unfolding Sum
  pick_sum Pick.here = refl
  pick_sum (Pick.there {x = x} {c = c} {ys = ys} p) = ap (λ (u : X). x ⊕ u) (pick_sum p) ∙ left_comm G x c (Sum G ys)

  -- An element of the span of two lists, written over the first.
  pub record Expansion (xs ys : List X) (v : X) : Type 0 where
    pub used : List X
    pub part : Part xs used
    pub remains : Span ys (v ⊕ Sum G used)

  pub expand : (xs ys : List X) {v : X} → Span (xs ++ ys) v → Expansion xs ys v
  expand xs ys {v} s =
      let (w, a, b) = halves xs ys s in
      let (us, p, e) = to_part a in
      record { used = us; part = p; remains = at (ap (λ (u : X). v ⊕ u) (sym e)) b }

  -- A member of xs that v uses, and what remains without it.
  pub record Uses (xs ys : List X) (v : X) : Type 0 where
    pub one : X
    pub others : List X
    pub pick : Pick xs one others
    pub remains : Span (others ++ ys) (v ⊕ one)

  -- An element of the span of two lists that the second does not span uses a member of the first.
  pub uses : (xs ys : List X) (v : X) → Span (xs ++ ys) v → ¬ Span ys v → Uses xs ys v
  uses [] ys v s n = absurd (n s)
  uses (x ∷ xs) ys v (skip s) n =
      let r = uses xs ys v s n in
      record { one = r.one; others = x ∷ r.others; pick = Pick.there r.pick; remains = skip r.remains }
  uses (x ∷ xs) ys v (take s) n = record { one = x; others = xs; pick = Pick.here; remains = s }
