-- Steinitz: an independent list in the span of ys is no longer than ys. So two bases of one space are equally long.
use mathlib.Core.Path.{◌≡◌, refl, sym, ap, subst}
use mathlib.Core.List.{List, [], ◌∷◌, ◌++◌}
use mathlib.Core.HLevel.{dec→stable}
use Prim.Native.Nat.{suc, ◌+◌, ◌≤◌}
use native.Mathlib.Omega.{arith}
use native.Mathlib.Nat.{le_antisymm}
use lib.ListN.{length, length-append}
use Rattle.spans.specs.Group.{Space}
use Rattle.spans.specs.Basis.{All, Spans, Basis, Subgroup}
use Rattle.spans.proofs.Xor.{undo}
use Rattle.spans.proofs.Lists.{all_map, all_append, perm_sym, perm_front}
use Rattle.spans.proofs.Span.{Span, at, head, span_dec, through, own, left_of, right_of, span_perm, to_part, from_part}
use Rattle.spans.proofs.Indep.{Indep, by_recursion}

module _ {X : Type 0} (G : Space X) where
  open G use {◌⊕◌, comm}

  -- One element of zs leaves as x comes in.
  record Out (zs xs : List X) (x : X) : Type 0 where
    left_over : List X
    shorter : length zs ≡ suc (length left_over)
    covers : All (Span G (left_over ++ (x ∷ xs))) (zs ++ xs)

  out : (zs xs : List X) (x : X) → Span G (zs ++ xs) x → ¬ Span G xs x → Out zs xs x
  out [] xs x s n = absurd (n s)
  out (z ∷ zs) xs x (Span.skip s) n =
      let r = out zs xs x s n in
      record { left_over = z ∷ r.left_over; shorter = ap suc r.shorter; covers = All.cons (head G) (all_map (λ v t. Span.skip t) r.covers) }
  out (z ∷ zs) xs x (Span.take s) n =
      let p = perm_sym (perm_front zs x xs) in
      record {
        left_over = zs;
        shorter = refl;
        covers = All.cons (span_perm G p (Span.take (at G (comm _ _) s))) (all_map (λ v t. span_perm G p (Span.skip t)) (own G (zs ++ xs)));
      }

  -- xs stands in for as many elements of ys.
  record Stands (xs ys : List X) : Type 0 where
    left_over : List X
    count : length left_over + length xs ≡ length ys
    covers : All (Span G (left_over ++ xs)) ys

  stand_in : {xs ys : List X} → Indep G xs → All (Span G ys) xs → Stands xs ys
  stand_in {ys} Indep.none All.nil = record { left_over = ys; count = omega arith; covers = all_map (λ v s. left_of G [] s) (own G ys) }
  stand_in {ys} (Indep.more {x = x} {xs = xs} n i) (All.cons a r) =
      let t = stand_in i r in
      let u = out t.left_over xs x (through G t.covers a) n in
      record {
        left_over = u.left_over;
        count = omega (arith, u.shorter, t.count);
        covers = all_map (λ v s. through G u.covers s) t.covers;
      }

  pub steinitz : {xs ys : List X} → Indep G xs → All (Span G ys) xs → length xs ≤ length ys
  steinitz i a = let t = stand_in i a in omega (arith, t.count)

  -- Modulo zs.
  pub steinitz_over : (xs ys zs : List X) → Indep G (xs ++ zs) → All (Span G (ys ++ zs)) xs → length xs ≤ length ys
  steinitz_over xs ys zs i a =
      let h = steinitz i (all_append a (all_map (λ v s. right_of G ys s) (own G zs))) in
      omega (arith, length-append xs zs, length-append ys zs)

  -- An independent list inside the span of ys and as long as ys spans all that ys spans.
  pub fills : {xs ys : List X} {v : X} → Indep G xs → All (Span G ys) xs → length xs ≡ length ys → Span G ys v → Span G xs v
  fills {xs} {ys} {v} i a e s = dec→stable (span_dec G xs v) (λ n. let h = steinitz (Indep.more n i) (All.cons s a) in omega arith)

  -- The reader's spanning, both ways.
  pub spanned : {W : X → Type 0} {B : List X} → Spans G W B → (s : X) → W s → Span G B s
  spanned {B} h s w = let (ys, p, e) = h.part s w in at G e (from_part G p)

  pub spans : {W : X → Type 0} {B : List X} → ((s : X) → W s → Span G B s) → Spans G W B
  spans h = record { part = λ s w. to_part G (h s w) }

  pub same_length : {W : X → Type 0} {B C : List X} → Basis G W B → Basis G W C → length B ≡ length C
  same_length {B} {C} b c =
      le_antisymm
      (steinitz (by_recursion G B b.independent) (all_map (spanned c.spans) b.inside))
      (steinitz (by_recursion G C c.independent) (all_map (spanned b.spans) c.inside))

  pub span_inside : {W : X → Type 0} {xs : List X} {v : X} → Subgroup G W → All W xs → Span G xs v → W v
  span_inside {W} c All.nil (Span.none e) = subst W (sym e) c.zero
  span_inside {W} c (All.cons {x = x} a r) (Span.skip s) = span_inside c r s
  span_inside {W} c (All.cons {x = x} a r) (Span.take {v = v} s) = subst W (undo G v x) (c.add (v ⊕ x) x (span_inside c r s) a)
