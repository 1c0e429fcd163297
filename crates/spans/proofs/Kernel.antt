-- Rank and nullity: a function that keeps sums cuts an independent list into a part with independent images and a basis of its kernel.
use mathlib.Core.Path.{◌≡◌, sym, ◌∙◌, ap}
use mathlib.Core.List.{List, [], ◌∷◌, map}
use Prim.Native.Nat.{◌+◌}
use native.Mathlib.Omega.{arith}
use lib.ListN.{length}
use Rattle.spans.specs.Group.{Space}
use Rattle.spans.specs.Basis.{Part, All}
use Rattle.spans.proofs.Xor.{undo, zeros, differ}
use Rattle.spans.proofs.Lists.{all_map}
use Rattle.spans.proofs.Span.{Span, at, null, zero, head, add, span_dec, through, mono}
use Rattle.spans.proofs.Indep.{Indep}

module _ {X Y : Type 0} (G : Space X) (H : Space Y) (f : X → Y) where
  open G use {o, ◌⊕◌, assoc, self}
  open H use {o as o', ◌⊕◌ as ◌⊞◌, left as left', self as self'}

  -- A part of xs with independent images that span the image, and a basis of what f takes to zero in the span of xs.
  pub record RankNullity (xs : List X) : Type 0 where
    pub chosen : List X
    pub kernel : List X
    pub part : Part xs chosen
    pub count : length kernel + length chosen ≡ length xs
    pub image_indep : Indep H (map f chosen)
    pub image_spans : (v : X) → Span G xs v → Span H (map f chosen) (f v)
    pub kernel_indep : Indep G kernel
    pub kernel_inside : All (λ v. Span G xs v × (f v ≡ o')) kernel
    pub kernel_spans : (v : X) → Span G xs v → f v ≡ o' → Span G kernel v

  module _ (linear : (x y : X) → f (x ⊕ y) ≡ f x ⊞ f y) where
    image_zero : f o ≡ o'
    image_zero = ap f (sym (self o)) ∙ linear o o ∙ self' (f o)

    -- An element with a given image, over a list whose images span it.
    lift : (xs : List X) {y : Y} → Span H (map f xs) y → (x : X) × Span G xs x × (f x ≡ y)
    lift [] (Span.none e) = (o, zero G [], image_zero ∙ sym e)
    lift (x ∷ xs) (Span.skip s) = let (w, t, e) = lift xs s in (w, Span.skip t, e)
    lift (x ∷ xs) (Span.take {v = y} s) =
        let (w, t, e) = lift xs s in
        (w ⊕ x, Span.take (at G (sym (undo G w x)) t), linear w x ∙ ap (λ (u : Y). u ⊞ f x) e ∙ undo H y (f x))

    minus : (v x : X) → f (v ⊕ x) ⊞ f x ≡ f v
    minus v x = ap (λ (u : Y). u ⊞ f x) (linear v x) ∙ undo H (f v) (f x)

    image_more : {x : X} {xs : List X} {ys : List Y} → ((v : X) → Span G xs v → Span H ys (f v)) → Span H ys (f x)
        → (v : X) → Span G (x ∷ xs) v → Span H ys (f v)
    image_more h a v (Span.skip s) = h v s
    image_more {x} h a v (Span.take s) = at H (minus v x) (add H (h (v ⊕ x) s) a)

    same_image : (x w : X) → f w ≡ f x → f (x ⊕ w) ≡ o'
    same_image x w e = linear x w ∙ differ H (f x) (f w) (sym e)

    module _ {xs : List X} {x : X} (r : RankNullity xs) (n : ¬ Span G xs x) where
      module _ (w : X) (before : Span G xs w) (e : f w ≡ f x) where
        kernel_more : (v : X) → Span G (x ∷ xs) v → f v ≡ o' → Span G ((x ⊕ w) ∷ r.kernel) v
        kernel_more v (Span.skip s) z = Span.skip (r.kernel_spans v s z)
        kernel_more v (Span.take s) z =
            Span.take
            (r.kernel_spans (v ⊕ (x ⊕ w)) (at G (assoc v x w) (add G s before)) (linear v (x ⊕ w) ∙ zeros H _ _ z (same_image x w e)))

        kernel_new : ¬ Span G r.kernel (x ⊕ w)
        kernel_new s = n (at G (undo G x w) (add G (through G (all_map (λ v p. p.0) r.kernel_inside) s) before))

        kernel_head : Span G (x ∷ xs) (x ⊕ w)
        kernel_head = add G (head G) (Span.skip before)

      -- The image of x is spanned already: x and what has the same image sum to one more element of the kernel.
      with_kernel : Span H (map f r.chosen) (f x) → RankNullity (x ∷ xs)
      with_kernel s =
          let (w, t, e) = lift r.chosen s in
          let before : Span G xs w = mono G r.part t in
          record {
            chosen = r.chosen;
            kernel = (x ⊕ w) ∷ r.kernel;
            part = Part.skip r.part;
            count = omega (arith, r.count);
            image_indep = r.image_indep;
            image_spans = image_more r.image_spans s;
            kernel_indep = Indep.more (kernel_new w before e) r.kernel_indep;
            kernel_inside = All.cons (kernel_head w before e, same_image x w e) (all_map (λ v p. (Span.skip p.0, p.1)) r.kernel_inside);
            kernel_spans = kernel_more w before e;
          }

      kernel_same : ¬ Span H (map f r.chosen) (f x) → (v : X) → Span G (x ∷ xs) v → f v ≡ o' → Span G r.kernel v
      kernel_same m v (Span.skip s) z = r.kernel_spans v s z
      kernel_same m v (Span.take s) z = absurd (m (at H (linear v x ∙ ap (λ (u : Y). u ⊞ f x) z ∙ left' (f x)) (r.image_spans (v ⊕ x) s)))

      -- The image of x is new: x is chosen.
      with_image : ¬ Span H (map f r.chosen) (f x) → RankNullity (x ∷ xs)
      with_image m =
          record {
            chosen = x ∷ r.chosen;
            kernel = r.kernel;
            part = Part.keep r.part;
            count = omega (arith, r.count);
            image_indep = Indep.more m r.image_indep;
            image_spans = image_more (λ v s. Span.skip (r.image_spans v s)) (head H);
            kernel_indep = r.kernel_indep;
            kernel_inside = all_map (λ v p. (Span.skip p.0, p.1)) r.kernel_inside;
            kernel_spans = kernel_same m;
          }

      with_one : Dec (Span H (map f r.chosen) (f x)) → RankNullity (x ∷ xs)
      with_one (yes s) = with_kernel s
      with_one (no m) = with_image m

    image_none : (v : X) → Span G [] v → Span H [] (f v)
    image_none v (Span.none e) = null H (ap f e ∙ image_zero)

    -- The length of an independent list is the rank of f on its span and the dimension of the kernel there.
    pub rank_nullity : {xs : List X} → Indep G xs → RankNullity xs
    rank_nullity Indep.none =
        record {
          chosen = [];
          kernel = [];
          part = Part.nil;
          count = omega arith;
          image_indep = Indep.none;
          image_spans = image_none;
          kernel_indep = Indep.none;
          kernel_inside = All.nil;
          kernel_spans = λ v s z. s;
        }
    rank_nullity (Indep.more {x = x} n i) =
        let r = rank_nullity i in
        with_one r n (span_dec H (map f r.chosen) (f x))
