-- Two spaces that are alike: additive maps there and back that keep W and lengths carry bases, minimum bases and what is no sum of shorter ones.
use mathlib.Core.Path.{◌≡◌, refl, sym, ◌∙◌, ap, ap₂, subst, subst₂}
use mathlib.Core.List.{List, [], ◌∷◌, ◌++◌, map, map-append}
use Prim.Native.Nat.{ℕ, ◌+◌, ◌<◌}
use native.Mathlib.Omega.{arith}
use Rattle.spans.specs.Group.{Space}
use Rattle.spans.specs.Basis.{Part, All, Holding, Sum, Independent, Spans, Basis}
use Rattle.spans.specs.Graded.{total, Minimum}
use Rattle.spans.proofs.Lists.{part_all}
use Rattle.spans.proofs.Short.{Short, Relevant}

-- Maps of the elements of W to those of W' and back, that keep sums and lengths.
pub record Alike {X Y : Type 0} (G : Space X) (H : Space Y) (ℓ : X → ℕ) (ℓ' : Y → ℕ) (W : X → Type 0) (W' : Y → Type 0) : Type 0 where
  pub to : X → Y
  pub back : Y → X
  pub to_add : (x y : X) → to (Space.◌⊕◌ G x y) ≡ Space.◌⊕◌ H (to x) (to y)
  pub back_add : (x y : Y) → back (Space.◌⊕◌ H x y) ≡ Space.◌⊕◌ G (back x) (back y)
  pub to_inside : (x : X) → W x → W' (to x)
  pub back_inside : (y : Y) → W' y → W (back y)
  pub back_to : (x : X) → W x → back (to x) ≡ x
  pub to_back : (y : Y) → W' y → to (back y) ≡ y
  pub to_length : (x : X) → W x → ℓ' (to x) ≡ ℓ x

module _ {X Y : Type 0} {G : Space X} {H : Space Y} {ℓ : X → ℕ} {ℓ' : Y → ℕ} {W : X → Type 0} {W' : Y → Type 0} where
  -- The maps the other way round.
  abbrev pub alike_sym : Alike G H ℓ ℓ' W W' → Alike H G ℓ' ℓ W' W
  alike_sym f =
      record {
        to = f.back;
        back = f.to;
        to_add = f.back_add;
        back_add = f.to_add;
        to_inside = f.back_inside;
        back_inside = f.to_inside;
        back_to = f.to_back;
        to_back = f.back_to;
        to_length = λ y w. sym (f.to_length (f.back y) (f.back_inside y w)) ∙ ap ℓ' (f.to_back y w);
      }

  module _ (f : Alike G H ℓ ℓ' W W') where
    open G use {o, ◌⊕◌, left}

    -- The empty set goes to the empty set.
    pub to_zero : f.to o ≡ Space.o H
    to_zero =
        sym (double (f.to o) (sym (ap f.to (left o)) ∙ f.to_add o o))
      where
        double : (y : Y) → y ≡ Space.◌⊕◌ H y y → Space.o H ≡ y
        double y e = sym (Space.self H y) ∙ sym e

    -- No two elements of W go to one.
    pub to_injective : (x y : X) → W x → W y → f.to x ≡ f.to y → x ≡ y
    to_injective x y w v e = sym (f.back_to x w) ∙ ap f.back e ∙ f.back_to y v

    -- The sum of the images is the image of the sum.
    pub sum_map : (xs : List X) → Sum H (map f.to xs) ≡ f.to (Sum G xs)
    unfolding Sum
    sum_map [] = sym to_zero
    sum_map (x ∷ xs) = ap (Space.◌⊕◌ H (f.to x)) (sum_map xs) ∙ sym (f.to_add x (Sum G xs))

    -- A part of the images is the images of a part.
    pub map_part : (xs : List X) {ys : List Y} → Part (map f.to xs) ys → (zs : List X) × Part xs zs × (ys ≡ map f.to zs)
    map_part [] Part.nil = ([], Part.nil, refl)
    map_part (x ∷ xs) (Part.keep p) = let (zs, q, e) = map_part xs p in (x ∷ zs, Part.keep q, ap (λ (l : List Y). f.to x ∷ l) e)
    map_part (x ∷ xs) (Part.skip p) = let (zs, q, e) = map_part xs p in (zs, Part.skip q, e)

    -- The images of a part are a part of the images.
    pub part_map : {xs zs : List X} → Part xs zs → Part (map f.to xs) (map f.to zs)
    part_map Part.nil = Part.nil
    part_map (Part.keep p) = Part.keep (part_map p)
    part_map (Part.skip p) = Part.skip (part_map p)

    -- The images are in W'.
    pub all_to : {xs : List X} → All W xs → All W' (map f.to xs)
    all_to All.nil = All.nil
    all_to (All.cons {x = x} w a) = All.cons (f.to_inside x w) (all_to a)

    -- There and back.
    pub map_back_to : {xs : List X} → All W xs → map f.back (map f.to xs) ≡ xs
    map_back_to All.nil = refl
    map_back_to (All.cons {x = x} w a) = ap₂ ◌∷◌ (f.back_to x w) (map_back_to a)

    -- The total length is kept.
    pub total_map : {xs : List X} → All W xs → total ℓ' (map f.to xs) ≡ total ℓ xs
    unfolding total
    total_map All.nil = refl
    total_map (All.cons {x = x} w a) = ap₂ ◌+◌ (f.to_length x w) (total_map a)

    -- Shorter elements of W go to shorter elements of W'.
    pub all_short : {k : ℕ} {xs : List X} → All (λ x. W x × (ℓ x < k)) xs → All (λ y. W' y × (ℓ' y < k)) (map f.to xs)
    all_short All.nil = All.nil
    all_short {k} (All.cons {x = x} w a) =
        let l : ℓ' (f.to x) < k = omega (arith, f.to_length x w.0, w.1) in All.cons (f.to_inside x w.0, l) (all_short a)

    -- As many images have K' as elements have K, where K is K' of the image.
    pub holding_map : {K : X → Type 0} {K' : Y → Type 0} {xs : List X} {n : ℕ} → All W xs → ((x : X) → W x → K x → K' (f.to x))
        → ((x : X) → W x → K' (f.to x) → K x) → Holding K xs n → Holding K' (map f.to xs) n
    holding_map All.nil g h Holding.none = Holding.none
    holding_map (All.cons {x = x} w a) g h (Holding.inn k r) = Holding.inn (g x w k) (holding_map a g h r)
    holding_map (All.cons {x = x} w a) g h (Holding.out k r) = Holding.out (λ j. k (h x w j)) (holding_map a g h r)

module _ {X Y : Type 0} {G : Space X} {H : Space Y} {ℓ : X → ℕ} {ℓ' : Y → ℕ} {W : X → Type 0} {W' : Y → Type 0} (f : Alike G H ℓ ℓ' W W') where
  open G use {o}

  -- Elements of W whose images sum to the empty set sum to the empty set.
  sum_zero_back : {zs : List X} → All W zs → Sum H (map f.to zs) ≡ Space.o H → Sum G zs ≡ o
  sum_zero_back {zs} a e =
      ap (Sum G) (sym (map_back_to f a)) ∙ sum_map (alike_sym f) (map f.to zs) ∙ ap f.back e ∙ to_zero (alike_sym f)

  -- The images of independent elements of W are independent.
  pub independent_alike : {B : List X} → All W B → Independent G B → Independent H (map f.to B)
  independent_alike {B} a i = record { empty = λ ys p e. let (zs, q, d) = map_part f B p in empty zs q d e }
    where
      empty : (zs : List X) {ys : List Y} → Part B zs → ys ≡ map f.to zs → Sum H ys ≡ Space.o H → ys ≡ []
      empty zs q d e = d ∙ ap (map f.to) (i.empty zs q (sum_zero_back (part_all q a) (ap (Sum H) (sym d) ∙ e)))

  -- If B spans W, then the images span W'.
  pub spans_alike : {B : List X} → Spans G W B → Spans H W' (map f.to B)
  spans_alike {B} s =
      record {
        part = λ y w.
            let (zs, p, e) = s.part (f.back y) (f.back_inside y w) in
            (map f.to zs, part_map f p, sum_map f zs ∙ ap f.to e ∙ f.to_back y w);
      }

  -- The images of a basis of W are a basis of W'.
  pub basis_alike : {B : List X} → Basis G W B → Basis H W' (map f.to B)
  basis_alike b =
      record { inside = all_to f b.inside; independent = independent_alike b.inside b.independent; spans = spans_alike b.spans }

  -- A sum of elements of W shorter than k goes to such a sum.
  pub short_alike : {k : ℕ} {v : X} → Short G ℓ W k v → Short H ℓ' W' k (f.to v)
  short_alike s = record { parts = map f.to s.parts; short = all_short f s.short; sum = sum_map f s.parts ∙ ap f.to s.sum }

module _ {X Y : Type 0} {G : Space X} {H : Space Y} {ℓ : X → ℕ} {ℓ' : Y → ℕ} {W : X → Type 0} {W' : Y → Type 0} (f : Alike G H ℓ ℓ' W W') where
  -- The images of a minimum basis are a minimum basis.
  pub minimum_alike : {B : List X} → Minimum G ℓ W B → Minimum H ℓ' W' (map f.to B)
  minimum_alike {B} m =
      record {
        basis = basis_alike f m.basis;
        least = λ C b.
            let n = m.least (map f.back C) (basis_alike (alike_sym f) b) in
            omega (arith, n, total_map f m.basis.inside, total_map (alike_sym f) b.inside);
      }

  -- The image of what is no sum of shorter elements is no sum of shorter elements.
  pub relevant_alike : {x : X} → Relevant G ℓ W x → Relevant H ℓ' W' (f.to x)
  relevant_alike {x} r =
      record {
        inside = f.to_inside x r.inside;
        alone = λ s.
            let t = short_alike (alike_sym f) s in
            r.alone (subst₂ (Short G ℓ W) (f.to_length x r.inside) (f.back_to x r.inside) t);
      }

  -- What stands in a minimum basis goes to what stands there.
  pub middle_alike : (before : List X) (x : X) (after : List X) → Minimum G ℓ W (before ++ (x ∷ after))
      → Minimum H ℓ' W' (map f.to before ++ (f.to x ∷ map f.to after))
  middle_alike before x after m = subst (Minimum H ℓ' W') (map-append f.to before (x ∷ after)) (minimum_alike m)
