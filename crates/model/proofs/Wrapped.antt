-- Tables of words: sums and products taken modulo w leave what the exact tables hold, modulo w, and so the exact entries where these fit.
use mathlib.Core.Path.{◌≡◌, refl, sym, ap, ap₂, ◌∙◌, subst}
use mathlib.Core.List.{List, [], ◌∷◌}
use Prim.Native.Nat.{ℕ, ◌+◌, ◌*◌, ◌%◌, ◌/◌, ◌<◌}
use native.Mathlib.Decide.{ℕ_discrete}
use native.Mathlib.Nat.{mod-eq_of_lt, add-mod, add-mul, mul_assoc, mul_comm, mod-add-div, add-mul-mod_self_left}
use lib.ListN.{length, get_or, set}
use lib.Seq.{get_or-set_same, get_or-set_other}
use Rattle.model.specs.Fold.{through}

-- A product modulo w, one factor taken modulo w before.
mul_mod_left' : (a b w : ℕ) → (a % w) * b % w ≡ a * b % w
mul_mod_left' a b w =
    sym (add-mul-mod_self_left ((a % w) * b) w (a / w * b))
    ∙ ap (λ (x : ℕ). ((a % w) * b + x) % w) (sym (mul_assoc w (a / w) b))
    ∙ ap (λ (x : ℕ). x % w) (sym (add-mul (a % w) (w * (a / w)) b))
    ∙ ap (λ (x : ℕ). x * b % w) (mod-add-div a w)

-- .. or both.
pub mul_mod_both : (a b w : ℕ) → (a % w) * (b % w) % w ≡ a * b % w
mul_mod_both a b w =
    mul_mod_left' a (b % w) w ∙ ap (λ (x : ℕ). x % w) (mul_comm a (b % w)) ∙ mul_mod_left' b a w ∙ ap (λ (x : ℕ). x % w) (mul_comm b a)

module _ (w : ℕ) where
  -- Each place of the words is that of the exact table, modulo w.
  pub record Wraps (words exact : List ℕ) : Type 0 where
    pub places : (t : ℕ) → get_or words t 0 ≡ get_or exact t 0 % w

  -- Writing keeps it so.
  pub wraps_set : {words exact : List ℕ} (t a b : ℕ) → t < length words → t < length exact → a ≡ b % w → Wraps words exact
      → Wraps (set words t a) (set exact t b)
  wraps_set {words} {exact} t a b h g same wraps = record { places = λ s. go s (ℕ_discrete s t) }
    where
      go : (s : ℕ) → Dec (s ≡ t) → get_or (set words t a) s 0 ≡ get_or (set exact t b) s 0 % w
      go s (yes e) =
          subst (λ (y : ℕ). get_or (set words t a) y 0 ≡ get_or (set exact t b) y 0 % w) (sym e)
          (get_or-set_same words t a 0 h ∙ same ∙ ap (λ (x : ℕ). x % w) (sym (get_or-set_same exact t b 0 g)))
      go s (no other) =
          get_or-set_other words t s a 0 other ∙ wraps.places s ∙ ap (λ (x : ℕ). x % w) (sym (get_or-set_other exact t s b 0 other))

  module _ {words exact : List ℕ} (wraps : Wraps words exact) where
    -- A sum of places that wraps is the exact sum, modulo w.
    pub wraps_sum : (xs : List ℕ) (acc : ℕ)
        → through (λ s acc. (acc + get_or words s 0) % w) xs (acc % w) ≡ through (λ s acc. acc + get_or exact s 0) xs acc % w
    unfolding through
    wraps_sum [] acc = refl
    wraps_sum (x ∷ xs) acc =
        ap (λ (y : ℕ). through (λ s acc. (acc + get_or words s 0) % w) xs y)
        (ap (λ (y : ℕ). (acc % w + y) % w) (wraps.places x) ∙ sym (add-mod acc (get_or exact x 0) w))
        ∙ wraps_sum xs (acc + get_or exact x 0)

    -- An exact place that fits is the word.
    pub wraps_fits : (t : ℕ) → get_or exact t 0 < w → get_or words t 0 ≡ get_or exact t 0
    wraps_fits t fits = wraps.places t ∙ mod-eq_of_lt fits

  -- A product of places that wraps is the exact product, modulo w.
  pub wraps_product : {up down exact_up exact_down : List ℕ} → Wraps up exact_up → Wraps down exact_down → (t s : ℕ)
      → get_or up t 0 * get_or down s 0 % w ≡ get_or exact_up t 0 * get_or exact_down s 0 % w
  wraps_product {exact_up = exact_up} {exact_down = exact_down} u v t s =
      ap₂ (λ (x y : ℕ). x * y % w) (u.places t) (v.places s) ∙ mul_mod_both (get_or exact_up t 0) (get_or exact_down s 0) w
