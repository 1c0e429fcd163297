-- The candidates that the loops under one top atom seek, as one list: which they are, and that they ascend.
use mathlib.Core.Path.{◌≡◌, refl, ap, ◌∙◌}
use mathlib.Core.Bool.{Bool, true, false, cond}
use mathlib.Core.List.{List, [], ◌∷◌}
use Prim.Native.Nat.{ℕ, ◌-◌, ◌/◌, ◌%◌, ◌<◌}
use native.Mathlib.Omega.{arith}
use borrow.Author.Tests.{eqb-true, eqb-false}
use lib.Bits.{bit_and}
use lib.Dec.{eqb}
use lib.ListN.{get_or}
use Rattle.spans.specs.Elements.{◌∈◌, first, later}
use Rattle.bondset.specs.Sets.{bit, members}
use Rattle.cycles.specs.Family.{Family}
use Rattle.cycles.specs.Rows.{key, Less}
use Rattle.model.specs.Fold.{through}
use Rattle.model.specs.Net.{Net, nbrs}
use Rattle.model.specs.Loops.{above, fam, partners, odd_loop, tip_loop, even_loop, seek}
use Rattle.model.specs.Candidates.{pairs, odds, tips, evens, found}
use Rattle.model.proofs.ItemsLists.{through_each, ∈_each, from_each, Sorted, sorted_each}
use Rattle.bondset.proofs.Members.{members_climb, mem_of_bit, bit_of_mem}

-- The steps from p and q to the top, for length k.
abbrev pub depth : ℕ → ℕ
depth k = (k - 1) / 2

-- A candidate of length k with top atom r.
pub data Of (k r : ℕ) : Family → Type 0 where
  of : {x p q : ℕ} → Of k r (fam k r x p q)

-- The candidates of a lower top atom come first.
pub less_top : {k a b : ℕ} {f g : Family} → a < b → Of k a f → Of k b g → Less (key f) (key g)
less_top h of of = Less.later (Less.here h)

module _ (G : Net) (k r : ℕ) where
  -- ---- which they are

  data Pair (x p qs : ℕ) : Family → Type 0 where
    pair : {q : ℕ} → bit qs q ≡ 1 → Pair x p qs (fam k r x p q)

  data Tip (x ps : ℕ) : Family → Type 0 where
    tip : {p q : ℕ} → bit ps p ≡ 1 → bit (above ps p) q ≡ 1 → Tip x ps (fam k r x p q)

  -- What is found for odd lengths.
  pub data Odd (u : ℕ) : Family → Type 0 where
    odd : {p q : ℕ} → bit u p ≡ 1 → bit (bit_and (above u p) (nbrs G p)) q ≡ 1 → Odd u (fam k r 255 p q)

  -- What is found for even lengths.
  pub data Even (u below : ℕ) : Family → Type 0 where
    even : {x p q : ℕ} → bit u x ≡ 1 → bit (bit_and (nbrs G x) below) p ≡ 1 → bit (above (bit_and (nbrs G x) below) p) q ≡ 1
        → Even u below (fam k r x p q)

  pairs_are : (x p qs : ℕ) {f : Family} → f ∈ pairs G k r x p qs → Pair x p qs f
  unfolding pairs
  pairs_are x p qs m =
      let w = from_each (λ q. fam k r x p q ∷ []) (members 64 qs) m in
      go w.a (bit_of_mem 64 qs w.a w.mem) w.here
    where
      go : {g : Family} (q : ℕ) → bit qs q ≡ 1 → g ∈ (fam k r x p q ∷ []) → Pair x p qs g
      go q e (later h) = elim h [ ]
      go q e first = pair e

  tips_are : (x ps : ℕ) {f : Family} → f ∈ tips G k r x ps → Tip x ps f
  unfolding tips
  tips_are x ps m =
      let w = from_each (λ p. pairs G k r x p (above ps p)) (members 64 ps) m in
      go w.a (bit_of_mem 64 ps w.a w.mem) (pairs_are x w.a (above ps w.a) w.here)
    where
      go : {g : Family} (p : ℕ) → bit ps p ≡ 1 → Pair x p (above ps p) g → Tip x ps g
      go p e (pair h) = tip e h

  -- All of `odds` is found for odd lengths.
  pub odds_are : (u : ℕ) {f : Family} → f ∈ odds G k r u → Odd u f
  unfolding odds
  odds_are u m =
      let w = from_each (λ p. pairs G k r 255 p (bit_and (above u p) (nbrs G p))) (members 64 u) m in
      go w.a (bit_of_mem 64 u w.a w.mem) (pairs_are 255 w.a (bit_and (above u w.a) (nbrs G w.a)) w.here)
    where
      go : {g : Family} (p : ℕ) → bit u p ≡ 1 → Pair 255 p (bit_and (above u p) (nbrs G p)) g → Odd u g
      go p e (pair h) = odd e h

  -- All of `evens` is found for even lengths.
  pub evens_are : (u below : ℕ) {f : Family} → f ∈ evens G k r u below → Even u below f
  unfolding evens
  evens_are u below m =
      let w = from_each (λ x. tips G k r x (bit_and (nbrs G x) below)) (members 64 u) m in
      go w.a (bit_of_mem 64 u w.a w.mem) (tips_are w.a (bit_and (nbrs G w.a) below) w.here)
    where
      go : {g : Family} (x : ℕ) → bit u x ≡ 1 → Tip x (bit_and (nbrs G x) below) g → Even u below g
      go x e (tip h i) = even e h i

  pairs_have : {x p q : ℕ} (qs : ℕ) → q < 64 → bit qs q ≡ 1 → fam k r x p q ∈ pairs G k r x p qs
  unfolding pairs
  pairs_have {x} {p} {q} qs small e = ∈_each (λ q. fam k r x p q ∷ []) (mem_of_bit 64 qs q small e) first

  -- All that is found for odd lengths is in `odds`.
  pub odds_have : (u p q : ℕ) → p < 64 → q < 64 → bit u p ≡ 1 → bit (bit_and (above u p) (nbrs G p)) q ≡ 1 → fam k r 255 p q ∈ odds G k r u
  unfolding odds
  odds_have u p q hp hq e h =
      ∈_each (λ p. pairs G k r 255 p (bit_and (above u p) (nbrs G p))) (mem_of_bit 64 u p hp e) (pairs_have (bit_and (above u p) (nbrs G p)) hq h)

  tips_have : (x ps p q : ℕ) → p < 64 → q < 64 → bit ps p ≡ 1 → bit (above ps p) q ≡ 1 → fam k r x p q ∈ tips G k r x ps
  unfolding tips
  tips_have x ps p q hp hq e h = ∈_each (λ p. pairs G k r x p (above ps p)) (mem_of_bit 64 ps p hp e) (pairs_have (above ps p) hq h)

  -- All that is found for even lengths is in `evens`.
  pub evens_have : (u below x p q : ℕ) → x < 64 → p < 64 → q < 64 → bit u x ≡ 1 → bit (bit_and (nbrs G x) below) p ≡ 1
      → bit (above (bit_and (nbrs G x) below) p) q ≡ 1 → fam k r x p q ∈ evens G k r u below
  unfolding evens
  evens_have u below x p q hx hp hq e h i =
      ∈_each (λ x. tips G k r x (bit_and (nbrs G x) below)) (mem_of_bit 64 u x hx e) (tips_have x (bit_and (nbrs G x) below) p q hp hq h i)

  odd_of : {u : ℕ} {f : Family} → Odd u f → Of k r f
  odd_of (odd e h) = of

  even_of : {u below : ℕ} {f : Family} → Even u below f → Of k r f
  even_of (even e h i) = of

  -- All have length k and top atom r.
  pub found_of : (u below : ℕ) {f : Family} → f ∈ found G k r u below → Of k r f
  unfolding found
  found_of u below {f} = go (eqb (k % 2) 1)
    where
      go : (b : Bool) → f ∈ cond b (odds G k r u) (evens G k r u below) → Of k r f
      go true m = odd_of (odds_are u m)
      go false m = even_of (evens_are u below m)

  -- ---- in which order they come

  less_q : {a b x p : ℕ} {f g : Family} → a < b → f ∈ (fam k r x p a ∷ []) → g ∈ (fam k r x p b ∷ []) → Less (key f) (key g)
  less_q h first (later i) = elim i [ ]
  less_q h (later i) _ = elim i [ ]
  less_q h first first = Less.later (Less.later (Less.later (Less.later (Less.here h))))

  less_p : {a b x s t : ℕ} {f g : Family} → a < b → Pair x a s f → Pair x b t g → Less (key f) (key g)
  less_p h (pair e) (pair e') = Less.later (Less.later (Less.later (Less.here h)))

  less_x : {a b s t : ℕ} {f g : Family} → a < b → Tip a s f → Tip b t g → Less (key f) (key g)
  less_x h (tip e i) (tip e' i') = Less.later (Less.later (Less.here h))

  pairs_sorted : (x p qs : ℕ) → Sorted (pairs G k r x p qs)
  unfolding pairs
  pairs_sorted x p qs =
      sorted_each (λ q. fam k r x p q ∷ []) (λ a b f g h m n. less_q h m n) (λ q. Sorted.next (λ g. elim [ ]) Sorted.none) (members_climb 64 qs)

  tips_sorted : (x ps : ℕ) → Sorted (tips G k r x ps)
  unfolding tips
  tips_sorted x ps =
      sorted_each (λ p. pairs G k r x p (above ps p)) (λ a b f g h m n. less_p h (pairs_are x a (above ps a) m) (pairs_are x b (above ps b) n))
      (λ p. pairs_sorted x p (above ps p)) (members_climb 64 ps)

  odds_sorted : (u : ℕ) → Sorted (odds G k r u)
  unfolding odds
  odds_sorted u =
      sorted_each (λ p. pairs G k r 255 p (qs p)) (λ a b f g h m n. less_p h (pairs_are 255 a (qs a) m) (pairs_are 255 b (qs b) n))
      (λ p. pairs_sorted 255 p (qs p)) (members_climb 64 u)
    where
      qs : ℕ → ℕ
      qs p = bit_and (above u p) (nbrs G p)

  evens_sorted : (u below : ℕ) → Sorted (evens G k r u below)
  unfolding evens
  evens_sorted u below =
      sorted_each (λ x. tips G k r x (ps x)) (λ a b f g h m n. less_x h (tips_are a (ps a) m) (tips_are b (ps b) n)) (λ x. tips_sorted x (ps x))
      (members_climb 64 u)
    where
      ps : ℕ → ℕ
      ps x = bit_and (nbrs G x) below

  -- They are in the order of the rows.
  pub found_sorted : (u below : ℕ) → Sorted (found G k r u below)
  unfolding found
  found_sorted u below = go (eqb (k % 2) 1)
    where
      go : (b : Bool) → Sorted (cond b (odds G k r u) (evens G k r u below))
      go true = odds_sorted u
      go false = evens_sorted u below

  -- ---- that the loops try them

  module _ {X : Type 0} (attempt : List ℕ → ℕ → Family → X → X) where
    module _ (us : List ℕ) (d : ℕ) where
      pairs_tried : (x p qs : ℕ) (s : X) → partners G attempt us d k r x p qs s ≡ through (attempt us d) (pairs G k r x p qs) s
      unfolding partners pairs through
      pairs_tried x p qs s =
          through_each (attempt us d) (λ q. fam k r x p q ∷ []) (λ q s. attempt us d (fam k r x p q) s) (λ q s. refl) (members 64 qs) s

      odds_tried : (u : ℕ) (s : X) → odd_loop G attempt us d k r u s ≡ through (attempt us d) (odds G k r u) s
      unfolding odd_loop odds
      odds_tried u s =
          through_each (attempt us d) (λ p. pairs G k r 255 p (bit_and (above u p) (nbrs G p)))
          (λ p s. partners G attempt us d k r 255 p (bit_and (above u p) (nbrs G p)) s)
          (λ p s. pairs_tried 255 p (bit_and (above u p) (nbrs G p)) s) (members 64 u) s

      tips_tried : (x ps : ℕ) (s : X) → tip_loop G attempt us d k r x ps s ≡ through (attempt us d) (tips G k r x ps) s
      unfolding tip_loop tips
      tips_tried x ps s =
          through_each (attempt us d) (λ p. pairs G k r x p (above ps p)) (λ p s. partners G attempt us d k r x p (above ps p) s)
          (λ p s. pairs_tried x p (above ps p) s) (members 64 ps) s

      evens_tried : (u below : ℕ) (s : X) → even_loop G attempt us d k r u below s ≡ through (attempt us d) (evens G k r u below) s
      unfolding even_loop evens
      evens_tried u below s =
          through_each (attempt us d) (λ x. tips G k r x (bit_and (nbrs G x) below)) (λ x s. tip_loop G attempt us d k r x (bit_and (nbrs G x) below) s)
          (λ x s. tips_tried x (bit_and (nbrs G x) below) s) (members 64 u) s

    -- The loops under r try them, one after the other.
    pub seek_found : (us : List ℕ) (s : X)
        → seek G attempt k r us s ≡ through (attempt us (depth k)) (found G k r (get_or us (k / 2) 0) (get_or us (k / 2 - 1) 0)) s
    unfolding seek found
    seek_found us s = go (eqb (k % 2) 1) refl
      where
        u : ℕ
        u = get_or us (k / 2) 0

        below : ℕ
        below = get_or us (k / 2 - 1) 0

        go : (b : Bool) → eqb (k % 2) 1 ≡ b → cond b (odd_loop G attempt us (k / 2) k r u s) (even_loop G attempt us (k / 2 - 1) k r u below s)
            ≡ through (attempt us (depth k)) (cond b (odds G k r u) (evens G k r u below)) s
        go true e =
            let same : k / 2 ≡ depth k = omega (arith, eqb-true (k % 2) 1 e) in
            ap (λ (d : ℕ). odd_loop G attempt us d k r u s) same ∙ odds_tried us (depth k) u s
        go false e =
            let other : k % 2 ≡ 1 → ⊥ = eqb-false (k % 2) 1 e in
            let same : k / 2 - 1 ≡ depth k = omega arith in
            ap (λ (d : ℕ). even_loop G attempt us d k r u below s) same ∙ evens_tried us (depth k) u below s
