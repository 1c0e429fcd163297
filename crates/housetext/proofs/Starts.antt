-- Laws of a text that starts with a word.
use mathlib.Core.Path.{◌≡◌, refl, sym, ap}
use mathlib.Core.Bool.{true, false, cond, ◌&&◌}
use mathlib.Core.List.{List, [], ◌∷◌, ◌++◌}
use mathlib.Core.Logic.{◌⊎◌, inl, inr}
use Prim.Native.Nat.{ℕ, ◌-◌, ◌<◌, ◌≤◌}
use native.Mathlib.Omega.{arith}
use lib.Dec.{eqb}
use lib.ListN.{length, drop, take, length-append, length-drop}
use lib.Seq.{take_all}
use borrow.Author.Tests.{eq-eqb, ne_eqb}
use Rattle.std.specs.Cmp.Lexicographic.{pointwise}
use Rattle.housetext.specs.Text.{starts}
use Rattle.housetext.proofs.Decimal.{lt_or_ge}

pub same_or_not : (x y : ℕ) → (x ≡ y) ⊎ (x ≡ y → ⊥)
same_or_not x y = go (lt_or_ge x y) (lt_or_ge y x)
  where
    go : (x < y) ⊎ (y ≤ x) → (y < x) ⊎ (x ≤ y) → (x ≡ y) ⊎ (x ≡ y → ⊥)
    go (inl p) q = inr (λ e. omega arith)
    go (inr p) (inl q) = inr (λ e. omega arith)
    go (inr p) (inr q) = inl (omega arith)

pub false_not_true : {A : Type 0} → false ≡ true → A
false_not_true h = let z : ◌≡◌ {A = ℕ} 0 1 = cc in absurd (omega arith)

-- a text starts with a word if its first bytes are the word's
pub starts_pointwise : (word text : List ℕ) → starts word text ≡ pointwise eqb (take (length word) text) word
unfolding starts
starts_pointwise [] text = refl
starts_pointwise (x ∷ word) [] = refl
starts_pointwise (x ∷ word) (y ∷ text) = go (starts_pointwise word text) (same_or_not x y)
  where
    go : starts word text ≡ pointwise eqb (take (length word) text) word → (x ≡ y) ⊎ (x ≡ y → ⊥)
        → cond (eqb x y) (starts word text) false ≡ (eqb y x && pointwise eqb (take (length word) text) word)
    go more (inl e) = rw (eq-eqb x y e, eq-eqb y x (sym e)) more
    go more (inr n) = rw (ne_eqb x y n, ne_eqb y x (λ e. n (sym e)))

-- a text starts with what it is put together from
pub starts_append : (start rest : List ℕ) → starts start (start ++ rest) ≡ true
unfolding starts
starts_append [] rest = refl
starts_append (x ∷ start) rest = rw (eq-eqb x x refl) (starts_append start rest)

-- a text that starts so is put together so
pub starts_split : (start text : List ℕ) → starts start text ≡ true → text ≡ start ++ drop (length start) text
unfolding starts
starts_split [] text h = refl
starts_split (x ∷ start) [] h = false_not_true h
starts_split (x ∷ start) (y ∷ text) h = go (λ p. starts_split start text p) (same_or_not x y)
  where
    go : (starts start text ≡ true → text ≡ start ++ drop (length start) text) → (x ≡ y) ⊎ (x ≡ y → ⊥)
        → y ∷ text ≡ x ∷ (start ++ drop (length start) text)
    go less (inl e) = let t = less (rw (eq-eqb x y e) at h) in cc
    go less (inr n) = false_not_true (rw (ne_eqb x y n) at h)

-- a start in two parts
pub starts_two : (a b text : List ℕ) → starts a text ≡ true → starts (a ++ b) text ≡ starts b (drop (length a) text)
unfolding starts
starts_two [] b text h = refl
starts_two (x ∷ a) b [] h = false_not_true h
starts_two (x ∷ a) b (y ∷ text) h = go (λ p. starts_two a b text p) (same_or_not x y)
  where
    go : (starts a text ≡ true → starts (a ++ b) text ≡ starts b (drop (length a) text)) → (x ≡ y) ⊎ (x ≡ y → ⊥)
        → cond (eqb x y) (starts (a ++ b) text) false ≡ starts b (drop (length a) text)
    go less (inl e) = let t = less (rw (eq-eqb x y e) at h) in rw (eq-eqb x y e) t
    go less (inr n) = false_not_true (rw (ne_eqb x y n) at h)

-- a start whose first part is not there
pub starts_first : (a b text : List ℕ) → starts a text ≡ false → starts (a ++ b) text ≡ false
unfolding starts
starts_first [] b text h = false_not_true (sym h)
starts_first (x ∷ a) b [] h = refl
starts_first (x ∷ a) b (y ∷ text) h = go (λ p. starts_first a b text p) (same_or_not x y)
  where
    go : (starts a text ≡ false → starts (a ++ b) text ≡ false) → (x ≡ y) ⊎ (x ≡ y → ⊥)
        → cond (eqb x y) (starts (a ++ b) text) false ≡ false
    go less (inl e) = let t = less (rw (eq-eqb x y e) at h) in rw (eq-eqb x y e) t
    go less (inr n) = rw (ne_eqb x y n)

-- the remainder of a text, as a part of it
pub remainder : (text : List ℕ) (at : ℕ) → take (length text - at) (drop at text) ≡ drop at text
remainder text at = take_all (length text - at) (drop at text) (rw (length-drop at text) (omega arith))

-- a text is as long as what it starts with
pub starts_length : (start text : List ℕ) → starts start text ≡ true → length start ≤ length text
starts_length start text h = let e = ap length (starts_split start text h) in omega (arith, simp length-append at e)
