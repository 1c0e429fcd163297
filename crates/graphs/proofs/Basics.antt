-- Truth values, the test of equality, the order of numbers.
use mathlib.Core.Path.{◌≡◌, refl, sym, ap, ◌∙◌}
use mathlib.Core.Bool.{Bool, true, false, ◌&&◌, ◌||◌, true≢false}
use mathlib.Core.Logic.{◌⊎◌, inl, inr, ⊎_elim, ◌≢◌}
use Prim.Native.Nat.{ℕ, suc, ◌≤◌, ◌<◌}
use native.Mathlib.Omega.{arith}
use native.Mathlib.Decide.{dec_lt}
use borrow.Author.Tests.{eqb-true, eq-eqb}
use Rattle.graphs.specs.Count.{xor, same}

-- Truth values.

pub both : (b : Bool) → (b ≡ true) ⊎ (b ≡ false)
both true = inl refl
both false = inr refl

pub clash : {b : Bool} → b ≡ true → b ≡ false → ⊥
clash p q = true≢false (sym p ∙ q)

pub not_true : (b : Bool) → (b ≡ true → ⊥) → b ≡ false
not_true true h = absurd (h refl)
not_true false h = refl

pub and_l : (a b : Bool) → (a && b) ≡ true → a ≡ true
and_l true b h = refl
and_l false b h = h

pub and_r : (a b : Bool) → (a && b) ≡ true → b ≡ true
and_r true b h = h
and_r false b h = absurd (clash h refl)

pub or_l : (a b : Bool) → a ≡ true → (a || b) ≡ true
or_l a b h = rw h

pub or_r : (a b : Bool) → b ≡ true → (a || b) ≡ true
or_r true b h = refl
or_r false b h = h

pub or_cases : (a b : Bool) → (a || b) ≡ true → (a ≡ true) ⊎ (b ≡ true)
or_cases true b h = inl refl
or_cases false b h = inr h

pub or_off_l : (a b : Bool) → (a || b) ≡ false → a ≡ false
or_off_l true b h = h
or_off_l false b h = refl

pub or_off_r : (a b : Bool) → (a || b) ≡ false → b ≡ false
or_off_r true b h = absurd (clash refl h)
or_off_r false b h = h

-- Exclusive or.

pub xor_comm : (a b : Bool) → xor a b ≡ xor b a
xor_comm true true = refl
xor_comm true false = refl
xor_comm false true = refl
xor_comm false false = refl

pub xor_assoc : (a b c : Bool) → xor (xor a b) c ≡ xor a (xor b c)
xor_assoc true true true = refl
xor_assoc true true false = refl
xor_assoc true false c = refl
xor_assoc false b c = refl

pub xor_self : (a : Bool) → xor a a ≡ false
xor_self true = refl
xor_self false = refl

pub xor_false : (a : Bool) → xor a false ≡ a
xor_false true = refl
xor_false false = refl

pub xor_left_comm : (a b c : Bool) → xor a (xor b c) ≡ xor b (xor a c)
xor_left_comm a b c = sym (xor_assoc a b c) ∙ ap (λ (x : Bool). xor x c) (xor_comm a b) ∙ xor_assoc b a c

pub xor_cancel : (a b : Bool) → xor a (xor a b) ≡ b
xor_cancel a b = sym (xor_assoc a a b) ∙ ap (λ (x : Bool). xor x b) (xor_self a)

-- A sum of variables, each at most once and in order.
pub ruleset xor_laws = (xor_comm, xor_assoc, xor_left_comm, xor_self, xor_false, xor_cancel)

pub xor_swap : (a b c d : Bool) → xor (xor a b) (xor c d) ≡ xor (xor a c) (xor b d)
xor_swap a b c d = simp xor_laws

pub xor_rot : (a b c : Bool) → xor (xor a b) c ≡ xor (xor c b) a
xor_rot a b c = simp xor_laws

pub xor_back : (a b : Bool) → a ≡ xor b (xor a b)
xor_back a b = simp xor_laws

pub xor_chain : (a b c : Bool) → xor (xor a b) (xor b c) ≡ xor a c
xor_chain a b c = simp xor_laws

pub xor_turn : (a b c : Bool) → xor a (xor b c) ≡ xor b (xor c (xor a false))
xor_turn a b c = simp xor_laws

pub xor_and : (a b c : Bool) → (xor a b && c) ≡ xor (a && c) (b && c)
xor_and true true true = refl
xor_and true true false = refl
xor_and true false true = refl
xor_and true false false = refl
xor_and false b c = refl

pub xor_true_off : (b : Bool) → xor b true ≡ false → b ≡ true
xor_true_off true h = refl
xor_true_off false h = absurd (clash refl h)

pub xor_part : (a b : Bool) → (b ≡ true → a ≡ true) → xor a b ≡ true → a ≡ true
xor_part true b h e = refl
xor_part false b h e = h e

-- The test of equality.

pub same_refl : (a : ℕ) → same a a ≡ true
unfolding same
same_refl a = eq-eqb a a refl

pub same_eq : (a b : ℕ) → same a b ≡ true → a ≡ b
unfolding same
same_eq a b h = eqb-true a b h

pub same_is : (a b : ℕ) → a ≡ b → same a b ≡ true
same_is a b e = rw e (same_refl b)

pub same_ne : (a b : ℕ) → a ≢ b → same a b ≡ false
same_ne a b h = not_true (same a b) (λ e. h (same_eq a b e))

pub same_off : (a b : ℕ) → same a b ≡ false → a ≢ b
same_off a b h e = clash (same_is a b e) h

pub same_sym : (a b : ℕ) → same a b ≡ same b a
same_sym a b =
    ⊎_elim (λ e. e ∙ sym (same_is b a (sym (same_eq a b e)))) (λ e. e ∙ sym (same_ne b a (λ p. same_off a b e (sym p)))) (both (same a b))

pub same_suc : (j k : ℕ) → same j k ≡ same (suc j) (suc k)
same_suc j k =
    ⊎_elim (λ e. e ∙ sym (same_is (suc j) (suc k) (ap suc (same_eq j k e))))
    (λ e. let n : j ≢ k = same_off j k e in e ∙ sym (same_ne (suc j) (suc k) (omega arith)))
    (both (same j k))

pub xor_or : (x y a : ℕ) → x ≢ y → (same x a || same y a) ≡ xor (same x a) (same y a)
xor_or x y a h =
    ⊎_elim (λ (e : same x a ≡ true). let f : same y a ≡ false = same_ne y a (λ q. h (same_eq x a e ∙ sym q)) in rw (e, f))
    (λ (e : same x a ≡ false). rw e)
    (both (same x a))

-- The order of numbers.

pub lt_or_ge : (a b : ℕ) → (a < b) ⊎ (b ≤ a)
lt_or_ge a b = elim (dec_lt a b) [ yes h ↦ inl h | no h ↦ inr (omega arith) ]
