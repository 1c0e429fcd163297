-- What a test of the engine tells: a fact if it is true, and its denial if it is false.
use mathlib.Core.Path.{◌≡◌, refl, subst}
use mathlib.Core.Bool.{Bool, true, false, ◌&&◌, ◌||◌, not}
use mathlib.Core.Logic.{◌⊎◌, inl, inr}
use Prim.Native.Nat.{ℕ, zero, suc, ◌<◌, ◌≤◌}
use native.Mathlib.Omega.{arith}
use borrow.Author.Tests.{eqb-true, eqb-false, ltb-true, ltb-false, leb-true, leb-false}
use lib.Dec.{eqb, ltb, leb}
use Rattle.bondset.proofs.Laws.{lt_or_ge}
use Rattle.model.specs.Fault.{some_below}

-- The test is true exactly if P holds.
pub data Tells (P : Type 0) : Bool → Type 0 where
  holds : P → Tells P true
  fails : (P → ⊥) → Tells P false

module _ {P : Type 0} where
  -- The test of a fact is true.
  pub tells_true : {b : Bool} → Tells P b → P → b ≡ true
  tells_true (Tells.holds p) q = refl
  tells_true (Tells.fails n) q = absurd (n q)

  -- The test of what does not hold is false.
  pub tells_false : {b : Bool} → Tells P b → (P → ⊥) → b ≡ false
  tells_false (Tells.holds p) n = absurd (n p)
  tells_false (Tells.fails m) n = refl

  -- A test decides.
  pub tells_dec : {b : Bool} → Tells P b → Dec P
  tells_dec (Tells.holds p) = yes p
  tells_dec (Tells.fails n) = no n

  tells : (b : Bool) → (b ≡ true → P) → (b ≡ false → P → ⊥) → Tells P b
  tells true p n = Tells.holds (p refl)
  tells false p n = Tells.fails (n refl)

  -- The test of a denial.
  pub not_tells : {b : Bool} → Tells P b → Tells (P → ⊥) (not b)
  not_tells (Tells.holds p) = Tells.fails (λ n. n p)
  not_tells (Tells.fails n) = Tells.holds n

  -- Tests of the same fact.
  pub tells_same : {Q : Type 0} {b : Bool} → (P → Q) → (Q → P) → Tells P b → Tells Q b
  tells_same to from (Tells.holds p) = Tells.holds (to p)
  tells_same to from (Tells.fails n) = Tells.fails (λ q. n (from q))

  module _ {Q : Type 0} where
    -- The test of one fact or another.
    pub or_tells : {a b : Bool} → Tells P a → Tells Q b → Tells (P ⊎ Q) (a || b)
    or_tells (Tells.holds p) t = Tells.holds (inl p)
    or_tells (Tells.fails n) (Tells.holds q) = Tells.holds (inr q)
    or_tells (Tells.fails n) (Tells.fails m) = Tells.fails (elim [ inl p ↦ n p | inr q ↦ m q ])

    -- The test of two facts.
    pub and_tells : {a b : Bool} → Tells P a → Tells Q b → Tells (P × Q) (a && b)
    and_tells (Tells.holds p) (Tells.holds q) = Tells.holds (p, q)
    and_tells (Tells.holds p) (Tells.fails m) = Tells.fails (λ b. m b.1)
    and_tells (Tells.fails n) t = Tells.fails (λ b. n b.0)

-- Equal numbers.
pub eqb_tells : (a b : ℕ) → Tells (a ≡ b) (eqb a b)
eqb_tells a b = tells (eqb a b) (eqb-true a b) (eqb-false a b)

-- A number below another.
pub ltb_tells : (a b : ℕ) → Tells (a < b) (ltb a b)
ltb_tells a b = tells (ltb a b) (ltb-true a b) (λ e h. omega (arith, ltb-false a b e))

-- A number not above another.
pub leb_tells : (a b : ℕ) → Tells (a ≤ b) (leb a b)
leb_tells a b = tells (leb a b) (leb-true a b) (λ e h. omega (arith, leb-false a b e))

-- Some number below k passes the test.
pub some_tells : {P : ℕ → Type 0} {test : ℕ → Bool} → ((j : ℕ) → Tells (P j) (test j)) → (k : ℕ)
    → Tells ((j : ℕ) × (j < k) × P j) (some_below k test)
unfolding some_below
some_tells each zero = Tells.fails (λ s. omega (arith, s.1))
some_tells {P} each (suc k) = tells_same to from (or_tells (some_tells each k) (each k))
  where
    to : ((j : ℕ) × (j < k) × P j) ⊎ P k → (j : ℕ) × (j < suc k) × P j
    to (inl s) = (s.0, omega (arith, s.1), s.2)
    to (inr p) = (k, omega arith, p)

    from : ((j : ℕ) × (j < suc k) × P j) → ((j : ℕ) × (j < k) × P j) ⊎ P k
    from s = elim (lt_or_ge s.0 k) [
      | inl l ↦ inl (s.0, l, s.2)
      | inr l ↦ let e : s.0 ≡ k = omega (arith, s.1) in inr (subst P e s.2)
    ]
