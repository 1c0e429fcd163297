-- Every simple compound has roots, so that its pieces can be counted: bond by bond, the two pieces that the bond joins become one.
use mathlib.Core.Path.{◌≡◌, refl, sym, ap, ◌∙◌, subst, subst₂}
use mathlib.Core.Bool.{cond}
use mathlib.Core.Logic.{◌⊎◌, inl, inr}
use Prim.Native.Nat.{ℕ, zero, suc, ◌<◌, ◌≤◌}
use native.Mathlib.Decide.{ℕ_discrete}
use native.Mathlib.Omega.{arith}
use borrow.Author.Tests.{eq-eqb, ne_eqb}
use lib.Dec.{eqb}
use Rattle.bondset.proofs.Laws.{lt_or_ge}
use Rattle.cycles.specs.Compound.{Compound, m, one, other, Joins, Bonded, Walk, Sound}
use Rattle.cycles.proofs.PathsDecide.{joins_sym}
use Rattle.cycles.proofs.Dimension.{Rooted, pieces, one_lt, other_lt, closed_basis, dimension}

module _ (c : Compound) where
  -- A walk from a to b, however long.
  abbrev Way : ℕ → ℕ → Type 0
  Way a b = (steps : ℕ) × Walk c b a steps

  -- Two walks from one atom are a walk between their ends.
  pub walk_between : {z b a s t : ℕ} → Walk c b a s → Walk c z a t → (steps : ℕ) × Walk c z b steps
  walk_between Walk.here w = (_, w)
  walk_between (Walk.step (k, joins) rest) w = walk_between rest (Walk.step (k, joins_sym c joins) w)

  -- Roots by the first k bonds alone.
  record RootedBy (k : ℕ) (root : ℕ → ℕ) : Type 0 where
    inside : (a : ℕ) → a < c.n → root a < c.n
    fixed : (a : ℕ) → a < c.n → root (root a) ≡ root a
    way : (a : ℕ) → a < c.n → Way a (root a)
    joined : (j : ℕ) → j < k → root (one c j) ≡ root (other c j)

  -- The root q is replaced by the root p.
  replaced : ℕ → ℕ → ℕ → ℕ
  replaced p q v = cond (eqb v q) p v

  replaced_cases : (p q v : ℕ) → ((v ≡ q) × (replaced p q v ≡ p)) ⊎ ((v ≡ q → ⊥) × (replaced p q v ≡ v))
  unfolding replaced
  replaced_cases p q v = elim (ℕ_discrete v q) [
    | yes e ↦ inl (e, rw (eq-eqb v q e))
    | no n ↦ inr (n, rw (ne_eqb v q n))
  ]

  replaced_at : (p q v : ℕ) → v ≡ q → replaced p q v ≡ p
  replaced_at p q v e = elim (replaced_cases p q v) [ inl (_, d) ↦ d | inr (n, _) ↦ absurd (n e) ]

  replaced_other : (p q v : ℕ) → (v ≡ q → ⊥) → replaced p q v ≡ v
  replaced_other p q v n = elim (replaced_cases p q v) [ inl (e, _) ↦ absurd (n e) | inr (_, d) ↦ d ]

  replaced_self : (p q : ℕ) → replaced p q p ≡ p
  replaced_self p q = elim (replaced_cases p q p) [ inl (_, d) ↦ d | inr (_, d) ↦ d ]

  module _ (sound : Sound c) where
    module _ {k : ℕ} {root : ℕ → ℕ} (h : k < m c) (r : RootedBy k root) where
      P : ℕ
      P = root (one c k)

      Q : ℕ
      Q = root (other c k)

      next : ℕ → ℕ
      next a = replaced P Q (root a)

      -- From the root of the one end of bond k to that of the other.
      across : Way Q P
      unfolding P Q
      across =
          let (_, u) = r.way (other c k) (other_lt c sound k h) in
          let (_, w) = r.way (one c k) (one_lt c sound k h) in
          walk_between u (Walk.step (k, Joins.turned h refl refl) w)

      next_inside : (a : ℕ) → a < c.n → next a < c.n
      unfolding next P
      next_inside a l = elim (replaced_cases P Q (root a)) [
        | inl (_, d) ↦ rw d (r.inside (one c k) (one_lt c sound k h))
        | inr (_, d) ↦ rw d (r.inside a l)
      ]

      next_fixed : (a : ℕ) → a < c.n → next (next a) ≡ next a
      unfolding next P
      next_fixed a l = elim (replaced_cases P Q (root a)) [
        | inl (_, d) ↦ rw (d, r.fixed (one c k) (one_lt c sound k h)) (replaced_self P Q)
        | inr (n, d) ↦ rw (d, r.fixed a l) (replaced_other P Q (root a) n)
      ]

      next_way : (a : ℕ) → a < c.n → Way a (next a)
      unfolding next
      next_way a l =
          let (_, back) = walk_between (r.way a l).1 Walk.here in
          elim (replaced_cases P Q (root a)) [
            | inl (e, d) ↦ rw d (walk_between back (subst (λ (x : ℕ). Walk c P x across.0) (sym e) across.1))
            | inr (_, d) ↦ rw d (r.way a l)
          ]

      next_joined : (j : ℕ) → j < suc k → next (one c j) ≡ next (other c j)
      unfolding next P Q
      next_joined j l = elim (lt_or_ge j k) [
        | inl b ↦ ap (replaced P Q) (r.joined j b)
        | inr b ↦
            let e : j ≡ k = omega arith in
            rw e (replaced_self P Q ∙ sym (replaced_at P Q Q refl))
      ]

      rooted_next : RootedBy (suc k) next
      rooted_next = record { inside = next_inside; fixed = next_fixed; way = next_way; joined = next_joined }

    rooted_by : (k : ℕ) → k ≤ m c → (root : ℕ → ℕ) × RootedBy k root
    rooted_by zero h = (λ a. a, record { inside = λ a l. l; fixed = λ a l. refl; way = λ a l. (0, Walk.here); joined = λ j l. absurd (omega arith) })
    rooted_by (suc k) h = let (root, r) = rooted_by k (omega arith) in (next (omega arith) r, rooted_next (omega arith) r)

    -- Every compound has roots.
    pub rooted_exists : (root : ℕ → ℕ) × Rooted c root
    rooted_exists =
        let (root, r) = rooted_by (m c) (omega arith) in
        (root, record { inside = r.inside; fixed = r.fixed; walk = r.way; bonded = bonded root r })
      where
        bonded : (root : ℕ → ℕ) → RootedBy (m c) root → (a b : ℕ) → Bonded c a b → root a ≡ root b
        bonded root r a b (k, Joins.given h e f) = subst₂ (λ (x y : ℕ). root x ≡ root y) e f (r.joined k h)
        bonded root r a b (k, Joins.turned h e f) = subst₂ (λ (x y : ℕ). root x ≡ root y) e f (sym (r.joined k h))

    -- Whatever the roots, there are as many pieces.
    pub pieces_unique : (root root' : ℕ → ℕ) → Rooted c root → Rooted c root' → pieces c root ≡ pieces c root'
    pieces_unique root root' r s =
        let (B, b) = closed_basis c sound in
        omega (arith, dimension c sound root r B b, dimension c sound root' s B b)
