-- In k pieces at most 96 bonds leave m - n + k at most 82: with one name for all roots, the bonds join different pairs of n - k + 1 names.
use mathlib.Core.Path.{◌≡◌, refl, sym, ap, ◌∙◌, subst}
use mathlib.Core.Bool.{Bool, cond}
use mathlib.Core.Logic.{◌⊎◌, inl, inr, ⊎_elim, ◌≢◌}
use Prim.Native.Nat.{ℕ, zero, suc, ◌+◌, ◌-◌, ◌*◌, ◌<◌, ◌≤◌}
use native.Mathlib.Decide.{ℕ_discrete}
use native.Mathlib.Omega.{arith}
use borrow.Author.Tests.{eq-eqb, ne_eqb}
use lib.Dec.{eqb}
use Rattle.bondset.proofs.Laws.{lt_or_ge}
use Rattle.cycles.specs.Compound.{Compound, m, one, other, Joins, Bonded, Sound}
use Rattle.cycles.specs.Pieces.{Pieces, cyclomatic_of}
use Rattle.cycles.proofs.Dimension.{Rooted, roots_to, pieces, one_lt, other_lt}
use Rattle.cycles.proofs.Few.{pairs_suc, Pairing, pairing_bound, few_names}
use Rattle.cycles.proofs.PiecesCount.{is_root, is_no_root, pieces_rooted}

-- ---- names
module _ (root : ℕ → ℕ) where
  roots_to_le : (i : ℕ) → roots_to root i ≤ i
  unfolding roots_to
  roots_to_le zero = omega arith
  roots_to_le (suc i) = elim (ℕ_discrete (root i) i) [
    | yes e ↦ omega (arith, roots_to_le i, is_root root i e)
    | no n ↦ omega (arith, roots_to_le i, is_no_root root i n)
  ]

  -- How many of the atoms below i are no roots.
  others : ℕ → ℕ
  others i = i - roots_to root i

  others_root : (i : ℕ) → root i ≡ i → others (suc i) ≡ others i
  unfolding others roots_to
  others_root i e = omega (arith, is_root root i e)

  others_more : (i : ℕ) → root i ≢ i → others (suc i) ≡ suc (others i)
  unfolding others roots_to
  others_more i n = omega (arith, is_no_root root i n, roots_to_le i)

  others_mono : (i j : ℕ) → i ≤ j → others i ≤ others j
  others_mono i zero h = let e : i ≡ 0 = omega arith in rw e (omega arith)
  others_mono i (suc j) h =
      ⊎_elim
      (λ (l : i < suc j). elim (ℕ_discrete (root j) j) [
        | yes e ↦ omega (arith, others_mono i j (omega arith), others_root j e)
        | no n ↦ omega (arith, others_mono i j (omega arith), others_more j n)
      ])
      (λ (l : suc j ≤ i). let e : i ≡ suc j = omega arith in rw e (omega arith))
      (lt_or_ge i (suc j))

  -- All roots have the name 0, each other atom has one of its own.
  name : ℕ → ℕ
  name a = cond (eqb (root a) a) 0 (suc (others a))

  name_root : (a : ℕ) → root a ≡ a → name a ≡ 0
  unfolding name
  name_root a e = ap (λ (b : Bool). cond b 0 (suc (others a))) (eq-eqb (root a) a e)

  name_other : (a : ℕ) → root a ≢ a → name a ≡ suc (others a)
  unfolding name
  name_other a n = ap (λ (b : Bool). cond b 0 (suc (others a))) (ne_eqb (root a) a n)

  name_lt : (a n : ℕ) → a < n → name a < suc (others n)
  name_lt a n h = elim (ℕ_discrete (root a) a) [
    | yes e ↦ omega (arith, name_root a e)
    | no d ↦ omega (arith, name_other a d, others_more a d, others_mono (suc a) n h)
  ]

  others_injective : (a b : ℕ) → root a ≢ a → root b ≢ b → others a ≡ others b → a ≡ b
  others_injective a b n d e =
      ⊎_elim
      (λ (l : a < b). absurd (omega (arith, others_more a n, others_mono (suc a) b l)))
      (λ (l : b ≤ a).
      ⊎_elim
      (λ (u : b < a). absurd (omega (arith, others_more b d, others_mono (suc b) a u)))
      (λ (u : a ≤ b). omega arith)
      (lt_or_ge b a))
      (lt_or_ge a b)

  -- Atoms with one name are roots, or the same.
  name_same : (a b : ℕ) → name a ≡ name b → ((root a ≡ a) × (root b ≡ b)) ⊎ (a ≡ b)
  name_same a b e = go (ℕ_discrete (root a) a) (ℕ_discrete (root b) b)
    where
      go : Dec (root a ≡ a) → Dec (root b ≡ b) → ((root a ≡ a) × (root b ≡ b)) ⊎ (a ≡ b)
      go (yes p) (yes q) = inl (p, q)
      go (yes p) (no q) = absurd (omega (arith, name_root a p, name_other b q))
      go (no p) (yes q) = absurd (omega (arith, name_other a p, name_root b q))
      go (no p) (no q) = inr (others_injective a b p q (omega (arith, name_other a p, name_other b q)))

-- ---- bonds by names
module _ (c : Compound) (sound : Sound c) {root : ℕ → ℕ} (r : Rooted c root) where
  bonded_differ : {a b : ℕ} → Bonded c a b → a ≢ b
  bonded_differ {a} (k, j) e = sound.no_loop k a (subst (λ (x : ℕ). Joins c k a x) (sym e) j)

  -- Two roots are not bonded.
  roots_not_bonded : {a b : ℕ} → root a ≡ a → root b ≡ b → Bonded c a b → ⊥
  roots_not_bonded {a} {b} p q j = bonded_differ j (sym p ∙ r.bonded a b j ∙ q)

  -- The names of bonded atoms differ.
  names_differ : {a b : ℕ} → Bonded c a b → name root a ≢ name root b
  names_differ {a} {b} j e = ⊎_elim (λ p. roots_not_bonded p.0 p.1 j) (bonded_differ j) (name_same root a b e)

  -- Two pairs of bonded atoms with the same names are the same pair.
  names_tell : {a b a' b' : ℕ} → Bonded c a b → Bonded c a' b' → name root a ≡ name root a' → name root b ≡ name root b' → (a ≡ a') × (b ≡ b')
  names_tell {a} {b} {a'} {b'} i j e f = go (name_same root a a' e) (name_same root b b' f)
    where
      go : ((root a ≡ a) × (root a' ≡ a')) ⊎ (a ≡ a') → ((root b ≡ b) × (root b' ≡ b')) ⊎ (b ≡ b') → (a ≡ a') × (b ≡ b')
      go (inr p) (inr q) = (p, q)
      go (inr p) (inl (s, t)) = (p, sym s ∙ sym (r.bonded a b i) ∙ ap root p ∙ r.bonded a' b' j ∙ t)
      go (inl (s, t)) (inr q) = (sym s ∙ r.bonded a b i ∙ ap root q ∙ sym (r.bonded a' b' j) ∙ t, q)
      go (inl (s, _)) (inl (t, _)) = absurd (roots_not_bonded s t i)

  given_bonded : (k : ℕ) → k < m c → Bonded c (one c k) (other c k)
  given_bonded k h = (k, Joins.given h refl refl)

  turned_bonded : (k : ℕ) → k < m c → Bonded c (other c k) (one c k)
  turned_bonded k h = (k, Joins.turned h refl refl)

  -- The bonds join different pairs of names.
  names_pairing : Pairing (λ k. name root (one c k)) (λ k. name root (other c k)) (m c) (suc (others root c.n))
  names_pairing =
      record {
        first_lt = λ k h. name_lt root (one c k) c.n (one_lt c sound k h);
        second_lt = λ k h. name_lt root (other c k) c.n (other_lt c sound k h);
        differ = λ k h. names_differ (given_bonded k h);
        straight = λ i j h l e f.
            let (p, q) = names_tell (given_bonded i h) (given_bonded j l) e f in
            sound.once i j (one c j) (other c j) (Joins.given h p q) (Joins.given l refl refl);
        crossed = λ i j h l e f.
            let (p, q) = names_tell (given_bonded i h) (turned_bonded j l) e f in
            sound.once i j (other c j) (one c j) (Joins.given h p q) (Joins.turned l refl refl);
      }

  rooted_pairs : 2 * m c ≤ suc (c.n - pieces c root) * (c.n - pieces c root)
  unfolding others
  rooted_pairs = omega (arith, pairing_bound names_pairing, pairs_suc (others root c.n))

  rooted_few : m c ≤ 96 → m c + pieces c root ≤ 82 + c.n
  unfolding others
  rooted_few h = omega (arith, few_names (m c) (suc (others root c.n)) (pairing_bound names_pairing) h, roots_to_le root c.n)

module _ (c : Compound) (sound : Sound c) where
  -- In k pieces, no more bonds than one piece of n - k + 1 atoms can have.
  pub pieces_pairs_bound : {k : ℕ} → Pieces c k → 2 * m c ≤ suc (c.n - k) * (c.n - k)
  pieces_pairs_bound p =
      let (root, r, e) = pieces_rooted c sound p in
      subst (λ (x : ℕ). 2 * m c ≤ suc (c.n - x) * (c.n - x)) e (rooted_pairs c sound r)

  -- At most 96 bonds leave m - n and the number of pieces at most 82.
  pub pieces_few : {k : ℕ} → Pieces c k → m c ≤ 96 → m c + k ≤ 82 + c.n
  pieces_few p h = let (root, r, e) = pieces_rooted c sound p in omega (arith, rooted_few c sound r h)

  -- The cyclomatic number is at most 82.
  pub cyclomatic_pieces_few : {k : ℕ} → Pieces c k → m c ≤ 96 → cyclomatic_of c k ≤ 82
  cyclomatic_pieces_few p h = omega (arith, pieces_few p h)
