-- Whether a bond set is a ring, by what a test looks at: the atoms below n, and the ways to one of them.
use mathlib.Core.Path.{◌≡◌, refl, ◌∙◌, ap, ap₂}
use mathlib.Core.Bool.{Bool, cond, ◌||◌}
use mathlib.Core.Logic.{◌↔◌, ◌⊎◌, inl, ⊎_elim}
use Prim.Native.Nat.{ℕ, zero, suc, ◌*◌, ◌^◌, ◌<◌, ◌≤◌}
use native.Mathlib.Omega.{arith}
use native.Mathlib.Nat.{mul-zero}
use borrow.Author.Tests.{ne_eqb}
use Rattle.bondset.specs.Sets.{bit}
use Rattle.bondset.proofs.Laws.{lt_or_ge}
use Rattle.cycles.specs.Compound.{Compound, m, one, other, Joins, Sound}
use Rattle.cycles.specs.Ring.{meets, degree_to, degree, Along, Ring}
use Rattle.cycles.proofs.PathsDecide.{joins_sym}

module _ (c : Compound) where
  -- A way goes on by another.
  pub along_trans : {S b a d : ℕ} → Along c S b a → Along c S d b → Along c S d a
  along_trans Along.here s = s
  along_trans (Along.step h j r) s = Along.step h j (along_trans r s)

  -- A way leads back.
  pub along_sym : {S b a : ℕ} → Along c S b a → Along c S a b
  along_sym Along.here = Along.here
  along_sym (Along.step h j r) = along_trans (along_sym r) (Along.step h (joins_sym c j) Along.here)

  -- What holds of the root and, over a bond of S, of the next atom, holds wherever a way leads to the root: what a flood has seen.
  pub along_inside : {S root a : ℕ} (P : ℕ → Type 0) → P root → ((k x y : ℕ) → bit S k ≡ 1 → Joins c k x y → P y → P x) → Along c S root a → P a
  along_inside P start next Along.here = start
  along_inside P start next (Along.step h j r) = next _ _ _ h j (along_inside P start next r)

  -- What a test of S sees: a bond, none that is missing, each atom met twice or not at all, and a way from each atom that is met to the root.
  pub record Passes (S root : ℕ) : Type 0 where
    pub some : 0 < S
    pub bonds : S < 2 ^ m c
    pub twice : (a : ℕ) → a < c.n → (degree c S a ≡ 0) ⊎ (degree c S a ≡ 2)
    pub joined : (a : ℕ) → a < c.n → 0 < degree c S a → Along c S root a

  -- A ring passes the test, whichever atom that it meets is the root.
  pub ring_passes : {S root : ℕ} → Ring c S → 0 < degree c S root → Passes S root
  ring_passes {S} {root} ring h = record {
    some = ring.some;
    bonds = ring.closed.bonds;
    twice = λ a l. ring.twice a;
    joined = λ a l d. ring.connected a root d h;
  }

module _ (c : Compound) (sound : Sound c) where
  meets_beyond : (k a : ℕ) → k < m c → c.n ≤ a → meets c k a ≡ 0
  meets_beyond k a h l =
      ap₂ (λ (s t : Bool). cond (s || t) 1 0)
      (ne_eqb (one c k) a (λ e. let b = sound.named k a _ (Joins.given h e refl) in omega arith))
      (ne_eqb (other c k) a (λ e. let b = sound.named k a _ (Joins.turned h e refl) in omega arith))

  degree_to_beyond : (k S a : ℕ) → k ≤ m c → c.n ≤ a → degree_to c k S a ≡ 0
  unfolding degree_to
  degree_to_beyond zero S a h l = refl
  degree_to_beyond (suc k) S a h l =
      let here : bit S k * meets c k a ≡ 0 = ap (λ (x : ℕ). bit S k * x) (meets_beyond k a (omega arith) l) ∙ mul-zero (bit S k) in
      omega (arith, here, degree_to_beyond k S a (omega arith) l)

  -- No set meets an atom that the compound has not.
  pub met_named : (S a : ℕ) → 0 < degree c S a → a < c.n
  met_named S a h = ⊎_elim (λ l. l) (λ l. absurd (omega (arith, degree_to_beyond (m c) S a (omega arith) l))) (lt_or_ge a c.n)

  -- What passes the test is a ring.
  pub passes_ring : {S root : ℕ} → Passes c S root → Ring c S
  passes_ring {S} {root} p = record {
    some = p.some;
    closed = record { bonds = p.bonds; even = λ a. ⊎_elim (λ e. omega (arith, e)) (λ e. omega (arith, e)) (twice a) };
    connected = λ a b h l. along_trans c (p.joined a (met_named S a h) h) (along_sym c (p.joined b (met_named S b l) l));
    twice = twice;
  }
    where
      twice : (a : ℕ) → (degree c S a ≡ 0) ⊎ (degree c S a ≡ 2)
      twice a = ⊎_elim (λ l. p.twice a l) (λ l. inl (degree_to_beyond (m c) S a (omega arith) l)) (lt_or_ge a c.n)

  -- With a flood from an atom that S meets, whose seen atoms are those with a way to it: S is a ring exactly if all atoms that it meets are seen.
  pub ring_iff_seen : {S root : ℕ} (P : ℕ → Type 0) → 0 < degree c S root → P root → ((k x y : ℕ) → bit S k ≡ 1 → Joins c k x y → P y → P x)
      → ((a : ℕ) → P a → Along c S root a)
      → Ring c S
      ↔ ((0 < S) × (S < 2 ^ m c) × ((a : ℕ) → a < c.n → (degree c S a ≡ 0) ⊎ (degree c S a ≡ 2)) × ((a : ℕ) → a < c.n → 0 < degree c S a → P a))
  ring_iff_seen {S} {root} P met start next seen = (
    λ ring.
        let p = ring_passes c ring met in
        (p.some, p.bonds, p.twice, λ a l h. along_inside c P start next (p.joined a l h)),
    λ (some, bonds, twice, all). passes_ring (record { some = some; bonds = bonds; twice = twice; joined = λ a l h. seen a (all a l h) }),
  )
