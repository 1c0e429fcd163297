-- The ring of an atom and a bond: there is one exactly if neither end of the bond is the atom and the two paths meet in the atom alone; its length
-- is that of the paths and 1; and it is the only one.
use mathlib.Core.Path.{◌≡◌, sym, ap, ap₂, ◌∙◌, subst}
use mathlib.Core.List.{List}
use mathlib.Core.Logic.{◌⊎◌, inl, inr, ⊎_elim}
use Prim.Native.Nat.{ℕ, zero, suc, ◌+◌, ◌^◌, ◌<◌, ◌≤◌}
use native.Mathlib.Omega.{arith}
use lib.Bits.{bit_xor}
use Rattle.spans.specs.Elements.{◌∈◌}
use Rattle.bondset.proofs.Laws.{lt_or_ge}
use Rattle.cycles.specs.Compound.{Compound, Sound, Joins, Walk, Distance}
use Rattle.cycles.specs.Ring.{len, Ring}
use Rattle.cycles.specs.Plain.{Path, PlainRing}
use Rattle.cycles.proofs.Edges.{is}
use Rattle.cycles.proofs.PathsDecide.{joins_sym}
use Rattle.cycles.proofs.PathsDown.{distance_here, distance_unique, down_first}
use Rattle.cycles.proofs.PlainPaths.{toward_far, toward_down, toward_zero, path_unique, Next, path_next}
use Rattle.cycles.proofs.PlainBonds.{turn_sum, loop, Closing, level_closing, back_none, next_closing}

-- P and Q meet in v alone.
abbrev Apart : ℕ → List ℕ → List ℕ → Type 0
Apart v P Q = (a : ℕ) → a ∈ P → a ∈ Q → a ≡ v

module _ (c : Compound) where
  -- The ends of a bond are as far from v, up to one.
  pub bond_near : {v d e y z j : ℕ} → Joins c j y z → Distance c y v d → Distance c z v e → d ≤ suc e
  bond_near {e} {j} joins far near = far.least (suc e) (Walk.step (j, joins) near.walk)

  -- A bond has two ends.
  pub joins_ends : {j a b a' b' : ℕ} → Joins c j a b → Joins c j a' b' → ((a ≡ a') × (b ≡ b')) ⊎ ((a ≡ b') × (b ≡ a'))
  joins_ends (Joins.given h e f) (Joins.given h' e' f') = inl (sym e ∙ e', sym f ∙ f')
  joins_ends (Joins.given h e f) (Joins.turned h' e' f') = inr (sym e ∙ f', sym f ∙ e')
  joins_ends (Joins.turned h e f) (Joins.given h' e' f') = inr (sym e ∙ f', sym f ∙ e')
  joins_ends (Joins.turned h e f) (Joins.turned h' e' f') = inl (sym e ∙ e', sym f ∙ f')

  -- The atom of a path is not v exactly if it has steps.
  pub path_some : {v t : ℕ} (d : ℕ) → Path c v t d → (v ≡ t → ⊥) → 0 < d
  path_some zero P other = absurd (other (toward_zero c P.toward))
  path_some (suc d) P other = omega arith

  -- The first atom is on the path.
  pub path_first : {v t d : ℕ} (P : Path c v t d) → t ∈ P.atoms
  path_first {v} P = down_first c (is v) (toward_down c P.toward)

module _ (c : Compound) (sound : Sound c) where
  -- Paths from one atom have the same bonds.
  pub path_same : {v t s d e : ℕ} (P : Path c v t d) (Q : Path c v s e) → t ≡ s → P.bonds ≡ Q.bonds
  path_same {v} {t} {s} {d} {e} P Q same = go (distance_unique c (subst (λ (x : ℕ). Distance c x v d) same (toward_far c P.toward)) (toward_far c Q.toward))
    where
      go : d ≡ e → P.bonds ≡ Q.bonds
      go f =
          subst (λ (n : ℕ). (X : Path c v s n) → P.bonds ≡ X.bonds) f
          (subst (λ (x : ℕ). (X : Path c v x d) → P.bonds ≡ X.bonds) same (path_unique c sound P)) Q

  -- An atom and a bond have at most one ring.
  pub plain_ring_unique : {v j S T : ℕ} → PlainRing c v j S → PlainRing c v j T → S ≡ T
  plain_ring_unique {j} r s =
      ⊎_elim
      (λ e. r.sum ∙ ap₂ (λ (x y : ℕ). bit_xor (bit_xor x y) (2 ^ j)) (path_same r.path_y s.path_y e.0) (path_same r.path_z s.path_z e.1) ∙ sym s.sum)
      (λ e. r.sum ∙ ap₂ (λ (x y : ℕ). bit_xor (bit_xor x y) (2 ^ j)) (path_same r.path_y s.path_z e.0) (path_same r.path_z s.path_y e.1)
      ∙ turn_sum s.path_y.bonds s.path_z.bonds (2 ^ j) ∙ sym s.sum) (joins_ends c r.joins s.joins)

  -- What two paths and a bond make up, where they meet in v alone and v is no end of the bond.
  pub record Round (S k : ℕ) : Type 0 where
    pub ring : Ring c S
    pub long : len c S ≡ k

  closing_round : {v k h S : ℕ} {P Q : List ℕ} → Closing c sound v k P Q S → Apart v P Q → k ≡ h → Round S h
  closing_round w apart e = let (ring, long) = w.round apart in record { ring = ring; long = long ∙ e }

  level_round : {v d j y z : ℕ} → Joins c j y z → (Y : Path c v y d) (Z : Path c v z d) → Apart v Y.atoms Z.atoms
      → (v ≡ y → ⊥) → Round (loop c Y Z j) (suc (d + d))
  level_round {d} joins Y Z apart other = closing_round (level_closing c sound joins (path_some c d Y other) Y Z) apart (omega arith)

  up_round : {v d j y z : ℕ} → Joins c j y z → (Y : Path c v y d) (Z : Path c v z (suc d)) → Apart v Y.atoms Z.atoms
      → (v ≡ y → ⊥) → Round (loop c Y Z j) (suc (d + suc d))
  up_round {v} {d} {j} {y} {z} joins Y Z apart other = closing_round (next_closing c sound joins Y Z n differ) apart (omega arith)
    where
      n : Next c sound v z d Z.atoms Z.bonds
      n = path_next c sound Z

      differ : n.next ≡ y → ⊥
      differ e =
          let first = subst (λ (x : ℕ). x ∈ n.rest.atoms) e (path_first c n.rest) in
          other (sym (apart y (path_first c Y) (subst (λ (l : List ℕ). y ∈ l) (sym n.atoms_are) (◌∈◌.later first))))

  module _ {v j y z : ℕ} (joins : Joins c j y z) where
    near_round : {d e : ℕ} (Y : Path c v y d) (Z : Path c v z e) → Apart v Y.atoms Z.atoms → (v ≡ y → ⊥) → (d ≡ e) ⊎ (suc d ≡ e)
        → Round (loop c Y Z j) (suc (d + e))
    near_round {d} Y Z apart other (inl e) =
        subst (λ (n : ℕ). (X : Path c v z n) → Apart v Y.atoms X.atoms → Round (loop c Y X j) (suc (d + n))) e
        (λ X f. level_round joins Y X f other) Z apart
    near_round {d} Y Z apart other (inr e) =
        subst (λ (n : ℕ). (X : Path c v z n) → Apart v Y.atoms X.atoms → Round (loop c Y X j) (suc (d + n))) e
        (λ X f. up_round joins Y X f other) Z apart

  round_turn : (d e : ℕ) {S T : ℕ} → S ≡ T → Round S (suc (e + d)) → Round T (suc (d + e))
  round_turn d e same r = record { ring = subst (Ring c) same r.ring; long = ap (len c) (sym same) ∙ r.long ∙ omega arith }

  -- Paths that meet in v alone make up a ring with a bond that does not end in v.
  pub apart_round : {v j d e y z : ℕ} → Joins c j y z → (Y : Path c v y d) (Z : Path c v z e) → Apart v Y.atoms Z.atoms
      → (v ≡ y → ⊥) → (v ≡ z → ⊥) → Round (loop c Y Z j) (suc (d + e))
  apart_round {v} {j} {d} {e} {y} {z} joins Y Z apart other_y other_z = ⊎_elim up down (lt_or_ge e d)
    where
      to : d ≤ suc e
      to = bond_near c joins (toward_far c Y.toward) (toward_far c Z.toward)

      back : e ≤ suc d
      back = bond_near c (joins_sym c joins) (toward_far c Z.toward) (toward_far c Y.toward)

      up : e < d → Round (loop c Y Z j) (suc (d + e))
      up h =
          round_turn d e (turn_sum Y.bonds Z.bonds (2 ^ j))
          (near_round (joins_sym c joins) Z Y (λ a p q. apart a q p) other_z (inr (omega (arith, h, to))))

      down : d ≤ e → Round (loop c Y Z j) (suc (d + e))
      down h = near_round joins Y Z apart other_y (elim (lt_or_ge d e) [ inl l ↦ inr (omega (arith, l, back)) | inr l ↦ inl (omega (arith, h, l)) ])

  first_none : {v j e y z : ℕ} → Joins c j y z → (Y : Path c v y 0) (Z : Path c v z e) → v ≡ y → 0 ≡ loop c Y Z j
  first_none {v} {j} {e} {y} {z} joins Y Z same = subst (λ (n : ℕ). (X : Path c v z n) → 0 ≡ loop c Y X j) one none Z
    where
      other : v ≡ z → ⊥
      other f = sound.no_loop j y (subst (λ (x : ℕ). Joins c j y x) (sym f ∙ same) joins)

      one : 1 ≡ e
      one = omega (arith, path_some c e Z other, bond_near c (joins_sym c joins) (toward_far c Z.toward) (toward_far c Y.toward))

      none : (X : Path c v z 1) → 0 ≡ loop c Y X j
      none X = let n = path_next c sound X in back_none c sound joins Y X n (sym (toward_zero c n.rest.toward) ∙ same)

  -- A bond at v makes up nothing.
  pub at_none : {v j d e y z : ℕ} → Joins c j y z → (Y : Path c v y d) (Z : Path c v z e) → v ≡ y → 0 ≡ loop c Y Z j
  at_none {v} {j} {d} {y} joins Y Z same =
      subst (λ (n : ℕ). (X : Path c v y n) → 0 ≡ loop c X Z j)
      (distance_unique c (subst (λ (x : ℕ). Distance c x v 0) same (distance_here c v)) (toward_far c Y.toward))
      (λ X. first_none joins X Z same) Y

  -- The bond of a ring of the method does not end in its atom.
  pub plain_ring_other : {v j S : ℕ} (r : PlainRing c v j S) → (v ≡ r.y → ⊥) × (v ≡ r.z → ⊥)
  plain_ring_other {v} {j} r = (
    λ e. omega (arith, r.ring.some, r.sum, at_none r.joins r.path_y r.path_z e),
    λ e. omega (arith, r.ring.some, r.sum, at_none (joins_sym c r.joins) r.path_z r.path_y e, turn_sum r.path_y.bonds r.path_z.bonds (2 ^ j)),
  )

  -- The length of a ring of the method: the steps of both paths, and the bond.
  pub plain_ring_long : {v j S : ℕ} (r : PlainRing c v j S) → len c S ≡ suc (r.steps_y + r.steps_z)
  plain_ring_long r =
      let (y, z) = plain_ring_other r in ap (len c) r.sum ∙ (apart_round r.joins r.path_y r.path_z r.apart y z).long

  -- A ring of the method has three bonds or more.
  pub plain_ring_three : {v j S : ℕ} → PlainRing c v j S → 3 ≤ len c S
  plain_ring_three r =
      let (y, z) = plain_ring_other r in
      omega (arith, plain_ring_long r, path_some c r.steps_y r.path_y y, path_some c r.steps_z r.path_z z)
