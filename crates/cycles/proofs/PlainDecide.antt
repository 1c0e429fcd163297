-- Whether an atom and a bond have a ring of the plain method is decided.
use mathlib.Core.Path.{◌≡◌, refl, ap, ◌∙◌, subst}
use mathlib.Core.List.{List, [], ◌∷◌}
use mathlib.Core.Logic.{◌⊎◌, inl, inr, ⊎_elim}
use Prim.Native.Nat.{ℕ, zero, suc, ◌+◌, ◌^◌, ◌<◌, ◌≤◌}
use native.Mathlib.Omega.{arith}
use native.Mathlib.Decide.{ℕ_discrete, dec_lt}
use lib.ListN.{length}
use Rattle.spans.specs.Elements.{◌∈◌}
use Rattle.bondset.proofs.Laws.{lt_or_ge}
use Rattle.cycles.specs.Compound.{Compound, m, one, other, Sound, Joins, Bonded, Distance}
use Rattle.cycles.specs.Ring.{len, Ring}
use Rattle.cycles.specs.Family.{Down}
use Rattle.cycles.specs.Plain.{Path, PlainRing}
use Rattle.cycles.proofs.Edges.{is}
use Rattle.cycles.proofs.PathsDecide.{apart_or_shared, some_dec, joins_sym, joins_below, distance_dec}
use Rattle.cycles.proofs.PathsDown.{in_one, distance_unique, down_length, down_once}
use Rattle.cycles.proofs.MembersLists.{once_length_le}
use Rattle.cycles.proofs.PlainPaths.{toward_far, toward_unique, distance_down, path_exists}
use Rattle.cycles.proofs.PlainBonds.{turn_sum, loop, plain_ring}
use Rattle.cycles.proofs.PlainRings.{bond_near, joins_ends, apart_round, at_none}

-- ---- distances are below the number of atoms
-- The numbers below n.
pub numbers : ℕ → List ℕ
numbers zero = []
numbers (suc n) = n ∷ numbers n

pub in_numbers : (n a : ℕ) → a < n → a ∈ numbers n
unfolding numbers
in_numbers zero a h = absurd (omega arith)
in_numbers (suc n) a h =
    ⊎_elim (λ l. ◌∈◌.later (in_numbers n a l)) (λ g. let e : n ≡ a = omega arith in subst (λ (x : ℕ). x ∈ (n ∷ numbers n)) e ◌∈◌.first) (lt_or_ge a n)

pub length_numbers : (n : ℕ) → length (numbers n) ≡ n
unfolding numbers
length_numbers zero = refl
length_numbers (suc n) = ap suc (length_numbers n)

module _ (c : Compound) (sound : Sound c) where
  bonded_named : {a b : ℕ} → Bonded c a b → b < c.n
  bonded_named (k, j) = sound.named k _ _ (joins_sym c j)

  down_named : {v t d a : ℕ} {P : List ℕ} → t < c.n → Down c (is v) v t d P → a ∈ P → a < c.n
  down_named h Down.top i = subst (λ (x : ℕ). x < c.n) (in_one i) h
  down_named h (Down.step before far bond down) ◌∈◌.first = h
  down_named h (Down.step before far bond down) (◌∈◌.later i) = down_named (bonded_named bond) down i

  distance_below : {v t d : ℕ} → t < c.n → Distance c t v d → d < c.n
  distance_below {v} h far =
      let (P, down) = distance_down c far in
      let few = once_length_le (down_once c (is v) down) (λ a i. in_numbers c.n a (down_named h down i)) in
      omega (arith, few, down_length c (is v) down, length_numbers c.n)

  down_top_named : {v t d : ℕ} {P : List ℕ} → t < c.n → Down c (is v) v t d P → v < c.n
  down_top_named h Down.top = h
  down_top_named h (Down.step before far bond down) = down_top_named (bonded_named bond) down

  -- The atom of a ring of the method is an atom of the compound.
  pub plain_ring_named : {v j S : ℕ} → PlainRing c v j S → v < c.n
  plain_ring_named {v} {j} r = down_top_named (sound.named j r.y r.z r.joins) (distance_down c (toward_far c r.path_y.toward)).1

  -- Whether an atom is at a distance from v at all is decided.
  some_distance_dec : {v t : ℕ} → t < c.n → Dec ((d : ℕ) × Distance c t v d)
  some_distance_dec {v} {t} h = some_dec (λ d. Distance c t v d) (λ d. distance_dec c sound t v d) c.n (λ d far. distance_below h far)

  -- ---- whether an atom and a bond have a ring
  -- A ring of the method, with the ends of its bond given.
  record Paired (v j y z S : ℕ) : Type 0 where
    d : ℕ
    e : ℕ
    Y : Path c v y d
    Z : Path c v z e
    apart : (a : ℕ) → a ∈ Y.atoms → a ∈ Z.atoms → a ≡ v
    sum : S ≡ loop c Y Z j
    ring : Ring c S

  ring_paired : {v j S : ℕ} (r : PlainRing c v j S) → Paired v j r.y r.z S
  ring_paired r = record { d = _; e = _; Y = r.path_y; Z = r.path_z; apart = r.apart; sum = r.sum; ring = r.ring }

  paired_turn : {v j y z S : ℕ} → Paired v j y z S → Paired v j z y S
  paired_turn {j} r = record {
    d = r.e;
    e = r.d;
    Y = r.Z;
    Z = r.Y;
    apart = λ a p q. r.apart a q p;
    sum = r.sum ∙ turn_sum r.Z.bonds r.Y.bonds (2 ^ j);
    ring = r.ring;
  }

  paired_at : {v j y z y' z' S : ℕ} → (y ≡ y') × (z ≡ z') → Paired v j y z S → Paired v j y' z' S
  paired_at {v} {j} {y} {z} {y'} {z'} {S} (e, f) r = subst (λ (x : ℕ). Paired v j y' x S) f (subst (λ (x : ℕ). Paired v j x z S) e r)

  ring_at : {v j y z S : ℕ} → Joins c j y z → PlainRing c v j S → Paired v j y z S
  ring_at joins r =
      ⊎_elim (λ e. paired_at e (ring_paired r)) (λ e. paired_turn (paired_at e (ring_paired r))) (joins_ends c r.joins joins)

  path_atoms : {v t d e : ℕ} (P : Path c v t d) (Q : Path c v t e) → P.atoms ≡ Q.atoms
  path_atoms {v} {t} {d} {e} P Q =
      subst (λ (n : ℕ). (X : Path c v t n) → P.atoms ≡ X.atoms) (distance_unique c (toward_far c P.toward) (toward_far c Q.toward))
      (λ X. toward_unique c sound P.toward X.toward) Q

  -- Paths that share another atom than v: there is no ring.
  pub crossed_none : {v j d e y z a S : ℕ} → Joins c j y z → (Y : Path c v y d) (Z : Path c v z e) → a ∈ Y.atoms → a ∈ Z.atoms
      → PlainRing c v j S → a ≡ v
  crossed_none {a = a} joins Y Z p q r =
      let w = ring_at joins r in
      w.apart a (subst (λ (l : List ℕ). a ∈ l) (path_atoms Y w.Y) p) (subst (λ (l : List ℕ). a ∈ l) (path_atoms Z w.Z) q)

  -- The ends of the bond of a ring: their distances say its length, and neither is v.
  pub record Ends (v y z k : ℕ) : Type 0 where
    pub d : ℕ
    pub e : ℕ
    pub far_y : Distance c y v d
    pub far_z : Distance c z v e
    pub near : (d ≤ suc e) × (e ≤ suc d)
    pub long : k ≡ suc (d + e)
    pub other_y : v ≡ y → ⊥
    pub other_z : v ≡ z → ⊥

  not_at : {v j y z S : ℕ} → Joins c j y z → v ≡ y → Paired v j y z S → ⊥
  not_at joins e r = omega (arith, r.ring.some, r.sum, at_none c sound joins r.Y r.Z e)

  -- What a ring says of the ends of its bond.
  pub ring_ends : {v j y z S : ℕ} → Joins c j y z → PlainRing c v j S → Ends v y z (len c S)
  ring_ends {v} {y = y} {z = z} joins r =
      let w = ring_at joins r in
      let far_y = toward_far c w.Y.toward in
      let far_z = toward_far c w.Z.toward in
      let other_y : v ≡ y → ⊥ = λ e. not_at joins e w in
      let other_z : v ≡ z → ⊥ = λ e. not_at (joins_sym c joins) e (paired_turn w) in
      record {
        d = w.d;
        e = w.e;
        far_y = far_y;
        far_z = far_z;
        near = (bond_near c joins far_y far_z, bond_near c (joins_sym c joins) far_z far_y);
        long = ap (len c) w.sum ∙ (apart_round c sound joins w.Y w.Z w.apart other_y other_z).long;
        other_y = other_y;
        other_z = other_z;
      }

  module _ {v j y z : ℕ} (joins : Joins c j y z) where
    paths_dec : {d e : ℕ} (Y : Path c v y d) (Z : Path c v z e) → Dec (v ≡ y) → Dec (v ≡ z) → Dec ((S : ℕ) × PlainRing c v j S)
    paths_dec Y Z (yes same) near = no (λ r. not_at joins same (ring_at joins r.1))
    paths_dec Y Z (no n) (yes same) = no (λ r. not_at (joins_sym c joins) same (paired_turn (ring_at joins r.1)))
    paths_dec Y Z (no n) (no k) = go (apart_or_shared v Y.atoms Z.atoms)
      where
        go : ((a : ℕ) → a ∈ Y.atoms → a ∈ Z.atoms → a ≡ v) ⊎ ((a : ℕ) × (a ∈ Y.atoms) × (a ∈ Z.atoms) × (a ≡ v → ⊥))
            → Dec ((S : ℕ) × PlainRing c v j S)
        go (inl apart) = yes (_, plain_ring c sound joins Y Z apart refl (apart_round c sound joins Y Z apart n k).ring)
        go (inr (a, p, q, other)) = no (λ r. other (crossed_none joins Y Z p q r.1))

    ends_dec : Dec ((d : ℕ) × Distance c y v d) → Dec ((d : ℕ) × Distance c z v d) → Dec ((S : ℕ) × PlainRing c v j S)
    ends_dec (yes (d, far)) (yes (e, near)) = paths_dec (path_exists c sound far) (path_exists c sound near) (ℕ_discrete v y) (ℕ_discrete v z)
    ends_dec (yes far) (no n) = no (λ r. let p = ring_at joins r.1 in n (p.e, toward_far c p.Z.toward))
    ends_dec (no n) d = no (λ r. let p = ring_at joins r.1 in n (p.d, toward_far c p.Y.toward))

  -- Whether an atom and a bond have a ring is decided.
  pub plain_ring_dec : (v j : ℕ) → Dec ((S : ℕ) × PlainRing c v j S)
  plain_ring_dec v j = go (dec_lt j (m c))
    where
      go : Dec (j < m c) → Dec ((S : ℕ) × PlainRing c v j S)
      go (no n) = no (λ r. n (joins_below c r.1.joins))
      go (yes h) =
          let joins : Joins c j (one c j) (other c j) = Joins.given h refl refl in
          ends_dec joins (some_distance_dec (sound.named j _ _ joins)) (some_distance_dec (sound.named j _ _ (joins_sym c joins)))
