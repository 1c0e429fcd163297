-- The ring that the model computes of a length, an atom and a bond is that of the plain method, and it is empty where there is none.
use mathlib.Core.Path.{◌≡◌, refl, sym, ap, ap₂, ◌∙◌, subst}
use mathlib.Core.Bool.{cond, ◌&&◌, and-false}
use mathlib.Core.List.{List}
use mathlib.Core.Logic.{◌⊎◌, inl, inr, ◌↔◌}
use Prim.Native.Nat.{ℕ, suc, ◌+◌, ◌-◌, ◌/◌, ◌%◌, ◌^◌, ◌<◌, ◌≤◌}
use native.Mathlib.Omega.{arith}
use native.Mathlib.Decide.{map_dec, ℕ_discrete}
use borrow.Author.Tests.{eq-eqb, ne_eqb}
use lib.Bits.{bit_and, bit_xor, differ, xor_zero_l, xor_zero_r}
use lib.Dec.{eqb}
use lib.ListN.{length, get_or}
use Rattle.spans.specs.Elements.{◌∈◌}
use Rattle.bondset.specs.Sets.{bit, has}
use Rattle.bondset.proofs.Laws.{lt_or_ge, bit_xor_lem, bit_pow_other, zero_bit}
use Rattle.cycles.specs.Compound.{Compound, m, Sound, Joins, Distance}
use Rattle.cycles.specs.Ring.{len, Ring}
use Rattle.cycles.specs.Plain.{Path, PlainRing}
use Rattle.cycles.proofs.Edges.{is}
use Rattle.cycles.proofs.PathsDecide.{both_dec, apart_or_shared, joins_sym}
use Rattle.cycles.proofs.PathsDown.{distance_here, distance_unique, down_far}
use Rattle.cycles.proofs.PathsWays.{sums}
use Rattle.cycles.proofs.MembersApart.{is_same, is_other}
use Rattle.cycles.proofs.PlainPaths.{distance_down, toward_chosen, chosen_toward, toward_far, toward_unique, path_exists, path_unique, Next, path_next}
use Rattle.cycles.proofs.PlainBonds.{loop, differ_some, next_shared, plain_ring}
use Rattle.cycles.proofs.PlainRings.{path_first, apart_round}
use Rattle.cycles.proofs.PlainDecide.{crossed_none, Ends, ring_ends}
use Rattle.model.specs.Net.{net_of, nbrs, bond}
use Rattle.model.specs.Layer.{layers_into, low, walk}
use Rattle.model.specs.Plain.{others, level_ring, up_ring, ring_of}
use Rattle.model.proofs.Ready.{Held, Layered}
use Rattle.model.proofs.NetBits.{pow_has, full_has}
use Rattle.model.proofs.Layers.{bond_joins, layer_down, layers_layered}
use Rattle.model.proofs.Walks.{low_next, walk_chosen}

level_sum : {S : ℕ} (Y Z J B : ℕ) → S ≡ bit_xor (bit_xor Y Z) B → B ≡ J → S ≡ bit_xor (bit_xor Y Z) J
level_sum Y Z J B s b = s ∙ ap (bit_xor (bit_xor Y Z)) b

up_sum : {S Z : ℕ} (Y W I J : ℕ) → S ≡ bit_xor (bit_xor Y W) (bit_xor J I) → Z ≡ bit_xor I W → S ≡ bit_xor (bit_xor Y Z) J
up_sum Y W I J s z = simp (s, z, sums)

-- What is taken only if two bits are set.
both_set : (s y t z W : ℕ) → bit s y ≡ 1 → bit t z ≡ 1 → cond (has s y && has t z) W 0 ≡ W
both_set s y t z W e f = rw (eq-eqb (bit s y) 1 e, eq-eqb (bit t z) 1 f)

not_both_set : (s y t z W : ℕ) → (bit s y ≡ 1 → bit t z ≡ 1 → ⊥) → cond (has s y && has t z) W 0 ≡ 0
not_both_set s y t z W n = go (ℕ_discrete (bit s y) 1) (ℕ_discrete (bit t z) 1)
  where
    go : Dec (bit s y ≡ 1) → Dec (bit t z ≡ 1) → cond (has s y && has t z) W 0 ≡ 0
    go (yes e) (yes f) = absurd (n e f)
    go (yes e) (no k) = rw (ne_eqb (bit t z) 1 k, and-false) refl
    go (no k) d = rw (ne_eqb (bit s y) 1 k) refl

module _ (c : Compound) (v : ℕ) where
  -- S is the ring of length k of atom v and bond j, or it is empty and there is none.
  pub data Computed (k j S : ℕ) : Type 0 where
    empty : S ≡ 0 → ((T : ℕ) → PlainRing c v j T → len c T ≡ k → ⊥) → Computed k j S
    found : PlainRing c v j S → len c S ≡ k → Computed k j S

module _ (c : Compound) (v : ℕ) (pre : ℕ → ℕ) (held : Held c (is v) pre) (inside : v < c.n) where
  -- Paths that meet in v alone.
  apart_computed : {d e j y z S : ℕ} → Joins c j y z → (Y : Path c v y d) (Z : Path c v z e) → ((a : ℕ) → a ∈ Y.atoms → a ∈ Z.atoms → a ≡ v)
      → (v ≡ y → ⊥) → (v ≡ z → ⊥) → S ≡ loop c Y Z j → Computed c v (suc (d + e)) j S
  apart_computed joins Y Z apart other_y other_z sum =
      let r = apart_round c held.sound joins Y Z apart other_y other_z in
      Computed.found (plain_ring c held.sound joins Y Z apart sum (subst (Ring c) (sym sum) r.ring)) (ap (len c) sum ∙ r.long)

  -- An atom at some distance is not v.
  far_other : {d t : ℕ} → 0 < d → Distance c t v d → v ≡ t → ⊥
  far_other pos far e = omega (arith, distance_unique c (subst (λ (x : ℕ). Distance c x v 0) e (distance_here c v)) far)

  module _ (us : List ℕ) (h : ℕ) (layered : Layered c pre v h us) where
    -- Layer d holds the atoms at distance d.
    in_layer : (d t : ℕ) → d ≤ h → (bit (get_or us d 0) t ≡ 1) ↔ Distance c t v d
    in_layer d t l =
        rw (layered.are d l) (
          λ e. down_far c (is v) ((layer_down c (is v) pre held v t d inside).0 e).1,
          λ far. (layer_down c (is v) pre held v t d inside).1 (distance_down c far),
        )

    -- The two paths that are walked in step.
    record Pair (d p q ring : ℕ) : Type 0 where
      P : Path c v p d
      Q : Path c v q d
      apart : ((a : ℕ) → a ∈ P.atoms → a ∈ Q.atoms → a ≡ v) → walk (net_of c) us d p q ring ≡ bit_xor (bit_xor P.bonds Q.bonds) ring
      cross : (a : ℕ) → a ∈ P.atoms → a ∈ Q.atoms → (a ≡ v → ⊥) → walk (net_of c) us d p q ring ≡ 0

    pair : {d p q : ℕ} (ring : ℕ) → d ≤ h → Distance c p v d → Distance c q v d → (p ≡ q → ⊥) → Pair d p q ring
    pair {d} {p} {q} ring l far_p far_q ne =
        let w = walk_chosen c (is v) pre held us v h d p q ring inside layered l (distance_down c far_p) (distance_down c far_q) ne in
        record {
          P = record { atoms = w.P; toward = chosen_toward c held.sound w.chosen_p; bonds = w.from_p; edges = w.edges_p };
          Q = record { atoms = w.Q; toward = chosen_toward c held.sound w.chosen_q; bonds = w.from_q; edges = w.edges_q };
          apart = w.apart;
          cross = w.cross;
        }

    -- A bond between atoms at distance d.
    level_at : {d j y z : ℕ} → Joins c j y z → 0 < d → d ≤ h → Distance c y v d → Distance c z v d
        → Computed c v (suc (d + d)) j (walk (net_of c) us d y z (bond (net_of c) y z))
    level_at {d} {j} {y} {z} joins pos l far_y far_z = go (apart_or_shared v p.P.atoms p.Q.atoms)
      where
        ne : y ≡ z → ⊥
        ne e = held.sound.no_loop j z (subst (λ (x : ℕ). Joins c j x z) e joins)

        p : Pair d y z (bond (net_of c) y z)
        p = pair (bond (net_of c) y z) l far_y far_z ne

        go : ((a : ℕ) → a ∈ p.P.atoms → a ∈ p.Q.atoms → a ≡ v) ⊎ ((a : ℕ) × (a ∈ p.P.atoms) × (a ∈ p.Q.atoms) × (a ≡ v → ⊥))
            → Computed c v (suc (d + d)) j (walk (net_of c) us d y z (bond (net_of c) y z))
        go (inl apart) =
            apart_computed joins p.P p.Q apart (far_other pos far_y) (far_other pos far_z)
            (level_sum p.P.bonds p.Q.bonds (2 ^ j) _ (p.apart apart) (bond_joins c (is v) pre held j y z joins))
        go (inr (a, i, k, other)) = Computed.empty (p.cross a i k other) (λ T t e. other (crossed_none c held.sound joins p.P p.Q i k t))

    level_given : {d j y z : ℕ} → Joins c j y z → 0 < d → d ≤ h → Computed c v (suc (d + d)) j (level_ring (net_of c) us d y z)
    unfolding level_ring
    level_given {d} {j} {y} {z} joins pos l = go (ℕ_discrete (bit u y) 1) (ℕ_discrete (bit u z) 1)
      where
        u : ℕ
        u = get_or us d 0

        W : ℕ
        W = walk (net_of c) us d y z (bond (net_of c) y z)

        apart : (bit u y ≡ 1 → bit u z ≡ 1 → ⊥) → Computed c v (suc (d + d)) j (cond (has u y && has u z) W 0)
        apart n =
            Computed.empty (not_both_set u y u z W n)
            (λ T t e.
            let w = ring_ends c held.sound joins t in
            let d_y : w.d ≡ d = omega (arith, w.long, e, w.near.0, w.near.1) in
            let d_z : w.e ≡ d = omega (arith, w.long, e, w.near.0, w.near.1) in
            n ((in_layer d y l).1 (subst (Distance c y v) d_y w.far_y)) ((in_layer d z l).1 (subst (Distance c z v) d_z w.far_z)))

        go : Dec (bit u y ≡ 1) → Dec (bit u z ≡ 1) → Computed c v (suc (d + d)) j (cond (has u y && has u z) W 0)
        go (yes e) (yes f) =
            subst (Computed c v (suc (d + d)) j) (sym (both_set u y u z W e f)) (level_at joins pos l ((in_layer d y l).0 e) ((in_layer d z l).0 f))
        go (yes e) (no n) = apart (λ a b. n b)
        go (no n) f = apart (λ a b. n a)

    -- The lowest neighbour of z in layer d is the next atom of its path.
    low_is : {d z : ℕ} {P : List ℕ} {S : ℕ} → d ≤ h → (n : Next c held.sound v z d P S) → low (bit_and (nbrs (net_of c) z) (get_or us d 0)) ≡ n.next
    low_is l n =
        low_next c (is v) pre held us v h inside layered l (n.bond, n.joins) (λ s way b down. n.lowest s b (down_far c (is v) down))
        (toward_chosen c held.sound n.rest.toward)

    -- What is walked for a bond from y to z, whose path goes to w first.
    abbrev stepped : ℕ → ℕ → ℕ → ℕ → ℕ
    stepped d y z w = cond (eqb w y) 0 (walk (net_of c) us d y w (bit_xor (bond (net_of c) y z) (bond (net_of c) z w)))

    module _ {d j y z : ℕ} (joins : Joins c j y z) (l : d ≤ h) (far_y : Distance c y v d) (far_z : Distance c z v (suc d)) where
      Z : Path c v z (suc d)
      Z = path_exists c held.sound far_z

      n : Next c held.sound v z d Z.atoms Z.bonds
      n = path_next c held.sound Z

      back : n.next ≡ y → Computed c v (suc (d + suc d)) j (stepped d y z n.next)
      back e = Computed.empty (rw (eq-eqb n.next y e) refl) (λ T t f. (ring_ends c held.sound joins t).other_y (sym (shared t)))
        where
          Y : Path c v y d
          Y = path_exists c held.sound far_y

          shared : {T : ℕ} → PlainRing c v j T → y ≡ v
          shared t =
              let first = subst (λ (x : ℕ). x ∈ n.rest.atoms) e (path_first c n.rest) in
              crossed_none c held.sound joins Y Z (path_first c Y) (subst (λ (m : List ℕ). y ∈ m) (sym n.atoms_are) (◌∈◌.later first)) t

      on : (n.next ≡ y → ⊥) → Computed c v (suc (d + suc d)) j (stepped d y z n.next)
      on ne = subst (Computed c v (suc (d + suc d)) j) (sym test) (go (apart_or_shared v p.P.atoms p.Q.atoms))
        where
          ring : ℕ
          ring = bit_xor (bond (net_of c) y z) (bond (net_of c) z n.next)

          p : Pair d y n.next ring
          p = pair ring l far_y (toward_far c n.rest.toward) (λ e. ne (sym e))

          W : ℕ
          W = walk (net_of c) us d y n.next ring

          test : stepped d y z n.next ≡ W
          test = rw (ne_eqb n.next y ne) refl

          same : p.Q.atoms ≡ n.rest.atoms
          same = toward_unique c held.sound p.Q.toward n.rest.toward

          pos : 0 < d
          pos = differ_some c d p.P p.Q ne

          sum : ((a : ℕ) → a ∈ p.P.atoms → a ∈ p.Q.atoms → a ≡ v) → W ≡ loop c p.P Z j
          sum apart =
              up_sum p.P.bonds p.Q.bonds (2 ^ n.bond) (2 ^ j)
              (p.apart apart ∙ ap (bit_xor (bit_xor p.P.bonds p.Q.bonds))
              (ap₂ bit_xor (bond_joins c (is v) pre held j y z joins) (bond_joins c (is v) pre held n.bond z n.next n.joins)))
              (n.bonds_are ∙ ap (bit_xor (2 ^ n.bond)) (path_unique c held.sound n.rest p.Q))

          go : ((a : ℕ) → a ∈ p.P.atoms → a ∈ p.Q.atoms → a ≡ v) ⊎ ((a : ℕ) × (a ∈ p.P.atoms) × (a ∈ p.Q.atoms) × (a ≡ v → ⊥))
              → Computed c v (suc (d + suc d)) j W
          go (inl apart) =
              apart_computed joins p.P Z
              (λ a i k. apart a i (subst (λ (m : List ℕ). a ∈ m) (sym same) (next_shared c held.sound joins p.P Z n a i k)))
              (far_other pos far_y) (far_other (omega arith) far_z) (sum apart)
          go (inr (a, i, k, other)) =
              Computed.empty (p.cross a i k other)
              (λ T t e. other (crossed_none c held.sound joins p.P Z i
              (subst (λ (m : List ℕ). a ∈ m) (sym n.atoms_are) (◌∈◌.later (subst (λ (m : List ℕ). a ∈ m) same k))) t))

      up_at : Computed c v (suc (d + suc d)) j (stepped d y z (low (bit_and (nbrs (net_of c) z) (get_or us d 0))))
      up_at = rw (low_is l n) (elim (ℕ_discrete n.next y) [ yes e ↦ back e | no ne ↦ on ne ])

    -- Whether an atom is at distance d is read off layer d.
    layer_dec : (d t : ℕ) → d ≤ h → Dec (Distance c t v d)
    layer_dec d t l = map_dec (in_layer d t l).0 (in_layer d t l).1 (ℕ_discrete (bit (get_or us d 0) t) 1)

    up_found : {d j y z : ℕ} → Joins c j y z → suc d ≤ h → Distance c y v d → Distance c z v (suc d)
        → Computed c v (suc (d + suc d)) j (up_ring (net_of c) us d y z)
    unfolding up_ring
    up_found {d} {j} {y} {z} joins l far_y far_z =
        subst (Computed c v (suc (d + suc d)) j)
        (sym (both_set (get_or us d 0) y (get_or us (suc d) 0) z _ ((in_layer d y (omega arith)).1 far_y) ((in_layer (suc d) z l).1 far_z)))
        (up_at joins (omega arith) far_y far_z)

    up_zero : {d y z : ℕ} → suc d ≤ h → (Distance c y v d → Distance c z v (suc d) → ⊥) → up_ring (net_of c) us d y z ≡ 0
    unfolding up_ring
    up_zero {d} {y} {z} l n =
        not_both_set (get_or us d 0) y (get_or us (suc d) 0) z _ (λ e f. n ((in_layer d y (omega arith)).0 e) ((in_layer (suc d) z l).0 f))

    not_twice : {d t : ℕ} → Distance c t v d → Distance c t v (suc d) → ⊥
    not_twice far near = omega (arith, distance_unique c far near)

    module _ {d j y z : ℕ} (joins : Joins c j y z) (l : suc d ≤ h) where
      abbrev S : ℕ
      S = bit_xor (up_ring (net_of c) us d y z) (up_ring (net_of c) us d z y)

      even_none : (Distance c y v d → Distance c z v (suc d) → ⊥) → (Distance c z v d → Distance c y v (suc d) → ⊥) → Computed c v (suc (d + suc d)) j S
      even_none a b =
          Computed.empty (ap₂ bit_xor (up_zero l a) (up_zero l b) ∙ xor_zero_l 0)
          (λ T t e. sides (ring_ends c held.sound joins t) e)
        where
          sides : {k : ℕ} (w : Ends c held.sound v y z k) → k ≡ suc (d + suc d) → ⊥
          sides w e = elim (lt_or_ge w.d w.e) [
            | inl less ↦
                let d_y : w.d ≡ d = omega (arith, w.long, e, w.near.1, less) in
                let d_z : w.e ≡ suc d = omega (arith, w.long, e, w.near.1, less) in
                a (subst (Distance c y v) d_y w.far_y) (subst (Distance c z v) d_z w.far_z)
            | inr more ↦
                let d_y : w.d ≡ suc d = omega (arith, w.long, e, w.near.0, more) in
                let d_z : w.e ≡ d = omega (arith, w.long, e, w.near.0, more) in
                b (subst (Distance c z v) d_z w.far_z) (subst (Distance c y v) d_y w.far_y)
          ]

      even_first : Distance c y v d → Distance c z v (suc d) → Computed c v (suc (d + suc d)) j S
      even_first far_y far_z =
          subst (Computed c v (suc (d + suc d)) j) (sym (ap (bit_xor (up_ring (net_of c) us d y z)) (up_zero l (λ a b. not_twice a far_z)) ∙ xor_zero_r _))
          (up_found joins l far_y far_z)

      even_second : Distance c z v d → Distance c y v (suc d) → Computed c v (suc (d + suc d)) j S
      even_second far_z far_y =
          subst (Computed c v (suc (d + suc d)) j)
          (sym (ap (λ (x : ℕ). bit_xor x (up_ring (net_of c) us d z y)) (up_zero l (λ a b. not_twice a far_y)) ∙ xor_zero_l _))
          (up_found (joins_sym c joins) l far_z far_y)

      even_by : Dec (Distance c y v d × Distance c z v (suc d)) → Dec (Distance c z v d × Distance c y v (suc d)) → Computed c v (suc (d + suc d)) j S
      even_by (yes (a, b)) f = even_first a b
      even_by (no n) (yes (a, b)) = even_second a b
      even_by (no n) (no k) = even_none (λ a b. n (a, b)) (λ a b. k (a, b))

      even_given : Computed c v (suc (d + suc d)) j S
      even_given =
          even_by (both_dec (layer_dec d y (omega arith)) (layer_dec (suc d) z l)) (both_dec (layer_dec d z (omega arith)) (layer_dec (suc d) y l))

    -- What is computed for a length, an atom and a bond is the ring of the plain method, or there is none.
    pub ring_given : {j y z : ℕ} (k : ℕ) → Joins c j y z → 3 ≤ k → k / 2 ≤ h → Computed c v k j (ring_of (net_of c) us k y z)
    unfolding ring_of
    ring_given {j} {y} {z} k joins three l = go (ℕ_discrete (k % 2) 1)
      where
        go : Dec (k % 2 ≡ 1)
            → Computed c v k j (cond (eqb (k % 2) 1) (level_ring (net_of c) us (k / 2) y z) (bit_xor (up_ring (net_of c) us (k / 2 - 1) y z) (up_ring (net_of c) us (k / 2 - 1) z y)))
        go (yes e) =
            let size : suc (k / 2 + k / 2) ≡ k = omega arith in
            rw (eq-eqb (k % 2) 1 e) (subst (λ (i : ℕ). Computed c v i j (level_ring (net_of c) us (k / 2) y z)) size (level_given joins (omega arith) l))
        go (no n) =
            let size : suc (k / 2 - 1 + suc (k / 2 - 1)) ≡ k = omega arith in
            rw (ne_eqb (k % 2) 1 n)
            (subst (λ (i : ℕ). Computed c v i j (bit_xor (up_ring (net_of c) us (k / 2 - 1) y z) (up_ring (net_of c) us (k / 2 - 1) z y))) size
            (even_given joins (omega arith)))

-- ---- the layers of all atoms about v
-- The sets of preceding atoms of the ranking in which every other atom precedes v.
abbrev pub others_at : ℕ → ℕ → ℕ → ℕ
others_at n v r = cond (eqb r v) (others n v) 0

others_has : (n v a : ℕ) → a < n → (bit (others n v) a ≡ 1) ↔ (v ≡ a → ⊥)
unfolding others
others_has n v a h = go (ℕ_discrete v a)
  where
    at : (x : ℕ) → bit (2 ^ v) a ≡ x → bit (bit_xor (2 ^ n - 1) (2 ^ v)) a ≡ differ 1 x
    at x e = bit_xor_lem (2 ^ n - 1) (2 ^ v) a ∙ ap₂ differ (full_has n a h) e

    go : Dec (v ≡ a) → (bit (bit_xor (2 ^ n - 1) (2 ^ v)) a ≡ 1) ↔ (v ≡ a → ⊥)
    go (yes e) = (λ f g. omega (arith, f, at 1 ((pow_has v a).1 e)), λ n. absurd (n e))
    go (no n) = (λ f. n, λ f. at 0 (bit_pow_other v a n))

-- A simple compound within the limits, in however many pieces.
pub others_held : (c : Compound) (v : ℕ) → Sound c → c.n ≤ 64 → m c ≤ 96 → Held c (is v) (others_at c.n v)
others_held c v sound atoms bonds = record { sound = sound; atoms = atoms; bonds = bonds; precede = λ r a h l. precede r a l (ℕ_discrete r v) }
  where
    precede : (r a : ℕ) → a < c.n → Dec (r ≡ v) → (bit (others_at c.n v r) a ≡ 1) ↔ (is v a < is v r)
    precede r a l (yes e) =
        let top : is v r ≡ 1 = ap (is v) e ∙ is_same v in
        rw (eq-eqb r v e) (
          λ b. omega (arith, top, is_other v a ((others_has c.n v a l).0 b)),
          λ less. (others_has c.n v a l).1 (λ f. omega (arith, less, top, ap (is v) (sym f), is_same v)),
        )
    precede r a l (no n) =
        let top : is v r ≡ 0 = is_other v r (λ f. n (sym f)) in
        rw (ne_eqb r v n) (λ b. absurd (omega (arith, b, zero_bit a)), λ less. absurd (omega (arith, less, top)))

-- The ring computed from the layers of all atoms about v is that of the plain method, and it is empty where there is none.
pub plain_computed_lem : (c : Compound) (v : ℕ) → Sound c → c.n ≤ 64 → m c ≤ 96 → v < c.n → (k : ℕ) (us : List ℕ) → k / 2 < length us → 3 ≤ k
    → {j y z : ℕ} → Joins c j y z → Computed c v k j (ring_of (net_of c) (layers_into (net_of c) (others c.n v) v (k / 2) us) k y z)
plain_computed_lem c v sound atoms bonds inside k us room three joins =
    let held = others_held c v sound atoms bonds in
    let layered = layers_layered c (is v) (others_at c.n v) held v (k / 2) us room in
    let l : k / 2 ≤ k / 2 = omega arith in
    rw (eq-eqb v v refl) at (ring_given c v (others_at c.n v) held inside _ (k / 2) layered k joins three l)
