-- What the two paths of an atom and a bond make up with the bond: a listed ring, a sum of shorter rings, or nothing.
use mathlib.Core.Path.{◌≡◌, refl, sym, ap, ◌∙◌, subst}
use mathlib.Core.List.{List, ◌∷◌}
use mathlib.Core.Logic.{⊎_elim}
use Prim.Native.Nat.{ℕ, zero, suc, ◌*◌, ◌+◌, ◌^◌, ◌<◌, ◌≤◌}
use native.Mathlib.Omega.{arith}
use native.Mathlib.Decide.{ℕ_discrete}
use lib.Bits.{bit_xor}
use Rattle.spans.specs.Elements.{◌∈◌}
use Rattle.spans.proofs.Marking.{Covered, covered_one, covered_short}
use Rattle.bondset.proofs.Group.{bond_sets}
use Rattle.bondset.proofs.Laws.{lt_or_ge}
use Rattle.cycles.specs.Compound.{Compound, Sound, Joins}
use Rattle.cycles.specs.Ring.{len, Closed, Ring, Edges}
use Rattle.cycles.specs.Family.{Family, Under, Candidate}
use Rattle.cycles.specs.Plain.{Path, PlainRing}
use Rattle.cycles.proofs.Shorter.{Shorter, shorter_zero}
use Rattle.cycles.proofs.Edges.{is}
use Rattle.cycles.proofs.PathsDecide.{apart_or_shared, joins_sym}
use Rattle.cycles.proofs.PathsWays.{sums}
use Rattle.cycles.proofs.PathsDown.{down_before, down_near}
use Rattle.cycles.proofs.Families.{Made, crossing_shorter, apart_ring}
use Rattle.cycles.proofs.Bases.{shorter_short}
use Rattle.cycles.proofs.PlainPaths.{toward_far, toward_down, toward_zero, path_unique, Next, path_next}

level_sum : (Y Z J : ℕ) → bit_xor (bit_xor Y Z) J ≡ bit_xor (bit_xor Y Z) (bit_xor J 0)
level_sum Y Z J = simp sums

pub turn_sum : (Y Z J : ℕ) → bit_xor (bit_xor Z Y) J ≡ bit_xor (bit_xor Y Z) J
turn_sum Y Z J = simp sums

up_sum : {Z : ℕ} (Y W I J : ℕ) → Z ≡ bit_xor I W → bit_xor (bit_xor Y Z) J ≡ bit_xor (bit_xor Y W) (bit_xor J (bit_xor I 0))
up_sum Y W I J e = simp (e, sums)

up_turned : {Z : ℕ} (Y W I J : ℕ) → Z ≡ bit_xor I W → bit_xor (bit_xor Y Z) J ≡ bit_xor (bit_xor W Y) (bit_xor I (bit_xor J 0))
up_turned Y W I J e = simp (e, sums)

up_none : {Y Z I : ℕ} (W J : ℕ) → Z ≡ bit_xor I W → W ≡ Y → I ≡ J → 0 ≡ bit_xor (bit_xor Y Z) J
up_none W J e f g = simp (e, sym f, g, sums)

-- The bonds of two paths, and a bond.
abbrev pub loop : (c : Compound) {v d e y z : ℕ} → Path c v y d → Path c v z e → ℕ → ℕ
loop c Y Z j = bit_xor (bit_xor Y.bonds Z.bonds) (2 ^ j)

-- What is on the first path is not the atom before the second.
apart_rest : {z a : ℕ} {P Q : List ℕ} → (z ∈ P → ⊥) → a ∈ P → a ∈ (z ∷ Q) → a ∈ Q
apart_rest absent p ◌∈◌.first = absurd (absent p)
apart_rest absent p (◌∈◌.later h) = h

-- Different atoms equally far from v are not v.
pub differ_some : (c : Compound) {v y w : ℕ} (d : ℕ) → Path c v y d → Path c v w d → (w ≡ y → ⊥) → 0 < d
differ_some c zero Y W differ = absurd (differ (sym (toward_zero c W.toward) ∙ toward_zero c Y.toward))
differ_some c (suc d) Y W differ = omega arith

-- S is a sum of sets of the list that are no longer than k, but for shorter closed sets.
abbrev pub Reached : Compound → List ℕ → ℕ → ℕ → Type 0
Reached c ps k S = Covered bond_sets (len c) (Closed c) k ps S

-- A sum of shorter rings.
pub shorter_reached : (c : Compound) {ps : List ℕ} {k S : ℕ} → Shorter c k S → Reached c ps k S
shorter_reached c s = covered_short bond_sets (len c) (Closed c) (shorter_short c s)

module _ (c : Compound) (sound : Sound c) where
  -- What S is if the paths P and Q to v cross, a sum of rings shorter than k, and if they meet in v alone, a ring of length k.
  pub record Closing (v k : ℕ) (P Q : List ℕ) (S : ℕ) : Type 0 where
    pub cross : (a : ℕ) → a ∈ P → a ∈ Q → (a ≡ v → ⊥) → Shorter c k S
    pub round : ((a : ℕ) → a ∈ P → a ∈ Q → a ≡ v) → Ring c S × (len c S ≡ k)

  closing_turn : {v k S : ℕ} {P Q : List ℕ} → Closing v k P Q S → Closing v k Q P S
  closing_turn s = record { cross = λ a p q. s.cross a q p; round = λ apart. s.round (λ a p q. apart a q p) }

  made_closing : {rank : ℕ → ℕ} {f : Family} {d S : ℕ} {link P Q : List ℕ} → Made c sound rank f d link P Q S → Closing f.r f.long P Q S
  made_closing {rank} s = record {
    cross = λ a p q other. crossing_shorter c sound rank s p q other;
    round = λ apart. let w = apart_ring c sound rank s apart in (w.ring, w.long);
  }

  -- An atom with a path of some steps is under v.
  path_under : {v t d : ℕ} → Path c v t d → 0 < d → Under c (is v) v t d
  path_under {v} P some = let down = toward_down c P.toward in (down_before c (is v) down some, (P.atoms, down))

  -- What two paths to v make up with a link between their first atoms.
  pub path_made : {v d y z k x L S : ℕ} {link : List ℕ} (Y : Path c v y d) (Z : Path c v z d)
      → Candidate c (is v) (record { long = k; r = v; p = y; q = z; x = x }) d link → Edges c link L → S ≡ bit_xor (bit_xor Y.bonds Z.bonds) L
      → Made c sound (is v) (record { long = k; r = v; p = y; q = z; x = x }) d link Y.atoms Z.atoms S
  path_made {L} Y Z candidate edges sum = record {
    candidate = candidate;
    down_p = toward_down c Y.toward;
    down_q = toward_down c Z.toward;
    made = record {
      from_p = Y.bonds;
      from_q = Z.bonds;
      between = L;
      edges_p = Y.edges;
      edges_q = Z.edges;
      edges_link = edges;
      sum = sum;
    };
  }

  level_less : {v d y z j : ℕ} → y < z → Joins c j y z → 0 < d → (Y : Path c v y d) (Z : Path c v z d)
      → Closing v (2 * d + 1) Y.atoms Z.atoms (loop c Y Z j)
  level_less {j} less joins some Y Z =
      made_closing (path_made Y Z (Candidate.odd less (j, joins) (path_under Y some) (path_under Z some) refl) (Edges.more joins Edges.point refl)
      (level_sum Y.bonds Z.bonds (2 ^ j)))

  -- A bond between atoms that are equally far from v.
  pub level_closing : {v d y z j : ℕ} → Joins c j y z → 0 < d → (Y : Path c v y d) (Z : Path c v z d)
      → Closing v (2 * d + 1) Y.atoms Z.atoms (loop c Y Z j)
  level_closing {v} {d} {y} {z} {j} joins some Y Z = ⊎_elim (λ less. level_less less joins some Y Z) (λ ge. turned (other ge)) (lt_or_ge y z)
    where
      other : z ≤ y → z < y
      other ge =
          let differ : z ≡ y → ⊥ = λ e. sound.no_loop j y (subst (λ (x : ℕ). Joins c j y x) e joins) in omega arith

      turned : z < y → Closing v (2 * d + 1) Y.atoms Z.atoms (loop c Y Z j)
      turned less =
          subst (Closing v (2 * d + 1) Y.atoms Z.atoms) (turn_sum Y.bonds Z.bonds (2 ^ j))
          (closing_turn (level_less less (joins_sym c joins) some Z Y))

  -- A bond from y to z, which is farther from v by one and steps to w.
  up_closing : {v d y w z i j : ℕ} → Joins c j y z → Joins c i z w → 0 < d → (w ≡ y → ⊥) → (Y : Path c v y d) (W : Path c v w d)
      → (Z : Path c v z (suc d)) → Z.bonds ≡ bit_xor (2 ^ i) W.bonds
      → Closing v (2 * suc d) Y.atoms W.atoms (loop c Y Z j)
  up_closing {v} {d} {y} {w} {z} {i} {j} to_z to_w some differ Y W Z sum = ⊎_elim less more (lt_or_ge y w)
    where
      under_y : Under c (is v) v y d
      under_y = path_under Y some

      under_w : Under c (is v) v w d
      under_w = path_under W some

      under_z : Under c (is v) v z (suc d)
      under_z = path_under Z (omega arith)

      less : y < w → Closing v (2 * suc d) Y.atoms W.atoms (loop c Y Z j)
      less h =
          made_closing (path_made Y W (Candidate.even h (j, to_z) (i, to_w) under_z under_y under_w refl)
          (Edges.more to_z (Edges.more to_w Edges.point refl) refl) (up_sum Y.bonds W.bonds (2 ^ i) (2 ^ j) sum))

      more : w ≤ y → Closing v (2 * suc d) Y.atoms W.atoms (loop c Y Z j)
      more h =
          closing_turn (made_closing (path_made W Y (Candidate.even (omega arith) (i, joins_sym c to_w) (j, joins_sym c to_z) under_z under_w under_y refl)
          (Edges.more (joins_sym c to_w) (Edges.more (joins_sym c to_z) Edges.point refl) refl) (up_turned Y.bonds W.bonds (2 ^ i) (2 ^ j) sum)))

  module _ {v d y z j : ℕ} (joins : Joins c j y z) (Y : Path c v y d) (Z : Path c v z (suc d)) where
    -- The bond is the first step of the path from z: all cancels.
    pub back_none : (n : Next c sound v z d Z.atoms Z.bonds) → n.next ≡ y → 0 ≡ loop c Y Z j
    back_none n e =
        up_none n.rest.bonds (2 ^ j) n.bonds_are
        (subst (λ (x : ℕ). (X : Path c v x d) → n.rest.bonds ≡ X.bonds) e (path_unique c sound n.rest) Y)
        (ap (λ (k : ℕ). 2 ^ k) (sound.once n.bond j z y (subst (Joins c n.bond z) e n.joins) (joins_sym c joins)))

    away : z ∈ Y.atoms → ⊥
    away = down_near c (is v) (toward_down c Y.toward) (toward_far c Z.toward) (omega arith)

    -- What is on the paths from y and z is on those from y and from the next atom.
    pub next_shared : (n : Next c sound v z d Z.atoms Z.bonds) → (a : ℕ) → a ∈ Y.atoms → a ∈ Z.atoms → a ∈ n.rest.atoms
    next_shared n a p q = apart_rest away p (subst (λ (l : List ℕ). a ∈ l) n.atoms_are q)

    -- It is not: the paths from y and z meet where those from y and from the next atom do.
    pub next_closing : (n : Next c sound v z d Z.atoms Z.bonds) → (n.next ≡ y → ⊥)
        → Closing v (2 * suc d) Y.atoms Z.atoms (loop c Y Z j)
    next_closing n differ = record {
      cross = λ a p q other. w.cross a p (next_shared n a p q) other;
      round = λ apart. w.round (λ a p q. apart a p (subst (λ (l : List ℕ). a ∈ l) (sym n.atoms_are) (◌∈◌.later q)));
    }
      where
        w : Closing v (2 * suc d) Y.atoms n.rest.atoms (loop c Y Z j)
        w = up_closing joins n.joins (differ_some c d Y n.rest differ) differ Y n.rest Z n.bonds_are

  -- Paths that meet in v alone, and a bond between their first atoms, are a ring of the method.
  pub plain_ring : {v d e j y z S : ℕ} → Joins c j y z → (Y : Path c v y d) (Z : Path c v z e) → ((a : ℕ) → a ∈ Y.atoms → a ∈ Z.atoms → a ≡ v)
      → S ≡ loop c Y Z j → Ring c S → PlainRing c v j S
  plain_ring {d} {e} {y} {z} joins Y Z apart sum ring = record {
    y = y;
    z = z;
    joins = joins;
    steps_y = d;
    steps_z = e;
    path_y = Y;
    path_z = Z;
    apart = apart;
    sum = sum;
    ring = ring;
  }

  module _ (v : ℕ) (ps : List ℕ) (listed : (j S : ℕ) → PlainRing c v j S → S ∈ ps) where
    ring_reached : {j k S : ℕ} → PlainRing c v j S → len c S ≡ k → Reached c ps k S
    ring_reached {j} {S = S} ring long = covered_one bond_sets (len c) (Closed c) (listed j S ring) (omega arith)

    closing_reached : {d e j k y z : ℕ} → Joins c j y z → (Y : Path c v y d) (Z : Path c v z e)
        → Closing v k Y.atoms Z.atoms (loop c Y Z j)
        → Reached c ps k (loop c Y Z j)
    closing_reached joins Y Z w =
        ⊎_elim (λ apart. let (ring, long) = w.round apart in ring_reached (plain_ring joins Y Z apart refl ring) long)
        (λ s. shorter_reached c (w.cross s.0 s.1 s.2 s.3)) (apart_or_shared v Y.atoms Z.atoms)

    -- What the paths of a bond between atoms equally far from v make up.
    pub level_reached : {d y z j : ℕ} → Joins c j y z → 0 < d → (Y : Path c v y d) (Z : Path c v z d)
        → Reached c ps (2 * d + 1) (loop c Y Z j)
    level_reached joins some Y Z = closing_reached joins Y Z (level_closing joins some Y Z)

    -- What the paths of a bond from y to z, farther from v by one, make up.
    pub up_reached : {d y z j : ℕ} → Joins c j y z → (Y : Path c v y d) (Z : Path c v z (suc d))
        → Reached c ps (2 * suc d) (loop c Y Z j)
    up_reached {d} {y} {z} {j} joins Y Z = go (ℕ_discrete n.next y)
      where
        n : Next c sound v z d Z.atoms Z.bonds
        n = path_next c sound Z

        go : Dec (n.next ≡ y) → Reached c ps (2 * suc d) (loop c Y Z j)
        go (yes e) = shorter_reached c (subst (Shorter c (2 * suc d)) (back_none joins Y Z n e) (shorter_zero c (2 * suc d)))
        go (no differ) = closing_reached joins Y Z (next_closing joins Y Z n differ)
