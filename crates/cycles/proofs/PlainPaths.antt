-- The paths of the plain method: from each atom at a distance from v there is one, and it is a path down to v where every other atom precedes v.
use mathlib.Core.Path.{◌≡◌, refl, subst}
use mathlib.Core.List.{List, ◌∷◌}
use Prim.Native.Nat.{ℕ, suc, ◌^◌, ◌≤◌}
use native.Mathlib.Omega.{arith}
use lib.Bits.{bit_xor}
use Rattle.cycles.specs.Compound.{Compound, Sound, Joins, Bonded, Walk, Distance}
use Rattle.cycles.specs.Ring.{Edges}
use Rattle.cycles.specs.Family.{Precedes, Down, Chosen}
use Rattle.cycles.specs.Plain.{Toward, Path}
use Rattle.cycles.proofs.Edges.{is, edges_unique}
use Rattle.cycles.proofs.PathsDown.{distance_here, down_far, down_more}
use Rattle.cycles.proofs.Families.{chosen_down, chosen_unique, chosen_exists, down_edges}
use Rattle.cycles.proofs.MembersApart.{is_same, is_other}

module _ (c : Compound) where
  -- In the ranking `is v` every other atom precedes v.
  pub other_precedes : (v t : ℕ) → (v ≡ t → ⊥) → Precedes c (is v) t v
  other_precedes v t n = omega (arith, is_same v, is_other v t n)

  -- An atom at some distance from v is not v.
  far_other : {v t d : ℕ} → Distance c t v (suc d) → v ≡ t → ⊥
  far_other {v} far e = let none = far.least 0 (subst (λ (x : ℕ). Walk c v x 0) e Walk.here) in omega arith

  far_precedes : {v t d : ℕ} → Distance c t v (suc d) → Precedes c (is v) t v
  far_precedes {v} {t} far = other_precedes v t (far_other far)

  pub toward_far : {v t d : ℕ} {P : List ℕ} → Toward c v t d P → Distance c t v d
  toward_far Toward.top = distance_here c _
  toward_far (Toward.step far bond near lowest rest) = far

  -- A path of the plain method is a path down.
  pub toward_down : {v t d : ℕ} {P : List ℕ} → Toward c v t d P → Down c (is v) v t d P
  toward_down Toward.top = Down.top
  toward_down (Toward.step far bond near lowest rest) = Down.step (far_precedes far) far bond (toward_down rest)

  walk_down : {v t d : ℕ} → Walk c v t d → ((n : ℕ) → Walk c v t n → d ≤ n) → (P : List ℕ) × Down c (is v) v t d P
  walk_down Walk.here least = (_, Down.top)
  walk_down {v} {t} (Walk.step {steps = d} bond rest) least =
      let below = walk_down rest (λ n w. omega (arith, least (suc n) (Walk.step bond w))) in
      let far : Distance c t v (suc d) = record { walk = Walk.step bond rest; least = least } in
      (_, Down.step (far_precedes far) far bond below.1)

  -- From an atom at a distance from v a path goes down to v.
  pub distance_down : {v t d : ℕ} → Distance c t v d → (P : List ℕ) × Down c (is v) v t d P
  distance_down far = walk_down far.walk far.least

  -- The path of no steps begins at v.
  pub toward_zero : {v t : ℕ} {P : List ℕ} → Toward c v t 0 P → v ≡ t
  toward_zero Toward.top = refl

module _ (c : Compound) (sound : Sound c) where
  -- A path of the plain method is the chosen path where every other atom precedes v.
  pub toward_chosen : {v t d : ℕ} {P : List ℕ} → Toward c v t d P → Chosen c (is v) v t d P
  toward_chosen Toward.top = Chosen.top
  toward_chosen {v} (Toward.step far bond near lowest rest) =
      Chosen.step (far_precedes c far, (_, Down.step (far_precedes c far) far bond (toward_down c rest))) bond
      (λ s way b down. lowest s b (down_far c (is v) down)) (toward_chosen rest)

  -- The chosen path there is the path of the plain method.
  pub chosen_toward : {v t d : ℕ} {P : List ℕ} → Chosen c (is v) v t d P → Toward c v t d P
  chosen_toward Chosen.top = Toward.top
  chosen_toward {v} (Chosen.step under bond lowest rest) =
      Toward.step (down_far c (is v) under.1.1) bond (down_far c (is v) (chosen_down c sound (is v) rest))
      (λ s b near. let (way, down) = distance_down c near in lowest s way b down) (chosen_toward rest)

  -- There is one such path.
  pub toward_unique : {v t d : ℕ} {P Q : List ℕ} → Toward c v t d P → Toward c v t d Q → P ≡ Q
  toward_unique {v} p q = chosen_unique c sound (is v) (toward_chosen p) (toward_chosen q)

  toward_path : {v t d : ℕ} {P : List ℕ} → Toward c v t d P → Path c v t d
  toward_path {v} {P} toward =
      let w = down_edges c sound (is v) (toward_down c toward) in record { atoms = P; toward = toward; bonds = w.0; edges = w.1 }

  -- From each atom at a distance from v there is such a path.
  pub path_exists : {v t d : ℕ} → Distance c t v d → Path c v t d
  path_exists {v} far = toward_path (chosen_toward (chosen_exists c sound (is v) (distance_down c far).1).1)

  -- Its bonds are fixed.
  pub path_unique : {v t d : ℕ} (P Q : Path c v t d) → P.bonds ≡ Q.bonds
  path_unique P Q =
      edges_unique c sound (subst (λ (l : List ℕ). Edges c l P.bonds) (toward_unique P.toward Q.toward) P.edges) Q.edges

  -- The first step of a path, and the rest.
  pub record Next (v t d : ℕ) (atoms : List ℕ) (bonds : ℕ) : Type 0 where
    pub next : ℕ
    pub bond : ℕ
    pub joins : Joins c bond t next
    pub lowest : (s : ℕ) → Bonded c t s → Distance c s v d → next ≤ s
    pub rest : Path c v next d
    pub atoms_are : atoms ≡ t ∷ rest.atoms
    pub bonds_are : bonds ≡ bit_xor (2 ^ bond) rest.bonds

  toward_next : {v t d S : ℕ} {P : List ℕ} → Toward c v t (suc d) P → Edges c P S → Next v t d P S
  unfolding toward_path
  toward_next {v} (Toward.step {next = n} far (k, joins) near lowest rest) edges =
      let p = toward_path rest in
      record {
        next = n;
        bond = k;
        joins = joins;
        lowest = lowest;
        rest = p;
        atoms_are = refl;
        bonds_are = edges_unique c sound edges (down_more c (is v) (toward_down c rest) joins p.edges);
      }

  -- A path of some steps has a first one.
  pub path_next : {v t d : ℕ} (P : Path c v t (suc d)) → Next v t d P.atoms P.bonds
  path_next P = toward_next P.toward P.edges
