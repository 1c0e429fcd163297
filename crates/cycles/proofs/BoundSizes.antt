-- The paths of a kept family lie in disjoint layers of at most 63 atoms, so it has at most 3^21 members.
use mathlib.Core.Path.{◌≡◌, refl, ap}
use mathlib.Core.List.{List, [], ◌∷◌}
use mathlib.Core.Logic.Dec
use mathlib.Core.Logic.{⊎_elim}
use Prim.Native.Nat.{ℕ, zero, suc, ◌+◌, ◌*◌, ◌^◌, ◌<◌, ◌≤◌}
use native.Mathlib.Nat.{le_trans, mul-le-mul, mul-le-mul_left, one-le-pow, pow-le-pow_right, pow-succ', zero-lt-suc}
use native.Mathlib.Omega.{arith}
use lib.ListN.{length}
use lib.Pow.{pow-add}
use Rattle.bondset.proofs.Laws.{lt_or_ge}
use Rattle.spans.specs.Elements.{◌∈◌}
use Rattle.spans.proofs.Sift.{Sift, sifted}
use Rattle.cycles.specs.Compound.{Compound, Sound, Distance}
use Rattle.cycles.specs.Family.{Family, Precedes, Down, Candidate, Kept, Size}
use Rattle.cycles.proofs.PathsDecide.{not_in_none, in_dec, distance_dec, joins_sym}
use Rattle.cycles.proofs.PathsDown.{down_near}
use Rattle.cycles.proofs.Families.{Made, made_exists, made_unique, made_at, member_made}
use Rattle.cycles.proofs.MembersLists.{in_pick, pick_length, pick_others, keyed_length_le}
use Rattle.cycles.proofs.Members.{kept_apart}
use Rattle.cycles.proofs.BoundLists.{numbers_length, in_numbers, both, both_length, in_both, sift_in, sift_count, gather, gather_has, gather_from}

-- ---- cubes and powers of three
abbrev cube : ℕ → ℕ
cube x = x * x * x

cube_mono : {x y : ℕ} → x ≤ y → cube x ≤ cube y
cube_mono h = mul-le-mul (mul-le-mul h h) h

-- From 3 on the cube grows by less than three times.
cube_step : (x : ℕ) → 3 ≤ x → cube (suc x) ≤ 3 * cube x
cube_step x h = omega (arith, mul-le-mul_left x h, mul-le-mul_left (x * x) h)

-- x^3 ≤ 3^x: layers of three atoms are the best.
cube_le_power : (x : ℕ) → cube x ≤ 3 ^ x
cube_le_power zero = omega arith
cube_le_power (suc zero) = omega arith
cube_le_power (suc (suc zero)) = omega arith
cube_le_power (suc (suc (suc zero))) = omega arith
cube_le_power (suc (suc (suc (suc x)))) =
    omega (arith, cube_step (suc (suc (suc x))) (omega arith), cube_le_power (suc (suc (suc x))), pow-succ' 3 (suc (suc (suc x))))

-- What holds of two parts holds of the whole.
cube_product : (x y u v : ℕ) → cube x ≤ 3 ^ u → cube y ≤ 3 ^ v → cube (x * y) ≤ 3 ^ (u + v)
cube_product x y u v h l =
    let e : cube (x * y) ≡ cube x * cube y = omega arith in
    rw (e, pow-add 3 u v) (mul-le-mul h l)

-- 3^21 is the cube root of 3^63.
cube_root : (x : ℕ) → cube x ≤ 3 ^ 63 → x ≤ 3 ^ 21
cube_root x h = ⊎_elim (λ (l : 3 ^ 21 < x). absurd (omega (arith, cube_mono l))) (λ (l : x ≤ 3 ^ 21). l) (lt_or_ge (3 ^ 21) x)

module _ (c : Compound) (sound : Sound c) (rank : ℕ → ℕ) where
  -- The atoms of a path other than r are atoms of the compound.
  down_named : {r t d a : ℕ} {P : List ℕ} → Down c rank r t d P → a ∈ P → (a ≡ r → ⊥) → a < c.n
  down_named Down.top ◌∈◌.first other = absurd (other refl)
  down_named Down.top (◌∈◌.later h) other = absurd (not_in_none h)
  down_named (Down.step before far (k, j) down) ◌∈◌.first other = sound.named k _ _ j
  down_named (Down.step before far bond down) (◌∈◌.later h) other = down_named down h other

  -- So is r, if the path has a step.
  top_named : {r t d : ℕ} {P : List ℕ} → Down c rank r t d P → Precedes c rank t r → r < c.n
  top_named Down.top before = absurd (omega arith)
  top_named (Down.step before far (k, j) Down.top) less = sound.named k _ _ (joins_sym c j)
  top_named (Down.step before far bond (Down.step before' far' bond' down)) less = top_named (Down.step before' far' bond' down) before'

  -- A candidate's r is an atom of the compound.
  pub candidate_top : {f : Family} {d : ℕ} {link : List ℕ} → Candidate c rank f d link → f.r < c.n
  candidate_top (Candidate.odd less bond under_p under_q long) = top_named under_p.1.1 under_p.0
  candidate_top (Candidate.even less bond_p bond_q under_x under_p under_q long) = top_named under_p.1.1 under_p.0

  -- All paths of d steps to r through these atoms, and few they are.
  record Cover (r d : ℕ) (atoms : List ℕ) : Type 0 where
    paths : List (List ℕ)
    all : {t : ℕ} {P : List ℕ} → Down c rank r t d P → ((a : ℕ) → a ∈ P → (a ≡ r → ⊥) → a ∈ atoms) → P ∈ paths
    few : cube (length paths) ≤ 3 ^ length atoms

  -- The path of no step is r alone.
  cover_none : (r : ℕ) (atoms : List ℕ) → Cover r 0 atoms
  cover_none r atoms = record { paths = (r ∷ []) ∷ []; all = all; few = one-le-pow (length atoms) 3 (zero-lt-suc 2) }
    where
      all : {t : ℕ} {P : List ℕ} → Down c rank r t 0 P → ((a : ℕ) → a ∈ P → (a ≡ r → ⊥) → a ∈ atoms) → P ∈ ((r ∷ []) ∷ [])
      all Down.top inside = ◌∈◌.first

  -- The first atoms of the paths are the layer at their distance, and the rest of each path lies among the other atoms.
  cover_more : {r d : ℕ} {atoms layer rest : List ℕ} → Sift (λ a. Distance c a r (suc d)) atoms layer → Sift (λ a. ¬ Distance c a r (suc d)) atoms rest
      → Cover r d rest → Cover r (suc d) atoms
  cover_more {r} {d} {atoms} {layer} {rest} s t w = record { paths = both ◌∷◌ layer w.paths; all = all; few = few }
    where
      all : {t : ℕ} {P : List ℕ} → Down c rank r t (suc d) P → ((a : ℕ) → a ∈ P → (a ≡ r → ⊥) → a ∈ atoms) → P ∈ both ◌∷◌ layer w.paths
      all (Down.step {t = first} before far bond down) inside =
          in_both ◌∷◌ (sift_in s (inside first ◌∈◌.first (λ e. omega (arith, before, ap rank e))) far)
          (w.all down (λ a h other. sift_in t (inside a (◌∈◌.later h) other) (λ near. down_near c rank down near (omega arith) h)))

      few : cube (length (both ◌∷◌ layer w.paths)) ≤ 3 ^ length atoms
      few =
          rw (both_length ◌∷◌ layer w.paths, ← (sift_count s t))
          (cube_product (length layer) (length w.paths) (length layer) (length rest) (cube_le_power (length layer)) w.few)

  cover : (r d : ℕ) (atoms : List ℕ) → Cover r d atoms
  cover r zero atoms = cover_none r atoms
  cover r (suc d) atoms =
      cover_more (sifted _ (λ a. distance_dec c sound a r (suc d)) atoms) (sifted _ (λ a. Dec.not (distance_dec c sound a r (suc d))) atoms) (cover r d _)

-- A path from p and a path from q.
abbrev duo : List ℕ → List ℕ → List ℕ × List ℕ
duo P Q = (P, Q)

module _ (c : Compound) (sound : Sound c) (rank : ℕ → ℕ) (injective : (a b : ℕ) → a < c.n → b < c.n → rank a ≡ rank b → a ≡ b)
    {f : Family} {s : ℕ} (kept : Kept c rank f) (size : Size c rank f s) where
  -- How far p and q are from r.
  abbrev d : ℕ
  d = kept.prototype.d

  -- P and Q make up C in this family.
  abbrev Makes : List ℕ → List ℕ → ℕ → Type 0
  Makes P Q C = Made c sound rank f d kept.prototype.link P Q C

  -- The paths of a member, from p and from q.
  abbrev path_p : (C : ℕ) → C ∈ size.members → List ℕ
  path_p C h = ((size.all C).0 h).P

  abbrev path_q : (C : ℕ) → C ∈ size.members → List ℕ
  path_q C h = ((size.all C).0 h).Q

  member_makes : {C : ℕ} (h : C ∈ size.members) → Makes (path_p C h) (path_q C h) C
  member_makes {C} h = made_at c sound rank (member_made c sound rank ((size.all C).0 h)) kept.prototype.candidate

  -- No atom but r is on a member's path from p and on a member's path from q.
  paths_apart : {C a : ℕ} (h : C ∈ size.members) → a ∈ path_q C h → (a ≡ f.r → ⊥) → a ∈ gather size.members path_p → ⊥
  paths_apart h q other i =
      let (D, g, p) = gather_from size.members path_p i in
      let pair = made_exists c sound rank kept.prototype.candidate (member_makes g).down_p (member_makes h).down_q in
      other (kept_apart c sound rank injective kept.prototype.candidate kept pair.1 _ p q)

  -- Given all atoms but r, those on the members' paths from p, and the others:
  module _ {atoms ins outs : List ℕ} (but-top : (a : ℕ) → a < c.n → (a ≡ f.r → ⊥) → a ∈ atoms)
      (side_p : Sift (λ a. a ∈ gather size.members path_p) atoms ins) (side_q : Sift (λ a. ¬ (a ∈ gather size.members path_p)) atoms outs) where
    on_path : {t a : ℕ} {P : List ℕ} → Down c rank f.r t d P → a ∈ P → (a ≡ f.r → ⊥) → a ∈ atoms
    on_path {a = a} down h other = but-top a (down_named c sound rank down h other) other

    -- The members are no more than the pairs of a path on p's side and a path on q's side.
    size_le_pairs : (v : Cover c sound rank f.r d ins) (w : Cover c sound rank f.r d outs) → s ≤ length v.paths * length w.paths
    size_le_pairs v w =
        omega (
          arith,
          size.count,
          both_length duo v.paths w.paths,
          keyed_length_le {keys = both duo v.paths w.paths} (λ C k. Makes k.0 k.1 C) (λ C D k. made_unique c sound rank) size.once
              (λ C h. (
                duo (path_p C h) (path_q C h),
                in_both duo
                    (v.all (member_makes h).down_p (λ a p other. sift_in side_p (on_path (member_makes h).down_p p other) (gather_has path_p h p)))
                    (w.all (member_makes h).down_q (λ a q other. sift_in side_q (on_path (member_makes h).down_q q other) (paths_apart h q other))),
                member_makes h,
              )),
        )

    -- The layers on both sides are disjoint, so their sizes sum to at most the number of atoms but r.
    size_cube : cube s ≤ 3 ^ length atoms
    size_cube =
        let v = cover c sound rank f.r d ins in
        let w = cover c sound rank f.r d outs in
        let h = cube_product (length v.paths) (length w.paths) (length ins) (length outs) v.few w.few in
        rw (sift_count side_p side_q) at (le_trans (cube_mono (size_le_pairs v w)) h)

  -- "A family has at most 3^21 = 10,460,353,203 members."
  pub size_bound : c.n ≤ 64 → s ≤ 3 ^ 21
  size_bound few =
      let (atoms, pick) = in_pick (in_numbers f.r c.n (candidate_top c sound rank kept.prototype.candidate)) in
      let sixty-three : length atoms ≤ 63 = omega (arith, pick_length pick, numbers_length c.n) in
      cube_root s
      (le_trans
      (size_cube (λ a h other. pick_others pick (in_numbers a c.n h) other) (sifted _ (λ a. in_dec a _) atoms)
      (sifted _ (λ a. Dec.not (in_dec a _)) atoms))
      (pow-le-pow_right (zero-lt-suc 2) sixty-three))
