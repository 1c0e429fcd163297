-- The model's share of a bond or an atom counts the members of the family that pass through it.
use mathlib.Core.Path.{◌≡◌, refl, sym, ap, ap₂, ◌∙◌, subst}
use mathlib.Core.Bool.{Bool, cond, ◌||◌}
use mathlib.Core.List.{List, [], ◌∷◌}
use mathlib.Core.Logic.{◌⊎◌, inl, inr, ⊎_elim}
use Prim.Native.Nat.{ℕ, zero, suc, ◌+◌, ◌*◌, ◌-◌, ◌<◌, ◌≤◌}
use native.Mathlib.Nat.{add-mul, mul_right_comm, le-mul_of_pos_right}
use native.Mathlib.Decide.{ℕ_discrete}
use native.Mathlib.Omega.{arith}
use borrow.Author.Tests.{eq-eqb, ne_eqb}
use lib.Dec.{eqb}
use lib.ListN.{get_or}
use Rattle.spans.specs.Elements.{◌∈◌}
use Rattle.bondset.specs.Sets.{bit, has}
use Rattle.cycles.specs.Compound.{Compound, m, one, other, Joins, Distance}
use Rattle.cycles.specs.Ring.{degree}
use Rattle.cycles.specs.Family.{Family, Down, Candidate, Member, Kept, Size}
use Rattle.cycles.specs.Through.{Exactly, sum_to}
use Rattle.cycles.proofs.PathsDown.{in_one, distance_unique, down_far, down_before, down_some}
use Rattle.cycles.proofs.MembersBonds.{Uses, uses_left}
use Rattle.cycles.proofs.MembersCorners.{linked_far}
use Rattle.cycles.proofs.Exact.{exactly_as, exactly_at, exactly_none, exactly_one, exactly_le, exactly_either, Below, exactly_sum}
use Rattle.cycles.proofs.Falls.{Fall, Stepped}
use Rattle.cycles.proofs.ThroughRows.{MemberWith}
use Rattle.cycles.proofs.ThroughFamily.{bond_share_lem, link_bond_share, bond_cases, atom_share_lem, top_share, link_atom_share, atom_cases}
use Rattle.model.specs.Net.{Net, net_of}
use Rattle.model.specs.Layer.{ways}
use Rattle.model.specs.Through.{upways, pair, pairs_of, ends as ends_of, reaching, step_share, in_link, bond_share, layer_share, atom_share}
use Rattle.model.proofs.Ready.{held, Ready, DownFrom, Layered}
use Rattle.model.proofs.Layers.{layer_down}
use Rattle.model.proofs.Ways.{all_down, ends, ways_size}
use Rattle.model.proofs.Upways.{at, upways_linear, down_named, upways_falls}
use Rattle.model.proofs.ItemsCandidates.{bonded_small}
use Rattle.model.proofs.Tables.{Apart}
use Rattle.model.proofs.FaultsTests.{Tells, tells_same, or_tells, and_tells, eqb_tells}

-- A number that counts if the test passes: so many things have P, and the test's fact beside.
exactly_when : {X T : Type 0} {b : Bool} {n : ℕ} {P : X → Type 0} → Tells T b → (T → Exactly n P) → Exactly (cond b n 0) (λ x. T × P x)
exactly_when (Tells.holds t) counts = exactly_as (counts t) (λ x. (λ p. (t, p), λ w. w.1))
exactly_when (Tells.fails none) counts = exactly_none (λ x w. none w.0)

-- Both sides with one table.
share_number : (u v w a b : ℕ) → u * w * b + v * w * a ≡ (u * b + v * a) * w
share_number u v w a b = ap₂ ◌+◌ (mul_right_comm u w b) (mul_right_comm v w a) ∙ sym (add-mul (u * b) (v * a) w)

-- A path of no step starts at the top.
down_here : (c : Compound) (rank : ℕ → ℕ) {r t e : ℕ} {P : List ℕ} → Down c rank r t e P → e ≡ 0 → r ≡ t
down_here c rank Down.top z = refl
down_here c rank (Down.step before far bond down) z = absurd (omega arith)

module _ (c : Compound) (rank pre : ℕ → ℕ) (ready : Ready c rank pre) (us : List ℕ) (h d : ℕ) (f : Family) {link : List ℕ} (small : f.r < c.n)
    (layered : Layered c pre f.r h us) (near : d ≤ h) (candidate : Candidate c rank f d link) (kept : Kept c rank f) where
  abbrev G : Net
  G = net_of c

  abbrev From : ℕ → ℕ → Type 0
  From t e = DownFrom c rank f.r t e

  layer_tells : (e t : ℕ) → e ≤ h → Tells (From t e) (has (get_or us e 0) t)
  layer_tells e t le =
      let same = layer_down c rank pre (held ready) f.r t e small in
      tells_same (λ b. same.0 (rw (layered.are e le) at b)) (λ w. rw (layered.are e le) (same.1 w)) (eqb_tells (bit (get_or us e 0) t) 1)

  in_layer : (e t : ℕ) → e ≤ d → bit (get_or us e 0) t ≡ 1 → From t e
  in_layer e t le b = (layer_down c rank pre (held ready) f.r t e small).0 (rw (layered.are e (omega arith)) at b)

  downs : (e t : ℕ) → e ≤ h → From t e → Exactly (ways G us e t) (Down c rank f.r t e)
  downs e t le w =
      let s = all_down c rank pre ready us h f.r small layered e t le w in
      record { listed = s.paths; once = s.once; all = s.all; count = s.many }

  both : From f.p d × From f.q d
  both = ends c rank pre ready candidate

  sized : Size c rank f (pairs_of G us d f)
  unfolding pairs_of
  sized = ways_size c rank pre ready us h d f link small layered near candidate kept

  members : Exactly (pairs_of G us d f) (Member c rank f)
  members = record { listed = sized.members; once = sized.once; all = sized.all; count = sized.count }

  pub different : f.p ≡ f.q → ⊥
  different = go candidate
    where
      go : {f : Family} {d : ℕ} {link : List ℕ} → Candidate c rank f d link → f.p ≡ f.q → ⊥
      go (Candidate.odd less bond under_p under_q long) e = omega (arith, e)
      go (Candidate.even less bond_p bond_q under_x under_p under_q long) e = omega (arith, e)

  -- The start at p and at q, apart.
  ends_are : (t : ℕ) → ends_of G us d f t ≡ at f.p t * ways G us d f.q + at f.q t * ways G us d f.p
  unfolding ends_of
  ends_are t = go (ℕ_discrete f.p t) (ℕ_discrete f.q t)
    where
      go : Dec (f.p ≡ t) → Dec (f.q ≡ t)
          → cond (eqb f.p t) (ways G us d f.q) (cond (eqb f.q t) (ways G us d f.p) 0)
          ≡ at f.p t * ways G us d f.q + at f.q t * ways G us d f.p
      go (yes e) (yes g) = absurd (different (e ∙ sym g))
      go (yes e) (no g) = rw (eq-eqb f.p t e, ne_eqb f.q t g) (omega arith)
      go (no e) (yes g) = rw (ne_eqb f.p t e, eq-eqb f.q t g) (omega arith)
      go (no e) (no g) = rw (ne_eqb f.p t e, ne_eqb f.q t g) (omega arith)

  reaching_is : (e t : ℕ)
      → reaching G us d f e t
      ≡ upways G us (at f.p) (d - e) e t * ways G us d f.q + upways G us (at f.q) (d - e) e t * ways G us d f.p
  unfolding reaching
  reaching_is e t = upways_linear G us (ends_of G us d f) (at f.p) (at f.q) (ways G us d f.q) (ways G us d f.p) ends_are (d - e) e t

  share_is : (e t w : ℕ)
      → upways G us (at f.p) (d - e) e t * w * ways G us d f.q + upways G us (at f.q) (d - e) e t * w * ways G us d f.p
      ≡ reaching G us d f e t * w
  share_is e t w =
      share_number _ _ w (ways G us d f.p) (ways G us d f.q) ∙ ap (λ (n : ℕ). n * w) (sym (reaching_is e t))

  falls : (p e t : ℕ) → e ≤ d → From t e → Exactly (upways G us (at p) (d - e) e t) (Fall c rank f.r p d t e)
  falls p e t le w = upways_falls c rank pre ready us h f.r small layered p d (d - e) e t (omega arith) near w

  -- ---- what the tables ask

  -- No atom is in two layers.
  pub layers_apart : Apart G us d
  layers_apart = record {
    word = λ e t le b. let named = down_named c rank pre ready us h f.r small layered (in_layer e t le b).1 in omega (arith, ready.atoms);
    once = λ i j t le le' b b'. distance_unique c (down_far c rank (in_layer i t le b).1) (down_far c rank (in_layer j t le' b').1);
  }

  -- Layer 0 is the top.
  pub layer_top : (t : ℕ) → bit (get_or us 0 0) t ≡ 1 → f.r ≡ t
  layer_top t b = down_here c rank (in_layer 0 t (omega arith) b).1 refl

  -- p and q are in layer d, and different, and d is not 0.
  pub layer_p : bit (get_or us d 0) f.p ≡ 1
  layer_p = rw (layered.are d near) ((layer_down c rank pre (held ready) f.r f.p d small).1 both.0)

  pub layer_q : bit (get_or us d 0) f.q ≡ 1
  layer_q = rw (layered.are d near) ((layer_down c rank pre (held ready) f.r f.q d small).1 both.1)

  pub layers_some : 0 < d
  layers_some = go candidate
    where
      go : {f : Family} {d : ℕ} {link : List ℕ} → Candidate c rank f d link → 0 < d
      go (Candidate.odd less bond under_p under_q long) = down_some c rank under_p.1.1 under_p.0
      go (Candidate.even less bond_p bond_q under_x under_p under_q long) = down_some c rank under_p.1.1 under_p.0

  -- ---- bonds

  module _ {k : ℕ} (inside : k < m c) where
    abbrev Holding : ℕ → Type 0
    Holding = MemberWith c rank (λ C. bit C k ≡ 1) f

    abbrev Steps : ℕ → ℕ → ℕ → Type 0
    Steps e t s = From t (suc e) × From s e

    step_exact : (e t s : ℕ) → e < d → Joins c k t s → Exactly (step_share G us d f e t s) (λ C. Steps e t s × Holding C)
    unfolding step_share
    step_exact e t s less joins =
        exactly_when (and_tells (layer_tells (suc e) t (omega arith)) (layer_tells e s (omega arith))) (λ w.
        exactly_at (share_is (suc e) t (ways G us e s))
        (bond_share_lem c ready.sound rank ready.injective candidate kept joins (down_before c rank w.0.1 (omega arith)) (down_far c rank w.0.1)
        (down_far c rank w.1.1) less (falls f.p (suc e) t (omega arith) w.0) (falls f.q (suc e) t (omega arith) w.0)
        (downs e s (omega arith) w.1) (downs d f.p near both.0) (downs d f.q near both.1)))

    -- A step's share is at most the size.
    pub step_share_le : (e t s : ℕ) → e < d → Joins c k t s → step_share G us d f e t s ≤ pairs_of G us d f
    step_share_le e t s less joins = exactly_le (step_exact e t s less joins) members (λ C v. v.1.member)

    pair_tells : (u w : ℕ) → Tells (Joins c k u w) (pair u w (one c k) (other c k))
    unfolding pair
    pair_tells u w =
        tells_same (⊎_elim (λ e. Joins.given inside e.0 e.1) (λ e. Joins.turned inside e.0 e.1)) from
        (or_tells (and_tells (eqb_tells (one c k) u) (eqb_tells (other c k) w)) (and_tells (eqb_tells (other c k) u) (eqb_tells (one c k) w)))
      where
        from : Joins c k u w → ((one c k ≡ u) × (other c k ≡ w)) ⊎ ((other c k ≡ u) × (one c k ≡ w))
        from (Joins.given l e g) = inl (e, g)
        from (Joins.turned l e g) = inr (e, g)

    uses_none : Uses c k [] → ⊥
    uses_none = elim [ ]

    uses_two : {p q : ℕ} → Uses c k (p ∷ q ∷ []) → Joins c k p q
    uses_two (Uses.here j) = j
    uses_two (Uses.later (Uses.later u)) = absurd (uses_none u)

    uses_three : {p x q : ℕ} → Uses c k (p ∷ x ∷ q ∷ []) → Joins c k p x ⊎ Joins c k x q
    uses_three (Uses.here j) = inl j
    uses_three (Uses.later u) = inr (uses_two u)

    link_tells : Tells (Uses c k link) (in_link G us d f (one c k) (other c k))
    unfolding in_link
    link_tells = go candidate
      where
        go : {f : Family} {d : ℕ} {link : List ℕ} → Candidate c rank f d link
            → Tells (Uses c k link)
            (cond (eqb f.x 255) (pair f.p f.q (one c k) (other c k))
            (pair f.p f.x (one c k) (other c k) || pair f.x f.q (one c k) (other c k)))
        go (Candidate.odd {p = p} {q = q} less bond under_p under_q long) =
            subst (λ (b : Bool). Tells (Uses c k (p ∷ q ∷ []))
            (cond b (pair p q (one c k) (other c k)) (pair p 255 (one c k) (other c k) || pair 255 q (one c k) (other c k))))
            (sym (eq-eqb 255 255 refl)) (tells_same Uses.here uses_two (pair_tells p q))
        go (Candidate.even {p = p} {q = q} {x = x} less bond_p bond_q under_x under_p under_q long) =
            let named : x < c.n = bonded_small c rank pre ready bond_q in
            subst (λ (b : Bool). Tells (Uses c k (p ∷ x ∷ q ∷ []))
            (cond b (pair p q (one c k) (other c k)) (pair p x (one c k) (other c k) || pair x q (one c k) (other c k))))
            (sym (ne_eqb x 255 (omega (arith, ready.atoms))))
            (tells_same (⊎_elim Uses.here (λ j. Uses.later (Uses.here j))) uses_three (or_tells (pair_tells p x) (pair_tells x q)))

    abbrev a : ℕ
    a = one c k

    abbrev b : ℕ
    b = other c k

    -- The members that hold the bond and step along it from layer e + 1 to layer e, one way or the other.
    abbrev AtStep : ℕ → ℕ → Type 0
    AtStep e C = (Steps e a b × Holding C) ⊎ (Steps e b a × Holding C)

    far : {t e : ℕ} → From t e → Distance c t f.r e
    far w = down_far c rank w.1

    turned_apart : {i j : ℕ} → Steps i a b → Steps j b a → ⊥
    turned_apart v w = omega (arith, distance_unique c (far v.0) (far w.1), distance_unique c (far v.1) (far w.0))

    steps_same : {i j t s : ℕ} → Steps i t s → Steps j t s → i ≡ j
    steps_same v w = omega (arith, distance_unique c (far v.1) (far w.1))

    step_level : (i j C : ℕ) → AtStep i C → AtStep j C → i ≡ j
    step_level i j C (inl v) (inl w) = steps_same v.0 w.0
    step_level i j C (inl v) (inr w) = absurd (turned_apart v.0 w.0)
    step_level i j C (inr v) (inl w) = absurd (turned_apart w.0 v.0)
    step_level i j C (inr v) (inr w) = steps_same v.0 w.0

    at_steps : Exactly (sum_to d (λ e. step_share G us d f e a b + step_share G us d f e b a)) (Below d AtStep)
    at_steps =
        exactly_sum d (λ e. step_share G us d f e a b + step_share G us d f e b a) AtStep step_level (λ e less.
        exactly_either (step_exact e a b less (Joins.given inside refl refl)) (step_exact e b a less (Joins.turned inside refl refl))
        (λ C v w. turned_apart v.0 w.0))

    off_link : (C : ℕ) → Below d AtStep C → Uses c k link × Holding C → ⊥
    off_link C w l =
        ⊎_elim
        (λ v. omega (arith, w.less, linked_far c ready.sound rank candidate (uses_left c l.0 (Joins.turned inside refl refl)) (far v.0.1)))
        (λ v. omega (arith, w.less, linked_far c ready.sound rank candidate (uses_left c l.0 (Joins.given inside refl refl)) (far v.0.1)))
        w.has

    from_step : {C : ℕ} → Holding C → Stepped c rank f.r d k → Below d AtStep C
    from_step {C} m w = record { by = w.e; less = w.less; has = go w.joins }
      where
        moved : {t t' e : ℕ} → t' ≡ t → From t e → From t' e
        moved {e = e} same down = subst (λ (x : ℕ). From x e) (sym same) down

        go : Joins c k w.t w.s → AtStep w.e C
        go (Joins.given l e g) = inl ((moved e w.above, moved g w.below), m)
        go (Joins.turned l e g) = inr ((moved e w.above, moved g w.below), m)

    -- The share of a bond is the number of members that hold it.
    pub bond_share_exact : Exactly (bond_share G us d f (one c k) (other c k)) (MemberWith c rank (λ C. bit C k ≡ 1) f)
    unfolding bond_share
    bond_share_exact =
        exactly_as
        (exactly_either at_steps (exactly_when link_tells (λ u. link_bond_share c ready.sound rank ready.injective candidate kept u sized)) off_link)
        (λ C. (
          ⊎_elim (λ w. ⊎_elim (λ v. v.1) (λ v. v.1) w.has) (λ l. l.1),
          λ m. ⊎_elim (λ u. inr (u, m)) (λ w. inl (from_step m w)) (bond_cases c ready.sound rank ready.injective candidate kept m.member m.has),
        ))

    -- The share of a bond is at most the size.
    pub bond_share_le : bond_share G us d f (one c k) (other c k) ≤ pairs_of G us d f
    bond_share_le = exactly_le bond_share_exact members (λ C v. v.member)

  -- ---- atoms

  module _ {t : ℕ} (inside : t < c.n) where
    abbrev Meeting : ℕ → Type 0
    Meeting = MemberWith c rank (λ C. 0 < degree c C t) f

    met_at : (e : ℕ) → 0 < e → e ≤ d → From t e → Exactly (reaching G us d f e t * ways G us e t) Meeting
    met_at e some le w =
        exactly_at (share_is e t (ways G us e t))
        (atom_share_lem c ready.sound rank ready.injective candidate kept (down_far c rank w.1) some le
        (falls f.p e t le w) (falls f.q e t le w) (downs e t (omega arith) w) (downs d f.p near both.0) (downs d f.q near both.1))

    -- What reaches an atom below the top is at most the size.
    pub reaching_le : (e : ℕ) → 0 < e → e ≤ d → From t e → reaching G us d f e t ≤ pairs_of G us d f
    reaching_le e some le w =
        let one = exactly_le (exactly_one w.0) (downs e t (omega arith) w) (λ P same. subst (Down c rank f.r t e) same w.1) in
        omega (arith, le-mul_of_pos_right (reaching G us d f e t) one, exactly_le (met_at e some le w) members (λ C v. v.member))

    layer_exact : (e : ℕ) → 0 < e → e ≤ d → Exactly (layer_share G us d f e t) (λ C. From t e × Meeting C)
    unfolding layer_share
    layer_exact e some le = exactly_when (layer_tells e t (omega arith)) (met_at e some le)

    at_layers : Exactly (sum_to d (λ e. layer_share G us d f (suc e) t)) (Below d (λ e C. From t (suc e) × Meeting C))
    at_layers =
        exactly_sum d (λ e. layer_share G us d f (suc e) t) (λ e C. From t (suc e) × Meeting C)
        (λ i j C v w. omega (arith, distance_unique c (down_far c rank v.0.1) (down_far c rank w.0.1))) (λ e less. layer_exact (suc e) (omega arith) (omega arith))

    -- The atom of a link that is no farther than p and q has a path down; the other one is x.
    link_atom : t ∈ link → (From t d) ⊎ (f.x ≡ t)
    link_atom = go candidate
      where
        go : {f : Family} {d : ℕ} {link : List ℕ} → Candidate c rank f d link → t ∈ link → (DownFrom c rank f.r t d) ⊎ (f.x ≡ t)
        go (Candidate.odd {r = r} {d = d} less bond under_p under_q long) ◌∈◌.first = inl under_p.1
        go (Candidate.odd {r = r} {d = d} less bond under_p under_q long) (◌∈◌.later g) =
            inl (subst (λ (x : ℕ). DownFrom c rank r x d) (in_one g) under_q.1)
        go (Candidate.even less bond_p bond_q under_x under_p under_q long) ◌∈◌.first = inl under_p.1
        go (Candidate.even less bond_p bond_q under_x under_p under_q long) (◌∈◌.later ◌∈◌.first) = inr refl
        go (Candidate.even {r = r} {d = d} less bond_p bond_q under_x under_p under_q long) (◌∈◌.later (◌∈◌.later g)) =
            inl (subst (λ (x : ℕ). DownFrom c rank r x d) (in_one g) under_q.1)

    -- x, if it is an atom, is of the link, and farther than p and q.
    middle : f.x ≡ t → (t ∈ link) × Distance c t f.r (suc d)
    middle = go candidate
      where
        go : {f : Family} {d : ℕ} {link : List ℕ} → Candidate c rank f d link → f.x ≡ t → (t ∈ link) × Distance c t f.r (suc d)
        go (Candidate.odd less bond under_p under_q long) e = absurd (omega (arith, e, ready.atoms))
        go (Candidate.even {r = r} {p = p} {q = q} {d = d} less bond_p bond_q under_x under_p under_q long) e =
            (subst (λ (y : ℕ). t ∈ (p ∷ y ∷ q ∷ [])) (sym e) (◌∈◌.later ◌∈◌.first), subst (λ (y : ℕ). Distance c y r (suc d)) e (down_far c rank under_x.1.1))

    corner_tells : Tells ((f.r ≡ t) ⊎ (f.x ≡ t)) (eqb f.r t || eqb f.x t)
    corner_tells = or_tells (eqb_tells f.r t) (eqb_tells f.x t)

    corner_exact : (f.r ≡ t) ⊎ (f.x ≡ t) → Exactly (pairs_of G us d f) Meeting
    corner_exact =
        ⊎_elim
        (λ e. subst (λ (y : ℕ). Exactly (pairs_of G us d f) (MemberWith c rank (λ C. 0 < degree c C y) f)) e
        (top_share c ready.sound rank ready.injective candidate kept sized))
        (λ e. link_atom_share c ready.sound rank ready.injective candidate kept (middle e).0 sized)

    off_corner : (C : ℕ) → Below d (λ e C. From t (suc e) × Meeting C) C → ((f.r ≡ t) ⊎ (f.x ≡ t)) × Meeting C → ⊥
    off_corner C w l =
        let away = down_far c rank w.has.0.1 in
        ⊎_elim
        (λ e. omega (arith, distance_unique c away (subst (λ (y : ℕ). Distance c y f.r 0) e (down_far c rank Down.top))))
        (λ e. omega (arith, w.less, distance_unique c away (middle e).1)) l.0

    some_layer : {C e : ℕ} → Meeting C → e ≤ d → From t e → Below d (λ e C. From t (suc e) × Meeting C) C ⊎ (((f.r ≡ t) ⊎ (f.x ≡ t)) × Meeting C)
    some_layer {e = zero} meets le w = inr (inl (down_here c rank w.1 refl), meets)
    some_layer {e = suc e} meets le w = inl (record { by = e; less = le; has = (w, meets) })

    met_where : {C : ℕ} → Meeting C → Below d (λ e C. From t (suc e) × Meeting C) C ⊎ (((f.r ≡ t) ⊎ (f.x ≡ t)) × Meeting C)
    met_where m =
        ⊎_elim (λ g. ⊎_elim (λ w. some_layer m (omega arith) w) (λ e. inr (inr e, m)) (link_atom g)) (λ w. some_layer m w.near w.down)
        (atom_cases c ready.sound rank ready.injective candidate kept m.member m.has)

    -- The share of an atom is the number of members that meet it.
    pub atom_share_exact : Exactly (atom_share G us d f t) (MemberWith c rank (λ C. 0 < degree c C t) f)
    unfolding atom_share
    atom_share_exact =
        exactly_as (exactly_either at_layers (exactly_when corner_tells corner_exact) off_corner)
        (λ C. (⊎_elim (λ w. w.has.1) (λ l. l.1), met_where))

    -- So is the share of an atom.
    pub atom_share_le : atom_share G us d f t ≤ pairs_of G us d f
    atom_share_le = exactly_le atom_share_exact members (λ C v. v.member)
