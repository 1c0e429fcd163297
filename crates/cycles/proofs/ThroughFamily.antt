-- How many members of a kept family hold a bond, and how many meet an atom.
use mathlib.Core.Path.{◌≡◌, sym, subst}
use mathlib.Core.List.{List}
use mathlib.Core.Logic.{◌↔◌, ◌⊎◌, inl, inr, ⊎_elim}
use Prim.Native.Nat.{ℕ, suc, ◌+◌, ◌*◌, ◌<◌, ◌≤◌}
use native.Mathlib.Nat.{mul_comm}
use native.Mathlib.Omega.{arith}
use Rattle.spans.specs.Elements.{◌∈◌}
use Rattle.bondset.specs.Sets.{bit}
use Rattle.cycles.specs.Compound.{Compound, Joins, Sound, Distance}
use Rattle.cycles.specs.Ring.{degree}
use Rattle.cycles.specs.Family.{Family, Precedes, Down, Candidate, Member, Kept, Size}
use Rattle.cycles.specs.Through.{Exactly}
use Rattle.cycles.proofs.Carry.{holds_true, bit_one}
use Rattle.cycles.proofs.PathsDecide.{joins_sym}
use Rattle.cycles.proofs.PathsDown.{distance_unique, down_far, down_first}
use Rattle.cycles.proofs.Families.{Made, MadeRing, made_exists, made_unique, made_at, member_made, apart_ring}
use Rattle.cycles.proofs.MembersBonds.{Uses, uses_left, uses_apart}
use Rattle.cycles.proofs.MembersCorners.{down_top, linked_far, linked_near, side_P, side_Q, link_held, made_injective}
use Rattle.cycles.proofs.Members.{kept_apart, made_kept_member}
use Rattle.cycles.proofs.Exact.{exactly_as, exactly_at, exactly_none, exactly_either, Paired, exactly_pairs}
use Rattle.cycles.proofs.Falls.{Fall, DownWith, paths_through_atom, paths_along_bond, Stepped, stepped, Passed, passed}
use Rattle.cycles.proofs.ThroughRows.{MemberWith}

module _ (c : Compound) (sound : Sound c) (rank : ℕ → ℕ) (injective : (a b : ℕ) → a < c.n → b < c.n → rank a ≡ rank b → a ≡ b) {f : Family}
    {d : ℕ} {link : List ℕ} (candidate : Candidate c rank f d link) (kept : Kept c rank f) where
  abbrev Makes : List ℕ → List ℕ → ℕ → Type 0
  Makes P Q C = Made c sound rank f d link P Q C

  apart : {P Q : List ℕ} {C : ℕ} → Makes P Q C → (a : ℕ) → a ∈ P → a ∈ Q → a ≡ f.r
  apart s = kept_apart c sound rank injective candidate kept s

  same_paths : {P P' Q Q' : List ℕ} {C : ℕ} → Makes P Q C → Makes P' Q' C → (P ≡ P') × (Q ≡ Q')
  same_paths s t = made_injective c sound rank s t (apart s) (apart t)

  ring_of_lem : {P Q : List ℕ} {C : ℕ} → Makes P Q C → MadeRing c sound rank f link P Q C
  ring_of_lem s = apart_ring c sound rank s (apart s)

  made_of : {C : ℕ} (m : Member c rank f C) → Makes m.P m.Q C
  made_of m = made_at c sound rank (member_made c sound rank m) candidate

  -- Down paths of some kind from p and from q: each pair makes up a member.
  pairs : {A B : List ℕ → Type 0} {a b : ℕ} → ((P : List ℕ) → A P → Down c rank f.r f.p d P) → ((Q : List ℕ) → B Q → Down c rank f.r f.q d Q)
      → Exactly a A → Exactly b B → Exactly (a * b) (Paired Makes A B)
  pairs down_p down_q =
      exactly_pairs Makes (λ P Q S T. made_unique c sound rank) (λ P P' Q Q' C s t. same_paths s t)
      (λ P Q h g. made_exists c sound rank candidate (down_p P h) (down_q Q g))

  -- What at most one path of a pair has, and a member has exactly if one of its paths has it: p's side and q's side add up.
  module _ (T : List ℕ → Type 0) (H : ℕ → Type 0) (one_side : (P Q : List ℕ) (C : ℕ) → Makes P Q C → T P → T Q → ⊥)
      (from : (P Q : List ℕ) (C : ℕ) → Makes P Q C → H C → T P ⊎ T Q) (to : (P Q : List ℕ) (C : ℕ) → Makes P Q C → T P ⊎ T Q → H C) where
    abbrev OnP : ℕ → Type 0
    OnP = Paired Makes (DownWith c rank T f.r f.p d) (Down c rank f.r f.q d)

    abbrev OnQ : ℕ → Type 0
    OnQ = Paired Makes (Down c rank f.r f.p d) (DownWith c rank T f.r f.q d)

    sides_apart : (C : ℕ) → OnP C → OnQ C → ⊥
    sides_apart C s t = one_side _ _ _ t.makes (subst T (same_paths s.makes t.makes).0 s.left.has) t.right.has

    on_a_side : (C : ℕ) → (OnP C ⊎ OnQ C) ↔ MemberWith c rank H f C
    on_a_side C = (⊎_elim (λ w. given w.makes (inl w.left.has)) (λ w. given w.makes (inr w.right.has)), λ w. back w.member w.has)
      where
        given : {P Q : List ℕ} → Makes P Q C → T P ⊎ T Q → MemberWith c rank H f C
        given s e = record { member = made_kept_member c sound rank injective candidate kept s; has = to _ _ _ s e }

        back : Member c rank f C → H C → OnP C ⊎ OnQ C
        back m h =
            let s = made_of m in
            ⊎_elim
            (λ e. inl (record { one = m.P; other = m.Q; left = record { down = s.down_p; has = e }; right = s.down_q; makes = s }))
            (λ e. inr (record { one = m.P; other = m.Q; left = s.down_p; right = record { down = s.down_q; has = e }; makes = s }))
            (from _ _ _ s h)

    both_sides : {a b x y : ℕ} → Exactly x (DownWith c rank T f.r f.p d) → Exactly y (DownWith c rank T f.r f.q d)
        → Exactly a (Down c rank f.r f.p d) → Exactly b (Down c rank f.r f.q d) → Exactly (x * b + y * a) (MemberWith c rank H f)
    both_sides {a} {b} {x} {y} on_p on_q all_p all_q =
        exactly_as
        (exactly_either (pairs (λ P w. w.down) (λ Q w. w) on_p all_q) (exactly_at (mul_comm a y) (pairs (λ P w. w) (λ Q w. w.down) all_p on_q)) sides_apart)
        on_a_side

  -- What every member has, as many have as the family has members.
  every : {s : ℕ} (H : ℕ → Type 0) → ((C : ℕ) → Member c rank f C → H C) → Size c rank f s → Exactly s (MemberWith c rank H f)
  every H all size = record {
    listed = size.members;
    once = size.once;
    all = λ C. (λ h. let m = (size.all C).0 h in record { member = m; has = all C m }, λ w. (size.all C).1 w.member);
    count = size.count;
  }

  -- ---- bonds

  module _ {k : ℕ} (off : Uses c k link → ⊥) where
    bond_from : {P Q : List ℕ} {C : ℕ} → Makes P Q C → bit C k ≡ 1 → Uses c k P ⊎ Uses c k Q
    bond_from {C} s e = ⊎_elim inl (⊎_elim inr (λ u. absurd (off u))) ((side_P c sound rank s (apart s)).parts k (holds_true C k e))

    bond_to : {P Q : List ℕ} {C : ℕ} → Makes P Q C → Uses c k P ⊎ Uses c k Q → bit C k ≡ 1
    bond_to {C} s = ⊎_elim (λ u. bit_one C k ((side_P c sound rank s (apart s)).held k u)) (λ u. bit_one C k ((side_Q c sound rank s (apart s)).held k u))

  -- A bond that leads from t, at most as far as p and q, to s, one step nearer to r: the ways down to t, times the paths down from s, times the paths
  -- from the other end; for p's side and for q's side.
  pub bond_share_lem : {k t s e u v w a b : ℕ} → Joins c k t s → Precedes c rank t f.r → Distance c t f.r (suc e) → Distance c s f.r e → e < d
      → Exactly u (Fall c rank f.r f.p d t (suc e)) → Exactly v (Fall c rank f.r f.q d t (suc e)) → Exactly w (Down c rank f.r s e)
      → Exactly a (Down c rank f.r f.p d) → Exactly b (Down c rank f.r f.q d)
      → Exactly (u * w * b + v * w * a) (MemberWith c rank (λ C. bit C k ≡ 1) f)
  bond_share_lem {k} {e} joins before far far' less up_p up_q downs all_p all_q =
      both_sides (Uses c k) (λ C. bit C k ≡ 1) (λ P Q C s. uses_apart c sound (apart s)) (λ P Q C. bond_from off) (λ P Q C. bond_to off)
      (paths_along_bond c rank joins before far far' up_p downs) (paths_along_bond c rank joins before far far' up_q downs) all_p all_q
    where
      off : Uses c k link → ⊥
      off u = omega (arith, linked_far c sound rank candidate (uses_left c u (joins_sym c joins)) far')

  -- A bond of the link: the size.
  pub link_bond_share : {k s : ℕ} → Uses c k link → Size c rank f s → Exactly s (MemberWith c rank (λ C. bit C k ≡ 1) f)
  link_bond_share {k} u = every (λ C. bit C k ≡ 1) (λ C m. bit_one C k (link_held c sound rank (made_of m) (apart (made_of m)) k u))

  -- A bond that a member holds is of the link, or a step of a down path.
  pub bond_cases : {k C : ℕ} → Member c rank f C → bit C k ≡ 1 → Uses c k link ⊎ Stepped c rank f.r d k
  bond_cases {k} {C} m e =
      let s = made_of m in
      ⊎_elim (λ u. inr (stepped c rank s.down_p u)) (⊎_elim (λ u. inr (stepped c rank s.down_q u)) inl)
      ((side_P c sound rank s (apart s)).parts k (holds_true C k e))

  -- Any other bond: none.
  pub other_bond_share : {k : ℕ} → (Uses c k link → ⊥) → (Stepped c rank f.r d k → ⊥) → Exactly 0 (MemberWith c rank (λ C. bit C k ≡ 1) f)
  other_bond_share off none = exactly_none (λ C w. ⊎_elim off none (bond_cases w.member w.has))

  -- ---- atoms

  -- An atom t, not r, at most as far as p and q: the ways down to t, times the paths down from t, times the paths from the other end; for p's side
  -- and for q's side.
  pub atom_share_lem : {t e u v w a b : ℕ} → Distance c t f.r e → 0 < e → e ≤ d
      → Exactly u (Fall c rank f.r f.p d t e) → Exactly v (Fall c rank f.r f.q d t e) → Exactly w (Down c rank f.r t e)
      → Exactly a (Down c rank f.r f.p d) → Exactly b (Down c rank f.r f.q d)
      → Exactly (u * w * b + v * w * a) (MemberWith c rank (λ C. 0 < degree c C t) f)
  atom_share_lem {t} {e} far some near up_p up_q downs all_p all_q =
      both_sides (λ P. t ∈ P) (λ C. 0 < degree c C t) (λ P Q C. one_side) (λ P Q C. from)
      (λ P Q C s. ⊎_elim ((ring_of_lem s).has_P t) ((ring_of_lem s).has_Q t))
      (paths_through_atom c rank far up_p downs) (paths_through_atom c rank far up_q downs) all_p all_q
    where
      one_side : {P Q : List ℕ} {C : ℕ} → Makes P Q C → t ∈ P → t ∈ Q → ⊥
      one_side s h g =
          let top : Distance c t f.r 0 = subst (λ (x : ℕ). Distance c x f.r 0) (sym (apart s t h g)) (down_far c rank Down.top) in
          omega (arith, distance_unique c far top)

      from : {P Q : List ℕ} {C : ℕ} → Makes P Q C → 0 < degree c C t → (t ∈ P) ⊎ (t ∈ Q)
      from {P} {Q} s h =
          ⊎_elim inl
          (⊎_elim inr
          (λ l. ⊎_elim (λ e. inl (subst (λ (x : ℕ). x ∈ P) (sym e) (down_first c rank s.down_p)))
          (λ e. inr (subst (λ (x : ℕ). x ∈ Q) (sym e) (down_first c rank s.down_q))) (linked_near c sound rank candidate l far near)))
          ((ring_of_lem s).atoms t h)

  -- The top atom: the size.
  pub top_share : {s : ℕ} → Size c rank f s → Exactly s (MemberWith c rank (λ C. 0 < degree c C f.r) f)
  top_share =
      every (λ C. 0 < degree c C f.r) (λ C m. (ring_of_lem (made_of m)).has_P f.r (down_top c sound rank (made_of m).down_p))

  -- An atom of the link: the size.
  pub link_atom_share : {a s : ℕ} → a ∈ link → Size c rank f s → Exactly s (MemberWith c rank (λ C. 0 < degree c C a) f)
  link_atom_share {a} h = every (λ C. 0 < degree c C a) (λ C m. (ring_of_lem (made_of m)).has_link a h)

  -- An atom that a member meets is of the link, or of a down path.
  pub atom_cases : {a C : ℕ} → Member c rank f C → 0 < degree c C a → (a ∈ link) ⊎ Passed c rank f.r d a
  atom_cases {a} m h =
      let s = made_of m in
      ⊎_elim (λ g. inr (passed c rank s.down_p g)) (⊎_elim (λ g. inr (passed c rank s.down_q g)) inl) ((ring_of_lem s).atoms a h)

  -- Any other atom: none.
  pub other_atom_share : {a : ℕ} → (a ∈ link → ⊥) → (Passed c rank f.r d a → ⊥) → Exactly 0 (MemberWith c rank (λ C. 0 < degree c C a) f)
  other_atom_share off none = exactly_none (λ C w. ⊎_elim off none (atom_cases w.member w.has))
