-- The row of a relevant ring, found without listing members: by its length, its last atom and its link.
use mathlib.Core.Path.{◌≡◌, refl, sym, ap, ap₂, ◌∙◌, subst}
use mathlib.Core.Bool.{Bool, true, false, cond, ◌||◌}
use mathlib.Core.List.{List, [], ◌∷◌}
use mathlib.Core.Logic.{◌↔◌, ◌⊎◌, inl, inr, ⊎_elim}
use Prim.Native.Nat.{ℕ, suc, ◌*◌, ◌+◌, ◌%◌, ◌<◌, ◌≤◌}
use native.Mathlib.Omega.{arith}
use borrow.Author.Tests.{eq-eqb}
use lib.Dec.{eqb}
use Rattle.spans.specs.Elements.{◌∈◌, Once}
use Rattle.bondset.specs.Sets.{bit}
use Rattle.graphs.specs.Count.{xor}
use Rattle.graphs.proofs.Basics.{not_true}
use Rattle.cycles.specs.Compound.{Compound, m, one, other, Joins, Sound, Distance}
use Rattle.cycles.specs.Ring.{len, meets, degree, Relevant}
use Rattle.cycles.specs.Family.{Family, Precedes, Candidate, Member, Kept}
use Rattle.cycles.specs.Rows.{Row, At, Report, Right}
use Rattle.cycles.specs.Explained.{Reason, Why}
use Rattle.cycles.proofs.Number.{holds}
use Rattle.cycles.proofs.Carry.{bit_one}
use Rattle.cycles.proofs.PathsDecide.{not_in_none, joins_sym}
use Rattle.cycles.proofs.PathsDown.{in_one, down_far, down_first}
use Rattle.cycles.proofs.Families.{Made, member_made}
use Rattle.cycles.proofs.MembersBonds.{Uses, held_uses, uses_held, uses_apart}
use Rattle.cycles.proofs.MembersApart.{ring_apart}
use Rattle.cycles.proofs.MembersCorners.{family_same, pair_same, Middle, Corners, corners, linked_end, ends_precede, stray, holds_three}
use Rattle.cycles.proofs.MembersAround.{degree_to_pos}
use Rattle.cycles.proofs.Members.{relevant_in_family}
use Rattle.cycles.proofs.Ranks.{in_map, at_element}
use Rattle.cycles.proofs.OneRow.{row_place_unique, relevant_in_one_row}
use Rattle.cycles.proofs.ExplainedRing.{met_named}

-- ---- bonds of a set, and the atoms that it meets
either_true : (a : Bool) → ◌≡◌ {A = ℕ} (cond (a || true) 1 0) 1
either_true true = refl
either_true false = refl

not_of_two : {a b d : ℕ} → (a ≡ b → ⊥) → (a ≡ d → ⊥) → a ∈ (b ∷ d ∷ []) → ⊥
not_of_two f g ◌∈◌.first = f refl
not_of_two f g (◌∈◌.later ◌∈◌.first) = g refl
not_of_two f g (◌∈◌.later (◌∈◌.later i)) = not_in_none i

once_two : {a b : ℕ} → (a ≡ b → ⊥) → Once (a ∷ b ∷ [])
once_two f = Once.more (λ i. f (sym (in_one i))) (Once.more not_in_none Once.none)

module _ (c : Compound) where
  -- A bond between a and b is in C.
  pub record HasBond (C a b : ℕ) : Type 0 where
    pub bond : ℕ
    pub joins : Joins c bond a b
    pub held : bit C bond ≡ 1

  -- The link of the family, "the bond p-q (or path p, x, q)", is part of C.
  pub data Linked (f : Family) (C : ℕ) : Type 0 where
    odd : f.long % 2 ≡ 1 → HasBond C f.p f.q → Linked f C
    even : f.long % 2 ≡ 0 → HasBond C f.p f.x → HasBond C f.x f.q → Linked f C

  meets_end : {k a b : ℕ} → Joins c k a b → (k < m c) × (meets c k a ≡ 1)
  meets_end {k} {a} (Joins.given h e d) = (h, ap (λ (t : Bool). cond (t || eqb (other c k) a) 1 0) (eq-eqb (one c k) a e))
  meets_end {k} {a} (Joins.turned h e d) =
      (h, ap (λ (t : Bool). cond (eqb (one c k) a || t) 1 0) (eq-eqb (other c k) a e) ∙ either_true (eqb (one c k) a))

  -- C meets both ends of its bonds.
  pub bond_meets : {C a b : ℕ} → HasBond C a b → 0 < degree c C a
  bond_meets {C} {a} s = let (l, e) = meets_end s.joins in degree_to_pos c (m c) s.bond C a l s.held e

  -- A bond is one either way round.
  pub bond_turned : {C a b : ℕ} → HasBond C a b → HasBond C b a
  bond_turned s = record { bond = s.bond; joins = joins_sym c s.joins; held = s.held }

module _ (c : Compound) (rank : ℕ → ℕ) where
  -- What is looked for in a row: its length is that of C, C meets its top atom, all other atoms of C precede that one, and C holds its link.
  pub record Matches (f : Family) (C : ℕ) : Type 0 where
    pub long : len c C ≡ f.long
    pub top : 0 < degree c C f.r
    pub last : (a : ℕ) → 0 < degree c C a → (a ≡ f.r) ⊎ Precedes c rank a f.r
    pub linked : Linked c f C

module _ (c : Compound) (sound : Sound c) (rank : ℕ → ℕ) where
  -- ---- what matches is the family
  module _ (f : Family) {g : Family} {C e : ℕ} (t : Corners c sound rank g C e) (long : f.long ≡ g.long) (top : f.r ≡ g.r) (less : f.p < f.q)
      (meets_p : 0 < degree c C f.p) (meets_q : 0 < degree c C f.q) where
    far_at : {a d n : ℕ} → d ≡ n → Distance c a f.r d → Distance c a g.r n
    far_at {a} {d} h far = subst (λ (k : ℕ). Distance c a g.r k) h (subst (λ (r : ℕ). Distance c a r d) top far)

    ends_same : {d : ℕ} → d ≡ e → Distance c f.p f.r d → Distance c f.q f.r d → f.x ≡ g.x → f ≡ g
    ends_same h far_p far_q x =
        let both = pair_same less t.less (t.ends f.p meets_p (far_at h far_p)) (t.ends f.q meets_q (far_at h far_q)) in
        family_same long top both.0 both.1 x

    odd_same : {d : ℕ} → f.long ≡ 2 * d + 1 → f.x ≡ 255 → Distance c f.p f.r d → Distance c f.q f.r d → Middle c sound rank g C e
        → f ≡ g
    odd_same l x far_p far_q (Middle.odd l' x') = ends_same (omega arith) far_p far_q (x ∙ sym x')
    odd_same l x far_p far_q (Middle.even l' meets far only) = absurd (omega arith)

    even_same : {d : ℕ} → f.long ≡ 2 * suc d → 0 < degree c C f.x → Distance c f.x f.r (suc d) → Distance c f.p f.r d
        → Distance c f.q f.r d → Middle c sound rank g C e → f ≡ g
    even_same l meets_x far_x far_p far_q (Middle.odd l' x') = absurd (omega arith)
    even_same {d} l meets_x far_x far_p far_q (Middle.even l' meets far only) =
        let h : d ≡ e = omega arith in
        ends_same h far_p far_q (only f.x meets_x (far_at (ap suc h) far_x))

  linked_same : {f g : Family} {C d e : ℕ} {link : List ℕ} → Candidate c rank f d link → Linked c f C → Corners c sound rank g C e
      → f.long ≡ g.long → f.r ≡ g.r → f ≡ g
  linked_same (Candidate.odd less bond under_p under_q l) (Linked.odd o h) t long top =
      odd_same _ t long top less (bond_meets c h) (bond_meets c (bond_turned c h)) l refl (down_far c rank under_p.1.1) (down_far c rank under_q.1.1)
      t.middle
  linked_same (Candidate.odd less bond under_p under_q l) (Linked.even o h g) t long top = absurd (omega arith)
  linked_same (Candidate.even less bond_p bond_q under_x under_p under_q l) (Linked.odd o h) t long top = absurd (omega arith)
  linked_same (Candidate.even less bond_p bond_q under_x under_p under_q l) (Linked.even o h g) t long top =
      even_same _ t long top less (bond_meets c h) (bond_meets c (bond_turned c g)) l (bond_meets c g) (down_far c rank under_x.1.1)
      (down_far c rank under_p.1.1) (down_far c rank under_q.1.1) t.middle

  top_same : {f g : Family} {C e : ℕ} → Matches c rank f C → Corners c sound rank g C e → f.r ≡ g.r
  top_same {f} {g} s t =
      ⊎_elim (λ h. h) (λ h. ⊎_elim (λ k. sym k) (λ k. absurd (omega arith)) (s.last g.r t.top)) (t.last f.r s.top)

  -- A family that matches C is the family of which C is a member.
  pub matches_family : {f g : Family} {C d : ℕ} {link : List ℕ} → Candidate c rank f d link → Matches c rank f C → Member c rank g C → f ≡ g
  matches_family candidate s m =
      let t = corners c sound rank m in
      linked_same candidate s.linked t (sym s.long ∙ m.long) (top_same s t)

  -- To match it is enough to look at the atoms of the compound.
  pub matches_tested : {f : Family} {C : ℕ} → len c C ≡ f.long → 0 < degree c C f.r
      → ((a : ℕ) → a < c.n → 0 < degree c C a → (a ≡ f.r) ⊎ Precedes c rank a f.r) → Linked c f C → Matches c rank f C
  matches_tested {f} {C} long top last linked =
      record { long = long; top = top; last = λ a h. last a (met_named c sound C a h) h; linked = linked }

  -- ---- a member matches
  bonded_differ : {k a b : ℕ} → Joins c k a b → a ≡ b → ⊥
  bonded_differ {k} {b} j e = sound.no_loop k b (subst (λ (x : ℕ). Joins c k x b) e j)

  link_once : {f : Family} {d : ℕ} {link : List ℕ} → Candidate c rank f d link → Once link
  link_once (Candidate.odd less bond under_p under_q l) = once_two (λ e. omega arith)
  link_once (Candidate.even {p = p} {q = q} less bond_p bond_q under_x under_p under_q l) =
      Once.more (not_of_two (bonded_differ bond_p.1) (λ (e : p ≡ q). omega arith)) (once_two (bonded_differ bond_q.1))

  -- The bonds of the link are bonds of what is made up with it.
  link_held : {f : Family} {d C k : ℕ} {link P Q : List ℕ} → Made c sound rank f d link P Q C → ((a : ℕ) → a ∈ P → a ∈ Q → a ≡ f.r) → Uses c k link
      → bit C k ≡ 1
  link_held {f} {C} {k} {link} {P} {Q} s apart u =
      bit_one C k
      (holds_three c sound rank s.made.from_p s.made.from_q s.made.between k s.made.sum ∙ ap₂ xor (ap₂ xor off_p off_q) on)
    where
      only_p : (a : ℕ) → a ∈ link → a ∈ P → a ≡ f.p
      only_p a h g =
          ⊎_elim (λ e. e) (λ e. absurd (stray c sound rank (ends_precede c sound rank s.candidate).1 (down_first c rank s.down_q) (apart a g) e))
          (linked_end c sound rank s.candidate s.down_p h g)

      only_q : (a : ℕ) → a ∈ link → a ∈ Q → a ≡ f.q
      only_q a h g =
          ⊎_elim
          (λ e. absurd (stray c sound rank (ends_precede c sound rank s.candidate).0 (down_first c rank s.down_p) (λ b. apart a b g) e)) (λ e. e)
          (linked_end c sound rank s.candidate s.down_q h g)

      off_p : holds s.made.from_p k ≡ false
      off_p = not_true (holds s.made.from_p k) (λ h. uses_apart c sound only_p u (held_uses c s.made.edges_p h))

      off_q : holds s.made.from_q k ≡ false
      off_q = not_true (holds s.made.from_q k) (λ h. uses_apart c sound only_q u (held_uses c s.made.edges_q h))

      on : holds s.made.between k ≡ true
      on = uses_held c sound s.made.edges_link (link_once s.candidate) u

  linked_by : {f : Family} {d C : ℕ} {link : List ℕ} → Candidate c rank f d link → ((k : ℕ) → Uses c k link → bit C k ≡ 1) → Linked c f C
  linked_by (Candidate.odd less (k, j) under_p under_q l) held = Linked.odd (omega arith) (record { bond = k; joins = j; held = held k (Uses.here j) })
  linked_by (Candidate.even less (i, p) (j, q) under_x under_p under_q l) held =
      Linked.even (omega arith) (record { bond = i; joins = p; held = held i (Uses.here p) })
      (record { bond = j; joins = q; held = held j (Uses.later (Uses.here q)) })

  -- A family matches its members.
  pub member_matches : {f : Family} {C : ℕ} → Member c rank f C → Matches c rank f C
  member_matches s =
      let w = member_made c sound rank s in
      let t = corners c sound rank s in
      record {
        long = s.long;
        top = t.top;
        last = t.last;
        linked = linked_by s.candidate (λ k u. link_held w (ring_apart c sound rank w s.ring s.long) u);
      }

  -- In a compound of at most 255 atoms the x of a candidate, 255 or not, says whether its length is odd.
  pub candidate_x : {f : Family} {d : ℕ} {link : List ℕ} → c.n ≤ 255 → Candidate c rank f d link
      → ((f.x ≡ 255) × (f.long % 2 ≡ 1)) ⊎ ((f.x < 255) × (f.long % 2 ≡ 0))
  candidate_x few (Candidate.odd less bond under_p under_q l) = inl (refl, omega arith)
  candidate_x few (Candidate.even {x = x} less bond_p (k, j) under_x under_p under_q l) =
      let h = sound.named k x _ j in inr (omega arith, omega arith)

  module _ (injective : (a b : ℕ) → a < c.n → b < c.n → rank a ≡ rank b → a ≡ b) where
    -- The look-up: a relevant ring is a member of the kept family that matches it.
    pub matches_member : {f : Family} {C : ℕ} → Relevant c C → Kept c rank f → Matches c rank f C → Member c rank f C
    matches_member {f} {C} relevant kept s =
        let w = relevant_in_family c sound rank injective relevant in
        subst (λ (g : Family). Member c rank g C) (sym (matches_family kept.prototype.candidate s w.member)) w.member

    module _ {R : Report} (right : Right c rank R) where
      row_kept : {i : ℕ} {row : Row} → At R.rows i row → Kept c rank row.family
      row_kept {row = row} a = (right.kept row.family).0 (in_map (λ row. row.family) (at_element a))

      -- A row of a right report matches a relevant ring exactly if the ring is a member of its family.
      pub row_matches_iff : {i C : ℕ} {row : Row} → At R.rows i row → Relevant c C → Matches c rank row.family C ↔ Member c rank row.family C
      row_matches_iff a relevant = (matches_member relevant (row_kept a), member_matches)

      -- The row that matches is the explanation of a relevant ring ..
      pub row_matches_why : {i C : ℕ} {row : Row} → At R.rows i row → Relevant c C → Matches c rank row.family C
          → Why c rank R C (Reason.relevant i)
      row_matches_why a relevant s = Why.relevant relevant a (matches_member relevant (row_kept a) s)

      -- .. there is one ..
      pub row_matches_exists : {C : ℕ} → Relevant c C → (i : ℕ) × (row : Row) × At R.rows i row × Matches c rank row.family C
      row_matches_exists relevant =
          let w = relevant_in_one_row c sound rank injective right relevant in (w.place, w.row, w.at, member_matches w.member)

      -- .. and no other.
      pub row_matches_once : {i j C : ℕ} {u v : Row} → Relevant c C → At R.rows i u → Matches c rank u.family C → At R.rows j v
          → Matches c rank v.family C → i ≡ j
      row_matches_once relevant a s b t =
          row_place_unique c sound rank injective right a b ((row_matches_iff a relevant).0 s) ((row_matches_iff b relevant).0 t)
