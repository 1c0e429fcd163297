-- What a member's atoms tell: its family, and its two paths.
use mathlib.Core.Path.{◌≡◌, refl, sym, ap, ap₂, ◌∙◌, subst}
use mathlib.Core.Bool.{Bool, true, false}
use mathlib.Core.List.{List, [], ◌∷◌}
use mathlib.Core.Logic.{◌⊎◌, inl, inr, ⊎_elim}
use Prim.Native.Nat.{ℕ, suc, ◌+◌, ◌*◌, ◌<◌, ◌≤◌}
use native.Mathlib.Omega.{arith}
use lib.Bits.{bit_xor, xor_comm}
use Rattle.spans.specs.Elements.{◌∈◌, Once}
use Rattle.graphs.specs.Count.{xor}
use Rattle.graphs.proofs.Basics.{not_true}
use Rattle.cycles.proofs.Number.{holds, holds_xor}
use Rattle.cycles.specs.Compound.{Compound, Sound, Distance}
use Rattle.cycles.specs.Ring.{degree, Edges}
use Rattle.cycles.specs.Family.{Family, Precedes, Down, Candidate, Member}
use Rattle.cycles.proofs.PathsDecide.{not_in_none}
use Rattle.cycles.proofs.PathsDown.{in_one, distance_unique, down_far, down_first, down_near, down_once}
use Rattle.cycles.proofs.Families.{Made, MadeRing, apart_ring, member_made}
use Rattle.cycles.proofs.MembersBonds.{Uses, held_uses, uses_held, uses_apart, xor_either, down_same, Side, side_unique}
use Rattle.cycles.proofs.MembersApart.{ring_apart}

-- A family is told by its five numbers.
pub family_same : {f g : Family} → f.long ≡ g.long → f.r ≡ g.r → f.p ≡ g.p → f.q ≡ g.q → f.x ≡ g.x → f ≡ g
family_same {f} {g} long r p q x =
    let same : ◌≡◌ {A = Family} (record { long = f.long; r = f.r; p = f.p; q = f.q; x = f.x })
    (record { long = g.long; r = g.r; p = g.p; q = g.q; x = g.x }) = cc in
    same

-- Two pairs in order with the same two numbers are the same pair.
pub pair_same : {p q p' q' : ℕ} → p < q → p' < q' → (p ≡ p') ⊎ (p ≡ q') → (q ≡ p') ⊎ (q ≡ q') → (p ≡ p') × (q ≡ q')
pair_same less less' (inl e) (inl h) = absurd (omega arith)
pair_same less less' (inl e) (inr h) = (e, h)
pair_same less less' (inr e) (inl h) = absurd (omega arith)
pair_same less less' (inr e) (inr h) = absurd (omega arith)

module _ (c : Compound) (sound : Sound c) (rank : ℕ → ℕ) where
  -- The atoms of C that are farthest from r, and what they say of the family.
  pub data Middle (f : Family) (C d : ℕ) : Type 0 where
    odd : f.long ≡ 2 * d + 1 → f.x ≡ 255 → Middle f C d
    even : f.long ≡ 2 * suc d → 0 < degree c C f.x → Distance c f.x f.r (suc d)
        → ((a : ℕ) → 0 < degree c C a → Distance c a f.r (suc d) → a ≡ f.x) → Middle f C d

  -- The atoms of C that say its family.
  pub record Corners (f : Family) (C d : ℕ) : Type 0 where
    pub top : 0 < degree c C f.r
    pub last : (a : ℕ) → 0 < degree c C a → (a ≡ f.r) ⊎ Precedes c rank a f.r
    pub less : f.p < f.q
    pub meets_p : 0 < degree c C f.p
    pub meets_q : 0 < degree c C f.q
    pub far_p : Distance c f.p f.r d
    pub far_q : Distance c f.q f.r d
    pub ends : (a : ℕ) → 0 < degree c C a → Distance c a f.r d → (a ≡ f.p) ⊎ (a ≡ f.q)
    pub middle : Middle f C d

  pub down_top : {r t d : ℕ} {P : List ℕ} → Down c rank r t d P → r ∈ P
  down_top Down.top = ◌∈◌.first
  down_top (Down.step before far bond down) = ◌∈◌.later (down_top down)

  in_two : {a p q : ℕ} → a ∈ (p ∷ q ∷ []) → (a ≡ p) ⊎ (a ≡ q)
  in_two ◌∈◌.first = inl refl
  in_two (◌∈◌.later h) = inr (sym (in_one h))

  in_three : {a p x q : ℕ} → a ∈ (p ∷ x ∷ q ∷ []) → (a ≡ x) ⊎ ((a ≡ p) ⊎ (a ≡ q))
  in_three ◌∈◌.first = inr (inl refl)
  in_three (◌∈◌.later h) = ⊎_elim inl (λ e. inr (inr e)) (in_two h)

  far_same : {a b r d e : ℕ} → Distance c a r d → Distance c b r e → a ≡ b → d ≡ e
  far_same {r} {d} s t e = distance_unique c (subst (λ (x : ℕ). Distance c x r d) e s) t

  module _ {f : Family} {d C : ℕ} {link P Q : List ℕ} (down_p : Down c rank f.r f.p d P) (down_q : Down c rank f.r f.q d Q)
      (w : MadeRing c sound rank f link P Q C) where
    ends_of : ((a : ℕ) → a ∈ link → Distance c a f.r d → (a ≡ f.p) ⊎ (a ≡ f.q)) → (a : ℕ) → 0 < degree c C a → Distance c a f.r d
        → (a ≡ f.p) ⊎ (a ≡ f.q)
    ends_of linked a h far =
        ⊎_elim (λ g. inl (down_same c rank down_p g (down_first c rank down_p) far (down_far c rank down_p)))
        (⊎_elim (λ g. inr (down_same c rank down_q g (down_first c rank down_q) far (down_far c rank down_q))) (λ g. linked a g far))
        (w.atoms a h)

    beyond_of : (a : ℕ) → 0 < degree c C a → Distance c a f.r (suc d) → a ∈ link
    beyond_of a h far =
        ⊎_elim (λ g. absurd (down_near c rank down_p far (omega arith) g))
        (⊎_elim (λ g. absurd (down_near c rank down_q far (omega arith) g)) (λ g. g)) (w.atoms a h)

    corners_with : f.p < f.q → ((a : ℕ) → a ∈ link → Distance c a f.r d → (a ≡ f.p) ⊎ (a ≡ f.q)) → Middle f C d → Corners f C d
    corners_with less linked middle = record {
      top = w.has_P f.r (down_top down_p);
      last = w.precede;
      less = less;
      meets_p = w.has_P f.p (down_first c rank down_p);
      meets_q = w.has_Q f.q (down_first c rank down_q);
      far_p = down_far c rank down_p;
      far_q = down_far c rank down_q;
      ends = ends_of linked;
      middle = middle;
    }

  corners_of : {f : Family} {d C : ℕ} {link P Q : List ℕ} → Candidate c rank f d link → Down c rank f.r f.p d P
      → Down c rank f.r f.q d Q → MadeRing c sound rank f link P Q C → Corners f C d
  corners_of (Candidate.odd less bond under_p under_q long) down_p down_q w =
      corners_with down_p down_q w less (λ a h far. in_two h) (Middle.odd long refl)
  corners_of (Candidate.even {x = x} less bond_p bond_q under_x under_p under_q long) down_p down_q w =
      let far_x = down_far c rank under_x.1.1 in
      corners_with down_p down_q w less (λ a h far. ⊎_elim (λ e. absurd (omega (arith, far_same far far_x e))) (λ e. e) (in_three h))
      (Middle.even long (w.has_link x (◌∈◌.later ◌∈◌.first)) far_x
      (λ a h far. ⊎_elim (λ e. e)
      (⊎_elim (λ e. absurd (omega (arith, far_same far (down_far c rank down_p) e))) (λ e. absurd (omega (arith, far_same far (down_far c rank down_q) e))))
      (in_three (beyond_of down_p down_q w a h far))))

  module _ {f g : Family} {C d e : ℕ} (s : Corners f C d) (t : Corners g C e) (long : f.long ≡ g.long) where
    top_same : f.r ≡ g.r
    top_same =
        ⊎_elim (λ h. h) (λ h. ⊎_elim (λ g. sym g) (λ g. absurd (omega arith)) (s.last g.r t.top)) (t.last f.r s.top)

    far_at : {a n k : ℕ} → n ≡ k → Distance c a f.r n → Distance c a g.r k
    far_at {a} {n} h far = subst (λ (k : ℕ). Distance c a g.r k) h (subst (λ (r : ℕ). Distance c a r n) top_same far)

    corners_same : d ≡ e → f.x ≡ g.x → f ≡ g
    corners_same h x =
        let both =
        pair_same s.less t.less (t.ends f.p s.meets_p (far_at h s.far_p)) (t.ends f.q s.meets_q (far_at h s.far_q)) in
        family_same long top_same both.0 both.1 x

    middle_same : Middle f C d → Middle g C e → f ≡ g
    middle_same (Middle.odd l x) (Middle.odd l' x') = corners_same (omega arith) (x ∙ sym x')
    middle_same (Middle.odd l x) (Middle.even l' meets far only) = absurd (omega arith)
    middle_same (Middle.even l meets far only) (Middle.odd l' x') = absurd (omega arith)
    middle_same (Middle.even l meets far only) (Middle.even l' meets' far' only') =
        let h : d ≡ e = omega arith in
        corners_same h (only' f.x meets (far_at (ap suc h) far))

  -- The corners of a member.
  pub corners : {f : Family} {C : ℕ} (s : Member c rank f C) → Corners f C s.d
  corners s =
      corners_of s.candidate s.down_p s.down_q
      (apart_ring c sound rank (member_made c sound rank s) (ring_apart c sound rank (member_made c sound rank s) s.ring s.long))

  -- A ring is a member of one family only.
  pub member_family : {f g : Family} {C : ℕ} → Member c rank f C → Member c rank g C → f ≡ g
  member_family s t = middle_same (corners s) (corners t) (sym s.long ∙ t.long) (corners s).middle (corners t).middle

  pub linked_far : {f : Family} {d a e : ℕ} {link : List ℕ} → Candidate c rank f d link → a ∈ link → Distance c a f.r e → d ≤ e
  linked_far (Candidate.odd less bond under_p under_q long) h far =
      ⊎_elim (λ g. omega (arith, far_same far (down_far c rank under_p.1.1) g)) (λ g. omega (arith, far_same far (down_far c rank under_q.1.1) g))
      (in_two h)
  linked_far (Candidate.even less bond_p bond_q under_x under_p under_q long) h far =
      ⊎_elim (λ g. omega (arith, far_same far (down_far c rank under_x.1.1) g))
      (⊎_elim (λ g. omega (arith, far_same far (down_far c rank under_p.1.1) g))
      (λ g. omega (arith, far_same far (down_far c rank under_q.1.1) g))) (in_three h)

  -- An atom that precedes r and stands on a path is not one that shares only r with it.
  pub stray : {a b r : ℕ} {Q : List ℕ} → Precedes c rank b r → b ∈ Q → (a ∈ Q → a ≡ r) → a ≡ b → ⊥
  stray {Q} before h apart e = omega (arith, before, ap rank (sym e ∙ apart (subst (λ (x : ℕ). x ∈ Q) (sym e) h)))

  -- An atom of the link on a path down from one of its ends is p or q.
  pub linked_end : {f : Family} {d t a : ℕ} {link P : List ℕ} → Candidate c rank f d link → Down c rank f.r t d P → a ∈ link → a ∈ P
      → (a ≡ f.p) ⊎ (a ≡ f.q)
  linked_end (Candidate.odd less bond under_p under_q long) down h g = in_two h
  linked_end {P} (Candidate.even less bond_p bond_q under_x under_p under_q long) down h g =
      ⊎_elim (λ e. absurd (down_near c rank down (down_far c rank under_x.1.1) (omega arith) (subst (λ (x : ℕ). x ∈ P) e g))) (λ e. e) (in_three h)

  -- p and q precede the top atom.
  pub ends_precede : {f : Family} {d : ℕ} {link : List ℕ} → Candidate c rank f d link → Precedes c rank f.p f.r × Precedes c rank f.q f.r
  ends_precede (Candidate.odd less bond under_p under_q long) = (under_p.0, under_q.0)
  ends_precede (Candidate.even less bond_p bond_q under_x under_p under_q long) = (under_p.0, under_q.0)

  -- Which bonds a sum of three sets holds.
  pub holds_three : {C : ℕ} (S T U k : ℕ) → C ≡ bit_xor (bit_xor S T) U → holds C k ≡ xor (xor (holds S k) (holds T k)) (holds U k)
  holds_three S T U k e =
      ap (λ (x : ℕ). holds x k) e ∙ holds_xor (bit_xor S T) U k ∙ ap (λ (b : Bool). xor b (holds U k)) (holds_xor S T k)

  side : {r p d C S T U : ℕ} {P Q link : List ℕ} → Down c rank r p d P → Edges c P S → Edges c Q T → Edges c link U
      → C ≡ bit_xor (bit_xor S T) U → ((a : ℕ) → a ∈ P → a ∈ Q → a ≡ r) → ((a : ℕ) → a ∈ link → a ∈ P → a ≡ p)
      → ((a e : ℕ) → a ∈ link → Distance c a r e → d ≤ e) → Side c rank r p d C P Q link
  side {C} {S} {T} {U} {P} {Q} {link} down edges_p edges_q edges_link sum apart linked beyond = record {
    down = down;
    apart = apart;
    parts = parts;
    held = held;
    beyond = beyond;
  }
    where
      parts : (k : ℕ) → holds C k ≡ true → Uses c k P ⊎ (Uses c k Q ⊎ Uses c k link)
      parts k h =
          ⊎_elim (λ e. ⊎_elim (λ g. inl (held_uses c edges_p g)) (λ g. inr (inl (held_uses c edges_q g))) (xor_either (holds S k) (holds T k) e))
          (λ e. inr (inr (held_uses c edges_link e))) (xor_either (xor (holds S k) (holds T k)) (holds U k) (sym (holds_three S T U k sum) ∙ h))

      held : (k : ℕ) → Uses c k P → holds C k ≡ true
      held k u =
          let s : holds S k ≡ true = uses_held c sound edges_p (down_once c rank down) u in
          let t : holds T k ≡ false = not_true (holds T k) (λ h. uses_apart c sound apart u (held_uses c edges_q h)) in
          let l : holds U k ≡ false = not_true (holds U k) (λ h. uses_apart c sound linked (held_uses c edges_link h) u) in
          holds_three S T U k sum ∙ ap₂ xor (ap₂ xor s t) l

  -- An atom of the link that is no farther than p and q is p or q.
  pub linked_near : {f : Family} {d a e : ℕ} {link : List ℕ} → Candidate c rank f d link → a ∈ link → Distance c a f.r e → e ≤ d
      → (a ≡ f.p) ⊎ (a ≡ f.q)
  linked_near (Candidate.odd less bond under_p under_q long) h far le = in_two h
  linked_near (Candidate.even less bond_p bond_q under_x under_p under_q long) h far le =
      ⊎_elim (λ e. absurd (omega (arith, far_same far (down_far c rank under_x.1.1) e))) (λ e. e) (in_three h)

  once_two : {p q : ℕ} → (p ≡ q → ⊥) → Once (p ∷ q ∷ [])
  once_two {p} {q} other = Once.more {x = p} (λ h. other (sym (in_one h))) (Once.more {x = q} not_in_none Once.none)

  once_three : {p x q : ℕ} → (p ≡ x → ⊥) → (p ≡ q → ⊥) → (q ≡ x → ⊥) → Once (p ∷ x ∷ q ∷ [])
  once_three {p} px pq qx = Once.more {x = p} (λ h. ⊎_elim px pq (in_two h)) (once_two (λ e. qx (sym e)))

  -- The atoms of a link are different.
  link_once : {f : Family} {d : ℕ} {link : List ℕ} → Candidate c rank f d link → Once link
  link_once (Candidate.odd less bond under_p under_q long) = once_two (λ e. omega (arith, e))
  link_once (Candidate.even less bond_p bond_q under_x under_p under_q long) =
      let far_x = down_far c rank under_x.1.1 in
      once_three (λ e. omega (arith, far_same (down_far c rank under_p.1.1) far_x e)) (λ e. omega (arith, e))
      (λ e. omega (arith, far_same (down_far c rank under_q.1.1) far_x e))

  module _ {f : Family} {d : ℕ} {link P Q : List ℕ} {C : ℕ} (s : Made c sound rank f d link P Q C) (apart : (a : ℕ) → a ∈ P → a ∈ Q → a ≡ f.r) where
    linked_P : (a : ℕ) → a ∈ link → a ∈ P → a ≡ f.p
    linked_P a h g =
        ⊎_elim (λ e. e) (λ e. absurd (stray (ends_precede s.candidate).1 (down_first c rank s.down_q) (apart a g) e))
        (linked_end s.candidate s.down_p h g)

    linked_Q : (a : ℕ) → a ∈ link → a ∈ Q → a ≡ f.q
    linked_Q a h g =
        ⊎_elim (λ e. absurd (stray (ends_precede s.candidate).0 (down_first c rank s.down_p) (λ b. apart a b g) e)) (λ e. e)
        (linked_end s.candidate s.down_q h g)

    -- The ring seen from p.
    pub side_P : Side c rank f.r f.p d C P Q link
    side_P = side s.down_p s.made.edges_p s.made.edges_q s.made.edges_link s.made.sum apart linked_P (λ a e. linked_far s.candidate)

    -- The ring seen from q.
    pub side_Q : Side c rank f.r f.q d C Q P link
    side_Q =
        side s.down_q s.made.edges_q s.made.edges_p s.made.edges_link
        (s.made.sum ∙ ap (λ (x : ℕ). bit_xor x s.made.between) (xor_comm s.made.from_p s.made.from_q)) (λ a h g. apart a g h) linked_Q
        (λ a e. linked_far s.candidate)

    -- The ring holds the bonds of the link.
    pub link_held : (k : ℕ) → Uses c k link → holds C k ≡ true
    link_held k u =
        let m = s.made in
        let p : holds m.from_p k ≡ false = not_true (holds m.from_p k) (λ h. uses_apart c sound linked_P u (held_uses c m.edges_p h)) in
        let q : holds m.from_q k ≡ false = not_true (holds m.from_q k) (λ h. uses_apart c sound linked_Q u (held_uses c m.edges_q h)) in
        let l : holds m.between k ≡ true = uses_held c sound m.edges_link (link_once s.candidate) u in
        holds_three m.from_p m.from_q m.between k m.sum ∙ ap₂ xor (ap₂ xor p q) l

  -- Two pairs of paths that meet in r alone and make up the same ring are the same pair.
  pub made_injective : {f : Family} {d : ℕ} {link P Q P' Q' : List ℕ} {C : ℕ} → Made c sound rank f d link P Q C → Made c sound rank f d link P' Q' C
      → ((a : ℕ) → a ∈ P → a ∈ Q → a ≡ f.r) → ((a : ℕ) → a ∈ P' → a ∈ Q' → a ≡ f.r) → (P ≡ P') × (Q ≡ Q')
  made_injective s t apart apart' = (side_unique c rank (side_P s apart) (side_P t apart'), side_unique c rank (side_Q s apart) (side_Q t apart'))
