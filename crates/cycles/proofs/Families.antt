-- What paths make up: two choices differ by shorter rings, crossing paths make shorter rings, apart paths a ring.
use mathlib.Core.Path.{◌≡◌, refl, sym, ap₂, ◌∙◌, subst}
use mathlib.Core.List.{List, [], ◌∷◌}
use mathlib.Core.Logic.{◌⊎◌, inl, inr, ⊎_elim}
use Prim.Native.Nat.{ℕ, zero, suc, ◌+◌, ◌*◌, ◌^◌, ◌<◌, ◌≤◌}
use native.Mathlib.Omega.{arith}
use lib.Bits.{bit_xor}
use lib.ListN.{length}
use Rattle.spans.specs.Elements.{◌∈◌, Once}
use Rattle.bondset.proofs.Laws.{pos_of_ne}
use Rattle.cycles.specs.Compound.{Compound, Sound, Bonded}
use Rattle.cycles.specs.Ring.{len, degree, Ring, Relevant, Edges}
use Rattle.cycles.specs.Family.{Family, Precedes, Down, Chosen, Candidate, MadeOf, Prototype, Member, Kept}
use Rattle.cycles.proofs.Shorter.{Shorter, shorter_add, relevant_not_shorter, not_shorter_relevant}
use Rattle.cycles.proofs.Edges.{edges_unique}
use Rattle.cycles.proofs.PathsDecide.{apart_or_shared, lowest_next, joins_sym}
use Rattle.cycles.proofs.PathsWays.{xor_cancel_left, sums, Way, way_none, two_ways_shorter, three_ways_shorter}
use Rattle.cycles.proofs.PathsDown.{in_one, distance_unique, down_far, down_some, down_length, down_last, down_first, down_precede, down_near}
use Rattle.cycles.proofs.PathsDown.{down_once, down_more, down_whole, cut, Wound, wound_at, wind}

differ_sum : {L L' S T : ℕ} (P Q P' Q' : ℕ) → S ≡ bit_xor (bit_xor P Q) L → T ≡ bit_xor (bit_xor P' Q') L' → L ≡ L'
    → bit_xor (bit_xor P P') (bit_xor Q Q') ≡ bit_xor S T
differ_sum P Q P' Q' s t l = simp (s, t, l, sums)

crossing_sum : {P Q S : ℕ} (U D U' D' L : ℕ) → S ≡ bit_xor (bit_xor P Q) L → P ≡ bit_xor U D → Q ≡ bit_xor U' D'
    → bit_xor (bit_xor (bit_xor U U') L) (bit_xor D D') ≡ S
crossing_sum U D U' D' L s p q = simp (s, p, q, sums)

odd_sum : {L S : ℕ} (K P Q : ℕ) → S ≡ bit_xor (bit_xor P Q) L → L ≡ bit_xor K 0 → bit_xor (bit_xor K P) Q ≡ S
odd_sum K P Q s l = simp (s, l, sums)

even_sum : {L M S : ℕ} (J K P Q : ℕ) → S ≡ bit_xor (bit_xor P Q) L → L ≡ bit_xor J M → M ≡ bit_xor K 0 → bit_xor (bit_xor K (bit_xor J P)) Q ≡ S
even_sum J K P Q s l m = simp (s, l, m, sums)

module _ (c : Compound) (sound : Sound c) (rank : ℕ → ℕ) where
  pub chosen_down : {r t d : ℕ} {P : List ℕ} → Chosen c rank r t d P → Down c rank r t d P
  chosen_down Chosen.top = Down.top
  chosen_down (Chosen.step (before, under) bond lowest chosen) = Down.step before (down_far c rank under.1) bond (chosen_down chosen)

  chosen_same : {r t s d : ℕ} {P Q : List ℕ} → t ≡ s → Chosen c rank r t d P → Chosen c rank r s d Q → P ≡ Q
  chosen_same e Chosen.top Chosen.top = refl
  chosen_same e (Chosen.step {next = n} under bond lowest chosen) (Chosen.step {next = n'} under' bond' lowest' chosen') =
      let to : n ≤ n' = lowest n' _ (subst (λ (x : ℕ). Bonded c x n') (sym e) bond') (chosen_down chosen') in
      let back : n' ≤ n = lowest' n _ (subst (λ (x : ℕ). Bonded c x n) e bond) (chosen_down chosen) in
      ap₂ ◌∷◌ e (chosen_same (omega arith) chosen chosen')

  pub chosen_unique : {r t d : ℕ} {P Q : List ℕ} → Chosen c rank r t d P → Chosen c rank r t d Q → P ≡ Q
  chosen_unique = chosen_same refl

  chosen_from : {r : ℕ} (d : ℕ) {t : ℕ} {P : List ℕ} → Down c rank r t d P → (Q : List ℕ) × Chosen c rank r t d Q
  chosen_from zero Down.top = (_, Chosen.top)
  chosen_from {r} (suc d) (Down.step before far bond down) =
      let low = lowest_next c sound rank r bond down in
      let rest = chosen_from d low.holds.1.1 in
      (_, Chosen.step (before, (_, Down.step before far bond down)) low.holds.0 (λ s way b w. low.least s (b, (way, w))) rest.1)

  -- An atom that has a path down has a chosen one.
  pub chosen_exists : {r t d : ℕ} {P : List ℕ} → Down c rank r t d P → (Q : List ℕ) × Chosen c rank r t d Q
  chosen_exists {d} down = chosen_from d down

  pub down_edges : {r t d : ℕ} {P : List ℕ} → Down c rank r t d P → (S : ℕ) × Edges c P S
  down_edges down = let w = down_whole c rank down in (w.bonds, w.edges)

  -- Two down paths from a candidate's p and q, and the bond set that they make up with the link.
  pub record Made (f : Family) (d : ℕ) (link P Q : List ℕ) (S : ℕ) : Type 0 where
    pub candidate : Candidate c rank f d link
    pub down_p : Down c rank f.r f.p d P
    pub down_q : Down c rank f.r f.q d Q
    pub made : MadeOf c rank P Q link S

  link_edges : {f : Family} {d : ℕ} {link : List ℕ} → Candidate c rank f d link → (S : ℕ) × Edges c link S
  link_edges (Candidate.odd less bond under_p under_q long) = (_, Edges.more bond.1 Edges.point refl)
  link_edges (Candidate.even less bond_p bond_q under_x under_p under_q long) =
      (_, Edges.more bond_p.1 (Edges.more bond_q.1 Edges.point refl) refl)

  pub made_exists : {f : Family} {d : ℕ} {link P Q : List ℕ} → Candidate c rank f d link → Down c rank f.r f.p d P
      → Down c rank f.r f.q d Q → (S : ℕ) × Made f d link P Q S
  made_exists candidate down_p down_q =
      let p = down_edges down_p in
      let q = down_edges down_q in
      let l = link_edges candidate in (
        _,
        record {
          candidate = candidate;
          down_p = down_p;
          down_q = down_q;
          made = record { from_p = p.0; from_q = q.0; between = l.0; edges_p = p.1; edges_q = q.1; edges_link = l.1; sum = refl };
        },
      )

  pub made_unique : {f : Family} {d : ℕ} {link P Q : List ℕ} {S T : ℕ} → Made f d link P Q S → Made f d link P Q T → S ≡ T
  made_unique s t =
      let p = edges_unique c sound s.made.edges_p t.made.edges_p in
      let q = edges_unique c sound s.made.edges_q t.made.edges_q in
      let l = edges_unique c sound s.made.edges_link t.made.edges_link in
      s.made.sum ∙ ap₂ bit_xor (ap₂ bit_xor p q) l ∙ sym t.made.sum

  down_way : {r t d S : ℕ} {P : List ℕ} → Down c rank r t d P → Edges c P S → Way c t r d S
  down_way {r} {t} {d} down edges =
      let w = down_whole c rank down in
      subst (Way c t r d) (edges_unique c sound w.edges edges) w.way

  -- The link as a way, and what it adds to the length.
  record LinkWay (f : Family) (d S : ℕ) : Type 0 where
    steps : ℕ
    way : Way c f.p f.q steps S
    some : 0 < steps
    long : f.long ≡ 2 * d + steps

  link_way : {f : Family} {d S : ℕ} {link : List ℕ} → Candidate c rank f d link → Edges c link S → LinkWay f d S
  link_way (Candidate.odd {q = q} less bond under_p under_q long) edges = record {
    steps = 1;
    way = record { path = q ∷ []; edges = edges; ends = refl; steps = refl };
    some = omega arith;
    long = long;
  }
  link_way (Candidate.even {q = q} {x = x} less bond_p bond_q under_x under_p under_q long) edges = record {
    steps = 2;
    way = record { path = x ∷ q ∷ []; edges = edges; ends = refl; steps = refl };
    some = omega arith;
    long = omega arith;
  }

  -- What two choices of paths make up differs by rings shorter than the family.
  pub made_differ_shorter : {f : Family} {d : ℕ} {link P Q P' Q' : List ℕ} {S T : ℕ} → Made f d link P Q S → Made f d link P' Q' T
      → Shorter c f.long (bit_xor S T)
  made_differ_shorter {f} s t =
      let l = link_way s.candidate s.made.edges_link in
      subst (Shorter c f.long)
      (differ_sum s.made.from_p s.made.from_q t.made.from_p t.made.from_q s.made.sum t.made.sum
      (edges_unique c sound s.made.edges_link t.made.edges_link))
      (shorter_add c
      (two_ways_shorter c sound (down_way s.down_p s.made.edges_p) (down_way t.down_p t.made.edges_p) (omega (arith, l.long, l.some)))
      (two_ways_shorter c sound (down_way s.down_q s.made.edges_q) (down_way t.down_q t.made.edges_q) (omega (arith, l.long, l.some))))

  -- Paths that share an atom other than r make up a sum of rings shorter than the family.
  pub crossing_shorter : {f : Family} {d : ℕ} {link P Q : List ℕ} {S a : ℕ} → Made f d link P Q S → a ∈ P → a ∈ Q → (a ≡ f.r → ⊥)
      → Shorter c f.long S
  crossing_shorter {f} s in_p in_q other =
      let l = link_way s.candidate s.made.edges_link in
      let p = cut c rank s.down_p in_p in
      let q = cut c rank s.down_q in_q in
      let same : p.e ≡ q.e = distance_unique c p.far q.far in
      let some : 0 < p.e = pos_of_ne p.e (λ z. other (way_none c p.below z)) in
      subst (Shorter c f.long)
      (crossing_sum p.upper p.lower q.upper q.lower s.made.between s.made.sum
      (edges_unique c sound s.made.edges_p p.whole) (edges_unique c sound s.made.edges_q q.whole))
      (shorter_add c
      (three_ways_shorter c sound p.above q.above l.way (omega (arith, l.long, p.steps, q.steps)))
      (two_ways_shorter c sound p.below q.below (omega (arith, l.long, l.some, p.steps, q.steps))))

  -- With paths that meet in r alone, a ring; its atoms are those of the paths and of the link, and all but r precede r.
  pub record MadeRing (f : Family) (link P Q : List ℕ) (S : ℕ) : Type 0 where
    pub ring : Ring c S
    pub long : len c S ≡ f.long
    pub atoms : (a : ℕ) → 0 < degree c S a → (a ∈ P) ⊎ ((a ∈ Q) ⊎ (a ∈ link))
    pub has_P : (a : ℕ) → a ∈ P → 0 < degree c S a
    pub has_Q : (a : ℕ) → a ∈ Q → 0 < degree c S a
    pub has_link : (a : ℕ) → a ∈ link → 0 < degree c S a
    pub precede : (a : ℕ) → 0 < degree c S a → (a ≡ f.r) ⊎ Precedes c rank a f.r

  module _ (f : Family) (link P Q acc : List ℕ) (held : (a : ℕ) → a ∈ P → a ∈ acc) (only : (a : ℕ) → a ∈ acc → (a ∈ P) ⊎ (a ∈ link))
      (linked : (a : ℕ) → a ∈ link → (a ∈ Q) ⊎ (a ∈ acc)) (precede_q : (a : ℕ) → a ∈ Q → (a ≡ f.r) ⊎ Precedes c rank a f.r)
      (precede : (a : ℕ) → a ∈ acc → (a ≡ f.r) ⊎ Precedes c rank a f.r) where
    wound_ring : {d S : ℕ} → Wound c rank sound d Q acc S → length acc + d ≡ f.long → MadeRing f link P Q S
    wound_ring {S} w long = record {
      ring = w.round.ring;
      long = w.round.long ∙ w.count ∙ long;
      atoms = λ a h. ⊎_elim (λ q. inr (inl q)) (λ x. ⊎_elim (λ p. inl p) (λ y. inr (inr y)) (only a x)) (side a h);
      has_P = λ a h. met a (w.has_acc a (held a h));
      has_Q = λ a h. met a (w.has_Q a h);
      has_link = λ a h. met a (⊎_elim (w.has_Q a) (w.has_acc a) (linked a h));
      precede = λ a h. ⊎_elim (precede_q a) (precede a) (side a h);
    }
      where
        met : (a : ℕ) → a ∈ w.atoms → 0 < degree c S a
        met a = (w.round.met a).1

        side : (a : ℕ) → 0 < degree c S a → (a ∈ Q) ⊎ (a ∈ acc)
        side a h = w.only a ((w.round.met a).0 h)

  in_odd : {p q a : ℕ} {P Q : List ℕ} → p ∈ P → q ∈ Q → a ∈ (p ∷ q ∷ []) → (a ∈ Q) ⊎ (a ∈ P)
  in_odd p q ◌∈◌.first = inr p
  in_odd {Q} p q (◌∈◌.later h) = inl (subst (λ (x : ℕ). x ∈ Q) (in_one h) q)

  in_even : {p q x a : ℕ} {P Q : List ℕ} → p ∈ P → q ∈ Q → a ∈ (p ∷ x ∷ q ∷ []) → (a ∈ Q) ⊎ (a ∈ (x ∷ P))
  in_even p q ◌∈◌.first = inr (◌∈◌.later p)
  in_even p q (◌∈◌.later h) = in_odd ◌∈◌.first q h

  from_even : {p q x a : ℕ} {P : List ℕ} → a ∈ (x ∷ P) → (a ∈ P) ⊎ (a ∈ (p ∷ x ∷ q ∷ []))
  from_even ◌∈◌.first = inr (◌∈◌.later ◌∈◌.first)
  from_even (◌∈◌.later h) = inl h

  precede_even : {r x a : ℕ} {P : List ℕ} → Precedes c rank x r → (a ∈ P → (a ≡ r) ⊎ Precedes c rank a r) → a ∈ (x ∷ P)
      → (a ≡ r) ⊎ Precedes c rank a r
  precede_even before rest ◌∈◌.first = inr before
  precede_even before rest (◌∈◌.later h) = rest h

  apart_even : {r x : ℕ} {P Q : List ℕ} → (x ∈ Q → ⊥) → ((a : ℕ) → a ∈ P → a ∈ Q → a ≡ r) → (a : ℕ) → a ∈ Q → a ∈ (x ∷ P) → a ≡ r
  apart_even absent apart a q ◌∈◌.first = absurd (absent q)
  apart_even absent apart a q (◌∈◌.later h) = apart a h q

  apart_closed : {f : Family} {d S T U L : ℕ} {link P Q : List ℕ} → Candidate c rank f d link → Down c rank f.r f.p d P
      → Down c rank f.r f.q d Q → Edges c P T → Edges c Q U → Edges c link L → S ≡ bit_xor (bit_xor T U) L
      → ((a : ℕ) → a ∈ P → a ∈ Q → a ≡ f.r) → MadeRing f link P Q S
  apart_closed {T} {U} {P} {Q} (Candidate.odd {q = q} {d = d} {k = h} less bond under_p under_q long) down_p down_q edges_p edges_q
      (Edges.more {k} j Edges.point e) sum apart =
      let some = down_some c rank down_q under_q.0 in
      let size = down_length c rank down_p in
      let w = wind c rank sound down_q some edges_q (down_more c rank down_p (joins_sym c j) edges_p) (down_last c rank q down_p)
      (down_once c rank down_p) (omega arith) (λ a h g. apart a g h) in
      let total : length P + d ≡ h = omega arith in
      wound_ring _ _ P Q P (λ a h. h) (λ a h. inl h) (λ a h. in_odd (down_first c rank down_p) (down_first c rank down_q) h)
      (λ a. down_precede c rank down_q) (λ a. down_precede c rank down_p)
      (wound_at c rank sound (odd_sum (2 ^ k) T U sum e) w) total
  apart_closed {T} {U} {P} {Q} (Candidate.even {q = q} {x = x} {d = d} {k = h} less bond_p bond_q under_x under_p under_q long) down_p down_q
      edges_p edges_q (Edges.more {k = i} j_p (Edges.more {k = j} j_q Edges.point e) e') sum apart =
      let some = down_some c rank down_q under_q.0 in
      let size = down_length c rank down_p in
      let far = down_far c rank under_x.1.1 in
      let w = wind c rank sound down_q some edges_q (Edges.more (joins_sym c j_q) (down_more c rank down_p (joins_sym c j_p) edges_p) refl)
      (down_last c rank x down_p) (Once.more (down_near c rank down_p far (omega arith)) (down_once c rank down_p)) (omega arith)
      (apart_even (down_near c rank down_q far (omega arith)) apart) in
      let total : length (x ∷ P) + d ≡ h = omega arith in
      wound_ring _ _ P Q (x ∷ P) (λ a h. ◌∈◌.later h) (λ a h. from_even h)
      (λ a h. in_even (down_first c rank down_p) (down_first c rank down_q) h)
      (λ a. down_precede c rank down_q) (λ a. precede_even under_x.0 (down_precede c rank down_p))
      (wound_at c rank sound (even_sum (2 ^ i) (2 ^ j) T U sum e' e) w) total

  pub apart_ring : {f : Family} {d : ℕ} {link P Q : List ℕ} {S : ℕ} → Made f d link P Q S → ((a : ℕ) → a ∈ P → a ∈ Q → a ≡ f.r)
      → MadeRing f link P Q S
  apart_ring s apart =
      apart_closed s.candidate s.down_p s.down_q s.made.edges_p s.made.edges_q s.made.edges_link s.made.sum apart

  -- Paths that cross or do not: decided.
  pub apart_or_crossing : {f : Family} {d : ℕ} {link P Q : List ℕ} {S : ℕ} → Made f d link P Q S
      → ((a : ℕ) → a ∈ P → a ∈ Q → a ≡ f.r) ⊎ ((a : ℕ) × (a ∈ P) × (a ∈ Q) × (a ≡ f.r → ⊥))
  apart_or_crossing {f} {P} {Q} s = apart_or_shared f.r P Q

  pub prototype_made : {f : Family} {S : ℕ} (s : Prototype c rank f S) → Made f s.d s.link s.P s.Q S
  prototype_made s = record { candidate = s.candidate; down_p = chosen_down s.chosen_p; down_q = chosen_down s.chosen_q; made = s.made }

  pub made_member : {f : Family} {d : ℕ} {link P Q : List ℕ} {S : ℕ} → Made f d link P Q S → Ring c S → len c S ≡ f.long → Member c rank f S
  made_member {d} {link} {P} {Q} s ring long = record {
    d = d;
    link = link;
    candidate = s.candidate;
    ring = ring;
    long = long;
    P = P;
    Q = Q;
    down_p = s.down_p;
    down_q = s.down_q;
    made = s.made;
  }

  pub prototype_member : {f : Family} {S : ℕ} → Prototype c rank f S → Member c rank f S
  prototype_member s =
      let w = apart_ring (prototype_made s) s.apart in
      made_member (prototype_made s) w.ring w.long

  -- What the family says of a candidate.
  data Shape (f : Family) (d : ℕ) (link : List ℕ) : Type 0 where
    odd : f.long ≡ 2 * d + 1 → link ≡ f.p ∷ f.q ∷ [] → Shape f d link
    even : f.long ≡ 2 * suc d → link ≡ f.p ∷ f.x ∷ f.q ∷ [] → Shape f d link

  candidate_shape : {f : Family} {d : ℕ} {link : List ℕ} → Candidate c rank f d link → Shape f d link
  candidate_shape (Candidate.odd less bond under_p under_q long) = Shape.odd long refl
  candidate_shape (Candidate.even less bond_p bond_q under_x under_p under_q long) = Shape.even long refl

  shape_unique : {f : Family} {d e : ℕ} {link link' : List ℕ} → Shape f d link → Shape f e link' → (d ≡ e) × (link ≡ link')
  shape_unique (Shape.odd l w) (Shape.odd l' w') = (omega arith, w ∙ sym w')
  shape_unique (Shape.odd l w) (Shape.even l' w') = absurd (omega arith)
  shape_unique (Shape.even l w) (Shape.odd l' w') = absurd (omega arith)
  shape_unique (Shape.even l w) (Shape.even l' w') = (omega arith, w ∙ sym w')

  -- The family alone says how far p and q are, and what links them.
  pub candidate_unique : {f : Family} {d e : ℕ} {link link' : List ℕ} → Candidate c rank f d link → Candidate c rank f e link'
      → (d ≡ e) × (link ≡ link')
  candidate_unique s t = shape_unique (candidate_shape s) (candidate_shape t)

  -- A candidate has one distance and one link.
  pub made_at : {f : Family} {d e : ℕ} {link link' P Q : List ℕ} {S : ℕ} → Made f d link P Q S → Candidate c rank f e link' → Made f e link' P Q S
  made_at {f} {d} {link'} {P} {Q} {S} s t =
      let same = candidate_unique s.candidate t in
      subst (λ (n : ℕ). Made f n link' P Q S) same.0 (subst (λ (l : List ℕ). Made f d l P Q S) same.1 s)

  pub prototype_unique : {f : Family} {S T : ℕ} → Prototype c rank f S → Prototype c rank f T → S ≡ T
  prototype_unique {f} {S} {T} s t =
      let same = candidate_unique t.candidate s.candidate in
      let p = chosen_unique (subst (λ (d : ℕ). Chosen c rank f.r f.p d t.P) same.0 t.chosen_p) s.chosen_p in
      let q = chosen_unique (subst (λ (d : ℕ). Chosen c rank f.r f.q d t.Q) same.0 t.chosen_q) s.chosen_q in
      let made = made_at (prototype_made t) s.candidate in
      made_unique (prototype_made s)
      (subst (λ (P : List ℕ). Made f s.d s.link P s.Q T) p (subst (λ (Q : List ℕ). Made f s.d s.link t.P Q T) q made))

  pub member_made : {f : Family} {C : ℕ} (m : Member c rank f C) → Made f m.d m.link m.P m.Q C
  member_made m = record { candidate = m.candidate; down_p = m.down_p; down_q = m.down_q; made = m.made }

  -- A member and the prototype of its family differ by shorter rings.
  pub member_differ_shorter : {f : Family} {C S : ℕ} → Member c rank f C → Prototype c rank f S → Shorter c f.long (bit_xor C S)
  member_differ_shorter m s = made_differ_shorter (member_made m) (made_at (prototype_made s) m.candidate)

  shorter_other : {k C S : ℕ} → Shorter c k (bit_xor C S) → Shorter c k C → Shorter c k S
  shorter_other {k} {C} {S} both one = subst (Shorter c k) (xor_cancel_left C S) (shorter_add c one both)

  -- Of two rings of length k that differ by rings shorter than k both are relevant or none.
  relevant_other : {k C S : ℕ} → len c C ≡ k → len c S ≡ k → Ring c C → Shorter c k (bit_xor C S) → Relevant c S → Relevant c C
  relevant_other {k} {C} {S} len_c len_s ring both relevant =
      not_shorter_relevant c ring (λ h. relevant_not_shorter c relevant
      (subst (λ (n : ℕ). Shorter c n S) (sym len_s) (shorter_other both (subst (λ (n : ℕ). Shorter c n C) len_c h))))

  -- Every member of a kept family is relevant.
  pub member_relevant : {f : Family} {C : ℕ} → Kept c rank f → Member c rank f C → Relevant c C
  member_relevant kept m =
      relevant_other m.long (prototype_member kept.prototype).long m.ring (member_differ_shorter m kept.prototype) kept.relevant

  -- A relevant bond set made up of two down paths is a member of a kept family.
  pub made_relevant_kept : {f : Family} {d : ℕ} {link P Q : List ℕ} {S : ℕ} → Made f d link P Q S → Relevant c S → len c S ≡ f.long
      → Kept c rank f × Member c rank f S
  made_relevant_kept {f} {d} {link} {S} s relevant long = (kept (apart_or_crossing t), made_member s relevant.ring long)
    where
      p : (P' : List ℕ) × Chosen c rank f.r f.p d P'
      p = chosen_exists s.down_p

      q : (Q' : List ℕ) × Chosen c rank f.r f.q d Q'
      q = chosen_exists s.down_q

      made : (T : ℕ) × Made f d link p.0 q.0 T
      made = made_exists s.candidate (chosen_down p.1) (chosen_down q.1)

      t : Made f d link p.0 q.0 made.0
      t = made.1

      both : Shorter c f.long (bit_xor made.0 S)
      both = made_differ_shorter t s

      kept : ((a : ℕ) → a ∈ p.0 → a ∈ q.0 → a ≡ f.r) ⊎ ((a : ℕ) × (a ∈ p.0) × (a ∈ q.0) × (a ≡ f.r → ⊥)) → Kept c rank f
      kept (inl apart) =
          let w = apart_ring t apart in
          record {
            ring = made.0;
            prototype = record {
              d = d;
              link = link;
              candidate = s.candidate;
              P = p.0;
              Q = q.0;
              chosen_p = p.1;
              chosen_q = q.1;
              apart = apart;
              made = t.made;
            };
            relevant = relevant_other w.long long w.ring both relevant;
          }
      kept (inr (a, in_p, in_q, other)) =
          absurd (relevant_not_shorter c relevant
          (subst (λ (n : ℕ). Shorter c n S) (sym long) (shorter_other both (crossing_shorter t in_p in_q other))))
