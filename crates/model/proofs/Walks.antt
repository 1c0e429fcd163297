-- Walking two chosen paths in step gives the prototype, or nothing where they cross.
use mathlib.Core.Path.{◌≡◌, refl, sym, ap, ap₂, ◌∙◌, subst}
use mathlib.Core.Bool.{Bool, true, false, cond, ◌&&◌}
use mathlib.Core.List.{List, ◌∷◌}
use mathlib.Core.Logic.{◌⊎◌, inl, inr, ◌↔◌}
use Prim.Native.Nat.{ℕ, suc, ◌^◌, ◌<◌, ◌≤◌}
use native.Mathlib.Nat.{lt_of_lt_of_le}
use native.Mathlib.Omega.{arith}
use native.Mathlib.Decide.{ℕ_discrete}
use borrow.Author.Tests.{eq-eqb, ne_eqb, lt-ltb}
use lib.Bits.{bit_xor, bit_and, and_le_l, xor_zero_l, xor_zero_r}
use lib.Dec.{eqb, ltb}
use lib.ListN.{get_or}
use lib.Pow.{pow_mono}
use Rattle.spans.specs.Elements.{◌∈◌}
use Rattle.bondset.specs.Sets.{bit}
use Rattle.bondset.proofs.Laws.{lt_or_ge, pos_of_ne, zero_bit, trailing}
use Rattle.cycles.specs.Compound.{Compound, Bonded, Distance}
use Rattle.cycles.specs.Ring.{Edges}
use Rattle.cycles.specs.Family.{Family, Down, Chosen, Candidate, Prototype, Kept}
use Rattle.cycles.proofs.PathsDecide.{joins_sym, apart_or_shared}
use Rattle.cycles.proofs.PathsWays.{sums}
use Rattle.cycles.proofs.PathsDown.{in_one, distance_unique, down_far, down_first, down_near, down_more, edges_at}
use Rattle.cycles.proofs.Families.{chosen_down, chosen_unique, chosen_exists}
use Rattle.model.specs.Net.{net_of, nbrs, bond}
use Rattle.model.specs.Layer.{layer, low, walk}
use Rattle.model.specs.State.{link}
use Rattle.model.proofs.NetBits.{and_has}
use Rattle.model.proofs.Ready.{Held, DownFrom, Layered}
use Rattle.model.proofs.Layers.{nbrs_bonded, nbrs_small, bond_joins, layer_down}

walked_sum : (S T K L ring : ℕ) → bit_xor (bit_xor S T) (bit_xor (bit_xor ring K) L) ≡ bit_xor (bit_xor (bit_xor K S) (bit_xor L T)) ring
walked_sum S T K L ring = simp sums

-- ---- the test whether the paths meet

test_passed : (n n' d W : ℕ) → (n ≡ n' → d ≡ 0) → cond (eqb n n' && ltb 0 d) 0 W ≡ W
test_passed n n' d W none = go (ℕ_discrete n n')
  where
    go : Dec (n ≡ n') → cond (eqb n n' && ltb 0 d) 0 W ≡ W
    go (yes e) = rw (eq-eqb n n' e, none e)
    go (no ne) = rw (ne_eqb n n' ne)

test_failed : (n n' d W : ℕ) → (((n ≡ n' → ⊥) ⊎ (d ≡ 0)) → W ≡ 0) → cond (eqb n n' && ltb 0 d) 0 W ≡ 0
test_failed n n' d W rest = go (ℕ_discrete n n') (ℕ_discrete d 0)
  where
    either : (b : Bool) → W ≡ 0 → cond b 0 W ≡ 0
    either true e = refl
    either false e = e

    go : Dec (n ≡ n') → Dec (d ≡ 0) → cond (eqb n n' && ltb 0 d) 0 W ≡ 0
    go (no ne) z = either (eqb n n' && ltb 0 d) (rest (inl ne))
    go (yes e) (yes z) = either (eqb n n' && ltb 0 d) (rest (inr z))
    go (yes e) (no nz) = rw (eq-eqb n n' e, lt-ltb 0 d (pos_of_ne d nz))

-- What two lists share stands behind their first elements, if the first elements are shared by none.
shared_later : {a p q : ℕ} {P Q : List ℕ} → (p ≡ q → ⊥) → (p ∈ Q → ⊥) → (q ∈ P → ⊥) → a ∈ (p ∷ P) → a ∈ (q ∷ Q) → (a ∈ P) × (a ∈ Q)
shared_later ne np nq ◌∈◌.first ◌∈◌.first = absurd (ne refl)
shared_later ne np nq ◌∈◌.first (◌∈◌.later j) = absurd (np j)
shared_later ne np nq (◌∈◌.later i) ◌∈◌.first = absurd (nq i)
shared_later ne np nq (◌∈◌.later i) (◌∈◌.later j) = (i, j)

module _ (c : Compound) (rank pre : ℕ → ℕ) (ready : Held c rank pre) where
  down_top : {r t d : ℕ} {P : List ℕ} → Down c rank r t d P → t ≡ r → d ≡ 0
  down_top Down.top e = refl
  down_top (Down.step before far bonded down) e = absurd (omega (arith, before, ap rank e))

  chosen_far : {r t d : ℕ} {P : List ℕ} → Chosen c rank r t d P → Distance c t r d
  chosen_far x = down_far c rank (chosen_down c ready.sound rank x)

  chosen_near : {r t d a e : ℕ} {P : List ℕ} → Chosen c rank r t d P → Distance c a r e → d < e → a ∈ P → ⊥
  chosen_near x = down_near c rank (chosen_down c ready.sound rank x)

  -- The sum of the bonds of a chosen path.
  bonds : {r t d : ℕ} {P : List ℕ} → Chosen c rank r t d P → ℕ
  bonds Chosen.top = 0
  bonds (Chosen.step under bonded lowest chosen) = bit_xor (2 ^ bonded.0) (bonds chosen)

  bonds_edges : {r t d : ℕ} {P : List ℕ} (x : Chosen c rank r t d P) → Edges c P (bonds x)
  unfolding bonds
  bonds_edges Chosen.top = Edges.point
  bonds_edges (Chosen.step under bonded lowest chosen) = down_more c rank (chosen_down c ready.sound rank chosen) bonded.1 (bonds_edges chosen)

  -- Paths from one atom that share the top atom alone begin at the top.
  apart_top : {r n n' d : ℕ} {P Q : List ℕ} → Chosen c rank r n d P → Chosen c rank r n' d Q → ((a : ℕ) → a ∈ P → a ∈ Q → a ≡ r) → n ≡ n' → d ≡ 0
  apart_top {n} {n'} {Q} x y apart e =
      let down = chosen_down c ready.sound rank x in
      down_top down (apart n (down_first c rank down) (subst (λ (a : ℕ). a ∈ Q) (sym e) (down_first c rank (chosen_down c ready.sound rank y))))

  ne_of : {p q d : ℕ} → ((p ≡ q → ⊥) ⊎ (suc d ≡ 0)) → p ≡ q → ⊥
  ne_of (inl ne) e = ne e
  ne_of (inr z) e = omega arith

  module _ (us : List ℕ) (r h : ℕ) (inside : r < c.n) (layered : Layered c pre r h us) where
    abbrev mask : ℕ → ℕ → ℕ
    mask t d = bit_and (nbrs (net_of c) t) (get_or us d 0)

    -- The neighbours of t in layer d.
    pub mask_has : (t s d : ℕ) → t < c.n → d ≤ h → (bit (mask t d) s ≡ 1) ↔ (Bonded c t s × DownFrom c rank r s d)
    mask_has t s d named l =
        rw (layered.are d l) (
          λ e. let both = (and_has (nbrs (net_of c) t) (layer (net_of c) (pre r) r d) s).0 e in
              ((nbrs_bonded c rank pre ready t s named).0 both.0, (layer_down c rank pre ready r s d inside).0 both.1),
          λ p. (and_has (nbrs (net_of c) t) (layer (net_of c) (pre r) r d) s).1
              ((nbrs_bonded c rank pre ready t s named).1 p.0, (layer_down c rank pre ready r s d inside).1 p.1),
        )

    mask_small : (t d : ℕ) → mask t d < 2 ^ 64
    mask_small t d =
        let small : mask t d < 2 ^ c.n = omega (arith, and_le_l (nbrs (net_of c) t) (get_or us d 0), nbrs_small c rank pre ready t) in
        lt_of_lt_of_le small (pow_mono ready.atoms)

    -- The lowest neighbour in the next layer is the chosen one.
    pub low_next : {t next d : ℕ} {P : List ℕ} → d ≤ h → Bonded c t next
        → ((s : ℕ) (way : List ℕ) → Bonded c t s → Down c rank r s d way → next ≤ s) → Chosen c rank r next d P → low (mask t d) ≡ next
    low_next {t} {next} {d} l bonded lowest chosen =
        let named = ready.sound.named bonded.0 t next bonded.1 in
        let there : bit (mask t d) next ≡ 1 = (mask_has t next d named l).1 (bonded, (_, chosen_down c ready.sound rank chosen)) in
        let some = pos_of_ne (mask t d) (λ e. omega (arith, ap (λ (x : ℕ). bit x next) e, zero_bit next, there)) in
        let first = trailing 64 (mask t d) some (mask_small t d) in
        let found = (mask_has t (low (mask t d)) d named l).0 first.here in
        let below : low (mask t d) ≤ next = elim (lt_or_ge next (low (mask t d))) [
          | inl less ↦ absurd (omega (arith, first.below next less, there))
          | inr le ↦ le
        ] in
        omega (arith, lowest (low (mask t d)) found.1.0 found.0 found.1.1, below)

    next_walk : {p q n n' : ℕ} (d ring : ℕ) (b : Bonded c p n) (b' : Bonded c q n') → low (mask p d) ≡ n → low (mask q d) ≡ n'
        → walk (net_of c) us (suc d) p q ring ≡ cond (eqb n n' && ltb 0 d) 0 (walk (net_of c) us d n n' (bit_xor (bit_xor ring (2 ^ b.0)) (2 ^ b'.0)))
    unfolding walk
    next_walk {p} {q} {n} {n'} d ring (k, joins) (k', joins') e e' =
        let small : n < 64 = omega (arith, ready.sound.named k n p (joins_sym c joins), ready.atoms) in
        let small' : n' < 64 = omega (arith, ready.sound.named k' n' q (joins_sym c joins'), ready.atoms) in
        rw (e, e', lt-ltb n 64 small, lt-ltb n' 64 small', bond_joins c rank pre ready k p n joins, bond_joins c rank pre ready k' q n' joins')

    walk_apart : {p q d : ℕ} {P Q : List ℕ} (ring : ℕ) → d ≤ h → (x : Chosen c rank r p d P) (y : Chosen c rank r q d Q)
        → ((a : ℕ) → a ∈ P → a ∈ Q → a ≡ r) → walk (net_of c) us d p q ring ≡ bit_xor (bit_xor (bonds x) (bonds y)) ring
    unfolding walk bonds
    walk_apart ring l Chosen.top Chosen.top apart = sym (xor_zero_l ring)
    walk_apart ring l (Chosen.step {next = n} {d} {path = P} under b lowest x) (Chosen.step {next = n'} {path = Q} under' b' lowest' y) apart =
        next_walk d ring b b' (low_next (omega arith) b lowest x) (low_next (omega arith) b' lowest' y)
        ∙ test_passed n n' d _ (apart_top x y (λ a i j. apart a (◌∈◌.later i) (◌∈◌.later j)))
        ∙ walk_apart (bit_xor (bit_xor ring (2 ^ b.0)) (2 ^ b'.0)) (omega arith) x y (λ a i j. apart a (◌∈◌.later i) (◌∈◌.later j))
        ∙ walked_sum (bonds x) (bonds y) (2 ^ b.0) (2 ^ b'.0) ring

    walk_cross : {p q d a : ℕ} {P Q : List ℕ} (ring : ℕ) → d ≤ h → Chosen c rank r p d P → Chosen c rank r q d Q → ((p ≡ q → ⊥) ⊎ (d ≡ 0))
        → a ∈ P → a ∈ Q → (a ≡ r → ⊥) → walk (net_of c) us d p q ring ≡ 0
    unfolding walk
    walk_cross ring l Chosen.top Chosen.top other i j below = absurd (below (sym (in_one i)))
    walk_cross ring l (Chosen.step {next = n} {d} under b lowest x) (Chosen.step {next = n'} under' b' lowest' y) other i j below =
        let far_p = down_far c rank under.1.1 in
        let far_q = down_far c rank under'.1.1 in
        let both = shared_later (ne_of other) (chosen_near y far_p (omega arith)) (chosen_near x far_q (omega arith)) i j in
        next_walk d ring b b' (low_next (omega arith) b lowest x) (low_next (omega arith) b' lowest' y)
        ∙ test_failed n n' d _ (λ other'. walk_cross (bit_xor (bit_xor ring (2 ^ b.0)) (2 ^ b'.0)) (omega arith) x y other' both.0 both.1 below)

  -- The two chosen paths from p and q, and what walking them in step adds to a bond set.
  pub record Walked (us : List ℕ) (r d p q ring : ℕ) : Type 0 where
    pub P : List ℕ
    pub Q : List ℕ
    pub chosen_p : Chosen c rank r p d P
    pub chosen_q : Chosen c rank r q d Q
    pub from_p : ℕ
    pub from_q : ℕ
    pub edges_p : Edges c P from_p
    pub edges_q : Edges c Q from_q
    pub apart : ((a : ℕ) → a ∈ P → a ∈ Q → a ≡ r) → walk (net_of c) us d p q ring ≡ bit_xor (bit_xor from_p from_q) ring
    pub cross : (a : ℕ) → a ∈ P → a ∈ Q → (a ≡ r → ⊥) → walk (net_of c) us d p q ring ≡ 0

  pub walk_chosen : (us : List ℕ) (r h d p q ring : ℕ) → r < c.n → Layered c pre r h us → d ≤ h → DownFrom c rank r p d → DownFrom c rank r q d
      → (p ≡ q → ⊥) → Walked us r d p q ring
  walk_chosen us r h d p q ring inside layered l down_p down_q ne =
      let x = chosen_exists c ready.sound rank down_p.1 in
      let y = chosen_exists c ready.sound rank down_q.1 in
      record {
        P = x.0;
        Q = y.0;
        chosen_p = x.1;
        chosen_q = y.1;
        from_p = bonds x.1;
        from_q = bonds y.1;
        edges_p = bonds_edges x.1;
        edges_q = bonds_edges y.1;
        apart = walk_apart us r h inside layered ring l x.1 y.1;
        cross = λ a i j below. walk_cross us r h inside layered ring l x.1 y.1 (inl ne) i j below;
      }

  -- A candidate is dropped, and then its family is not kept; or the walk gives its prototype.
  pub data Given (f : Family) (ring : ℕ) : Type 0 where
    dropped : ring ≡ 0 → (Kept c rank f → ⊥) → Given f ring
    prototype : Prototype c rank f ring → Given f ring

  -- The two ends of a candidate and the way between them.
  pub record Linked (f : Family) (d : ℕ) (between : List ℕ) : Type 0 where
    pub down_p : DownFrom c rank f.r f.p d
    pub down_q : DownFrom c rank f.r f.q d
    pub ne : f.p ≡ f.q → ⊥
    pub edges : Edges c between (link (net_of c) f)

  pub candidate_linked : {f : Family} {d : ℕ} {between : List ℕ} → Candidate c rank f d between → Linked f d between
  unfolding link
  candidate_linked (Candidate.odd {p} {q} less (k, joins) under_p under_q long) = record {
    down_p = under_p.1;
    down_q = under_q.1;
    ne = λ e. omega arith;
    edges = edges_at c rank (xor_zero_r (2 ^ k) ∙ sym (bond_joins c rank pre ready k p q joins)) (Edges.more joins Edges.point refl);
  }
  candidate_linked (Candidate.even {p} {q} {x} less (k, joins) (j, joins') under_x under_p under_q long) =
      let named : x < c.n = ready.sound.named j x q joins' in
      let sum : bit_xor (2 ^ k) (bit_xor (2 ^ j) 0) ≡ bit_xor (bond (net_of c) p x) (bond (net_of c) x q) =
      ap (bit_xor (2 ^ k)) (xor_zero_r (2 ^ j)) ∙ sym (ap₂ bit_xor (bond_joins c rank pre ready k p x joins) (bond_joins c rank pre ready j x q joins')) in
      let even : eqb x 255 ≡ false = ne_eqb x 255 (λ e. omega (arith, ready.atoms)) in
      record {
        down_p = under_p.1;
        down_q = under_q.1;
        ne = λ e. omega arith;
        edges = rw even (edges_at c rank sum (Edges.more joins (Edges.more joins' Edges.point refl) refl));
      }

  chosen_same : {r t d e : ℕ} {P Q : List ℕ} → Chosen c rank r t d P → Chosen c rank r t e Q → P ≡ Q
  chosen_same {r} {t} {Q} x y =
      chosen_unique c ready.sound rank x (subst (λ (i : ℕ). Chosen c rank r t i Q) (distance_unique c (chosen_far y) (chosen_far x)) y)

  pub walk_given : (us : List ℕ) (h d : ℕ) (f : Family) (between : List ℕ) → f.r < c.n → Layered c pre f.r h us → d ≤ h → Candidate c rank f d between
      → Given f (walk (net_of c) us d f.p f.q (link (net_of c) f))
  walk_given us h d f between inside layered l candidate = go (apart_or_shared f.r walked.P walked.Q)
    where
      linked : Linked f d between
      linked = candidate_linked candidate

      walked : Walked us f.r d f.p f.q (link (net_of c) f)
      walked = walk_chosen us f.r h d f.p f.q (link (net_of c) f) inside layered l linked.down_p linked.down_q linked.ne

      go : ((a : ℕ) → a ∈ walked.P → a ∈ walked.Q → a ≡ f.r) ⊎ ((a : ℕ) × (a ∈ walked.P) × (a ∈ walked.Q) × (a ≡ f.r → ⊥))
          → Given f (walk (net_of c) us d f.p f.q (link (net_of c) f))
      go (inl apart) =
          Given.prototype
          (record {
            d = d;
            link = between;
            candidate = candidate;
            P = walked.P;
            Q = walked.Q;
            chosen_p = walked.chosen_p;
            chosen_q = walked.chosen_q;
            apart = apart;
            made = record {
              from_p = walked.from_p;
              from_q = walked.from_q;
              between = link (net_of c) f;
              edges_p = walked.edges_p;
              edges_q = walked.edges_q;
              edges_link = linked.edges;
              sum = walked.apart apart;
            };
          })
      go (inr (a, i, j, below)) = Given.dropped (walked.cross a i j below) crossing
        where
          crossing : Kept c rank f → ⊥
          crossing kept =
              let proto = kept.prototype in
              let at_p : a ∈ proto.P = subst (λ (P : List ℕ). a ∈ P) (chosen_same walked.chosen_p proto.chosen_p) i in
              let at_q : a ∈ proto.Q = subst (λ (Q : List ℕ). a ∈ Q) (chosen_same walked.chosen_q proto.chosen_q) j in
              below (proto.apart a at_p at_q)
