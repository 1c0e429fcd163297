-- The neighbours, bonds and layers that the model computes are those of the compound.
use mathlib.Core.Path.{◌≡◌, refl, sym, ◌∙◌, subst}
use mathlib.Core.List.{List}
use mathlib.Core.Logic.{◌⊎◌, inl, inr, ⊎_elim, ◌↔◌}
use Prim.Native.Nat.{ℕ, zero, suc, ◌+◌, ◌^◌, ◌<◌, ◌≤◌}
use native.Mathlib.Omega.{arith}
use native.Mathlib.Decide.{ℕ_discrete}
use lib.Bits.{bit_and, and_lt, and_le_l}
use lib.ListN.{length, get_or, set, length-set}
use lib.Seq.{get_or-set_same, get_or-set_other}
use lib.Pow.{pow-lt}
use Rattle.bondset.specs.Sets.{bit}
use Rattle.bondset.specs.Rows.{row_at}
use Rattle.bondset.proofs.Laws.{lt_or_ge, bit_lt, bit_pow_same, bit_pow_other, ext}
use Rattle.cycles.specs.Compound.{Compound, m, Joins, Bonded, Walk, Distance}
use Rattle.cycles.specs.Family.{Precedes, Down}
use Rattle.cycles.proofs.PathsDecide.{joins_sym, joins_below}
use Rattle.model.specs.Net.{Net, net_of, nbrs, near, bond}
use Rattle.model.specs.Layer.{Wave, spread, wave, layer, layers_into}
use Rattle.model.proofs.NetBits.{and_has, pow_has}
use Rattle.model.proofs.NetRead.{through_count, Touched, End, touch_touched}
use Rattle.model.proofs.NetNear.{net_near, nbrs_has, near_has, new_of, Step, step}
use Rattle.model.proofs.Ready.{Held, DownFrom, Layered}

-- ---- the layers of any net

module _ (G : Net) (pre r : ℕ) where
  -- The layers before d are written, and the list is as long as before.
  pub record Written (size d : ℕ) (us : List ℕ) : Type 0 where
    pub long : length us ≡ size
    pub are : (i : ℕ) → i < d → get_or us i 0 ≡ layer G pre r i

  pub layers_written : (h : ℕ) (us : List ℕ) → h < length us → Written (length us) (suc h) (layers_into G pre r h us)
  unfolding layers_into
  layers_written h us room =
      through_count (λ d us. set us d (layer G pre r d)) (Written (length us)) (suc h) more 0 (suc h) us (omega arith)
      (record { long = refl; are = λ i l. absurd (omega arith) })
    where
      more : (d : ℕ) (vs : List ℕ) → d < suc h → Written (length us) d vs → Written (length us) (suc d) (set vs d (layer G pre r d))
      more d vs l written = record {
        long = length-set vs d (layer G pre r d) ∙ written.long;
        are = λ i k. elim (lt_or_ge i d) [
          | inl old ↦ get_or-set_other vs d i _ 0 (omega arith) ∙ written.are i old
          | inr new ↦ let e : i ≡ d = omega arith in rw e (get_or-set_same vs d (layer G pre r d) 0 (omega (arith, written.long)))
        ];
      }

-- ---- the layers of a compound

module _ (c : Compound) (rank pre : ℕ → ℕ) (ready : Held c rank pre) where
  abbrev G : Net
  G = net_of c

  net_touched : Touched c (m c) G.touch
  unfolding net_of
  net_touched = touch_touched c ready.sound ready.atoms ready.bonds

  -- The neighbours of an atom.
  pub nbrs_bonded : (a b : ℕ) → a < c.n → (bit (nbrs (net_of c) a) b ≡ 1) ↔ Bonded c a b
  nbrs_bonded a b h = nbrs_has c ready.sound ready.atoms a b

  pub nbrs_small : (a : ℕ) → nbrs (net_of c) a < 2 ^ c.n
  nbrs_small = (net_near c ready.sound ready.atoms).small

  ends_joins : {i a b : ℕ} → (a ≡ b → ⊥) → i < m c → End c i a → End c i b → Joins c i a b
  ends_joins ne h (inl e) (inl f) = absurd (ne (sym e ∙ f))
  ends_joins ne h (inl e) (inr f) = Joins.given h e f
  ends_joins ne h (inr e) (inl f) = Joins.turned h e f
  ends_joins ne h (inr e) (inr f) = absurd (ne (sym e ∙ f))

  joins_end : {i a b : ℕ} → Joins c i a b → End c i a
  joins_end (Joins.given h e f) = inl e
  joins_end (Joins.turned h e f) = inr e

  -- The bond between two bonded atoms.
  pub bond_joins : (k a b : ℕ) → Joins c k a b → bond (net_of c) a b ≡ 2 ^ k
  unfolding bond
  bond_joins k a b joins =
      ext (m c) (bit_and A B) (2 ^ k) (and_lt (m c) A B (net_touched.small a) (net_touched.small b)) (pow-lt (joins_below c joins)) (λ i h. at i h (ℕ_discrete i k))
    where
      A : ℕ
      A = row_at G.touch a

      B : ℕ
      B = row_at G.touch b

      ne : a ≡ b → ⊥
      ne e = ready.sound.no_loop k b (subst (λ (x : ℕ). Joins c k x b) e joins)

      only : (i : ℕ) → i < m c → bit (bit_and A B) i ≡ 1 → i ≡ k
      only i h e =
          let both = (and_has A B i).0 e in
          ready.sound.once i k a b (ends_joins ne h (net_touched.meets a i both.0) (net_touched.meets b i both.1)) joins

      at : (i : ℕ) → i < m c → Dec (i ≡ k) → bit (bit_and A B) i ≡ bit (2 ^ k) i
      at i h (yes e) =
          let here = net_touched.all a k (joins_below c joins) (joins_end joins) in
          let there = net_touched.all b k (joins_below c joins) (joins_end (joins_sym c joins)) in
          rw e ((and_has A B k).1 (here, there) ∙ sym (bit_pow_same k))
      at i h (no other) =
          let none : bit (bit_and A B) i ≡ 1 → ⊥ = λ e. other (only i h e) in
          let empty : bit (bit_and A B) i ≡ 0 = omega (arith, bit_lt (bit_and A B) i) in
          empty ∙ sym (bit_pow_other k i (λ e. other (sym e)))

  -- ---- one step of the search

  -- Bonds lead both ways.
  pub bonded_sym : {a b : ℕ} → Bonded c a b → Bonded c b a
  bonded_sym (k, joins) = (k, joins_sym c joins)

  -- The search from r after d steps.
  record Waved (r d : ℕ) (w : Wave) : Type 0 where
    seen_small : w.seen < 2 ^ c.n
    front_small : w.front < 2 ^ c.n
    under_small : w.under < 2 ^ c.n
    seen_walk : (t : ℕ) → bit w.seen t ≡ 1 → (steps : ℕ) × (steps ≤ d) × Walk c r t steps
    walk_seen : (t steps : ℕ) → steps ≤ d → Walk c r t steps → bit w.seen t ≡ 1
    front_distance : (t : ℕ) → (bit w.front t ≡ 1) ↔ Distance c t r d
    under_down : (t : ℕ) → (bit w.under t ≡ 1) ↔ DownFrom c rank r t d

  walk_none : {r t : ℕ} → Walk c r t 0 → r ≡ t
  walk_none Walk.here = refl

  down_none : {r t : ℕ} {P : List ℕ} → Down c rank r t 0 P → r ≡ t
  down_none Down.top = refl

  waved_none : (r : ℕ) → r < c.n → Waved r 0 (record { seen = 2 ^ r; front = 2 ^ r; under = 2 ^ r })
  waved_none r h = record {
    seen_small = pow-lt h;
    front_small = pow-lt h;
    under_small = pow-lt h;
    seen_walk = λ t e. (0, omega arith, subst (λ (x : ℕ). Walk c r x 0) ((pow_has r t).0 e) Walk.here);
    walk_seen = λ t steps l w. let z : steps ≡ 0 = omega arith in (pow_has r t).1 (walk_none (subst (Walk c r t) z w));
    front_distance = λ t. (
      λ e. subst (λ (x : ℕ). Distance c x r 0) ((pow_has r t).0 e) (record { walk = Walk.here; least = λ steps w. omega arith }),
      λ far. (pow_has r t).1 (walk_none far.walk),
    );
    under_down = λ t. (λ e. subst (λ (x : ℕ). DownFrom c rank r x 0) ((pow_has r t).0 e) (_, Down.top), λ p. (pow_has r t).1 (down_none p.1));
  }

  -- The first step of a shortest walk.
  distance_next : {t r d : ℕ} → Distance c t r (suc d) → (next : ℕ) × Bonded c t next × Distance c next r d
  distance_next far = go far.walk far.least
    where
      go : {r t d : ℕ} → Walk c r t (suc d) → ((steps : ℕ) → Walk c r t steps → suc d ≤ steps) → (next : ℕ) × Bonded c t next × Distance c next r d
      go (Walk.step {next} bonded rest) least = (next, bonded, record { walk = rest; least = λ steps w. omega (arith, least (suc steps) (Walk.step bonded w)) })

  -- The first step of a path down.
  down_next : {r t d : ℕ} {P : List ℕ} → Down c rank r t (suc d) P
      → Precedes c rank t r × Distance c t r (suc d) × ((next : ℕ) × Bonded c t next × DownFrom c rank r next d)
  down_next (Down.step {next} before far bonded down) = (before, far, (next, bonded, (_, down)))

  module _ (r d : ℕ) (w : Wave) (inside : r < c.n) (waved : Waved r d w) where
    abbrev front' : ℕ
    front' = new_of G w.seen w.front

    abbrev under' : ℕ
    under' = bit_and (bit_and front' (near G w.under)) (pre r)

    stepped : Step G c.n w.seen w.front
    stepped = step G c.n nbrs_small w.seen w.front waved.seen_small

    far_least : (t : ℕ) → (bit w.seen t ≡ 1 → ⊥) → (steps : ℕ) → Walk c r t steps → suc d ≤ steps
    far_least t unseen steps walk = elim (lt_or_ge d steps) [ inl l ↦ l | inr l ↦ absurd (unseen (waved.walk_seen t steps l walk)) ]

    front_has : (t : ℕ) → (bit front' t ≡ 1) ↔ Distance c t r (suc d)
    front_has t = (to, from)
      where
        to : bit front' t ≡ 1 → Distance c t r (suc d)
        to e =
            let both = (stepped.new_has t).0 e in
            let next = (near_has c ready.sound ready.atoms w.front t waved.front_small).0 both.0 in
            record { walk = Walk.step (bonded_sym next.2) ((waved.front_distance next.0).0 next.1).walk; least = far_least t both.1 }

        from : Distance c t r (suc d) → bit front' t ≡ 1
        from far =
            let next = distance_next far in
            let last = (waved.front_distance next.0).1 next.2 in
            let reached = (near_has c ready.sound ready.atoms w.front t waved.front_small).1 (next.0, last, bonded_sym next.1) in
            (stepped.new_has t).1 (reached, λ e. let old = waved.seen_walk t e in omega (arith, far.least old.0 old.2, old.1))

    seen_to : (t : ℕ) → bit (w.seen + front') t ≡ 1 → (steps : ℕ) × (steps ≤ suc d) × Walk c r t steps
    seen_to t e =
        ⊎_elim (λ (o : bit w.seen t ≡ 1). let old = waved.seen_walk t o in (old.0, omega (arith, old.1), old.2))
        (λ (n : bit front' t ≡ 1). (suc d, omega arith, ((front_has t).0 n).walk)) ((stepped.seen_has t).0 e)

    to_seen : (t steps : ℕ) → steps ≤ suc d → Walk c r t steps → bit (w.seen + front') t ≡ 1
    to_seen t steps l walk = (stepped.seen_has t).1 (go (ℕ_discrete (bit w.seen t) 1))
      where
        go : Dec (bit w.seen t ≡ 1) → (bit w.seen t ≡ 1) ⊎ (bit front' t ≡ 1)
        go (yes e) = inl e
        go (no ne) =
            let z : steps ≡ suc d = omega (arith, far_least t ne steps walk) in
            inr ((front_has t).1 (record { walk = subst (Walk c r t) z walk; least = far_least t ne }))

    under_has : (t : ℕ) → (bit under' t ≡ 1) ↔ DownFrom c rank r t (suc d)
    under_has t = (to, λ p. from p.1)
      where
        to : bit under' t ≡ 1 → DownFrom c rank r t (suc d)
        to e =
            let outer = (and_has (bit_and front' (near G w.under)) (pre r) t).0 e in
            let inner = (and_has front' (near G w.under) t).0 outer.0 in
            let next = (near_has c ready.sound ready.atoms w.under t waved.under_small).0 inner.1 in
            let bonded = bonded_sym next.2 in
            let named = ready.sound.named bonded.0 t next.0 bonded.1 in
            (_, Down.step ((ready.precede r t inside named).0 outer.1) ((front_has t).0 inner.0) bonded ((waved.under_down next.0).0 next.1).1)

        from : {P : List ℕ} → Down c rank r t (suc d) P → bit under' t ≡ 1
        from path =
            let (before, far, (next, bonded, down)) = down_next path in
            let named = ready.sound.named bonded.0 t next bonded.1 in
            let near-under = (near_has c ready.sound ready.atoms w.under t waved.under_small).1 (next, (waved.under_down next).1 down, bonded_sym bonded) in
            (and_has (bit_and front' (near G w.under)) (pre r) t).1
            ((and_has front' (near G w.under) t).1 ((front_has t).1 far, near-under), (ready.precede r t inside named).1 before)

    waved_more : Waved r (suc d) (spread G (pre r) w)
    unfolding spread
    waved_more = record {
      seen_small = stepped.seen_small;
      front_small = stepped.new_small;
      under_small = omega (arith, and_le_l (bit_and front' (near G w.under)) (pre r), and_le_l front' (near G w.under), stepped.new_small);
      seen_walk = seen_to;
      walk_seen = to_seen;
      front_distance = front_has;
      under_down = under_has;
    }

  waved_all : (r d : ℕ) → r < c.n → Waved r d (wave G (pre r) r d)
  unfolding wave
  waved_all r zero h = waved_none r h
  waved_all r (suc d) h = waved_more r d (wave G (pre r) r d) h (waved_all r d h)

  -- Layer d holds r and the atoms under r at distance d.
  pub layer_down : (r t d : ℕ) → r < c.n → (bit (layer (net_of c) (pre r) r d) t ≡ 1) ↔ DownFrom c rank r t d
  unfolding layer
  layer_down r t d h = (waved_all r d h).under_down t

  pub layers_layered : (r h : ℕ) (us : List ℕ) → h < length us → Layered c pre r h (layers_into (net_of c) (pre r) r h us)
  layers_layered r h us room = record { are = λ d l. (layers_written (net_of c) (pre r) r h us room).are d (omega arith) }
