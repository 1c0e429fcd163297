-- Down paths: their length, ends, bonds and atoms, where an atom cuts one, and the ring that two of them close.
use mathlib.Core.Path.{◌≡◌, refl, sym, ap, ◌∙◌, subst}
use mathlib.Core.List.{List, [], ◌∷◌}
use mathlib.Core.Logic.{◌⊎◌, inl, inr, ⊎_elim}
use Prim.Native.Nat.{ℕ, suc, ◌+◌, ◌^◌, ◌<◌, ◌≤◌}
use native.Mathlib.Omega.{arith}
use lib.Bits.{bit_xor, xor_zero_l}
use Rattle.bondset.proofs.Laws.{xor_assoc}
use Rattle.graphs.specs.AtomList.{last_l}
use lib.ListN.{length}
use Rattle.spans.specs.Elements.{◌∈◌, Once, later}
use Rattle.cycles.specs.Compound.{Compound, Joins, Walk, Distance, Sound}
use Rattle.cycles.specs.Ring.{Edges}
use Rattle.cycles.specs.Family.{Precedes, Down}
use Rattle.cycles.proofs.Edges.{RingOf, cycle_ring}
use Rattle.cycles.proofs.PathsDecide.{not_in_none, joins_sym}
use Rattle.cycles.proofs.PathsWays.{sums, Way, way_here, way_step}

last_in : (u : ℕ) (path : List ℕ) → last_l u path ∈ (u ∷ path)
last_in u [] = ◌∈◌.first
last_in u (v ∷ path) = ◌∈◌.later (last_in v path)

last_sum : {U : ℕ} (K T : ℕ) → U ≡ bit_xor K 0 → bit_xor K T ≡ bit_xor T U
last_sum K T e = simp (e, sums)

next_sum : {U : ℕ} (K S T : ℕ) → U ≡ bit_xor K S → bit_xor (bit_xor K T) S ≡ bit_xor T U
next_sum K S T e = simp (e, sums)

pub in_one : {a b : ℕ} → a ∈ (b ∷ []) → b ≡ a
in_one ◌∈◌.first = refl
in_one (◌∈◌.later h) = absurd (not_in_none h)

module _ (c : Compound) where
  pub distance_unique : {a b d e : ℕ} → Distance c a b d → Distance c a b e → d ≡ e
  distance_unique {d} {e} s t = omega (arith, s.least e t.walk, t.least d s.walk)

  pub distance_here : (a : ℕ) → Distance c a a 0
  distance_here a = record { walk = Walk.here; least = λ steps w. omega arith }

module _ (c : Compound) (rank : ℕ → ℕ) where
  pub down_far : {r t d : ℕ} {P : List ℕ} → Down c rank r t d P → Distance c t r d
  down_far Down.top = distance_here c _
  down_far (Down.step before far bond down) = far

  pub down_length : {r t d : ℕ} {P : List ℕ} → Down c rank r t d P → length P ≡ suc d
  down_length Down.top = refl
  down_length (Down.step before far bond down) = ap suc (down_length down)

  pub down_last : {r t d : ℕ} {P : List ℕ} (u : ℕ) → Down c rank r t d P → last_l u P ≡ r
  down_last u Down.top = refl
  down_last u (Down.step before far bond down) = down_last _ down

  -- A path from an atom that precedes r has a step.
  pub down_some : {r t d : ℕ} {P : List ℕ} → Down c rank r t d P → Precedes c rank t r → 0 < d
  down_some Down.top before = absurd (omega arith)
  down_some (Down.step before far bond down) precedes = omega arith

  -- An atom with a path of some steps down to r precedes r.
  pub down_before : {r t d : ℕ} {P : List ℕ} → Down c rank r t d P → 0 < d → Precedes c rank t r
  down_before Down.top some = absurd (omega arith)
  down_before (Down.step before far bond down) some = before

  pub down_first : {r t d : ℕ} {P : List ℕ} → Down c rank r t d P → t ∈ P
  down_first Down.top = ◌∈◌.first
  down_first (Down.step before far bond down) = ◌∈◌.first

  pub down_precede : {r t d a : ℕ} {P : List ℕ} → Down c rank r t d P → a ∈ P → (a ≡ r) ⊎ Precedes c rank a r
  down_precede Down.top (later h) = elim h [ ]
  down_precede Down.top ◌∈◌.first = inl refl
  down_precede (Down.step before far bond down) ◌∈◌.first = inr before
  down_precede (Down.step before far bond down) (◌∈◌.later h) = down_precede down h

  -- An atom that is farther than the path's first atom is not on the path.
  pub down_near : {r t d a e : ℕ} {P : List ℕ} → Down c rank r t d P → Distance c a r e → d < e → a ∈ P → ⊥
  down_near Down.top far less (later h) = elim h [ ]
  down_near Down.top far less ◌∈◌.first = omega (arith, distance_unique c far (distance_here c _))
  down_near (Down.step before far' bond down) far less ◌∈◌.first = omega (arith, distance_unique c far far')
  down_near (Down.step before far' bond down) far less (◌∈◌.later h) = down_near down far (omega arith) h

  pub down_once : {r t d : ℕ} {P : List ℕ} → Down c rank r t d P → Once P
  down_once Down.top = Once.more not_in_none Once.none
  down_once (Down.step before far bond down) = Once.more (down_near down far (omega arith)) (down_once down)

  pub down_more : {r t d k u S : ℕ} {P : List ℕ} → Down c rank r t d P → Joins c k u t → Edges c P S → Edges c (u ∷ P) (bit_xor (2 ^ k) S)
  down_more Down.top j e = Edges.more j e refl
  down_more (Down.step before far bond down) j e = Edges.more j e refl

  -- A path cut at the atom a.
  pub record Cut (r t a d : ℕ) (P : List ℕ) : Type 0 where
    pub i : ℕ
    pub e : ℕ
    pub upper : ℕ
    pub lower : ℕ
    pub above : Way c t a i upper
    pub below : Way c a r e lower
    pub far : Distance c a r e
    pub whole : Edges c P (bit_xor upper lower)
    pub steps : i + e ≡ d

  -- A down path as a way.
  pub record Whole (r t d : ℕ) (P : List ℕ) : Type 0 where
    pub bonds : ℕ
    pub way : Way c t r d bonds
    pub edges : Edges c P bonds

  pub down_whole : {r t d : ℕ} {P : List ℕ} → Down c rank r t d P → Whole r t d P
  down_whole Down.top = record { bonds = 0; way = way_here c _; edges = Edges.point }
  down_whole (Down.step before far bond down) =
      let w = down_whole down in
      record { bonds = bit_xor (2 ^ bond.0) w.bonds; way = way_step c bond.1 w.way; edges = down_more down bond.1 w.edges }

  pub edges_at : {S T : ℕ} {P : List ℕ} → S ≡ T → Edges c P S → Edges c P T
  edges_at {P} e edges = subst (Edges c P) e edges

  cut_first : {r t d : ℕ} {P : List ℕ} → Down c rank r t d P → Cut r t t d P
  cut_first {d} {P} down =
      let w = down_whole down in
      record {
        i = 0;
        e = d;
        upper = 0;
        lower = w.bonds;
        above = way_here c _;
        below = w.way;
        far = down_far down;
        whole = edges_at (sym (xor_zero_l w.bonds)) w.edges;
        steps = omega arith;
      }

  pub cut : {r t d a : ℕ} {P : List ℕ} → Down c rank r t d P → a ∈ P → Cut r t a d P
  cut Down.top (later h) = elim h [ ]
  cut Down.top ◌∈◌.first = cut_first Down.top
  cut (Down.step before far bond down) ◌∈◌.first = cut_first (Down.step before far bond down)
  cut (Down.step before far bond down) (◌∈◌.later h) =
      let k = cut down h in
      record {
        i = suc k.i;
        e = k.e;
        upper = bit_xor (2 ^ bond.0) k.upper;
        lower = k.lower;
        above = way_step c bond.1 k.above;
        below = k.below;
        far = k.far;
        whole = edges_at (sym (xor_assoc (2 ^ bond.0) k.upper k.lower)) (down_more down bond.1 k.whole);
        steps = omega (arith, k.steps);
      }

  module _ (sound : Sound c) where
    -- The ring that the atoms of Q and of the list acc make up.
    pub record Wound (d : ℕ) (Q acc : List ℕ) (S : ℕ) : Type 0 where
      pub atoms : List ℕ
      pub round : RingOf c sound S atoms
      pub only : (a : ℕ) → a ∈ atoms → (a ∈ Q) ⊎ (a ∈ acc)
      pub has_Q : (a : ℕ) → a ∈ Q → a ∈ atoms
      pub has_acc : (a : ℕ) → a ∈ acc → a ∈ atoms
      pub count : length atoms ≡ length acc + d

    pub wound_at : {d S S' : ℕ} {Q acc : List ℕ} → S ≡ S' → Wound d Q acc S → Wound d Q acc S'
    wound_at {d} {Q} {acc} e w = subst (Wound d Q acc) e w

    wind_last : {r t k T : ℕ} {acc : List ℕ} → Joins c k t r → Edges c (t ∷ acc) T → last_l t acc ≡ r → Once (t ∷ acc) → 2 ≤ length acc
        → Wound 1 (t ∷ r ∷ []) acc (bit_xor (2 ^ k) T)
    wind_last {r} {t} {k} {acc} j along ends once two = record {
      atoms = t ∷ acc;
      round = cycle_ring c sound along (subst (λ (x : ℕ). Joins c k x t) (sym ends) (joins_sym c j)) once two;
      only = only;
      has_Q = has;
      has_acc = λ a h. ◌∈◌.later h;
      count = omega arith;
    }
      where
        only : (a : ℕ) → a ∈ (t ∷ acc) → (a ∈ (t ∷ r ∷ [])) ⊎ (a ∈ acc)
        only a ◌∈◌.first = inl ◌∈◌.first
        only a (◌∈◌.later h) = inr h

        has : (a : ℕ) → a ∈ (t ∷ r ∷ []) → a ∈ (t ∷ acc)
        has a ◌∈◌.first = ◌∈◌.first
        has a (◌∈◌.later h) = subst (λ (x : ℕ). x ∈ (t ∷ acc)) (ends ∙ in_one h) (last_in t acc)

    wind_more : {t d S : ℕ} {Q acc : List ℕ} → Wound d Q (t ∷ acc) S → Wound (suc d) (t ∷ Q) acc S
    wind_more {t} {Q} {acc} w = record {
      atoms = w.atoms;
      round = w.round;
      only = λ a h. ⊎_elim (λ q. inl (◌∈◌.later q)) (old a) (w.only a h);
      has_Q = has;
      has_acc = λ a h. w.has_acc a (◌∈◌.later h);
      count = omega (arith, w.count);
    }
      where
        old : (a : ℕ) → a ∈ (t ∷ acc) → (a ∈ (t ∷ Q)) ⊎ (a ∈ acc)
        old a ◌∈◌.first = inl ◌∈◌.first
        old a (◌∈◌.later h) = inr h

        has : (a : ℕ) → a ∈ (t ∷ Q) → a ∈ w.atoms
        has a ◌∈◌.first = w.has_acc a ◌∈◌.first
        has a (◌∈◌.later h) = w.has_Q a h

    apart_more : {r t d e : ℕ} {Q acc : List ℕ} → Down c rank r t d Q → {u : ℕ} → Distance c u r e → d < e
        → ((a : ℕ) → a ∈ (u ∷ Q) → a ∈ acc → a ≡ r) → (a : ℕ) → a ∈ Q → a ∈ (u ∷ acc) → a ≡ r
    apart_more down far less apart a q ◌∈◌.first = absurd (down_near down far less q)
    apart_more down far less apart a q (◌∈◌.later h) = apart a (◌∈◌.later q) h

    fresh : {r t : ℕ} {Q acc : List ℕ} → Precedes c rank t r → ((a : ℕ) → a ∈ (t ∷ Q) → a ∈ acc → a ≡ r) → t ∈ acc → ⊥
    fresh before apart h = omega (arith, before, ap rank (apart _ ◌∈◌.first h))

    -- A way acc to r, started by the bond from t, is closed by a down path from t that meets acc in r alone.
    pub wind : {r t d T U : ℕ} {Q acc : List ℕ} → Down c rank r t d Q → 0 < d → Edges c Q U → Edges c (t ∷ acc) T → last_l t acc ≡ r → Once acc
        → 2 ≤ length acc → ((a : ℕ) → a ∈ Q → a ∈ acc → a ≡ r) → Wound d Q acc (bit_xor T U)
    wind Down.top some edges along ends once two apart = absurd (omega arith)
    wind {T} (Down.step before far bond Down.top) some (Edges.more {k} j Edges.point e) along ends once two apart =
        wound_at (last_sum (2 ^ k) T e) (wind_last j along ends (Once.more (fresh before apart) once) two)
    wind {T} (Down.step before far bond (Down.step before' far' bond' down)) some (Edges.more {k} {S} j edges e) along ends once two apart =
        let rest = Down.step before' far' bond' down in
        wound_at (next_sum (2 ^ k) S T e)
        (wind_more (wind (Down.step before' far' bond' down) (omega arith) edges (Edges.more (joins_sym c j) along refl) ends
        (Once.more (fresh before apart) once) (omega arith) (apart_more rest far (omega arith) apart)))
