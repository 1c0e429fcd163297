-- A relevant ring as what two paths down to its last atom make up with a link.
use mathlib.Core.Path.{◌≡◌, refl, sym, ap, ◌∙◌, subst}
use mathlib.Core.Bool.{Bool, cond, ◌||◌}
use mathlib.Core.List.{List, [], ◌∷◌}
use mathlib.Core.Logic.{◌⊎◌, inl, inr, ⊎_elim}
use Prim.Native.Nat.{ℕ, zero, suc, ◌+◌, ◌*◌, ◌-◌, ◌/◌, ◌%◌, ◌^◌, ◌<◌, ◌≤◌, min}
use native.Mathlib.Nat.{min-eq_left, min-eq_right}
use native.Mathlib.Omega.{arith}
use native.Mathlib.Decide.{ℕ_discrete, dec_lt}
use borrow.Author.Tests.{eq-eqb}
use lib.Bits.{bit_xor}
use lib.Dec.{eqb}
use lib.ListN.{length, get_or}
use Rattle.spans.specs.Elements.{◌∈◌, Once}
use Rattle.bondset.specs.Sets.{bit}
use Rattle.bondset.proofs.Laws.{lt_or_ge, trailing}
use Rattle.graphs.specs.AtomList.{last_l}
use Rattle.cycles.specs.Compound.{Compound, m, one, other, Joins, Sound, Distance}
use Rattle.cycles.specs.Ring.{len, meets, degree_to, degree, Ring, Relevant, Edges}
use Rattle.cycles.specs.Family.{Family, Precedes, Down, Candidate}
use Rattle.cycles.proofs.Edges.{cycle_ring}
use Rattle.cycles.proofs.Arcs.{Around, around}
use Rattle.cycles.proofs.PathsDecide.{joins_sym}
use Rattle.cycles.proofs.PathsWays.{sums}
use Rattle.cycles.proofs.PathsDown.{down_before, down_more}
use Rattle.cycles.proofs.Families.{Made}

-- Of the numbers below n that have P, the highest in rank.
record Highest (P : ℕ → Type 0) (rank : ℕ → ℕ) (n : ℕ) : Type 0 where
  at : ℕ
  holds : P at
  highest : (i : ℕ) → i < n → P i → rank i ≤ rank at

highest_below : (P : ℕ → Type 0) (dec : (i : ℕ) → Dec (P i)) (rank : ℕ → ℕ) (n : ℕ) → Highest P rank n ⊎ ((i : ℕ) → i < n → P i → ⊥)
highest_below P dec rank zero = inr (λ i h p. omega arith)
highest_below P dec rank (suc n) = go (highest_below P dec rank n) (dec n)
  where
    upto : {A : ℕ → Type 0} → A n → ((i : ℕ) → i < n → A i) → (i : ℕ) → i < suc n → A i
    upto {A} a below i h = ⊎_elim (λ l. below i l) (λ g. let e : n ≡ i = omega arith in subst A e a) (lt_or_ge i n)

    go : Highest P rank n ⊎ ((i : ℕ) → i < n → P i → ⊥) → Dec (P n) → Highest P rank (suc n) ⊎ ((i : ℕ) → i < suc n → P i → ⊥)
    go (inl l) (no k) = inl (record { at = l.at; holds = l.holds; highest = upto {A = λ i. P i → rank i ≤ rank l.at} (λ p. absurd (k p)) l.highest })
    go (inl l) (yes p) =
        ⊎_elim
        (λ h. inl (record { at = n; holds = p; highest = upto {A = λ i. P i → rank i ≤ rank n} (λ p. omega arith) (λ i l' q. omega (arith, l.highest i l' q)) }))
        (λ h. inl (record { at = l.at; holds = l.holds; highest = upto {A = λ i. P i → rank i ≤ rank l.at} (λ p. h) l.highest }))
        (lt_or_ge (rank l.at) (rank n))
    go (inr none) (yes p) = inl (record { at = n; holds = p; highest = upto {A = λ i. P i → rank i ≤ rank n} (λ p. omega arith) (λ i h q. absurd (none i h q)) })
    go (inr none) (no k) = inr (upto {A = λ i. P i → ⊥} k none)

module _ (c : Compound) where
  -- The first end of a bond meets it.
  pub meets_one : (k : ℕ) → meets c k (one c k) ≡ 1
  meets_one k = ap (λ (b : Bool). cond (b || eqb (other c k) (one c k)) 1 0) (eq-eqb (one c k) (one c k) refl)

  -- An atom meets a set that holds one of its bonds.
  pub degree_to_pos : (n k S a : ℕ) → k < n → bit S k ≡ 1 → meets c k a ≡ 1 → 0 < degree_to c n S a
  unfolding degree_to
  degree_to_pos zero k S a h b e = absurd (omega arith)
  degree_to_pos (suc n) k S a h b e =
      ⊎_elim (λ l. let rest = degree_to_pos n k S a l b e in omega arith)
      (λ g. let same : k ≡ n = omega arith in
      let here : bit S n * meets c n a ≡ 1 = subst (λ (i : ℕ). bit S i * meets c i a ≡ 1) same (rw (b, e)) in omega arith) (lt_or_ge k n)

  -- A ring meets an atom.
  pub ring_atom : {C : ℕ} → Ring c C → (a : ℕ) × (0 < degree c C a)
  ring_atom {C} ring =
      let low = trailing (m c) C ring.some ring.closed.bonds in
      (_, degree_to_pos (m c) _ C _ low.small low.here (meets_one _))

-- Sums of the bonds of a ring, cut at the link.
odd_sum : {C T W : ℕ} (K J U S : ℕ) → C ≡ bit_xor K (bit_xor U W) → W ≡ bit_xor J S → T ≡ bit_xor K S → C ≡ bit_xor (bit_xor U T) (bit_xor J 0)
odd_sum K J U S c w v = simp (c, w, v, sums)

even_sum : {C T W X : ℕ} (K I J U S : ℕ) → C ≡ bit_xor K (bit_xor U W) → W ≡ bit_xor I X → X ≡ bit_xor J S → T ≡ bit_xor K S
    → C ≡ bit_xor (bit_xor U T) (bit_xor I (bit_xor J 0))
even_sum K I J U S c w x v = simp (c, w, x, v, sums)

step_sum : {T W : ℕ} (K J S : ℕ) → T ≡ bit_xor K S → W ≡ bit_xor J S → bit_xor J T ≡ bit_xor K W
step_sum K J S v w = simp (v, w, sums)

turn_sum : {C : ℕ} (S T L : ℕ) → C ≡ bit_xor (bit_xor S T) L → C ≡ bit_xor (bit_xor T S) L
turn_sum S T L c = simp (c, sums)

turn_link : {C : ℕ} (S T I J : ℕ) → C ≡ bit_xor (bit_xor S T) (bit_xor I (bit_xor J 0)) → C ≡ bit_xor (bit_xor T S) (bit_xor J (bit_xor I 0))
turn_link S T I J c = simp (c, sums)

start_sum : {C : ℕ} (K S : ℕ) → C ≡ bit_xor K S → C ≡ bit_xor K (bit_xor 0 S)
start_sum K S c = simp (c, sums)

advance_sum : {C W : ℕ} (K U J S : ℕ) → C ≡ bit_xor K (bit_xor U W) → W ≡ bit_xor J S → C ≡ bit_xor K (bit_xor (bit_xor J U) S)
advance_sum K U J S c w = simp (c, w, sums)

once_rest : {x : ℕ} {xs : List ℕ} → Once (x ∷ xs) → Once xs
once_rest (Once.more fresh once) = once

-- An element of the others is not the first.
pub fresh_other : {x y : ℕ} {xs : List ℕ} → Once (x ∷ xs) → y ∈ xs → x ≡ y → ⊥
fresh_other {xs} (Once.more fresh once) h e = fresh (subst (λ (z : ℕ). z ∈ xs) (sym e) h)

odd_or_even : (k : ℕ) → 2 ≤ k → ((d : ℕ) × (k ≡ 2 * d + 1)) ⊎ ((d : ℕ) × (k ≡ 2 * suc d))
odd_or_even k h = elim (ℕ_discrete (k % 2) 0) [ yes e ↦ inr (k / 2 - 1, omega arith) | no e ↦ inl (k / 2, omega arith) ]

module _ (c : Compound) (sound : Sound c) (rank : ℕ → ℕ) where
  -- The bond set C is what two down paths make up.
  pub record Found (C : ℕ) : Type 0 where
    pub f : Family
    pub d : ℕ
    pub link : List ℕ
    pub P : List ℕ
    pub Q : List ℕ
    pub made : Made c sound rank f d link P Q C
    pub long : len c C ≡ f.long

  module _ {r d C S T : ℕ} {P Q : List ℕ} where
    found_odd : {p q k : ℕ} → p < q → Joins c k p q → Precedes c rank p r → Precedes c rank q r → Down c rank r p d P → Down c rank r q d Q
        → Edges c P S → Edges c Q T → C ≡ bit_xor (bit_xor S T) (bit_xor (2 ^ k) 0) → len c C ≡ 2 * d + 1 → Found C
    found_odd {p} {q} less j before_p before_q down_p down_q edges_p edges_q sum long = record {
      f = record { long = 2 * d + 1; r = r; p = p; q = q; x = 255 };
      d = d;
      link = p ∷ q ∷ [];
      P = P;
      Q = Q;
      made = record {
        candidate = Candidate.odd less (_, j) (before_p, (P, down_p)) (before_q, (Q, down_q)) refl;
        down_p = down_p;
        down_q = down_q;
        made = record { from_p = S; from_q = T; between = _; edges_p = edges_p; edges_q = edges_q; edges_link = Edges.more j Edges.point refl; sum = sum };
      };
      long = long;
    }

    found_even : {p x q i j : ℕ} → p < q → Joins c i p x → Joins c j x q → Precedes c rank p r → Precedes c rank x r → Precedes c rank q r
        → {way : List ℕ} → Down c rank r x (suc d) way → Down c rank r p d P → Down c rank r q d Q → Edges c P S → Edges c Q T
        → C ≡ bit_xor (bit_xor S T) (bit_xor (2 ^ i) (bit_xor (2 ^ j) 0)) → len c C ≡ 2 * suc d → Found C
    found_even {p} {x} {q} less i j before_p before_x before_q {way} down_x down_p down_q edges_p edges_q sum long = record {
      f = record { long = 2 * suc d; r = r; p = p; q = q; x = x };
      d = d;
      link = p ∷ x ∷ q ∷ [];
      P = P;
      Q = Q;
      made = record {
        candidate = Candidate.even less (_, i) (_, j) (before_x, (way, down_x)) (before_p, (P, down_p)) (before_q, (Q, down_q)) refl;
        down_p = down_p;
        down_q = down_q;
        made = record {
          from_p = S;
          from_q = T;
          between = _;
          edges_p = edges_p;
          edges_q = edges_q;
          edges_link = Edges.more i (Edges.more j Edges.point refl) refl;
          sum = sum;
        };
      };
      long = long;
    }

  -- A path down from t to r whose bonds add up to S.
  record Descent (r t d S : ℕ) : Type 0 where
    path : List ℕ
    down : Down c rank r t d path
    edges : Edges c path S

  -- The atoms t ∷ rest, each nearer to r than the one before, and the last bonded to r, are a down path.
  descend : {r t K W : ℕ} {rest : List ℕ} → Edges c (t ∷ rest) W → Joins c K (last_l t rest) r
      → ((s n : ℕ) → s + n ≡ suc (length rest) → 0 < n → Distance c (get_or (t ∷ rest) s 0) r n) → ((a : ℕ) → a ∈ (t ∷ rest) → Precedes c rank a r)
      → Descent r t (suc (length rest)) (bit_xor (2 ^ K) W)
  descend {K} Edges.point closes far before = record {
    path = _;
    down = Down.step (before _ ◌∈◌.first) (far 0 1 (omega arith) (omega arith)) (K, closes) Down.top;
    edges = Edges.more closes Edges.point refl;
  }
  descend {K} (Edges.more {a = a} {k = j} {S = S} {path = path} joins edges e) closes far before =
      let below = descend edges closes (λ s n h g. far (suc s) n (omega arith) g) (λ a h. before a (◌∈◌.later h)) in
      record {
        path = a ∷ below.path;
        down = Down.step (before a ◌∈◌.first) (far 0 (suc (suc (length path))) (omega arith) (omega arith)) (j, joins) below.down;
        edges = subst (Edges c (a ∷ below.path)) (step_sum (2 ^ K) (2 ^ j) S refl e) (down_more c rank below.down joins below.edges);
      }

  -- A ring of k atoms gone round from r as far as its atom j, which is t: the way down from t, and the atoms that are left.
  record Stand (r k j C t W : ℕ) (rest : List ℕ) : Type 0 where
    K : ℕ
    U : ℕ
    up : List ℕ
    down : Down c rank r t j up
    edges : Edges c up U
    closes : Joins c K (last_l t rest) r
    sum : C ≡ bit_xor (2 ^ K) (bit_xor U W)
    once : Once (t ∷ rest)
    long : suc (j + length rest) ≡ k
    rise : (s n : ℕ) → s < length rest → n ≡ suc (j + s) → 2 * n ≤ k → Distance c (get_or rest s 0) r n
    fall : (s n : ℕ) → s < length rest → suc (j + s) + n ≡ k → n ≤ suc (j + s) → Distance c (get_or rest s 0) r n
    before : (a : ℕ) → a ∈ rest → Precedes c rank a r

  -- The ring's atom j, wherever that is.
  record Stop (r k j C : ℕ) : Type 0 where
    t : ℕ
    W : ℕ
    rest : List ℕ
    edges : Edges c (t ∷ rest) W
    stand : Stand r k j C t W rest

  start : {C r : ℕ} (w : Around c sound C r) → ((a : ℕ) → a ∈ w.path → Precedes c rank a r) → Stop r (len c C) 0 C
  start {C} {r} w before = record {
    t = r;
    W = w.along;
    rest = w.path;
    edges = w.edges;
    stand = record {
      K = w.closing;
      U = 0;
      up = r ∷ [];
      down = Down.top;
      edges = Edges.point;
      closes = w.closes;
      sum = start_sum (2 ^ w.closing) w.along w.sum;
      once = w.once;
      long = omega (arith, w.long);
      rise = λ s n h e l.
          let same : min (suc s) (len c C - suc s) ≡ n = min-eq_left (omega arith) ∙ omega arith in
          subst (Distance c (get_or w.path s 0) r) same (w.far (suc s) h);
      fall = λ s n h e l.
          let same : min (suc s) (len c C - suc s) ≡ n = min-eq_right (omega arith) ∙ omega arith in
          subst (Distance c (get_or w.path s 0) r) same (w.far (suc s) h);
      before = before;
    };
  }

  advance : {r k j C t W : ℕ} {rest : List ℕ} → Edges c (t ∷ rest) W → Stand r k j C t W rest → 2 * suc j ≤ k → Stop r k (suc j) C
  advance Edges.point w half = absurd (omega (arith, w.long))
  advance {j} (Edges.more {b = b} {k = i} {S = S} {path = path} joins edges e) w half = record {
    t = b;
    W = S;
    rest = path;
    edges = edges;
    stand = record {
      K = w.K;
      U = bit_xor (2 ^ i) w.U;
      up = b ∷ w.up;
      down = Down.step (w.before b ◌∈◌.first) (w.rise 0 (suc j) (omega arith) (omega arith) half) (i, joins_sym c joins) w.down;
      edges = down_more c rank w.down (joins_sym c joins) w.edges;
      closes = w.closes;
      sum = advance_sum (2 ^ w.K) w.U (2 ^ i) S w.sum e;
      once = once_rest w.once;
      long = omega (arith, w.long);
      rise = λ s n h g l. w.rise (suc s) n (omega arith) (omega arith) l;
      fall = λ s n h g l. w.fall (suc s) n (omega arith) (omega arith) (omega arith);
      before = λ a h. w.before a (◌∈◌.later h);
    };
  }

  climb : {r k C : ℕ} → Stop r k 0 C → (j : ℕ) → 2 * j ≤ k → Stop r k j C
  climb w zero half = w
  climb w (suc j) half = let v = climb w j (omega arith) in advance v.edges v.stand half

  module _ {r k d C : ℕ} (some : 0 < d) (size : len c C ≡ k) where
    stand_odd : {t W : ℕ} {rest : List ℕ} → k ≡ 2 * d + 1 → Edges c (t ∷ rest) W → Stand r k d C t W rest → Found C
    stand_odd long Edges.point w = absurd (omega (arith, w.long))
    stand_odd {t} long (Edges.more {b = q} {k = j} {S = S} {path = path} joins edges e) w =
        let count : suc (d + suc (length path)) ≡ k = w.long in
        let below = descend edges w.closes (λ s n h g. w.fall s n (omega arith) (omega arith) (omega arith)) w.before in
        let same : suc (length path) ≡ d = omega arith in
        let down_q = subst (λ (n : ℕ). Down c rank r q n below.path) same below.down in
        let total = odd_sum (2 ^ w.K) (2 ^ j) w.U S w.sum e refl in
        let before_p = down_before c rank w.down some in
        let before_q = w.before q ◌∈◌.first in
        let other = fresh_other w.once ◌∈◌.first in
        ⊎_elim (λ less. found_odd less joins before_p before_q w.down down_q w.edges below.edges total (size ∙ long))
        (λ ge. found_odd (omega arith) (joins_sym c joins) before_q before_p down_q w.down below.edges w.edges
        (turn_sum w.U (bit_xor (2 ^ w.K) S) (bit_xor (2 ^ j) 0) total) (size ∙ long)) (lt_or_ge t q)

    stand_even : {t W : ℕ} {rest : List ℕ} → k ≡ 2 * suc d → Edges c (t ∷ rest) W → Stand r k d C t W rest → Found C
    stand_even long Edges.point w = absurd (omega (arith, w.long))
    stand_even long (Edges.more joins Edges.point e) w = absurd (omega (arith, w.long))
    stand_even {t} long (Edges.more {b = x} {k = i} to_x (Edges.more {b = q} {k = j} {S = S} {path = path} to_q edges e) e') w =
        let count : suc (d + suc (suc (length path))) ≡ k = w.long in
        let below = descend edges w.closes (λ s n h g. w.fall (suc s) n (omega arith) (omega arith) (omega arith)) (λ a h. w.before a (◌∈◌.later h)) in
        let same : suc (length path) ≡ d = omega arith in
        let down_q = subst (λ (n : ℕ). Down c rank r q n below.path) same below.down in
        let total = even_sum (2 ^ w.K) (2 ^ i) (2 ^ j) w.U S w.sum e' e refl in
        let before_p = down_before c rank w.down some in
        let before_x = w.before x ◌∈◌.first in
        let before_q = w.before q (◌∈◌.later ◌∈◌.first) in
        let down_x = Down.step before_x (w.rise 0 (suc d) (omega arith) (omega arith) (omega arith)) (i, joins_sym c to_x) w.down in
        let other = fresh_other w.once (◌∈◌.later ◌∈◌.first) in
        ⊎_elim (λ less. found_even less to_x to_q before_p before_x before_q down_x w.down down_q w.edges below.edges total (size ∙ long))
        (λ ge. found_even (omega arith) (joins_sym c to_q) (joins_sym c to_x) before_q before_x before_p down_x down_q w.down below.edges
        w.edges (turn_link w.U (bit_xor (2 ^ w.K) S) (2 ^ i) (2 ^ j) total) (size ∙ long)) (lt_or_ge t q)

  -- A ring told from the atom r, whose other atoms precede r, is what two paths down to r make up.
  pub around_found : {C r : ℕ} (w : Around c sound C r) → ((a : ℕ) → a ∈ w.path → Precedes c rank a r) → Found C
  around_found {C} {r} w before = ⊎_elim odd even (odd_or_even (len c C) (omega (arith, w.long, w.three)))
    where
      stop : (d : ℕ) → 2 * d ≤ len c C → Stop r (len c C) d C
      stop = climb (start w before)

      odd : (d : ℕ) × (len c C ≡ 2 * d + 1) → Found C
      odd (d, e) = let v = stop d (omega arith) in stand_odd (omega (arith, w.long, w.three)) refl e v.edges v.stand

      even : (d : ℕ) × (len c C ≡ 2 * suc d) → Found C
      even (d, e) = let v = stop d (omega arith) in stand_even (omega (arith, w.long, w.three)) refl e v.edges v.stand

  -- A relevant ring is what two paths down to the last of its atoms make up.
  pub relevant_found : {C : ℕ} → ((a b : ℕ) → a < c.n → b < c.n → rank a ≡ rank b → a ≡ b) → Relevant c C → Found C
  relevant_found {C} injective relevant = go (highest_below (λ a. 0 < degree c C a) (λ a. dec_lt 0 (degree c C a)) rank c.n)
    where
      named : (a : ℕ) → 0 < degree c C a → a < c.n
      named a h = let w = around c sound relevant h in sound.named w.closing a _ (joins_sym c w.closes)

      go : Highest (λ a. 0 < degree c C a) rank c.n ⊎ ((a : ℕ) → a < c.n → 0 < degree c C a → ⊥) → Found C
      go (inr none) = let a = ring_atom c relevant.ring in absurd (none a.0 (named a.0 a.1) a.1)
      go (inl top) = around_found w before
        where
          w : Around c sound C top.at
          w = around c sound relevant top.holds

          met : (a : ℕ) → a ∈ w.path → 0 < degree c C a
          met a h =
              subst (λ (S : ℕ). 0 < degree c S a) (sym w.sum)
              (((cycle_ring c sound w.edges w.closes w.once w.three).met a).1 (◌∈◌.later h))

          before : (a : ℕ) → a ∈ w.path → Precedes c rank a top.at
          before a h =
              let low : rank a ≤ rank top.at = top.highest a (named a (met a h)) (met a h) in
              let other : rank a ≡ rank top.at → ⊥ = λ e.
              fresh_other w.once h (sym (injective a top.at (named a (met a h)) (named top.at top.holds) e)) in
              omega arith
