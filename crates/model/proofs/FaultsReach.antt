-- The search from atom 0 reaches all atoms exactly if the compound is in one piece.
use mathlib.Core.Path.{◌≡◌, refl, sym, ◌∙◌, ap, subst}
use mathlib.Core.Logic.{◌⊎◌, inl, inr, ◌↔◌}
use Prim.Native.Nat.{ℕ, zero, suc, ◌+◌, ◌-◌, ◌^◌, ◌<◌, ◌≤◌}
use native.Mathlib.Omega.{arith}
use native.Mathlib.Decide.{ℕ_discrete}
use lib.Pow.{pow-lt, ones_lt}
use Rattle.bondset.specs.Sets.{bit, length_to}
use Rattle.bondset.proofs.Laws.{length_le, lt_or_ge, pos_of_ne, bit_lt, bit_pow_same, zero_bit, cases2, ext, lowest}
use Rattle.cycles.specs.Compound.{Compound, Bonded, Walk, Sound, OnePiece}
use Rattle.cycles.proofs.PathsDecide.{joins_sym}
use Rattle.cycles.proofs.Pieces.{walk_between}
use Rattle.model.specs.Net.{Net, net_of}
use Rattle.model.specs.Layer.{Wave, spread, wave}
use Rattle.model.specs.Fault.{reached}
use Rattle.model.proofs.NetBits.{full_has, pow_has, lt_of_has, zero_of_none}
use Rattle.model.proofs.NetNear.{net_near, near_has, new_of, Step, step}

-- ---- how many are in a set

module _ (s t : ℕ) (more : (k : ℕ) → bit s k ≡ 1 → bit t k ≡ 1) where
  bit_le : (k : ℕ) → bit s k ≤ bit t k
  bit_le k = cases2 (λ (x : ℕ). bit s k ≡ x → bit s k ≤ bit t k) (λ e. omega arith) (λ e. omega (arith, more k e)) (bit s k) (bit_lt s k) refl

  length_mono : (n : ℕ) → length_to n s ≤ length_to n t
  unfolding length_to
  length_mono zero = omega arith
  length_mono (suc n) = omega (arith, length_mono n, bit_le n)

  -- A set that has one more has a greater length.
  length_grows : (n k : ℕ) → k < n → (bit s k ≡ 1 → ⊥) → bit t k ≡ 1 → length_to n s < length_to n t
  unfolding length_to
  length_grows zero k h new e = absurd (omega arith)
  length_grows (suc n) k h new e = elim (lt_or_ge k n) [
    | inl l ↦ omega (arith, length_grows n k l new e, bit_le n)
    | inr l ↦
        let last : k ≡ n = omega arith in
        let more : bit s k < bit t k = omega (arith, bit_lt s k) in
        omega (arith, length_mono n, subst (λ (x : ℕ). bit s x < bit t x) last more)
  ]

module _ (c : Compound) where
  -- A set that holds each neighbour of what it holds, holds the end of a walk that starts in it.
  walk_stays : {b a steps : ℕ} (s : ℕ) → ((a b : ℕ) → bit s a ≡ 1 → Bonded c a b → bit s b ≡ 1) → Walk c b a steps → bit s a ≡ 1 → bit s b ≡ 1
  walk_stays s closed Walk.here e = e
  walk_stays s closed (Walk.step {a} {next} bonded rest) e = walk_stays s closed rest (closed a next e bonded)

module _ (c : Compound) (sound : Sound c) (atoms : c.n ≤ 64) where
  abbrev G : Net
  G = net_of c

  -- The search from r after d steps.
  record Searched (r d : ℕ) (w : Wave) : Type 0 where
    seen_small : w.seen < 2 ^ c.n
    front_small : w.front < 2 ^ c.n
    start : bit w.seen r ≡ 1
    front_seen : (t : ℕ) → bit w.front t ≡ 1 → bit w.seen t ≡ 1
    walks : (t : ℕ) → bit w.seen t ≡ 1 → (steps : ℕ) × Walk c r t steps
    closed : (a b : ℕ) → bit w.seen a ≡ 1 → Bonded c a b → (bit w.seen b ≡ 1) ⊎ (bit w.front a ≡ 1)
    many : (w.front ≡ 0) ⊎ (d < length_to c.n w.seen)

  searched_none : (r : ℕ) → r < c.n → Searched r 0 (record { seen = 2 ^ r; front = 2 ^ r; under = 2 ^ r })
  searched_none r h = record {
    seen_small = pow-lt h;
    front_small = pow-lt h;
    start = bit_pow_same r;
    front_seen = λ t e. e;
    walks = λ t e. (0, subst (λ (x : ℕ). Walk c r x 0) ((pow_has r t).0 e) Walk.here);
    closed = λ a b e bonded. inr e;
    many = inr (omega (arith, length_grows 0 (2 ^ r) (λ k e. absurd (omega (arith, zero_bit k))) c.n r h (λ e. omega (arith, zero_bit r)) (bit_pow_same r)));
  }

  module _ (r d : ℕ) (w : Wave) (searched : Searched r d w) where
    abbrev front' : ℕ
    front' = new_of G w.seen w.front

    abbrev seen' : ℕ
    seen' = w.seen + front'

    stepped : Step G c.n w.seen w.front
    stepped = step G c.n (net_near c sound atoms).small w.seen w.front searched.seen_small

    walks' : (t : ℕ) → (bit w.seen t ≡ 1) ⊎ (bit front' t ≡ 1) → (steps : ℕ) × Walk c r t steps
    walks' t (inl e) = searched.walks t e
    walks' t (inr e) =
        let next = (near_has c sound atoms w.front t searched.front_small).0 ((stepped.new_has t).0 e).0 in
        let walk = searched.walks next.0 (searched.front_seen next.0 next.1) in
        (suc walk.0, Walk.step (next.2.0, joins_sym c next.2.1) walk.1)

    from_front : (a b : ℕ) → bit w.front a ≡ 1 → Bonded c a b → (bit w.seen b ≡ 1) ⊎ (bit front' b ≡ 1)
    from_front a b e bonded = go (ℕ_discrete (bit w.seen b) 1)
      where
        go : Dec (bit w.seen b ≡ 1) → (bit w.seen b ≡ 1) ⊎ (bit front' b ≡ 1)
        go (yes old) = inl old
        go (no new) = inr ((stepped.new_has b).1 ((near_has c sound atoms w.front b searched.front_small).1 (a, e, bonded), new))

    closed' : (a b : ℕ) → (bit w.seen a ≡ 1) ⊎ (bit front' a ≡ 1) → Bonded c a b → (bit seen' b ≡ 1) ⊎ (bit front' a ≡ 1)
    closed' a b (inr e) bonded = inr e
    closed' a b (inl e) bonded =
        elim (searched.closed a b e bonded) [ inl old ↦ inl ((stepped.seen_has b).1 (inl old)) | inr last ↦ inl ((stepped.seen_has b).1 (from_front a b last bonded)) ]

    many' : (front' ≡ 0) ⊎ (suc d < length_to c.n seen')
    many' = go searched.many (ℕ_discrete front' 0)
      where
        stopped : w.front ≡ 0 → front' ≡ 0
        stopped z =
            zero_of_none c.n front' stepped.new_small (λ t e.
            let next = (near_has c sound atoms w.front t searched.front_small).0 ((stepped.new_has t).0 e).0 in
            omega (arith, next.1, ap (λ (x : ℕ). bit x next.0) z, zero_bit next.0))

        go : (w.front ≡ 0) ⊎ (d < length_to c.n w.seen) → Dec (front' ≡ 0) → (front' ≡ 0) ⊎ (suc d < length_to c.n seen')
        go all (yes z) = inl z
        go (inl z) (no some) = absurd (some (stopped z))
        go (inr l) (no some) =
            let at = lowest c.n front' (pos_of_ne front' some) stepped.new_small in
            let e = at.here in
            let grown =
            length_grows w.seen seen' (λ k old. (stepped.seen_has k).1 (inl old)) c.n _ (lt_of_has c.n front' _ stepped.new_small e) ((stepped.new_has _).0 e).1
            ((stepped.seen_has _).1 (inr e)) in
            inr (omega arith)

    searched_more : Searched r (suc d) (spread G 0 w)
    unfolding spread
    searched_more = record {
      seen_small = stepped.seen_small;
      front_small = stepped.new_small;
      start = (stepped.seen_has r).1 (inl searched.start);
      front_seen = λ t e. (stepped.seen_has t).1 (inr e);
      walks = λ t e. walks' t ((stepped.seen_has t).0 e);
      closed = λ a b e. closed' a b ((stepped.seen_has a).0 e);
      many = many';
    }

  searched_all : (r d : ℕ) → r < c.n → Searched r d (wave G 0 r d)
  unfolding wave
  searched_all r zero h = searched_none r h
  searched_all r (suc d) h = searched_more r d (wave G 0 r d) (searched_all r d h)

  -- What a search of n steps has seen is closed.
  seen_closed : (r : ℕ) → r < c.n → (a b : ℕ) → bit (wave G 0 r c.n).seen a ≡ 1 → Bonded c a b → bit (wave G 0 r c.n).seen b ≡ 1
  seen_closed r h a b e bonded = elim (searched.closed a b e bonded) [
    | inl old ↦ old
    | inr last ↦ absurd (elim searched.many [
      | inl z ↦ omega (arith, last, ap (λ (x : ℕ). bit x a) z, zero_bit a)
      | inr l ↦ omega (arith, length_le c.n (wave G 0 r c.n).seen)
    ])
  ]
    where
      searched : Searched r c.n (wave G 0 r c.n)
      searched = searched_all r c.n h

  -- The search from atom 0 reaches all atoms exactly if there is a walk between any two.
  pub reached_all : 0 < c.n → (reached c ≡ 2 ^ c.n - 1) ↔ OnePiece c
  unfolding reached
  reached_all some = (to, from)
    where
      searched : Searched 0 c.n (wave G 0 0 c.n)
      searched = searched_all 0 c.n some

      S : ℕ
      S = (wave G 0 0 c.n).seen

      to : S ≡ 2 ^ c.n - 1 → OnePiece c
      to full = record { walk = λ a b h l. walk_between c (from_start a h).1 (from_start b l).1 }
        where
          from_start : (a : ℕ) → a < c.n → (steps : ℕ) × Walk c a 0 steps
          from_start a h = walk_between c (searched.walks a (ap (λ (x : ℕ). bit x a) full ∙ full_has c.n a h)).1 Walk.here

      from : OnePiece c → S ≡ 2 ^ c.n - 1
      from whole =
          ext c.n S (2 ^ c.n - 1) searched.seen_small (ones_lt c.n) (λ k h.
          walk_stays c S (seen_closed 0 some) (whole.walk 0 k some h).1 searched.start ∙ sym (full_has c.n k h))
