-- A search through a queue takes the steps of the model, though it never looks for the atoms at the last distance: what is bonded to an atom
-- under the start, and not seen, is one step further.
use mathlib.Core.Path.{◌≡◌, sym, ap, ap₂, ◌∙◌}
use mathlib.Core.Logic.{inl, inr, ◌↔◌}
use mathlib.Core.List.{List, [], ◌∷◌}
use Prim.Native.Nat.{ℕ, zero, suc, ◌+◌, ◌-◌, ◌^◌, ◌≤◌, ◌<◌}
use native.Mathlib.Nat.{mod_self, lt_of_lt_of_le}
use native.Mathlib.Omega.{arith}
use native.Mathlib.Decide.{ℕ_discrete}
use lib.Bits.{bit_and, bit_or, and_mask, and_zero_l, and_zero_r, or_zero_l}
use lib.Count.{count_trailing_zeros}
use lib.Pow.{pow_pos, pow-lt, pow_mono}
use Rattle.bondset.specs.Sets.{bit, members, length_to}
use Rattle.bondset.proofs.Laws.{bit_lt, zero_bit, ext, trailing}
use lib.ListN.{length}
use Rattle.bondset.proofs.Members.{length_to_members, members_step, members_zero, mem_of_bit, bit_of_mem, lt_of_mem}
use Rattle.model.specs.Fold.{through}
use Rattle.model.specs.Net.{Net, nbrs, near}
use Rattle.model.specs.Layer.{Wave, spread, wave, layer}
use Rattle.model.proofs.NetBits.{and_has, pow_has, without_has}
use Rattle.model.proofs.NetNear.{gather, gather_has, gather_takes, new_of}
use Rattle.search.specs.declared.Search.{Search}
use Rattle.search.specs.Queue.{queued, Appended, beside}
use Rattle.search.specs.Search.{Ready, Layering, Goes}
use Rattle.search.proofs.Waves.{lt_two_pow, or_without, near_none}
use Rattle.search.proofs.Queues.{length_seen, new_room, queued_new}

bit_same : (s t k : ℕ) → (bit s k ≡ 1 → bit t k ≡ 1) → (bit t k ≡ 1 → bit s k ≡ 1) → bit s k ≡ bit t k
bit_same s t k to from = go (ℕ_discrete (bit s k) 1) (ℕ_discrete (bit t k) 1)
  where
    go : Dec (bit s k ≡ 1) → Dec (bit t k ≡ 1) → bit s k ≡ bit t k
    go (yes e) d = e ∙ sym (to e)
    go (no ne) (yes f) = absurd (ne (from f))
    go (no ne) (no nf) = omega (arith, bit_lt s k, bit_lt t k)

-- Sets with the same members are one.
same_members : (s t : ℕ) → ((k : ℕ) → bit s k ≡ bit t k) → s ≡ t
same_members s t same =
    ext (s + t) s t
    (lt_of_lt_of_le (lt_two_pow s) (pow_mono {i = s} {j = s + t} (omega arith)))
    (lt_of_lt_of_le (lt_two_pow t) (pow_mono {i = t} {j = s + t} (omega arith))) (λ k l. same k)

-- ---- the atoms under the start, one step further

-- What is left of a set without the atoms of another.
abbrev without : ℕ → ℕ → ℕ
without s t = s - bit_and s t

without_bit : (s t k : ℕ) → (bit (without s t) k ≡ 1) ↔ ((bit s k ≡ 1) × (bit t k ≡ 1 → ⊥))
without_bit s t k = without_has s s t k (lt_two_pow s)

-- Larger sets have more neighbours.
near_more : (G : Net) (s t : ℕ) → ((a : ℕ) → bit s a ≡ 1 → bit t a ≡ 1) → (k : ℕ) → bit (near G s) k ≡ 1 → bit (near G t) k ≡ 1
unfolding near
near_more G s t within k e = elim (gather_has G (members 64 s) 0 k e) [
  | inl none ↦ absurd (omega (arith, zero_bit k))
  | inr p ↦ gather_takes G 0 k p.0 (mem_of_bit 64 t p.0 (lt_of_mem 64 s p.0 p.1) (within p.0 (bit_of_mem 64 s p.0 p.1))) p.2
]

module _ (G : Net) (pre : ℕ) where
  module _ (w : Wave) where
    abbrev beneath : ℕ
    beneath = near G w.under

    abbrev below : ℕ
    below = bit_and beneath pre

    abbrev new : ℕ
    new = new_of G w.seen w.front

    -- The atoms under the start are among those at their distance, so what they reach that is not seen is at the next.
    under_next : ((a : ℕ) → bit w.under a ≡ 1 → bit w.front a ≡ 1) → without below w.seen ≡ (spread G pre w).under
    unfolding spread
    under_next within = same_members (without below w.seen) (bit_and (bit_and new beneath) pre) (λ k. bit_same _ _ k (to k) (from k))
      where
        to : (k : ℕ) → bit (without below w.seen) k ≡ 1 → bit (bit_and (bit_and new beneath) pre) k ≡ 1
        to k e =
            let left = (without_bit below w.seen k).0 e in
            let both = (and_has beneath pre k).0 left.0 in
            (and_has (bit_and new beneath) pre k).1
            ((and_has new beneath k).1 ((without_bit (near G w.front) w.seen k).1 (near_more G w.under w.front within k both.0, left.1), both.0), both.1)

        from : (k : ℕ) → bit (bit_and (bit_and new beneath) pre) k ≡ 1 → bit (without below w.seen) k ≡ 1
        from k e =
            let outer = (and_has (bit_and new beneath) pre k).0 e in
            let inner = (and_has new beneath k).0 outer.0 in
            (without_bit below w.seen k).1
            ((and_has beneath pre k).1 (inner.1, outer.1), ((without_bit (near G w.front) w.seen k).0 inner.0).1)

  under_front : (r d a : ℕ) → bit (wave G pre r d).under a ≡ 1 → bit (wave G pre r d).front a ≡ 1
  unfolding wave spread
  under_front r zero a e = e
  under_front r (suc d) a e =
      let w = wave G pre r d in
      let new = new_of G w.seen w.front in
      ((and_has new (near G w.under) a).0 ((and_has (bit_and new (near G w.under)) pre a).0 e).0).0

  -- The layer after layer d, from the atoms seen up to distance d.
  layer_next : (r d : ℕ) → without (bit_and (near G (layer G pre r d)) pre) (wave G pre r d).seen ≡ layer G pre r (suc d)
  unfolding layer wave
  layer_next r d = under_next (wave G pre r d) (under_front r d)

-- ---- from distance to distance

-- Beyond a distance with nothing under the start nothing is under it.
pub goes_none : (G : Net) (pre : ℕ) (s : Search) → s.under ≡ 0 → Goes G pre s s
unfolding layer wave spread
goes_none G pre s e r d layering =
    let w = wave G pre r (suc d) in
    let none : near G w.under ≡ 0 = ap (near G) (sym layering.under ∙ e) ∙ near_none G in
    let front = new_of G w.seen w.front in
    record {
      under = e ∙ sym (ap (λ (x : ℕ). bit_and (bit_and front x) pre) none ∙ ap (λ (x : ℕ). bit_and x pre) (and_zero_r front) ∙ and_zero_l pre);
      seen = λ pos. absurd (omega arith);
      ready = λ pos. absurd (omega arith);
      front = λ pos. absurd (omega arith);
    }

-- One step, in which these atoms are found.
module _ (G : Net) (pre : ℕ) (s : Search) (pos : 0 < s.under) (ready : Ready s) (found : ℕ) (found_is : found ≡ without (beside G s.queue) s.seen) where
  abbrev seen' : ℕ
  seen' = bit_or s.seen found

  module _ (r d : ℕ) (layering : Layering G pre r d s) where
    found_new : found ≡ new_of G (wave G pre r d).seen (wave G pre r d).front
    unfolding near beside
    found_new = found_is ∙ ap₂ (λ (l : List ℕ) (x : ℕ). without (through (gather G) l 0) x) (layering.front pos) (layering.seen pos)

    found_front : found ≡ (wave G pre r (suc d)).front
    unfolding wave spread
    found_front = found_new

    seen_next : seen' ≡ (wave G pre r (suc d)).seen
    unfolding wave spread
    seen_next =
        ap (bit_or s.seen) found_is ∙ or_without s.seen (beside G s.queue)
        ∙ ap₂ (λ (x y : ℕ). x + y) (layering.seen pos) (sym found_is ∙ found_new)

  -- What is found is counted beside the atoms seen, and there is room for it.
  found_count : length_to 64 seen' ≡ s.queue.end + length_to 64 found
  found_count = rw found_is (length_seen s.seen (beside G s.queue) s.queue.end ready)

  pub found_room : s.queue.end + length_to 64 found ≤ 64
  found_room = rw found_is (new_room s.seen (beside G s.queue) s.queue.end ready)

  pub goes_further : (s' : Search) → s'.seen ≡ seen' → Appended s.queue found s'.queue → s'.under ≡ without (bit_and (near G s.under) pre) seen' → Goes G pre s s'
  goes_further s' seen_is appended under_is r d layering = record {
    under =
        under_is ∙ ap₂ (λ (x y : ℕ). without (bit_and (near G x) pre) y) layering.under (seen_next r d layering)
        ∙ layer_next G pre r (suc d);
    seen = λ more. seen_is ∙ seen_next r d layering;
    ready = λ more. appended.count ∙ sym found_count ∙ ap (length_to 64) (sym seen_is);
    front = λ more. queued_new s.queue found s'.queue appended ∙ ap (members 64) (found_front r d layering);
  }

-- ---- the start

members_single : (r : ℕ) → r < 64 → members 64 (2 ^ r) ≡ r ∷ []
members_single r h =
    let none : bit_and (2 ^ r) (2 ^ r - 1) ≡ 0 = and_mask (2 ^ r) r ∙ mod_self (2 ^ r) in
    let low : r ≡ count_trailing_zeros 64 (2 ^ r) = (pow_has r (count_trailing_zeros 64 (2 ^ r))).0 (trailing 64 (2 ^ r) (pow_pos r) (pow-lt h)).here in
    members_step 64 (2 ^ r) (pow_pos r) (pow-lt h) ∙ ap₂ (λ (t s : ℕ). t ∷ members 64 s) (sym low) none ∙ ap (λ (l : List ℕ). r ∷ l) (members_zero 64)

near_single : (G : Net) (r : ℕ) → r < 64 → near G (2 ^ r) ≡ nbrs G r
unfolding near through
near_single G r h = ap (λ (l : List ℕ). through (gather G) l 0) (members_single r h) ∙ or_zero_l (nbrs G r)

-- Layer 1, from the neighbours of r.
pub first_layer : (G : Net) (pre r : ℕ) → r < 64
    → bit_and (nbrs G r) pre - bit_and (bit_and (nbrs G r) pre) (2 ^ r) ≡ layer G pre r 1
unfolding layer wave
first_layer G pre r h =
    ap (λ (x : ℕ). without (bit_and x pre) (2 ^ r)) (sym (near_single G r h)) ∙ layer_next G pre r 0

-- The search from r before its first step.
pub layering_start : (G : Net) (pre r : ℕ) → r < 64 → (start : ℕ) → start ≡ 2 ^ r
    → (s : Search) → s.seen ≡ start → s.under ≡ without (bit_and (nbrs G r) pre) start → s.queue.end ≡ 1 → queued s.queue ≡ r ∷ [] → Layering G pre r 0 s
unfolding wave
layering_start G pre r h start is s seen_is under_is ends alone =
    let single : members 64 s.seen ≡ r ∷ [] = ap (members 64) (seen_is ∙ is) ∙ members_single r h in
    record {
      under = under_is ∙ ap (without (bit_and (nbrs G r) pre)) is ∙ first_layer G pre r h;
      seen = λ pos. seen_is ∙ is;
      ready = λ pos. ends ∙ sym (length_to_members 64 s.seen ∙ ap length single);
      front = λ pos. alone ∙ sym (members_single r h);
    }
