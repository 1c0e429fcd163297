-- Reducing by an index gives what reducing by the rows in order gives. Each addition is of a row of the range, so that the set is still reduced
-- to the same, and in the end no pivot of the range is left: the fresh ones are gone with the hits, because no other row holds them, and the late
-- ones in order, because a row lacks the pivots before.
use mathlib.Core.Path.{◌≡◌, refl, sym, ap, ap₂, ◌∙◌, subst}
use mathlib.Core.Bool.{Bool, true, false}
use mathlib.Core.Logic.{◌⊎◌, inl, inr, ⊎_elim}
use mathlib.Core.List.{List, [], ◌∷◌}
use Prim.Native.Nat.{ℕ, ◌^◌, ◌≤◌, ◌<◌, min}
use native.Mathlib.Decide.{ℕ_discrete}
use native.Mathlib.Nat.{lt_of_lt_of_le}
use native.Mathlib.Omega.{arith}
use borrow.Author.Tests.{lt-ltb, le-ltb, eqb-true, eqb-false}
use lib.Bits.{bit_xor, bit_and, differ}
use lib.ListN.{get_or}
use Rattle.spans.specs.Elements.{◌∈◌, first, later}
use Rattle.bondset.specs.Sets.{bit, has, members, Climbs, next}
use Rattle.bondset.specs.Rows.{row_at}
use Rattle.bondset.specs.Reduction.{Reduces}
use Rattle.bondset.specs.Index.{Fresh, Indexed, Reaches, add_within, add_held, add_placed, late_rest, late_used, AddsPlaced, AddsLate}
use Rattle.bondset.proofs.Laws.{lt_or_ge, bit_lt, bit_xor_lem, bit_and_lem, bit_beyond, differ_zero}
use Rattle.bondset.proofs.Members.{mem_of_bit, bit_of_mem, members_climb}
use Rattle.bondset.proofs.ReductionLinear.{Same, same_add, same_done}

-- a bond of a set of n bonds is one of them
pub bond_lt : (n s k : ℕ) → s < 2 ^ n → bit s k ≡ 1 → k < n
bond_lt n s k h e = ⊎_elim (λ (l : k < n). l) (λ (l : n ≤ k). absurd (omega (arith, sym e ∙ bit_beyond n s k h l))) (lt_or_ge k n)

pub not_one : (s k : ℕ) → (bit s k ≡ 1 → ⊥) → bit s k ≡ 0
not_one s k h = omega (arith, bit_lt s k)

-- ---- one row

module _ (from to i : ℕ) where
  pub within_in : from ≤ i → i < to → (arr : List ℕ) (s : ℕ) → add_within arr from to i s ≡ bit_xor s (row_at arr i)
  unfolding add_within
  within_in l h arr s = simp (le-ltb i from l, lt-ltb i to h)

  pub within_below : i < from → (arr : List ℕ) (s : ℕ) → add_within arr from to i s ≡ s
  unfolding add_within
  within_below l arr s = simp (lt-ltb i from l)

  pub within_beyond : to ≤ i → (arr : List ℕ) (s : ℕ) → add_within arr from to i s ≡ s
  unfolding add_within
  within_beyond h arr s = ⊎_elim (λ (l : i < from). within_below l arr s) (λ (l : from ≤ i). simp (le-ltb i from l, le-ltb i to h)) (lt_or_ge i from)

  -- row i is one of the range, or nothing is added
  pub data Turn : Type 0 where
    taken : from ≤ i → i < to → Turn
    left : ((arr : List ℕ) (s : ℕ) → add_within arr from to i s ≡ s) → Turn

  pub turn : Turn
  turn =
      ⊎_elim (λ (l : i < from). left (within_below l))
      (λ (l : from ≤ i). ⊎_elim (λ (h : i < to). taken l h) (λ (h : to ≤ i). left (within_beyond h)) (lt_or_ge i to)) (lt_or_ge i from)

  -- a bond that row i lacks is kept
  pub within_keeps : (arr : List ℕ) (s q : ℕ) → bit (row_at arr i) q ≡ 0 → bit (add_within arr from to i s) q ≡ bit s q
  within_keeps arr s q z = go turn
    where
      go : Turn → bit (add_within arr from to i s) q ≡ bit s q
      go (taken l h) =
          ap (λ (x : ℕ). bit x q) (within_in l h arr s) ∙ bit_xor_lem s (row_at arr i) q ∙ ap (differ (bit s q)) z ∙ differ_zero (bit s q)
      go (left e) = ap (λ (x : ℕ). bit x q) (e arr s)

  -- and one that both hold is gone
  pub within_clears : from ≤ i → i < to → (arr : List ℕ) (s q : ℕ) → bit s q ≡ 1 → bit (row_at arr i) q ≡ 1 → bit (add_within arr from to i s) q ≡ 0
  within_clears l h arr s q e z = ap (λ (x : ℕ). bit x q) (within_in l h arr s) ∙ bit_xor_lem s (row_at arr i) q ∙ ap₂ differ e z

pub both : (b : Bool) → (b ≡ true) ⊎ (b ≡ false)
both true = inl refl
both false = inr refl

-- row i is added where the rest holds its pivot
module _ (arr pivots : List ℕ) (from to t i : ℕ) where
  pub held_added : has t (get_or pivots i 0) ≡ true → (s : ℕ) → add_held arr pivots from to t i s ≡ add_within arr from to i s
  unfolding add_held
  held_added e s = simp e

  pub held_left : has t (get_or pivots i 0) ≡ false → (s : ℕ) → add_held arr pivots from to t i s ≡ s
  unfolding add_held
  held_left e s = simp e

  pub held_beyond : to ≤ i → (s : ℕ) → add_held arr pivots from to t i s ≡ s
  held_beyond h s =
      ⊎_elim (λ (e : has t (get_or pivots i 0) ≡ true). held_added e s ∙ within_beyond from to i h arr s) (λ (e : has t (get_or pivots i 0) ≡ false). held_left e s)
      (both (has t (get_or pivots i 0)))

-- what is neither the first nor one of the others is no element
not_cons : {x y : ℕ} {xs : List ℕ} → (x ≡ y → ⊥) → (x ∈ xs → ⊥) → x ∈ (y ∷ xs) → ⊥
not_cons ne out first = ne refl
not_cons ne out (later m) = out m

-- ---- the hits and then the late rows

-- They leave of the set s and the tags u what the rows from, .., to - 1 in order leave.
abbrev pub HitsThenLate : List ℕ → List ℕ → List ℕ → List ℕ → ℕ → ℕ → ℕ → ℕ → ℕ → ℕ → Type 0
HitsThenLate rows tags pivots place fresh late from to s u =
    Reduces rows tags pivots from to s u
    (late_rest rows pivots from to (members 128 late) (add_placed rows place from to (members 128 (bit_and s fresh)) s))
    (late_used rows tags pivots from to (members 128 late) (add_placed rows place from to (members 128 (bit_and s fresh)) s)
    (add_placed tags place from to (members 128 (bit_and s fresh)) u))

-- ---- the hits

module _ {rows pivots place : List ℕ} {fresh late all n : ℕ} (ix : Indexed rows pivots place fresh late all n) (from to : ℕ) (enough : to ≤ n) where
  -- Among the fresh pivots of the range, s holds exactly those of the list.
  record Pending (bs : List ℕ) (s : ℕ) : Type 0 where
    held : (j : ℕ) → from ≤ j → j < to → Fresh rows pivots place fresh n j → get_or pivots j 0 ∈ bs → bit s (get_or pivots j 0) ≡ 1
    gone : (j : ℕ) → from ≤ j → j < to → Fresh rows pivots place fresh n j → (get_or pivots j 0 ∈ bs → ⊥) → bit s (get_or pivots j 0) ≡ 0

  -- the row at the place of b lacks every other fresh pivot
  lacks_other : (b j : ℕ) → bit fresh b ≡ 1 → Fresh rows pivots place fresh n j → (get_or pivots j 0 ≡ b → ⊥) → bit (row_at rows (get_or place b 0)) (get_or pivots j 0) ≡ 0
  lacks_other b j e f ne =
      let p = ix.back b e in
      f.alone (get_or place b 0) p.found (λ q. ne (ap (λ (i : ℕ). get_or pivots i 0) (sym q) ∙ p.back))

  pending_step : (b : ℕ) (bs : List ℕ) (s : ℕ) → bit fresh b ≡ 1 → ((y : ℕ) → y ∈ bs → b < y) → Pending (b ∷ bs) s
      → Pending bs (add_within rows from to (get_or place b 0) s)
  pending_step b bs s e above p =
      record {
        held = λ j l h f m.
            within_keeps from to (get_or place b 0) rows s (get_or pivots j 0) (lacks_other b j e f (λ q. absurd (omega (arith, above (get_or pivots j 0) m))))
            ∙ p.held j l h f (later m);
        gone = λ j l h f out. elim (ℕ_discrete (get_or pivots j 0) b) [
          | yes q ↦ hit j l h f q
          | no ne ↦ within_keeps from to (get_or place b 0) rows s (get_or pivots j 0) (lacks_other b j e f ne) ∙ p.gone j l h f (not_cons ne out)
        ];
      }
    where
      hit : (j : ℕ) → from ≤ j → j < to → Fresh rows pivots place fresh n j → get_or pivots j 0 ≡ b → bit (add_within rows from to (get_or place b 0) s) (get_or pivots j 0) ≡ 0
      hit j l h f q =
          let i : get_or place b 0 ≡ j = ap (λ (k : ℕ). get_or place k 0) (sym q) ∙ f.placed in
          let m : get_or pivots j 0 ∈ (b ∷ bs) = rw q first in
          rw i (within_clears from to j l h rows s (get_or pivots j 0) (p.held j l h f m) (ix.own j (lt_of_lt_of_le h enough)))

  placed_pending : (bs : List ℕ) (s : ℕ) → Climbs bs → ((b : ℕ) → b ∈ bs → bit fresh b ≡ 1) → Pending bs s → Pending [] (add_placed rows place from to bs s)
  unfolding add_placed
  placed_pending [] s c e p = p
  placed_pending (b ∷ bs) s (next above c) e p =
      placed_pending bs (add_within rows from to (get_or place b 0) s) c (λ b m. e b (later m)) (pending_step b bs s (e b first) above p)

  -- the hits of a set are its fresh bonds
  hits_pending : (s : ℕ) → ((b : ℕ) → bit s b ≡ 1 → bit fresh b ≡ 1 → b < 128) → Pending (members 128 (bit_and s fresh)) s
  hits_pending s below =
      record {
        held = λ j l h f m. low s (get_or pivots j 0) f.among (bit_of_mem 128 (bit_and s fresh) (get_or pivots j 0) m);
        gone = λ j l h f out. not_one s (get_or pivots j 0) (λ e.
            out (mem_of_bit 128 (bit_and s fresh) (get_or pivots j 0) (below (get_or pivots j 0) e f.among)
            (bit_and_lem s fresh (get_or pivots j 0) ∙ ap₂ min e f.among)));
      }
    where
      low : (s q : ℕ) → bit fresh q ≡ 1 → bit (bit_and s fresh) q ≡ 1 → bit s q ≡ 1
      low s q e m = omega (arith, bit_lt s q, sym m ∙ bit_and_lem s fresh q, e)

  -- ---- the late rows

  -- s lacks each pivot of the range, but for the rows of the list
  abbrev Lacks : List ℕ → ℕ → Type 0
  Lacks is s = (j : ℕ) → from ≤ j → j < to → (j ∈ is → ⊥) → bit s (get_or pivots j 0) ≡ 0

  -- each late row is in the list, or before all of it
  abbrev Passed : List ℕ → Type 0
  Passed is = (j : ℕ) → bit late j ≡ 1 → (j ∈ is) ⊎ ((k : ℕ) → k ∈ is → j < k)

  -- a late row lacks the pivots of all rows that are no longer in the list
  late_lacks : (i j : ℕ) (is : List ℕ) → i < n → j < n → Passed (i ∷ is) → (j ≡ i → ⊥) → (j ∈ is → ⊥) → bit (row_at rows i) (get_or pivots j 0) ≡ 0
  late_lacks i j is small smaller passed ne out =
      ⊎_elim
      (λ (e : bit late j ≡ 1).
      ⊎_elim (λ (m : j ∈ (i ∷ is)). absurd (not_cons ne out m)) (λ (before : (k : ℕ) → k ∈ (i ∷ is) → j < k). ix.others i j small (before i first)) (passed j e))
      (λ (f : Fresh rows pivots place fresh n j). f.alone i small (λ q. ne (sym q)))
      (ix.split j smaller)

  held_lacks : (i : ℕ) (is : List ℕ) (s : ℕ) → i < n → Passed (i ∷ is) → Lacks (i ∷ is) s → Lacks is (add_held rows pivots from to s i s)
  held_lacks i is s small passed lacks j l h out =
      elim (ℕ_discrete j i) [
        | yes q ↦ subst (λ (k : ℕ). bit (add_held rows pivots from to s i s) (get_or pivots k 0) ≡ 0) (sym q)
            (own (subst (λ (k : ℕ). from ≤ k) q l) (subst (λ (k : ℕ). k < to) q h) (both (has s (get_or pivots i 0))))
        | no ne ↦ other ne (both (has s (get_or pivots i 0)))
      ]
    where
      own : from ≤ i → i < to → (has s (get_or pivots i 0) ≡ true) ⊎ (has s (get_or pivots i 0) ≡ false)
          → bit (add_held rows pivots from to s i s) (get_or pivots i 0) ≡ 0
      own l h (inl e) =
          ap (λ (x : ℕ). bit x (get_or pivots i 0)) (held_added rows pivots from to s i e s)
          ∙ within_clears from to i l h rows s (get_or pivots i 0) (eqb-true (bit s (get_or pivots i 0)) 1 e) (ix.own i small)
      own l h (inr e) =
          ap (λ (x : ℕ). bit x (get_or pivots i 0)) (held_left rows pivots from to s i e s)
          ∙ not_one s (get_or pivots i 0) (eqb-false (bit s (get_or pivots i 0)) 1 e)

      before : (j ≡ i → ⊥) → bit s (get_or pivots j 0) ≡ 0
      before ne = lacks j l h (not_cons ne out)

      other : (j ≡ i → ⊥) → (has s (get_or pivots i 0) ≡ true) ⊎ (has s (get_or pivots i 0) ≡ false)
          → bit (add_held rows pivots from to s i s) (get_or pivots j 0) ≡ 0
      other ne (inl e) =
          ap (λ (x : ℕ). bit x (get_or pivots j 0)) (held_added rows pivots from to s i e s)
          ∙ within_keeps from to i rows s (get_or pivots j 0) (late_lacks i j is small (lt_of_lt_of_le h enough) passed ne out)
          ∙ before ne
      other ne (inr e) = ap (λ (x : ℕ). bit x (get_or pivots j 0)) (held_left rows pivots from to s i e s) ∙ before ne

  passed_step : (i : ℕ) (is : List ℕ) → ((y : ℕ) → y ∈ is → i < y) → Passed (i ∷ is) → Passed is
  passed_step i is above passed j e = ⊎_elim (λ (m : j ∈ (i ∷ is)). within j i is above m) (λ (h : (k : ℕ) → k ∈ (i ∷ is) → j < k). inr (λ k m. h k (later m))) (passed j e)
    where
      within : (j i : ℕ) (is : List ℕ) → ((y : ℕ) → y ∈ is → i < y) → j ∈ (i ∷ is) → (j ∈ is) ⊎ ((k : ℕ) → k ∈ is → j < k)
      within j i is above first = inr above
      within j i is above (later m) = inl m

  late_lacking : (is : List ℕ) (s : ℕ) → Climbs is → ((i : ℕ) → i ∈ is → i < n) → Passed is → Lacks is s → Lacks [] (late_rest rows pivots from to is s)
  unfolding late_rest
  late_lacking [] s c small passed lacks = lacks
  late_lacking (i ∷ is) s (next above c) small passed lacks =
      late_lacking is (add_held rows pivots from to s i s) c (λ i m. small i (later m)) (passed_step i is above passed)
      (held_lacks i is s (small i first) passed lacks)

  -- ---- the set is still reduced to the same

  module _ (tags : List ℕ) where
    same_trans : {s u t w x y : ℕ} → Same rows tags pivots from to s u t w → Same rows tags pivots from to t w x y → Same rows tags pivots from to s u x y
    same_trans p q = record { rest = q.rest ∙ p.rest; used = q.used ∙ p.used }

    same_at : {s u t w x y : ℕ} → x ≡ t → y ≡ w → Same rows tags pivots from to s u t w → Same rows tags pivots from to s u x y
    same_at {s} {u} {t} {w} {x} {y} e f p = rw (e, f) p

    same_refl : (s u : ℕ) → Same rows tags pivots from to s u s u
    same_refl s u = record { rest = refl; used = refl }

    same_within : (i s u : ℕ) → Same rows tags pivots from to s u (add_within rows from to i s) (add_within tags from to i u)
    same_within i s u = go (turn from to i)
      where
        go : Turn from to i → Same rows tags pivots from to s u (add_within rows from to i s) (add_within tags from to i u)
        go (taken l h) =
            same_at (within_in from to i l h rows s) (within_in from to i l h tags u)
            (same_add rows tags pivots n ix.own ix.others from to enough i s u l h)
        go (left e) = same_at (e rows s) (e tags u) (same_refl s u)

    same_held : (i s u : ℕ) → Same rows tags pivots from to s u (add_held rows pivots from to s i s) (add_held tags pivots from to s i u)
    same_held i s u = go (both (has s (get_or pivots i 0)))
      where
        go : (has s (get_or pivots i 0) ≡ true) ⊎ (has s (get_or pivots i 0) ≡ false)
            → Same rows tags pivots from to s u (add_held rows pivots from to s i s) (add_held tags pivots from to s i u)
        go (inl e) = same_at (held_added rows pivots from to s i e s) (held_added tags pivots from to s i e u) (same_within i s u)
        go (inr e) = same_at (held_left rows pivots from to s i e s) (held_left tags pivots from to s i e u) (same_refl s u)

    same_placed : (bs : List ℕ) (s u : ℕ) → Same rows tags pivots from to s u (add_placed rows place from to bs s) (add_placed tags place from to bs u)
    unfolding add_placed
    same_placed [] s u = same_refl s u
    same_placed (b ∷ bs) s u =
        same_trans (same_within (get_or place b 0) s u) (same_placed bs (add_within rows from to (get_or place b 0) s) (add_within tags from to (get_or place b 0) u))

    same_late : (is : List ℕ) (s u : ℕ) → Same rows tags pivots from to s u (late_rest rows pivots from to is s) (late_used rows tags pivots from to is s u)
    unfolding late_rest late_used
    same_late [] s u = same_refl s u
    same_late (i ∷ is) s u =
        same_trans (same_held i s u) (same_late is (add_held rows pivots from to s i s) (add_held tags pivots from to s i u))

    -- The hits, and then the late rows: the same rest and the same tags as the rows in order, where the hits and the late rows are below 128;
    hits_then_late : (s u : ℕ) → ((b : ℕ) → bit s b ≡ 1 → bit fresh b ≡ 1 → b < 128) → ((i : ℕ) → bit late i ≡ 1 → i < 128)
        → HitsThenLate rows tags pivots place fresh late from to s u
    hits_then_late s u below below' =
        same_done (same_trans (same_placed hits s u) (same_late lates t (add_placed tags place from to hits u)))
        (λ j l h. late_lacking lates t (members_climb 128 late) (λ i m. ix.within i (bit_of_mem 128 late i m)) (λ j e. inl (mem_of_bit 128 late j (below' j e) e))
        (λ j l h out. at_first j l h out (ix.split j (lt_of_lt_of_le h enough))) j l h (λ m. elim m [ ]))
      where
        hits : List ℕ
        hits = members 128 (bit_and s fresh)

        lates : List ℕ
        lates = members 128 late

        t : ℕ
        t = add_placed rows place from to hits s

        settled : Pending [] t
        settled = placed_pending hits s (members_climb 128 (bit_and s fresh)) (λ b m. right b (bit_of_mem 128 (bit_and s fresh) b m)) (hits_pending s below)
          where
            right : (b : ℕ) → bit (bit_and s fresh) b ≡ 1 → bit fresh b ≡ 1
            right b m = omega (arith, bit_lt fresh b, sym m ∙ bit_and_lem s fresh b)

        at_first : (j : ℕ) → from ≤ j → j < to → (j ∈ lates → ⊥) → (bit late j ≡ 1) ⊎ Fresh rows pivots place fresh n j → bit t (get_or pivots j 0) ≡ 0
        at_first j l h out (inl e) = absurd (out (mem_of_bit 128 late j (below' j e) e))
        at_first j l h out (inr f) = settled.gone j l h f (λ m. elim m [ ])

    -- so of a set of bonds below 128, by at most 128 rows,
    pub reduces_indexed : n ≤ 128 → (s u : ℕ) → s < 2 ^ 128 → HitsThenLate rows tags pivots place fresh late from to s u
    reduces_indexed few s u fits = hits_then_late s u (λ b e f. bond_lt 128 s b fits e) (λ i e. lt_of_lt_of_le (ix.within i e) few)

    -- and of any set, by an index whose fresh pivots and late rows are below 128.
    pub reduces_indexed_words : fresh < 2 ^ 128 → late < 2 ^ 128 → (s u : ℕ) → HitsThenLate rows tags pivots place fresh late from to s u
    reduces_indexed_words fits fits' s u = hits_then_late s u (λ b e f. bond_lt 128 fresh b fits f) (λ i e. bond_lt 128 late i fits' e)

-- The loop over the hits and the one over the late rows leave what these leave.
loops_reduce : {rows tags pivots place : List ℕ} (fresh late : ℕ) {from to hits s u t w x y : ℕ} → HitsThenLate rows tags pivots place fresh late from to s u
    → hits ≡ bit_and s fresh → AddsPlaced rows tags place from to (members 128 hits) s u t w
    → AddsLate rows tags pivots from to (members 128 late) t w x y → Reduces rows tags pivots from to s u x y
loops_reduce {rows} {tags} {pivots} {place} fresh late {from} {to} {hits} {s} {u} {t} {w} {x} {y} so e p q =
    let a : t ≡ add_placed rows place from to (members 128 (bit_and s fresh)) s = p.rest ∙ ap (λ (h : ℕ). add_placed rows place from to (members 128 h) s) e in
    let b : w ≡ add_placed tags place from to (members 128 (bit_and s fresh)) u = p.used ∙ ap (λ (h : ℕ). add_placed tags place from to (members 128 h) u) e in
    record {
      rest = q.rest ∙ ap (late_rest rows pivots from to (members 128 late)) a ∙ so.rest;
      used = q.used ∙ ap₂ (late_used rows tags pivots from to (members 128 late)) a b ∙ so.used;
    }

-- So they reduce a set of bonds below 128 by at most 128 rows,
pub reduces_by : {rows tags pivots place : List ℕ} {fresh late all from to n : ℕ} → Indexed rows pivots place fresh late all n → to ≤ n → n ≤ 128
    → {hits s u t w x y : ℕ} → s < 2 ^ 128 → hits ≡ bit_and s fresh → AddsPlaced rows tags place from to (members 128 hits) s u t w
    → AddsLate rows tags pivots from to (members 128 late) t w x y → Reduces rows tags pivots from to s u x y
reduces_by {tags = tags} {fresh = fresh} {late = late} {from = from} {to = to} ix enough few {s = s} {u = u} fits =
    loops_reduce fresh late (reduces_indexed ix from to enough tags few s u fits)

-- and any set by an index that reaches the rows and whose fresh pivots and late rows are below 128.
pub reduces_reaching : {rows tags pivots place : List ℕ} {fresh late all from to : ℕ} → Reaches rows pivots place fresh late all to → fresh < 2 ^ 128 → late < 2 ^ 128
    → {hits s u t w x y : ℕ} → hits ≡ bit_and s fresh → AddsPlaced rows tags place from to (members 128 hits) s u t w
    → AddsLate rows tags pivots from to (members 128 late) t w x y → Reduces rows tags pivots from to s u x y
reduces_reaching {tags = tags} {fresh = fresh} {late = late} {from = from} {to = to} r fits fits' {s = s} {u = u} =
    loops_reduce fresh late (reduces_indexed_words r.indexed from to r.enough tags fits fits' s u)
