-- One more row keeps the index. If the row has a bond that no row holds, that is a fresh pivot; else the row is late.
-- The rest lacks all pivots before, so that the fresh ones stay with one row each.
use mathlib.Core.Path.{◌≡◌, refl, sym, ap, ap₂, ◌∙◌, subst}
use mathlib.Core.Bool.{Bool, true, false, cond}
use mathlib.Core.Logic.{◌⊎◌, inl, inr, ⊎_elim}
use mathlib.Core.List.{List, [], ◌∷◌, ◌++◌}
use Prim.Native.Nat.{ℕ, zero, suc, ◌+◌, ◌*◌, ◌^◌, ◌≤◌, ◌<◌, min}
use native.Mathlib.Decide.{ℕ_discrete}
use native.Mathlib.Nat.{lt_trans, lt_of_le_of_lt, lt_of_lt_of_le, le_refl}
use native.Mathlib.Numerals.{add-one}
use native.Mathlib.Omega.{arith}
use borrow.Author.Tests.{eqb-true, eqb-false}
use lib.Bits.{bit_xor, bit_and, bit_or, differ, xor_lt, and_le_l}
use lib.Count.{count_trailing_zeros}
use lib.Dec.{eqb}
use lib.ListN.{length, get_or, set, length-append}
use lib.Seq.{get_or-set_same, get_or-set_other}
use Rattle.bondset.specs.declared.BondSet.{BondSet}
use Rattle.bondset.specs.Sets.{bit, single, value}
use Rattle.bondset.specs.Rows.{row_at, put_row, flat}
use Rattle.bondset.specs.Reduction.{reduced, used, Reduces, Room, Reduction}
use Rattle.bondset.specs.Index.{Fresh, Placed, Indexed, Enters, PushesIndexed, held_by, new_in, fresh_pivot}
use Rattle.bondset.proofs.Laws.{cases2, bit_lt, bit_xor_lem, bit_and_lem, bit_or_lem, xor_besides, bit_pow_same, bit_pow_other, differ_zero, lt_or_ge, pos_of_ne, single_below, trailing, zero_bit, words_lt}
use Rattle.bondset.proofs.Rows.{row_same, row_other, length_flat, put_flat}
use Rattle.bondset.proofs.ReductionTheorems.{reduction_rest, reduction_push_at}
use Rattle.bondset.proofs.ReductionLinear.{reduced_lacks}
use Rattle.bondset.proofs.IndexReduce.{both, not_one}

-- ---- a set with one bond turned

turned_same : (s k : ℕ) → bit s k ≡ 0 → bit (bit_xor s (2 ^ k)) k ≡ 1
turned_same s k z = bit_xor_lem s (2 ^ k) k ∙ ap₂ differ z (bit_pow_same k)

turned_other : (s k j : ℕ) → (j ≡ k → ⊥) → bit (bit_xor s (2 ^ k)) j ≡ bit s j
turned_other s k j ne = bit_xor_lem s (2 ^ k) j ∙ ap (differ (bit s j)) (bit_pow_other k j (λ e. ne (sym e))) ∙ differ_zero (bit s j)

-- ---- the bonds that no row holds

new_digit : (x y : ℕ) → x < 2 → y < 2 → differ x (min x y) ≡ 1 → (x ≡ 1) × (y ≡ 0)
new_digit x y hx hy =
    cases2 (λ (x : ℕ). differ x (min x y) ≡ 1 → (x ≡ 1) × (y ≡ 0)) (λ e. absurd (omega arith))
    (cases2 (λ (y : ℕ). differ 1 (min 1 y) ≡ 1 → (◌≡◌ {A = ℕ} 1 1) × (y ≡ 0)) (λ e. (refl, refl)) (λ e. absurd (omega arith)) y hy) x hx

module _ (all s k : ℕ) where
  bit_new : bit (new_in all s) k ≡ differ (bit s k) (min (bit s k) (bit all k))
  unfolding new_in
  bit_new = bit_xor_lem s (bit_and s all) k ∙ ap (differ (bit s k)) (bit_and_lem s all k)

  -- a new bond is one of the set, and no row's
  new_bond : bit (new_in all s) k ≡ 1 → (bit s k ≡ 1) × (bit all k ≡ 0)
  new_bond e = new_digit (bit s k) (bit all k) (bit_lt s k) (bit_lt all k) (sym bit_new ∙ e)

-- the bonds of a set that no row holds make the union of both
pub all_grown_lem : (all s : ℕ) → bit_xor all (new_in all s) ≡ bit_or all s
unfolding new_in
all_grown_lem all s = xor_besides all s

-- each bond of the first n rows is one of theirs
pub held_every : (rows : List ℕ) (n i b : ℕ) → i < n → bit (row_at rows i) b ≡ 1 → bit (held_by rows n) b ≡ 1
unfolding held_by
held_every rows zero i b l e = absurd (omega arith)
held_every rows (suc n) i b l e =
    ⊎_elim (λ (h : i < n). omega (arith, bit_or_lem (held_by rows n) (row_at rows n) b, held_every rows n i b h e, bit_lt (row_at rows n) b))
    (λ (h : n ≤ i). let q : i ≡ n = omega arith in
    let o : bit (row_at rows n) b ≡ 1 = ap (λ (k : ℕ). bit (row_at rows k) b) (sym q) ∙ e in
    omega (arith, bit_or_lem (held_by rows n) (row_at rows n) b, bit_lt (held_by rows n) b)) (lt_or_ge i n)

-- rows that are the same have the same bonds
held_same : (rows rows' : List ℕ) (n : ℕ) → ((i : ℕ) → i < n → row_at rows' i ≡ row_at rows i) → held_by rows' n ≡ held_by rows n
unfolding held_by
held_same rows rows' zero h = refl
held_same rows rows' (suc n) h = ap₂ bit_or (held_same rows rows' n (λ i l. h i (omega arith))) (h n (omega arith))

held_more : (rows : List ℕ) (n : ℕ) → held_by rows (n + 1) ≡ bit_or (held_by rows n) (row_at rows n)
unfolding held_by
held_more rows n = ap (held_by rows) (add-one n)

-- ---- the pivot

pub new_lt : (all s : ℕ) → s < 2 ^ 128 → new_in all s < 2 ^ 128
unfolding new_in
new_lt all s h = xor_lt 128 s (bit_and s all) h (lt_of_le_of_lt (and_le_l s all) h)

module _ (all s : ℕ) where
  pub pivot_late : new_in all s ≡ 0 → fresh_pivot all s ≡ count_trailing_zeros 128 s
  unfolding fresh_pivot
  pivot_late e = rw e

  pub pivot_fresh : eqb (new_in all s) 0 ≡ false → fresh_pivot all s ≡ count_trailing_zeros 128 (new_in all s)
  unfolding fresh_pivot
  pivot_fresh e = ap (λ (b : Bool). count_trailing_zeros 128 (cond b s (new_in all s))) e

-- what is left of s without the bonds of all rows
pub new_of_lem : (all s i t : ℕ) → i ≡ bit_and s all → t ≡ bit_xor s i → t ≡ new_in all s
unfolding new_in
new_of_lem all s i t e q = q ∙ ap (bit_xor s) e

-- the pivot is entered in one of two ways
module _ (pivots place : List ℕ) (fresh late all n rest : ℕ) {new p all' : ℕ} (e : new ≡ new_in all rest) (g : all' ≡ bit_xor all new) where
  pub enters_late : eqb new 0 ≡ true → p ≡ count_trailing_zeros 128 rest → {late' : ℕ} → late' ≡ bit_xor late (single n)
      → Enters pivots place fresh late all n rest (set pivots n p) place fresh late' all'
  enters_late z q {late'} h =
      let b : eqb (new_in all rest) 0 ≡ true = ap (λ (x : ℕ). eqb x 0) (sym e) ∙ z in
      record {
        pivot_stored = ap (set pivots n) (q ∙ sym (pivot_late all rest (eqb-true (new_in all rest) 0 b)));
        all_grown = g ∙ ap (bit_xor all) e ∙ all_grown_lem all rest;
        fresh_grown = rw b;
        late_grown = rw b h;
        place_stored = rw b;
      }

  pub enters_fresh : eqb new 0 ≡ false → p ≡ count_trailing_zeros 128 new → {fresh' : ℕ} → fresh' ≡ bit_xor fresh (single p)
      → Enters pivots place fresh late all n rest (set pivots n p) (set place p n) fresh' late all'
  enters_fresh z q {fresh'} h =
      let b : eqb (new_in all rest) 0 ≡ false = ap (λ (x : ℕ). eqb x 0) (sym e) ∙ z in
      let r : p ≡ fresh_pivot all rest = q ∙ ap (count_trailing_zeros 128) e ∙ sym (pivot_fresh all rest b) in
      record {
        pivot_stored = ap (set pivots n) r;
        all_grown = g ∙ ap (bit_xor all) e ∙ all_grown_lem all rest;
        fresh_grown = rw b (h ∙ ap (λ (x : ℕ). bit_xor fresh (single x)) r);
        late_grown = rw b;
        place_stored = rw b (ap (λ (x : ℕ). set place x n) r);
      }

-- the lowest bond of a set that is not empty has a place
pub place_lt : (s b l : ℕ) → (s ≡ 0 → ⊥) → s < 2 ^ 128 → b ≡ count_trailing_zeros 128 s → 128 ≤ l → b < l
place_lt s b l some fits e h = rw e (lt_of_lt_of_le (trailing 128 s (pos_of_ne s some) fits).small h)

-- p is a bond of s, of 128
pub record Bond (s p : ℕ) : Type 0 where
  pub holds : bit s p ≡ 1
  pub small : p < 128

-- a pivot that is fresh is a new bond
pub record NewBond (all s p : ℕ) : Type 0 where
  pub holds : bit s p ≡ 1
  pub small : p < 128
  pub new : bit all p ≡ 0

module _ (all s : ℕ) (fits : s < 2 ^ 128) where
  late_bond : (s ≡ 0 → ⊥) → new_in all s ≡ 0 → Bond s (fresh_pivot all s)
  late_bond some e =
      let t = trailing 128 s (pos_of_ne s some) fits in
      subst (Bond s) (sym (pivot_late all s e)) (record { holds = t.here; small = t.small })

  fresh_bond : eqb (new_in all s) 0 ≡ false → NewBond all s (fresh_pivot all s)
  fresh_bond e =
      let t = trailing 128 (new_in all s) (pos_of_ne (new_in all s) (eqb-false (new_in all s) 0 e)) (new_lt all s fits) in
      let b = new_bond all s (count_trailing_zeros 128 (new_in all s)) t.here in
      subst (NewBond all s) (sym (pivot_fresh all s e)) (record { holds = b.0; small = t.small; new = b.1 })

  -- the pivot of a row is a bond of it
  pub pivot_bond : (s ≡ 0 → ⊥) → Bond s (fresh_pivot all s)
  pivot_bond some = go (both (eqb (new_in all s) 0))
    where
      go : (eqb (new_in all s) 0 ≡ true) ⊎ (eqb (new_in all s) 0 ≡ false) → Bond s (fresh_pivot all s)
      go (inl e) = late_bond some (eqb-true (new_in all s) 0 e)
      go (inr e) = let b = fresh_bond e in record { holds = b.holds; small = b.small }

-- ---- one more row

-- what holds of the numbers below n and of n holds of the numbers below n + 1
each_more : (P : ℕ → Type 0) (n : ℕ) → ((i : ℕ) → i < n → P i) → P n → (i : ℕ) → i < n + 1 → P i
each_more P n h p i l =
    ⊎_elim (λ (q : i < n). h i q) (λ (q : n ≤ i). let e : n ≡ i = omega arith in subst P e p) (lt_or_ge i n)

module _ {rows pivots place : List ℕ} {fresh late all n : ℕ} (ix : Indexed rows pivots place fresh late all n) (rest p : ℕ)
    (rows_fit : 2 * (n + 1) ≤ length rows) (pivots_fit : n + 1 ≤ length pivots) (lacks : (i : ℕ) → i < n → bit rest (get_or pivots i 0) ≡ 0)
    (holds : bit rest p ≡ 1) where
  abbrev rows' : List ℕ
  rows' = put_row rows n rest

  abbrev pivots' : List ℕ
  pivots' = set pivots n p

  abbrev all' : ℕ
  all' = bit_or all rest

  old_row : (i : ℕ) → i < n → row_at rows' i ≡ row_at rows i
  old_row i l = row_other rows n rest i l

  new_row : row_at rows' n ≡ rest
  new_row = row_same rows n rest rows_fit

  old_pivot : (i : ℕ) → i < n → get_or pivots' i 0 ≡ get_or pivots i 0
  old_pivot i l = get_or-set_other pivots n i p 0 (omega arith)

  new_pivot : get_or pivots' n 0 ≡ p
  new_pivot = get_or-set_same pivots n p 0 (omega arith)

  no_late : bit late n ≡ 0
  no_late = not_one late n (λ e. absurd (omega (arith, ix.within n e)))

  own' : (i : ℕ) → i < n + 1 → bit (row_at rows' i) (get_or pivots' i 0) ≡ 1
  own' =
      each_more (λ i. bit (row_at rows' i) (get_or pivots' i 0) ≡ 1) n (λ i l. ap₂ bit (old_row i l) (old_pivot i l) ∙ ix.own i l)
      (ap₂ bit new_row new_pivot ∙ holds)

  others' : (i j : ℕ) → i < n + 1 → j < i → bit (row_at rows' i) (get_or pivots' j 0) ≡ 0
  others' i j l k =
      each_more (λ i. (j : ℕ) → j < i → bit (row_at rows' i) (get_or pivots' j 0) ≡ 0) n
      (λ i l j k. ap₂ bit (old_row i l) (old_pivot j (lt_trans k l)) ∙ ix.others i j l k)
      (λ j k. ap₂ bit new_row (old_pivot j k) ∙ lacks j k) i l j k

  held' : all' ≡ held_by rows' (n + 1)
  held' = sym (held_more rows' n ∙ ap₂ bit_or (held_same rows rows' n old_row ∙ sym ix.held) new_row)

  -- a row that was fresh stays so
  fresh_kept : (place' : List ℕ) (fresh' i : ℕ) → i < n → bit fresh' (get_or pivots i 0) ≡ bit fresh (get_or pivots i 0)
      → get_or place' (get_or pivots i 0) 0 ≡ get_or place (get_or pivots i 0) 0
      → Fresh rows pivots place fresh n i → Fresh rows' pivots' place' fresh' (n + 1) i
  fresh_kept place' fresh' i l e q f =
      record {
        among = ap (bit fresh') (old_pivot i l) ∙ e ∙ f.among;
        placed = ap (λ (b : ℕ). get_or place' b 0) (old_pivot i l) ∙ q ∙ f.placed;
        alone = each_more (λ j. (j ≡ i → ⊥) → bit (row_at rows' j) (get_or pivots' i 0) ≡ 0) n
            (λ j h ne. ap₂ bit (old_row j h) (old_pivot i l) ∙ f.alone j h ne)
            (λ ne. ap₂ bit new_row (old_pivot i l) ∙ lacks i l);
      }

  -- a bond that had its place keeps it
  placed_kept : (place' : List ℕ) (late' b : ℕ) → get_or place' b 0 ≡ get_or place b 0 → bit late' (get_or place b 0) ≡ bit late (get_or place b 0)
      → Placed pivots place late n b → Placed pivots' place' late' (n + 1) b
  placed_kept place' late' b e q f =
      record {
        found = subst (λ (i : ℕ). i < n + 1) (sym e) (omega (arith, f.found));
        back = ap (λ (i : ℕ). get_or pivots' i 0) e ∙ old_pivot (get_or place b 0) f.found ∙ f.back;
        early = ap (bit late') e ∙ q ∙ f.early;
      }

  -- the row is late
  late_row : Indexed rows' pivots' place fresh (bit_xor late (2 ^ n)) all' (n + 1)
  late_row =
      record {
        own = own';
        others = others';
        held = held';
        split = each_more (λ i. (bit (bit_xor late (2 ^ n)) i ≡ 1) ⊎ Fresh rows' pivots' place fresh (n + 1) i) n
            (λ i l. ⊎_elim (λ (e : bit late i ≡ 1). inl (apart i l ∙ e)) (λ (f : Fresh rows pivots place fresh n i). inr (fresh_kept place fresh i l refl refl f)) (ix.split i l))
            (inl (turned_same late n no_late));
        back = λ b e. let f = ix.back b e in placed_kept place (bit_xor late (2 ^ n)) b refl (apart (get_or place b 0) f.found) f;
        within = λ i e. elim (ℕ_discrete i n) [
          | yes q ↦ omega arith
          | no ne ↦ omega (arith, ix.within i (sym (turned_other late n i ne) ∙ e))
        ];
      }
    where
      apart : (i : ℕ) → i < n → bit (bit_xor late (2 ^ n)) i ≡ bit late i
      apart i l = turned_other late n i (omega arith)

  -- the row has a new bond as its pivot
  module _ (new : bit all p ≡ 0) (fits : p < length place) where
    abbrev place' : List ℕ
    place' = set place p n

    abbrev fresh' : ℕ
    fresh' = bit_xor fresh (2 ^ p)

    -- no row held it
    new_in_no_row : (j : ℕ) → j < n → bit (row_at rows j) p ≡ 0
    new_in_no_row j l = not_one (row_at rows j) p (λ e. absurd (omega (arith, sym new ∙ ap (λ (x : ℕ). bit x p) ix.held ∙ held_every rows n j p l e)))

    new_not_fresh : bit fresh p ≡ 0
    new_not_fresh = not_one fresh p (λ e. absurd (clash (ix.back p e)))
      where
        clash : Placed pivots place late n p → ⊥
        clash f =
            let o : bit (row_at rows (get_or place p 0)) p ≡ 1 = ap (bit (row_at rows (get_or place p 0))) (sym f.back) ∙ ix.own (get_or place p 0) f.found in
            omega (arith, sym o ∙ new_in_no_row (get_or place p 0) f.found)

    other_bond : (i : ℕ) → i < n → get_or pivots i 0 ≡ p → ⊥
    other_bond i l e = omega (arith, sym (lacks i l) ∙ ap (bit rest) e ∙ holds)

    other_place : (b : ℕ) → (b ≡ p → ⊥) → get_or place' b 0 ≡ get_or place b 0
    other_place b ne = get_or-set_other place p b n 0 (omega arith)

    own_place : get_or place' p 0 ≡ n
    own_place = get_or-set_same place p n 0 fits

    fresh_row : Indexed rows' pivots' place' fresh' late all' (n + 1)
    fresh_row =
        record {
          own = own';
          others = others';
          held = held';
          split = each_more (λ i. (bit late i ≡ 1) ⊎ Fresh rows' pivots' place' fresh' (n + 1) i) n
              (λ i l. ⊎_elim (λ (e : bit late i ≡ 1). inl e)
              (λ (f : Fresh rows pivots place fresh n i). inr (fresh_kept place' fresh' i l (turned_other fresh p (get_or pivots i 0) (other_bond i l)) (other_place (get_or pivots i 0) (other_bond i l)) f))
              (ix.split i l))
              (inr (record {
                among = ap (bit fresh') new_pivot ∙ turned_same fresh p new_not_fresh;
                placed = ap (λ (b : ℕ). get_or place' b 0) new_pivot ∙ own_place;
                alone = λ j l ne. let h : j < n = omega arith in ap₂ bit (old_row j h) new_pivot ∙ new_in_no_row j h;
              }));
          back = λ b e. elim (ℕ_discrete b p) [
            | yes q ↦ subst (Placed pivots' place' late (n + 1)) (sym q)
                (record { found = subst (λ (i : ℕ). i < n + 1) (sym own_place) (omega arith); back = ap (λ (i : ℕ). get_or pivots' i 0) own_place ∙ new_pivot; early = ap (bit late) own_place ∙ no_late })
            | no ne ↦ placed_kept place' late b (other_place b ne) refl (ix.back b (sym (turned_other fresh p b ne) ∙ e))
          ];
          within = λ i e. omega (arith, ix.within i e);
        }

-- What `push` stores keeps the index: the rest is not empty, and lacks the pivots of all rows.
pub indexed_push : {rows pivots place rows' pivots' place' : List ℕ} {fresh late all n rest fresh' late' all' : ℕ}
    → rows' ≡ put_row rows n rest → Enters pivots place fresh late all n rest pivots' place' fresh' late' all'
    → 2 * (n + 1) ≤ length rows → n + 1 ≤ length pivots → 128 ≤ length place → n < 128 → rest < 2 ^ 128
    → Indexed rows pivots place fresh late all n → (rest ≡ 0 → ⊥) → ((i : ℕ) → i < n → bit rest (get_or pivots i 0) ≡ 0)
    → Indexed rows' pivots' place' fresh' late' all' (n + 1)
indexed_push {rows} {pivots} {place} {rows'} {pivots'} {place'} {fresh} {late} {all} {n} {rest} {fresh'} {late'} {all'} stored p rows_fit pivots_fit place_fit few fits ix some lacks =
    go (both (eqb (new_in all rest) 0))
  where
    go : (eqb (new_in all rest) 0 ≡ true) ⊎ (eqb (new_in all rest) 0 ≡ false) → Indexed rows' pivots' place' fresh' late' all' (n + 1)
    go (inl e) =
        let b = late_bond all rest fits some (eqb-true (new_in all rest) 0 e) in
        let pl : place' ≡ place = p.place_stored ∙ ap (λ (c : Bool). cond c place (set place (fresh_pivot all rest) n)) e in
        let fr : fresh' ≡ fresh = p.fresh_grown ∙ ap (λ (c : Bool). cond c fresh (bit_xor fresh (single (fresh_pivot all rest)))) e in
        let la : late' ≡ bit_xor late (2 ^ n) = p.late_grown ∙ ap (λ (c : Bool). cond c (bit_xor late (single n)) late) e ∙ ap (bit_xor late) (single_below n few) in
        rw (stored, p.pivot_stored, pl, fr, la, p.all_grown) (late_row ix rest (fresh_pivot all rest) rows_fit pivots_fit lacks b.holds)
    go (inr e) =
        let b = fresh_bond all rest fits e in
        let pl : place' ≡ set place (fresh_pivot all rest) n = p.place_stored ∙ ap (λ (c : Bool). cond c place (set place (fresh_pivot all rest) n)) e in
        let fr : fresh' ≡ bit_xor fresh (2 ^ fresh_pivot all rest) =
        p.fresh_grown ∙ ap (λ (c : Bool). cond c fresh (bit_xor fresh (single (fresh_pivot all rest)))) e ∙ ap (bit_xor fresh) (single_below (fresh_pivot all rest) b.small) in
        let la : late' ≡ late = p.late_grown ∙ ap (λ (c : Bool). cond c (bit_xor late (single n)) late) e in
        let room : fresh_pivot all rest < length place = omega (arith, b.small) in
        rw (stored, p.pivot_stored, pl, fr, la, p.all_grown) (fresh_row ix rest (fresh_pivot all rest) rows_fit pivots_fit lacks b.holds b.new room)

-- and the same where the rows stand in an array of sets
pub rows_push : (rows : List BondSet) (n : ℕ) (v : BondSet) {pivots place pivots' place' : List ℕ} {fresh late all fresh' late' all' : ℕ}
    → v.lo < 2 ^ 64 → v.hi < 2 ^ 64 → n < length rows → n < length pivots → 128 ≤ length place → n < 128
    → Enters pivots place fresh late all n (value v) pivots' place' fresh' late' all'
    → Indexed (flat rows) pivots place fresh late all n → (value v ≡ 0 → ⊥) → ((i : ℕ) → i < n → bit (value v) (get_or pivots i 0) ≡ 0)
    → Indexed (flat (set rows n v)) pivots' place' fresh' late' all' (n + 1)
rows_push rows n v low high rows_fit pivots_fit place_fit few p ix some lacks =
    indexed_push (put_flat rows n v low) p (omega (arith, length_flat rows)) (omega arith) place_fit few (words_lt 64 v.hi v.lo high low) ix some lacks

-- for any arrays, no row is indexed at first
pub indexed_none : (rows pivots place : List ℕ) → Indexed rows pivots place 0 0 0 0
unfolding held_by
indexed_none rows pivots place =
    record {
      own = λ i l. absurd (omega arith);
      others = λ i j l k. absurd (omega arith);
      held = refl;
      split = λ i l. absurd (omega arith);
      back = λ b e. absurd (omega (arith, zero_bit b));
      within = λ i e. absurd (omega (arith, zero_bit i));
    }

-- A state of a reduction and its index, after a set that the rows do not reduce to nothing: the state with the set as one more chosen set, and its index.
pub record Grown (rows tags pivots place chosen : List ℕ) (fresh late all : ℕ) : Type 0 where
  pub state : Reduction rows tags pivots chosen
  pub index : Indexed rows pivots place fresh late all (length chosen)

pub grown_push : {rows tags pivots place chosen rows' tags' pivots' place' : List ℕ} {fresh late all fresh' late' all' : ℕ}
    → Grown rows tags pivots place chosen fresh late all
    → Room rows tags pivots (length chosen + 1) → length chosen < 128
    → (v : ℕ) → (reduced rows pivots 0 (length chosen) v ≡ 0 → ⊥) → reduced rows pivots 0 (length chosen) v < 2 ^ 128
    → PushesIndexed rows tags pivots place fresh late all (length chosen) (reduced rows pivots 0 (length chosen) v) (used rows tags pivots 0 (length chosen) v 0)
    rows' tags' pivots' place' fresh' late' all'
    → Grown rows' tags' pivots' place' (chosen ++ (v ∷ [])) fresh' late' all'
grown_push {rows} {tags} {pivots} {place} {chosen} {rows'} {tags'} {pivots'} {place'} {fresh} {late} {all} {fresh'} {late'} {all'} g room few v some fits p =
    let n = length chosen in
    let rest = reduced rows pivots 0 n v in
    let b = pivot_bond all rest fits some in
    record {
      state = rw (p.row_stored, p.tag_stored, p.entered.pivot_stored) (reduction_push_at g.state room few v fits (fresh_pivot all rest) b.holds b.small);
      index = rw (length-append chosen (v ∷ []))
          (p.indexed g.index some (reduction_rest g.state n (le_refl n) v).lacks);
    }

-- ---- for callers: two reductions, by the rows before `short` and by those from it on, leave a rest that may be pushed

pub rest_lacks : {rows tags pivots place : List ℕ} {fresh late all n : ℕ} → Indexed rows pivots place fresh late all n
    → {from to s u t w : ℕ} → from ≤ to → to ≤ n → ((i : ℕ) → i < from → bit s (get_or pivots i 0) ≡ 0) → Reduces rows tags pivots from to s u t w
    → (i : ℕ) → i < to → bit t (get_or pivots i 0) ≡ 0
rest_lacks {rows} {tags} {pivots} {n = n} ix {from} {to} {s} l h before so i q =
    ap (λ (x : ℕ). bit x (get_or pivots i 0)) so.rest ∙ reduced_lacks rows pivots n ix.own ix.others from s before to l h i q

-- the pivot is a matter of the rows and the rest alone
pub pivot_by_rows : {rows pivots place : List ℕ} {fresh late all n : ℕ} → Indexed rows pivots place fresh late all n → (rest : ℕ)
    → fresh_pivot all rest ≡ fresh_pivot (held_by rows n) rest
pivot_by_rows ix rest = ap (λ (x : ℕ). fresh_pivot x rest) ix.held
