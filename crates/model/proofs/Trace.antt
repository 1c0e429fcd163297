-- What one length does to the state, told as what happens to each kept candidate in turn.
use mathlib.Core.Path.{◌≡◌, refl, sym, ap, ap₂, ◌∙◌, subst}
use mathlib.Core.List.{List, [], ◌∷◌, ◌++◌, map, append_assoc, append-nil, cons≢nil, head-eq_of_cons-eq, tail-eq_of_cons-eq}
use Prim.Native.Nat.{ℕ, ◌+◌, ◌*◌, ◌/◌, ◌^◌, ◌<◌, ◌≤◌, zero-le}
use native.Mathlib.Decide.{ℕ_discrete}
use native.Mathlib.Nat.{le_refl, lt_of_le_of_lt, div-mul-le_self}
use native.Mathlib.Numerals.{add-one}
use native.Mathlib.Omega.{arith}
use lib.Bits.{bit_xor}
use lib.Count.{count_trailing_zeros}
use lib.ListN.{length, get_or, set, take, length-append, length-set}
use lib.Pow.{shl-shr}
use lib.Seq.{take_at, take-length, take-append_seam, drop-append_seam}
use Rattle.spans.specs.Elements.{◌∈◌}
use Rattle.spans.specs.Basis.{All, Sum}
use Rattle.spans.proofs.Lists.{all_append, all_map, all_and, all_right}
use Rattle.spans.proofs.Span.{Span, at, zero, head, add, left_of, right_of, to_part, from_part}
use Rattle.spans.proofs.Indep.{Indep}
use Rattle.spans.proofs.Short.{SpansShort, relevant_not_span, not_span_relevant}
use Rattle.spans.proofs.Marking.{Near, level_step}
use Rattle.bondset.specs.Rows.{put_row}
use Rattle.bondset.specs.Reduction.{reduced, used, pushed_tag, Room, combine, named_by, Reduction}
use Rattle.bondset.proofs.Group.{bond_sets}
use Rattle.bondset.proofs.Rows.{length_put_row}
use Rattle.bondset.proofs.Laws.{xor_cancel}
use Rattle.bondset.proofs.ReductionTags.{named_by_part}
use Rattle.bondset.specs.Index.{held_by, fresh_pivot}
use Rattle.bondset.proofs.ReductionTheorems.{reduced_on, reduction_rest, reduction_rest_lt, reduction_indep, reduction_push_at, remains_short}
use Rattle.bondset.proofs.IndexPush.{Bond, pivot_bond}
use Rattle.cycles.specs.Compound.{Compound}
use Rattle.cycles.specs.Ring.{len, Closed, Relevant}
use Rattle.cycles.specs.Family.{Family, Prototype, Kept}
use Rattle.cycles.specs.Rows.{Row, Marks}
use Rattle.cycles.proofs.Shorter.{Shorter}
use Rattle.cycles.proofs.Bases.{shorter_short, relevant_no_sum, no_sum_relevant, kept_prototype_relevant}
use Rattle.cycles.proofs.Ranks.{in_map}
use Rattle.cycles.proofs.Families.{prototype_member, member_differ_shorter}
use Rattle.model.specs.Fold.{through, count}
use Rattle.model.specs.State.{State, marked as pushed, unmarked, joined}
use Rattle.model.proofs.Ready.{held, Ready, Covered}
use Rattle.model.proofs.Walks.{Given}
use Rattle.model.proofs.Items.{Try, judge, Items}
use Rattle.model.proofs.NumbersJoin.{joined_length}
use Rattle.model.proofs.TraceBases.{closed_fits, closed_few}
use Rattle.model.proofs.TraceJudged.{rest, names, rest_short, tag_long, judged_passed, judged_unmarked, judged_marked}

-- What happens to a kept prototype: it is marked, as ring number j; or it is the sum of marked rings, those of its own
-- length named by a tag, at a time when so many are marked.
pub data Event : Type 0 where
  marked : Try → ℕ → Event
  summed : Try → ℕ → ℕ → Event

-- What an event does to the labels, to the counts of families, and the row that it makes.
abbrev pub label : ℕ → Event → List ℕ → List ℕ
label short (marked t j) labels = set labels j j
label short (summed t tag count) labels = joined short count tag labels

abbrev pub hold : Event → List ℕ → List ℕ
hold (marked t j) holds = set holds j 1
hold (summed t tag count) holds = let j = count_trailing_zeros 128 tag in set holds j (get_or holds j 0 + 1)

abbrev pub row_of : Event → Row
row_of (marked t j) = record { family = t.family; mark = 1; class = j; size = t.size }
row_of (summed t tag count) = record { family = t.family; mark = 0; class = count_trailing_zeros 128 tag; size = t.size }

-- The prototype of an event.
abbrev pub ring_of : Event → ℕ
ring_of (marked t j) = t.ring
ring_of (summed t tag count) = t.ring

-- The lengths of the rings that are marked, and the sizes of all families.
unfoldable pub lengths : List Event → ℕ
lengths [] = 0
lengths (marked t j ∷ es) = t.family.long + lengths es
lengths (summed t tag count ∷ es) = lengths es

unfoldable pub sizes_of : List Event → ℕ
sizes_of [] = 0
sizes_of (marked t j ∷ es) = t.size + sizes_of es
sizes_of (summed t tag count ∷ es) = t.size + sizes_of es

lengths_cons : (e : Event) (es : List Event) → lengths (e ∷ es) ≡ lengths (e ∷ []) + lengths es
unfolding lengths
lengths_cons (Event.marked t j) es = omega arith
lengths_cons (Event.summed t tag count) es = omega arith

sizes_of_cons : (e : Event) (es : List Event) → sizes_of (e ∷ es) ≡ sizes_of (e ∷ []) + sizes_of es
unfolding sizes_of
sizes_of_cons (Event.marked t j) es = omega arith
sizes_of_cons (Event.summed t tag count) es = omega arith

-- ---- lengths

room_at : (rows tags pivots : List ℕ) (n : ℕ) → length rows ≡ 164 → length tags ≡ 164 → length pivots ≡ 82 → n < 82 → Room rows tags pivots (n + 1)
room_at rows tags pivots n a b d l = record { rows_fit = omega arith; tags_fit = omega arith; pivots_fit = omega arith }

-- ---- lists

span_snoc : (S M : List ℕ) (w : ℕ) {v : ℕ} → Span bond_sets (S ++ M) v → Span bond_sets (S ++ (M ++ (w ∷ []))) v
span_snoc S M w s = rw append_assoc at (left_of bond_sets (w ∷ []) s)

snoc_span : (S M : List ℕ) (w : ℕ) → Span bond_sets (S ++ (M ++ (w ∷ []))) w
snoc_span S M w = subst (λ (xs : List ℕ). Span bond_sets xs w) (append_assoc S M (w ∷ [])) (right_of bond_sets (S ++ M) (head bond_sets))

-- There is room for the candidate if it is to be marked.
abbrev pub Fits : Try → State → Type 0
Fits t st =
    (rest_short t.ring st ≡ 0 → ⊥) → (reduced st.rows st.pivots st.short st.marks (rest_short t.ring st) ≡ 0 → ⊥) → st.marks < 82

module _ (c : Compound) (rank pre : ℕ → ℕ) (ready : Ready c rank pre) where
  -- Every relevant ring of length k is an event's prototype, up to shorter rings.
  abbrev pub NearEvents : ℕ → List Event → Type 0
  NearEvents k es = (C : ℕ) → Relevant c C → len c C ≡ k → (e : Event) × (e ∈ es) × Shorter c k (bit_xor C (ring_of e))

  -- The prototype is the sum of rings of M, named by the tag from place `length S` on, and of rings of S.
  pub record Expanded (S M : List ℕ) (ring tag : ℕ) : Type 0 where
    pub small : tag < 2 ^ (length S + length M)
    pub high : tag ≡ tag / 2 ^ length S * 2 ^ length S
    pub remains : Span bond_sets S (bit_xor ring (Sum bond_sets (named_by M (tag / 2 ^ length S))))

  -- S are the shorter marked rings; M and N those of the length in hand, marked before and after the candidates.
  pub data Steps (S : List ℕ) : List ℕ → List Try → List ℕ → List Event → Type 0 where
    end : {M : List ℕ} → Steps S M [] M []
    passed : {M N : List ℕ} {t : Try} {ts : List Try} {es : List Event} → (Kept c rank t.family → ⊥) → Steps S M ts N es → Steps S M (t ∷ ts) N es
    marks : {M N : List ℕ} {t : Try} {ts : List Try} {es : List Event} → Prototype c rank t.family t.ring → Relevant c t.ring
        → (Span bond_sets (S ++ M) t.ring → ⊥) → Steps S (M ++ (t.ring ∷ [])) ts N es
        → Steps S M (t ∷ ts) N (marked t (length S + length M) ∷ es)
    sums : {M N : List ℕ} {t : Try} {ts : List Try} {es : List Event} {tag : ℕ} → Prototype c rank t.family t.ring → Relevant c t.ring
        → Expanded S M t.ring tag → Steps S M ts N es → Steps S M (t ∷ ts) N (summed t tag (length S + length M) ∷ es)

  -- The arrays have room for 82 marked rings.
  pub record Roomy (st : State) : Type 0 where
    pub rows : length st.rows ≡ 164
    pub tags : length st.tags ≡ 164
    pub pivots : length st.pivots ≡ 82
    pub labels : length st.labels ≡ 82
    pub holds : length st.holds ≡ 82

  -- The state before the candidates of length k: S are the marked rings, all shorter than k, and they span what shorter
  -- closed sets sum to.
  pub record Before (k : ℕ) (S : List ℕ) (st : State) : Type 0 where
    pub roomy : Roomy st
    pub marks : st.marks ≡ length S
    pub short : st.short ≡ length S
    pub reduction : Reduction st.rows st.tags st.pivots S
    pub independent : Indep bond_sets S
    pub spans : SpansShort bond_sets (len c) (Closed c) k S
    pub here : st.here ≡ []

  -- The state after them.
  pub record After (k : ℕ) (S : List ℕ) (tries : List Try) (st after : State) : Type 0 where
    pub M : List ℕ
    pub events : List Event
    pub steps : Steps S [] tries M events
    pub roomy : Roomy after
    pub marks : after.marks ≡ length S + length M
    pub short : after.short ≡ length S
    pub few : length S + length M ≤ 82
    pub reduction : Reduction after.rows after.tags after.pivots (S ++ M)
    pub independent : Indep bond_sets (S ++ M)
    pub spans : SpansShort bond_sets (len c) (Closed c) (k + 1) (S ++ M)
    pub long : All (λ C. len c C ≡ k) M
    pub near : NearEvents k events
    pub labels : after.labels ≡ through (label (length S)) events st.labels
    pub holds : after.holds ≡ through hold events st.holds
    pub total : after.total ≡ st.total + lengths events
    pub rings : after.rings ≡ st.rings + sizes_of events
    pub done : after.done ≡ st.done
    pub here : after.here ≡ map row_of events
    pub table : after.table ≡ st.table

  -- ---- one candidate

  -- Among the candidates: M are the rings of the length in hand that are marked so far.
  record Mid (S M : List ℕ) (st : State) : Type 0 where
    roomy : Roomy st
    marks : st.marks ≡ length (S ++ M)
    short : st.short ≡ length S
    reduction : Reduction st.rows st.tags st.pivots (S ++ M)
    closed : All (Closed c) (S ++ M)

  -- What events do to the state, beside the reduction.
  record Did (short : ℕ) (st after : State) (es : List Event) : Type 0 where
    labels : after.labels ≡ through (label short) es st.labels
    holds : after.holds ≡ through hold es st.holds
    total : after.total ≡ st.total + lengths es
    rings : after.rings ≡ st.rings + sizes_of es
    done : after.done ≡ st.done
    here : after.here ≡ st.here ++ map row_of es
    table : after.table ≡ st.table

  did_none : (short : ℕ) (st : State) → Did short st st []
  unfolding through lengths sizes_of
  did_none short st =
      record {
        labels = refl;
        holds = refl;
        total = omega arith;
        rings = omega arith;
        done = refl;
        here = sym (append-nil st.here);
        table = refl;
      }

  did_cons : {short : ℕ} {st mid after : State} {e : Event} {es : List Event} → Did short st mid (e ∷ []) → Did short mid after es
      → Did short st after (e ∷ es)
  unfolding through
  did_cons {short} {st} {e = e} {es = es} a b =
      record {
        labels = b.labels ∙ ap (through (label short) es) a.labels;
        holds = b.holds ∙ ap (through hold es) a.holds;
        total = omega (arith, a.total, b.total, lengths_cons e es);
        rings = omega (arith, a.rings, b.rings, sizes_of_cons e es);
        done = b.done ∙ a.done;
        here = b.here ∙ ap (λ (rows : List Row). rows ++ map row_of es) a.here ∙ append_assoc st.here (row_of e ∷ []) (map row_of es);
        table = b.table ∙ a.table;
      }

  mid_few : {S M : List ℕ} {st : State} → Mid S M st → length S + length M ≤ 82
  mid_few {S} {M} a =
      omega (
        arith,
        length-append S M,
        closed_few c ready.sound ready.one_piece ready.some ready.bonds (reduction_indep a.reduction) a.closed,
      )

  -- The high part of a tag.
  expanded_high : (S M : List ℕ) (ring s j u : ℕ) → s ≡ length S → j ≡ length (S ++ M) → u < 2 ^ j → ring ≡ combine (S ++ M) u
      → Expanded S M ring (u / 2 ^ s * 2 ^ s)
  expanded_high S M ring s j u e d l n = rw e (high (subst (λ (k : ℕ). u < 2 ^ k) (d ∙ length-append S M) l))
    where
      high : u < 2 ^ (length S + length M) → Expanded S M ring (u / 2 ^ length S * 2 ^ length S)
      high h =
          record {
            small = lt_of_le_of_lt (div-mul-le_self u (2 ^ length S)) h;
            high = ap (λ (q : ℕ). q * 2 ^ length S) (sym (shl-shr (u / 2 ^ length S) (length S)));
            remains =
                rw (shl-shr (u / 2 ^ length S) (length S))
                (rw (take-append_seam S M, drop-append_seam S M) at (remains_short (length S) (S ++ M) u ring n));
          }

  -- What is expanded is a sum of the marked rings.
  pub expanded_span : {S M : List ℕ} {ring tag : ℕ} → Expanded S M ring tag → Span bond_sets (S ++ M) ring
  unfolding bond_sets
  expanded_span {S} {M} {ring} {tag} x =
      let named = named_by M (tag / 2 ^ length S) in
      at bond_sets (xor_cancel ring (Sum bond_sets named))
      (add bond_sets (left_of bond_sets M x.remains) (right_of bond_sets S (from_part bond_sets (named_by_part M (tag / 2 ^ length S)))))

  module _ {S M : List ℕ} {st : State} (a : Mid S M st) where
    short_le : st.short ≤ length (S ++ M)
    short_le = omega (arith, a.short, length-append S M)

    short_marks : st.short ≤ st.marks
    short_marks = omega (arith, short_le, a.marks)

    rest_span_short : (v : ℕ) → rest_short v st ≡ 0 → Span bond_sets S v
    rest_span_short v z =
        subst (λ (xs : List ℕ). Span bond_sets xs v) (take_at S M st.short (sym a.short)) ((reduction_rest a.reduction st.short short_le v).spans z)

    span_rest_short : (v : ℕ) → Span bond_sets S v → rest_short v st ≡ 0
    span_rest_short v s =
        (reduction_rest a.reduction st.short short_le v).empty
        (subst (λ (xs : List ℕ). Span bond_sets xs v) (sym (take_at S M st.short (sym a.short))) s)

    marks_le : st.marks ≤ length (S ++ M)
    marks_le = omega (arith, a.marks)

    span_rest : (v : ℕ) → Span bond_sets (S ++ M) v → rest v st ≡ 0
    span_rest v s =
        (reduction_rest a.reduction st.marks marks_le v).empty
        (subst (λ (xs : List ℕ). Span bond_sets xs v) (sym (ap (λ (n : ℕ). take n (S ++ M)) a.marks ∙ take-length (S ++ M))) s)

  module _ {S M : List ℕ} {st : State} (a : Mid S M st) (t : Try) where
    sum_expanded : rest t.ring st ≡ 0 → Expanded S M t.ring (tag_long t.ring st)
    sum_expanded z =
        let r = reduction_rest a.reduction st.marks (marks_le a) t.ring in
        expanded_high S M t.ring st.short st.marks (names t.ring st) a.short a.marks r.below (r.names z)

    sum_mid : (tag : ℕ) → Mid S M (unmarked t.family t.size tag st)
    unfolding unmarked
    sum_mid tag =
        record {
          roomy = record {
            rows = a.roomy.rows;
            tags = a.roomy.tags;
            pivots = a.roomy.pivots;
            labels = joined_length st.short st.marks tag st.labels ∙ a.roomy.labels;
            holds = length-set st.holds _ _ ∙ a.roomy.holds;
          };
          marks = a.marks;
          short = a.short;
          reduction = a.reduction;
          closed = a.closed;
        }

    sum_did : (tag : ℕ) → Did (length S) st (unmarked t.family t.size tag st) (summed t tag (length S + length M) ∷ [])
    unfolding unmarked through lengths sizes_of
    sum_did tag =
        record {
          labels = ap₂ (λ (s j : ℕ). joined s j tag st.labels) a.short (a.marks ∙ length-append S M);
          holds = refl;
          total = omega arith;
          rings = omega arith;
          done = refl;
          here = refl;
          table = refl;
        }

    -- The state with one more marked ring.
    abbrev one_more : State
    one_more = pushed t.family t.size (rest t.ring st) (names t.ring st) st

    push_reduction : Closed c t.ring → (Span bond_sets (S ++ M) t.ring → ⊥) → length (S ++ M) < 82
        → Reduction one_more.rows one_more.tags one_more.pivots (S ++ (M ++ (t.ring ∷ [])))
    unfolding pushed
    push_reduction closed new few =
        subst
        (λ (j : ℕ). Reduction (put_row st.rows j (reduced st.rows st.pivots 0 j t.ring))
        (put_row st.tags j (pushed_tag j (used st.rows st.tags st.pivots 0 j t.ring 0)))
        (set st.pivots j (fresh_pivot (held_by st.rows j) (reduced st.rows st.pivots 0 j t.ring))) (S ++ (M ++ (t.ring ∷ []))))
        (sym a.marks)
        (rw append_assoc at
        (reduction_push_at a.reduction
        (room_at st.rows st.tags st.pivots (length (S ++ M)) a.roomy.rows a.roomy.tags a.roomy.pivots few) (omega arith) t.ring
        fits _ bond.holds bond.small))
      where
        fits : reduced st.rows st.pivots 0 (length (S ++ M)) t.ring < 2 ^ 128
        fits = reduction_rest_lt a.reduction (length (S ++ M)) (le_refl (length (S ++ M))) t.ring (closed_fits c ready.bonds closed)

        bond : Bond (reduced st.rows st.pivots 0 (length (S ++ M)) t.ring)
            (fresh_pivot (held_by st.rows (length (S ++ M))) (reduced st.rows st.pivots 0 (length (S ++ M)) t.ring))
        bond =
            pivot_bond (held_by st.rows (length (S ++ M))) _ fits
            (λ z. new (rw take-length at ((reduction_rest a.reduction (length (S ++ M)) (le_refl (length (S ++ M))) t.ring).spans z)))

    push_mid : Closed c t.ring → (Span bond_sets (S ++ M) t.ring → ⊥) → length (S ++ M) < 82 → Mid S (M ++ (t.ring ∷ [])) one_more
    unfolding pushed
    push_mid closed new few =
        record {
          roomy = record {
            rows = length_put_row st.rows _ _ ∙ a.roomy.rows;
            tags = length_put_row st.tags _ _ ∙ a.roomy.tags;
            pivots = length-set st.pivots _ _ ∙ a.roomy.pivots;
            labels = length-set st.labels _ _ ∙ a.roomy.labels;
            holds = length-set st.holds _ _ ∙ a.roomy.holds;
          };
          marks = omega (arith, a.marks, length-append (S ++ M) (t.ring ∷ []), ap length (append_assoc S M (t.ring ∷ [])));
          short = a.short;
          reduction = push_reduction closed new few;
          closed = rw append_assoc at (all_append a.closed (All.cons closed All.nil));
        }

    push_did : Did (length S) st one_more (marked t (length S + length M) ∷ [])
    unfolding pushed through lengths sizes_of
    push_did =
        let e : st.marks ≡ length S + length M = a.marks ∙ length-append S M in
        record {
          labels = ap (λ (j : ℕ). set st.labels j j) e;
          holds = ap (λ (j : ℕ). set st.holds j 1) e;
          total = omega arith;
          rings = omega arith;
          done = refl;
          here = ap (λ (j : ℕ). st.here ++ (record { family = t.family; mark = 1; class = j; size = t.size } ∷ [])) e;
          table = refl;
        }

    -- What happens to a candidate.
    data Step (after : State) : Type 0 where
      passed : (Kept c rank t.family → ⊥) → after ≡ st → Step after
      marks : Prototype c rank t.family t.ring → Relevant c t.ring → (Span bond_sets (S ++ M) t.ring → ⊥)
          → Mid S (M ++ (t.ring ∷ [])) after → Did (length S) st after (marked t (length S + length M) ∷ []) → Step after
      sums : {tag : ℕ} → Prototype c rank t.family t.ring → Relevant c t.ring → Expanded S M t.ring tag
          → Mid S M after → Did (length S) st after (summed t tag (length S + length M) ∷ []) → Step after

    module _ {k : ℕ} (h : SpansShort bond_sets (len c) (Closed c) k S) (l : t.family.long ≡ k) where
      new_few : Relevant c t.ring → (Span bond_sets (S ++ M) t.ring → ⊥) → length (S ++ M) < 82
      new_few r new =
          closed_few c ready.sound ready.one_piece ready.some ready.bonds (Indep.more new (reduction_indep a.reduction))
          (All.cons r.ring.closed a.closed)

      some_relevant : Prototype c rank t.family t.ring → (rest_short t.ring st ≡ 0 → ⊥) → Relevant c t.ring
      some_relevant p n =
          let t' = prototype_member c ready.sound rank p in
          no_sum_relevant c ready.sound (not_span_relevant bond_sets (len c) (Closed c) h t'.ring.closed (t'.long ∙ l)
          (λ s. n (span_rest_short a t.ring s)))

      relevant_step : Prototype c rank t.family t.ring → Relevant c t.ring
          → (rest_short t.ring st ≡ 0 → ⊥)
          → Dec (rest t.ring st ≡ 0) → Step (judge t st)
      relevant_step p r n (yes z) =
          subst Step (sym (judged_unmarked t.family t.size t.ring st n (short_marks a) z))
          (Step.sums p r (sum_expanded z) (sum_mid (tag_long t.ring st)) (sum_did (tag_long t.ring st)))
      relevant_step p r n (no some) =
          let new : Span bond_sets (S ++ M) t.ring → ⊥ = λ s. some (span_rest a t.ring s) in
          let few : length (S ++ M) < 82 = new_few r new in
          subst Step (sym (judged_marked t.family t.size t.ring st n (short_marks a) some (omega (arith, a.marks))))
          (Step.marks p r new (push_mid r.ring.closed new few) push_did)

      prototype_step : Prototype c rank t.family t.ring → Dec (rest_short t.ring st ≡ 0) → Step (judge t st)
      prototype_step p (yes z) =
          Step.passed
          (λ kept. relevant_not_span bond_sets (len c) (Closed c) h ((prototype_member c ready.sound rank p).long ∙ l)
          (relevant_no_sum c ready.sound (kept_prototype_relevant c ready.sound rank kept p)) (rest_span_short a t.ring z))
          (judged_passed t.family t.size t.ring st z)
      prototype_step p (no n) = relevant_step p (some_relevant p n) n (ℕ_discrete (rest t.ring st) 0)

      given_step : Given c rank pre (held ready) t.family t.ring → Step (judge t st)
      unfolding bond_sets
      given_step (Given.dropped z n) =
          Step.passed n
          (judged_passed t.family t.size t.ring st (span_rest_short a t.ring (at bond_sets (sym z) (zero bond_sets S))))
      given_step (Given.prototype p) = prototype_step p (ℕ_discrete (rest_short t.ring st) 0)

      given_fits : Given c rank pre (held ready) t.family t.ring → Fits t st
      unfolding bond_sets
      given_fits (Given.dropped z n) some new = absurd (some (span_rest_short a t.ring (at bond_sets (sym z) (zero bond_sets S))))
      given_fits (Given.prototype p) some new =
          let whole = reduced_on st.rows st.pivots 0 st.short zero-le t.ring st.marks (short_marks a) in
          omega (arith, new_few (some_relevant p some) (λ s. new (whole ∙ span_rest a t.ring s)), a.marks)

  -- ---- all candidates

  -- The state after the candidates ts, where M are marked before them.
  record Told (S M : List ℕ) (ts : List Try) (st after : State) : Type 0 where
    N : List ℕ
    events : List Event
    steps : Steps S M ts N events
    mid : Mid S N after
    did : Did (length S) st after events

  told_next : {S M : List ℕ} {t : Try} {ts : List Try} {st mid after : State} (a : Mid S M st) → Step a t mid
      → ((N : List ℕ) → Mid S N mid → Told S N ts mid after) → Told S M (t ∷ ts) st after
  told_next {S} {M} {after = after} a (Step.passed n e) next =
      let r = next M (subst (Mid S M) (sym e) a) in
      record {
        N = r.N;
        events = r.events;
        steps = Steps.passed n r.steps;
        mid = r.mid;
        did = subst (λ (s : State). Did (length S) s after r.events) e r.did;
      }
  told_next {S} {M} {t} a (Step.marks p r n b d) next =
      let s = next (M ++ (t.ring ∷ [])) b in
      record {
        N = s.N;
        events = marked t (length S + length M) ∷ s.events;
        steps = Steps.marks p r n s.steps;
        mid = s.mid;
        did = did_cons d s.did;
      }
  told_next {S} {M} {t} a (Step.sums {tag = tag} p r x b d) next =
      let s = next M b in
      record {
        N = s.N;
        events = summed t tag (length S + length M) ∷ s.events;
        steps = Steps.sums p r x s.steps;
        mid = s.mid;
        did = did_cons d s.did;
      }

  told : {k : ℕ} {S M : List ℕ} {st : State} {ts : List Try} → SpansShort bond_sets (len c) (Closed c) k S → Mid S M st → All (λ t. t.family.long ≡ k) ts
      → All (λ t. Given c rank pre (held ready) t.family t.ring) ts → Told S M ts st (through judge ts st)
  unfolding through
  told {S = S} {M = M} {st = st} h a All.nil All.nil =
      record { N = M; events = []; steps = Steps.end; mid = a; did = did_none (length S) st }
  told {k} {S} {M} {st} h a (All.cons {x = t} l ls) (All.cons g gs) = told_next a (given_step a t h l g) (λ N b. told {M = N} h b ls gs)

  begin : {k : ℕ} {S : List ℕ} {st : State} → Before k S st → Mid S [] st
  begin {k} {S} b =
      record {
        roomy = b.roomy;
        marks = b.marks ∙ ap length (sym (append-nil S));
        short = b.short;
        reduction = rw append-nil b.reduction;
        closed = rw append-nil (all_map (λ C p. p.0) b.spans.inside);
      }

  -- ---- another state that goes along

  step_mid : {S M : List ℕ} {t : Try} {st after : State} (a : Mid S M st) → Step a t after → (N : List ℕ) × Mid S N after
  step_mid {S} {M} a (Step.passed n e) = (M, subst (Mid S M) (sym e) a)
  step_mid {M = M} {t = t} a (Step.marks p r n b d) = (M ++ (t.ring ∷ []), b)
  step_mid {M = M} a (Step.sums p r x b d) = (M, b)

  module _ {Y : Type 0} (R : State → Y → Type 0) (step : Try → Y → Y)
      (turn : (t : Try) (st : State) (y : Y) → Fits t st → R st y → R (judge t st) (step t y)) where
    along : {k : ℕ} {S M : List ℕ} {st : State} {ts : List Try} (y : Y) → SpansShort bond_sets (len c) (Closed c) k S → Mid S M st
        → All (λ t. t.family.long ≡ k) ts → All (λ t. Given c rank pre (held ready) t.family t.ring) ts → R st y
        → R (through judge ts st) (through step ts y)
    unfolding through
    along y h a All.nil All.nil r = r
    along {M = M} {st = st} y h a (All.cons {x = t} l ls) (All.cons g gs) r =
        let (N, b) = step_mid a (given_step a t h l g) in along {M = N} (step t y) h b ls gs (turn t st y (given_fits a t h l g) r)

    -- What relates two states before and after each candidate that there is room for relates them after all candidates of a length.
    pub length_along : {k : ℕ} {S : List ℕ} {st : State} {tries : List Try} (y : Y) → Before k S st → Items c rank pre ready k tries → R st y
        → R (through judge tries st) (through step tries y)
    length_along y before items r = along y before.spans (begin before) items.long items.given r

  -- ---- what the steps say

  -- Each kept family among the candidates has its event.
  pub steps_listed : {S M N : List ℕ} {ts : List Try} {es : List Event} {f : Family} → Steps S M ts N es → Kept c rank f → f ∈ map (λ t. t.family) ts
      → (e : Event) × (e ∈ es) × Prototype c rank f (ring_of e)
  steps_listed end kept h = elim h [ ]
  steps_listed (Steps.passed n s) kept ◌∈◌.first = absurd (n kept)
  steps_listed (Steps.passed n s) kept (◌∈◌.later i) = steps_listed s kept i
  steps_listed (Steps.marks {M = M} {t = t} p r n s) kept ◌∈◌.first = (_, ◌∈◌.first, p)
  steps_listed (Steps.marks p r n s) kept (◌∈◌.later i) = let (e, j, q) = steps_listed s kept i in (e, ◌∈◌.later j, q)
  steps_listed (Steps.sums p r x s) kept ◌∈◌.first = (_, ◌∈◌.first, p)
  steps_listed (Steps.sums p r x s) kept (◌∈◌.later i) = let (e, j, q) = steps_listed s kept i in (e, ◌∈◌.later j, q)

  -- What is a sum of marked rings stays one.
  pub steps_more : {S M N : List ℕ} {ts : List Try} {es : List Event} {v : ℕ} → Steps S M ts N es → Span bond_sets (S ++ M) v → Span bond_sets (S ++ N) v
  steps_more Steps.end w = w
  steps_more (Steps.passed n s) w = steps_more s w
  steps_more {S} (Steps.marks {M = M} {t = t} p r n s) w = steps_more s (span_snoc S M t.ring w)
  steps_more (Steps.sums p r x s) w = steps_more s w

  -- In the end the prototype of each event is a sum of marked rings.
  pub steps_spanned : {S M N : List ℕ} {ts : List Try} {es : List Event} → Steps S M ts N es → All (Span bond_sets (S ++ N)) (map ring_of es)
  steps_spanned Steps.end = All.nil
  steps_spanned (Steps.passed n s) = steps_spanned s
  steps_spanned {S} (Steps.marks {M = M} {t = t} p r n s) = All.cons (steps_more s (snoc_span S M t.ring)) (steps_spanned s)
  steps_spanned (Steps.sums p r x s) = All.cons (steps_more s (expanded_span x)) (steps_spanned s)

  -- The marked rings have the length of the candidates.
  pub steps_long : {k : ℕ} {S M N : List ℕ} {ts : List Try} {es : List Event} → Steps S M ts N es → All (λ t. t.family.long ≡ k) ts
      → All (λ C. len c C ≡ k) M → All (λ C. len c C ≡ k) N
  steps_long Steps.end ls a = a
  steps_long (Steps.passed n s) (All.cons l ls) a = steps_long s ls a
  steps_long (Steps.marks p r n s) (All.cons l ls) a =
      steps_long s ls (all_append a (All.cons ((prototype_member c ready.sound rank p).long ∙ l) All.nil))
  steps_long (Steps.sums p r x s) (All.cons l ls) a = steps_long s ls a

  -- If all that may be kept is tried, each relevant ring is near an event.
  pub steps_near : {k : ℕ} {S M N : List ℕ} {tries : List Try} {es : List Event} → Covered c rank → Items c rank pre ready k tries → Steps S M tries N es
      → NearEvents k es
  steps_near {k} covered items s C r l =
      let (f, kept, member) = covered C r in
      let long : f.long ≡ k = sym member.long ∙ l in
      let (e, i, p) = steps_listed s kept (items.all f kept long) in
      (e, i, subst (λ (n : ℕ). Shorter c n (bit_xor C (ring_of e))) long (member_differ_shorter c ready.sound rank member p))

  near_events : {k : ℕ} {es : List Event} → NearEvents k es → (C : ℕ) → Relevant c C → len c C ≡ k → Near bond_sets (len c) (Closed c) k (map ring_of es) C
  unfolding bond_sets
  near_events near C r l = let (e, i, d) = near C r l in record { one = ring_of e; listed = in_map ring_of i; near = shorter_short c d }

  -- From the state before a length to the state after it.
  pub length_told : (k : ℕ) (S : List ℕ) (st : State) (tries : List Try) → Covered c rank → Before k S st → Items c rank pre ready k tries
      → After k S tries st (through judge tries st)
  length_told k S st tries covered before items =
      let t = told before.spans (begin before) items.long items.given in
      let near : NearEvents k t.events = steps_near covered items t.steps in
      let long : All (λ C. len c C ≡ k) t.N = steps_long t.steps items.long All.nil in
      record {
        M = t.N;
        events = t.events;
        steps = t.steps;
        roomy = t.mid.roomy;
        marks = t.mid.marks ∙ length-append S t.N;
        short = t.mid.short;
        few = mid_few t.mid;
        reduction = t.mid.reduction;
        independent = reduction_indep t.mid.reduction;
        spans =
            rw (add-one k)
            (level_step bond_sets (len c) (Closed c) before.spans
            (λ C r l. near_events near C (no_sum_relevant c ready.sound r) l)
            (all_and (all_right S t.N t.mid.closed) long) (steps_spanned t.steps));
        long = long;
        near = near;
        labels = t.did.labels;
        holds = t.did.holds;
        total = t.did.total;
        rings = t.did.rings;
        done = t.did.done;
        here = t.did.here ∙ ap (λ (rows : List Row). rows ++ map row_of t.events) before.here;
        table = t.did.table;
      }

  -- The marks of the rows are right, whatever their classes.
  pub steps_marks : {S M N : List ℕ} {ts : List Try} {es : List Event} (rows : List Row) → Steps S M ts N es
      → map (λ row. row.family) rows ≡ map (λ e. (row_of e).family) es → map (λ row. row.mark) rows ≡ map (λ e. (row_of e).mark) es
      → Marks c rank (S ++ M) rows (S ++ N)
  steps_marks rows (Steps.passed n s) f g = steps_marks rows s f g
  steps_marks [] Steps.end f g = Marks.end
  steps_marks (row ∷ rows) Steps.end f g = absurd (cons≢nil f)
  steps_marks [] (Steps.marks p r n s) f g = absurd (cons≢nil (sym f))
  steps_marks {S} (row ∷ rows) (Steps.marks {M = M} {N = N} {t = t} p r n s) f g =
      let after : Marks c rank ((S ++ M) ++ (t.ring ∷ [])) rows (S ++ N) = rw append_assoc (steps_marks rows s (tail-eq_of_cons-eq f) (tail-eq_of_cons-eq g)) in
      Marks.marked (subst (λ (h : Family). Prototype c rank h t.ring) (sym (head-eq_of_cons-eq f)) p)
      (λ (part, q, d). n (at bond_sets d (from_part bond_sets q))) (head-eq_of_cons-eq g) after
  steps_marks [] (Steps.sums p r x s) f g = absurd (cons≢nil (sym f))
  steps_marks (row ∷ rows) (Steps.sums {t = t} p r x s) f g =
      Marks.unmarked (subst (λ (h : Family). Prototype c rank h t.ring) (sym (head-eq_of_cons-eq f)) p) (to_part bond_sets (expanded_span x)) (head-eq_of_cons-eq g)
      (steps_marks rows s (tail-eq_of_cons-eq f) (tail-eq_of_cons-eq g))
