-- Marking, shortest first, what is no sum of those marked before: the marked ones are a minimum basis.
use mathlib.Core.Path.{◌≡◌, refl, sym, ap, subst}
use mathlib.Core.List.{List, [], ◌∷◌, ◌++◌}
use mathlib.Core.HLevel.{dec→stable}
use Prim.Native.Nat.{ℕ, zero, suc, ◌<◌, ◌≤◌}
use native.Mathlib.Omega.{arith}
use native.Mathlib.Decide.{dec_lt}
use lib.ListN.{length}
use Rattle.spans.specs.Elements.{◌∈◌}
use Rattle.spans.specs.Group.{Space}
use Rattle.spans.specs.Basis.{Part, All, Sum, Basis}
use Rattle.spans.specs.Graded.{below, Graded, Minimum}
use Rattle.spans.proofs.Xor.{undo, right, xor}
use Rattle.spans.proofs.Lists.{all_head, all_tail, part_all, part_refl, part_trans, all_map, all_and, all_append, perm_comm}
use Rattle.spans.proofs.Span.{Span, at, add, head, span_dec, through, own, mono, left_of, right_of, sum_in}
use Rattle.spans.proofs.Indep.{Indep, indep_perm}
use Rattle.spans.proofs.Steinitz.{spanned, spans, fills}
use Rattle.spans.proofs.Graded.{split, split_part, split_low, graded_minimum}
use Rattle.spans.proofs.Sift.{Sift}
use Rattle.spans.proofs.Minimum.{basis}
use Rattle.spans.proofs.Short.{Short, Relevant, SpansShort, short_one, short_add, short_mono, short_at, short_span, span_short}
use Rattle.spans.proofs.Short.{sum_append, not_span_relevant}

module _ {X : Type 0} where
  -- What holds of all elements holds of each.
  pub all_element : {P : X → Type 0} {x : X} {xs : List X} → All P xs → x ∈ xs → P x
  all_element All.nil i = elim i [ ]
  all_element (All.cons a r) ◌∈◌.first = a
  all_element (All.cons a r) (◌∈◌.later i) = all_element r i

  -- The front of a list is a part of it.
  pub part_front : (xs ys : List X) → Part (xs ++ ys) xs
  part_front [] [] = Part.nil
  part_front [] (y ∷ ys) = Part.skip (part_front [] ys)
  part_front (x ∷ xs) ys = Part.keep (part_front xs ys)

module _ {X : Type 0} (ℓ : X → ℕ) where
  -- Each element is at most as long as those after it.
  pub data Rising : List X → Type 0 where
    nil : Rising []
    cons : {x : X} {xs : List X} → All (λ z. ℓ x ≤ ℓ z) xs → Rising xs → Rising (x ∷ xs)

module _ {X : Type 0} (G : Space X) where
  -- From those marked before, along the list: what they do not span is marked too.
  pub data Marking : List X → List X → List X → Type 0 where
    end : {before : List X} → Marking before [] before
    mark : {before after ps : List X} {p : X} → ¬ Span G before p → Marking (before ++ (p ∷ [])) ps after → Marking before (p ∷ ps) after
    skip : {before after ps : List X} {p : X} → Span G before p → Marking before ps after → Marking before (p ∷ ps) after

  -- What is marked stays marked.
  pub marking_kept : {before ps after : List X} → Marking before ps after → Part after before
  marking_kept (Marking.end {before = before}) = part_refl before
  marking_kept (Marking.mark {before = before} {p = p} n m) = part_trans (marking_kept m) (part_front before (p ∷ []))
  marking_kept (Marking.skip s m) = marking_kept m

  -- The marked ones are independent.
  pub marking_indep : {before ps after : List X} → Marking before ps after → Indep G before → Indep G after
  marking_indep Marking.end i = i
  marking_indep (Marking.mark {before = before} {p = p} n m) i = marking_indep m (indep_perm G (perm_comm (p ∷ []) before) (Indep.more n i))
  marking_indep (Marking.skip s m) i = marking_indep m i

  -- What holds of the list holds of the marked ones.
  pub marking_all : {P : X → Type 0} {before ps after : List X} → Marking before ps after → All P before → All P ps → All P after
  marking_all Marking.end b a = b
  marking_all (Marking.mark n m) b (All.cons a r) = marking_all m (all_append b (All.cons a All.nil)) r
  marking_all (Marking.skip s m) b (All.cons a r) = marking_all m b r

  module _ (ℓ : X → ℕ) where
    low_own : {k : ℕ} {xs ys : List X} → Sift (λ x. ℓ x < k) xs ys → All (λ x. ℓ x < k → Span G ys x) xs
    low_own Sift.nil = All.nil
    low_own (Sift.inn p s) = All.cons (λ h. head G) (all_map (λ x f h. Span.skip (f h)) (low_own s))
    low_own (Sift.out n s) = All.cons (λ h. absurd (n h)) (low_own s)

    reach : {M zs : List X} {p : X} → Part M zs → All (λ z. ℓ z ≤ ℓ p) zs → Span G zs p → Span G (below ℓ (suc (ℓ p)) M) p
    reach {M} {p} q a s =
        through G (all_map (λ z h. h.0 (omega (arith, h.1))) (all_and (part_all q (low_own (split ℓ (suc (ℓ p)) M))) a)) s

    -- Each element of the list is a sum of marked ones that are not longer.
    pub marking_reach : {before ps M : List X} → Marking before ps M → Rising ℓ ps → All (λ b. All (λ p. ℓ b ≤ ℓ p) ps) before
        → All (λ p. Span G (below ℓ (suc (ℓ p)) M) p) ps
    marking_reach Marking.end r a = All.nil
    marking_reach (Marking.mark {before = before} {p = p} n m) (Rising.cons h r) a =
        let b = all_append (all_map (λ z f. all_tail f) a) (All.cons h All.nil) in
        All.cons
        (reach (marking_kept m) (all_append (all_map (λ z f. all_head f) a) (All.cons (omega arith) All.nil)) (right_of G before (head G)))
        (marking_reach m r b)
    marking_reach (Marking.skip s m) (Rising.cons h r) a =
        All.cons (reach (marking_kept m) (all_map (λ z f. all_head f) a) s) (marking_reach m r (all_map (λ z f. all_tail f) a))

module _ {X : Type 0} (G : Space X) (ℓ : X → ℕ) (W : X → Type 0) where
  open G use {o, ◌⊕◌, self}

  -- One of the list is x, but for a sum of elements shorter than k.
  pub record Near (k : ℕ) (ps : List X) (x : X) : Type 0 where
    pub one : X
    pub listed : one ∈ ps
    pub near : Short G ℓ W k (x ⊕ one)

  -- One of the list has the length of x and is x, but for a sum of shorter elements.
  pub record Prototype (ps : List X) (x : X) : Type 0 where
    pub one : X
    pub listed : one ∈ ps
    pub same : ℓ one ≡ ℓ x
    pub near : Short G ℓ W (ℓ x) (x ⊕ one)

  -- Each relevant element has a prototype in the list.
  pub record Complete (ps : List X) : Type 0 where
    pub prototype : (x : X) → Relevant G ℓ W x → Prototype ps x

  -- x is a sum of elements of the list that are no longer than k, but for a sum of elements shorter than k.
  pub record Covered (k : ℕ) (ps : List X) (x : X) : Type 0 where
    pub parts : List X
    pub listed : All (λ p. (p ∈ ps) × (ℓ p ≤ k)) parts
    pub near : Short G ℓ W k (x ⊕ Sum G parts)

  -- Each relevant element is a sum of elements of the list that are no longer, but for a sum of shorter elements.
  pub record Covering (ps : List X) : Type 0 where
    pub covered : (x : X) → Relevant G ℓ W x → Covered (ℓ x) ps x

  near_none : (x e : X) → e ≡ o → x ≡ x ⊕ e
  near_none x e z = rw z (sym (right G x))

  near_one : (x p s : X) → s ≡ p ⊕ o → x ⊕ p ≡ x ⊕ s
  near_one x p s e = rw e (ap (λ (u : X). x ⊕ u) (sym (right G p)))

  near_both : (x y s t u : X) → u ≡ s ⊕ t → (x ⊕ s) ⊕ (y ⊕ t) ≡ (x ⊕ y) ⊕ u
  near_both x y s t u e = rw e (simp (xor, G))

  -- A sum of elements shorter than k is covered by none of the list.
  pub covered_short : {k : ℕ} {ps : List X} {x : X} → Short G ℓ W k x → Covered k ps x
  unfolding Sum
  covered_short {x} s = record { parts = []; listed = All.nil; near = short_at G ℓ W (near_none x (Sum G []) refl) s }

  -- What is near one of the list is covered by it.
  pub covered_near : {k : ℕ} {ps : List X} {x p : X} → p ∈ ps → ℓ p ≤ k → Short G ℓ W k (x ⊕ p) → Covered k ps x
  unfolding Sum
  covered_near {x} {p} i h s =
      record { parts = p ∷ []; listed = All.cons (i, h) All.nil; near = short_at G ℓ W (near_one x p (Sum G (p ∷ [])) refl) s }

  -- One of the list is covered by itself.
  pub covered_one : {k : ℕ} {ps : List X} {p : X} → p ∈ ps → ℓ p ≤ k → Covered k ps p
  unfolding Sum
  covered_one {p} i h = covered_near i h (record { parts = []; short = All.nil; sum = sym (self p) })

  -- Sums of what is covered are covered.
  pub covered_add : {k : ℕ} {ps : List X} {x y : X} → Covered k ps x → Covered k ps y → Covered k ps (x ⊕ y)
  covered_add {x} {y} s t = record {
    parts = s.parts ++ t.parts;
    listed = all_append s.listed t.listed;
    near = short_at G ℓ W (near_both x y (Sum G s.parts) (Sum G t.parts) (Sum G (s.parts ++ t.parts)) (sum_append G s.parts t.parts))
        (short_add G ℓ W s.near t.near);
  }

  -- The same for an equal element.
  pub covered_at : {k : ℕ} {ps : List X} {x y : X} → x ≡ y → Covered k ps x → Covered k ps y
  covered_at {k} {ps} e s = subst (Covered k ps) e s

  -- What has prototypes is covered.
  pub complete_covering : {ps : List X} → Complete ps → Covering ps
  complete_covering c =
      record { covered = λ x r. let t = c.prototype x r in covered_near t.listed (omega (arith, t.same)) t.near }

  -- No element of W is shorter than nothing.
  pub spans_short_zero : (S : List X) → All (λ w. W w × (ℓ w < 0)) S → SpansShort G ℓ W 0 S
  spans_short_zero S a = record { inside = a; spans = λ v s. short_span G ℓ W (λ w i h. absurd (omega arith)) s }

  module _ {k : ℕ} {S T : List X} (h : SpansShort G ℓ W k S) (a : All (λ w. W w × (ℓ w < suc k)) T) (s : All (Span G T) S)
      (f : (x : X) → Relevant G ℓ W x → ℓ x ≡ k → Span G T x) where
    same_long : (w : X) → W w → ℓ w ≡ k → Dec (Span G S w) → Span G T w
    same_long w i e (yes t) = through G s t
    same_long w i e (no n) = f w (not_span_relevant G ℓ W h i e n) e

    each : (w : X) → W w → ℓ w < suc k → Dec (ℓ w < k) → Span G T w
    each w i l (yes t) = through G s (h.spans w (short_one G ℓ W i t))
    each w i l (no n) = same_long w i (omega arith) (span_dec G S w)

    -- From one length to the next: it is enough to span the relevant elements of that length.
    pub next_spans_short : SpansShort G ℓ W (suc k) T
    next_spans_short = record { inside = a; spans = λ v t. short_span G ℓ W (λ w i l. each w i l (dec_lt (ℓ w) k)) t }

  -- x is spanned if its prototype and the difference are.
  near_span : {k : ℕ} {T : List X} (x p : X) → ((v : X) → Short G ℓ W k v → Span G T v) → Short G ℓ W k (x ⊕ p) → Span G T p → Span G T x
  near_span x p f d s = at G (undo G x p) (add G (f (x ⊕ p) d) s)

  -- From one length to the next: what spans the shorter sums and the prototypes of length k spans the sums of length at most k.
  pub level_step : {k : ℕ} {S ps M : List X} → SpansShort G ℓ W k S
      → ((x : X) → Relevant G ℓ W x → ℓ x ≡ k → Near k ps x)
      → All (λ w. W w × (ℓ w ≡ k)) M → All (Span G (S ++ M)) ps → SpansShort G ℓ W (suc k) (S ++ M)
  level_step {k} {S} {ps} {M} h f a c =
      next_spans_short h
      (all_append (all_map (λ w p. (p.0, omega (arith, p.1))) h.inside) (all_map (λ w p. (p.0, omega (arith, p.1))) a))
      (all_map (λ v t. left_of G M t) (own G S))
      (λ x r e. let n = f x r e in near_span x n.one (λ v t. left_of G M (h.spans v t)) n.near (all_element c n.listed))

  module _ {ps M : List X} (c : Covering ps) (r : Rising ℓ ps) (a : All W ps) (m : Marking G [] ps M) where
    marked_inside : All W M
    marked_inside = marking_all G m All.nil a

    low_inside : (k : ℕ) → All (λ w. W w × (ℓ w < k)) (below ℓ k M)
    low_inside k = all_and (part_all (split_part ℓ (split ℓ k M)) marked_inside) (split_low ℓ (split ℓ k M))

    low_low : {j k : ℕ} → j ≤ k → All (Span G (below ℓ k M)) (below ℓ j M)
    low_low {j} {k} l =
        all_map (λ x h. h.0 (omega (arith, h.1)))
        (all_and (part_all (split_part ℓ (split ℓ j M)) (low_own G ℓ (split ℓ k M))) (split_low ℓ (split ℓ j M)))

    spans_listed : (k : ℕ) (p : X) → (p ∈ ps) × (ℓ p ≤ k) → Span G (below ℓ (suc k) M) p
    spans_listed k p (i, h) = through G (low_low (omega arith)) (all_element (marking_reach G ℓ m r All.nil) i)

    spans_covered : {k : ℕ} {x : X} → SpansShort G ℓ W k (below ℓ k M) → Covered k ps x → Span G (below ℓ (suc k) M) x
    spans_covered {k} {x} h t =
        near_span x (Sum G t.parts) (λ v u. through G (low_low (omega arith)) (h.spans v u)) t.near
        (through G (all_map (spans_listed k) t.listed) (sum_in G t.parts))

    -- The marked ones that are shorter than k span the sums of elements shorter than k.
    pub marking_spans_short : (k : ℕ) → SpansShort G ℓ W k (below ℓ k M)
    marking_spans_short zero = spans_short_zero (below ℓ 0 M) (low_inside 0)
    marking_spans_short (suc k) =
        let h = marking_spans_short k in
        next_spans_short h (low_inside (suc k)) (low_low (omega arith))
        (λ x q e. spans_covered h (subst (λ (n : ℕ). Covered n ps x) e (c.covered x q)))

    -- The marked ones that are shorter than k span what is shorter than k.
    pub marking_graded : Graded G ℓ W M
    marking_graded = record { spans = λ k. spans G (λ s w. (marking_spans_short k).spans s (short_one G ℓ W w.0 w.1)) }

    -- The ones marked from a covering list are a minimum basis.
    pub covering_minimum : Minimum G ℓ W M
    covering_minimum =
        graded_minimum G ℓ W
        (basis G W marked_inside (marking_indep G m Indep.none)
        (λ s w. mono G (split_part ℓ (split ℓ (suc (ℓ s)) M)) (spanned G (marking_graded.spans (suc (ℓ s))) s (w, omega arith))))
        marking_graded

  -- The ones marked from a list with a prototype of each relevant element are a minimum basis.
  pub marking_minimum : {ps M : List X} → Complete ps → Rising ℓ ps → All (Relevant G ℓ W) ps → Marking G [] ps M → Minimum G ℓ W M
  marking_minimum c r a m = covering_minimum (complete_covering c) r (all_map (λ x p. p.inside) a) m

  -- As many independent elements as a basis has: nothing of length k or more is relevant.
  pub full_stops : {k : ℕ} {S B : List X} {x : X}
      → Indep G S → SpansShort G ℓ W k S → Basis G W B → length S ≡ length B → Relevant G ℓ W x → ℓ x < k
  full_stops {k} {S} {x} i h b e r = dec→stable (dec_lt (ℓ x) k) (λ n. r.alone (short_mono G ℓ W (omega arith) short))
    where
      short : Short G ℓ W k x
      short =
          span_short G ℓ W h.inside
          (fills G i (all_map (λ w p. spanned G b.spans w p.0) h.inside) e (spanned G b.spans x r.inside))
