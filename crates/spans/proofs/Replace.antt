-- Two relevant elements replace each other in some minimum basis if and only if they are interchangeable over the shorter ones.
use mathlib.Core.Path.{◌≡◌, refl, sym, ◌∙◌}
use mathlib.Core.List.{List, [], ◌∷◌, ◌++◌, append_assoc}
use Prim.Native.Nat.{ℕ, suc, ◌+◌, ◌<◌, ◌≤◌}
use native.Mathlib.Omega.{arith}
use native.Mathlib.Decide.{ℕ_discrete}
use lib.ListN.{length, length-append}
use Rattle.spans.specs.Group.{Space}
use Rattle.spans.specs.Basis.{All, Sum, Basis}
use Rattle.spans.specs.Graded.{keep_if, total, below, Minimum}
use Rattle.spans.proofs.Xor.{xor}
use Rattle.spans.proofs.Lists.{all_head, all_tail, part_all, all_map, all_and, all_append, all_left, all_right, all_perm}
use Rattle.spans.proofs.Lists.{Perm, perm_sym, perm_front, perm_left, perm_right, perm_blocks, pick_perm, all_pick}
use Rattle.spans.proofs.Span.{Span, at, add, sum_in, through, own, own_part, left_of, right_of, span_perm, uses}
use Rattle.spans.proofs.Indep.{Indep, indep_fresh, span_over, indep_over, first, indep_perm, indep_right, Extended, extend}
use Rattle.spans.proofs.Steinitz.{steinitz, spanned}
use Rattle.spans.proofs.Interchange.{Swap, swap_up_to}
use Rattle.spans.proofs.Graded.{split, split_part, split_low, split_long, total_perm}
use Rattle.spans.proofs.Minimum.{basis, basis_indep, basis_perm, basis_swap, minimum_graded}
use Rattle.spans.proofs.Classes.{Level}
use Rattle.spans.proofs.Profile.{exact, own_level}
use Rattle.spans.proofs.Short.{Short, Relevant, SpansShort, short_one, span_short, relevant_not_span, not_span_relevant, minimum_spans_short, minimum_perm}

module _ {X : Type 0} (ℓ : X → ℕ) where
  -- An element of length k comes first among those of length k.
  pub exact_first : {k : ℕ} (x : X) (xs : List X) → ℓ x ≡ k → exact ℓ k (x ∷ xs) ≡ x ∷ exact ℓ k xs
  unfolding exact keep_if
  exact_first {k} x xs e = go (ℕ_discrete (ℓ x) k)
    where
      go : (d : Dec (ℓ x ≡ k)) → keep_if d x (exact ℓ k xs) ≡ x ∷ exact ℓ k xs
      go (yes p) = refl
      go (no n) = absurd (n e)

  -- The total length of two lists.
  pub total_append : (xs ys : List X) → total ℓ (xs ++ ys) ≡ total ℓ xs + total ℓ ys
  unfolding total
  total_append [] ys = omega arith
  total_append (x ∷ xs) ys = omega (arith, total_append xs ys)

  total_same : {k : ℕ} {xs ys : List X} → All (λ x. ℓ x ≡ k) xs → All (λ x. ℓ x ≡ k) ys → length xs ≡ length ys → total ℓ xs ≡ total ℓ ys
  unfolding total
  total_same All.nil All.nil e = refl
  total_same All.nil (All.cons b s) e = absurd (omega arith)
  total_same (All.cons a r) All.nil e = absurd (omega arith)
  total_same (All.cons a r) (All.cons b s) e = let t = total_same r s (omega arith) in omega arith

  -- A list by length: longer than k, of length k, shorter than k.
  pub record Layers (k : ℕ) (B : List X) : Type 0 where
    pub long : List X
    pub mid : List X
    pub low : List X
    pub perm : Perm B (long ++ (mid ++ low))
    pub longer : All (λ x. ¬ (ℓ x < suc k)) long
    pub same : All (λ x. ℓ x ≡ k) mid
    pub shorter : All (λ x. ℓ x < k) low

  -- Each list falls into such layers.
  pub layers : (k : ℕ) (B : List X) → Layers k B
  layers k B =
      let l = split_long ℓ (split ℓ (suc k) B) in
      let m = split_long ℓ (split ℓ k (below ℓ (suc k) B)) in
      record {
        long = l.long;
        mid = m.long;
        low = below ℓ k (below ℓ (suc k) B);
        perm = Perm.trans l.perm (perm_left l.long m.perm);
        longer = l.high;
        same = all_map (λ x p. omega (arith, p.0, p.1)) (all_and m.high (all_left m.long _ (all_perm m.perm (split_low ℓ (split ℓ (suc k) B)))));
        shorter = split_low ℓ (split ℓ k (below ℓ (suc k) B));
      }

module _ {X : Type 0} (G : Space X) where
  open G use {◌⊕◌, assoc}

  module _ {P : X → Type 0} {S : List X} where
    -- x stands for y if y and the others span it, and the others alone do not.
    pub exchange_swap : (E : List X) {x y : X} → All P E → Indep G (y ∷ (E ++ S)) → ¬ Span G (E ++ S) x → Span G (y ∷ (E ++ S)) x → Swap G P S x y
    unfolding Sum
    exchange_swap E a i n (Span.skip s) = absurd (n s)
    exchange_swap E a i n (Span.take s) = swap_up_to G P S E a i s

module _ {X : Type 0} (G : Space X) (ℓ : X → ℕ) (W : X → Type 0) where
  open G use {◌⊕◌}

  -- Relevant, and of length k.
  abbrev pub RelevantOf : ℕ → X → Type 0
  RelevantOf k x = Relevant G ℓ W x × (ℓ x ≡ k)

  -- Two lists that span the sums of elements shorter than k have one span.
  pub spans_short_agree : {k : ℕ} {S T : List X} → SpansShort G ℓ W k S → SpansShort G ℓ W k T → (v : X) → Span G T v → Span G S v
  spans_short_agree h t v s = h.spans v (span_short G ℓ W t.inside s)

  -- A minimum basis in which x can be replaced by y.
  pub record Replaces (x y : X) : Type 0 where
    pub before : List X
    pub after : List X
    pub holds : Minimum G ℓ W (before ++ (x ∷ after))
    pub replaced : Minimum G ℓ W (before ++ (y ∷ after))

  front_same_length : {x y : X} {R : List X} → Minimum G ℓ W (x ∷ R) → Minimum G ℓ W (y ∷ R) → ℓ x ≡ ℓ y
  unfolding total
  front_same_length {x} {y} {R} m n = omega (arith, m.least (y ∷ R) n.basis, n.least (x ∷ R) m.basis)

  -- Elements that replace each other are equally long.
  pub replace_same_length : (before : List X) {x y : X} (after : List X)
      → Minimum G ℓ W (before ++ (x ∷ after)) → Minimum G ℓ W (before ++ (y ∷ after)) → ℓ x ≡ ℓ y
  replace_same_length before {x} {y} after m n =
      front_same_length (minimum_perm G ℓ W (perm_front before x after) m) (minimum_perm G ℓ W (perm_front before y after) n)

  -- One element of a minimum basis leaves for another that uses it and is not longer.
  pub minimum_swap : {x y : X} {R : List X} → Minimum G ℓ W (y ∷ R) → W x → ℓ x ≤ ℓ y → Span G R (x ⊕ y) → Minimum G ℓ W (x ∷ R)
  unfolding total
  minimum_swap m w h s = record { basis = basis_swap G W m.basis w s; least = λ C c. omega (arith, m.least C c) }

  -- A relevant element that is a sum of members of a minimum basis can stand in the place of one of these.
  pub summed_replaces : {P : X → Type 0} {x : X} (front rest : List X)
      → Minimum G ℓ W (front ++ rest) → Relevant G ℓ W x → Span G front x → All P front → (y : X) × P y × Replaces y x
  summed_replaces {x} front rest m r s a =
      let d = split ℓ (ℓ x) front in
      let l = split_long ℓ d in
      let low = below ℓ (ℓ x) front in
      let short = all_and (part_all (split_part ℓ d) (all_left front rest m.basis.inside)) (split_low ℓ d) in
      let u = uses G l.long low x (span_perm G l.perm s) (λ t. r.alone (span_short G ℓ W short t)) in
      let n = minimum_perm G ℓ W (perm_right rest (Perm.trans l.perm (pick_perm low u.pick))) m in (
        u.one,
        all_pick u.pick (all_left l.long low (all_perm l.perm a)),
        record {
          before = [];
          after = (u.others ++ low) ++ rest;
          holds = n;
          replaced = minimum_swap n r.inside (omega (arith, all_pick u.pick l.high)) (left_of G rest u.remains);
        },
      )

  -- What stands behind the elements of length j or more of a minimum basis spans the sums of elements shorter than j.
  tail_spans_short : {j : ℕ} {B T : List X} (long : List X) → Minimum G ℓ W B → Perm B (long ++ T)
      → All (λ x. ¬ (ℓ x < j)) long → All (λ x. ℓ x < j) T → SpansShort G ℓ W j T
  tail_spans_short {j} {B} {T} long m p a b =
      let s = split ℓ j B in
      let f : All (λ x. ℓ x < j → Span G T x) B =
      all_perm (perm_sym p) (all_append (all_map (λ x n l. absurd (n l)) a) (all_map (λ x t l. t) (own G T))) in
      let low : All (Span G T) (below ℓ j B) = all_map (λ x q. q.0 q.1) (all_and (part_all (split_part ℓ s) f) (split_low ℓ s)) in
      record {
        inside = all_and (all_right long T (all_perm p m.basis.inside)) b;
        spans = λ v t. through G low ((minimum_spans_short G ℓ W m j).spans v t);
      }

  -- L and some others are a minimum basis, and the others span what low spans.
  pub record Held (L low : List X) : Type 0 where
    pub others : List X
    pub minimum : Minimum G ℓ W (L ++ others)
    pub reach : (v : X) → Span G low v → Span G others v

  module _ {k : ℕ} {B L : List X} (m : Minimum G ℓ W B) (l : Layers ℓ k B) (a : All (λ x. W x × (ℓ x ≡ k)) L) (i : Indep G (L ++ l.low)) where
    b : Basis G W (l.long ++ (l.mid ++ l.low))
    b = basis_perm G W l.perm m.basis

    e : Extended G (L ++ l.low) l.mid
    e = extend G l.mid i

    reached : SpansShort G ℓ W (suc k) (l.mid ++ l.low)
    reached =
        tail_spans_short l.long m l.perm l.longer
        (all_append (all_map (λ x p. omega arith) l.same) (all_map (λ x p. omega arith) l.shorter))

    forth : All (Span G (l.mid ++ l.low)) (e.new ++ (L ++ l.low))
    forth =
        all_append (all_map (λ v t. left_of G l.low t) (own_part G e.chosen))
        (all_append (all_map (λ x p. reached.spans x (short_one G ℓ W p.0 (omega (arith, p.1)))) a) (all_map (λ v t. right_of G l.mid t) (own G l.low)))

    back : All (Span G (e.new ++ (L ++ l.low))) (l.mid ++ l.low)
    back = all_append e.covers (all_map (λ v t. right_of G e.new (right_of G L t)) (own G l.low))

    count : length (e.new ++ L) ≡ length l.mid
    count =
        let s = steinitz G e.indep forth in
        let t = steinitz G (indep_right G l.long (l.mid ++ l.low) (basis_indep G W b)) back in
        omega (arith, length-append e.new (L ++ l.low), length-append L l.low, length-append l.mid l.low, length-append e.new L)

    same_total : total ℓ (l.long ++ (e.new ++ (L ++ l.low))) ≡ total ℓ B
    same_total =
        let s = total_same ℓ (all_append (part_all e.chosen l.same) (all_map (λ x p. p.1) a)) l.same count in
        simp (total_append ℓ) (omega (arith, simp (total_append ℓ) at s, simp (total_append ℓ) at (total_perm ℓ l.perm)))

    held : Basis G W (l.long ++ (e.new ++ (L ++ l.low)))
    held =
        let w = all_right l.long (l.mid ++ l.low) b.inside in
        basis G W
        (all_append (all_left l.long (l.mid ++ l.low) b.inside)
        (all_append (part_all e.chosen (all_left l.mid l.low w)) (all_append (all_map (λ x p. p.0) a) (all_right l.mid l.low w))))
        (indep_over G (λ v t. through G forth t) l.long e.indep (basis_indep G W b))
        (λ s q. span_over G (λ v t. through G back t) l.long (spanned G b.spans s q))

    -- A list of elements of length k that is independent over the shorter ones is held by a minimum basis.
    pub hold : Held L l.low
    hold =
        record {
          others = l.long ++ (e.new ++ l.low);
          minimum =
              minimum_perm G ℓ W (Perm.trans (perm_left l.long (perm_blocks e.new L l.low)) (perm_blocks l.long L (e.new ++ l.low)))
              (record { basis = held; least = λ C c. omega (arith, m.least C c, same_total) });
          reach = λ v t. right_of G l.long (right_of G e.new t);
        }

  module _ {k : ℕ} {B : List X} (m : Minimum G ℓ W B) (l : Layers ℓ k B) where
    low_perm : Perm B ((l.long ++ l.mid) ++ l.low)
    low_perm = rw append_assoc l.perm

    low_indep : Indep G l.low
    low_indep = indep_right G (l.long ++ l.mid) l.low (indep_perm G low_perm (basis_indep G W m.basis))

    low_spans_short : SpansShort G ℓ W k l.low
    low_spans_short =
        tail_spans_short (l.long ++ l.mid) m low_perm
        (all_append (all_map (λ x n. omega arith) l.longer) (all_map (λ x e. omega arith) l.same)) l.shorter

  others_cancel : (x y s : X) → (x ⊕ (y ⊕ s)) ⊕ s ≡ x ⊕ y
  others_cancel x y s = simp (xor, G)

  -- Where y and the others are held by a minimum basis, x can stand in the place of y.
  held_replace : {P : X → Type 0} {T : List X} {x y : X} (t : Swap G P T x y) → Held (y ∷ t.others) T → W x → ℓ x ≤ ℓ y → Replaces x y
  unfolding Sum
  held_replace {x} {y} t H w h =
      let s = Sum G t.others in
      record {
        before = [];
        after = t.others ++ H.others;
        holds =
            minimum_swap H.minimum w h
            (at G (others_cancel x y s) (add G (right_of G t.others (H.reach (x ⊕ (y ⊕ s)) t.sum)) (left_of G H.others (sum_in G t.others))));
        replaced = H.minimum;
      }

  module _ {k : ℕ} {S : List X} (i : Indep G S) (h : SpansShort G ℓ W k S) where
    -- What differs by a sum of shorter elements is interchangeable.
    pub close_swap : {x y : X} → RelevantOf k y → Short G ℓ W k (x ⊕ y) → Swap G (RelevantOf k) S x y
    unfolding Sum
    close_swap {x} {y} q s =
        record {
          others = [];
          have = All.nil;
          indep = Indep.more (relevant_not_span G ℓ W h q.1 q.0) i;
          sum = at G (simp (xor, G)) (h.spans (x ⊕ y) s);
        }

    -- The elements of length k of a minimum basis are a level over S.
    pub minimum_level : {B : List X} → Minimum G ℓ W B → Level G (RelevantOf k) S (exact ℓ k B)
    minimum_level {B} m =
        let l = own_level G ℓ W k B m.basis (minimum_graded G ℓ W m) in
        let t = minimum_spans_short G ℓ W m k in
        record {
          have = all_map (λ x p. (not_span_relevant G ℓ W t p.0.0 p.0.1 p.1, p.0.1)) (all_and l.have (indep_fresh G (exact ℓ k B) l.indep));
          indep = indep_over G (spans_short_agree t h) (exact ℓ k B) i l.indep;
          covers = λ x p. span_over G (spans_short_agree h t) (exact ℓ k B) (l.covers x (p.0.inside, p.1));
        }

    first_swap : {x y : X} {R : List X} → Minimum G ℓ W (x ∷ R) → Minimum G ℓ W (y ∷ R) → ℓ x ≡ k → ℓ y ≡ k → Swap G (RelevantOf k) S x y
    first_swap {x} {y} {R} m n e d =
        let l : Level G (RelevantOf k) S (x ∷ exact ℓ k R) = rw (exact_first ℓ x R e) at (minimum_level m) in
        let t : Level G (RelevantOf k) S (y ∷ exact ℓ k R) = rw (exact_first ℓ y R d) at (minimum_level n) in
        exchange_swap G (exact ℓ k R) (all_tail l.have) t.indep (first G l.indep) (t.covers x (all_head l.have))

    -- What replaces x in a minimum basis is interchangeable with x.
    pub replace_swap : (before : List X) {x y : X} (after : List X)
        → Minimum G ℓ W (before ++ (x ∷ after)) → Minimum G ℓ W (before ++ (y ∷ after)) → ℓ x ≡ k → Swap G (RelevantOf k) S x y
    replace_swap before {x} {y} after m n e =
        first_swap (minimum_perm G ℓ W (perm_front before x after) m) (minimum_perm G ℓ W (perm_front before y after) n) e
        (sym (replace_same_length before after m n) ∙ e)

    -- The same over another list that spans the sums of elements shorter than k.
    pub swap_over : {T : List X} {x y : X} → Indep G T → SpansShort G ℓ W k T → Swap G (RelevantOf k) S x y → Swap G (RelevantOf k) T x y
    swap_over {T} {x} {y} j t a =
        record {
          others = a.others;
          have = a.have;
          indep = indep_over G (spans_short_agree h t) (y ∷ a.others) j a.indep;
          sum = spans_short_agree t h _ a.sum;
        }

    -- What is interchangeable with x replaces x in some minimum basis, if there is one at all.
    pub swap_replace : {B : List X} {x y : X} → Swap G (RelevantOf k) S x y → RelevantOf k x → RelevantOf k y → Minimum G ℓ W B → Replaces x y
    swap_replace {B} {x} {y} s p q m =
        let l = layers ℓ k B in
        let t = swap_over (low_indep m l) (low_spans_short m l) s in
        let a : All (λ z. W z × (ℓ z ≡ k)) (y ∷ t.others) = all_map (λ z r. (r.0.inside, r.1)) (All.cons q t.have) in
        held_replace t (hold m l a t.indep) p.0.inside (omega (arith, p.1, q.1))
