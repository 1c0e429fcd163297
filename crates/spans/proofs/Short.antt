-- Sums of elements shorter than k, and the elements that are no sum of shorter ones: they are those of the minimum bases.
use mathlib.Core.Path.{◌≡◌, refl, sym, ◌∙◌, ap}
use mathlib.Core.List.{List, [], ◌∷◌, ◌++◌}
use Prim.Native.Nat.{ℕ, ◌<◌, ◌≤◌}
use native.Mathlib.Omega.{arith}
use Rattle.spans.specs.Group.{Space}
use Rattle.spans.specs.Basis.{All, Sum, Basis}
use Rattle.spans.specs.Graded.{below, Graded, Minimum}
use Rattle.spans.proofs.Xor.{right}
use Rattle.spans.proofs.Lists.{pick_middle, all_picks, part_all, all_map, all_and, all_append, all_pick, Perm, Pick}
use Rattle.spans.proofs.Span.{Span, at, through, to_part, sum_in}
use Rattle.spans.proofs.Steinitz.{spanned}
use Rattle.spans.proofs.Graded.{split, split_part, split_low, total_perm}
use Rattle.spans.proofs.Minimum.{basis_perm, minimum_graded, relevant_in, in_relevant}

module _ {X : Type 0} (G : Space X) where
  open G use {o, ◌⊕◌, left, assoc}

  -- The sum of two lists is the sum of their sums.
  pub sum_append : (xs ys : List X) → Sum G (xs ++ ys) ≡ Sum G xs ⊕ Sum G ys
  unfolding Sum
  sum_append [] ys = sym (left (Sum G ys))
  sum_append (x ∷ xs) ys = ap (λ (u : X). x ⊕ u) (sum_append xs ys) ∙ sym (assoc x (Sum G xs) (Sum G ys))

module _ {X : Type 0} (G : Space X) (ℓ : X → ℕ) (W : X → Type 0) where
  open G use {o, ◌⊕◌}

  -- v is a sum of elements of W that are shorter than k.
  pub record Short (k : ℕ) (v : X) : Type 0 where
    pub parts : List X
    pub short : All (λ w. W w × (ℓ w < k)) parts
    pub sum : Sum G parts ≡ v

  -- x is in W, and no sum of shorter elements of W.
  pub record Relevant (x : X) : Type 0 where
    pub inside : W x
    pub alone : Short (ℓ x) x → ⊥

  -- S consists of elements of W shorter than k, and spans all sums of such.
  pub record SpansShort (k : ℕ) (S : List X) : Type 0 where
    pub inside : All (λ w. W w × (ℓ w < k)) S
    pub spans : (v : X) → Short k v → Span G S v

  -- An element of W shorter than k.
  pub short_one : {k : ℕ} {w : X} → W w → ℓ w < k → Short k w
  unfolding Sum
  short_one {w} i h = record { parts = w ∷ []; short = All.cons (i, h) All.nil; sum = right G w }

  -- Such sums are closed under ⊕.
  pub short_add : {k : ℕ} {v w : X} → Short k v → Short k w → Short k (v ⊕ w)
  short_add {v} {w} s t =
      record {
        parts = s.parts ++ t.parts;
        short = all_append s.short t.short;
        sum = sum_append G s.parts t.parts ∙ rw (s.sum, t.sum);
      }

  -- They grow with the bound.
  pub short_mono : {j k : ℕ} {v : X} → j ≤ k → Short j v → Short k v
  short_mono h s = record { parts = s.parts; short = all_map (λ w p. (p.0, omega (arith, p.1))) s.short; sum = s.sum }

  -- The same for an equal element.
  pub short_at : {k : ℕ} {v w : X} → v ≡ w → Short k v → Short k w
  short_at e s = record { parts = s.parts; short = s.short; sum = s.sum ∙ e }

  -- What is spanned by elements of W shorter than k.
  pub span_short : {k : ℕ} {S : List X} {v : X} → All (λ w. W w × (ℓ w < k)) S → Span G S v → Short k v
  span_short a s = let (ys, p, e) = to_part G s in record { parts = ys; short = part_all p a; sum = e }

  -- What is a sum of elements that S spans is spanned by S.
  pub short_span : {k : ℕ} {S : List X} {v : X} → ((w : X) → W w → ℓ w < k → Span G S w) → Short k v → Span G S v
  short_span f s = at G s.sum (through G (all_map (λ w p. f w p.0 p.1) s.short) (sum_in G s.parts))

  -- A relevant element of length k is not in the span of what spans the sums of elements shorter than k.
  pub relevant_not_span : {k : ℕ} {S : List X} {x : X} → SpansShort k S → ℓ x ≡ k → Relevant x → ¬ Span G S x
  relevant_not_span {x} h e r s = r.alone (short_mono (omega arith) (span_short h.inside s))

  -- An element of W of length k that is not in it is relevant.
  pub not_span_relevant : {k : ℕ} {S : List X} {x : X} → SpansShort k S → W x → ℓ x ≡ k → ¬ Span G S x → Relevant x
  not_span_relevant {x} h w e n = record { inside = w; alone = λ s. n (h.spans x (short_mono (omega arith) s)) }

  module _ {B : List X} where
    -- The elements of a graded basis that are shorter than k span the sums of elements shorter than k.
    pub graded_spans_short : Basis G W B → Graded G ℓ W B → (k : ℕ) → SpansShort k (below ℓ k B)
    graded_spans_short b g k =
        record {
          inside = all_and (part_all (split_part ℓ (split ℓ k B)) b.inside) (split_low ℓ (split ℓ k B));
          spans = λ v s. short_span (λ w i h. spanned G (g.spans k) w (i, h)) s;
        }

    -- The same of a minimum basis.
    pub minimum_spans_short : Minimum G ℓ W B → (k : ℕ) → SpansShort k (below ℓ k B)
    minimum_spans_short m = graded_spans_short m.basis (minimum_graded G ℓ W m)

    -- An element of a minimum basis is relevant.
    pub pick_minimum_relevant : {R : List X} {x : X} → Minimum G ℓ W B → Pick B x R → Relevant x
    pick_minimum_relevant {x} m p =
        not_span_relevant (minimum_spans_short m (ℓ x)) (all_pick p m.basis.inside) refl (in_relevant G ℓ W m.basis p)

    -- All elements of a minimum basis are relevant.
    pub minimum_relevant : Minimum G ℓ W B → All Relevant B
    minimum_relevant m = all_picks B (λ c R p. pick_minimum_relevant m p)

    -- A relevant element is in a minimum basis, if there is one at all.
    pub relevant_in_minimum : {x : X} → Minimum G ℓ W B → Relevant x → (R : List X) × Minimum G ℓ W (x ∷ R)
    relevant_in_minimum {x} m r = relevant_in G ℓ W x m r.inside (relevant_not_span (minimum_spans_short m (ℓ x)) refl r)

  -- The first element of a minimum basis is relevant.
  pub in_minimum_relevant : {x : X} {R : List X} → Minimum G ℓ W (x ∷ R) → Relevant x
  in_minimum_relevant m = pick_minimum_relevant m Pick.here

  -- An element of a minimum basis is relevant, wherever it stands.
  pub middle_minimum_relevant : (before : List X) {x : X} (after : List X) → Minimum G ℓ W (before ++ (x ∷ after)) → Relevant x
  middle_minimum_relevant before {x} after m = pick_minimum_relevant m (pick_middle before x after)

  -- A minimum basis in another order is a minimum basis.
  pub minimum_perm : {B C : List X} → Perm B C → Minimum G ℓ W B → Minimum G ℓ W C
  minimum_perm p m = record { basis = basis_perm G W p m.basis; least = λ D d. omega (arith, total_perm ℓ p, m.least D d) }
