-- A candidate is said by its top atom and the bonds of its link, one or two: so there are fewer than 400,000 of them.
use mathlib.Core.Path.{◌≡◌, refl, sym, ap₂, ◌∙◌, subst}
use mathlib.Core.List.{List}
use mathlib.Core.Logic.{◌⊎◌, inl, inr, ⊎_elim}
use Prim.Native.Nat.{ℕ, suc, ◌+◌, ◌*◌, ◌<◌, ◌≤◌}
use native.Mathlib.Omega.{arith}
use lib.ListN.{length}
use Rattle.bondset.proofs.Laws.{lt_or_ge}
use Rattle.spans.specs.Elements.{◌∈◌, Once}
use Rattle.cycles.specs.Compound.{Compound, m, Joins, Distance, Sound}
use Rattle.cycles.specs.Family.{Family, Candidate}
use Rattle.cycles.proofs.PathsDecide.{joins_sym, joins_below}
use Rattle.cycles.proofs.PathsDown.{distance_unique, down_far}
use Rattle.cycles.proofs.MembersLists.{keyed_length_le}
use Rattle.cycles.proofs.MembersBonds.{joins_left}
use Rattle.cycles.proofs.MembersCorners.{family_same, pair_same}
use Rattle.cycles.proofs.Few.{pairs}
use Rattle.cycles.proofs.BoundLists.{numbers, numbers_length, in_numbers, both, both_length, in_both, triangle, triangle_length, in_triangle}
use Rattle.cycles.proofs.BoundSizes.{candidate_top}

module _ (c : Compound) (sound : Sound c) where
  -- A bond has one other end.
  other_end : {k x p q : ℕ} → Joins c k x p → Joins c k x q → p ≡ q
  other_end {k} {x} {p} s t =
      ⊎_elim (λ e. absurd (sound.no_loop k x (subst (λ (a : ℕ). Joins c k x a) e s))) (λ e. e) (joins_left c (joins_sym c s) t)

  record SameChain (p x q a y b : ℕ) : Type 0 where
    start : p ≡ a
    middle : x ≡ y
    end : q ≡ b

  -- Two bonds that meet in an atom say that atom and their two other ends.
  chain_same : {i j p x q a y b : ℕ} → (p ≡ q → ⊥) → Joins c i p x → Joins c j x q → Joins c i a y → Joins c j y b → SameChain p x q a y b
  chain_same {i} {j} {p} {x} {q} {a} {y} {b} differ s t u v = ⊎_elim crossed straight (joins_left c (joins_sym c s) u)
    where
      straight : x ≡ y → SameChain p x q a y b
      straight e = record {
        start = other_end (subst (λ (z : ℕ). Joins c i z p) e (joins_sym c s)) (joins_sym c u);
        middle = e;
        end = other_end (subst (λ (z : ℕ). Joins c j z q) e t) v;
      }

      crossed : x ≡ a → SameChain p x q a y b
      crossed e =
          ⊎_elim straight
          (λ (g : x ≡ b).
          absurd
          (differ
          (other_end (subst (λ (z : ℕ). Joins c i z p) e (joins_sym c s)) u
          ∙ sym (other_end (subst (λ (z : ℕ). Joins c j z q) g t) (joins_sym c v)))))
          (joins_left c t v)

  -- Bonds i and j are the link of f, from p to q: one bond if f is odd, two if it is even.
  data Link (f : Family) (d i j : ℕ) : Type 0 where
    odd : Joins c i f.p f.q → j ≡ i → f.x ≡ 255 → f.long ≡ 2 * d + 1 → Link f d i j
    even : Joins c i f.p f.x → Joins c j f.x f.q → f.long ≡ 2 * suc d → Link f d i j

  -- r is the top atom of f, and i and j are its link.
  record Linked (f : Family) (r i j : ℕ) : Type 0 where
    top : f.r ≡ r
    less : f.p < f.q
    d : ℕ
    far : Distance c f.p r d
    link : Link f d i j

  -- The two bonds of an even family differ.
  even_differ : {i p x q : ℕ} → p < q → Joins c i p x → Joins c i x q → ⊥
  even_differ less s t = omega (arith, less, other_end (joins_sym c s) t)

  far_same : {r p q d e : ℕ} → p ≡ q → Distance c p r d → Distance c q r e → d ≡ e
  far_same {r} {d = d} same s t = distance_unique c (subst (λ (a : ℕ). Distance c a r d) same s) t

  -- A family is said by its top atom and its two bonds, from p to q ..
  linked_same : {f g : Family} {r i j : ℕ} → Linked f r i j → Linked g r i j → f ≡ g
  linked_same {f} {g} {r} {i} {j} s t = go s.link t.link
    where
      go : Link f s.d i j → Link g t.d i j → f ≡ g
      go (Link.odd u e x l) (Link.odd v e' x' l') =
          let (p, q) = pair_same s.less t.less (joins_left c u v) (joins_left c (joins_sym c u) v) in
          family_same (omega (arith, l, l', far_same p s.far t.far)) (s.top ∙ sym t.top) p q (x ∙ sym x')
      go (Link.odd u e x l) (Link.even v w l') = absurd (even_differ t.less v (subst (λ (k : ℕ). Joins c k g.x g.q) e w))
      go (Link.even v w l) (Link.odd u e x l') = absurd (even_differ s.less v (subst (λ (k : ℕ). Joins c k f.x f.q) e w))
      go (Link.even u v l) (Link.even u' v' l') =
          let same = chain_same (λ e. omega (arith, s.less, e)) u v u' v' in
          family_same (omega (arith, l, l', far_same same.start s.far t.far)) (s.top ∙ sym t.top) same.start same.end same.middle

  -- .. and no other family has them from q to p.
  linked_turned_same : {f g : Family} {r i j : ℕ} → Linked f r i j → Linked g r j i → f ≡ g
  linked_turned_same {f} {g} {r} {i} {j} s t = go s.link t.link
    where
      go : Link f s.d i j → Link g t.d j i → f ≡ g
      go (Link.odd u e x l) w = linked_same (subst (λ (k : ℕ). Linked f r i k) e s) (subst (λ (k : ℕ). Linked g r k i) e t)
      go (Link.even u v l) (Link.odd w e x l') = linked_same (subst (λ (k : ℕ). Linked f r k j) e s) (subst (λ (k : ℕ). Linked g r j k) e t)
      go (Link.even u v l) (Link.even u' v' l') =
          let same = chain_same (λ e. omega (arith, s.less, e)) u v (joins_sym c v') (joins_sym c u') in
          absurd (omega (arith, s.less, t.less, same.start, same.end))

  -- A top atom and two bonds, in either order.
  abbrev Choice : Type 0
  Choice = ℕ × (ℕ × ℕ)

  abbrev choice : ℕ → ℕ × ℕ → Choice
  choice r w = (r, w)

  -- The choice says the family f.
  abbrev Keyed : Family → Choice → Type 0
  Keyed f k = Linked f k.0 k.1.0 k.1.1 ⊎ Linked f k.0 k.1.1 k.1.0

  -- A choice says one family.
  keyed_same : {f g : Family} (k : Choice) → Keyed f k → Keyed g k → f ≡ g
  keyed_same k (inl s) (inl t) = linked_same s t
  keyed_same k (inl s) (inr t) = linked_turned_same s t
  keyed_same k (inr s) (inl t) = linked_turned_same s t
  keyed_same k (inr s) (inr t) = linked_same s t

  module _ (rank : ℕ → ℕ) where
    -- Every candidate has a link.
    candidate_linked : {f : Family} {d : ℕ} {link : List ℕ} → Candidate c rank f d link → (i : ℕ) × (j : ℕ) × (i < m c) × (j < m c) × Linked f f.r i j
    candidate_linked (Candidate.odd {d = d} less (k, u) under_p under_q long) =
        let h = joins_below c u in
        (k, k, h, h, record { top = refl; less = less; d = d; far = down_far c rank under_p.1.1; link = Link.odd u refl refl long })
    candidate_linked (Candidate.even {d = d} less (i, u) (j, v) under_x under_p under_q long) = (
      i,
      j,
      joins_below c u,
      joins_below c v,
      record { top = refl; less = less; d = d; far = down_far c rank under_p.1.1; link = Link.even u v long },
    )

    module _ (atoms : c.n ≤ 64) (bonds : m c ≤ 96) where
      linked_keyed : {f : Family} {i j : ℕ} → f.r < c.n → i < m c → j < m c → Linked f f.r i j
          → (k : Choice) × (k ∈ both choice (numbers 64) (triangle 96)) × Keyed f k
      linked_keyed {f} {i} {j} top h l s =
          let r = in_numbers f.r 64 (omega arith) in
          elim (lt_or_ge j i) [
            | inl o ↦ (choice f.r (j, i), in_both choice r (in_triangle j i 96 (omega arith) (omega arith)), inr s)
            | inr o ↦ (choice f.r (i, j), in_both choice r (in_triangle i j 96 o (omega arith)), inl s)
          ]

      -- Every candidate is said by one of the choices.
      candidate_keyed : {f : Family} {d : ℕ} {link : List ℕ} → Candidate c rank f d link
          → (k : Choice) × (k ∈ both choice (numbers 64) (triangle 96)) × Keyed f k
      candidate_keyed s =
          let (i, j, h, l, t) = candidate_linked s in linked_keyed (candidate_top c sound rank s) h l t

      -- 64 top atoms, and 96 * 97 / 2 = 4,656 pairs of bonds.
      choices_length : length (both choice (numbers 64) (triangle 96)) ≡ 297984
      unfolding pairs
      choices_length = both_length choice (numbers 64) (triangle 96) ∙ ap₂ ◌*◌ (numbers_length 64) (triangle_length 96)

      -- "Fewer than 400,000 choices of r, p, q, x exist."
      pub choices_few : {fs : List Family} → Once fs → ((f : Family) → f ∈ fs → (d : ℕ) × (link : List ℕ) × Candidate c rank f d link)
          → length fs < 400000
      choices_few once candidates =
          let few =
          keyed_length_le {keys = both choice (numbers 64) (triangle 96)} Keyed (λ f g. keyed_same) once
          (λ f h. candidate_keyed (candidates f h).2) in
          omega (arith, few, choices_length)
