-- To be interchangeable modulo the span of S is an equivalence relation.
use mathlib.Core.Path.{◌≡◌, ap}
use mathlib.Core.List.{List, [], ◌∷◌, ◌++◌, append_assoc}
use Rattle.spans.specs.Group.{Space}
use Rattle.spans.specs.Basis.{Part, All, Sum}
use Rattle.spans.specs.Interchange.{Interchange}
use Rattle.spans.proofs.Xor.{xor, both}
use Rattle.spans.proofs.Lists.{part_append, part_all, all_append, Perm, perm_blocks, pick_perm, pick_part, all_picks}
use Rattle.spans.proofs.Span.{Span, at, zero, head, add, span_dec, mono, left_of, right_of}
use Rattle.spans.proofs.Span.{span_perm, to_part, from_part, sum_in, pick_sum, expand, Uses, uses}
use Rattle.spans.proofs.Indep.{Indep, first, rest, indep_part, indep_perm, exchanged, Extended, extend, extended_spans, independent, by_recursion}

module _ {X : Type 0} (G : Space X) (P : X → Type 0) (S : List X) where
  open G use {◌⊕◌, assoc}

  -- `Interchange` with the span and independence by recursion.
  pub record Swap (x y : X) : Type 0 where
    pub others : List X
    pub have : All P others
    pub indep : Indep G (y ∷ (others ++ S))
    pub sum : Span G S (x ⊕ Sum G (y ∷ others))

  pub swap_refl : {x : X} → Indep G (x ∷ S) → Swap x x
  unfolding Sum
  swap_refl {x} i = record { others = []; have = All.nil; indep = i; sum = at G (simp (xor, G)) (zero G S) }

  pub swap_sym : {x y : X} → Swap x y → Swap y x
  unfolding Sum
  swap_sym {x} {y} a = record { others = m; have = a.have; indep = Indep.more fresh (rest G a.indep); sum = at G around a.sum }
    where
      m : List X
      m = a.others

      around : x ⊕ (y ⊕ Sum G m) ≡ y ⊕ (x ⊕ Sum G m)
      around = simp (xor, G)

      back : (x ⊕ (x ⊕ (y ⊕ Sum G m))) ⊕ Sum G m ≡ y
      back = simp (xor, G)

      fresh : ¬ Span G (m ++ S) x
      fresh s = first G a.indep (at G back (add G (add G s (right_of G m a.sum)) (left_of G S (sum_in G m))))

  -- x is z, up to a sum of elements that have P and are independent of z modulo S.
  pub swap_up_to : {x z : X} (L : List X) → All P L → Indep G (z ∷ (L ++ S)) → Span G (L ++ S) (x ⊕ z) → Swap x z
  unfolding Sum
  swap_up_to {x} {z} L a i s =
      let t = expand G L S s in
      record {
        others = t.used;
        have = part_all t.part a;
        indep = indep_part G (Part.keep (part_append S t.part)) i;
        sum = at G (assoc x z (Sum G t.used)) t.remains;
      }

  -- x is related to each member of its expansion modulo S.
  pub swap_used : {x : X} (Z : List X) → All P Z → Indep G (Z ++ S) → Span G S (x ⊕ Sum G Z) → All (Swap x) Z
  unfolding Sum
  swap_used {x} Z a i s =
      all_picks Z
      (λ c R p. record {
        others = R;
        have = part_all (pick_part p) a;
        indep = indep_perm G (pick_perm S p) i;
        sum = at G (ap (λ (u : X). x ⊕ u) (pick_sum G p)) s;
      })

  -- Beside y and the others of a stand the others of b, as far as they are new. z uses y or one of the others of a, which
  -- is c; x uses c too; so x is z up to the rest.
  pub swap_trans : {x y z : X} → Swap x y → Swap y z → P y → Swap x z
  unfolding Sum
  swap_trans {x} {y} {z} a b py =
      swap_up_to (u.others ++ new)
      (all_append (part_all (pick_part u.pick) (All.cons py a.have)) (part_all e.chosen b.have))
      (rw append_assoc (exchanged G (indep_perm G (pick_perm (new ++ S) u.pick) (indep_perm G blocks e.indep)) u.remains).indep)
      (rw append_assoc (at G (both G x z u.one) (add G x_uses u.remains)))
    where
      e : Extended G (y ∷ (a.others ++ S)) b.others
      e = extend G b.others a.indep

      new : List X
      new = e.new

      blocks : Perm (new ++ (y ∷ (a.others ++ S))) (y ∷ (a.others ++ (new ++ S)))
      blocks = perm_blocks new (y ∷ a.others) S

      z_sum : (s : X) → (y ⊕ (z ⊕ s)) ⊕ (y ⊕ s) ≡ z
      z_sum s = simp (xor, G)

      z_in : Span G (y ∷ (a.others ++ (new ++ S))) z
      z_in =
          span_perm G blocks
          (at G (z_sum (Sum G b.others))
          (add G (right_of G new (right_of G (y ∷ a.others) b.sum))
          (add G (right_of G new (head G)) (extended_spans G e (sum_in G b.others)))))

      u : Uses G (y ∷ a.others) (new ++ S) z
      u = uses G (y ∷ a.others) (new ++ S) z z_in (λ s. first G b.indep (mono G (part_append S e.chosen) s))

      x_sum : (c s : X) → (x ⊕ (c ⊕ s)) ⊕ s ≡ x ⊕ c
      x_sum c s = simp (xor, G)

      x_uses : Span G (u.others ++ (new ++ S)) (x ⊕ u.one)
      x_uses =
          at G (x_sum u.one (Sum G u.others))
          (add G (right_of G u.others (right_of G new (at G (ap (λ (v : X). x ⊕ v) (pick_sum G u.pick)) a.sum)))
          (left_of G (new ++ S) (sum_in G u.others)))

  -- The reader's relation, both ways.
  pub swap_interchange : {x y : X} → Swap x y → Interchange G P S x y
  unfolding Sum
  swap_interchange {x} {y} a =
      let (short, p, e) = to_part G a.sum in
      record {
        others = a.others;
        have = a.have;
        short = short;
        from = p;
        sum = rw e (simp (xor, G));
        independent = independent G a.indep;
      }

  pub interchange_swap : {x y : X} → Interchange G P S x y → Swap x y
  unfolding Sum
  interchange_swap {x} {y} a =
      record {
        others = a.others;
        have = a.have;
        indep = by_recursion G (y ∷ (a.others ++ S)) a.independent;
        sum = at G (solve (Sum G a.others) (Sum G a.short) a.sum) (from_part G a.from);
      }
    where
      solve : (s t : X) → x ≡ y ⊕ (s ⊕ t) → t ≡ x ⊕ (y ⊕ s)
      solve s t e = rw e (simp (xor, G))

-- Why the others must have P: else any two elements outside the span of S are related.
module _ {X : Type 0} (G : Space X) where
  open G use {o, ◌⊕◌}

  pub swap_unconditioned : {S : List X} {x y : X} → Indep G S → ¬ Span G S x → ¬ Span G S y → Swap G (λ _. Unit {0}) S x y
  unfolding Sum
  swap_unconditioned {S} {x} {y} i nx ny = by_cases (span_dec G S (x ⊕ y))
    where
      alone : x ⊕ y ≡ x ⊕ (y ⊕ o)
      alone = simp (xor, G)

      with_sum : o ≡ x ⊕ (y ⊕ ((x ⊕ y) ⊕ o))
      with_sum = simp (xor, G)

      x_again : y ⊕ (x ⊕ y) ≡ x
      x_again = simp (xor, G)

      apart : Span G ((x ⊕ y) ∷ S) y → ⊥
      apart (Span.skip s) = ny s
      apart (Span.take s) = nx (at G x_again s)

      by_cases : Dec (Span G S (x ⊕ y)) → Swap G (λ _. Unit {0}) S x y
      by_cases (yes s) = record { others = []; have = All.nil; indep = Indep.more ny i; sum = at G alone s }
      by_cases (no n) =
          record { others = (x ⊕ y) ∷ []; have = All.cons tt All.nil; indep = Indep.more apart (Indep.more n i); sum = at G with_sum (zero G S) }
