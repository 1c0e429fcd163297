-- Two minimum bases have as many members of each length, and of each class of interchangeable elements of one length.
use mathlib.Core.Path.{◌≡◌, sym, subst}
use mathlib.Core.List.{List, [], ◌∷◌, ◌++◌}
use Prim.Native.Nat.{ℕ, suc, ◌<◌}
use native.Mathlib.Omega.{arith}
use native.Mathlib.Decide.{ℕ_discrete}
use lib.ListN.{length}
use Rattle.spans.specs.Group.{Space}
use Rattle.spans.specs.Basis.{All, Holding, Basis}
use Rattle.spans.specs.Graded.{keep_if, below, Graded, Minimum}
use Rattle.spans.proofs.Lists.{part_all, all_and, Perm, perm_sym, perm_front}
use Rattle.spans.proofs.Sift.{Sift, sift_step, sift_part, sift_all}
use Rattle.spans.proofs.Span.{through, span_perm}
use Rattle.spans.proofs.Indep.{indep_perm, span_over, indep_over}
use Rattle.spans.proofs.Steinitz.{spanned}
use Rattle.spans.proofs.Graded.{split, below_indep, below_inside}
use Rattle.spans.proofs.Minimum.{minimum_graded}
use Rattle.spans.proofs.Classes.{Level, level_same_length, level_narrow}
use Rattle.spans.proofs.Labelled.{Labelled, its, within}
use Rattle.spans.proofs.Labels.{HasLabel, label_count}

module _ {X : Type 0} (ℓ : X → ℕ) where
  -- The members of length k.
  unfoldable pub exact : ℕ → List X → List X
  exact k [] = []
  exact k (x ∷ xs) = keep_if (ℕ_discrete (ℓ x) k) x (exact k xs)

  pub exact_sift : (k : ℕ) (xs : List X) → Sift (λ x. ℓ x ≡ k) xs (exact k xs)
  unfolding exact
  exact_sift k [] = Sift.nil
  exact_sift k (x ∷ xs) = sift_step (λ x. ℓ x ≡ k) x (exact_sift k xs) (ℕ_discrete (ℓ x) k)

  split_suc : {k : ℕ} {xs ys es bs : List X} → Sift (λ x. ℓ x < suc k) xs ys
      → Sift (λ x. ℓ x ≡ k) xs es → Sift (λ x. ℓ x < k) xs bs → Perm ys (es ++ bs)
  split_suc Sift.nil Sift.nil Sift.nil = Perm.nil
  split_suc (Sift.inn p s) (Sift.inn q t) (Sift.inn r u) = absurd (omega arith)
  split_suc (Sift.inn p s) (Sift.inn q t) (Sift.out r u) = Perm.cons (split_suc s t u)
  split_suc {es} (Sift.inn {x = x} p s) (Sift.out q t) (Sift.inn {ys = bs} r u) = Perm.trans (Perm.cons (split_suc s t u)) (perm_sym (perm_front es x bs))
  split_suc (Sift.inn p s) (Sift.out q t) (Sift.out r u) = absurd (omega arith)
  split_suc (Sift.out p s) (Sift.inn q t) (Sift.inn r u) = absurd (omega arith)
  split_suc (Sift.out p s) (Sift.inn q t) (Sift.out r u) = absurd (omega arith)
  split_suc (Sift.out p s) (Sift.out q t) (Sift.inn r u) = absurd (omega arith)
  split_suc (Sift.out p s) (Sift.out q t) (Sift.out r u) = split_suc s t u

  -- What is shorter than k + 1 is as long as k, or shorter.
  pub below_suc_perm : (k : ℕ) (xs : List X) → Perm (below ℓ (suc k) xs) (exact k xs ++ below ℓ k xs)
  below_suc_perm k xs = split_suc (split ℓ (suc k) xs) (exact_sift k xs) (split ℓ k xs)

  -- x is an element of W of length k.
  abbrev pub Of : (X → Type 0) → ℕ → X → Type 0
  Of W k x = W x × (ℓ x ≡ k)

module _ {X : Type 0} (G : Space X) (ℓ : X → ℕ) (W : X → Type 0) (k : ℕ) where
  pub own_level : (B : List X) → Basis G W B → Graded G ℓ W B → Level G (Of ℓ W k) (below ℓ k B) (exact ℓ k B)
  own_level B b g =
      record {
        have = all_and (part_all (sift_part _ (exact_sift ℓ k B)) b.inside) (sift_all _ (exact_sift ℓ k B));
        indep = indep_perm G (below_suc_perm ℓ k B) (below_indep G ℓ W b (suc k));
        covers = λ x p. span_perm G (below_suc_perm ℓ k B) (spanned G (g.spans (suc k)) x (p.0, omega (arith, p.1)));
      }

  -- The members of length k of C, over the shorter members of B.
  pub level : (B C : List X) → Basis G W B → Graded G ℓ W B → Basis G W C → Graded G ℓ W C → Level G (Of ℓ W k) (below ℓ k B) (exact ℓ k C)
  level B C b gb c gc =
      let l = own_level C c gc in
      record {
        have = l.have;
        indep = indep_over G (λ v s. through G (below_inside G ℓ W gc b k) s) (exact ℓ k C) (below_indep G ℓ W b k) l.indep;
        covers = λ x p. span_over G (λ v s. through G (below_inside G ℓ W gb c k) s) (exact ℓ k C) (l.covers x p);
      }

module _ {X : Type 0} (G : Space X) (ℓ : X → ℕ) (W : X → Type 0) where
  -- All minimum bases have the same number of members of each length.
  pub minimum_same_length_counts : {B C : List X} → Minimum G ℓ W B → Minimum G ℓ W C → (k : ℕ) → length (exact ℓ k B) ≡ length (exact ℓ k C)
  minimum_same_length_counts {B} {C} m n k =
      let g = minimum_graded G ℓ W m in
      level_same_length G (Of ℓ W k) (below ℓ k B) (own_level G ℓ W k B m.basis g) (level G ℓ W k B C m.basis g n.basis (minimum_graded G ℓ W n))

  -- Every minimum basis has as many members of length k with label l, the members of length k of one being labelled and Q
  -- being what the members of length k of each have.
  pub minimum_label_count : {B C : List X} → Minimum G ℓ W B → Minimum G ℓ W C → (k : ℕ) {Q : X → Type 0}
      → ((x : X) → Q x → Of ℓ W k x) → All Q (exact ℓ k B) → All Q (exact ℓ k C)
      → (M : List (Labelled X)) → its M ≡ exact ℓ k B → ((x : X) → Q x → (j : ℕ) × HasLabel G (below ℓ k B) M j x)
      → (l : ℕ) → Holding (HasLabel G (below ℓ k B) M l) (exact ℓ k C) (length (within l M))
  minimum_label_count {B} {C} m n k {Q} f a c M e labelled l =
      let g = minimum_graded G ℓ W m in
      let t = level_narrow f a (own_level G ℓ W k B m.basis g) in
      let u = level_narrow f c (level G ℓ W k B C m.basis g n.basis (minimum_graded G ℓ W n)) in
      let s = subst (λ (L : List X). Level G Q (below ℓ k B) L) (sym e) t in
      label_count G (below ℓ k B) M s.indep labelled l s u
