-- A minimum basis is graded. An element is in a minimum basis exactly if the shorter members of one do not span it.
use mathlib.Core.List.{List, [], ◌∷◌, ◌++◌}
use mathlib.Core.HLevel.{dec→stable}
use Prim.Native.Nat.{ℕ, ◌+◌, ◌<◌, ◌≤◌}
use native.Mathlib.Omega.{arith}
use Rattle.spans.specs.Group.{Space}
use Rattle.spans.specs.Basis.{All, Basis}
use Rattle.spans.specs.Graded.{total, below, Graded, Minimum}
use Rattle.spans.proofs.Lists.{all_tail, all_perm, all_pick, Perm, Pick, pick_perm, perm_comm}
use Rattle.spans.proofs.Sift.{sift_avoids}
use Rattle.spans.proofs.Span.{Span, span_dec, span_perm, mono, left_of, uses}
use Rattle.spans.proofs.Indep.{Indep, exchanged, first, by_recursion, independent, indep_perm}
use Rattle.spans.proofs.Steinitz.{spanned, spans}
use Rattle.spans.proofs.Graded.{split, split_long, total_perm}

module _ {X : Type 0} (G : Space X) (W : X → Type 0) where
  open G use {◌⊕◌}

  pub basis : {B : List X} → All W B → Indep G B → ((s : X) → W s → Span G B s) → Basis G W B
  basis a i h = record { inside = a; independent = independent G i; spans = spans G h }

  pub basis_indep : {B : List X} → Basis G W B → Indep G B
  basis_indep {B} b = by_recursion G B b.independent

  pub basis_perm : {B C : List X} → Perm B C → Basis G W B → Basis G W C
  basis_perm p b = basis (all_perm p b.inside) (indep_perm G p (basis_indep b)) (λ s w. span_perm G p (spanned G b.spans s w))

  -- One member of a basis leaves for another element that uses it.
  pub basis_swap : {s c : X} {R : List X} → Basis G W (c ∷ R) → W s → Span G R (s ⊕ c) → Basis G W (s ∷ R)
  basis_swap b w h =
      let e = exchanged G (basis_indep b) h in
      basis (All.cons w (all_tail b.inside)) e.indep (λ v u. e.into (spanned G b.spans v u))

module _ {X : Type 0} (G : Space X) (ℓ : X → ℕ) (W : X → Type 0) where
  -- s takes the place of a member that is no shorter than k.
  record Replaced (k : ℕ) (B : List X) (s : X) : Type 0 where
    one : X
    others : List X
    perm : Perm B (one ∷ others)
    long : ¬ (ℓ one < k)
    basis : Basis G W (s ∷ others)

  replaced : {B : List X} {s : X} (k : ℕ) → Basis G W B → W s → ¬ Span G (below ℓ k B) s → Replaced k B s
  replaced {B} {s} k b w n =
      let l = split_long ℓ (split ℓ k B) in
      let u = uses G l.long (below ℓ k B) s (span_perm G l.perm (spanned G b.spans s w)) n in
      let p = Perm.trans l.perm (pick_perm (below ℓ k B) u.pick) in
      record {
        one = u.one;
        others = u.others ++ below ℓ k B;
        perm = p;
        long = all_pick u.pick l.high;
        basis = basis_swap G W (basis_perm G W p b) w u.remains;
      }

  -- A basis whose members shorter than k do not span an element shorter than k gives way to one of less total length.
  pub shorter_basis : {B : List X} {s : X} (k : ℕ) → Basis G W B → W s → ℓ s < k → ¬ Span G (below ℓ k B) s
      → (C : List X) × Basis G W C × (total ℓ C < total ℓ B)
  unfolding total
  shorter_basis {s} k b w h n =
      let r = replaced k b w n in (s ∷ r.others, r.basis, omega (arith, r.long, total_perm ℓ r.perm))

  pub minimum_graded : {B : List X} → Minimum G ℓ W B → Graded G ℓ W B
  minimum_graded {B} m = record { spans = λ k. spans G (λ s w. dec→stable (span_dec G (below ℓ k B) s) (not_unspanned k s w.0 w.1)) }
    where
      not_unspanned : (k : ℕ) (s : X) → W s → ℓ s < k → ¬ ¬ Span G (below ℓ k B) s
      not_unspanned k s w h n = let (C, b, l) = shorter_basis k m.basis w h n in omega (arith, m.least C b)

  -- An element that the shorter members of a minimum basis do not span is in a minimum basis.
  pub relevant_in : {B : List X} (x : X) → Minimum G ℓ W B → W x → ¬ Span G (below ℓ (ℓ x) B) x → (R : List X) × Minimum G ℓ W (x ∷ R)
  unfolding total
  relevant_in {B} x m w n = let r = replaced (ℓ x) m.basis w n in (r.others, record { basis = r.basis; least = λ C c. no_longer r C (m.least C c) })
    where
      no_longer : (r : Replaced (ℓ x) B x) (C : List X) → total ℓ B ≤ total ℓ C → ℓ x + total ℓ r.others ≤ total ℓ C
      no_longer r C t = omega (arith, r.long, total_perm ℓ r.perm)

  -- No member of a basis is spanned by the shorter members.
  pub in_relevant : {B R : List X} {x : X} → Basis G W B → Pick B x R → ¬ Span G (below ℓ (ℓ x) B) x
  in_relevant {B} {x} b q s =
      let i = indep_perm G (Perm.trans (perm_comm [] B) (pick_perm [] q)) (basis_indep G W b) in
      first G i (left_of G [] (mono G (sift_avoids (omega arith) (split ℓ (ℓ x) B) q) s))
