-- The model of the plain method chooses what the plain method chooses.
use mathlib.Core.Path.{◌≡◌, refl, sym, ap, ◌∙◌, subst}
use mathlib.Core.List.{List, [], ◌∷◌, ◌++◌}
use Prim.Native.Nat.{ℕ, suc, ◌+◌, ◌^◌, ◌<◌, ◌≤◌}
use native.Mathlib.Nat.{le_refl, lt_of_lt_of_le}
use native.Mathlib.Omega.{arith}
use native.Mathlib.Decide.{ℕ_discrete}
use borrow.Author.Tests.{eq-eqb, ne_eqb, lt-ltb}
use lib.ListN.{length, set, take, length-set, length-append}
use lib.Pow.{pow_mono}
use lib.Seq.{take-length}
use Rattle.spans.specs.Basis.{All}
use Rattle.spans.specs.Graded.{total}
use Rattle.spans.proofs.Lists.{all_append}
use Rattle.spans.proofs.Span.{Span, at, to_part, from_part}
use Rattle.spans.proofs.Indep.{Indep}
use Rattle.bondset.specs.Rows.{put_row}
use Rattle.bondset.specs.Reduction.{reduced, used, pushed_tag, pivot_of, Reduction}
use Rattle.bondset.proofs.Group.{bond_sets}
use Rattle.bondset.proofs.Rows.{length_put_row}
use Rattle.bondset.proofs.ReductionTheorems.{reduction_none, reduction_rest, reduction_indep, reduction_rest_lt, reduction_push}
use Rattle.cycles.specs.Compound.{Compound, m, Sound}
use Rattle.cycles.specs.Ring.{len, Closed, Ring}
use Rattle.cycles.specs.Plain.{Plain}
use Rattle.cycles.proofs.FewPieces.{closed_few}
use Rattle.model.specs.Plain.{Choice, no_choice, more_choice, choose_ring, plain_choice}
use Rattle.model.proofs.PlainRun.{Attempted, run_plain}

total_end : (ℓ : ℕ → ℕ) (xs : List ℕ) (x : ℕ) → total ℓ (xs ++ (x ∷ [])) ≡ total ℓ xs + ℓ x
unfolding total
total_end ℓ [] x = omega arith
total_end ℓ (y ∷ xs) x = omega (arith, total_end ℓ xs x)

module _ (c : Compound) (sound : Sound c) (atoms : c.n ≤ 64) (bonds : m c ≤ 96) where
  -- The state stands for the rings chosen.
  pub record Stands (s : Choice) (chosen : List ℕ) : Type 0 where
    pub many : s.many ≡ length chosen
    pub reduction : Reduction s.rows s.tags s.pivots chosen
    pub rows : length s.rows ≡ 164
    pub tags : length s.tags ≡ 164
    pub pivots : length s.pivots ≡ 82
    pub closed : All (Closed c) chosen
    pub rings : s.rings ≡ chosen
    pub total : s.total ≡ total (len c) chosen

  stands_none : Stands no_choice []
  unfolding no_choice total
  stands_none =
      record { many = refl; reduction = reduction_none _ _ _; rows = refl; tags = refl; pivots = refl; closed = All.nil; rings = refl; total = refl }

  module _ (k S : ℕ) (s : Choice) where
    abbrev rest : ℕ
    rest = reduced s.rows s.pivots 0 s.many S

    abbrev names : ℕ
    names = used s.rows s.tags s.pivots 0 s.many S 0

    choose_pass : rest ≡ 0 → choose_ring k S s ≡ s
    unfolding choose_ring
    choose_pass z = rw (eq-eqb rest 0 z) refl

    choose_more : (rest ≡ 0 → ⊥) → s.many < 82 → choose_ring k S s ≡ more_choice k S rest names s
    unfolding choose_ring
    choose_more n l = rw (ne_eqb rest 0 n, lt-ltb s.many 82 l) refl

    module _ {chosen : List ℕ} (w : Stands s chosen) (ring : Ring c S) (long : len c S ≡ k) where
      -- What the reduction says: the rest is empty exactly if S is a sum of the chosen rings.
      pub rest_spans : rest ≡ 0 → Span bond_sets chosen S
      rest_spans z =
          subst (λ (xs : List ℕ). Span bond_sets xs S) (ap (λ (i : ℕ). take i chosen) w.many ∙ take-length chosen)
          ((reduction_rest w.reduction s.many (omega (arith, w.many)) S).spans z)

      pub spans_rest : Span bond_sets chosen S → rest ≡ 0
      spans_rest t =
          (reduction_rest w.reduction s.many (omega (arith, w.many)) S).empty
          (subst (λ (xs : List ℕ). Span bond_sets xs S) (sym (ap (λ (i : ℕ). take i chosen) w.many ∙ take-length chosen)) t)

      small : S < 2 ^ 128
      small = let l : m c ≤ 128 = omega arith in lt_of_lt_of_le ring.closed.bonds (pow_mono l)

      more_few : (Span bond_sets chosen S → ⊥) → suc (length chosen) ≤ 82
      more_few n = closed_few c sound bonds (Indep.more n (reduction_indep w.reduction)) (All.cons ring.closed w.closed)

      pushed : (rest ≡ 0 → ⊥) → length chosen < 82
          → Reduction (put_row s.rows s.many rest) (put_row s.tags s.many (pushed_tag s.many names)) (set s.pivots s.many (pivot_of rest))
          (chosen ++ (S ∷ []))
      pushed n l =
          subst (λ (i : ℕ). (reduced s.rows s.pivots 0 i S ≡ 0 → ⊥)
          → Reduction (put_row s.rows i (reduced s.rows s.pivots 0 i S)) (put_row s.tags i (pushed_tag i (used s.rows s.tags s.pivots 0 i S 0)))
          (set s.pivots i (pivot_of (reduced s.rows s.pivots 0 i S))) (chosen ++ (S ∷ []))) (sym w.many)
          (λ some. reduction_push w.reduction
          (record { rows_fit = omega (arith, w.rows); tags_fit = omega (arith, w.tags); pivots_fit = omega (arith, w.pivots) }) (omega arith) S some
          (reduction_rest_lt w.reduction (length chosen) (le_refl (length chosen)) S small)) n

      more_stands : (rest ≡ 0 → ⊥) → length chosen < 82 → Stands (more_choice k S rest names s) (chosen ++ (S ∷ []))
      unfolding more_choice
      more_stands n l = record {
        many = omega (arith, w.many, length-append chosen (S ∷ []));
        reduction = pushed n l;
        rows = length_put_row s.rows s.many rest ∙ w.rows;
        tags = length_put_row s.tags s.many (pushed_tag s.many names) ∙ w.tags;
        pivots = length-set s.pivots s.many (pivot_of rest) ∙ w.pivots;
        closed = all_append w.closed (All.cons ring.closed All.nil);
        rings = ap (λ (xs : List ℕ). xs ++ (S ∷ [])) w.rings;
        total = omega (arith, w.total, total_end (len c) chosen S, long);
      }

      -- The state after a ring is tried stands for what is chosen then.
      tried : Attempted c sound atoms bonds choose_ring Stands k S s chosen
      tried = go (ℕ_discrete rest 0)
        where
          go : Dec (rest ≡ 0) → Attempted c sound atoms bonds choose_ring Stands k S s chosen
          go (yes z) = Attempted.pass (to_part bond_sets (rest_spans z)) (subst (λ (t : Choice). Stands t chosen) (sym (choose_pass z)) w)
          go (no n) =
              let new : Span bond_sets chosen S → ⊥ = λ t. n (spans_rest t) in
              let l : length chosen < 82 = more_few new in
              Attempted.choose (λ p. new (at bond_sets p.2 (from_part bond_sets p.1)))
              (subst (λ (t : Choice). Stands t (chosen ++ (S ∷ []))) (sym (choose_more n (omega (arith, w.many, l)))) (more_stands n l))

  -- For every simple compound within the limits, in however many pieces, the model chooses what the plain method chooses, and its total is theirs.
  pub choice_plain : Plain c (plain_choice c).rings × ((plain_choice c).total ≡ total (len c) (plain_choice c).rings)
  unfolding plain_choice
  choice_plain =
      let (chosen, w, p) = run_plain c sound atoms bonds choose_ring Stands (λ k S s chosen w r l. tried k S s w r l) no_choice stands_none in
      (subst (Plain c) (sym w.rings) p, w.total ∙ ap (total (len c)) (sym w.rings))
