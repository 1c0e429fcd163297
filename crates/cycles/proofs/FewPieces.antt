-- A compound in several pieces with at most 96 bonds has at most 82 independent closed sets: its pieces, joined at their roots, are one simple
-- compound with the same bonds.
use mathlib.Core.Path.{◌≡◌, refl, sym, ap, ◌∙◌, subst}
use mathlib.Core.Bool.{cond}
use mathlib.Core.List.{List, [], ◌∷◌, map}
use mathlib.Core.Logic.{◌⊎◌, inl, inr, ⊎_elim}
use Prim.Native.Nat.{ℕ, zero, suc, ◌+◌, ◌*◌, ◌-◌, ◌/◌, ◌<◌, ◌≤◌}
use native.Mathlib.Omega.{arith}
use native.Mathlib.Decide.{ℕ_discrete}
use borrow.Author.Tests.{eq-eqb, ne_eqb}
use lib.Dec.{eqb}
use lib.ListN.{length, get_or, length-map}
use Rattle.spans.specs.Basis.{All}
use Rattle.spans.proofs.Lists.{all_map}
use Rattle.spans.proofs.Indep.{Indep}
use Rattle.spans.proofs.Steinitz.{steinitz, spanned}
use Rattle.bondset.proofs.Group.{bond_sets}
use Rattle.bondset.proofs.Laws.{lt_or_ge}
use Rattle.cycles.specs.Compound.{Compound, m, one, other, Joins, Sound}
use Rattle.cycles.specs.Ring.{Closed}
use Rattle.cycles.proofs.Edges.{is}
use Rattle.cycles.proofs.Dimension.{Rooted, roots_to, closed_basis, dimension}
use Rattle.cycles.proofs.Pieces.{rooted_exists}
use Rattle.cycles.proofs.Few.{cyclomatic_few}

get_or_map : (f : ℕ → ℕ) (xs : List ℕ) (i : ℕ) → i < length xs → get_or (map f xs) i 0 ≡ f (get_or xs i 0)
get_or_map f [] i h = absurd (omega arith)
get_or_map f (x ∷ xs) zero h = refl
get_or_map f (x ∷ xs) (suc i) h = get_or_map f xs i (omega arith)

module _ (root : ℕ → ℕ) where
  -- How many of the atoms below i are no roots.
  leaves_to : ℕ → ℕ
  leaves_to zero = 0
  leaves_to (suc i) = 1 - is (root i) i + leaves_to i

  is_few : (u a : ℕ) → is u a ≤ 1
  is_few u a = elim (ℕ_discrete u a) [ yes e ↦ rw (eq-eqb u a e) (omega arith) | no n ↦ rw (ne_eqb u a n) (omega arith) ]

  leaves_roots : (i : ℕ) → leaves_to i + roots_to root i ≡ i
  unfolding leaves_to roots_to
  leaves_roots zero = refl
  leaves_roots (suc i) = omega (arith, leaves_roots i, is_few (root i) i)

  leaves_more : (a b : ℕ) → (root a ≡ a → ⊥) → a < b → leaves_to a < leaves_to b
  unfolding leaves_to
  leaves_more a zero n h = absurd (omega arith)
  leaves_more a (suc b) n h =
      ⊎_elim (λ (l : a < b). let rest = leaves_more a b n l in omega arith)
      (λ (l : b ≤ a). let e : a ≡ b = omega arith in subst (λ (x : ℕ). leaves_to a < 1 - is (root x) x + leaves_to x) e (rw (ne_eqb (root a) a n) (omega arith)))
      (lt_or_ge a b)

  -- All roots become one atom.
  merge : ℕ → ℕ
  merge a = cond (eqb (root a) a) 0 (suc (leaves_to a))

  merge_root : (a : ℕ) → root a ≡ a → merge a ≡ 0
  unfolding merge
  merge_root a e = rw (eq-eqb (root a) a e) refl

  merge_leaf : (a : ℕ) → (root a ≡ a → ⊥) → merge a ≡ suc (leaves_to a)
  unfolding merge
  merge_leaf a n = rw (ne_eqb (root a) a n) refl

  merge_lt : (n a : ℕ) → a < n → merge a < suc (leaves_to n)
  merge_lt n a h = elim (ℕ_discrete (root a) a) [
    | yes e ↦ omega (arith, merge_root a e)
    | no k ↦ omega (arith, merge_leaf a k, leaves_more a n k h)
  ]

  -- Atoms that become one are roots, or the same.
  merge_same : (a b : ℕ) → merge a ≡ merge b → ((root a ≡ a) × (root b ≡ b)) ⊎ (a ≡ b)
  merge_same a b e = go (ℕ_discrete (root a) a) (ℕ_discrete (root b) b)
    where
      go : Dec (root a ≡ a) → Dec (root b ≡ b) → ((root a ≡ a) × (root b ≡ b)) ⊎ (a ≡ b)
      go (yes p) (yes q) = inl (p, q)
      go (yes p) (no q) = absurd (omega (arith, e, merge_root a p, merge_leaf b q))
      go (no p) (yes q) = absurd (omega (arith, e, merge_leaf a p, merge_root b q))
      go (no p) (no q) =
          ⊎_elim (λ l. absurd (omega (arith, e, merge_leaf a p, merge_leaf b q, leaves_more a b p l)))
          (λ l. ⊎_elim (λ g. absurd (omega (arith, e, merge_leaf a p, merge_leaf b q, leaves_more b a q g))) (λ g. inr (omega arith)) (lt_or_ge b a))
          (lt_or_ge a b)

module _ (c : Compound) (sound : Sound c) (root : ℕ → ℕ) (rooted : Rooted c root) where
  -- The pieces joined at their roots.
  merged : Compound
  merged = record { n = suc (leaves_to root c.n); bytes = map (merge root) c.bytes }

  merged_m : m merged ≡ m c
  unfolding merged
  merged_m = ap (λ (i : ℕ). i / 2) (length-map c.bytes (merge root))

  -- A bond of these comes from a bond.
  record From (k x y : ℕ) : Type 0 where
    a : ℕ
    b : ℕ
    joins : Joins c k a b
    first : merge root a ≡ x
    second : merge root b ≡ y

  ends_are : (k : ℕ) → k < m c → (one merged k ≡ merge root (one c k)) × (other merged k ≡ merge root (other c k))
  unfolding merged
  ends_are k h = (get_or_map (merge root) c.bytes (2 * k) (omega arith), get_or_map (merge root) c.bytes (2 * k + 1) (omega arith))

  from : {k x y : ℕ} → Joins merged k x y → From k x y
  from {k} (Joins.given h e f) =
      let l : k < m c = omega (arith, merged_m) in
      let w = ends_are k l in
      record { a = one c k; b = other c k; joins = Joins.given l refl refl; first = sym w.0 ∙ e; second = sym w.1 ∙ f }
  from {k} (Joins.turned h e f) =
      let l : k < m c = omega (arith, merged_m) in
      let w = ends_are k l in
      record { a = other c k; b = one c k; joins = Joins.turned l refl refl; first = sym w.1 ∙ e; second = sym w.0 ∙ f }

  -- Not both ends of a bond are roots.
  not_both : {k a b : ℕ} → Joins c k a b → root a ≡ a → root b ≡ b → ⊥
  not_both {k} {a} {b} j p q =
      let e : a ≡ b = sym p ∙ rooted.bonded a b (k, j) ∙ q in sound.no_loop k b (subst (λ (x : ℕ). Joins c k x b) e j)

  same_ends : {j k a b a' b' : ℕ} → Joins c j a b → Joins c k a' b' → merge root a ≡ merge root a' → merge root b ≡ merge root b' → (a ≡ a') × (b ≡ b')
  same_ends {j} {k} {a} {b} {a'} {b'} s t e f = go (merge_same root a a' e) (merge_same root b b' f)
    where
      up : root a ≡ root b
      up = rooted.bonded a b (j, s)

      up' : root a' ≡ root b'
      up' = rooted.bonded a' b' (k, t)

      go : ((root a ≡ a) × (root a' ≡ a')) ⊎ (a ≡ a') → ((root b ≡ b) × (root b' ≡ b')) ⊎ (b ≡ b') → (a ≡ a') × (b ≡ b')
      go (inl p) (inl q) = absurd (not_both s p.0 q.0)
      go (inl p) (inr q) = (sym p.0 ∙ up ∙ ap root q ∙ sym up' ∙ p.1, q)
      go (inr p) (inl q) = (p, sym q.0 ∙ sym up ∙ ap root p ∙ up' ∙ q.1)
      go (inr p) (inr q) = (p, q)

  merged_n : merged.n ≡ suc (leaves_to root c.n)
  unfolding merged
  merged_n = refl

  merged_named : {k x y : ℕ} → From k x y → x < merged.n
  merged_named {k} {x} w =
      subst (λ (z : ℕ). z < merged.n) w.first (omega (arith, merged_n, merge_lt root c.n w.a (sound.named k w.a w.b w.joins)))

  merged_no_loop : {k x : ℕ} → From k x x → ⊥
  merged_no_loop {k} w =
      ⊎_elim (λ p. not_both w.joins p.0 p.1) (λ e. sound.no_loop k w.b (subst (λ (x : ℕ). Joins c k x w.b) e w.joins))
      (merge_same root w.a w.b (w.first ∙ sym w.second))

  merged_once : {j k x y : ℕ} → From j x y → From k x y → j ≡ k
  merged_once {j} {k} u w =
      let (e, f) = same_ends u.joins w.joins (u.first ∙ sym w.first) (u.second ∙ sym w.second) in
      sound.once j k w.a w.b (subst (Joins c j w.a) f (subst (λ (x : ℕ). Joins c j x u.b) e u.joins)) w.joins

  -- Joined so the compound is simple still.
  merged_sound : Sound merged
  merged_sound = record {
    named = λ k a b j. merged_named (from j);
    no_loop = λ k a j. merged_no_loop (from j);
    once = λ j k a b s t. merged_once (from s) (from t);
  }

  few_from : (B : List ℕ) → length B + c.n ≡ m c + roots_to root c.n → m c ≤ 96 → length B ≤ 82
  few_from B e h =
      let l : m merged ≤ 96 = omega (arith, merged_m) in
      omega (arith, e, merged_m, merged_n, leaves_roots root c.n, cyclomatic_few merged merged_sound l)

-- Independent closed sets of a simple compound with at most 96 bonds, in however many pieces, are at most 82.
pub closed_few : (c : Compound) → Sound c → m c ≤ 96 → {xs : List ℕ} → Indep bond_sets xs → All (Closed c) xs → length xs ≤ 82
closed_few c sound l {xs} i a =
    let (root, rooted) = rooted_exists c sound in
    let (B, b) = closed_basis c sound in
    let h : length xs ≤ length B = steinitz bond_sets i (all_map (spanned bond_sets b.spans) a) in
    let few : length B ≤ 82 = few_from c sound root rooted B (dimension c sound root rooted B b) l in
    omega arith
