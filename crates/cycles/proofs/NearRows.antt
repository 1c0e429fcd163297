-- Rule 2 on the rows of a right report: what is near is told by two numbers of each row, its length and its key.
use mathlib.Core.Path.{◌≡◌, refl, sym, ◌∙◌, ap, subst}
use mathlib.Core.List.{List, [], ◌∷◌, ◌++◌}
use mathlib.Core.Logic.{◌↔◌, ◌⊎◌, inl, inr}
use Prim.Native.Nat.{ℕ, suc, ◌+◌, ◌/◌, ◌^◌, ◌<◌, ◌≤◌}
use native.Mathlib.Omega.{arith}
use native.Mathlib.Nat.{le_refl}
use lib.ListN.{length, get_or, take, length-append}
use lib.Pow.{pow-lt, pow_mono}
use lib.Seq.{take-append_seam}
use Rattle.spans.specs.Basis.{Holding}
use Rattle.spans.specs.Elements.{◌∈◌}
use Rattle.spans.proofs.Span.{Span, at, from_part}
use Rattle.bondset.specs.Reduction.{combine, used, Reduction}
use Rattle.bondset.proofs.Laws.{lt_or_ge}
use Rattle.bondset.proofs.ReductionTags.{combine_single, combine_take}
use Rattle.bondset.proofs.ReductionTheorems.{reduction_rest}
use Rattle.bondset.proofs.Group.{bond_sets}
use Rattle.cycles.specs.Compound.{Compound, Sound}
use Rattle.cycles.specs.Ring.{len}
use Rattle.cycles.specs.Basis.{Minimum}
use Rattle.cycles.specs.Family.{Family, Prototype, Member, Kept}
use Rattle.cycles.specs.Near.{Near}
use Rattle.cycles.specs.Rows.{At, Report, Right}
use Rattle.cycles.proofs.Families.{prototype_member}
use Rattle.cycles.proofs.Bases.{prototype_long, marked_spans}
use Rattle.cycles.proofs.Ranks.{at_below, at_unique, element_at}
use Rattle.cycles.proofs.ExplainedRows.{short_of}
use Rattle.cycles.proofs.Near.{near_sym, near_trans, members_near, minimum_near_once}
use Rattle.cycles.proofs.NearTags.{marked_near_iff}

-- ---- no minimum basis holds two
holding_some : {X : Type 0} {K : X → Type 0} {xs : List X} {n : ℕ} → 0 < n → Holding K xs n → (i : ℕ) × (x : X) × At xs i x × K x
holding_some h Holding.none = absurd (omega arith)
holding_some h (Holding.inn {x = x} k s) = (0, x, At.here, k)
holding_some h (Holding.out k s) = let (i, x, a, l) = holding_some h s in (suc i, x, At.later a, l)

-- A list in which what has K stands at one place holds at most one of that kind.
holding_one : {X : Type 0} {K : X → Type 0} {xs : List X} {n : ℕ}
    → ((i j : ℕ) (x y : X) → At xs i x → At xs j y → K x → K y → i ≡ j) → Holding K xs n → n ≤ 1
holding_one once Holding.none = omega arith
holding_one once (Holding.out k s) = holding_one (λ i j x y a b p q. let e = once (suc i) (suc j) x y (At.later a) (At.later b) p q in omega arith) s
holding_one {n} once (Holding.inn {x = x} {n = l} k s) = go (lt_or_ge 0 l)
  where
    go : (0 < l) ⊎ (l ≤ 0) → suc l ≤ 1
    go (inl h) = let (i, y, a, p) = holding_some h s in let e = once 0 (suc i) x y At.here (At.later a) k p in absurd (omega arith)
    go (inr h) = omega arith

module _ (c : Compound) (sound : Sound c) {B : List ℕ} (minimum : Minimum c B) where
  -- "no minimum basis holds two rings of it": at most one of its members is near a given ring.
  pub minimum_near_at_most_one : {C n : ℕ} → Holding (Near c C) B n → n ≤ 1
  minimum_near_at_most_one =
      holding_one (λ i j D E a b p q. minimum_near_once c sound minimum a b (near_trans c (near_sym c p) q))

  -- Near members of a minimum basis are the same.
  pub minimum_near_same : {C D : ℕ} → C ∈ B → D ∈ B → Near c C D → C ≡ D
  minimum_near_same {C} {D} a b s =
      let (i, p) = element_at a in
      let (j, q) = element_at b in
      at_unique (subst (λ (k : ℕ). At B k C) (minimum_near_once c sound minimum p q s) p) q

-- ---- rows
take_all : (xs : List ℕ) → take (length xs) xs ≡ xs
take_all [] = refl
take_all (x ∷ xs) = ap (λ (ys : List ℕ). x ∷ ys) (take_all xs)

combine_front : (xs ys : List ℕ) (t : ℕ) → t < 2 ^ length xs → combine (xs ++ ys) t ≡ combine xs t
combine_front xs ys t h = combine_take (length xs) (xs ++ ys) t h ∙ ap (λ (zs : List ℕ). combine zs t) (take-append_seam xs ys)

pow_more : (a b n t : ℕ) → n ≡ a + b → t < 2 ^ a → t < 2 ^ n
pow_more a b n t e h = let l : 2 ^ a ≤ 2 ^ n = pow_mono (omega arith) in omega arith

at_get_d : {xs : List ℕ} {i x : ℕ} → At xs i x → get_or xs i 0 ≡ x
at_get_d At.here = refl
at_get_d (At.later a) = at_get_d a

module _ (c : Compound) (sound : Sound c) (rank : ℕ → ℕ) where
  -- Members of two families are near exactly if the prototypes are.
  pub members_near_iff : {f g : Family} {C D S T : ℕ} → Member c rank f C → Member c rank g D → Prototype c rank f S → Prototype c rank g T
      → Near c C D ↔ Near c S T
  members_near_iff a b p q =
      let s = members_near c sound rank a (prototype_member c sound rank p) in
      let t = members_near c sound rank b (prototype_member c sound rank q) in
      (λ n. near_trans c (near_sym c s) (near_trans c n t), λ n. near_trans c s (near_trans c n (near_sym c t)))

  module _ (injective : (a b : ℕ) → a < c.n → b < c.n → rank a ≡ rank b → a ≡ b) {R : Report} (right : Right c rank R) where
    -- The key of a family: the digits of the tag of its prototype from the number of the shorter marked rings on.
    pub record Key (f : Family) (key : ℕ) : Type 0 where
      pub ring : ℕ
      pub prototype : Prototype c rank f ring
      pub tag : ℕ
      pub below : tag < 2 ^ length right.basis
      pub names : ring ≡ combine right.basis tag
      pub is : key ≡ tag / 2 ^ short_of c right f.long

    -- Rings are near exactly if their families have one length and one key.
    pub near_iff_keys : {f g : Family} {C D k l : ℕ} → Member c rank f C → Member c rank g D → Key f k → Key g l
        → Near c C D ↔ ((f.long ≡ g.long) × (k ≡ l))
    near_iff_keys {f} {g} {C} {D} {k} {l} a b s t = (to, back)
      where
        pair : Near c C D ↔ Near c s.ring t.ring
        pair = members_near_iff a b s.prototype t.prototype

        long_s : len c s.ring ≡ f.long
        long_s = prototype_long c sound rank s.prototype

        long_t : len c t.ring ≡ g.long
        long_t = prototype_long c sound rank t.prototype

        tags : len c s.ring ≡ len c t.ring
            → Near c s.ring t.ring ↔ (s.tag / 2 ^ short_of c right (len c s.ring) ≡ t.tag / 2 ^ short_of c right (len c s.ring))
        tags e = marked_near_iff c sound rank injective right e s.names t.names s.below t.below

        key_s : k ≡ s.tag / 2 ^ short_of c right (len c s.ring)
        key_s = s.is ∙ ap (λ (n : ℕ). s.tag / 2 ^ short_of c right n) (sym long_s)

        key_t : len c s.ring ≡ len c t.ring → l ≡ t.tag / 2 ^ short_of c right (len c s.ring)
        key_t e = t.is ∙ ap (λ (n : ℕ). t.tag / 2 ^ short_of c right n) (sym (e ∙ long_t))

        to : Near c C D → (f.long ≡ g.long) × (k ≡ l)
        to n =
            let near = pair.0 n in
            (sym long_s ∙ near.long ∙ long_t, key_s ∙ (tags near.long).0 near ∙ sym (key_t near.long))

        back : (f.long ≡ g.long) × (k ≡ l) → Near c C D
        back (e, d) =
            let same : len c s.ring ≡ len c t.ring = long_s ∙ e ∙ sym long_t in
            pair.1 ((tags same).1 (sym key_s ∙ d ∙ key_t same))

    -- The tag of the i-th marked ring names that ring alone.
    pub marked_tag : {i S : ℕ} → At right.basis i S → (S ≡ combine right.basis (2 ^ i)) × (2 ^ i < 2 ^ length right.basis)
    marked_tag {i} a = (sym (combine_single right.basis i ∙ at_get_d a), pow-lt (at_below a))

    -- A tag over the first marked rings names the same over all.
    pub early_tag : {S t : ℕ} (front rest : List ℕ) → right.basis ≡ front ++ rest → t < 2 ^ length front → S ≡ combine front t
        → (S ≡ combine right.basis t) × (t < 2 ^ length right.basis)
    early_tag {S} {t} front rest e h n =
        let all = n ∙ sym (combine_front front rest t h) in
        (rw e all, rw e (pow_more (length front) (length rest) (length (front ++ rest)) t (length-append front rest) h))

    -- By a reduction over the marked rings every kept family has its key.
    pub reduction_key : {rows tags pivots : List ℕ} {f : Family} → Reduction rows tags pivots right.basis → (kept : Kept c rank f)
        → Key f (used rows tags pivots 0 (length right.basis) kept.ring 0 / 2 ^ short_of c right f.long)
    reduction_key {rows} {tags} {pivots} {f} state kept =
        let w = reduction_rest state (length right.basis) (le_refl (length right.basis)) kept.ring in
        let (part, p, e) = marked_spans c sound rank injective right kept.ring kept.relevant.ring.closed in
        let spanned = subst (λ (B : List ℕ). Span bond_sets B kept.ring) (sym (take_all right.basis)) (at bond_sets e (from_part bond_sets p)) in
        record {
          ring = kept.ring;
          prototype = kept.prototype;
          tag = used rows tags pivots 0 (length right.basis) kept.ring 0;
          below = w.below;
          names = w.names (w.empty spanned);
          is = refl;
        }
