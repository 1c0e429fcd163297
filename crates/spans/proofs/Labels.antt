-- Labels on a list that is independent modulo S. An element has a label if it is a sum within that label: then one label
-- means interchangeable, and each level has as many elements of a label.
use mathlib.Core.Path.{◌≡◌, refl, sym, ◌∙◌, ap, subst}
use mathlib.Core.List.{List, [], ◌∷◌, ◌++◌, append_assoc}
use mathlib.Core.Logic.{◌⊎◌, inl, inr}
use mathlib.Core.HLevel.{dec→stable}
use Prim.Native.Nat.{ℕ}
use native.Mathlib.Decide.{ℕ_discrete}
use lib.ListN.{length}
use Rattle.spans.specs.Group.{Space}
use Rattle.spans.specs.Basis.{Part, All, Sum, Holding}
use Rattle.spans.proofs.Xor.{xor, right, cancel, undo, both_left}
use Rattle.spans.proofs.Lists.{part_append, part_trans, part_all, all_map, all_append, all_head, Perm, perm_sym, perm_right}
use Rattle.spans.proofs.Sift.{Sift, sift_unique, sift_holding, sifted}
use Rattle.spans.proofs.Labelled.{Labelled, its, within, without, relabel, Member, Names, Merges}
use Rattle.spans.proofs.Labelled.{its_part, member_all, member_part, own_members, member_relabel, listed_sift, within_members, within_part}
use Rattle.spans.proofs.Labelled.{part_relabel, within_mono, within_relabel, within_without, within_perm, member_within, member_perm}
use Rattle.spans.proofs.Span.{Span, at, zero, head, add, span_dec, through, own, mono, left_of, right_of, expand, from_part}
use Rattle.spans.proofs.Indep.{Indep, first, rest, indep_part, indep_perm, indep_right, span_apart}
use Rattle.spans.proofs.Interchange.{Swap, swap_refl, swap_sym, swap_trans, swap_used}
use Rattle.spans.proofs.Classes.{Level, same_count}

module _ {X : Type 0} (G : Space X) (S : List X) where
  open G use {o, ◌⊕◌, assoc, left}

  -- x has label l: it is no sum of S, and the sum of elements with label l and of S.
  pub record HasLabel (M : List (Labelled X)) (l : ℕ) (x : X) : Type 0 where
    pub inside : Span G (within l M ++ S) x
    pub fresh : ¬ Span G S x

  label_dec_by : {M : List (Labelled X)} {l : ℕ} {x : X} → Dec (Span G (within l M ++ S) x) → Dec (Span G S x) → Dec (HasLabel M l x)
  label_dec_by (yes s) (yes t) = no (λ h. h.fresh t)
  label_dec_by (yes s) (no n) = yes (record { inside = s; fresh = n })
  label_dec_by (no n) d = no (λ h. n h.inside)

  pub label_dec : (M : List (Labelled X)) (l : ℕ) (x : X) → Dec (HasLabel M l x)
  label_dec M l x = label_dec_by (span_dec G (within l M ++ S) x) (span_dec G S x)

  -- What differs by a sum of S has the same label.
  pub label_modulo : {M : List (Labelled X)} {l : ℕ} {x y : X} → Span G S (x ⊕ y) → HasLabel M l x → HasLabel M l y
  label_modulo {M} {l} {x} {y} s h =
      record {
        inside = at G (cancel G x y) (add G h.inside (right_of G (within l M) s));
        fresh = λ t. h.fresh (at G (undo G x y) (add G s t));
      }

  -- A label stays as the list grows.
  pub label_mono : {M N : List (Labelled X)} {l : ℕ} {x : X} → Part M N → HasLabel N l x → HasLabel M l x
  label_mono {l} p h = record { inside = mono G (part_append S (within_mono l p)) h.inside; fresh = h.fresh }

  -- Labels do not depend on the order of the list.
  pub label_perm : {M N : List (Labelled X)} {l : ℕ} {x : X} → Perm M N → HasLabel M l x → HasLabel N l x
  label_perm {M} {N} {l} p h =
      record { inside = through G (all_append moved (all_map (λ v s. right_of G (within l N) s) (own G S))) h.inside; fresh = h.fresh }
    where
      moved : All (Span G (within l N ++ S)) (within l M)
      moved = all_map (λ v q. left_of G S (mono G (member_within (member_perm p q)) (head G))) (within_members l M)

  -- What had label l has label f l.
  pub label_relabel : {M : List (Labelled X)} {l : ℕ} {x : X} (f : ℕ → ℕ) → HasLabel M l x → HasLabel (relabel f M) (f l) x
  label_relabel {M} {l} f h = record { inside = mono G (part_append S (within_relabel f l M)) h.inside; fresh = h.fresh }

  -- What is the sum of U modulo S has the label that the labels of U are merged into.
  pub label_merge : {M U : List (Labelled X)} {f : ℕ → ℕ} {l : ℕ} {x : X} → Part M U → Merges M U f l
      → Span G S (x ⊕ Sum G (its U)) → ¬ Span G S x → HasLabel (relabel f M) l x
  label_merge {M} {U} {f} {l} {x} p g s n =
      record {
        inside = at G (undo G x (Sum G (its U))) (add G (right_of G (within l (relabel f M)) s) (left_of G S (from_part G used)));
        fresh = n;
      }
    where
      used : Part (within l (relabel f M)) (its U)
      used = part_relabel f p (all_map (λ m q. g.one m.label (m.it, q)) (own_members U))

  -- The sum of a list, split into a sum with label j and the others.
  record Parted (M : List (Labelled X)) (j : ℕ) (R : List X) : Type 0 where
    inner : X
    from : Span G R inner
    inner_in : Span G (within j M ++ S) inner
    outer_in : Span G (without j M ++ S) (Sum G R ⊕ inner)

  module _ (M : List (Labelled X)) (i : Indep G (its M ++ S)) where
    within_indep : (l : ℕ) → Indep G (within l M ++ (without l M ++ S))
    within_indep l = rw (← append_assoc) (indep_perm G (perm_right S (within_perm l M)) i)

    in_without : {l j : ℕ} {x : X} → ¬ (l ≡ j) → HasLabel M j x → Span G (without l M ++ S) x
    in_without n h = mono G (part_append S (within_without M n)) h.inside

    pub label_unique : {l j : ℕ} {x : X} → HasLabel M l x → HasLabel M j x → l ≡ j
    label_unique {l} {j} a b =
        dec→stable (ℕ_discrete l j) (λ n. a.fresh (span_apart G (within l M) (without l M) S (within_indep l) a.inside (in_without n b)))

    -- A listed element has the label that it is listed with.
    pub member_label : {l : ℕ} {x : X} → Member l x M → HasLabel M l x
    member_label {l} q =
        let p = member_within q in
        record { inside = left_of G S (mono G p (head G)); fresh = first G (indep_part G (part_append S (part_trans (within_part l M) p)) i) }

    sift_within : {l : ℕ} {N L : List (Labelled X)} → Sift (λ m. m.label ≡ l) N L → All (λ m. HasLabel M m.label m.it) N
        → Sift (HasLabel M l) (its N) (its L)
    unfolding its
    sift_within Sift.nil All.nil = Sift.nil
    sift_within (Sift.inn {x = m} e s) (All.cons a r) = Sift.inn (subst (λ (j : ℕ). HasLabel M j m.it) e a) (sift_within s r)
    sift_within (Sift.out n s) (All.cons a r) = Sift.out (λ h. n (label_unique a h)) (sift_within s r)

    parted_step : {j k : ℕ} {x : X} {R : List X} → HasLabel M k x → Dec (j ≡ k) → Parted M j R → Parted M j (x ∷ R)
    unfolding Sum
    parted_step {x} {R} h (yes e) p =
        record {
          inner = x ⊕ p.inner;
          from = add G (head G) (Span.skip p.from);
          inner_in = add G (subst (λ (l : ℕ). Span G (within l M ++ S) x) (sym e) h.inside) p.inner_in;
          outer_in = at G (sym (both_left G x (Sum G R) p.inner)) p.outer_in;
        }
    parted_step {x} {R} h (no n) p =
        record {
          inner = p.inner;
          from = Span.skip p.from;
          inner_in = p.inner_in;
          outer_in = at G (sym (assoc x (Sum G R) p.inner)) (add G (in_without n h) p.outer_in);
        }

    parted : {R : List X} (j : ℕ) → All (λ x. (l : ℕ) × HasLabel M l x) R → Parted M j R
    unfolding Sum
    parted j All.nil =
        record { inner = o; from = Span.none refl; inner_in = zero G (within j M ++ S); outer_in = at G (sym (left o)) (zero G (without j M ++ S)) }
    parted j (All.cons h r) = parted_step h.1 (ℕ_discrete j h.0) (parted j r)

    module _ {P : X → Type 0} (labelled : (x : X) → P x → (l : ℕ) × HasLabel M l x) where
      -- Interchangeable elements have one label.
      pub swap_same_label : {l j : ℕ} {x y : X} → HasLabel M l x → HasLabel M j y → Swap G P S x y → l ≡ j
      unfolding Sum
      swap_same_label {l} {j} {x} {y} a b s = sym (dec→stable (ℕ_discrete j l) not_apart)
        where
          p : Parted M j s.others
          p = parted j (all_map labelled s.have)

          solve : (t w : X) → (x ⊕ (x ⊕ (y ⊕ t))) ⊕ (t ⊕ w) ≡ y ⊕ w
          solve t w = simp (xor, G)

          outside : ¬ (j ≡ l) → Span G (without j M ++ S) (y ⊕ p.inner)
          outside n = at G (solve (Sum G s.others) p.inner) (add G (add G (in_without n a) (right_of G (without j M) s.sum)) p.outer_in)

          vanishes : ¬ (j ≡ l) → Span G S (y ⊕ p.inner)
          vanishes n = span_apart G (within j M) (without j M) S (within_indep j) (add G b.inside p.inner_in) (outside n)

          not_apart : ¬ ¬ (j ≡ l)
          not_apart n = first G s.indep (at G (undo G y p.inner) (add G (right_of G s.others (vanishes n)) (left_of G S p.from)))

      label_closed : {l : ℕ} {x y : X} → P y → HasLabel M l x → Swap G P S x y → HasLabel M l y
      label_closed {y} py h s = let (j, k) = labelled y py in subst (λ (n : ℕ). HasLabel M n y) (sym (swap_same_label h k s)) k

      -- Each level has as many elements with label l as are listed.
      pub label_count : (l : ℕ) {N : List X} → Level G P S (its M) → Level G P S N → Holding (HasLabel M l) N (length (within l M))
      unfolding within
      label_count l {N} m n =
          let K = HasLabel M l in
          let e = same_count G P S K (label_dec M l) (λ x y px py h s. label_closed py h s) N (its M) n m in
          let r = sift_unique K (sifted K (label_dec M l) (its M)) (sift_within (listed_sift l M) (all_map (λ m q. member_label q) (own_members M))) in
          subst (λ (c : ℕ). Holding K N c) (e ∙ ap length r) (sift_holding K (sifted K (label_dec M l) N))

module _ {X : Type 0} (G : Space X) (P : X → Type 0) (S : List X) where
  open G use {◌⊕◌}

  -- Any two elements listed with one label are interchangeable.
  pub record Joined (M : List (Labelled X)) : Type 0 where
    pub joined : {l : ℕ} {x y : X} → Member l x M → Member l y M → Swap G P S x y

  -- This stays as an element outside the span is listed with a new label.
  pub joined_mark : {M : List (Labelled X)} (m : Labelled X) → Indep G (m.it ∷ (its M ++ S))
      → ¬ Names M m.label → Joined M → Joined (m ∷ M)
  joined_mark {M} m i fresh c = record { joined = related }
    where
      own_indep : Indep G (m.it ∷ S)
      own_indep = Indep.more (λ s. first G i (right_of G (its M) s)) (indep_right G (its M) S (rest G i))

      related : {l : ℕ} {x y : X} → Member l x (m ∷ M) → Member l y (m ∷ M) → Swap G P S x y
      related {y} (Member.here e h) (Member.here d k) =
          subst (λ (u : X). Swap G P S u y) e (subst (λ (u : X). Swap G P S m.it u) d (swap_refl G P S own_indep))
      related {y} (Member.here e h) (Member.there q) = absurd (fresh (y, subst (λ (j : ℕ). Member j y M) (sym h) q))
      related {x} (Member.there p) (Member.here d k) = absurd (fresh (x, subst (λ (j : ℕ). Member j x M) (sym k) p))
      related (Member.there p) (Member.there q) = c.joined p q

  pub joined_perm : {M N : List (Labelled X)} → Perm M N → Joined M → Joined N
  joined_perm p c = record { joined = λ q r. c.joined (member_perm (perm_sym p) q) (member_perm (perm_sym p) r) }

  module _ {M : List (Labelled X)} (i : Indep G (its M ++ S)) (have : All P (its M)) (c : Joined M) where
    -- It stays as the labels of U become one, where some x that has P is the sum of U modulo S.
    module _ {U : List (Labelled X)} {x : X} (p : Part M U) (px : P x) (s : Span G S (x ⊕ Sum G (its U))) where
      swap_named : {j : ℕ} {y : X} → Member j y M → Names U j → Swap G P S x y
      swap_named q (u, r) =
          let h = part_all (its_part p) have in
          swap_trans G P S (member_all U r (swap_used G P S (its U) h (indep_part G (part_append S (its_part p)) i) s)) (c.joined (member_part p r) q)
          (member_all U r h)

      pub joined_merge : {f : ℕ → ℕ} {l : ℕ} → Merges M U f l → Joined (relabel f M)
      joined_merge {f} g = record { joined = λ q r. related (member_relabel M q) (member_relabel M r) }
        where
          by_cases : {j k : ℕ} {y z : X} → Member j y M → Member k z M → (j ≡ k) ⊎ (Names U j × Names U k) → Swap G P S y z
          by_cases {y} q r (inl e) = c.joined (subst (λ (n : ℕ). Member n y M) e q) r
          by_cases q r (inr (a, b)) = swap_trans G P S (swap_sym G P S (swap_named q a)) (swap_named r b) px

          related : {l : ℕ} {y z : X} → (j : ℕ) × Member j y M × (f j ≡ l) → (k : ℕ) × Member k z M × (f k ≡ l) → Swap G P S y z
          related {y} {z} (j, q, d) (k, r, e) = by_cases q r (g.apart j k (y, q) (z, r) (d ∙ sym e))

    represented_by : {l : ℕ} {x : X} (Z : List X) → Part (within l M) Z → Span G S (x ⊕ Sum G Z) → ¬ Span G S x → (z : X) × Member l z M × Swap G P S x z
    unfolding Sum
    represented_by [] p s n = absurd (n (at G (right G _) s))
    represented_by {l} (z ∷ Z) p s n = (
      z,
      all_head (part_all p (within_members l M)),
      all_head (swap_used G P S (z ∷ Z) (part_all p (part_all (within_part l M) have)) (indep_part G (part_append S (part_trans (within_part l M) p)) i) s),
    )

    -- What has a label is interchangeable with an element listed with it.
    represented : {l : ℕ} {x : X} → HasLabel G S M l x → (z : X) × Member l z M × Swap G P S x z
    represented {l} h = let t = expand G (within l M) S h.inside in represented_by t.used t.part t.remains h.fresh

    -- Elements with one label are interchangeable.
    pub same_label_swap : {l : ℕ} {x y : X} → HasLabel G S M l x → HasLabel G S M l y → Swap G P S x y
    same_label_swap a b =
        let (w, p, s) = represented a in
        let (z, q, t) = represented b in
        swap_trans G P S s (swap_trans G P S (c.joined p q) (swap_sym G P S t) (member_all M q have)) (member_all M p have)
