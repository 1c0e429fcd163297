-- The labels along the events of one length: one label means interchangeable, and every prototype so far has the label of the index that it names.
use mathlib.Core.Path.{◌≡◌, refl, sym, ◌∙◌, ap, subst}
use mathlib.Core.List.{List, [], ◌∷◌, ◌++◌, append_assoc}
use mathlib.Core.Logic.{⊎_elim}
use Prim.Native.Nat.{ℕ, ◌+◌, ◌-◌, ◌*◌, ◌/◌, ◌^◌, ◌<◌, ◌≤◌}
use native.Mathlib.Nat.{lt_of_lt_of_le}
use native.Mathlib.Omega.{arith}
use native.Mathlib.Decide.{ℕ_discrete}
use lib.Bits.{bit_xor}
use lib.Count.{count_trailing_zeros}
use lib.ListN.{length, get_or, set, length-append}
use lib.Pow.{pow_mono}
use lib.Seq.{get_or-set_same, get_or-set_other}
use Rattle.spans.specs.Basis.{Part, All, Sum}
use Rattle.spans.proofs.Lists.{part_refl, all_append, perm_sym, perm_front, perm_comm, Perm}
use Rattle.spans.proofs.Span.{Span, at, span_perm}
use Rattle.spans.proofs.Xor.{right}
use Rattle.spans.proofs.Indep.{Indep, indep_perm}
use Rattle.spans.proofs.Short.{SpansShort, relevant_not_span}
use Rattle.spans.proofs.Replace.{RelevantOf}
use Rattle.spans.proofs.Labelled.{Labelled, its, relabel, Member, Names, Merges, merges, member_perm}
use Rattle.spans.proofs.Labels.{HasLabel, Joined, label_mono, label_perm, label_relabel, label_merge, member_label, joined_mark, joined_perm, joined_merge}
use Rattle.bondset.specs.Sets.{bit}
use Rattle.bondset.specs.Reduction.{named_by}
use Rattle.bondset.proofs.Group.{bond_sets}
use Rattle.bondset.proofs.Laws.{Trailing, trailing, lt_or_ge}
use Rattle.cycles.specs.Compound.{Compound}
use Rattle.cycles.specs.Ring.{len, Closed}
use Rattle.model.specs.State.{labels_in, joined}
use Rattle.model.proofs.NetBits.{lt_of_has}
use Rattle.model.proofs.NumbersTable.{Least}
use Rattle.model.proofs.NumbersJoin.{bit_pos, Labels, labels_in_lem, merge, merge_in, merge_out, joined_at}
use Rattle.model.proofs.NumbersList.{labelled, labelled_its, labelled_relabel, labelled_push, labelled_from}
use Rattle.model.proofs.NumbersList.{named, named_its, named_part, named_from, named_of, bit_above, bit_under}

-- The label of an index.
abbrev pub label_of : List ℕ → ℕ → ℕ
label_of labels j = get_or labels j 0

-- One more index, its own label.
least_push : {s n d : ℕ} {lab new : ℕ → ℕ} (p : ℕ) → p ≡ s + n → Least s n lab → d ≡ n + 1 → new p ≡ p → ((j : ℕ) → j < p → new j ≡ lab j) → Least s d new
least_push {s} {n} {d} {lab} {new} p q L e here same =
    record {
      low = λ j h t. go_low j h t (ℕ_discrete j p);
      least = λ j h t. go_least j h t (ℕ_discrete j p);
      own_label = λ j h t. go_own j h t (ℕ_discrete j p);
    }
  where
    go_low : (j : ℕ) → s ≤ j → j < s + d → Dec (j ≡ p) → s ≤ new j
    go_low j h t (yes r) = rw r (omega arith)
    go_low j h t (no r) = omega (arith, L.low j h (omega (arith, r)), same j (omega (arith, r)))

    go_least : (j : ℕ) → s ≤ j → j < s + d → Dec (j ≡ p) → new j ≤ j
    go_least j h t (yes r) = rw r (omega arith)
    go_least j h t (no r) = omega (arith, L.least j h (omega (arith, r)), same j (omega (arith, r)))

    go_own : (j : ℕ) → s ≤ j → j < s + d → Dec (j ≡ p) → new (new j) ≡ new j
    go_own j h t (yes r) = rw (r, here) here
    go_own j h t (no r) =
        let b : j < s + n = omega (arith, r) in
        rw (same j (omega arith)) (same (lab j) (omega (arith, L.least j h b)) ∙ L.own_label j h b)

-- Labels of a set that become the least of it.
least_merge : {s n w : ℕ} {lab new : ℕ → ℕ} → Least s n lab → Trailing 128 w (count_trailing_zeros 128 w)
    → ((l : ℕ) → bit w l ≡ 1 → (j : ℕ) × (s ≤ j) × (j < s + n) × (lab j ≡ l)) → ((j : ℕ) → s ≤ j → j < s + n → new j ≡ merge w (lab j)) → Least s n new
least_merge {s} {n} {w} {lab} {new} L low from is =
    record {
      low = λ j h t. go_low j h t (ℕ_discrete (bit w (lab j)) 1);
      least = λ j h t. go_least j h t (ℕ_discrete (bit w (lab j)) 1);
      own_label = λ j h t. go_own j h t (ℕ_discrete (bit w (lab j)) 1);
    }
  where
    to_least : (j : ℕ) → s ≤ j → j < s + n → bit w (lab j) ≡ 1 → new j ≡ count_trailing_zeros 128 w
    to_least j h t e = is j h t ∙ merge_in w (lab j) e

    to_self : (j : ℕ) → s ≤ j → j < s + n → (bit w (lab j) ≡ 1 → ⊥) → new j ≡ lab j
    to_self j h t e = is j h t ∙ merge_out w (lab j) e

    least_low : s ≤ count_trailing_zeros 128 w
    least_low = let (j, h, t, e) = from (count_trailing_zeros 128 w) low.here in omega (arith, L.low j h t)

    least_own : lab (count_trailing_zeros 128 w) ≡ count_trailing_zeros 128 w
    least_own = let (j, h, t, e) = from (count_trailing_zeros 128 w) low.here in ap lab (sym e) ∙ L.own_label j h t ∙ e

    least_below : (l : ℕ) → bit w l ≡ 1 → count_trailing_zeros 128 w ≤ l
    least_below l e =
        ⊎_elim (λ (h : l < count_trailing_zeros 128 w). absurd (omega (arith, low.below l h))) (λ (h : count_trailing_zeros 128 w ≤ l). h)
        (lt_or_ge l (count_trailing_zeros 128 w))

    go_low : (j : ℕ) → s ≤ j → j < s + n → Dec (bit w (lab j) ≡ 1) → s ≤ new j
    go_low j h t (yes e) = rw (to_least j h t e) least_low
    go_low j h t (no e) = rw (to_self j h t e) (L.low j h t)

    go_least : (j : ℕ) → s ≤ j → j < s + n → Dec (bit w (lab j) ≡ 1) → new j ≤ j
    go_least j h t (yes e) = omega (arith, to_least j h t e, least_below (lab j) e, L.least j h t)
    go_least j h t (no e) = rw (to_self j h t e) (L.least j h t)

    go_own : (j : ℕ) → s ≤ j → j < s + n → Dec (bit w (lab j) ≡ 1) → new (new j) ≡ new j
    go_own j h t (yes e) =
        rw (to_least j h t e)
        (to_least (count_trailing_zeros 128 w) least_low (omega (arith, least_below (lab j) e, L.least j h t)) (rw least_own low.here))
    go_own j h t (no e) =
        rw (to_self j h t e)
        (to_self (lab j) (L.low j h t) (omega (arith, L.least j h t)) (λ d. e (rw (L.own_label j h t) at d)) ∙ L.own_label j h t)

-- What is no sum of S, and is one of S and U, uses some of U.
names_some : {S : List ℕ} {x : ℕ} → ¬ Span bond_sets S x → (U : List (Labelled ℕ)) → Span bond_sets S (bit_xor x (Sum bond_sets (its U)))
    → (l : ℕ) × Names U l
unfolding Sum its bond_sets
names_some {x} n [] s = absurd (n (at bond_sets (right bond_sets x) s))
names_some n (m ∷ U) s = (m.label, (m.it, Member.here refl refl))

-- Relevant, and of length k.
abbrev pub OfLength : Compound → ℕ → ℕ → Type 0
OfLength c k x = RelevantOf bond_sets (len c) (Closed c) k x

module _ (c : Compound) (k : ℕ) (S : List ℕ) where
  -- The marked rings of length k with their labels.
  abbrev pub rings_of : List ℕ → List ℕ → List (Labelled ℕ)
  rings_of M labels = labelled (label_of labels) (length S) M

  -- The ring has the label of the index j.
  abbrev pub LabelOf : List ℕ → List ℕ → ℕ → ℕ → Type 0
  LabelOf M labels j x = HasLabel bond_sets S (rings_of M labels) (label_of labels j) x

  -- One label means interchangeable, and is the least index that has it.
  pub record Inv (M labels : List ℕ) : Type 0 where
    pub independent : Indep bond_sets (M ++ S)
    pub relevant : All (OfLength c k) M
    pub joined : Joined bond_sets (OfLength c k) S (rings_of M labels)
    pub least : Least (length S) (length M) (label_of labels)

  -- What an event leaves: the labels that there were stay, up to joining, and the ring x has the label of the index i.
  pub record Next (M labels N after : List ℕ) (i x : ℕ) : Type 0 where
    pub inv : Inv N after
    pub keeps : (j y : ℕ) → length S ≤ j → j < length S + length M → LabelOf M labels j y → LabelOf N after j y
    pub own : LabelOf N after i x
    pub low : length S ≤ i
    pub under : i < length S + length N

  module _ (indep : Indep bond_sets S) (spans : SpansShort bond_sets (len c) (Closed c) k S) where
    pub inv_start : (labels : List ℕ) → Inv [] labels
    unfolding labelled
    inv_start labels =
        record {
          independent = indep;
          relevant = All.nil;
          joined = record { joined = λ p q. elim p [ ] };
          least = record { low = λ j h t. absurd (omega arith); least = λ j h t. absurd (omega arith); own_label = λ j h t. absurd (omega arith) };
        }

    -- The ring is marked, as number p.
    pub inv_mark : {M labels : List ℕ} {x : ℕ} (p : ℕ) → p ≡ length S + length M → Inv M labels → OfLength c k x → (Span bond_sets (S ++ M) x → ⊥)
        → p < length labels → Next M labels (M ++ (x ∷ [])) (set labels p p) p x
    inv_mark {M} {labels} {x} p q inv px outside fits =
        record {
          inv = record {
            independent = indep';
            relevant = all_append inv.relevant (All.cons px All.nil);
            joined = joined_perm bond_sets (OfLength c k) S moved (joined_mark bond_sets (OfLength c k) S m (rw labelled_its first) fresh inv.joined);
            least = least_push p q inv.least (rw length-append (omega arith)) here same;
          };
          keeps = λ j y h t l.
              label_perm bond_sets S moved
              (label_mono bond_sets S (Part.skip (part_refl (rings_of M labels)))
              (subst (λ (i : ℕ). HasLabel bond_sets S (rings_of M labels) i y) (sym (same j (omega arith))) l));
          own = member_label bond_sets S (rings_of (M ++ (x ∷ [])) (set labels p p)) (rw labelled_its indep') (member_perm moved (Member.here refl refl));
          low = omega arith;
          under = rw length-append (omega arith);
        }
      where
        m : Labelled ℕ
        m = record { it = x; label = get_or (set labels p p) p 0 }

        here : get_or (set labels p p) p 0 ≡ p
        here = get_or-set_same labels p p 0 fits

        same : (j : ℕ) → j < p → get_or (set labels p p) j 0 ≡ get_or labels j 0
        same j h = get_or-set_other labels p j p 0 (λ e. omega arith)

        moved : Perm (m ∷ rings_of M labels) (rings_of (M ++ (x ∷ [])) (set labels p p))
        moved =
            rw (labelled_push (label_of labels) (label_of (set labels p p)) (length S) p M x q (λ j h t. same j t)) (perm_comm (m ∷ []) (rings_of M labels))

        first : Indep bond_sets (x ∷ (M ++ S))
        first = Indep.more (λ t. outside (span_perm bond_sets (perm_comm M S) t)) inv.independent

        indep' : Indep bond_sets ((M ++ (x ∷ [])) ++ S)
        indep' = rw append_assoc (indep_perm bond_sets (perm_sym (perm_front M x S)) first)

        fresh : ¬ Names (rings_of M labels) (get_or (set labels p p) p 0)
        fresh (y, w) = let (j, h, t, e) = labelled_from (label_of labels) (length S) M w in omega (arith, inv.least.least j h t, here)

    -- The ring is a sum: what the tag names gets one label.
    pub inv_sum : {M labels : List ℕ} {x : ℕ} (p tag : ℕ) → p ≡ length S + length M → Inv M labels → OfLength c k x → tag < 2 ^ p
        → tag ≡ tag / 2 ^ length S * 2 ^ length S → Span bond_sets S (bit_xor x (Sum bond_sets (named_by M (tag / 2 ^ length S))))
        → p ≤ 82 → p ≤ length labels
        → Next M labels M (joined (length S) p tag labels) (count_trailing_zeros 128 tag) x
    unfolding bond_sets
    inv_sum {M} {labels} {x} p tag q inv px small high remains fits room =
        let rep = count_trailing_zeros 128 tag in
        record {
          inv = record {
            independent = inv.independent;
            relevant = inv.relevant;
            joined =
                rw list
                (joined_merge bond_sets (OfLength c k) S (rw labelled_its inv.independent) (rw labelled_its inv.relevant) inv.joined part px uses merged);
            least = least_merge inv.least W.lowest (λ l e. from l (W.label_from l e)) is;
          };
          keeps = λ j y h t l. rw (list, is j h t) (label_relabel bond_sets S (merge w) l);
          own = rw (list, new_label) (label_merge bond_sets S part merged uses not_short);
          low = (ranged rep T.here).0;
          under = omega (arith, (ranged rep T.here).1);
        }
      where
        w : ℕ
        w = labels_in labels tag

        U : List (Labelled ℕ)
        U = named (label_of labels) (length S) M (tag / 2 ^ length S)

        part : Part (rings_of M labels) U
        part = named_part (label_of labels) (length S) M (tag / 2 ^ length S)

        uses : Span bond_sets S (bit_xor x (Sum bond_sets (its U)))
        uses = rw named_its remains

        not_short : ¬ Span bond_sets S x
        not_short = relevant_not_span bond_sets (len c) (Closed c) spans px.1 px.0

        ranged : (j : ℕ) → bit tag j ≡ 1 → (length S ≤ j) × (j < p)
        ranged j e = (
          ⊎_elim (λ (h : j < length S). absurd (omega (arith, bit_under tag (length S) j high h))) (λ (h : length S ≤ j). h) (lt_or_ge j (length S)),
          lt_of_has p tag j small e,
        )

        an_index : (j : ℕ) × (bit tag j ≡ 1)
        an_index =
            let (l, n) = names_some not_short U uses in
            let (i, h, b, e) = named_from (label_of labels) (length S) M (tag / 2 ^ length S) l n in
            (length S + i, sym (bit_above tag (length S) i) ∙ b)

        W : Labels labels tag w
        W =
            let (i, e) = an_index in
            labels_in_lem labels tag i (omega (arith, (ranged i e).1)) e
            (λ j d. omega (arith, (ranged j d).1, inv.least.least j (ranged j d).0 (omega (arith, (ranged j d).1))))

        T : Trailing 128 tag (count_trailing_zeros 128 tag)
        T =
            let (i, e) = an_index in
            let wide : p ≤ 128 = omega arith in
            trailing 128 tag (bit_pos tag i e) (lt_of_lt_of_le small (pow_mono wide))

        named_has : (l : ℕ) → Names U l → bit w l ≡ 1
        named_has l n =
            let (i, h, b, e) = named_from (label_of labels) (length S) M (tag / 2 ^ length S) l n in
            subst (λ (y : ℕ). bit w y ≡ 1) e (W.has_label (length S + i) (omega arith) (sym (bit_above tag (length S) i) ∙ b))

        has_named : (l : ℕ) → bit w l ≡ 1 → Names U l
        has_named l e =
            let (j, b, d) = W.label_from l e in
            let there : length S + (j - length S) ≡ j = omega (arith, (ranged j b).0) in
            let h : j - length S < length M = omega (arith, (ranged j b).0, (ranged j b).1) in
            subst (λ (y : ℕ). Names U y) (ap (label_of labels) there ∙ d)
            (named_of (label_of labels) (length S) (j - length S) M (tag / 2 ^ length S) h
            (bit_above tag (length S) (j - length S) ∙ ap (bit tag) there ∙ b))

        merged : Merges (rings_of M labels) U (merge w) (count_trailing_zeros 128 w)
        merged = merges (has_named (count_trailing_zeros 128 w) W.lowest.here) (λ j n. merge_in w j (named_has j n)) (λ j n. merge_out w j (λ e. n (has_named j e)))

        is : (j : ℕ) → length S ≤ j → j < length S + length M → get_or (joined (length S) p tag labels) j 0 ≡ merge w (get_or labels j 0)
        is j h t = joined_at (length S) p tag j labels h (omega arith) (omega arith)

        new_label : get_or (joined (length S) p tag labels) (count_trailing_zeros 128 tag) 0 ≡ count_trailing_zeros 128 w
        new_label =
            let j = count_trailing_zeros 128 tag in
            is j (ranged j T.here).0 (omega (arith, (ranged j T.here).1)) ∙ merge_in w (get_or labels j 0) (W.has_label j T.small T.here)

        list : rings_of M (joined (length S) p tag labels) ≡ relabel (merge w) (rings_of M labels)
        list = labelled_relabel (label_of labels) (label_of (joined (length S) p tag labels)) (merge w) (length S) M is

        from : (l : ℕ) → (j : ℕ) × (bit tag j ≡ 1) × (get_or labels j 0 ≡ l) → (j : ℕ) × (length S ≤ j) × (j < length S + length M) × (get_or labels j 0 ≡ l)
        from l (j, b, e) = (j, (ranged j b).0, omega (arith, (ranged j b).1), e)
