-- All events of one length: at its end every prototype has the label of the index that it names, and one label means interchangeable.
use mathlib.Core.Path.{◌≡◌, refl, sym, ◌∙◌, subst}
use mathlib.Core.List.{List, [], ◌∷◌, ◌++◌}
use Prim.Native.Nat.{ℕ, suc, ◌+◌, ◌<◌, ◌≤◌}
use native.Mathlib.Omega.{arith}
use lib.Bits.{bit_xor}
use lib.Count.{count_trailing_zeros}
use lib.ListN.{length, set, length-set, length-append}
use Rattle.spans.specs.Basis.{All}
use Rattle.spans.proofs.Span.{at}
use Rattle.spans.proofs.Marking.{all_element}
use Rattle.spans.proofs.Xor.{comm'}
use Rattle.spans.proofs.Indep.{Indep}
use Rattle.spans.proofs.Short.{SpansShort}
use Rattle.spans.proofs.Labelled.{its}
use Rattle.spans.proofs.Labels.{HasLabel, label_modulo, swap_same_label, same_label_swap}
use Rattle.bondset.proofs.Group.{bond_sets}
use Rattle.cycles.specs.Compound.{Compound}
use Rattle.cycles.specs.Ring.{len, Closed, Relevant}
use Rattle.cycles.specs.Basis.{Interchangeable}
use Rattle.cycles.specs.Family.{Family, Prototype}
use Rattle.cycles.proofs.Families.{prototype_unique}
use Rattle.cycles.proofs.Bases.{shorter_short, relevant_no_sum, no_sum_relevant, prototype_long}
use Rattle.cycles.proofs.Swaps.{interchangeable_swap, swap_interchangeable}
use Rattle.model.specs.Fold.{through}
use Rattle.model.specs.State.{joined}
use Rattle.model.proofs.Ready.{Ready}
use Rattle.model.proofs.Items.{Try}
use Rattle.model.proofs.Trace.{Event, label, row_of, ring_of, NearEvents, Steps}
use Rattle.model.proofs.NumbersEvents.{Counted, Tells}
use Rattle.model.proofs.NumbersJoin.{joined_length}
use Rattle.model.proofs.NumbersList.{labelled_its}
use Rattle.model.proofs.NumbersRings.{label_of, OfLength, rings_of, LabelOf, Inv, Next, inv_mark, inv_sum}

module _ (c : Compound) (rank pre : ℕ → ℕ) (ready : Ready c rank pre) where
  -- The marked rings grow in number.
  steps_grow : {S M N : List ℕ} {ts : List Try} {es : List Event} → Steps c rank pre ready S M ts N es → length M ≤ length N
  steps_grow Steps.end = omega arith
  steps_grow (Steps.passed n s) = steps_grow s
  steps_grow (Steps.marks {M = M} {t = t} p r n s) = omega (arith, steps_grow s, length-append M (t.ring ∷ []))
  steps_grow (Steps.sums p r x s) = steps_grow s

  module _ (k : ℕ) (S : List ℕ) where
    -- The family of an event has a relevant prototype of length k, with the label of the index that the event names.
    pub record Good (N after : List ℕ) (e : Event) : Type 0 where
      pub prototype : Prototype c rank (row_of e).family (ring_of e)
      pub relevant : Relevant c (ring_of e)
      pub long : (row_of e).family.long ≡ k
      pub has_label : LabelOf c k S N after (row_of e).class (ring_of e)

    -- The marked rings and labels after the events.
    pub record Ended (M labels N after : List ℕ) (es : List Event) : Type 0 where
      pub inv : Inv c k S N after
      pub keeps : (j y : ℕ) → length S ≤ j → j < length S + length M → LabelOf c k S M labels j y → LabelOf c k S N after j y
      pub good : All (Good N after) es
      pub room : length after ≡ length labels
      pub new : ℕ
      pub grown : length N ≡ length M + new
      pub counted : Counted (length S) (length S + length M) es new

    module _ (indep : Indep bond_sets S) (spans : SpansShort bond_sets (len c) (Closed c) k S) where
      of_length : (t : Try) → Prototype c rank t.family t.ring → Relevant c t.ring → t.family.long ≡ k → OfLength c k t.ring
      of_length t p r e = (relevant_no_sum c ready.sound r, prototype_long c ready.sound rank p ∙ e)

      ended_mark : {M labels N after : List ℕ} {t : Try} {es : List Event} (p : ℕ) → p ≡ length S + length M
          → Prototype c rank t.family t.ring → Relevant c t.ring → t.family.long ≡ k
          → Next c k S M labels (M ++ (t.ring ∷ [])) (set labels p p) p t.ring → Ended (M ++ (t.ring ∷ [])) (set labels p p) N after es
          → Ended M labels N after (Event.marked t p ∷ es)
      ended_mark {M} {labels} {N} {after} {t} {es} p q pr re e x d =
          let one : length (M ++ (t.ring ∷ [])) ≡ length M + 1 = length-append M (t.ring ∷ []) in
          let g : Good N after (Event.marked t p) =
          record { prototype = pr; relevant = re; long = e; has_label = d.keeps p t.ring x.low x.under x.own } in
          record {
            inv = d.inv;
            keeps = λ j y h l w. d.keeps j y h (omega arith) (x.keeps j y h l w);
            good = All.cons g d.good;
            room = d.room ∙ length-set labels p p;
            new = suc d.new;
            grown = omega (arith, d.grown);
            counted =
                subst (λ (m : ℕ). Counted (length S) m (Event.marked t p ∷ es) (suc d.new)) q
                (Counted.marks (subst (λ (m : ℕ). Counted (length S) m es d.new) (omega arith) d.counted));
          }

      ended_sum : {M labels N after : List ℕ} {t : Try} {tag count : ℕ} {es : List Event} (p : ℕ) → p ≡ length S + length M
          → Prototype c rank t.family t.ring → Relevant c t.ring → t.family.long ≡ k
          → Next c k S M labels M (joined (length S) p tag labels) (count_trailing_zeros 128 tag) t.ring → Ended M (joined (length S) p tag labels) N after es
          → Ended M labels N after (Event.summed t tag count ∷ es)
      ended_sum {M} {labels} {N} {after} {t} {tag} {count} {es} p q pr re e x d =
          let g : Good N after (Event.summed t tag count) =
          record { prototype = pr; relevant = re; long = e; has_label = d.keeps (count_trailing_zeros 128 tag) t.ring x.low x.under x.own } in
          record {
            inv = d.inv;
            keeps = λ j y h l w. d.keeps j y h l (x.keeps j y h l w);
            good = All.cons g d.good;
            room = d.room ∙ joined_length (length S) p tag labels;
            new = d.new;
            grown = d.grown;
            counted = Counted.sums x.low x.under d.counted;
          }

      pub steps_ended : {M N labels : List ℕ} {ts : List Try} {es : List Event} → Steps c rank pre ready S M ts N es
          → All (λ t. t.family.long ≡ k) ts → Inv c k S M labels → length labels ≡ 82 → length S + length N ≤ 82
          → Ended M labels N (through (label (length S)) es labels) es
      unfolding through
      steps_ended Steps.end a inv room fits =
          record { inv = inv; keeps = λ j y h t l. l; good = All.nil; room = refl; new = 0; grown = omega arith; counted = Counted.end }
      steps_ended (Steps.passed n s) (All.cons a r) inv room fits = steps_ended s r inv room fits
      steps_ended {labels} (Steps.marks {M = M} {t = t} p r n s) (All.cons a rest) inv room fits =
          let i = length S + length M in
          let h : i < length labels = omega (arith, steps_grow s, length-append M (t.ring ∷ [])) in
          let x = inv_mark c k S indep spans i refl inv (of_length t p r a) n h in
          ended_mark i refl p r a x (steps_ended s rest x.inv (length-set labels i i ∙ room) fits)
      steps_ended {labels} (Steps.sums {M = M} {t = t} {tag = tag} p r e s) (All.cons a rest) inv room fits =
          let i = length S + length M in
          let h : i ≤ 82 = omega (arith, steps_grow s) in
          let x = inv_sum c k S indep spans i tag refl inv (of_length t p r a) e.small e.high e.remains h (omega arith) in
          ended_sum i refl p r a x (steps_ended s rest x.inv (joined_length (length S) i tag labels ∙ room) fits)

    -- A family with a relevant prototype of length k, with the label l.
    pub record Told (N after : List ℕ) (f : Family) (l : ℕ) : Type 0 where
      pub ring : ℕ
      pub prototype : Prototype c rank f ring
      pub relevant : Relevant c ring
      pub long : f.long ≡ k
      pub has_label : HasLabel bond_sets S (rings_of c k S N after) l ring

    pub good_told : {N after : List ℕ} {e : Event} → Good N after e → Told N after (row_of e).family (label_of after (row_of e).class)
    good_told {e} g = record { ring = ring_of e; prototype = g.prototype; relevant = g.relevant; long = g.long; has_label = g.has_label }

    module _ (indep : Indep bond_sets S) (spans : SpansShort bond_sets (len c) (Closed c) k S) where
      pub told_tells : {N after : List ℕ} {es : List Event} → Inv c k S N after → All (Good N after) es → NearEvents c rank pre ready k es
          → Tells c rank k (Told N after)
      unfolding bond_sets
      told_tells {N} {after} {es} inv good near =
          record {
            one = λ a b. record {
              C = a.ring;
              D = b.ring;
              prototype_c = a.prototype;
              prototype_d = b.prototype;
              long = a.long ∙ sym b.long;
              interchangeable =
                  swap_interchangeable c ready.sound indep spans a.relevant b.relevant (length_of a) (length_of b)
                  (same_label_swap bond_sets (OfLength c k) S listed (rw labelled_its inv.relevant) inv.joined a.has_label b.has_label);
            };
            apart = λ a b t.
                swap_same_label bond_sets S (rings_of c k S N after) listed every a.has_label b.has_label
                (interchangeable_swap c ready.sound indep spans a.relevant (length_of a)
                (same_rings (prototype_unique c ready.sound rank t.prototype_c a.prototype)
                (prototype_unique c ready.sound rank t.prototype_d b.prototype) t.interchangeable));
            long = λ a. a.long;
          }
        where
          listed : Indep bond_sets (its (rings_of c k S N after) ++ S)
          listed = rw labelled_its inv.independent

          length_of : {f : Family} {l : ℕ} (a : Told N after f l) → len c a.ring ≡ k
          length_of a = prototype_long c ready.sound rank a.prototype ∙ a.long

          same_rings : {C D C' D' : ℕ} → C ≡ C' → D ≡ D' → Interchangeable c C D → Interchangeable c C' D'
          same_rings {C} {D} {C'} {D'} e d i = subst (λ (X : ℕ). Interchangeable c X D') e (subst (λ (X : ℕ). Interchangeable c C X) d i)

          every : (x : ℕ) → OfLength c k x → (l : ℕ) × HasLabel bond_sets S (rings_of c k S N after) l x
          every x p =
              let (e, i, s) = near x (no_sum_relevant c ready.sound p.0) p.1 in
              let g = all_element good i in (
                label_of after (row_of e).class,
                label_modulo bond_sets S (at bond_sets (comm' bond_sets x (ring_of e)) (spans.spans (bit_xor x (ring_of e)) (shorter_short c s))) g.has_label,
              )
