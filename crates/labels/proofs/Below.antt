-- Labels stay below 128 when classes are joined, and where the labels are alike joining changes none of them.
use mathlib.Core.Path.{◌≡◌, refl, sym, ap, ◌∙◌}
use mathlib.Core.Bool.{Bool, true, false, cond}
use mathlib.Core.List.{List, [], ◌∷◌}
use mathlib.Core.Logic.{⊎_elim}
use Prim.Native.Nat.{ℕ, ◌-◌, ◌^◌, ◌≤◌, ◌<◌}
use native.Mathlib.Decide.{ℕ_discrete}
use native.Mathlib.Omega.{arith}
use lib.Bits.{bit_or, or_lt}
use lib.Count.{count_trailing_zeros}
use lib.ListN.{length, get_or, set}
use lib.Pow.{pow_pos, pow-lt}
use lib.Seq.{get_or-set_same, get_or-set_other, set-get_or, set_out}
use borrow.Author.Tests.{eqb-true}
use Rattle.bondset.specs.Sets.{bit, has, members}
use Rattle.bondset.proofs.Laws.{lt_or_ge, pos_of_ne, zero_bit, trailing}
use Rattle.bondset.proofs.Members.{members_zero}
use Rattle.model.specs.Fold.{through, count}
use Rattle.model.specs.State.{labels_in, relabel, joined}
use Rattle.model.proofs.NumbersJoin.{labels_in_lem}
use Rattle.labels.specs.Labelled.{Labelled, Alike}

-- what holds of both holds of the one that is picked
pub cond_both : {X : Type 0} (P : X → Type 0) (b : Bool) (x y : X) → P x → P y → P (cond b x y)
cond_both P true x y p q = p
cond_both P false x y p q = q

pub labelled_set : (labels : List ℕ) (i l : ℕ) → Labelled labels → l < 128 → Labelled (set labels i l)
labelled_set labels i l h b = record { below = below }
  where
    below : (j : ℕ) → get_or (set labels i l) j 0 < 128
    below j =
        elim (ℕ_discrete j i) [
          | yes e ↦
              ⊎_elim (λ (k : i < length labels). rw (e, get_or-set_same labels i l 0 k) b) (λ (k : length labels ≤ i). rw (set_out labels i l k) (h.below j))
              (lt_or_ge i (length labels))
          | no n ↦ rw (get_or-set_other labels i j l 0 n) (h.below j)
        ]

-- ---- joining

bit_some : (w x : ℕ) → bit w x ≡ 1 → 0 < w
bit_some w x b = pos_of_ne w (λ z. let o : ◌≡◌ {A = ℕ} 0 1 = sym (zero_bit x) ∙ ap (λ (v : ℕ). bit v x) (sym z) ∙ b in omega arith)

labels_lt : (labels : List ℕ) → Labelled labels → (js : List ℕ) (acc : ℕ) → acc < 2 ^ 128
    → through (λ j acc. bit_or acc (2 ^ get_or labels j 0)) js acc < 2 ^ 128
unfolding through
labels_lt labels h [] acc l = l
labels_lt labels h (j ∷ js) acc l = labels_lt labels h js (bit_or acc (2 ^ get_or labels j 0)) (or_lt 128 acc (2 ^ get_or labels j 0) l (pow-lt (h.below j)))

relabel_labelled : (w j : ℕ) (labels : List ℕ) → w < 2 ^ 128 → Labelled labels → Labelled (relabel w (count_trailing_zeros 128 w) j labels)
unfolding relabel
relabel_labelled w j labels l h = which (has w (get_or labels j 0)) refl
  where
    which : (b : Bool) → has w (get_or labels j 0) ≡ b → Labelled (cond b (set labels j (count_trailing_zeros 128 w)) labels)
    which true e = labelled_set labels j (count_trailing_zeros 128 w) h (trailing 128 w (bit_some w (get_or labels j 0) (eqb-true (bit w (get_or labels j 0)) 1 e)) l).small
    which false e = h

relabelled_labelled : (w : ℕ) → w < 2 ^ 128 → (js labels : List ℕ) → Labelled labels → Labelled (through (relabel w (count_trailing_zeros 128 w)) js labels)
unfolding through
relabelled_labelled w l [] labels h = h
relabelled_labelled w l (j ∷ js) labels h =
    relabelled_labelled w l js (relabel w (count_trailing_zeros 128 w) j labels) (relabel_labelled w j labels l h)

pub joined_labelled : (short marks t : ℕ) (labels : List ℕ) → Labelled labels → Labelled (joined short marks t labels)
unfolding joined labels_in
joined_labelled short marks t labels h =
    relabelled_labelled (labels_in labels t) (labels_lt labels h (members 128 t) 0 (pow_pos 128)) (count short (marks - short)) labels h

-- ---- nothing to join

module _ (w : ℕ) (only : (x : ℕ) → x < 128 → bit w x ≡ 1 → x ≡ count_trailing_zeros 128 w) (labels : List ℕ) (h : Labelled labels) where
  relabel_same : (j : ℕ) → relabel w (count_trailing_zeros 128 w) j labels ≡ labels
  unfolding relabel
  relabel_same j = which (has w (get_or labels j 0)) refl
    where
      which : (b : Bool) → has w (get_or labels j 0) ≡ b → cond b (set labels j (count_trailing_zeros 128 w)) labels ≡ labels
      which true e = rw (← only (get_or labels j 0) (h.below j) (eqb-true (bit w (get_or labels j 0)) 1 e)) (set-get_or labels j 0)
      which false e = refl

  relabelled_same : (js : List ℕ) → through (relabel w (count_trailing_zeros 128 w)) js labels ≡ labels
  unfolding through
  relabelled_same [] = refl
  relabelled_same (j ∷ js) = rw (relabel_same j) (relabelled_same js)

labels_none : (labels : List ℕ) → labels_in labels 0 ≡ 0
unfolding labels_in through
labels_none labels = rw (members_zero 128)

-- one label, or none
pub joined_alike : (short marks t : ℕ) (labels : List ℕ) → Labelled labels → t < 2 ^ 128 → Alike labels t → labels ≡ joined short marks t labels
unfolding joined
joined_alike short marks t labels h small alike = sym (relabelled_same w only labels h (count short (marks - short)))
  where
    w : ℕ
    w = labels_in labels t

    only : (x : ℕ) → x < 128 → bit w x ≡ 1 → x ≡ count_trailing_zeros 128 w
    only x l b = elim (ℕ_discrete t 0) [
      | yes z ↦ absurd (omega (arith, ap (λ (v : ℕ). bit (labels_in labels v) x) z, ap (λ (v : ℕ). bit v x) (labels_none labels), zero_bit x))
      | no some ↦
          let low = trailing 128 t (pos_of_ne t some) small in
          let named = labels_in_lem labels t (count_trailing_zeros 128 t) low.small low.here (λ j e. h.below j) in
          let one = named.label_from x b in
          let least = named.label_from (count_trailing_zeros 128 w) named.lowest.here in
          sym one.2 ∙ alike one.0 least.0 one.1 least.1 ∙ least.2
    ]
