-- A compound numbered anew has the same lengths, degrees and closed sets, and is the old one numbered anew.
use mathlib.Core.Path.{◌≡◌, refl, sym, ap, ap₂, ◌∙◌, subst, subst₂}
use mathlib.Core.Bool.{true, false, ◌&&◌, and-false}
use mathlib.Core.Logic.{⊎_elim, ◌≢◌}
use Prim.Native.Nat.{ℕ, ◌^◌, ◌<◌, ◌≤◌}
use native.Mathlib.Omega.{arith}
use lib.Bits.{bit_xor}
use Rattle.spans.specs.Group.{Space}
use Rattle.spans.proofs.Alike.{Alike}
use Rattle.bondset.specs.Sets.{bit}
use Rattle.bondset.proofs.Group.{bond_sets}
use Rattle.bondset.proofs.Laws.{bit_lt, lt_or_ge}
use Rattle.graphs.specs.Count.{xor, same, cnt}
use Rattle.graphs.specs.Graph.{inc, star, deg}
use Rattle.graphs.proofs.Basics.{both, clash, same_eq, same_is, same_ne, same_off}
use Rattle.graphs.proofs.Count.{cnt_ext, cnt_none}
use Rattle.graphs.proofs.Graph.{joins_inc}
use Rattle.cycles.specs.Compound.{Compound, m, one, other, Joins, given, turned, Sound}
use Rattle.cycles.specs.Ring.{len, degree, Closed}
use Rattle.cycles.specs.Renumbered.{Undo, Renumbered}
use Rattle.cycles.proofs.Number.{holds}
use Rattle.cycles.proofs.Carry.{graph_of, holds_true, bit_one, joins_graph, len_cnt, degree_deg}
use Rattle.cycles.proofs.RenumberSets.{moved, moved_holds, moved_lt, moved_add, moved_back, cnt_moved}

-- The maps the other way round.
abbrev pub undo_sym : {k : ℕ} {f g : ℕ → ℕ} → Undo k f g → Undo k g f
undo_sym u = record { there = u.back; back = u.there; there_back = u.back_there; back_there = u.there_back }

-- Two tests of equality that say the same.
same_both : (a b x y : ℕ) → (a ≡ b → x ≡ y) → (x ≡ y → a ≡ b) → same a b ≡ same x y
same_both a b x y f g =
    ⊎_elim (λ e. e ∙ sym (same_is x y (f (same_eq a b e)))) (λ e. e ∙ sym (same_ne x y (λ d. same_off a b e (g d)))) (both (same a b))

-- Two digits that say the same are equal.
bits_same : (S T j k : ℕ) → holds S j ≡ holds T k → bit S j ≡ bit T k
bits_same S T j k h =
    ⊎_elim (λ (e : holds S j ≡ true). bit_one S j e ∙ sym (bit_one T k (sym h ∙ e)))
    (λ (e : holds S j ≡ false).
    let p : bit S j ≢ 1 = λ q. clash (holds_true S j q) e in
    let q : bit T k ≢ 1 = λ q. clash (holds_true T k q) (sym h ∙ e) in
    omega (arith, bit_lt S j, bit_lt T k))
    (both (holds S j))

-- A bond joins the two atoms that it joins, either way round, and no others.
joins_given_or_turned : {c : Compound} {k a b x y : ℕ} (P : ℕ → ℕ → Type 0) → P x y → P y x → Joins c k x y → Joins c k a b → P a b
joins_given_or_turned P p q (given h d e) (given l s t) = subst₂ P (sym d ∙ s) (sym e ∙ t) p
joins_given_or_turned P p q (given h d e) (turned l s t) = subst₂ P (sym e ∙ s) (sym d ∙ t) q
joins_given_or_turned P p q (turned h d e) (given l s t) = subst₂ P (sym e ∙ s) (sym d ∙ t) q
joins_given_or_turned P p q (turned h d e) (turned l s t) = subst₂ P (sym d ∙ s) (sym e ∙ t) p

-- A bond joins its two atoms the other way round as well.
pub joins_turned : {c : Compound} {k a b : ℕ} → Joins c k a b → Joins c k b a
joins_turned (given l s t) = turned l t s
joins_turned (turned l s t) = given l t s

module _ {c c' : Compound} (r : Renumbered c c') where
  -- The bond set in the new numbering: bond j is in it if its old bond is in S.
  abbrev pub renumber : ℕ → ℕ
  renumber S = moved r.old_bonds (m c') S

  -- The old numbers of the bonds and the new ones undo each other.
  pub old_undo : Undo (m c') r.old_bonds r.bonds
  old_undo = subst (λ (k : ℕ). Undo k r.old_bonds r.bonds) r.same_m (undo_sym r.bonds_undo)

  -- Bond j is in the renumbered set exactly if its old bond is in the set.
  pub renumber_holds : (S j : ℕ) → j < m c' → holds (renumber S) j ≡ holds S (r.old_bonds j)
  renumber_holds = moved_holds r.old_bonds (m c')

  -- The same of its digits.
  pub renumber_bit : (S j : ℕ) → j < m c' → bit (renumber S) j ≡ bit S (r.old_bonds j)
  renumber_bit S j h = bits_same (renumber S) S j (r.old_bonds j) (renumber_holds S j h)

  -- The renumbered sum is the sum of the renumbered sets.
  pub renumber_add : (S T : ℕ) → renumber (bit_xor S T) ≡ bit_xor (renumber S) (renumber T)
  renumber_add = moved_add r.old_bonds (m c')

  -- The same, as the group of bond sets says it.
  pub renumber_sum : (S T : ℕ) → renumber (Space.◌⊕◌ bond_sets S T) ≡ Space.◌⊕◌ bond_sets (renumber S) (renumber T)
  unfolding bond_sets
  renumber_sum = renumber_add

  -- "Its length is the number of bonds in it": it is kept.
  pub len_renumbered : (S : ℕ) → len c' (renumber S) ≡ len c S
  len_renumbered S =
      len_cnt c' (renumber S)
      ∙ cnt_ext (holds (renumber S)) (λ j. holds S (r.old_bonds j)) (m c') (renumber_holds S)
      ∙ cnt_moved (m c') old_undo (holds S)
      ∙ ap (cnt (holds S)) (sym r.same_m)
      ∙ sym (len_cnt c S)

  -- The old number of a bond of c' is that of a bond of c.
  old_below : (j : ℕ) → j < m c' → r.old_bonds j < m c
  old_below j h = subst (λ (n : ℕ). r.old_bonds j < n) (sym r.same_m) (old_undo.there j h)

  -- A bond of c' joins what its old bond joins.
  old_joins : (j : ℕ) → j < m c' → Joins c' j (r.atoms (one c (r.old_bonds j))) (r.atoms (other c (r.old_bonds j)))
  old_joins j h =
      let k = r.old_bonds j in
      subst (λ (i : ℕ). Joins c' i (r.atoms (one c k)) (r.atoms (other c k))) (old_undo.there_back j h)
      (r.joins k (one c k) (other c k) (given (old_below j h) refl refl))

  module _ (sound : Sound c) where
    old_one : (j : ℕ) → j < m c' → one c (r.old_bonds j) < c.n
    old_one j h =
        let k = r.old_bonds j in
        sound.named k (one c k) (other c k) (given (old_below j h) refl refl)

    old_other : (j : ℕ) → j < m c' → other c (r.old_bonds j) < c.n
    old_other j h =
        let k = r.old_bonds j in
        sound.named k (other c k) (one c k) (turned (old_below j h) refl refl)

    -- The old bond of a bond joins the old atoms of its atoms.
    pub back_joins : (j a b : ℕ) → Joins c' j a b → Joins c (r.old_bonds j) (r.old_atoms a) (r.old_atoms b)
    back_joins j a b i =
        let h = (joins_graph c' i).0 in
        let k = r.old_bonds j in
        let e = r.atoms_undo.there_back (one c k) (old_one j h) in
        let d = r.atoms_undo.there_back (other c k) (old_other j h) in
        let g : Joins c k (r.old_atoms (r.atoms (one c k))) (r.old_atoms (r.atoms (other c k))) = given (old_below j h) (sym e) (sym d) in
        joins_given_or_turned (λ x y. Joins c k (r.old_atoms x) (r.old_atoms y)) g (joins_turned g) (old_joins j h) i

    -- The old compound is the new one numbered anew.
    abbrev pub renumbered_sym : Renumbered c' c
    renumbered_sym =
        record {
          atoms = r.old_atoms;
          old_atoms = r.atoms;
          bonds = r.old_bonds;
          old_bonds = r.bonds;
          same_n = sym r.same_n;
          same_m = sym r.same_m;
          atoms_undo = subst (λ (k : ℕ). Undo k r.old_atoms r.atoms) r.same_n (undo_sym r.atoms_undo);
          bonds_undo = old_undo;
          joins = back_joins;
        }

    -- A compound numbered anew is sound.
    pub sound_renumbered : Sound c'
    sound_renumbered =
        record {
          named = λ k a b j.
              let h = (joins_graph c' j).0 in
              joins_given_or_turned (λ x y. x < c'.n) (atom_below (old_one k h)) (atom_below (old_other k h)) (old_joins k h) j;
          no_loop = λ k a j. sound.no_loop (r.old_bonds k) (r.old_atoms a) (back_joins k a a j);
          once = λ j k a b p q.
              let e = sound.once (r.old_bonds j) (r.old_bonds k) (r.old_atoms a) (r.old_atoms b) (back_joins j a b p) (back_joins k a b q) in
              sym (old_undo.there_back j (joins_graph c' p).0) ∙ ap r.bonds e ∙ old_undo.there_back k (joins_graph c' q).0;
        }
      where
        atom_below : {a : ℕ} → a < c.n → r.atoms a < c'.n
        atom_below {a} h = subst (λ (k : ℕ). r.atoms a < k) r.same_n (r.atoms_undo.there a h)

    same_atom : (a b : ℕ) → a < c.n → b < c.n → same (r.atoms a) b ≡ same a (r.old_atoms b)
    same_atom a b h l =
        same_both (r.atoms a) b a (r.old_atoms b) (λ e. sym (r.atoms_undo.there_back a h) ∙ ap r.old_atoms e)
        (λ e. ap r.atoms e ∙ r.atoms_undo.back_there b l)

    -- A bond of c' meets an atom exactly if its old bond meets the old atom.
    inc_renumbered : (j a : ℕ) → j < m c' → a < c.n → inc (graph_of c') j a ≡ inc (graph_of c) (r.old_bonds j) (r.old_atoms a)
    inc_renumbered j a h l =
        let k = r.old_bonds j in
        joins_inc (graph_of c') j (r.atoms (one c k)) (r.atoms (other c k)) a (joins_graph c' (old_joins j h)).1
        ∙ ap₂ xor (same_atom (one c k) a (old_one j h) l) (same_atom (other c k) a (old_other j h) l)

    deg_renumbered : (S a : ℕ) → a < c.n → deg (graph_of c') (holds (renumber S)) a ≡ deg (graph_of c) (holds S) (r.old_atoms a)
    deg_renumbered S a l =
        cnt_ext (star (graph_of c') (holds (renumber S)) a) (λ j. star (graph_of c) (holds S) (r.old_atoms a) (r.old_bonds j)) (m c')
        (λ j h. ap₂ ◌&&◌ (renumber_holds S j h) (inc_renumbered j a h l))
        ∙ cnt_moved (m c') old_undo (star (graph_of c) (holds S) (r.old_atoms a))
        ∙ ap (cnt (star (graph_of c) (holds S) (r.old_atoms a))) (sym r.same_m)

    module _ (sound' : Sound c') where
      -- An atom meets as many bonds of the renumbered set as its old atom of the set.
      pub degree_renumbered : (S a : ℕ) → a < c.n → degree c' (renumber S) a ≡ degree c S (r.old_atoms a)
      degree_renumbered S a l = degree_deg c' sound' (renumber S) a ∙ deg_renumbered S a l ∙ sym (degree_deg c sound S (r.old_atoms a))

      -- What is no atom meets no bond.
      degree_beyond : (S a : ℕ) → c'.n ≤ a → degree c' S a ≡ 0
      degree_beyond S a l =
          degree_deg c' sound' S a
          ∙ cnt_none (star (graph_of c') (holds S) a) (m c')
          (λ j h.
          let p = sound'.named j (one c' j) (other c' j) (given h refl refl) in
          let q = sound'.named j (other c' j) (one c' j) (turned h refl refl) in
          rw (same_ne (one c' j) a (λ e. omega arith), same_ne (other c' j) a (λ e. omega arith)) (and-false (holds S j)))

      -- A renumbered closed set is closed.
      pub closed_renumbered : {S : ℕ} → Closed c S → Closed c' (renumber S)
      closed_renumbered {S} h =
          record {
            bonds = moved_lt r.old_bonds (m c') S;
            even = λ a.
                ⊎_elim (λ (l : a < c.n). omega (arith, degree_renumbered S a l, h.even (r.old_atoms a)))
                (λ (l : c.n ≤ a). omega (arith, degree_beyond (renumber S) a (omega (arith, r.same_n)))) (lt_or_ge a c.n);
          }

module _ {c c' : Compound} (r : Renumbered c c') where
  -- Renumbered there and back a bond set is as it was.
  pub renumber_back : (sound : Sound c) (S : ℕ) → S < 2 ^ m c → renumber (renumbered_sym r sound) (renumber r S) ≡ S
  renumber_back sound S l =
      subst (λ (k : ℕ). moved r.bonds (m c) (moved r.old_bonds k S) ≡ S) r.same_m (moved_back (m c) r.bonds_undo S l)

  -- No two bond sets become one.
  pub renumber_injective : (sound : Sound c) (S T : ℕ) → S < 2 ^ m c → T < 2 ^ m c → renumber r S ≡ renumber r T → S ≡ T
  renumber_injective sound S T h l e = sym (renumber_back sound S h) ∙ ap (renumber (renumbered_sym r sound)) e ∙ renumber_back sound T l

  -- Renumbered back and there a bond set is as it was.
  pub renumber_there : (S : ℕ) → S < 2 ^ m c' → renumber r (moved r.bonds (m c) S) ≡ S
  renumber_there S l =
      subst (λ (k : ℕ). moved r.old_bonds (m c') (moved r.bonds k S) ≡ S) (sym r.same_m) (moved_back (m c') (old_undo r) S l)

  -- The closed sets of the two compounds are alike: sums and lengths are kept.
  abbrev pub renumbered_alike : Sound c → Sound c' → Alike bond_sets bond_sets (len c) (len c') (Closed c) (Closed c')
  renumbered_alike sound sound' =
      record {
        to = renumber r;
        back = moved r.bonds (m c);
        to_add = renumber_sum r;
        back_add = renumber_sum (renumbered_sym r sound);
        to_inside = λ S h. closed_renumbered r sound sound' h;
        back_inside = λ S h. closed_renumbered (renumbered_sym r sound) sound' sound h;
        back_to = λ S h. renumber_back sound S h.bonds;
        to_back = λ S h. renumber_there S h.bonds;
        to_length = λ S h. len_renumbered r S;
      }
