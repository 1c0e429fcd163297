-- Joining labels: what the array of labels holds after the labels of the rings that a tag names are made one.
use mathlib.Core.Path.{◌≡◌, refl, ◌∙◌, ap, subst}
use mathlib.Core.Bool.{Bool, true, false, cond}
use mathlib.Core.List.{List, [], ◌∷◌}
use mathlib.Core.Logic.{◌⊎◌, inl, inr}
use Prim.Native.Nat.{ℕ, zero, suc, ◌+◌, ◌-◌, ◌^◌, ◌<◌, ◌≤◌}
use native.Mathlib.Omega.{arith}
use native.Mathlib.Decide.{ℕ_discrete}
use borrow.Author.Tests.{eq-eqb, ne_eqb}
use lib.Bits.{bit_or, or_lt}
use lib.Count.{count_trailing_zeros}
use lib.ListN.{length, get_or, set, length-set}
use lib.Pow.{pow_pos, pow-lt}
use lib.Seq.{get_or-set_same, get_or-set_other}
use Rattle.spans.specs.Elements.{◌∈◌, first, later}
use Rattle.bondset.specs.Sets.{bit, has, members}
use Rattle.bondset.proofs.Laws.{Trailing, trailing, zero_bit, pos_of_ne}
use Rattle.bondset.proofs.Members.{mem_of_bit, bit_of_mem}
use Rattle.model.specs.Fold.{through, count}
use Rattle.model.specs.State.{labels_in, relabel, joined}
use Rattle.model.proofs.NetBits.{or_has, pow_has}

-- A set that holds something is not empty.
pub bit_pos : (w l : ℕ) → bit w l ≡ 1 → 0 < w
bit_pos w l e = pos_of_ne w (λ (z : w ≡ 0). let b : bit 0 l ≡ 1 = rw z at e in omega (arith, zero_bit l))

-- ---- the set of labels

module _ (labels : List ℕ) where
  gather_keeps : (js : List ℕ) (acc l : ℕ) → bit acc l ≡ 1 → bit (through (λ j acc. bit_or acc (2 ^ get_or labels j 0)) js acc) l ≡ 1
  unfolding through
  gather_keeps [] acc l h = h
  gather_keeps (j ∷ js) acc l h = gather_keeps js (bit_or acc (2 ^ get_or labels j 0)) l ((or_has acc (2 ^ get_or labels j 0) l).1 (inl h))

  gather_has : {j : ℕ} {js : List ℕ} (acc : ℕ) → j ∈ js → bit (through (λ j acc. bit_or acc (2 ^ get_or labels j 0)) js acc) (get_or labels j 0) ≡ 1
  unfolding through
  gather_has {j} acc (first {xs = js}) =
      gather_keeps js (bit_or acc (2 ^ get_or labels j 0)) (get_or labels j 0)
      ((or_has acc (2 ^ get_or labels j 0) (get_or labels j 0)).1 (inr ((pow_has (get_or labels j 0) (get_or labels j 0)).1 refl)))
  gather_has acc (later {y = i} {xs = js} m) = gather_has (bit_or acc (2 ^ get_or labels i 0)) m

  gather_from : (js : List ℕ) (acc l : ℕ) → bit (through (λ j acc. bit_or acc (2 ^ get_or labels j 0)) js acc) l ≡ 1
      → (bit acc l ≡ 1) ⊎ ((j : ℕ) × (j ∈ js) × (get_or labels j 0 ≡ l))
  unfolding through
  gather_from [] acc l h = inl h
  gather_from (j ∷ js) acc l h = go (gather_from js (bit_or acc (2 ^ get_or labels j 0)) l h)
    where
      here : (bit acc l ≡ 1) ⊎ (bit (2 ^ get_or labels j 0) l ≡ 1) → (bit acc l ≡ 1) ⊎ ((i : ℕ) × (i ∈ (j ∷ js)) × (get_or labels i 0 ≡ l))
      here (inl a) = inl a
      here (inr a) = inr (j, first, (pow_has (get_or labels j 0) l).0 a)

      go : (bit (bit_or acc (2 ^ get_or labels j 0)) l ≡ 1) ⊎ ((i : ℕ) × (i ∈ js) × (get_or labels i 0 ≡ l))
          → (bit acc l ≡ 1) ⊎ ((i : ℕ) × (i ∈ (j ∷ js)) × (get_or labels i 0 ≡ l))
      go (inl a) = here ((or_has acc (2 ^ get_or labels j 0) l).0 a)
      go (inr (i, m, e)) = inr (i, later m, e)

  gather_lt : (n : ℕ) (js : List ℕ) (acc : ℕ) → acc < 2 ^ n → ((j : ℕ) → j ∈ js → get_or labels j 0 < n)
      → through (λ j acc. bit_or acc (2 ^ get_or labels j 0)) js acc < 2 ^ n
  unfolding through
  gather_lt n [] acc h f = h
  gather_lt n (j ∷ js) acc h f =
      gather_lt n js (bit_or acc (2 ^ get_or labels j 0)) (or_lt n acc (2 ^ get_or labels j 0) h (pow-lt (f j first))) (λ i m. f i (later m))

  -- The labels that the tag names, with the least of them.
  pub record Labels (tag w : ℕ) : Type 0 where
    pub has_label : (j : ℕ) → j < 128 → bit tag j ≡ 1 → bit w (get_or labels j 0) ≡ 1
    pub label_from : (l : ℕ) → bit w l ≡ 1 → (j : ℕ) × (bit tag j ≡ 1) × (get_or labels j 0 ≡ l)
    pub lowest : Trailing 128 w (count_trailing_zeros 128 w)

  pub labels_in_lem : (tag i : ℕ) → i < 128 → bit tag i ≡ 1 → ((j : ℕ) → bit tag j ≡ 1 → get_or labels j 0 < 128) → Labels tag (labels_in labels tag)
  unfolding labels_in
  labels_in_lem tag i h e f =
      let w = through (λ j acc. bit_or acc (2 ^ get_or labels j 0)) (members 128 tag) 0 in
      let own : (j : ℕ) → j < 128 → bit tag j ≡ 1 → bit w (get_or labels j 0) ≡ 1 = λ j a b. gather_has 0 (mem_of_bit 128 tag j a b) in
      record {
        has_label = own;
        label_from = λ l a. from l (gather_from (members 128 tag) 0 l a);
        lowest = trailing 128 w (bit_pos w (get_or labels i 0) (own i h e))
            (gather_lt 128 (members 128 tag) 0 (pow_pos 128) (λ j m. f j (bit_of_mem 128 tag j m)));
      }
    where
      from : (l : ℕ) → (bit 0 l ≡ 1) ⊎ ((j : ℕ) × (j ∈ members 128 tag) × (get_or labels j 0 ≡ l)) → (j : ℕ) × (bit tag j ≡ 1) × (get_or labels j 0 ≡ l)
      from l (inl a) = absurd (omega (arith, zero_bit l))
      from l (inr (j, m, q)) = (j, bit_of_mem 128 tag j m, q)

-- ---- one label for them

-- Labels in the set become the least of it.
abbrev pub merge : ℕ → ℕ → ℕ
merge w l = cond (has w l) (count_trailing_zeros 128 w) l

pub merge_in : (w l : ℕ) → bit w l ≡ 1 → merge w l ≡ count_trailing_zeros 128 w
merge_in w l e = rw (eq-eqb (bit w l) 1 e)

pub merge_out : (w l : ℕ) → (bit w l ≡ 1 → ⊥) → merge w l ≡ l
merge_out w l n = rw (ne_eqb (bit w l) 1 n)

module _ (w μ : ℕ) where
  relabel_same : (i : ℕ) (labels : List ℕ) → i < length labels → get_or (relabel w μ i labels) i 0 ≡ cond (has w (get_or labels i 0)) μ (get_or labels i 0)
  unfolding relabel
  relabel_same i labels h = go (has w (get_or labels i 0))
    where
      go : (b : Bool) → get_or (cond b (set labels i μ) labels) i 0 ≡ cond b μ (get_or labels i 0)
      go true = get_or-set_same labels i μ 0 h
      go false = refl

  relabel_other : (i j : ℕ) (labels : List ℕ) → (j ≡ i → ⊥) → get_or (relabel w μ i labels) j 0 ≡ get_or labels j 0
  unfolding relabel
  relabel_other i j labels q = go (has w (get_or labels i 0))
    where
      go : (b : Bool) → get_or (cond b (set labels i μ) labels) j 0 ≡ get_or labels j 0
      go true = get_or-set_other labels i j μ 0 q
      go false = refl

  relabel_length : (i : ℕ) (labels : List ℕ) → length (relabel w μ i labels) ≡ length labels
  unfolding relabel
  relabel_length i labels = go (has w (get_or labels i 0))
    where
      go : (b : Bool) → length (cond b (set labels i μ) labels) ≡ length labels
      go true = length-set labels i μ
      go false = refl

  loop_other : (a d j : ℕ) (labels : List ℕ) → j < a → get_or (through (relabel w μ) (count a d) labels) j 0 ≡ get_or labels j 0
  unfolding through count
  loop_other a zero j labels h = refl
  loop_other a (suc d) j labels h = loop_other (suc a) d j (relabel w μ a labels) (omega arith) ∙ relabel_other a j labels (λ q. omega arith)

  loop_length : (a d : ℕ) (labels : List ℕ) → length (through (relabel w μ) (count a d) labels) ≡ length labels
  unfolding through count
  loop_length a zero labels = refl
  loop_length a (suc d) labels = loop_length (suc a) d (relabel w μ a labels) ∙ relabel_length a labels

  loop_at : (a d j : ℕ) (labels : List ℕ) → a ≤ j → j < a + d → j < length labels
      → get_or (through (relabel w μ) (count a d) labels) j 0 ≡ cond (has w (get_or labels j 0)) μ (get_or labels j 0)
  unfolding through count
  loop_at a zero j labels h t f = absurd (omega arith)
  loop_at a (suc d) j labels h t f =
      go (ℕ_discrete j a) (λ l. loop_at (suc a) d j (relabel w μ a labels) l (omega arith) (rw relabel_length f))
    where
      value : ℕ → ℕ
      value x = cond (has w x) μ x

      go : Dec (j ≡ a) → (suc a ≤ j → get_or (through (relabel w μ) (count (suc a) d) (relabel w μ a labels)) j 0 ≡ value (get_or (relabel w μ a labels) j 0))
          → get_or (through (relabel w μ) (count (suc a) d) (relabel w μ a labels)) j 0 ≡ value (get_or labels j 0)
      go (yes q) on =
          loop_other (suc a) d j (relabel w μ a labels) (omega arith)
          ∙ subst (λ (x : ℕ). get_or (relabel w μ x labels) j 0 ≡ value (get_or labels j 0)) q (relabel_same j labels f)
      go (no q) on = on (omega (arith, q)) ∙ ap value (relabel_other a j labels q)

pub joined_at : (s m tag j : ℕ) (labels : List ℕ) → s ≤ j → j < m → j < length labels
    → get_or (joined s m tag labels) j 0 ≡ merge (labels_in labels tag) (get_or labels j 0)
unfolding joined
joined_at s m tag j labels h t f = loop_at (labels_in labels tag) (count_trailing_zeros 128 (labels_in labels tag)) s (m - s) j labels h (omega arith) f

pub joined_length : (s m tag : ℕ) (labels : List ℕ) → length (joined s m tag labels) ≡ length labels
unfolding joined
joined_length s m tag labels = loop_length (labels_in labels tag) (count_trailing_zeros 128 (labels_in labels tag)) s (m - s) labels
