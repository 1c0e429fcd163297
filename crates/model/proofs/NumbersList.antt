-- The marked rings of one length as a list with labels, and those of them that a tag names.
use mathlib.Core.Path.{◌≡◌, refl, sym, ◌∙◌, ap, ap₂, subst}
use mathlib.Core.List.{List, [], ◌∷◌, ◌++◌}
use Prim.Native.Nat.{ℕ, zero, suc, ◌+◌, ◌*◌, ◌/◌, ◌%◌, ◌^◌, ◌<◌, ◌≤◌}
use native.Mathlib.Nat.{add-zero}
use native.Mathlib.Omega.{arith}
use lib.ListN.{length}
use lib.Pow.{pow_pos, shr-shr}
use Rattle.spans.specs.Basis.{Part}
use Rattle.spans.proofs.Labelled.{Labelled, its, relabel, Member, Names}
use Rattle.bondset.specs.Sets.{bit}
use Rattle.bondset.specs.Reduction.{named_by, keep_if_one}
use Rattle.bondset.proofs.Laws.{bit_lt, bit_suc, bit_zero, bit_word_lo, zero_bit}

-- The list with the label that each index has, the first index being a.
unfoldable pub labelled : (ℕ → ℕ) → ℕ → List ℕ → List (Labelled ℕ)
labelled lab a [] = []
labelled lab a (x ∷ M) = record { it = x; label = lab a } ∷ labelled lab (suc a) M

pub labelled_its : (lab : ℕ → ℕ) (a : ℕ) (M : List ℕ) → its (labelled lab a M) ≡ M
unfolding labelled its
labelled_its lab a [] = refl
labelled_its lab a (x ∷ M) = ap (λ (l : List ℕ). x ∷ l) (labelled_its lab (suc a) M)

-- Each label j becomes f j.
pub labelled_relabel : (lab new f : ℕ → ℕ) (a : ℕ) (M : List ℕ) → ((j : ℕ) → a ≤ j → j < a + length M → new j ≡ f (lab j))
    → labelled new a M ≡ relabel f (labelled lab a M)
unfolding labelled relabel
labelled_relabel lab new f a [] e = refl
labelled_relabel lab new f a (x ∷ M) e =
    ap₂ (λ (l : ℕ) (L : List (Labelled ℕ)). record { it = x; label = l } ∷ L) (e a (omega arith) (omega arith))
    (labelled_relabel lab new f (suc a) M (λ j h t. e j (omega arith) (omega arith)))

-- One more, the labels of the others being as before.
pub labelled_push : (lab new : ℕ → ℕ) (a p : ℕ) (M : List ℕ) (x : ℕ) → p ≡ a + length M → ((j : ℕ) → a ≤ j → j < p → new j ≡ lab j)
    → labelled new a (M ++ (x ∷ [])) ≡ labelled lab a M ++ (record { it = x; label = new p } ∷ [])
unfolding labelled
labelled_push lab new a p [] x q e = let z : a ≡ p = omega arith in ap (λ (j : ℕ). record { it = x; label = new j } ∷ []) z
labelled_push lab new a p (y ∷ M) x q e =
    ap₂ (λ (l : ℕ) (L : List (Labelled ℕ)). record { it = y; label = l } ∷ L) (e a (omega arith) (omega arith))
    (labelled_push lab new (suc a) p M x (omega arith) (λ j h t. e j (omega arith) t))

-- A label of the list is that of some index.
pub labelled_from : {l x : ℕ} (lab : ℕ → ℕ) (a : ℕ) (M : List ℕ) → Member l x (labelled lab a M) → (j : ℕ) × (a ≤ j) × (j < a + length M) × (lab j ≡ l)
unfolding labelled
labelled_from lab a [] h = elim h [ ]
labelled_from lab a (y ∷ M) (Member.here e h) = (a, omega arith, omega arith, h)
labelled_from lab a (y ∷ M) (Member.there m) = let (j, h, t, e) = labelled_from lab (suc a) M m in (j, omega arith, omega arith, e)

-- m in front of the list if the digit is not 0.
abbrev pub keep_labelled : ℕ → Labelled ℕ → List (Labelled ℕ) → List (Labelled ℕ)
keep_labelled zero m L = L
keep_labelled (suc d) m L = m ∷ L

-- Those of them that a tag names.
unfoldable pub named : (ℕ → ℕ) → ℕ → List ℕ → ℕ → List (Labelled ℕ)
named lab a [] t = []
named lab a (x ∷ M) t = keep_labelled (t % 2) (record { it = x; label = lab a }) (named lab (suc a) M (t / 2))

pub named_its : (lab : ℕ → ℕ) (a : ℕ) (M : List ℕ) (t : ℕ) → its (named lab a M t) ≡ named_by M t
unfolding named its named_by
named_its lab a [] t = refl
named_its lab a (x ∷ M) t = go (t % 2) (named_its lab (suc a) M (t / 2))
  where
    go : (d : ℕ) → its (named lab (suc a) M (t / 2)) ≡ named_by M (t / 2)
        → its (keep_labelled d (record { it = x; label = lab a }) (named lab (suc a) M (t / 2))) ≡ keep_if_one d x (named_by M (t / 2))
    go zero e = e
    go (suc d) e = ap (λ (l : List ℕ). x ∷ l) e

pub named_part : (lab : ℕ → ℕ) (a : ℕ) (M : List ℕ) (t : ℕ) → Part (labelled lab a M) (named lab a M t)
unfolding named labelled
named_part lab a [] t = Part.nil
named_part lab a (x ∷ M) t = go (t % 2) (named_part lab (suc a) M (t / 2))
  where
    go : (d : ℕ) → Part (labelled lab (suc a) M) (named lab (suc a) M (t / 2))
        → Part (record { it = x; label = lab a } ∷ labelled lab (suc a) M) (keep_labelled d (record { it = x; label = lab a }) (named lab (suc a) M (t / 2)))
    go zero p = Part.skip p
    go (suc d) p = Part.keep p

-- A label is named exactly if the tag names an index with it.
pub named_from : (lab : ℕ → ℕ) (a : ℕ) (M : List ℕ) (t l : ℕ) → Names (named lab a M t) l → (i : ℕ) × (i < length M) × (bit t i ≡ 1) × (lab (a + i) ≡ l)
unfolding named
named_from lab a [] t l n = elim n.1 [ ]
named_from lab a (x ∷ M) t l n = go (t % 2) refl n.1 (λ m. named_from lab (suc a) M (t / 2) l m)
  where
    later : (i : ℕ) × (i < length M) × (bit (t / 2) i ≡ 1) × (lab (suc a + i) ≡ l) → (i : ℕ) × (i < suc (length M)) × (bit t i ≡ 1) × (lab (a + i) ≡ l)
    later (i, h, b, q) = let s : a + suc i ≡ suc a + i = omega arith in (suc i, omega arith, bit_suc t i ∙ b, ap lab s ∙ q)

    go : (d : ℕ) → t % 2 ≡ d → Member l n.0 (keep_labelled d (record { it = x; label = lab a }) (named lab (suc a) M (t / 2)))
        → (Names (named lab (suc a) M (t / 2)) l → (i : ℕ) × (i < length M) × (bit (t / 2) i ≡ 1) × (lab (suc a + i) ≡ l))
        → (i : ℕ) × (i < suc (length M)) × (bit t i ≡ 1) × (lab (a + i) ≡ l)
    go zero e m ih = later (ih (n.0, m))
    go (suc d) e (Member.here p q) ih = let z : a + 0 ≡ a = omega arith in (0, omega arith, omega (arith, bit_zero t, bit_lt t 0), ap lab z ∙ q)
    go (suc d) e (Member.there m) ih = later (ih (n.0, m))

pub named_of : (lab : ℕ → ℕ) (a i : ℕ) (M : List ℕ) (t : ℕ) → i < length M → bit t i ≡ 1 → Names (named lab a M t) (lab (a + i))
unfolding named
named_of lab a i [] t h e = absurd (omega arith)
named_of lab a zero (x ∷ M) t h e =
    let one : t % 2 ≡ 1 = sym (bit_zero t) ∙ e in
    let z : a ≡ a + 0 = omega arith in
    rw one (x, Member.here refl (ap lab z))
named_of lab a (suc i) (x ∷ M) t h e = go (t % 2) (named_of lab (suc a) i M (t / 2) (omega arith) (sym (bit_suc t i) ∙ e))
  where
    z : suc a + i ≡ a + suc i
    z = omega arith

    go : (d : ℕ) → Names (named lab (suc a) M (t / 2)) (lab (suc a + i))
        → Names (keep_labelled d (record { it = x; label = lab a }) (named lab (suc a) M (t / 2))) (lab (a + suc i))
    go zero n = subst (λ (j : ℕ). Names (named lab (suc a) M (t / 2)) (lab j)) z n
    go (suc d) (y, m) = subst (λ (j : ℕ). Names (record { it = x; label = lab a } ∷ named lab (suc a) M (t / 2)) (lab j)) z (y, Member.there m)

-- ---- tags that name nothing below s

pub bit_above : (t s i : ℕ) → bit (t / 2 ^ s) i ≡ bit t (s + i)
bit_above t s i = ap (λ (x : ℕ). x % 2) (shr-shr t s i)

pub bit_under : (t s j : ℕ) → t ≡ t / 2 ^ s * 2 ^ s → j < s → bit t j ≡ 0
bit_under t s j e h =
    ap (λ (x : ℕ). bit x j) (e ∙ sym (add-zero (t / 2 ^ s * 2 ^ s))) ∙ bit_word_lo s (t / 2 ^ s) 0 (pow_pos s) j h ∙ zero_bit j
