-- Lists of elements with labels: the elements of one label, and what stays as labels change.
use mathlib.Core.Path.{◌≡◌, refl, sym, ◌∙◌, ap, subst}
use mathlib.Core.List.{List, [], ◌∷◌, ◌++◌}
use mathlib.Core.Logic.Dec
use mathlib.Core.Logic.{◌⊎◌, inl, inr}
use Prim.Native.Nat.{ℕ}
use native.Mathlib.Decide.{ℕ_discrete}
use Rattle.spans.specs.Basis.{Part, All}
use Rattle.spans.proofs.Lists.{part_all, all_map, all_and, part_refl, part_none, part_trans, Perm}
use Rattle.spans.proofs.Sift.{Sift, sift_all, sift_part, sift_most, sift_perm, sift, sifted}

-- An element with a label.
pub record Labelled (X : Type 0) : Type 0 where
  pub it : X
  pub label : ℕ

module _ {X : Type 0} where
  -- The elements, without their labels.
  unfoldable pub its : List (Labelled X) → List X
  its [] = []
  its (m ∷ M) = m.it ∷ its M

  -- The members with label l, and their elements.
  unfoldable pub listed : ℕ → List (Labelled X) → List (Labelled X)
  listed l M = sift (λ m. m.label ≡ l) (λ m. ℕ_discrete m.label l) M

  unfoldable pub within : ℕ → List (Labelled X) → List X
  within l M = its (listed l M)

  -- The members with another label, and their elements.
  unlisted : ℕ → List (Labelled X) → List (Labelled X)
  unlisted l M = sift (λ m. ¬ (m.label ≡ l)) (λ m. Dec.not (ℕ_discrete m.label l)) M

  pub without : ℕ → List (Labelled X) → List X
  without l M = its (unlisted l M)

  -- Each label j becomes f j.
  unfoldable pub relabel : (ℕ → ℕ) → List (Labelled X) → List (Labelled X)
  relabel f [] = []
  relabel f (m ∷ M) = record { it = m.it; label = f m.label } ∷ relabel f M

  -- x is listed with label l.
  pub data Member (l : ℕ) (x : X) : List (Labelled X) → Type 0 where
    here : {m : Labelled X} {M : List (Labelled X)} → m.it ≡ x → m.label ≡ l → Member l x (m ∷ M)
    there : {m : Labelled X} {M : List (Labelled X)} → Member l x M → Member l x (m ∷ M)

  -- Some element is listed with label l.
  abbrev pub Names : List (Labelled X) → ℕ → Type 0
  Names M l = (x : X) × Member l x M

  -- f gives the label l to the labels that U names, and keeps apart the others that M names.
  pub record Merges (M U : List (Labelled X)) (f : ℕ → ℕ) (l : ℕ) : Type 0 where
    pub one : (j : ℕ) → Names U j → f j ≡ l
    pub apart : (j k : ℕ) → Names M j → Names M k → f j ≡ f k → (j ≡ k) ⊎ (Names U j × Names U k)

  names_dec_by : {j : ℕ} {m : Labelled X} {U : List (Labelled X)} → Dec (m.label ≡ j) → Dec (Names U j) → Dec (Names (m ∷ U) j)
  names_dec_by {m} (yes e) d = yes (m.it, Member.here refl e)
  names_dec_by (no n) (yes (x, p)) = yes (x, Member.there p)
  names_dec_by {j} {m} {U} (no n) (no k) = no (λ q. neither q.0 q.1)
    where
      neither : (x : X) → Member j x (m ∷ U) → ⊥
      neither x (Member.here e h) = n h
      neither x (Member.there p) = k (x, p)

  names_dec : (U : List (Labelled X)) (j : ℕ) → Dec (Names U j)
  names_dec [] j = no (λ q. elim q.1 [ ])
  names_dec (m ∷ U) j = names_dec_by (ℕ_discrete m.label j) (names_dec U j)

  -- To give all labels of U one of them and to leave the others alone is such an f.
  pub merges : {M U : List (Labelled X)} {f : ℕ → ℕ} {l : ℕ} → Names U l → ((j : ℕ) → Names U j → f j ≡ l)
      → ((j : ℕ) → ¬ Names U j → f j ≡ j) → Merges M U f l
  merges {U} {f} {l} a one same = record { one = one; apart = λ j k p q e. by_cases j k e (names_dec U j) (names_dec U k) }
    where
      by_cases : (j k : ℕ) → f j ≡ f k → Dec (Names U j) → Dec (Names U k) → (j ≡ k) ⊎ (Names U j × Names U k)
      by_cases j k e (yes p) (yes q) = inr (p, q)
      by_cases j k e (yes p) (no n) = absurd (n (subst (λ (i : ℕ). Names U i) (sym (one j p) ∙ e ∙ same k n) a))
      by_cases j k e (no n) (yes q) = absurd (n (subst (λ (i : ℕ). Names U i) (sym (one k q) ∙ sym e ∙ same j n) a))
      by_cases j k e (no n) (no m) = inl (sym (same j n) ∙ e ∙ same k m)

  pub its_append : (M N : List (Labelled X)) → its (M ++ N) ≡ its M ++ its N
  unfolding its
  its_append [] N = refl
  its_append (m ∷ M) N = ap (λ (l : List X). m.it ∷ l) (its_append M N)

  pub its_part : {M N : List (Labelled X)} → Part M N → Part (its M) (its N)
  unfolding its
  its_part Part.nil = Part.nil
  its_part (Part.keep p) = Part.keep (its_part p)
  its_part (Part.skip p) = Part.skip (its_part p)

  pub its_perm : {M N : List (Labelled X)} → Perm M N → Perm (its M) (its N)
  unfolding its
  its_perm Perm.nil = Perm.nil
  its_perm (Perm.cons p) = Perm.cons (its_perm p)
  its_perm Perm.swap = Perm.swap
  its_perm (Perm.trans p q) = Perm.trans (its_perm p) (its_perm q)

  its_all : {Q : X → Type 0} {M : List (Labelled X)} → All (λ m. Q m.it) M → All Q (its M)
  unfolding its
  its_all All.nil = All.nil
  its_all (All.cons a r) = All.cons a (its_all r)

  pub its_relabel : (f : ℕ → ℕ) (M : List (Labelled X)) → its (relabel f M) ≡ its M
  unfolding its relabel
  its_relabel f [] = refl
  its_relabel f (m ∷ M) = ap (λ (l : List X). m.it ∷ l) (its_relabel f M)

  relabel_part : {M U : List (Labelled X)} (f : ℕ → ℕ) → Part M U → Part (relabel f M) (relabel f U)
  unfolding relabel
  relabel_part f Part.nil = Part.nil
  relabel_part f (Part.keep p) = Part.keep (relabel_part f p)
  relabel_part f (Part.skip p) = Part.skip (relabel_part f p)

  relabel_all : {l : ℕ} (f : ℕ → ℕ) {M : List (Labelled X)} → All (λ m. f m.label ≡ l) M → All (λ m. m.label ≡ l) (relabel f M)
  unfolding relabel
  relabel_all f All.nil = All.nil
  relabel_all f (All.cons e r) = All.cons e (relabel_all f r)

  pub member_all : {Q : X → Type 0} {l : ℕ} {x : X} (M : List (Labelled X)) → Member l x M → All Q (its M) → Q x
  unfolding its
  member_all [] p a = elim p [ ]
  member_all {Q} (m ∷ M) (Member.here e h) (All.cons a r) = subst Q e a
  member_all (m ∷ M) (Member.there p) (All.cons a r) = member_all M p r

  pub member_part : {l : ℕ} {x : X} {M U : List (Labelled X)} → Part M U → Member l x U → Member l x M
  member_part Part.nil q = elim q [ ]
  member_part (Part.keep p) (Member.here e h) = Member.here e h
  member_part (Part.keep p) (Member.there q) = Member.there (member_part p q)
  member_part (Part.skip p) q = Member.there (member_part p q)

  pub member_perm : {l : ℕ} {x : X} {M N : List (Labelled X)} → Perm M N → Member l x M → Member l x N
  member_perm Perm.nil q = elim q [ ]
  member_perm (Perm.cons p) (Member.here e h) = Member.here e h
  member_perm (Perm.cons p) (Member.there q) = Member.there (member_perm p q)
  member_perm Perm.swap (Member.here e h) = Member.there (Member.here e h)
  member_perm Perm.swap (Member.there (Member.here e h)) = Member.here e h
  member_perm Perm.swap (Member.there (Member.there q)) = Member.there (Member.there q)
  member_perm (Perm.trans p r) q = member_perm r (member_perm p q)

  pub own_members : (M : List (Labelled X)) → All (λ m. Member m.label m.it M) M
  own_members [] = All.nil
  own_members (m ∷ M) = All.cons (Member.here refl refl) (all_map (λ n p. Member.there p) (own_members M))

  pub member_relabel : {f : ℕ → ℕ} {l : ℕ} {x : X} (M : List (Labelled X)) → Member l x (relabel f M) → (j : ℕ) × Member j x M × (f j ≡ l)
  unfolding relabel
  member_relabel [] p = elim p [ ]
  member_relabel (m ∷ M) (Member.here e h) = (m.label, Member.here e refl, h)
  member_relabel (m ∷ M) (Member.there p) = let (j, q, h) = member_relabel M p in (j, Member.there q, h)

  pub listed_sift : (l : ℕ) (M : List (Labelled X)) → Sift (λ m. m.label ≡ l) M (listed l M)
  unfolding listed
  listed_sift l M = sifted _ (λ m. ℕ_discrete m.label l) M

  unlisted_sift : (l : ℕ) (M : List (Labelled X)) → Sift (λ m. ¬ (m.label ≡ l)) M (unlisted l M)
  unfolding unlisted
  unlisted_sift l M = sifted _ (λ m. Dec.not (ℕ_discrete m.label l)) M

  listed_part : (l : ℕ) (M : List (Labelled X)) → Part M (listed l M)
  listed_part l M = sift_part _ (listed_sift l M)

  listed_all : (l : ℕ) (M : List (Labelled X)) → All (λ m. m.label ≡ l) (listed l M)
  listed_all l M = sift_all _ (listed_sift l M)

  pub within_members : (l : ℕ) (M : List (Labelled X)) → All (λ x. Member l x M) (within l M)
  unfolding within
  within_members l M =
      its_all
      (all_map (λ m q. subst (λ (j : ℕ). Member j m.it M) q.1 q.0) (all_and (part_all (listed_part l M) (own_members M)) (listed_all l M)))

  pub within_part : (l : ℕ) (M : List (Labelled X)) → Part (its M) (within l M)
  unfolding within
  within_part l M = its_part (listed_part l M)

  -- A part whose members all have label l.
  pub part_within : {l : ℕ} {M U : List (Labelled X)} → Part M U → All (λ m. m.label ≡ l) U → Part (within l M) (its U)
  unfolding within
  part_within {l} {M} p a = its_part (sift_most _ (listed_sift l M) p a)

  -- A part whose members all get label l.
  pub part_relabel : {l : ℕ} {M U : List (Labelled X)} (f : ℕ → ℕ) → Part M U → All (λ m. f m.label ≡ l) U → Part (within l (relabel f M)) (its U)
  part_relabel f p a = rw its_relabel at (part_within (relabel_part f p) (relabel_all f a))

  pub within_mono : (l : ℕ) {M N : List (Labelled X)} → Part M N → Part (within l M) (within l N)
  unfolding within
  within_mono l {N} p = part_within (part_trans p (listed_part l N)) (listed_all l N)

  pub within_relabel : (f : ℕ → ℕ) (l : ℕ) (M : List (Labelled X)) → Part (within (f l) (relabel f M)) (within l M)
  unfolding within
  within_relabel f l M = part_relabel f (listed_part l M) (all_map (λ m e. ap f e) (listed_all l M))

  pub within_without : {l j : ℕ} (M : List (Labelled X)) → ¬ (l ≡ j) → Part (without l M) (within j M)
  unfolding within without
  within_without {l} {j} M n =
      its_part (sift_most _ (unlisted_sift l M) (listed_part j M) (all_map (λ m q p. n (sym p ∙ q)) (listed_all j M)))

  pub within_perm : (l : ℕ) (M : List (Labelled X)) → Perm (its M) (within l M ++ without l M)
  unfolding within without
  within_perm l M = rw (← its_append) (its_perm (sift_perm (listed_sift l M) (unlisted_sift l M)))

  -- A listed element, as a part of those with its label.
  pub member_within : {l : ℕ} {x : X} {M : List (Labelled X)} → Member l x M → Part (within l M) (x ∷ [])
  unfolding its
  member_within {l} (Member.here {m = m} {M = M} e h) =
      subst (λ (u : X). Part (within l (m ∷ M)) (u ∷ [])) e (part_within (Part.keep (part_none M)) (All.cons h All.nil))
  member_within {l} (Member.there {m = m} {M = M} q) = part_trans (within_mono l (Part.skip (part_refl M))) (member_within q)
