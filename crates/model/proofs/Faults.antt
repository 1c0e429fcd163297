-- The first fault is the refusal of the table, and there is none exactly where the input is accepted.
use mathlib.Core.Path.{◌≡◌, refl, sym, ◌∙◌, subst}
use mathlib.Core.Bool.{Bool, true, false, ◌||◌}
use mathlib.Core.Logic.{◌⊎◌, inl, inr, ◌↔◌}
use Prim.Native.Nat.{ℕ, zero, suc, ◌-◌, ◌%◌, ◌^◌, ◌<◌, ◌≤◌}
use native.Mathlib.Omega.{arith}
use lib.Dec.{eqb, ltb, leb}
use lib.ListN.{length}
use Rattle.bondset.proofs.Laws.{lt_or_ge, pos_of_ne}
use Rattle.cycles.specs.Compound.{Compound, m, one, other, OnePiece}
use Rattle.cycles.specs.Refusal.{WrongAtoms, WrongBytes, NoAtom, Loop, Again, Fine, Fits, FineBelow, Refused, Accepted}
use Rattle.cycles.proofs.Refusals.{fine_sound}
use Rattle.model.specs.Fault.{Fault, none, fault, or_else, when, first_of, some_below, same_pair, bond_fault, reached, piece_fault, size_fault, first_fault}
use Rattle.model.proofs.FaultsTests.{Tells, tells_true, tells_false, tells_dec, tells_same, not_tells, or_tells, and_tells, eqb_tells, ltb_tells, leb_tells, some_tells}
use Rattle.model.proofs.FaultsReach.{reached_all}

-- ---- faults apart

fault_number : {a b a' b' : ℕ} → fault a b ≡ fault a' b' → a ≡ a'
fault_number e = cc

fault_place : {a b a' b' : ℕ} → fault a b ≡ fault a' b' → b ≡ b'
fault_place e = cc

none_fault : {a b : ℕ} → none ≡ fault a b → ⊥
none_fault e = let z : ◌≡◌ {A = ℕ} 0 1 = cc in omega arith

-- ---- the first of several

else_none : {f : Fault} (g : Fault) → f ≡ none → or_else f g ≡ g
unfolding or_else
else_none g e = rw e

else_fault : {f : Fault} {number place : ℕ} (g : Fault) → f ≡ fault number place → or_else f g ≡ fault number place
unfolding or_else
else_fault g e = rw e

when_true : {b : Bool} (f : Fault) → b ≡ true → when b f ≡ f
unfolding when
when_true f e = rw e

when_false : {b : Bool} (f : Fault) → b ≡ false → when b f ≡ none
unfolding when
when_false f e = rw e

first_none : (f : ℕ → Fault) (k : ℕ) → ((j : ℕ) → j < k → f j ≡ none) → first_of k f ≡ none
unfolding first_of
first_none f zero clear = refl
first_none f (suc k) clear = else_none (f k) (first_none f k (λ j h. clear j (omega arith))) ∙ clear k (omega arith)

first_found : {number place : ℕ} (f : ℕ → Fault) (k at : ℕ) → at < k → ((j : ℕ) → j < at → f j ≡ none) → f at ≡ fault number place
    → first_of k f ≡ fault number place
unfolding first_of
first_found f zero at h clear e = absurd (omega arith)
first_found f (suc k) at h clear e = elim (lt_or_ge at k) [
  | inl l ↦ else_fault (f k) (first_found f k at l clear e)
  | inr l ↦
      let last : at ≡ k = omega arith in
      else_none (f k) (first_none f k (λ j l. clear j (omega arith))) ∙ rw last at e
]

module _ (c : Compound) where
  -- ---- what the tests tell

  atoms_tells : Tells (WrongAtoms c) (eqb c.n 0 || ltb 64 c.n)
  atoms_tells = or_tells (eqb_tells c.n 0) (ltb_tells 64 c.n)

  bytes_tells : Tells (WrongBytes c) (eqb (length c.bytes % 2) 1 || ltb 96 (m c))
  bytes_tells = or_tells (eqb_tells (length c.bytes % 2) 1) (ltb_tells 96 (m c))

  no_atom_tells : (k : ℕ) → Tells (NoAtom c k) (leb c.n (one c k) || leb c.n (other c k))
  no_atom_tells k = or_tells (leb_tells c.n (one c k)) (leb_tells c.n (other c k))

  loop_tells : (k : ℕ) → Tells (Loop c k) (eqb (one c k) (other c k))
  loop_tells k = eqb_tells (one c k) (other c k)

  again_tells : (k : ℕ) → Tells (Again c k) (some_below k (λ j. same_pair c j k))
  unfolding same_pair
  again_tells k =
      some_tells (λ j. or_tells (and_tells (eqb_tells (one c j) (one c k)) (eqb_tells (other c j) (other c k)))
      (and_tells (eqb_tells (one c j) (other c k)) (eqb_tells (other c j) (one c k)))) k

  piece_tells : Fits c → FineBelow c (m c) → Tells (OnePiece c) (eqb (reached c) (2 ^ c.n - 1))
  piece_tells fits fine = let all = reached_all c (fine_sound c fine) small some in tells_same all.0 all.1 (eqb_tells (reached c) (2 ^ c.n - 1))
    where
      small : c.n ≤ 64
      small = elim (lt_or_ge 64 c.n) [ inl l ↦ absurd (fits.atoms (inr l)) | inr l ↦ l ]

      some : 0 < c.n
      some = pos_of_ne c.n (λ z. fits.atoms (inl z))

  -- ---- the faults in their cases

  size_atoms : WrongAtoms c → size_fault c ≡ fault 1 0
  unfolding size_fault
  size_atoms wrong = else_fault _ (when_true (fault 1 0) (tells_true atoms_tells wrong))

  size_bytes : (WrongAtoms c → ⊥) → WrongBytes c → size_fault c ≡ fault 2 0
  unfolding size_fault
  size_bytes right wrong = else_none _ (when_false (fault 1 0) (tells_false atoms_tells right)) ∙ when_true (fault 2 0) (tells_true bytes_tells wrong)

  size_none : Fits c → size_fault c ≡ none
  unfolding size_fault
  size_none fits =
      else_none _ (when_false (fault 1 0) (tells_false atoms_tells fits.atoms)) ∙ when_false (fault 2 0) (tells_false bytes_tells fits.bytes)

  bond_no_atom : (k : ℕ) → NoAtom c k → bond_fault c k ≡ fault 3 k
  unfolding bond_fault
  bond_no_atom k wrong = else_fault _ (when_true (fault 3 k) (tells_true (no_atom_tells k) wrong))

  bond_loop : (k : ℕ) → (NoAtom c k → ⊥) → Loop c k → bond_fault c k ≡ fault 4 k
  unfolding bond_fault
  bond_loop k named wrong =
      else_none _ (when_false (fault 3 k) (tells_false (no_atom_tells k) named)) ∙ else_fault _ (when_true (fault 4 k) (tells_true (loop_tells k) wrong))

  bond_no_loop : (k : ℕ) → (NoAtom c k → ⊥) → (Loop c k → ⊥) → bond_fault c k ≡ when (some_below k (λ j. same_pair c j k)) (fault 5 k)
  unfolding bond_fault
  bond_no_loop k named apart =
      else_none _ (when_false (fault 3 k) (tells_false (no_atom_tells k) named)) ∙ else_none _ (when_false (fault 4 k) (tells_false (loop_tells k) apart))

  bond_again : (k : ℕ) → (NoAtom c k → ⊥) → (Loop c k → ⊥) → Again c k → bond_fault c k ≡ fault 5 k
  bond_again k named apart wrong = bond_no_loop k named apart ∙ when_true (fault 5 k) (tells_true (again_tells k) wrong)

  bond_none : (k : ℕ) → Fine c k → bond_fault c k ≡ none
  bond_none k fine = bond_no_loop k fine.atoms fine.ends ∙ when_false (fault 5 k) (tells_false (again_tells k) fine.new)

  bonds_none : (k : ℕ) → FineBelow c k → (j : ℕ) → j < k → bond_fault c j ≡ none
  bonds_none k fine j h = bond_none j (fine j h)

  first_bond : {number : ℕ} (k : ℕ) → Fits c → k < m c → FineBelow c k → bond_fault c k ≡ fault number k → first_fault c ≡ fault number k
  unfolding first_fault
  first_bond k fits h fine e = else_none _ (size_none fits) ∙ else_fault _ (first_found (bond_fault c) (m c) k h (bonds_none k fine) e)

  first_piece : Fits c → FineBelow c (m c) → first_fault c ≡ piece_fault c
  unfolding first_fault
  first_piece fits fine = else_none _ (size_none fits) ∙ else_none _ (first_none (bond_fault c) (m c) (bonds_none (m c) fine))

  refused_fault : {number place : ℕ} → Refused c number place → first_fault c ≡ fault number place
  unfolding first_fault piece_fault
  refused_fault (Refused.atoms wrong) = else_fault _ (size_atoms wrong)
  refused_fault (Refused.bytes right wrong) = else_fault _ (size_bytes right wrong)
  refused_fault (Refused.no_atom {k} fits h fine wrong) = first_bond k fits h fine (bond_no_atom k wrong)
  refused_fault (Refused.loop {k} fits h fine named wrong) = first_bond k fits h fine (bond_loop k named wrong)
  refused_fault (Refused.again {k} fits h fine named apart wrong) = first_bond k fits h fine (bond_again k named apart wrong)
  refused_fault (Refused.pieces fits fine split) = first_piece fits fine ∙ when_true (fault 6 0) (tells_true (not_tells (piece_tells fits fine)) split)

  accepted_none : Accepted c → first_fault c ≡ none
  unfolding piece_fault
  accepted_none accepted =
      first_piece accepted.fits accepted.fine
      ∙ when_false (fault 6 0) (tells_false (not_tells (piece_tells accepted.fits accepted.fine)) (λ split. split accepted.one_piece))

  -- ---- one of them is the case

  abbrev Some : Type 0
  Some = (number : ℕ) × (place : ℕ) × Refused c number place

  one_more : {k : ℕ} → FineBelow c k → Fine c k → FineBelow c (suc k)
  one_more {k} fine last j h = elim (lt_or_ge j k) [
    | inl l ↦ fine j l
    | inr l ↦ let e : k ≡ j = omega arith in subst (Fine c) e last
  ]

  fine_or_refused : Fits c → (k : ℕ) → k ≤ m c → FineBelow c k ⊎ Some
  fine_or_refused fits zero h = inl (λ j l. absurd (omega arith))
  fine_or_refused fits (suc k) h =
      next (fine_or_refused fits k (omega arith)) (tells_dec (no_atom_tells k)) (tells_dec (loop_tells k)) (tells_dec (again_tells k))
    where
      inside : k < m c
      inside = omega arith

      next : FineBelow c k ⊎ Some → Dec (NoAtom c k) → Dec (Loop c k) → Dec (Again c k) → FineBelow c (suc k) ⊎ Some
      next (inr refused) atom loop again = inr refused
      next (inl fine) (yes wrong) loop again = inr (3, k, Refused.no_atom fits inside fine wrong)
      next (inl fine) (no named) (yes wrong) again = inr (4, k, Refused.loop fits inside fine named wrong)
      next (inl fine) (no named) (no apart) (yes wrong) = inr (5, k, Refused.again fits inside fine named apart wrong)
      next (inl fine) (no named) (no apart) (no new) = inl (one_more fine (record { atoms = named; ends = apart; new = new }))

  piece_or_refused : Fits c → FineBelow c (m c) ⊎ Some → Accepted c ⊎ Some
  piece_or_refused fits (inr refused) = inr refused
  piece_or_refused fits (inl fine) = last (tells_dec (piece_tells fits fine))
    where
      last : Dec (OnePiece c) → Accepted c ⊎ Some
      last (yes whole) = inl (record { fits = fits; fine = fine; one_piece = whole })
      last (no split) = inr (6, 0, Refused.pieces fits fine split)

  accepted_or_refused : Dec (WrongAtoms c) → Dec (WrongBytes c) → Accepted c ⊎ Some
  accepted_or_refused (yes wrong) d = inr (1, 0, Refused.atoms wrong)
  accepted_or_refused (no right) (yes wrong) = inr (2, 0, Refused.bytes right wrong)
  accepted_or_refused (no right) (no even) =
      let fits : Fits c = record { atoms = right; bytes = even } in
      piece_or_refused fits (fine_or_refused fits (m c) (omega arith))

-- Every input is accepted or refused.
pub refused_or_accepted : (c : Compound) → Accepted c ⊎ ((number : ℕ) × (place : ℕ) × Refused c number place)
refused_or_accepted c = accepted_or_refused c (tells_dec (atoms_tells c)) (tells_dec (bytes_tells c))

-- A refusal is given exactly in its case of the table.
pub fault_refused : (c : Compound) (number place : ℕ) → (first_fault c ≡ fault number place) ↔ Refused c number place
fault_refused c number place = (λ e. to e (refused_or_accepted c), refused_fault c)
  where
    to : first_fault c ≡ fault number place → Accepted c ⊎ ((a : ℕ) × (b : ℕ) × Refused c a b) → Refused c number place
    to e (inl accepted) = absurd (none_fault (sym (accepted_none c accepted) ∙ e))
    to e (inr (a, b, refused)) =
        let same = sym (refused_fault c refused) ∙ e in
        subst (λ (x : ℕ). Refused c x place) (fault_number same) (subst (Refused c a) (fault_place same) refused)

-- No refusal is given exactly if the input is accepted.
pub none_accepted : (c : Compound) → (first_fault c ≡ none) ↔ Accepted c
none_accepted c = (λ e. to e (refused_or_accepted c), accepted_none c)
  where
    to : first_fault c ≡ none → Accepted c ⊎ ((a : ℕ) × (b : ℕ) × Refused c a b) → Accepted c
    to e (inl accepted) = accepted
    to e (inr (a, b, refused)) = absurd (none_fault (sym e ∙ refused_fault c refused))

-- ---- each refusal by itself

-- 1 is given exactly if n is 0 or above 64.
pub refusal_1 : (c : Compound) → (first_fault c ≡ fault 1 0) ↔ WrongAtoms c
refusal_1 c = (λ e. out ((fault_refused c 1 0).0 e), λ wrong. refused_fault c (Refused.atoms wrong))
  where
    out : Refused c 1 0 → WrongAtoms c
    out (Refused.atoms wrong) = wrong

-- 2 is given exactly if, without 1, bond bytes are odd in number or there are more than 96 bonds.
pub refusal_2 : (c : Compound) → (first_fault c ≡ fault 2 0) ↔ ((WrongAtoms c → ⊥) × WrongBytes c)
refusal_2 c = (λ e. out ((fault_refused c 2 0).0 e), λ p. refused_fault c (Refused.bytes p.0 p.1))
  where
    out : Refused c 2 0 → (WrongAtoms c → ⊥) × WrongBytes c
    out (Refused.bytes right wrong) = (right, wrong)

module _ (c : Compound) (k : ℕ) where
  -- Neither 1 nor 2 holds, and no bond before bond k gives 3, 4 or 5.
  pub record ComesTo : Type 0 where
    pub fits : Fits c
    pub inside : k < m c
    pub fine : FineBelow c k

  -- 3 is given at bond k exactly if no earlier case holds and the bond names an atom n or above.
  pub refusal_3 : (first_fault c ≡ fault 3 k) ↔ (ComesTo × NoAtom c k)
  refusal_3 = (λ e. out ((fault_refused c 3 k).0 e), λ p. refused_fault c (Refused.no_atom p.0.fits p.0.inside p.0.fine p.1))
    where
      out : Refused c 3 k → ComesTo × NoAtom c k
      out (Refused.no_atom fits inside fine wrong) = (record { fits = fits; inside = inside; fine = fine }, wrong)

  -- 4 is given at bond k exactly if no earlier case holds and the bond joins an atom to itself.
  pub refusal_4 : (first_fault c ≡ fault 4 k) ↔ (ComesTo × (NoAtom c k → ⊥) × Loop c k)
  refusal_4 = (λ e. out ((fault_refused c 4 k).0 e), λ p. refused_fault c (Refused.loop p.0.fits p.0.inside p.0.fine p.1 p.2))
    where
      out : Refused c 4 k → ComesTo × (NoAtom c k → ⊥) × Loop c k
      out (Refused.loop fits inside fine named wrong) = (record { fits = fits; inside = inside; fine = fine }, named, wrong)

  -- 5 is given at bond k exactly if no earlier case holds and an earlier bond joins the same two atoms, either way round.
  pub refusal_5 : (first_fault c ≡ fault 5 k) ↔ (ComesTo × (NoAtom c k → ⊥) × (Loop c k → ⊥) × Again c k)
  refusal_5 = (λ e. out ((fault_refused c 5 k).0 e), λ p. refused_fault c (Refused.again p.0.fits p.0.inside p.0.fine p.1 p.2 p.3))
    where
      out : Refused c 5 k → ComesTo × (NoAtom c k → ⊥) × (Loop c k → ⊥) × Again c k
      out (Refused.again fits inside fine named apart wrong) = (record { fits = fits; inside = inside; fine = fine }, named, apart, wrong)

-- 6 is given exactly if no earlier case holds and the compound is not in one piece.
pub refusal_6 : (c : Compound) → (first_fault c ≡ fault 6 0) ↔ (Fits c × FineBelow c (m c) × (OnePiece c → ⊥))
refusal_6 c = (λ e. out ((fault_refused c 6 0).0 e), λ p. refused_fault c (Refused.pieces p.0 p.1 p.2))
  where
    out : Refused c 6 0 → Fits c × FineBelow c (m c) × (OnePiece c → ⊥)
    out (Refused.pieces fits fine split) = (fits, fine, split)
