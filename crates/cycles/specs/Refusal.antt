-- Refusals 1 to 6: which inputs are no compound that the unit works on, and where.
use Rattle.std.specs.Prelude.{◌≡◌, ◌⊎◌, ℕ, ◌%◌, ◌<◌, ◌≤◌, length}
use Rattle.cycles.specs.Compound.{Compound, m, one, other, OnePiece}

module _ (c : Compound) where
  -- "n is 0 or above 64"
  abbrev pub WrongAtoms : Type 0
  WrongAtoms = (c.n ≡ 0) ⊎ (64 < c.n)

  -- "bond bytes are odd in number, or there are more than 96 bonds"
  abbrev pub WrongBytes : Type 0
  WrongBytes = (length c.bytes % 2 ≡ 1) ⊎ (96 < m c)

  -- "a bond names an atom n or above"
  abbrev pub NoAtom : ℕ → Type 0
  NoAtom k = (c.n ≤ one c k) ⊎ (c.n ≤ other c k)

  -- "a bond joins an atom to itself"
  abbrev pub Loop : ℕ → Type 0
  Loop k = one c k ≡ other c k

  -- Bonds j and k join the same two atoms, "either way round".
  abbrev pub SamePair : ℕ → ℕ → Type 0
  SamePair j k = ((one c j ≡ one c k) × (other c j ≡ other c k)) ⊎ ((one c j ≡ other c k) × (other c j ≡ one c k))

  -- "an earlier bond joins the same two atoms, either way round"
  abbrev pub Again : ℕ → Type 0
  Again k = (j : ℕ) × (j < k) × SamePair j k

  -- Bond k gives none of 3, 4, 5.
  pub record Fine (k : ℕ) : Type 0 where
    pub atoms : NoAtom k → ⊥
    pub ends : Loop k → ⊥
    pub new : Again k → ⊥

  -- The numbers of atoms and bonds give neither 1 nor 2.
  pub record Fits : Type 0 where
    pub atoms : WrongAtoms → ⊥
    pub bytes : WrongBytes → ⊥

  -- No bond before bond k gives 3, 4 or 5.
  abbrev pub FineBelow : ℕ → Type 0
  FineBelow k = (j : ℕ) → j < k → Fine j

  -- "Each is given in exactly the stated case when no earlier one holds. Order: 1, 2, then bond by bond 3, 4, 5, then 6."
  -- `Refused number at`.
  pub data Refused : ℕ → ℕ → Type 0 where
    atoms : WrongAtoms → Refused 1 0
    bytes : (WrongAtoms → ⊥) → WrongBytes → Refused 2 0
    no_atom : {k : ℕ} → Fits → k < m c → FineBelow k → NoAtom k → Refused 3 k
    loop : {k : ℕ} → Fits → k < m c → FineBelow k → (NoAtom k → ⊥) → Loop k → Refused 4 k
    again : {k : ℕ} → Fits → k < m c → FineBelow k → (NoAtom k → ⊥) → (Loop k → ⊥) → Again k → Refused 5 k
    pieces : Fits → FineBelow (m c) → (OnePiece c → ⊥) → Refused 6 0

  -- None of 1 to 6 holds.
  pub record Accepted : Type 0 where
    pub fits : Fits
    pub fine : FineBelow (m c)
    pub one_piece : OnePiece c
