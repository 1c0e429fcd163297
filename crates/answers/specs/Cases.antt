-- The table of refusals, row by row: "given when", no earlier one holding, and "at".
use Rattle.std.specs.Prelude.{◌≡◌, List, ℕ, ◌<◌, ◌≤◌}
use Rattle.cycles.specs.Compound.{Compound, m, OnePiece}
use Rattle.cycles.specs.Rows.{Report, most}
use Rattle.cycles.specs.Refusal.{WrongAtoms, WrongBytes, NoAtom, Loop, Again, Fits, FineBelow, Accepted}
use Rattle.answers.specs.Answered.{family_room, class_room, RightReport}

module _ (n : ℕ) (bonds rows class_rows : List ℕ) (i : ℕ) where
  abbrev c : Compound
  c = record { n = n; bytes = bonds }

  -- "n is 0 or above 64"; at 0.
  abbrev pub Case1 : ℕ → Type 0
  Case1 place = WrongAtoms c × (place ≡ 0)

  -- "bond bytes are odd in number, or there are more than 96 bonds"; at 0.
  abbrev pub Case2 : ℕ → Type 0
  Case2 place = (WrongAtoms c → ⊥) × WrongBytes c × (place ≡ 0)

  -- The numbers of atoms and bonds fit, and the place is a bond before which no bond gives 3, 4 or 5.
  pub record Reached (place : ℕ) : Type 0 where
    pub fits : Fits c
    pub bond : place < m c
    pub before : FineBelow c place

  -- "a bond names an atom n or above"; at the bond.
  abbrev pub Case3 : ℕ → Type 0
  Case3 place = Reached place × NoAtom c place

  -- "a bond joins an atom to itself"; at the bond.
  abbrev pub Case4 : ℕ → Type 0
  Case4 place = Reached place × (NoAtom c place → ⊥) × Loop c place

  -- "an earlier bond joins the same two atoms, either way round"; at the bond.
  abbrev pub Case5 : ℕ → Type 0
  Case5 place = Reached place × (NoAtom c place → ⊥) × (Loop c place → ⊥) × Again c place

  -- "the compound is in more than one piece"; at 0.
  abbrev pub Case6 : ℕ → Type 0
  Case6 place = Fits c × FineBelow c (m c) × (OnePiece c → ⊥) × (place ≡ 0)

  -- None of 1 to 6 holds, and R is the right report: `families` of it is the number of kept families, `classes` the number of classes, `rings` the
  -- sum of the sizes.
  pub record Reports (R : Report) : Type 0 where
    pub accepted : Accepted c
    pub right : RightReport n bonds rows class_rows i R

  -- "kept families exceed the lent rows (bytes / 8 rounded down, and at most 4,096)"; at families needed.
  abbrev pub Case7 : ℕ → Type 0
  Case7 place = (R : Report) × Reports R × (family_room rows < R.families) × (place ≡ R.families)

  -- "classes exceed the lent rows (bytes / 5 rounded down)"; at classes needed.
  abbrev pub Case8 : ℕ → Type 0
  Case8 place = (R : Report) × Reports R × (R.families ≤ family_room rows) × (class_room class_rows < R.classes) × (place ≡ R.classes)

  -- "rings would exceed 18,446,744,073,709,551,615"; at 0.
  abbrev pub Case9 : ℕ → Type 0
  Case9 place = (R : Report) × Reports R × (R.families ≤ family_room rows) × (R.classes ≤ class_room class_rows) × (most < R.rings) × (place ≡ 0)

  -- "Both buffers stay as lent."
  abbrev pub AsLent : List ℕ → List ℕ → Type 0
  AsLent left left' = (left ≡ rows) × (left' ≡ class_rows)
