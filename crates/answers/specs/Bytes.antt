-- What the bytes of a left buffer say, and what is claimed of them: rows, rings, the marked prototypes, classes.
use Rattle.std.specs.Prelude.{◌≡◌, cond, List, [], ◌∷◌, ℕ, suc, ◌+◌, ◌*◌, ◌<◌, eqb, length, get_or, drop}
use Rattle.cycles.specs.Compound.{Compound}
use Rattle.cycles.specs.Ring.{Relevant}
use Rattle.cycles.specs.Basis.{Interchangeable}
use Rattle.cycles.specs.Family.{Family, Prototype, Member}
pub use Rattle.cycles.specs.Through.{Exactly}
unfoldable pub use Rattle.cycles.specs.Through.{sum_to}

-- Byte k of a buffer.
abbrev pub byte : List ℕ → ℕ → ℕ
byte left k = get_or left k 0

-- The family that row k names: "length, r, p, q, x".
unfoldable pub family_at : List ℕ → ℕ → Family
family_at left k =
    record { long = byte left (8 * k); r = byte left (8 * k + 1); p = byte left (8 * k + 2); q = byte left (8 * k + 3); x = byte left (8 * k + 4) }

-- Row k's "basis mark 0 or 1".
unfoldable pub mark_at : List ℕ → ℕ → ℕ
mark_at left k = byte left (8 * k + 5)

-- Row k's "class".
unfoldable pub class_at : List ℕ → ℕ → ℕ
class_at left k = byte left (8 * k + 6)

-- Class row g's "length".
unfoldable pub long_at : List ℕ → ℕ → ℕ
long_at left g = byte left (5 * g)

-- Class row g's "relative rank".
unfoldable pub rank_at : List ℕ → ℕ → ℕ
rank_at left g = byte left (5 * g + 1)

-- Class row g's "number of families low byte, high byte".
unfoldable pub families_at : List ℕ → ℕ → ℕ
families_at left g = byte left (5 * g + 2) + 256 * byte left (5 * g + 3)

-- Class row g's "essential mark 0 or 1".
unfoldable pub essential_at : List ℕ → ℕ → ℕ
essential_at left g = byte left (5 * g + 4)

-- How many of the first rows are of class g.
abbrev pub rows_of : List ℕ → ℕ → ℕ → ℕ
rows_of left families g = sum_to families (λ k. cond (eqb (class_at left k) g) 1 0)

-- "Rows start at byte 0 of their buffer with no gaps; bytes after the last stay as they were": so many rows of a width.
pub record SpareKept (width count : ℕ) (left lent : List ℕ) : Type 0 where
  pub same_length : length left ≡ length lent
  pub spare : drop (width * count) left ≡ drop (width * count) lent

module _ (c : Compound) where
  -- The ranking by number, of which the claim speaks.
  abbrev pub MemberAt : List ℕ → ℕ → ℕ → Type 0
  MemberAt left k C = Member c (λ a. a) (family_at left k) C

  -- The relevant rings are in exactly k classes: one ring stands for each, no two of these are interchangeable, and every relevant ring is
  -- interchangeable with one of them.
  pub record ClassCount (k : ℕ) : Type 0 where
    pub ring : (g : ℕ) → g < k → ℕ
    pub relevant : (g : ℕ) (h : g < k) → Relevant c (ring g h)
    pub apart : (g j : ℕ) (h : g < k) (l : j < k) → Interchangeable c (ring g h) (ring j l) → g ≡ j
    pub all : (C : ℕ) → Relevant c C → (g : ℕ) × (h : g < k) × Interchangeable c C (ring g h)

  -- C is a member of the family of exactly one row of so many.
  pub record InOneRow (left : List ℕ) (families C : ℕ) : Type 0 where
    pub row : ℕ
    pub inside : row < families
    pub member : MemberAt left row C
    pub only : (k : ℕ) → k < families → MemberAt left k C → k ≡ row

  -- C is a member of the family of a row of class g.
  pub record OfClass (left : List ℕ) (families g C : ℕ) : Type 0 where
    pub row : ℕ
    pub inside : row < families
    pub class : class_at left row ≡ g
    pub member : MemberAt left row C

  -- `MarkedRows left first count B`: B has the prototypes of those rows, of so many from the first, that have mark 1, in row order.
  pub data MarkedRows (left : List ℕ) : ℕ → ℕ → List ℕ → Type 0 where
    none : {k : ℕ} → MarkedRows left k 0 []
    marked : {k count S : ℕ} {B : List ℕ} → mark_at left k ≡ 1 → Prototype c (λ a. a) (family_at left k) S → MarkedRows left (suc k) count B
        → MarkedRows left k (suc count) (S ∷ B)
    unmarked : {k count : ℕ} {B : List ℕ} → mark_at left k ≡ 0 → MarkedRows left (suc k) count B → MarkedRows left k (suc count) B
