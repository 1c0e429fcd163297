-- The rows of a right report: fewer than 2^64, and in the bytes of a class row no number is cut off.
use mathlib.Core.Path.{◌≡◌, refl}
use mathlib.Core.Bool.{Bool, true, false, cond, ◌&&◌}
use mathlib.Core.List.{List, [], ◌∷◌}
use Prim.Native.Nat.{ℕ, suc, ◌+◌, ◌*◌, ◌/◌, ◌%◌, ◌^◌, ◌<◌, ◌≤◌}
use native.Mathlib.Nat.{mod-eq_of_lt}
use native.Mathlib.Omega.{arith}
use lib.Dec.{eqb}
use lib.ListN.{length, length-append}
use Rattle.spans.specs.Basis.{All}
use Rattle.cycles.specs.Compound.{Compound}
use Rattle.cycles.specs.Family.{Family, Candidate, Kept}
use Rattle.cycles.specs.Rows.{Row, ClassRow, key, Less, Ascending, how_many, class_row, class_rows, Marks}
use Rattle.cycles.proofs.PathsDecide.{joins_sym}
use Rattle.answers.specs.Answered as Answered
use Rattle.model.specs.Fold.{each}
use Rattle.model.proofs.Ready.{Ready}
use Rattle.model.proofs.ItemsCandidates.{prototype_top, top_named_small}
use Rattle.model.proofs.MeetsBounds.{kept_long}
use Rattle.rows.specs.Rows.{family_bytes, class_bytes}
use Rattle.engine.proofs.Keeps.{row_bytes, class_row_bytes}

-- ---- how many rows there are

-- The numbers of a family are bytes.
pub record Small (f : Family) : Type 0 where
  pub long : f.long ≤ 64
  pub r : f.r < 64
  pub p : f.p < 64
  pub q : f.q < 64
  pub x : f.x < 256

module _ (c : Compound) (rank pre : ℕ → ℕ) (ready : Ready c rank pre) where
  candidate_small : {f : Family} {d : ℕ} {link : List ℕ} → Candidate c rank f d link → (f.p < 64) × (f.q < 64) × (f.x < 256)
  candidate_small (Candidate.odd {p = p} {q = q} less bond under_p under_q e) = (
    omega (arith, ready.atoms, ready.sound.named bond.0 p q bond.1),
    omega (arith, ready.atoms, ready.sound.named bond.0 q p (joins_sym c bond.1)),
    omega arith,
  )
  candidate_small (Candidate.even {p = p} {q = q} {x = x} less bond_p bond_q under_x under_p under_q e) = (
    omega (arith, ready.atoms, ready.sound.named bond_p.0 p x bond_p.1),
    omega (arith, ready.atoms, ready.sound.named bond_q.0 q x (joins_sym c bond_q.1)),
    omega (arith, ready.atoms, ready.sound.named bond_q.0 x q bond_q.1),
  )

  -- The numbers of a kept family are small.
  pub kept_small : {f : Family} → Kept c rank f → Small f
  kept_small {f} k =
      let (low, high) = kept_long c ready.sound rank k in
      let (p, q, x) = candidate_small k.prototype.candidate in
      record {
        long = omega (arith, ready.atoms);
        r = omega (arith, ready.atoms, top_named_small c rank pre ready f.r (prototype_top c rank pre ready k.prototype low));
        p = p;
        q = q;
        x = x;
      }

-- Five numbers as one: the first counts most.
abbrev five : ℕ → ℕ → ℕ → ℕ → ℕ → ℕ
five k r x p q = (((k * 256 + r) * 256 + x) * 256 + p) * 256 + q

less_five : {k r x p q k' r' x' p' q' : ℕ} → Less (k ∷ r ∷ x ∷ p ∷ q ∷ []) (k' ∷ r' ∷ x' ∷ p' ∷ q' ∷ []) → r < 256 → x < 256 → p < 256 → q < 256
    → five k r x p q < five k' r' x' p' q'
less_five (Less.here h) br bx bp bq = omega arith
less_five (Less.later (Less.here h)) br bx bp bq = omega arith
less_five (Less.later (Less.later (Less.here h))) br bx bp bq = omega arith
less_five (Less.later (Less.later (Less.later (Less.here h)))) br bx bp bq = omega arith
less_five (Less.later (Less.later (Less.later (Less.later (Less.here h))))) br bx bp bq = omega arith
less_five (Less.later (Less.later (Less.later (Less.later (Less.later l))))) br bx bp bq = elim l [ ]

-- A family's numbers as one, in the order of the rows.
code : Family → ℕ
code f = five f.long f.r f.x f.p f.q

less_code : (f g : Family) → Less (key f) (key g) → Small f → code f < code g
unfolding code
less_code f g l s = less_five l (omega (arith, s.r)) s.x (omega (arith, s.p)) (omega (arith, s.q))

code_lt : {f : Family} → Small f → code f < 1099511627776
unfolding code
code_lt s = omega (arith, s.long, s.r, s.x, s.p, s.q)

ascending_room : {f : Family} {fs : List Family} → Ascending (f ∷ fs) → All Small (f ∷ fs) → length fs + code f < 1099511627776
ascending_room {f} Ascending.one (All.cons s All.nil) = omega (arith, code_lt s)
ascending_room {f} (Ascending.more {g = g} l a) (All.cons s ss) = omega (arith, ascending_room a ss, less_code f g l s)

-- Ascending families of small numbers are fewer than 2^64.
pub ascending_few : {fs : List Family} → Ascending fs → All Small fs → length fs < 2 ^ 64
ascending_few {fs = []} a s = omega arith
ascending_few {fs = f ∷ fs} a s = omega (arith, ascending_room a s)

-- ---- the bytes of rows and of class rows

-- The bytes of the rows, one after the other.
pub each_rows : (rows : List Row) → each row_bytes rows ≡ Answered.family_bytes rows
unfolding each family_bytes Answered.family_bytes
each_rows [] = refl
each_rows (row ∷ rows) = rw (each_rows rows)

how_many_le : (a : Row → Bool) (rows : List Row) → how_many a rows ≤ length rows
unfolding how_many
how_many_le a [] = omega arith
how_many_le a (row ∷ rows) = go (a row) (how_many_le a rows)
  where
    go : (b : Bool) → how_many a rows ≤ length rows → cond b 1 0 + how_many a rows ≤ suc (length rows)
    go true h = omega arith
    go false h = omega arith

how_many_both : (a b : Row → Bool) (rows : List Row) → how_many (λ row. a row && b row) rows ≤ how_many b rows
unfolding how_many
how_many_both a b [] = omega arith
how_many_both a b (row ∷ rows) = go (a row) (b row) (how_many_both a b rows)
  where
    go : (x y : Bool) → how_many (λ row. a row && b row) rows ≤ how_many b rows
        → cond (x && y) 1 0 + how_many (λ row. a row && b row) rows ≤ cond y 1 0 + how_many b rows
    go true y h = omega arith
    go false true h = omega arith
    go false false h = omega arith

module _ (c : Compound) (rank : ℕ → ℕ) where
  -- The rows with mark 1 are as many as the prototypes marked.
  pub marks_many : {before after : List ℕ} {rows : List Row} → Marks c rank before rows after
      → how_many (λ row. eqb row.mark 1) rows + length before ≡ length after
  unfolding how_many
  marks_many Marks.end = omega arith
  marks_many (Marks.marked {before = before} {S = S} p n e m) = rw e (omega (arith, marks_many m, length-append before (S ∷ [])))
  marks_many (Marks.unmarked p n e m) = rw e (omega (arith, marks_many m))

class_row_lem : (row : ClassRow) → row.rank < 256 → row.families < 65536 → row.essential ≡ cond (eqb row.families 1) 1 0
    → class_row_bytes row ≡ row.long ∷ row.rank ∷ row.families % 256 ∷ row.families / 256 ∷ row.essential ∷ []
unfolding class_bytes
class_row_lem row r f e =
    let high : row.families / 256 % 256 ≡ row.families / 256 = mod-eq_of_lt (omega arith) in
    rw (mod-eq_of_lt r, high, mod-eq_of_lt f, e)

-- The bytes of the class rows, one after the other, if at most 82 rows are marked and there are at most 4,096.
pub each_classes : (rows : List Row) (i : ℕ) (firsts : List Family) → how_many (λ row. eqb row.mark 1) rows ≤ 82 → length rows ≤ 4096
    → each class_row_bytes (class_rows rows i firsts) ≡ Answered.class_bytes (class_rows rows i firsts)
unfolding each Answered.class_bytes class_rows class_row
each_classes rows i [] marked few = refl
each_classes rows i (f ∷ fs) marked few =
    let small = how_many_both (λ row. eqb row.class i) (λ row. eqb row.mark 1) rows in
    let less = how_many_le (λ row. eqb row.class i) rows in
    rw (class_row_lem (class_row rows i f) (omega arith) (omega arith) refl, each_classes rows (suc i) fs marked few)
