-- Counting rows by a test, and the indices that are their own label.
use mathlib.Core.Path.{◌≡◌, refl, sym, ◌∙◌, ap, ap₂}
use mathlib.Core.Bool.{Bool, false, cond, ◌&&◌, and-false}
use mathlib.Core.List.{List, [], ◌∷◌, ◌++◌, map}
use mathlib.Core.Logic.{⊎_elim}
use Prim.Native.Nat.{ℕ, zero, suc, ◌+◌, ◌-◌, ◌<◌, ◌≤◌}
use native.Mathlib.Omega.{arith}
use native.Mathlib.Decide.{ℕ_discrete}
use borrow.Author.Tests.{lt-ltb, le-ltb, le-leb, lt-leb, eq-eqb, ne_eqb}
use lib.Dec.{eqb, ltb, leb}
use lib.ListN.{length}
use Rattle.spans.specs.Basis.{All}
use Rattle.spans.proofs.Lists.{all_map}
use Rattle.bondset.proofs.Laws.{lt_or_ge}
use Rattle.cycles.specs.Rows.{Row, how_many}

-- ---- rows that pass a test

pub how_many_same : {a b : Row → Bool} {rows : List Row} → All (λ row. a row ≡ b row) rows → how_many a rows ≡ how_many b rows
unfolding how_many
how_many_same All.nil = refl
how_many_same (All.cons e r) = ap₂ (λ (x : Bool) (n : ℕ). cond x 1 0 + n) e (how_many_same r)

pub how_many_none : {a : Row → Bool} {rows : List Row} → All (λ row. a row ≡ false) rows → how_many a rows ≡ 0
unfolding how_many
how_many_none All.nil = refl
how_many_none (All.cons e r) = ap₂ (λ (x : Bool) (n : ℕ). cond x 1 0 + n) e (how_many_none r)

pub how_many_map : (a : Row → Bool) (f : Row → Row) (rows : List Row) → how_many a (map f rows) ≡ how_many (λ row. a (f row)) rows
unfolding how_many
how_many_map a f [] = refl
how_many_map a f (row ∷ rows) = ap (λ (n : ℕ). cond (a (f row)) 1 0 + n) (how_many_map a f rows)

add_both : (x y z a b c : ℕ) → x ≡ y + z → a ≡ b + c → x + a ≡ (y + b) + (z + c)
add_both x y z a b c e d = omega arith

how_many_add : (a b c : Row → Bool) → ((row : Row) → cond (a row) 1 0 ≡ cond (b row) 1 0 + cond (c row) 1 0) → (rows : List Row)
    → how_many a rows ≡ how_many b rows + how_many c rows
unfolding how_many
how_many_add a b c e [] = refl
how_many_add a b c e (row ∷ rows) = add_both _ _ _ _ _ _ (e row) (how_many_add a b c e rows)

all_of : {P : Row → Type 0} → ((row : Row) → P row) → (rows : List Row) → All P rows
all_of f [] = All.nil
all_of f (row ∷ rows) = All.cons (f row) (all_of f rows)

-- ---- how many rows with a label there are among the first indices

-- The row passes the test, and has the index j.
abbrev pub at_index : (Row → Bool) → ℕ → Row → Bool
at_index test j row = eqb row.class j && test row

module _ (lab : ℕ → ℕ) (test : Row → Bool) where
  -- The row passes the test, and its index is below m and has the label l.
  abbrev pub among : ℕ → ℕ → Row → Bool
  among m l row = (ltb row.class m && eqb (lab row.class) l) && test row

  among_grow : (m l : ℕ) → lab m ≡ l → (row : Row) → cond (among (suc m) l row) 1 0 ≡ cond (among m l row) 1 0 + cond (at_index test m row) 1 0
  among_grow m l e row = ⊎_elim below (λ (h : m ≤ row.class). at_or_above h (ℕ_discrete row.class m)) (lt_or_ge row.class m)
    where
      below : row.class < m → cond (among (suc m) l row) 1 0 ≡ cond (among m l row) 1 0 + cond (at_index test m row) 1 0
      below h = rw (lt-ltb row.class (suc m) (omega arith), lt-ltb row.class m h, ne_eqb row.class m (λ d. omega arith)) (omega arith)

      at_or_above : m ≤ row.class → Dec (row.class ≡ m) → cond (among (suc m) l row) 1 0 ≡ cond (among m l row) 1 0 + cond (at_index test m row) 1 0
      at_or_above h (yes d) =
          rw (lt-ltb row.class (suc m) (omega arith), le-ltb row.class m h, eq-eqb row.class m d, eq-eqb (lab row.class) l (ap lab d ∙ e)) (omega arith)
      at_or_above h (no n) =
          rw (le-ltb row.class (suc m) (omega (arith, n)), le-ltb row.class m h, ne_eqb row.class m n)

  among_stay : (m l : ℕ) → (lab m ≡ l → ⊥) → (row : Row) → among (suc m) l row ≡ among m l row
  among_stay m l n row = ⊎_elim below (λ (h : m ≤ row.class). at_or_above h (ℕ_discrete row.class m)) (lt_or_ge row.class m)
    where
      below : row.class < m → among (suc m) l row ≡ among m l row
      below h = rw (lt-ltb row.class (suc m) (omega arith), lt-ltb row.class m h)

      at_or_above : m ≤ row.class → Dec (row.class ≡ m) → among (suc m) l row ≡ among m l row
      at_or_above h (yes d) =
          rw (lt-ltb row.class (suc m) (omega arith), le-ltb row.class m h, ne_eqb (lab row.class) l (λ q. n (sym (ap lab d) ∙ q)))
      at_or_above h (no k) = rw (le-ltb row.class (suc m) (omega (arith, k)), le-ltb row.class m h)

module _ (lab : ℕ → ℕ) (test : Row → Bool) (rows : List Row) where
  -- How many rows that pass the test have an index below m with the label l.
  abbrev pub tally : ℕ → ℕ → ℕ
  tally m l = how_many (among lab test m l) rows

  pub tally_grow : (m l : ℕ) → lab m ≡ l → tally (suc m) l ≡ tally m l + how_many (at_index test m) rows
  tally_grow m l e = how_many_add (among lab test (suc m) l) (among lab test m l) (at_index test m) (among_grow lab test m l e) rows

  pub tally_stay : (m l : ℕ) → (lab m ≡ l → ⊥) → tally (suc m) l ≡ tally m l
  tally_stay m l n = how_many_same (all_of (among_stay lab test m l n) rows)

-- ---- indices that are their own label

module _ (s : ℕ) (lab : ℕ → ℕ) where
  -- How many indices from s on and below l are their own label.
  unfoldable pub own : ℕ → ℕ
  own zero = 0
  own (suc l) = own l + cond (leb s l && eqb (lab l) l) 1 0

  pub own_low : (l : ℕ) → l ≤ s → own l ≡ 0
  unfolding own
  own_low zero h = refl
  own_low (suc l) h = rw (own_low l (omega arith), lt-leb s l (omega arith))

  pub own_open : (l : ℕ) → s ≤ l → lab l ≡ l → own (suc l) ≡ own l + 1
  unfolding own
  own_open l h e = rw (le-leb s l h, eq-eqb (lab l) l e)

  pub own_shut : (l : ℕ) → (lab l ≡ l → ⊥) → own (suc l) ≡ own l
  unfolding own
  own_shut l n = rw (ne_eqb (lab l) l n, and-false (leb s l)) (omega arith)

  own_mono : (l d m : ℕ) → m ≡ d + l → own l ≤ own m
  unfolding own
  own_mono l zero m e = let q : m ≡ l = omega arith in rw q (omega arith)
  own_mono l (suc d) m e = let q : m ≡ suc (d + l) = omega arith in rw q (omega (arith, own_mono l d (d + l) refl))

  own_lt : (l m : ℕ) → s ≤ l → lab l ≡ l → l < m → own l < own m
  own_lt l m h e t = omega (arith, own_open l h e, own_mono (suc l) (m - suc l) m (omega arith))

  pub own_same : (l m : ℕ) → s ≤ l → s ≤ m → lab l ≡ l → lab m ≡ m → own l ≡ own m → l ≡ m
  own_same l m h k e d q =
      ⊎_elim (λ (t : l < m). absurd (omega (arith, own_lt l m h e t)))
      (λ (t : m ≤ l). ⊎_elim (λ (u : m < l). absurd (omega (arith, own_lt m l k d u))) (λ (u : l ≤ m). omega arith) (lt_or_ge m l)) (lt_or_ge l m)

module _ (lab : ℕ → ℕ) where
  -- Those of the d indices from m on that are their own label.
  unfoldable pub opens : ℕ → ℕ → List ℕ
  opens m zero = []
  opens m (suc d) = cond (eqb (lab m) m) (m ∷ opens (suc m) d) (opens (suc m) d)

  pub opens_open : (m d : ℕ) → lab m ≡ m → opens m (suc d) ≡ m ∷ opens (suc m) d
  unfolding opens
  opens_open m d e = rw (eq-eqb (lab m) m e)

  pub opens_shut : (m d : ℕ) → (lab m ≡ m → ⊥) → opens m (suc d) ≡ opens (suc m) d
  unfolding opens
  opens_shut m d n = rw (ne_eqb (lab m) m n)

  -- The indices from m to p, and those from p on.
  pub opens_append : (m d e p t : ℕ) → p ≡ m + d → t ≡ d + e → opens m t ≡ opens m d ++ opens p e
  unfolding opens
  opens_append m zero e p t q r = let a : p ≡ m = omega arith in let b : t ≡ e = omega arith in rw (a, b)
  opens_append m (suc d) e p t q r =
      let a : t ≡ suc (d + e) = omega arith in rw a (go (ℕ_discrete (lab m) m) (opens_append (suc m) d e p (d + e) (omega arith) refl))
    where
      go : Dec (lab m ≡ m) → opens (suc m) (d + e) ≡ opens (suc m) d ++ opens p e → opens m (suc (d + e)) ≡ opens m (suc d) ++ opens p e
      go (yes a) r = rw (eq-eqb (lab m) m a, r)
      go (no n) r = rw (ne_eqb (lab m) m n, r)

  pub opens_range : (m d p : ℕ) → p ≡ m + d → All (λ l. (m ≤ l) × (l < p)) (opens m d)
  unfolding opens
  opens_range m zero p q = All.nil
  opens_range m (suc d) p q = go (ℕ_discrete (lab m) m) (all_map (λ l h. (omega (arith, h.0), h.1)) (opens_range (suc m) d p (omega arith)))
    where
      go : Dec (lab m ≡ m) → All (λ l. (m ≤ l) × (l < p)) (opens (suc m) d) → All (λ l. (m ≤ l) × (l < p)) (opens m (suc d))
      go (yes a) r = let h : (m ≤ m) × (m < p) = (omega arith, omega arith) in rw (opens_open m d a) (All.cons h r)
      go (no n) r = rw (opens_shut m d n) r

module _ (s : ℕ) (lab : ℕ → ℕ) where
  -- As many as are counted on the way.
  pub opens_length : (m d p : ℕ) → s ≤ m → p ≡ m + d → own s lab m + length (opens lab m d) ≡ own s lab p
  unfolding opens
  opens_length m zero p h q = let a : p ≡ m = omega arith in rw a (omega arith)
  opens_length m (suc d) p h q = go (ℕ_discrete (lab m) m) (opens_length (suc m) d p (omega arith) (omega arith))
    where
      go : Dec (lab m ≡ m) → own s lab (suc m) + length (opens lab (suc m) d) ≡ own s lab p → own s lab m + length (opens lab m (suc d)) ≡ own s lab p
      go (yes a) r = rw (opens_open lab m d a) (omega (arith, own_open s lab m h a))
      go (no n) r = rw (opens_shut lab m d n) (omega (arith, own_shut s lab m n))
