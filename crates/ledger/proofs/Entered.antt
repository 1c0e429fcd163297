-- A kept prototype is entered part by part: what becomes of the ledger.
use Rattle.std.proofs.Common.{◌≡◌, ℕ, ◌+◌, ◌*◌, ◌/◌, ◌%◌, ◌^◌, ◌<◌, ◌≤◌, true, false, eqb, List, set, ap, ◌∙◌, arith, le-ltb, lt-ltb}
use lib.Count.{count_trailing_zeros}
use Rattle.bondset.specs.Rows.{put_row}
use Rattle.bondset.specs.Reduction.{Reduces, reduced, used, pushed_tag}
use Rattle.bondset.specs.Index.{Indexed, held_by, fresh_pivot}
use Rattle.bondset.proofs.IndexPush.{rest_lacks, pivot_by_rows}
use Rattle.cycles.specs.Family.{Family}
use Rattle.model.specs.State.{joined}
use Rattle.rows.specs.Rows.{put_family}
use Rattle.ledger.specs.Ledger.{Ledger, marked_in, held, summed_in, entered}
use Rattle.ledger.specs.Held.{Lacks}

-- ---- what becomes of the ledger

module _ (f : Family) (L : Ledger) (families : ℕ) (counted : families ≡ (L.families + 1) % 2 ^ 64) (out : List ℕ) where
  pub mark_is : (rest names : ℕ) (rows tags pivots : List ℕ) → rows ≡ put_row L.rows L.marks rest
      → tags ≡ put_row L.tags L.marks (pushed_tag L.marks names) → pivots ≡ set L.pivots L.marks (fresh_pivot (held_by L.rows L.marks) rest)
      → out ≡ put_family L.out L.families f 1 L.marks
      → record {
        marks = L.marks + 1;
        short = L.short;
        families = families;
        classes = L.classes;
        total = L.total + f.long;
        rows = rows;
        tags = tags;
        pivots = pivots;
        labels = set L.labels L.marks L.marks;
        holds = set L.holds L.marks 1;
        out = out;
        table = L.table;
      } ≡ marked_in f rest names L
  unfolding marked_in
  mark_is rest names rows tags pivots r t p o = rw (counted, r, t, p, o)

  pub sum_is : (t j : ℕ) → j ≡ count_trailing_zeros 128 t → (labels holds : List ℕ) → labels ≡ joined L.short L.marks t L.labels
      → holds ≡ held L.holds j → out ≡ put_family L.out L.families f 0 j
      → record {
        marks = L.marks;
        short = L.short;
        families = families;
        classes = L.classes;
        total = L.total;
        rows = L.rows;
        tags = L.tags;
        pivots = L.pivots;
        labels = labels;
        holds = holds;
        out = out;
        table = L.table;
      } ≡ summed_in f t L
  unfolding summed_in
  sum_is t j e labels holds l h o = rw (← e, counted, l, h, o)

module _ (f : Family) (rest names : ℕ) (L : Ledger) (e u : ℕ) (left : e ≡ reduced L.rows L.pivots L.short L.marks rest)
    (named : u ≡ used L.rows L.tags L.pivots L.short L.marks rest names) where
  pub entered_sum : eqb e 0 ≡ true → (t : ℕ) → t ≡ u / 2 ^ L.short * 2 ^ L.short → (M : Ledger) → M ≡ summed_in f t L → M ≡ entered f rest names L
  unfolding entered
  entered_sum z t c M h = h ∙ rw (← left, ← named, z, c)

  pub entered_mark : eqb e 0 ≡ false → L.marks < 82 → (M : Ledger) → M ≡ marked_in f e u L → M ≡ entered f rest names L
  unfolding entered
  entered_mark z l M h = h ∙ rw (← left, ← named, z, lt-ltb L.marks 82 l)

  pub entered_none : eqb e 0 ≡ false → 82 ≤ L.marks → L ≡ entered f rest names L
  unfolding entered
  entered_none z l = rw (← left, z, le-ltb L.marks 82 l)

-- ---- what the rows are good for

module _ {rows pivots place : List ℕ} {fresh late all m : ℕ} (x : Indexed rows pivots place fresh late all m) where
  -- what the rows from, .., to - 1 leave lacks their pivots too
  pub lacks_more : {tags : List ℕ} {from to s u t w : ℕ} → from ≤ to → to ≤ m → Lacks pivots from s → Reduces rows tags pivots from to s u t w
      → Lacks pivots to t
  lacks_more l h before so = record { lacks = rest_lacks x l h before.lacks so }

  pub lacks_first : {tags : List ℕ} {to s u t w : ℕ} → to ≤ m → Reduces rows tags pivots 0 to s u t w → Lacks pivots to t
  lacks_first h so = lacks_more (omega arith) h (record { lacks = λ i l. absurd (omega arith) }) so

  -- the pivot of one more row
  pub pivot_stored_lem : (rest : ℕ) {ps : List ℕ} → ps ≡ set pivots m (fresh_pivot all rest) → ps ≡ set pivots m (fresh_pivot (held_by rows m) rest)
  pivot_stored_lem rest e = e ∙ ap (set pivots m) (pivot_by_rows x rest)
