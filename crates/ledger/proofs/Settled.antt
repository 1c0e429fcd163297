-- A length is settled part by part: what becomes of the ledger, and that it stays fit.
use Rattle.std.proofs.Common.{◌≡◌, ℕ, ◌-◌, ◌/◌, min, List, length}
use Rattle.model.specs.Fold.{through, count}
use Rattle.rows.specs.Rows.{numbers_of, numbered_in, patched}
use Rattle.ledger.specs.Ledger.{Ledger, settled_in}

pub settle_is : (k first : ℕ) (L : Ledger) (labels : List ℕ) (classes : ℕ) (table out : List ℕ)
    → numbers_of labels classes table
    ≡ through (numbered_in k L.holds) (count L.short (L.marks - L.short)) (numbers_of L.labels L.classes L.table)
    → out ≡ through (patched labels) (count first (min L.families (length L.out / 8) - first)) L.out
    → record {
      marks = L.marks;
      short = L.marks;
      families = L.families;
      classes = classes;
      total = L.total;
      rows = L.rows;
      tags = L.tags;
      pivots = L.pivots;
      labels = labels;
      holds = L.holds;
      out = out;
      table = table;
    } ≡ settled_in k first L
unfolding settled_in
settle_is k first L labels classes table out n o = rw (← n, o)
