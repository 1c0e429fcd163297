-- What the engine holds while it runs, and what a kept family and the end of a length do to it, rows and class rows as bytes.
use Rattle.std.specs.Prelude.{ℕ, ◌+◌, ◌-◌, ◌*◌, ◌/◌, ◌%◌, ◌^◌, min, cond, List, length, ◌==◌, nat_lt, slice_index, slice_set, replicate}
use Rattle.std.specs.Int.Count.{count_trailing_zeros}
use Rattle.bondset.specs.Rows.{put_row}
use Rattle.bondset.specs.Reduction.{reduced, used, pushed_tag}
use Rattle.bondset.specs.Index.{held_by, fresh_pivot}
use Rattle.cycles.specs.Family.{Family}
use Rattle.model.specs.Fold.{through, count}
use Rattle.model.specs.State.{joined}
use Rattle.rows.specs.Rows.{put_family, numbers_of, numbered_in, patched}

pub record Ledger : Type 0 where
  -- how many rings are marked, and how many of them are shorter than the length in hand
  pub marks : ℕ
  pub short : ℕ
  -- how many families are kept, modulo 2^64, and how many classes are numbered
  pub families : ℕ
  pub classes : ℕ
  -- the total length of the marked rings
  pub total : ℕ
  -- the reduction of the marked rings
  pub rows : List ℕ
  pub tags : List ℕ
  pub pivots : List ℕ
  -- for each marked ring of the length in hand the first marked ring of its class, for a shorter one its class
  pub labels : List ℕ
  -- for each marked ring how many families name it, modulo 2^64
  pub holds : List ℕ
  -- the family rows and the class rows that fit
  pub out : List ℕ
  pub table : List ℕ

-- No ring is marked: all counts and all lists are zero, and the rows are as lent.
abbrev pub unmarked : List ℕ → List ℕ → Ledger
unmarked out table =
    record {
      marks = 0;
      short = 0;
      families = 0;
      classes = 0;
      total = 0;
      rows = replicate 164 0;
      tags = replicate 164 0;
      pivots = replicate 82 0;
      labels = replicate 82 0;
      holds = replicate 82 0;
      out = out;
      table = table;
    }

-- A kept prototype that is no sum of marked ones: `rest` and `names` are what its reduction left.
unfoldable pub marked_in : Family → ℕ → ℕ → Ledger → Ledger
marked_in f rest names L =
    let j = L.marks in
    record {
      marks = j + 1;
      short = L.short;
      families = (L.families + 1) % 2 ^ 64;
      classes = L.classes;
      total = L.total + f.long;
      rows = put_row L.rows j rest;
      tags = put_row L.tags j (pushed_tag j names);
      pivots = slice_set L.pivots j (fresh_pivot (held_by L.rows j) rest);
      labels = slice_set L.labels j j;
      holds = slice_set L.holds j 1;
      out = put_family L.out L.families f 1 j;
      table = L.table;
    }

-- One family more names marked ring j.
abbrev pub held : List ℕ → ℕ → List ℕ
held holds j = slice_set holds j ((slice_index holds j + 1) % 2 ^ 64)

-- A kept prototype that is the sum of marked ones, those of its own length named by t.
unfoldable pub summed_in : Family → ℕ → Ledger → Ledger
summed_in f t L =
    let j = count_trailing_zeros 128 t in
    record {
      marks = L.marks;
      short = L.short;
      families = (L.families + 1) % 2 ^ 64;
      classes = L.classes;
      total = L.total;
      rows = L.rows;
      tags = L.tags;
      pivots = L.pivots;
      labels = joined L.short L.marks t L.labels;
      holds = held L.holds j;
      out = put_family L.out L.families f 0 j;
      table = L.table;
    }

-- A kept prototype: `rest` and `names` are what the shorter marked rings left of it.
unfoldable pub entered : Family → ℕ → ℕ → Ledger → Ledger
entered f rest names L =
    let e = reduced L.rows L.pivots L.short L.marks rest in
    let u = used L.rows L.tags L.pivots L.short L.marks rest names in
    cond (e == 0) (summed_in f (u / 2 ^ L.short * 2 ^ L.short) L) (cond (nat_lt L.marks 82) (marked_in f e u L) L)

-- The end of a length: `first` is the number of families before it.
unfoldable pub settled_in : ℕ → ℕ → Ledger → Ledger
settled_in k first L =
    let s = through (numbered_in k L.holds) (count L.short (L.marks - L.short)) (numbers_of L.labels L.classes L.table) in
    record {
      marks = L.marks;
      short = L.marks;
      families = L.families;
      classes = s.classes;
      total = L.total;
      rows = L.rows;
      tags = L.tags;
      pivots = L.pivots;
      labels = s.labels;
      holds = L.holds;
      out = through (patched s.labels) (count first (min L.families (length L.out / 8) - first)) L.out;
      table = s.table;
    }
