-- What one candidate does to the state: dropped, not kept, marked, or joined to a class.
use Rattle.std.specs.Prelude.{cond, List, [], ◌∷◌, ◌++◌, ℕ, ◌+◌, ◌-◌, ◌*◌, ◌/◌, ◌^◌, eqb, ltb, get_or, set, replicate}
use Rattle.std.specs.Int.Bits.{bit_or, bit_xor}
use Rattle.std.specs.Int.Count.{count_trailing_zeros}
use Rattle.cycles.specs.Family.{Family}
use Rattle.cycles.specs.Rows.{Row, ClassRow}
use Rattle.bondset.specs.Sets.{has, members}
use Rattle.bondset.specs.Rows.{put_row}
use Rattle.bondset.specs.Reduction.{reduced, used, pushed_tag}
use Rattle.bondset.specs.Index.{held_by, fresh_pivot}
use Rattle.model.specs.Fold.{through, count}
use Rattle.model.specs.Net.{Net, bond}
use Rattle.model.specs.Layer.{walk, ways}

-- How many rings may be marked.
abbrev pub room : ℕ
room = 82

pub record State : Type 0 where
  -- how many rings are marked, and how many of them are shorter than the length in hand
  pub marks : ℕ
  pub short : ℕ
  -- the reduction of the marked rings
  pub rows : List ℕ
  pub tags : List ℕ
  pub pivots : List ℕ
  -- for each marked ring of the length in hand the first marked ring of its class; for a shorter one its class
  pub labels : List ℕ
  -- for each marked ring how many families name it
  pub holds : List ℕ
  pub total : ℕ
  pub rings : ℕ
  -- the rows of shorter lengths, and those of the length in hand, whose class is still a marked ring of the class
  pub done : List Row
  pub here : List Row
  pub table : List ClassRow

unfoldable pub start : State
start = record {
  marks = 0;
  short = 0;
  rows = replicate 164 0;
  tags = replicate 164 0;
  pivots = replicate 82 0;
  labels = replicate 82 0;
  holds = replicate 82 0;
  total = 0;
  rings = 0;
  done = [];
  here = [];
  table = [];
}

-- A kept prototype that is no sum of marked ones: `rest` and `names` are what its reduction left.
unfoldable pub marked : Family → ℕ → ℕ → ℕ → State → State
marked f size rest names st =
    let j = st.marks in
    record {
      marks = j + 1;
      short = st.short;
      rows = put_row st.rows j rest;
      tags = put_row st.tags j (pushed_tag j names);
      pivots = set st.pivots j (fresh_pivot (held_by st.rows j) rest);
      labels = set st.labels j j;
      holds = set st.holds j 1;
      total = st.total + f.long;
      rings = st.rings + size;
      done = st.done;
      here = st.here ++ (record { family = f; mark = 1; class = j; size = size } ∷ []);
      table = st.table;
    }

-- The labels of the marked rings that a tag names, as a set.
unfoldable pub labels_in : List ℕ → ℕ → ℕ
labels_in labels t = through (λ j acc. bit_or acc (2 ^ get_or labels j 0)) (members 128 t) 0

-- Marked ring j takes the label l if its own is in the set.
unfoldable pub relabel : ℕ → ℕ → ℕ → List ℕ → List ℕ
relabel w l j labels = cond (has w (get_or labels j 0)) (set labels j l) labels

-- The labels of the rings from `short` to `marks`, with those that the tag names joined.
unfoldable pub joined : ℕ → ℕ → ℕ → List ℕ → List ℕ
joined short marks t labels = let w = labels_in labels t in through (relabel w (count_trailing_zeros 128 w)) (count short (marks - short)) labels

-- A kept prototype that is the sum of marked ones, those of its own length named by t.
unfoldable pub unmarked : Family → ℕ → ℕ → State → State
unmarked f size t st =
    let j = count_trailing_zeros 128 t in
    record {
      marks = st.marks;
      short = st.short;
      rows = st.rows;
      tags = st.tags;
      pivots = st.pivots;
      labels = joined st.short st.marks t st.labels;
      holds = set st.holds j (get_or st.holds j 0 + 1);
      total = st.total;
      rings = st.rings + size;
      done = st.done;
      here = st.here ++ (record { family = f; mark = 0; class = j; size = size } ∷ []);
      table = st.table;
    }

-- A kept prototype: `rest` and `names` are what the shorter marked rings left of it.
unfoldable pub kept : Family → ℕ → ℕ → ℕ → State → State
kept f size rest names st =
    let e = reduced st.rows st.pivots st.short st.marks rest in
    let u = used st.rows st.tags st.pivots st.short st.marks rest names in
    cond (eqb e 0) (unmarked f size (u / 2 ^ st.short * 2 ^ st.short) st) (cond (ltb st.marks room) (marked f size e u st) st)

-- A prototype, or the empty set for a dropped candidate.
unfoldable pub judged : Family → ℕ → ℕ → State → State
judged f size ring st =
    let a = reduced st.rows st.pivots 0 st.short ring in
    let u = used st.rows st.tags st.pivots 0 st.short ring 0 in
    cond (eqb a 0) st (kept f size a u st)

-- The bond p-q, or the path p, x, q.
unfoldable pub link : Net → Family → ℕ
link G f = cond (eqb f.x 255) (bond G f.p f.q) (bit_xor (bond G f.p f.x) (bond G f.x f.q))

-- A candidate whose p and q are d steps below the top.
unfoldable pub tried : Net → List ℕ → ℕ → Family → State → State
tried G us d f st = judged f (ways G us d f.p * ways G us d f.q) (walk G us d f.p f.q (link G f)) st
