-- The classes of a length, all lengths, and the report.
use Rattle.std.specs.Prelude.{cond, List, [], ◌∷◌, ◌++◌, map, ℕ, ◌+◌, ◌-◌, eqb, length, get_or, set, replicate}
use Rattle.cycles.specs.Compound.{Compound, cyclomatic}
use Rattle.cycles.specs.Rows.{Row, ClassRow, Report}
use Rattle.model.specs.Fold.{through, count}
use Rattle.model.specs.Net.{Net, net_of, preceding}
use Rattle.model.specs.State.{State, start, tried}
use Rattle.model.specs.Loops.{Running, running, length_round}

-- The labels, and the rows of the classes numbered so far.
pub record Numbering : Type 0 where
  pub labels : List ℕ
  pub table : List ClassRow

-- The essential mark of a class of so many families.
abbrev pub essential : ℕ → ℕ
essential families = cond (eqb families 1) 1 0

-- The row of a class with one marked ring more and the families that name it.
unfoldable pub more : ℕ → ClassRow → ClassRow
more held row =
    record { long = row.long; rank = row.rank + 1; families = row.families + held; essential = essential (row.families + held) }

-- What a place past the table reads as.
abbrev pub blank : ClassRow
blank = record { long = 0; rank = 0; families = 0; essential = 0 }

-- The class of marked ring i of length k: a new one if the ring is its own label, else that of its label.
unfoldable pub numbered : ℕ → List ℕ → ℕ → Numbering → Numbering
numbered k holds i s =
    let l = get_or s.labels i 0 in
    let held = get_or holds i 0 in
    cond (eqb l i)
    (record {
      labels = set s.labels i (length s.table);
      table = s.table ++ (record { long = k; rank = 1; families = held; essential = essential held } ∷ []);
    })
    (let c = get_or s.labels l 0 in
    record { labels = set s.labels i c; table = set s.table c (more held (get_or s.table c blank)) })

-- A row with the class in the place of the marked ring.
unfoldable pub classed : List ℕ → Row → Row
classed labels row = record { family = row.family; mark = row.mark; class = get_or labels row.class 0; size = row.size }

-- The end of length k: its classes are numbered, and its rows name them and join the rows of the shorter lengths.
unfoldable pub settled : ℕ → State → State
settled k st =
    let s = through (numbered k st.holds) (count st.short (st.marks - st.short)) (record { labels = st.labels; table = st.table }) in
    record {
      marks = st.marks;
      short = st.marks;
      rows = st.rows;
      tags = st.tags;
      pivots = st.pivots;
      labels = s.labels;
      holds = st.holds;
      total = st.total;
      rings = st.rings;
      done = st.done ++ map (classed s.labels) st.here;
      here = [];
      table = s.table;
    }

-- The layers and the state.
abbrev pub Run : Type 0
Run = Running State

module _ (G : Net) (pre : ℕ → ℕ) (full : ℕ) where
  -- One length, and its classes; nothing once the basis is full.
  abbrev pub round : ℕ → Run → Run
  round k s = length_round G (tried G) pre (λ st. st.marks) (λ k before after. settled k after) full k s

  unfoldable pub run_all : Run
  run_all = through round (count 3 (G.n - 2)) (running (replicate 33 0) start)

-- The report, for any way `pre` of saying which atoms precede an atom.
unfoldable pub report_by : (ℕ → ℕ) → Compound → Report
report_by pre c =
    let st = (run_all (net_of c) pre (cyclomatic c)).state in
    record {
      cyclomatic = cyclomatic c;
      families = length st.done;
      classes = length st.table;
      total = st.total;
      rings = st.rings;
      rows = st.done;
      class_rows = st.table;
    }

-- "An atom precedes another if its number is lower."
unfoldable pub report : Compound → Report
report c = report_by preceding c
