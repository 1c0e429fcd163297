-- The engine's state, a ledger whose rows are bytes, and what a candidate does to it.
use Rattle.std.specs.Prelude.{cond, ◌&&◌, List, ℕ, Option, Some, None, ◌*◌, ◌-◌, eqb, leb, ltb, length, set}
use Rattle.bondset.specs.Reduction.{reduced, used}
use Rattle.cycles.specs.Family.{Family}
use Rattle.cycles.specs.Rows.{most}
use Rattle.model.specs.Net.{Net}
use Rattle.model.specs.Layer.{walk, ways}
use Rattle.model.specs.State.{link}
use Rattle.counting.specs.Counts.{added}
use Rattle.ledger.specs.Ledger.{Ledger, entered}

-- The ledger, the number of rings so far if a word can say it, and the sizes of the families whose rows were asked for: those from a
-- row on, as many as there is room for.
pub record Engine : Type 0 where
  pub ledger : Ledger
  pub rings : Option ℕ
  pub sizes : List ℕ

-- The size of row i, if it is asked for.
unfoldable pub put_size : ℕ → ℕ → ℕ → List ℕ → List ℕ
put_size from i size sizes = cond (leb from i && ltb (i - from) (length sizes)) (set sizes (i - from) size) sizes

-- The size that is stored: 0 once there are more rings than a word can say.
abbrev pub size_in : Option ℕ → ℕ → ℕ
size_in (Some rings) size = size
size_in None size = 0

-- A kept prototype of a family of so many members: `rest` and `names` are what the shorter marked rings left of it.
unfoldable pub kept_by : ℕ → Family → ℕ → ℕ → ℕ → Engine → Engine
kept_by from f size rest names E =
    let rings = added most E.rings size in
    record {
      ledger = entered f rest names E.ledger;
      rings = rings;
      sizes = put_size from E.ledger.families (size_in rings size) E.sizes;
    }

-- A candidate whose p and q are d steps below the top.
unfoldable pub attempted : Net → ℕ → List ℕ → ℕ → Family → Engine → Engine
attempted G from us d f E =
    let L = E.ledger in
    let ring = walk G us d f.p f.q (link G f) in
    let rest = reduced L.rows L.pivots 0 L.short ring in
    let names = used L.rows L.tags L.pivots 0 L.short ring 0 in
    cond (eqb rest 0) E (kept_by from f (ways G us d f.p * ways G us d f.q) rest names E)
