-- No row is found by an empty index.
use mathlib.Core.Path.{refl}
use Rattle.bondset.proofs.Rows.{flat_empty}
use Rattle.bondset.proofs.IndexPush.{indexed_none}
use Rattle.bondset.proofs.indexed.Rows.new.Goals as goal

pub returns : goal.returns
returns g c =
    let none = c.empty-none in
    record {
      counted = refl;
      rows_empty = flat_empty none.result none.ensures g.row.N;
      tags_empty = flat_empty none.result none.ensures g.row.N;
      pivots_empty = refl;
      indexed = rw none.ensures (indexed_none _ _ _);
    }
