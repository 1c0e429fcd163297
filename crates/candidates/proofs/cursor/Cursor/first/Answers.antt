-- The layer at half the length holds p for odd lengths, and x for even ones.
use Rattle.std.proofs.Common.{refl}
use Rattle.candidates.proofs.Ahead.{firsts_odd, firsts_even}
use Rattle.candidates.proofs.cursor.Cursor.first.Goals.{then-k-eq1, else-k-eq1}
use Rattle.candidates.proofs.cursor.Cursor.first.Goals as goal

pub returns : goal.returns
returns c =
    let a = c.args in
    elim c.if-k-eq1.branch [
      | then-k-eq1 w ↦ rw w.xs-is (firsts_odd a.adj _ a.layers.now a.k _ _ refl refl w.if-k-eq1.true)
      | else-k-eq1 w ↦ rw w.xs-is (firsts_even a.adj _ a.layers.now a.k _ _ refl refl c.requires.le_k w.if-k-eq1.false)
    ]
