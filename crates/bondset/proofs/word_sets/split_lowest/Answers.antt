-- The lowest is the first member, and the others are those of the set without it.
use Rattle.bondset.proofs.Laws.{empty_set, some_set}
use Rattle.bondset.proofs.Members.{members_zero, members_split}
use Rattle.bondset.proofs.word_sets.split_lowest.Goals as goal

pub returns-then-is_empty : goal.returns-then-is_empty
returns-then-is_empty g c = rw (empty_set _ _ c.is_empty.ensures.empty c.if-is_empty.true) (members_zero g.S.WordSet.room)

pub returns : goal.returns
returns g c = members_split _ _ _ _ (some_set _ _ c.is_empty.ensures.empty c.if-is_empty.false) c.is_empty.ensures.fits c.lowest.ensures c.others.ensures
