-- What a queue of atoms holds while a search goes on.
use Rattle.std.specs.Prelude.{◌≡◌, List, ◌++◌, ℕ, ◌+◌, take, slice_range}
use Rattle.std.specs.Int.Bits.{bit_or}
use Rattle.bondset.specs.Sets.{members, length_to}
use Rattle.model.specs.Fold.{through}
use Rattle.model.specs.Net.{Net, nbrs}
use Rattle.search.specs.declared.queue.Queue.{Queue}

-- The atoms at the last distance.
abbrev pub queued : Queue → List ℕ
queued q = slice_range q.atoms q.from q.end

-- All atoms bonded to one of them.
unfoldable pub beside : Net → Queue → ℕ
beside G q = through (λ a acc. bit_or acc (nbrs G a)) (queued q) 0

-- The queue q with the atoms of a set after its end, as those of the next distance.
pub record Appended (q : Queue) (s : ℕ) (q' : Queue) : Type 0 where
  pub after : q'.from ≡ q.end
  pub count : q'.end ≡ q.end + length_to 64 s
  pub atoms : take q'.end q'.atoms ≡ take q.end q.atoms ++ members 64 s
