-- Before bond k the bonds before it are fine and taken in.
use Rattle.std.proofs.Common.{◌≡◌}
use Rattle.std.specs.Iterator.Adapters.{enumerate_source, enumerate_count}
use Rattle.std.specs.Slice.Iter.{chunks_exact_rest, chunks_exact_size}
use Rattle.reading.specs.Reading.{compound}
use Rattle.reading.proofs.Bonds.{Pairs, Sofar}
use Rattle.reading.proofs.read.Given as goal

abbrev pub invariant-loop-k : goal.invariant-loop-k
invariant-loop-k l =
    let k = enumerate_count l.k-iterator in
    (goal.iterator-loop-k).can_next l.k-iterator × (goal.iterator-loop-k).is_finite l.k-iterator
    × (chunks_exact_size (enumerate_source l.k-iterator) ≡ 2)
    × Pairs l.bytes k (chunks_exact_rest (enumerate_source l.k-iterator))
    × (l.net.n ≡ l.fn.net.n)
    × Sofar (compound l.net.n l.bytes) k l.net.adj l.net.touch
