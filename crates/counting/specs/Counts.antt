-- Counting paths layer by layer, and a running count of rings that keeps within a word.
use Rattle.std.specs.Prelude.{◌≡◌, cond, List, [], ℕ, ◌+◌, ◌^◌, ◌<◌, ◌≤◌, ltb, length, get_or, Option, Some, None}
use Rattle.std.specs.Int.Bits.{bit_and}
use Rattle.bondset.specs.Sets.{bit}
use Rattle.model.specs.Layer.{ways}
use Rattle.paths.specs.Nets.{net}
use Rattle.counting.specs.declared.PathCounts.{PathCounts}

-- The layers 0 to d are words, and no two of them share an atom.
pub record Disjoint (layers : List ℕ) (d : ℕ) : Type 0 where
  pub words : (i : ℕ) → i ≤ d → get_or layers i 0 < 2 ^ 64
  pub apart : (i j : ℕ) → i < j → j ≤ d → bit_and (get_or layers i 0) (get_or layers j 0) ≡ 0

-- There are words for 64 atoms, for the layers 0 to d, and for the counts of 64 atoms.
pub record Sized (adj layers counts : List ℕ) (d : ℕ) : Type 0 where
  pub atoms : 64 ≤ length adj
  pub deep : d < length layers
  pub room : 64 ≤ length counts

-- The table holds the number of paths to the top of each atom of layer e.
pub record Table (adj layers : List ℕ) (e : ℕ) (counts : List ℕ) : Type 0 where
  pub holds : (t : ℕ) → bit (get_or layers e 0) t ≡ 1 → get_or counts t 0 ≡ ways (net adj []) layers e t

-- The counts of the atoms outside a set are the same.
pub record Others (s : ℕ) (counts counts' : List ℕ) : Type 0 where
  pub stay : (t : ℕ) → bit s t ≡ 0 → get_or counts' t 0 ≡ get_or counts t 0

-- The two counts are those of p and q.
pub record Counted (adj layers : List ℕ) (d p q : ℕ) (counts : PathCounts) : Type 0 where
  pub one : counts.from_p ≡ ways (net adj []) layers d p
  pub other : counts.from_q ≡ ways (net adj []) layers d q

-- The count with so many rings more: none once there are more than `max`.
unfoldable pub added : ℕ → Option ℕ → ℕ → Option ℕ
added max None size = None
added max (Some rings) size = cond (ltb max (rings + size)) None (Some (rings + size))

-- What the count says of so many rings: their number, and nothing if there are more than `max`.
unfoldable pub counted : ℕ → ℕ → Option ℕ
counted max total = cond (ltb max total) None (Some total)
