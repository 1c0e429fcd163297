-- The rings of a family in order, and a buffer of places of 12 bytes, a set in each.
use Rattle.std.specs.Prelude.{◌≡◌, List, [], ◌∷◌, ◌++◌, map, ℕ, zero, suc, ◌+◌, ◌-◌, ◌*◌, ◌/◌, ◌^◌, ◌<◌, ◌≤◌, length, get_or, take, drop, Option, Some, None}
use Rattle.std.specs.Int.Bits.{bit_and, bit_xor}
use Rattle.bondset.specs.Bytes.{bytes_of, of_bytes}
use Rattle.bondset.specs.Sets.{bit, members}
use Rattle.model.specs.Fold.{each}
use Rattle.model.specs.Net.{Net, nbrs, bond}
use Rattle.model.specs.Layer.{ways}
use Rattle.paths.specs.Nets.{net}

-- The table holds the number of paths to the top of each atom of the layers 0 to d.
pub record Tables (adj layers : List ℕ) (d : ℕ) (counts : List ℕ) : Type 0 where
  pub holds : (e t : ℕ) → e ≤ d → bit (get_or layers e 0) t ≡ 1 → get_or counts t 0 ≡ ways (net adj []) layers e t

-- The atoms one step nearer to the top than t, which is e + 1 steps below it.
abbrev pub nearer : Net → List ℕ → ℕ → ℕ → ℕ
nearer G us e t = bit_and (nbrs G t) (get_or us e 0)

-- The bond sets of the paths from t to the top, e steps below it, in order of their atoms compared one after another.
unfoldable pub path_sets : Net → List ℕ → ℕ → ℕ → List ℕ
path_sets G us zero t = 0 ∷ []
path_sets G us (suc e) t = each (λ s. map (bit_xor (bond G t s)) (path_sets G us e s)) (members 64 (nearer G us e t))

-- Each set of one list added to each of another, in the order of the one and then of the other.
unfoldable pub sums : List ℕ → List ℕ → List ℕ
sums Ps xs = each (λ P. map (bit_xor P) xs) Ps

-- The rings that a link makes with the paths from p and from q, in order of the path from p and then of that from q.
unfoldable pub member_sets : Net → List ℕ → ℕ → ℕ → ℕ → ℕ → List ℕ
member_sets G us d p q link = sums (path_sets G us d p) (sums (path_sets G us d q) (link ∷ []))

-- Sets as bytes, 12 a set.
unfoldable pub placed : List ℕ → List ℕ
placed = each (bytes_of 12)

-- The sets in so many places of a buffer, from place `from` on.
unfoldable pub places_at : List ℕ → ℕ → ℕ → List ℕ
places_at bytes from zero = []
places_at bytes from (suc n) = of_bytes (drop (12 * from) bytes) ∷ places_at bytes (suc from) n

-- A list with some bytes written over it from byte k on.
unfoldable pub over : List ℕ → ℕ → List ℕ → List ℕ
over d k bs = take k d ++ (bs ++ drop (k + length bs) d)

-- The sets in the last `count` places.
abbrev pub last_sets : List ℕ → ℕ → List ℕ
last_sets rings count = places_at rings (length rings / 12 - count) count

-- The set that two words stand for.
abbrev pub set_of : ℕ → ℕ → ℕ
set_of lo hi = hi * 2 ^ 64 + lo

-- There are `count` places, and places for n blocks of so many from place `at` on.
pub record Room (rings : List ℕ) (count at n : ℕ) : Type 0 where
  pub source : count ≤ length rings / 12
  pub target : at + n * count ≤ length rings / 12

-- For each path from t its bonds, with those of `path`, added to the sets of the last `count` places, and put one after another from place `at` on;
-- `end` is the place behind them.
pub record Listed (adj touch layers : List ℕ) (e t path count at : ℕ) (rings rings' : List ℕ) (end : ℕ) : Type 0 where
  pub written : rings' ≡ over rings (12 * at) (placed (sums (map (bit_xor path) (path_sets (net adj touch) layers e t)) (last_sets rings count)))
  pub ends : end ≡ at + ways (net adj []) layers e t * count

-- b paths lead to the top from q, and there are as many places as rings.
pub record Counted (adj layers rings : List ℕ) (d p q b : ℕ) : Type 0 where
  pub from_q : b ≡ ways (net adj []) layers d q
  pub places : length rings ≡ 12 * (ways (net adj []) layers d p * b)

-- What a call that writes sets answers: their number, and they stand from the start of the buffer on; or nothing if there are fewer places than
-- sets, and the buffer stays as it was.
abbrev pub Told : List ℕ → List ℕ → List ℕ → Option ℕ → Type 0
Told sets before after (Some n) = (n ≡ length sets) × (length sets ≤ length before / 12) × (after ≡ over before 0 (placed sets))
Told sets before after None = (length before / 12 < length sets) × (after ≡ before)

-- p and q are atoms of layer d.
pub record Ends (layers : List ℕ) (d p q : ℕ) : Type 0 where
  pub one : bit (get_or layers d 0) p ≡ 1
  pub other : bit (get_or layers d 0) q ≡ 1
