-- One candidate: where its size goes, and what becomes of the engine if it is kept, or if nothing is left of it.
use mathlib.Core.Path.{◌≡◌, sym, ap, ◌∙◌}
use mathlib.Core.Bool.{true, false}
use mathlib.Core.Logic.{inl, inr}
use mathlib.Core.List.{List, []}
use Prim.Native.Nat.{ℕ, ◌+◌, ◌-◌, ◌*◌, ◌<◌, ◌≤◌}
use native.Mathlib.Omega.{arith}
use borrow.Author.Tests.{lt-ltb, le-ltb, le-leb, lt-leb}
use lib.Dec.{eqb}
use lib.ListN.{length, set}
use Rattle.std.proofs.Common.{Option, Some, None}
use Rattle.bondset.proofs.Laws.{lt_or_ge}
use Rattle.cycles.specs.Family.{Family}
use Rattle.cycles.specs.Rows.{most}
use Rattle.model.specs.Net.{Net}
use Rattle.model.specs.Layer.{walk, ways}
use Rattle.model.specs.State.{link}
use Rattle.paths.specs.Nets.{net as net_of}
use Rattle.paths.proofs.Steps.{link_net, walk_net}
use Rattle.counting.specs.Counts.{added}
use Rattle.counting.proofs.WaysNet.{ways_net}
use Rattle.ledger.specs.Ledger.{entered}
use Rattle.ledger.specs.Held.{ledger_of, Leaves}
use Rattle.candidates.specs.declared.Going as code
use Rattle.candidates.specs.Engine.{put_size, size_in, kept_by, attempted}
use Rattle.candidates.specs.Going.{Tries}

-- ---- the size

module _ (from i size : ℕ) (sizes : List ℕ) where
  -- The row stands before those asked for.
  pub size_early : i < from → sizes ≡ put_size from i size sizes
  unfolding put_size
  size_early h = rw (lt-leb from i h)

  -- There is no room for it.
  pub size_late : from ≤ i → length sizes ≤ i - from → sizes ≡ put_size from i size sizes
  unfolding put_size
  size_late h l = rw (le-leb from i h, le-ltb (i - from) (length sizes) l)

  -- It is asked for, and there is room.
  pub size_put : from ≤ i → i - from < length sizes → set sizes (i - from) size ≡ put_size from i size sizes
  unfolding put_size
  size_put h l = rw (le-leb from i h, lt-ltb (i - from) (length sizes) l)

-- Rings that were added without too many are few.
pub added_few : (max : ℕ) (count : Option ℕ) (size rings : ℕ) → added max count size ≡ Some rings → size < max + 1
unfolding added
added_few max None size rings e = cc
added_few max (Some n) size rings e = elim (lt_or_ge max (n + size)) [
  | inl l ↦ absurd (none (rw (lt-ltb max (n + size) l) at e))
  | inr l ↦ omega arith
]
  where
    none : None ≡ Some rings → ⊥
    none e = cc

-- ---- a candidate

module _ (G : Net) (from : ℕ) (us : List ℕ) (d : ℕ) (f : Family) (before : code.Going) (out sizes : List ℕ) (closing ring rest names : ℕ)
    (closed : closing ≡ link (net_of [] G.touch) f) (walked : ring ≡ walk (net_of G.adj G.touch) us d f.p f.q closing)
    (leaves : Leaves before.ledger ring rest names) where
  ring_is : walk G us d f.p f.q (link G f) ≡ ring
  ring_is = sym (
      walked ∙ ap (walk (net_of G.adj G.touch) us d f.p f.q) (closed ∙ link_net G f)
      ∙ walk_net G us d f.p f.q (link G f))

  -- Nothing is left of it: it is a sum of shorter rings, or was dropped.
  pub attempt_none : eqb rest 0 ≡ true → Tries (attempted G from us d f) before out sizes before out sizes
  unfolding attempted
  attempt_none z = record { is = λ table. rw (ring_is, ← leaves.rest_is, z) }

  -- It is kept: a times b rings.
  pub attempt_kept : eqb rest 0 ≡ false → (a b : ℕ) (after : code.Going) (out' sizes' : List ℕ)
      → a ≡ ways (net_of G.adj []) us d f.p → b ≡ ways (net_of G.adj []) us d f.q → after.rings ≡ added most before.rings (a * b)
      → sizes' ≡ put_size from before.ledger.classes.tally.families (size_in after.rings (a * b)) sizes
      → ((table : List ℕ) → ledger_of after.ledger out' table ≡ entered f rest names (ledger_of before.ledger out table))
      → Tries (attempted G from us d f) before out sizes after out' sizes'
  unfolding attempted kept_by
  attempt_kept z a b after out' sizes' p q added put ledgers = record {
    is =
        λ table. rw (
          ring_is,
          ← leaves.rest_is,
          z,
          ← leaves.names_are,
          ← ways_net G us d f.p,
          ← ways_net G us d f.q,
          ← p,
          ← q,
          put,
          added,
          ledgers table,
        );
  }
