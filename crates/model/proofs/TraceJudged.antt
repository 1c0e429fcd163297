-- What judging a candidate does, case by case.
use mathlib.Core.Path.{◌≡◌, ap₂, ◌∙◌}
use mathlib.Core.Bool.{cond}
use Prim.Native.Nat.{ℕ, ◌*◌, ◌/◌, ◌^◌, ◌<◌, ◌≤◌, zero-le}
use lib.Dec.{eqb, ltb}
use borrow.Author.Tests.{eq-eqb, ne_eqb, lt-ltb}
use Rattle.bondset.specs.Reduction.{reduced, used}
use Rattle.bondset.proofs.ReductionTheorems.{reduced_on, used_on}
use Rattle.cycles.specs.Family.{Family}
use Rattle.model.specs.State.{State, room, marked, unmarked, kept, judged}

-- What all rows leave of a set, and the tags on the way.
abbrev pub rest : ℕ → State → ℕ
rest ring st = reduced st.rows st.pivots 0 st.marks ring

abbrev pub names : ℕ → State → ℕ
names ring st = used st.rows st.tags st.pivots 0 st.marks ring 0

-- What the rows of the shorter marked rings leave of it.
abbrev pub rest_short : ℕ → State → ℕ
rest_short ring st = reduced st.rows st.pivots 0 st.short ring

-- The tag of a sum of marked rings: the part from the shorter ones on.
abbrev pub tag_long : ℕ → State → ℕ
tag_long ring st = names ring st / 2 ^ st.short * 2 ^ st.short

module _ (f : Family) (size ring : ℕ) (st : State) where
  -- A sum of shorter marked rings is passed over.
  pub judged_passed : rest_short ring st ≡ 0 → judged f size ring st ≡ st
  unfolding judged
  judged_passed z = rw (eq-eqb (rest_short ring st) 0 z)

  module _ (some : rest_short ring st ≡ 0 → ⊥) (l : st.short ≤ st.marks) where
    judged_kept : judged f size ring st
        ≡ cond (eqb (rest ring st) 0) (unmarked f size (tag_long ring st) st) (cond (ltb st.marks room) (marked f size (rest ring st) (names ring st) st) st)
    unfolding judged kept
    judged_kept =
        rw (ne_eqb (rest_short ring st) 0 some)
        (ap₂ (λ (e u : ℕ). cond (eqb e 0) (unmarked f size (u / 2 ^ st.short * 2 ^ st.short) st) (cond (ltb st.marks room) (marked f size e u st) st))
        (reduced_on st.rows st.pivots 0 st.short zero-le ring st.marks l)
        (used_on st.rows st.tags st.pivots 0 st.short zero-le ring 0 st.marks l))

    -- What is a sum of marked rings, but not of the shorter ones, is kept and not marked.
    pub judged_unmarked : rest ring st ≡ 0 → judged f size ring st ≡ unmarked f size (tag_long ring st) st
    judged_unmarked z = judged_kept ∙ rw (eq-eqb (rest ring st) 0 z)

    -- What is no sum of marked rings is marked, if there is room.
    pub judged_marked : (rest ring st ≡ 0 → ⊥) → st.marks < room → judged f size ring st ≡ marked f size (rest ring st) (names ring st) st
    judged_marked n h = judged_kept ∙ rw (ne_eqb (rest ring st) 0 n, lt-ltb st.marks room h)
