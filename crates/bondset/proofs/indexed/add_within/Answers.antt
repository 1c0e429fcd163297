-- A row of the range is added, with its tag, and no other.
use mathlib.Core.Path.{◌≡◌, sym, ap, ◌∙◌}
use mathlib.Core.List.{List}
use mathlib.Core.Logic.{inl, inr}
use Prim.Native.Nat.{ℕ}
use native.Mathlib.Omega.{arith}
use lib.Bits.{bit_xor}
use Rattle.bondset.specs.Sets.{value}
use Rattle.bondset.specs.Rows.{flat}
use Rattle.bondset.specs.Index.{add_within}
use Rattle.bondset.proofs.Rows.{row_flat}
use Rattle.bondset.proofs.IndexReduce.{within_in, within_below, within_beyond}
use Rattle.bondset.proofs.indexed.add_within.Goals as goal

pub returns-then-i-from : goal.returns-then-i-from
returns-then-i-from c =
    let a = c.args in
    let same : (arr : List ℕ) (s : ℕ) → add_within arr a.from a.to a.i s ≡ s =
    elim c.then-i-from.either [
      | inl h ↦ within_below a.from a.to a.i h
      | inr h ↦ within_beyond a.from a.to a.i h.1
    ] in
    record { rest = sym (same (flat a.rows.now) (value a.v.rest)); used = sym (same (flat a.tags.now) (value a.v.used)) }

pub returns : goal.returns
returns c =
    let a = c.args in
    let more = within_in a.from a.to a.i (omega arith) (omega arith) in
    record {
      rest = c.sum.ensures ∙ ap (bit_xor (value a.v.rest)) (sym (row_flat a.rows.now a.i)) ∙ sym (more (flat a.rows.now) (value a.v.rest));
      used = c.sum-2.ensures ∙ ap (bit_xor (value a.v.used)) (sym (row_flat a.tags.now a.i)) ∙ sym (more (flat a.tags.now) (value a.v.used));
    }
