use mathlib.Core.Path.{◌≡◌, refl, sym, ap, ◌∙◌}
use mathlib.Core.List.{List}
use Prim.Native.Nat.{ℕ, ◌/◌, ◌%◌, ◌^◌, ◌≤◌}
use native.Mathlib.Omega.{arith}
use lib.Bits.{bit_xor, bit_and, and_mask}
use lib.ListN.{get_or, set}
use borrow.Author.Tests.{eq-eqb, ne_eqb}
use Rattle.bondset.specs.Sets.{bit, value}
use Rattle.bondset.specs.Rows.{flat}
use Rattle.bondset.proofs.Rows.{row_flat}
use Rattle.bondset.proofs.Words.{spread, bit_spread}
use Rattle.bondset.proofs.ReductionModel.{reduces_none, reduces_end, reduces_taken, reduces_left}
use Rattle.bondset.proofs.reduction.reduce.Goals as goal
use Rattle.bondset.proofs.reduction.reduce.Goals.{then-words-k-eq1, else-words-k-eq1}

pub loop-i-init : goal.loop-i-init
loop-i-init c =
    let a = c.args in (
      omega arith,
      omega arith,
      omega arith,
      omega arith,
      refl,
      reduces_none (flat a.rows.now) (flat a.tags.now) a.pivots.now a.from (value a.v.rest) (value a.v.used),
    )

pub offset_bounds-words-k : goal.offset_bounds-words-k
offset_bounds-words-k c = omega (arith, c.from-k.ensures, c.type_inv.pivots c.loop-i.i)

pub bounds-words-k : goal.bounds-words-k
bounds-words-k c = omega (arith, c.from-k.ensures, c.type_inv.pivots c.loop-i.i)

pub loop-i-preserved : goal.loop-i-preserved
loop-i-preserved c =
    let l = c.loop-i in
    let a = c.args in
    let k = c.from-k.result in
    let from : a.from ≤ l.i = l.invariant.0 in
    let test : bit_and (get_or l.words (k / 64) 0 / 2 ^ (k % 64)) 1 ≡ bit (value l.rest) (get_or a.pivots.now l.i 0) =
    and_mask (get_or l.words (k / 64) 0 / 2 ^ (k % 64)) 1 ∙ ap (λ (ws : List ℕ). bit (get_or ws (k / 64) 0) (k % 64)) l.invariant.4
    ∙ bit_spread l.rest.lo l.rest.hi k l.invariant.2 l.invariant.3 (omega (arith, c.from-k.ensures, c.type_inv.pivots l.i))
    ∙ ap (bit (value l.rest)) c.from-k.ensures in
    elim c.if-words-k-eq1.branch [
      | then-words-k-eq1 w ↦ (
        omega arith,
        omega arith,
        rw w.rest-is (omega arith),
        rw w.rest-is (omega arith),
        w.words-is ∙ ap (λ (ws : List ℕ). set (set ws 0 w.sum-rest.result.lo) 1 w.sum-rest.result.hi) l.invariant.4 ∙ sym (ap (λ r. spread r.lo r.hi) w.rest-is),
        reduces_taken (flat a.rows.now) (flat a.tags.now) a.pivots.now a.from (value a.v.rest) (value a.v.used) l.i from
            (value l.rest) (value l.used) l.invariant.5 (value c.if-words-k-eq1.rest) (value c.if-words-k-eq1.used) (eq-eqb _ 1 (sym test ∙ w.if-words-k-eq1.true))
            (ap value w.rest-is ∙ w.sum-rest.ensures ∙ ap (bit_xor (value l.rest)) (sym (row_flat a.rows.now l.i)))
            (ap value w.used-is ∙ w.sum-used.ensures ∙ ap (bit_xor (value l.used)) (sym (row_flat a.tags.now l.i))),
      )
      | else-words-k-eq1 w ↦ (
        omega arith,
        omega arith,
        rw w.rest-is l.invariant.2,
        rw w.rest-is l.invariant.3,
        w.words-is ∙ l.invariant.4 ∙ sym (ap (λ r. spread r.lo r.hi) w.rest-is),
        reduces_left (flat a.rows.now) (flat a.tags.now) a.pivots.now a.from (value a.v.rest) (value a.v.used) l.i from
            (value l.rest) (value l.used) l.invariant.5 (value c.if-words-k-eq1.rest) (value c.if-words-k-eq1.used) (ne_eqb _ 1 (λ e. w.if-words-k-eq1.false (test ∙ e)))
            (ap value w.rest-is) (ap value w.used-is),
      )
    ]

pub returns : goal.returns
returns c =
    let a = c.args in
    let l = c.loop-i in
    reduces_end (flat a.rows.now) (flat a.tags.now) a.pivots.now a.from (value a.v.rest) (value a.v.used) l.i a.to
    (value l.rest) (value l.used) (omega arith) l.invariant.5
