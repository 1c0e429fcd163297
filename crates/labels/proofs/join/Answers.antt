use mathlib.Core.Path.{refl, ap, ◌∙◌}
use Prim.Native.Nat.{◌-◌}
use native.Mathlib.Omega.{arith}
use lib.Count.{count_trailing_zeros}
use borrow.Author.Rules.{rules}
use Rattle.bondset.specs.Sets.{value}
use Rattle.bondset.proofs.Laws.{words_lt}
use Rattle.model.specs.Fold.{through, count}
use Rattle.model.specs.State.{relabel, joined}
use Rattle.labels.proofs.Turns.{turn, turned}
use Rattle.labels.proofs.Below.{joined_alike}
use Rattle.labels.proofs.join.Goals as goal

pub returns-then-alike : goal.returns-then-alike
returns-then-alike c =
    let a = c.args in
    joined_alike a.from a.to (value a.t) a.labels.now c.requires.labelled (words_lt 64 a.t.hi a.t.lo (omega arith) (omega arith))
    (c.alike.ensures c.if-alike.true)

pub loop-j-init : goal.loop-j-init
loop-j-init c = (omega arith, refl, refl)

pub loop-j-preserved : goal.loop-j-preserved
loop-j-preserved c =
    let l = c.loop-j in
    (omega arith, search rules, turn _ l.j _ l.labels _ (omega arith) _ c.relabel.ensures l.invariant.2)

pub returns : goal.returns
unfolding joined
returns c =
    let a = c.args in
    let l = c.loop-j in
    turned _ l.j a.to l.labels _ (omega arith) l.invariant.2
    ∙ ap (λ w. through (relabel w (count_trailing_zeros 128 w)) (count a.from (a.to - a.from)) a.labels.now) c.labels_in-w.ensures
