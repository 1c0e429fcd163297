-- The array holds the bytes of the records up to k, and those of the next are put after them.
use Rattle.std.proofs.Common.{ℕ, ◌/◌, ◌<◌, List, length, take, get_or, sym, ap, ◌∙◌, arith, length-take, add-one}
use lib.Seq.{get_or-take}
use Rattle.records.specs.Records.{laid}
use Rattle.records.specs.declared.Bond.{Bond}
use Rattle.records.proofs.Copying.{no_bond, put_at, laid_none, put_laid, ends}
use Rattle.records.proofs.copied.Goals as goal

pub loop-k-init : goal.loop-k-init
loop-k-init c = sym (laid_none c.args.bonds.now)

pub loop-k-preserved : goal.loop-k-preserved
loop-k-preserved c =
    let k = c.loop-k.k in
    let bonds = c.args.bonds.now in
    let end = c.lent.result / 2 in
    let within = c.loop-k-test.true in
    let all = ends (length bonds) in
    let below : k < end = omega (arith, length-take end bonds) in
    ap (λ (bytes : List ℕ). put_at bytes k (get_or (take end bonds) k no_bond)) c.loop-k.invariant
    ∙ ap (λ (bond : Bond). put_at (laid bonds k) k bond) (get_or-take end bonds k no_bond below)
    ∙ put_laid bonds k (omega (arith, length-take end bonds)) (omega (arith, all.1))
    ∙ ap (laid bonds) (sym (add-one k))
