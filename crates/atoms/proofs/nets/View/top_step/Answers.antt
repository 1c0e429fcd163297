-- The two ways of the test are the two ways of the model's.
use mathlib.Core.Path.{◌≡◌, sym, ap, ◌∙◌}
use mathlib.Core.Bool.{true, false}
use Prim.Native.Nat.{ℕ}
use native.Mathlib.Omega.{arith}
use lib.Bits.{bit_and, bit_or}
use lib.ListN.{get_or}
use Rattle.model.specs.Net.{preceding}
use Rattle.model.specs.Loops.{two, top_step}
use Rattle.atoms.proofs.Words.{one_shl}
use Rattle.atoms.proofs.nets.View.top_step.Goals as goal

pub returns-then-two : goal.returns-then-two
unfolding top_step
returns-then-two c =
    let r = c.args.r in
    let w = get_or c.args.self.now.adj.now r 0 in
    let yes' : two (bit_and w (preceding r)) ≡ true =
    ap (λ (x : ℕ). two (bit_and w x)) (sym c.preceding.ensures) ∙ sym c.two.ensures ∙ c.if-two.true in
    rw yes' (ap (bit_or c.args.acc) (one_shl r (omega arith)))

pub returns : goal.returns
unfolding top_step
returns c =
    let r = c.args.r in
    let w = get_or c.args.self.now.adj.now r 0 in
    let not' : two (bit_and w (preceding r)) ≡ false =
    ap (λ (x : ℕ). two (bit_and w x)) (sym c.preceding.ensures) ∙ sym c.two.ensures ∙ c.if-two.false in
    rw not'
