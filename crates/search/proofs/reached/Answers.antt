use Rattle.std.proofs.Common.{◌≡◌, refl, sym, ap, ap₂, ◌∙◌, add-one, arith}
use Prim.Native.Nat.{ℕ, ◌+◌, ◌-◌}
use lib.Bits.{bit_and}
use Rattle.model.specs.Net.{near}
use Rattle.model.specs.Layer.{spread, wave}
use Rattle.atoms.specs.Nets.{neighbours}
use Rattle.search.proofs.Waves.{and_not, or_without, seen_done}
use Rattle.search.proofs.reached.Goals as goal

pub loop-init : goal.loop-init
unfolding wave
loop-init c = (omega arith, refl, refl)

pub returns-then-front-eq0 : goal.returns-then-front-eq0
returns-then-front-eq0 c =
    let l = c.loop in
    let a = c.args in
    l.invariant.1 ∙ seen_done (neighbours a.adj.now) 0 0 l.counter a.n (omega arith) (sym l.invariant.2 ∙ c.if-front-eq0.true)

pub loop-preserved : goal.loop-preserved
unfolding wave spread
loop-preserved c =
    let l = c.loop in
    let G = neighbours c.args.adj.now in
    let reach = c.near.result in
    let left = and_not reach l.seen c.near.type_inv (omega arith) in
    let same : reach ≡ near G (wave G 0 0 l.counter).front = c.near.ensures ∙ ap (near G) l.invariant.2 in
    let front = ap₂ (λ (x y : ℕ). x - bit_and x y) same l.invariant.1 in (
      omega arith,
      rw (add-one, left) (or_without l.seen reach ∙ ap₂ (λ (x y : ℕ). x + y) l.invariant.1 front),
      rw (add-one, left) front,
    )

pub returns : goal.returns
returns c =
    let l = c.loop in
    let a = c.args in
    let e : l.counter ≡ a.n = omega arith in
    l.invariant.1 ∙ ap (λ (d : ℕ). (wave (neighbours a.adj.now) 0 0 d).seen) e
