use Rattle.std.proofs.Common.{◌≡◌, List, set, get_or, refl, ap₂, ◌∙◌, arith, add-one, length-set}
use Prim.Native.Nat.{ℕ, zero, suc, ◌+◌, ◌-◌, ◌*◌, ◌%◌, ◌^◌, ◌<◌}
use lib.Bits.{bit_and, and_le_r}
use Rattle.bondset.proofs.Laws.{pos_of_ne}
use Rattle.model.specs.Fold.{through, count}
use Rattle.model.specs.Net.{Net, nbrs}
use Rattle.model.specs.Layer.{wave, layer, layers_into}
use Rattle.atoms.specs.Nets.{neighbours}
use Rattle.atoms.proofs.Loops.{upto_start, upto_next, upto_end}
use Rattle.atoms.proofs.Words.{one_shl}
use Rattle.search.proofs.Fronts.{first_layer, layering_start}
use Rattle.search.proofs.Waves.{and_not}
use Rattle.search.proofs.layers.Goals as goal
use Rattle.search.proofs.layers.Goals.{After-of}

-- After layers 0 and 1 come the others.
layers_from : (G : Net) (pre r : ℕ) → r < 64 → (depth : ℕ) → 0 < depth → (us : List ℕ) (start under : ℕ) → start ≡ 2 ^ r
    → under ≡ bit_and (nbrs G r) pre - bit_and (bit_and (nbrs G r) pre) start
    → through (λ i us. set us i (layer G pre r i)) (count 2 (depth - 1)) (set (set us 0 start) 1 under) ≡ layers_into G pre r depth us
unfolding layers_into through count layer wave
layers_from G pre r h zero some us start under s u = absurd (omega arith)
layers_from G pre r h (suc k) some us start under s u = let e : suc k - 1 ≡ k = omega arith in rw (u, s, first_layer G pre r h, e)

pub returns-then-depth-eq0 : goal.returns-then-depth-eq0
unfolding layers_into through count layer wave
returns-then-depth-eq0 c =
    let a = c.args in
    rw (one_shl a.r (omega arith), c.if-depth-eq0.true)

-- Layer 1, as it is written.
first : (c : After-of)
    → let start = 1 * 2 ^ c.args.r % 2 ^ 64 in
    let beneath = bit_and (get_or c.args.adj.now c.args.r 0) c.args.pre in
    bit_and beneath (2 ^ 64 - 1 - start) ≡ beneath - bit_and beneath start
first c = and_not _ _ (omega (arith, and_le_r (get_or c.args.adj.now c.args.r 0) c.args.pre)) (omega arith)

pub loop-d-init : goal.loop-d-init
loop-d-init c =
    let a = c.args in
    let q = c.of.ensures in (
      refl,
      layering_start (neighbours a.adj.now) a.pre a.r (omega arith) _ (one_shl a.r (omega arith)) _ refl (first (goal.at.loop-d-init c).After-of) q.ends q.alone,
      upto_start _ 2 _,
    )

pub loop-d-preserved : goal.loop-d-preserved
loop-d-preserved c =
    let l = c.loop-d in
    let next = c.next.ensures c.args.r (l.d - 1) l.invariant.1 in
    let e : l.d + 1 - 1 ≡ l.d - 1 + 1 = omega arith in (
      simp length-set (simp length-set at l.invariant.0),
      rw (e, add-one) next,
      rw e (upto_next _ (omega arith) (ap₂ (set l.layers) (omega arith) next.under) l.invariant.2),
    )

pub returns : goal.returns
returns c =
    let l = c.loop-d in
    let a = c.args in
    upto_end _ {n = a.depth - 1} (omega arith) l.invariant.2
    ∙ layers_from (neighbours a.adj.now) a.pre a.r (omega arith) a.depth (pos_of_ne _ c.if-depth-eq0.false) a.layers.now
    _ _ (one_shl a.r (omega arith)) (first (goal.at.returns c).After-of)
