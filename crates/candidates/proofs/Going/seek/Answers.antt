use Rattle.std.proofs.Common.{arith}
use Rattle.spans.specs.Elements.{first}
use Rattle.candidates.proofs.Trying.{place_less, trying_start, trying_next, seek_tries}
use Rattle.candidates.proofs.Going.seek.Goals as goal

pub loop-p-init : goal.loop-p-init
loop-p-init c =
    let starts = c.first-p-items.ensures in
    (tt, tt, trying_start c.into_iter-p-iterator.ensures.into_iter_gives starts.within (starts.all c.args.net.n c.args.net.touch.now c.args.r))

pub invariant_of-f : goal.invariant_of-f
invariant_of-f c =
    let spot = c.loop-p.invariant.2.within (c.in-Some.p, c.in-Some.q, c.in-Some.x) (rw c.in-Some.ensures.steps first) in
    record {
      long = c.requires.k_bound;
      bytes = (omega (arith, c.requires.r_bound), omega (arith, spot.p_atom), omega (arith, spot.q_atom));
      middle = λ x e. omega (arith, rw e at spot.x_atom);
    }

pub attempt-requires : goal.attempt-requires
attempt-requires c = record {
  place = place_less c.requires.place _ (omega arith);
  within = c.loop-p.invariant.2.within (c.in-Some.p, c.in-Some.q, c.in-Some.x) (rw c.in-Some.ensures.steps first);
}

pub loop-p-preserved : goal.loop-p-preserved
loop-p-preserved c = (tt, tt, trying_next c.loop-p.invariant.2 c.in-Some.ensures.steps c.attempt.ensures)

pub returns : goal.returns
returns c = seek_tries _ _ c.args.k c.args.r _ c.args.layers.now c.loop-p.invariant.2 c.in-None.ensures.steps.0
