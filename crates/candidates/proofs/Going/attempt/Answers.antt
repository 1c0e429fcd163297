-- The ring of the candidate is reduced by the shorter marked rings; if something is left, the size is counted and stored, and the family entered.
use Rattle.std.proofs.Common.{◌≡◌, ◌*◌, arith, sym, ◌∙◌}
use Rattle.bondset.specs.Sets.{value}
use Rattle.rows.specs.Values.{family_of}
use Rattle.candidates.specs.Nets.{lent_graph}
use Rattle.candidates.specs.Engine.{size_in}
use Rattle.candidates.proofs.Kept.{added_few, attempt_none, attempt_kept}
use Rattle.candidates.proofs.Going.attempt.Goals.{in-Some, in-None}
use Rattle.candidates.proofs.Going.attempt.Goals as goal

pub returns-then-is_empty : goal.returns-then-is_empty
returns-then-is_empty c =
    let a = c.args in
    attempt_none (lent_graph a.net) a.from a.layers.now a.d (family_of a.f) a.self.now a.out.now a.sizes.now
    (value c.link-link.result) (value c.walk-ring.result) (value c.reduce-left.result.rest) (value c.reduce-left.result.used)
    (c.link-link.ensures a.f.k a.f.r) c.walk-ring.ensures c.reduce-left.ensures (sym c.is_empty.ensures.empty ∙ c.if-is_empty.true)

pub overflow_mul-size : goal.overflow_mul-size
overflow_mul-size c = omega (arith, added_few _ _ _ _ (sym c.add-self.ensures ∙ c.in-Some.is))

pub returns : goal.returns
returns c =
    let a = c.args in
    let ways = c.ways-ways in
    let size : c.match-self.size ≡ size_in c.add-self.result (ways.result.from_p * ways.result.from_q) =
    elim c.match-self.branch [ in-Some w ↦ rw w.in-Some.is w.size-is | in-None w ↦ rw w.in-None.is w.size-is ]
    in
    attempt_kept (lent_graph a.net) a.from a.layers.now a.d (family_of a.f) a.self.now a.out.now a.sizes.now
    (value c.link-link.result) (value c.walk-ring.result) (value c.reduce-left.result.rest) (value c.reduce-left.result.used)
    (c.link-link.ensures a.f.k a.f.r) c.walk-ring.ensures c.reduce-left.ensures (sym c.is_empty.ensures.empty ∙ c.if-is_empty.false)
    ways.result.from_p ways.result.from_q _ _ _ ways.ensures.one ways.ensures.other c.add-self.ensures (rw (← size) c.put_size.ensures) c.enter.ensures.is
