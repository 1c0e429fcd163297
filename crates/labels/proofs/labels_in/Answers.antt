use Rattle.std.proofs.Common.{ℕ, ◌^◌, ap, ◌∙◌, refl, rules}
use lib.Bits.{bit_or}
use Rattle.bondset.specs.Sets.{value}
use Rattle.model.specs.State.{labels_in}
use Rattle.model.proofs.Turns.{left_next, left_none}
use Rattle.labels.proofs.labels_in.Goals as goal

pub loop-j-init : goal.loop-j-init
unfolding labels_in
loop-j-init c = (search rules, search rules, record { same = rw (c.into_iter-j-iterator.ensures.into_iter_gives, c.empty-all.ensures) refl })

pub with-all-requires : goal.with-all-requires
with-all-requires c = rw (c.from.ensures, c.byte_at.ensures) (c.requires.below c.in-Some.j)

pub loop-j-preserved : goal.loop-j-preserved
loop-j-preserved c =
    let l = c.loop-j in
    let added = c.with-all.ensures ∙ ap (λ (x : ℕ). bit_or (value l.all) (2 ^ x)) (c.from.ensures ∙ c.byte_at.ensures) in
    (search rules, search rules, left_next _ c.in-Some.ensures.steps added l.invariant.2)

pub returns : goal.returns
returns c = left_none _ c.in-None.ensures.steps.0 c.loop-j.invariant.2
