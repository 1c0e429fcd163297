-- The loop's invariant: what is left of the tag adds what is missing.
use Rattle.std.proofs.Common.{ℕ, ◌^◌, List, get_or}
use lib.Bits.{bit_or}
use Rattle.bondset.specs.Sets.{value, members}
use Rattle.model.specs.State.{labels_in}
use Rattle.model.proofs.Turns.{Left}
use Rattle.labels.proofs.labels_in.Given as goal

abbrev pub add_label : List ℕ → ℕ → ℕ → ℕ
add_label labels j all = bit_or all (2 ^ get_or labels j 0)

abbrev pub invariant-loop-j : goal.invariant-loop-j
invariant-loop-j l =
    (goal.iterator-loop-j).can_next l.j-iterator × (goal.iterator-loop-j).is_finite l.j-iterator
    × Left (add_label l.labels) (members 128 (value l.j-iterator.rest)) (value l.all) (labels_in l.labels (value l.fn.t))
