use mathlib.Core.Path.{refl, sym, ap, ◌∙◌}
use mathlib.Core.List.{List}
use Prim.Native.Nat.{ℕ, ◌+◌}
use native.Mathlib.Omega.{arith}
use borrow.Author.Rules.{rules}
use Rattle.bondset.specs.Sets.{value}
use Rattle.members.proofs.Places.{rest_block, block_start, block_more, block_end}
use Rattle.members.proofs.block.Goals as goal

pub loop-j-preserved : goal.loop-j-preserved
loop-j-preserved c =
    let l = c.loop-j in
    let a = c.args in (
      omega arith,
      search rules,
      ap (λ (r : List ℕ). rest_block (value a.set) a.from a.count a.at r (l.j + 1)) c.mix.ensures
          ∙ block_more (value a.set) a.from a.count a.at l.rings (omega arith) c.requires.at_le_from l.j _ (omega arith) refl ∙ l.invariant.2,
    )

pub returns : goal.returns
returns c =
    let l = c.loop-j in
    let a = c.args in
    sym (block_end (value a.set) a.from a.count a.at l.rings (omega arith) c.requires.at_le_from l.j (omega arith)) ∙ l.invariant.2 ∙ block_start (value a.set) a.from a.count a.at a.rings.now
