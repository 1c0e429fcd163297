-- Refusal 1, and then refusal 2.
use mathlib.Core.List.{List}
use mathlib.Core.Logic.{inl, inr}
use Prim.Native.Nat.{ℕ, ◌<◌, ◌≤◌}
use native.Mathlib.Omega.{arith}
use Rattle.cycles.specs.Refusal as table
use Rattle.cycles.specs.Refusal.{WrongAtoms}
use Rattle.reading.specs.Reading.{compound}
use Rattle.rings.proofs.call.within.Goals.{then-bonds-eq1-via-then-bonds-eq1, then-bonds-eq1-via-else-bonds-eq1+then-bonds-gt96}
use Rattle.rings.proofs.call.within.Goals as goal

-- 1 is not given.
right : (n : ℕ) (bonds : List ℕ) → 0 < n → n ≤ 64 → WrongAtoms (compound n bonds) → ⊥
right n bonds some atoms wrong = elim wrong [ inl z ↦ omega (arith, z, some) | inr z ↦ omega (arith, z, atoms) ]

pub returns-then-n-eq0-clause-refused : goal.returns-then-n-eq0-clause-refused
returns-then-n-eq0-clause-refused c = table.atoms (elim c.then-n-eq0.either [ inl none ↦ inl none | inr many ↦ inr many.1 ])

pub returns-then-bonds-eq1-clause-refused : goal.returns-then-bonds-eq1-clause-refused
returns-then-bonds-eq1-clause-refused c =
    table.bytes (right c.args.n c.args.bonds.now (omega arith) (omega arith))
    (elim c.then-bonds-eq1.branch [ then-bonds-eq1-via-then-bonds-eq1 w ↦ inl w.if-bonds-eq1.true | then-bonds-eq1-via-else-bonds-eq1+then-bonds-gt96 w ↦ inr w.if-bonds-gt96.true ])
