-- A byte lies in one word.
use Prim.Native.Nat.{ℕ}
use mathlib.Core.Path.{ap, ◌∙◌}
use mathlib.Core.List.{List}
use native.Mathlib.Omega.{arith}
use lib.ListN.{get_or}
use Rattle.bondset.proofs.Bytes.{byte_lo}
use Rattle.bondset.proofs.BondSet.byte.Goals as goal

pub returns-then-j-lt8 : goal.returns-then-j-lt8
returns-then-j-lt8 c =
    let a = c.args in
    ap (λ (l : List ℕ). get_or l a.j 0) c.to_le_bytes.ensures ∙ byte_lo a.self.hi a.self.lo (omega arith) a.j (omega arith)
