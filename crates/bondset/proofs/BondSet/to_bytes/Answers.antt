-- The bytes that are copied are the first of both words.
use Prim.Native.Nat.{ℕ, min}
use mathlib.Core.Path.{◌≡◌, sym, ap, ◌∙◌}
use mathlib.Core.List.{List, ◌++◌}
use native.Mathlib.Nat.{zero-add}
use native.Mathlib.Omega.{arith}
use lib.ListN.{length, take, drop}
use lib.Seq.{paste}
use Rattle.bondset.specs.Sets.{value}
use Rattle.bondset.specs.Bytes.{bytes_of}
use Rattle.bondset.proofs.Bytes.{take_words}
use Rattle.bondset.proofs.BondSet.to_bytes.Goals as goal

pub returns : goal.returns
returns c =
    let a = c.args in
    let n = c.min-n.result in
    let copied : c.copy_from_slice.new.self ≡ take n (bytes_of 12 (value a.self)) =
    c.copy_from_slice.ensures.after
    ∙ rw (c.as_flattened.ensures.value, c.to_le_bytes.ensures, c.to_le_bytes-2.ensures) (take_words a.self.hi a.self.lo n (omega arith) (omega arith)) in
    let e : n ≡ min 12 (length a.out.now) = omega (arith, c.min-n.ensures) in
    ap (λ (l : List ℕ). l ++ drop n a.out.now) copied
    ∙ ap (λ (m : ℕ). take n (bytes_of 12 (value a.self)) ++ drop m a.out.now) (sym (zero-add n))
    ∙ ap (paste a.out.now 0 (bytes_of 12 (value a.self))) e
