-- Both words are read from the bytes with zeros after them.
use Prim.Native.Nat.{min}
use mathlib.Core.Path.{◌≡◌, refl, ◌∙◌}
use mathlib.Core.List.{[], ◌∷◌}
use native.Mathlib.Omega.{arith}
use lib.ListN.{length, take, drop}
use Rattle.bondset.proofs.Bytes.{padded, length_padded, words_padded}
use Rattle.bondset.proofs.BondSet.from_bytes.Goals as goal

pub returns : goal.returns
returns c =
    let bs = c.args.bytes.now in
    let n = c.min-n.result in
    let e : n ≡ min 12 (length bs) = omega (arith, c.min-n.ensures) in
    let all = padded bs n in
    let words : c.as_chunks.result.0.now ≡ take 8 all ∷ take 8 (drop 8 all) ∷ [] =
    c.as_chunks.ensures.front ∙ rw (c.copy_from_slice.ensures.after, length_padded bs n e) refl in
    rw (c.from_le_bytes.ensures, c.from_le_bytes-2.ensures, words) (words_padded bs n e)
