use Rattle.std.proofs.Common.{◌≡◌, List, refl, ◌∙◌, add-one, arith, rules}
use Rattle.std.proofs.lemmas.Result.{err_from_is_err_and}
use Prim.Native.Nat.{ℕ}
use Rattle.std.specs.Iterator.Adapters.{enumerate_count}
use Rattle.model.specs.Fault.{Fault}
use Rattle.reading.specs.Reading.{compound, fault_of, fault_by}
use Rattle.reading.proofs.Bonds.{pairs_start, pairs_one, pairs_other, pairs_bond, pairs_next, pairs_end, sofar_start, sofar_fault, sofar_next, sofar_end, sofar_refused, fine_named}
use Rattle.reading.proofs.read.Goals as goal

-- What is judged of the bytes of a bond is judged of the bond.
judged : (n : ℕ) (adj : List ℕ) (f : Fault) (a b k a' b' k' : ℕ) → a ≡ a' → b ≡ b' → k ≡ k' → f ≡ fault_by n adj a b k → f ≡ fault_by n adj a' b' k'
judged n adj f a b k a' b' k' p q r e = rw (← p, ← q, ← r) e

pub loop-k-init : goal.loop-k-init
loop-k-init c =
    let p = c.requires in
    let e = c.into_iter-k-iterator.ensures.into_iter_gives in
    let f = c.enumerate-k-items.ensures in
    let g = c.chunks_exact.ensures in (
      search rules,
      search rules,
      rw (e, f.source) g.size,
      rw (e, f.source, f.count, g.rest) (pairs_start c.args.bytes.now),
      refl,
      rw (e, f.count, p.adj_value, p.touch_value) (sofar_start _),
    )

pub returns-in_err-judge-clause-reading : goal.returns-in_err-judge-clause-reading
returns-in_err-judge-clause-reading c =
    let l = c.loop-k in
    let i = l.invariant in
    let s = c.in-Some.ensures.steps in
    let split = s.0.1.0 in
    let two = s.0.1.1 ∙ i.2 in
    let p = err_from_is_err_and c.from_residual.result c.from_residual.ensures.1 in
    rw (p.1, p.2, ← i.4)
    (sofar_refused (compound l.net.n c.args.bytes.now) (enumerate_count l.k-iterator) l.net.adj l.net.touch i.5 _ (pairs_bond i.3 _ _ split two)
    (judged l.net.n l.net.adj _ _ _ _ _ _ _ (c.from-a.ensures ∙ pairs_one i.3 _ _ split two) (c.from-b.ensures ∙ pairs_other i.3 _ _ split two) s.1 c.in_err-judge.ensures))

pub add-requires : goal.add-requires
unfolding fault_of
add-requires c =
    let l = c.loop-k in
    let named = fine_named l.net.n l.net.adj _ _ _ c.in_ok-judge.ensures in
    record { a_bound = omega (arith, named.0, l.net.few); b_bound = omega (arith, named.1, l.net.few) }

pub loop-k-preserved : goal.loop-k-preserved
unfolding fault_of
loop-k-preserved c =
    let l = c.loop-k in
    let i = l.invariant in
    let s = c.in-Some.ensures.steps in
    let split = s.0.1.0 in
    let two = s.0.1.1 ∙ i.2 in
    let a = c.from-a.ensures ∙ pairs_one i.3 _ _ split two in
    let b = c.from-b.ensures ∙ pairs_other i.3 _ _ split two in
    let fine = judged l.net.n l.net.adj _ _ _ _ _ _ _ a b s.1 c.in_ok-judge.ensures in
    let named = fine_named l.net.n l.net.adj _ _ _ fine in
    let new = c.add.ensures in (
      search rules,
      search rules,
      s.0.0 ∙ i.2,
      rw (s.2, add-one) (pairs_next i.3 _ _ split two),
      new.n_kept ∙ i.4,
      rw (new.n_kept, new.adj_after, new.touch_after, a, b, s.1, s.2, add-one (enumerate_count l.k-iterator))
          (sofar_next (compound l.net.n c.args.bytes.now) _ l.net.adj l.net.touch i.5 (omega (arith, named.0, l.net.few)) (omega (arith, named.1, l.net.few))
          (fine ∙ sofar_fault (compound l.net.n c.args.bytes.now) _ l.net.adj l.net.touch i.5)),
    )

pub returns-clause-reading : goal.returns-clause-reading
returns-clause-reading c =
    let l = c.loop-k in
    let i = l.invariant in
    let s = c.in-None.ensures.steps in
    rw (← i.4) (sofar_end (compound l.net.n c.args.bytes.now) _ l.net.adj l.net.touch i.5 _ (pairs_end i.3 (omega (arith, s.0.1.0, i.2))))
