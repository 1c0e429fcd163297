-- Sets of atoms in loops: their members as a list, those above an atom, sets with two members, and the top atoms.
use mathlib.Core.Path.{◌≡◌, refl, sym, ap, ◌∙◌, subst}
use mathlib.Core.Bool.{Bool, true, false, cond}
use mathlib.Core.List.{List, [], ◌∷◌}
use mathlib.Core.Logic.{◌⊎◌, inl, inr, ⊎_elim, ◌↔◌}
use Prim.Native.Nat.{ℕ, zero, suc, ◌+◌, ◌-◌, ◌*◌, ◌/◌, ◌%◌, ◌^◌, ◌<◌, ◌≤◌}
use native.Mathlib.Omega.{arith}
use borrow.Author.Tests.{lt-ltb}
use lib.Bits.{bit_and, bit_or}
use lib.Count.{count_trailing_zeros}
use lib.Pow.{pow_pos, shr-shr}
use Rattle.spans.specs.Elements.{◌∈◌}
use Rattle.bondset.specs.Sets.{bit, members}
use Rattle.bondset.proofs.Laws.{lt_or_ge, pos_of_ne, zero_bit, bit_word_lo, bit_word_hi}
use Rattle.bondset.proofs.Members.{mem_of_bit, members_step, members_zero}
use Rattle.cycles.proofs.PathsDown.{in_one}
use Rattle.model.specs.Fold.{through, count}
use Rattle.model.specs.Net.{Net, nbrs}
use Rattle.model.specs.Loops.{above, two, top_step, tops}
use Rattle.model.proofs.NetBits.{or_has, pow_has}

-- ---- the members above p

bit_cleared : (w s q : ℕ) → q < w → bit (s / 2 ^ w * 2 ^ w) q ≡ 0
bit_cleared w s q h =
    let e : s / 2 ^ w * 2 ^ w + 0 ≡ s / 2 ^ w * 2 ^ w = omega arith in
    ap (λ (x : ℕ). bit x q) (sym e) ∙ bit_word_lo w (s / 2 ^ w) 0 (pow_pos w) q h ∙ zero_bit q

bit_kept : (w s q : ℕ) → w ≤ q → bit (s / 2 ^ w * 2 ^ w) q ≡ bit s q
bit_kept w s q h =
    let e : s / 2 ^ w * 2 ^ w + 0 ≡ s / 2 ^ w * 2 ^ w = omega arith in
    let f : w + (q - w) ≡ q = omega arith in
    ap (λ (x : ℕ). bit x q) (sym e) ∙ bit_word_hi w (s / 2 ^ w) 0 (pow_pos w) q h ∙ ap (λ (x : ℕ). x % 2) (shr-shr s w (q - w))
    ∙ ap (λ (x : ℕ). bit s x) f

-- What is above p in a set.
pub above_has : (s p q : ℕ) → (bit (above s p) q ≡ 1) ↔ ((p < q) × (bit s q ≡ 1))
unfolding above
above_has s p q = (
  λ e. ⊎_elim (λ (h : q < p + 1). absurd (omega (arith, bit_cleared (p + 1) s q h)))
      (λ (h : p + 1 ≤ q). (omega arith, sym (bit_kept (p + 1) s q h) ∙ e)) (lt_or_ge q (p + 1)),
  λ h. bit_kept (p + 1) s q (omega (arith, h.0)) ∙ h.1,
)

-- ---- two members

-- A set with two different members passes the test for top atoms.
pub two_of : (n s a b : ℕ) → s < 2 ^ n → a < n → b < n → bit s a ≡ 1 → bit s b ≡ 1 → (a ≡ b → ⊥) → two s ≡ true
unfolding two
two_of n s a b small ha hb ea eb other = lt-ltb 0 (bit_and s (s - 1)) (pos_of_ne (bit_and s (s - 1)) alone)
  where
    some : 0 < s
    some = pos_of_ne s (λ e. let z : bit 0 a ≡ 1 = rw e at ea in omega (arith, zero_bit a))

    alone : bit_and s (s - 1) ≡ 0 → ⊥
    alone e =
        let low = count_trailing_zeros n s in
        let list : members n s ≡ low ∷ [] = members_step n s some small ∙ ap (λ (t : ℕ). low ∷ members n t) e ∙ ap (λ (l : List ℕ). low ∷ l) (members_zero n) in
        other (sym (in_one (subst (λ (l : List ℕ). a ∈ l) list (mem_of_bit n s a ha ea)))
        ∙ in_one (subst (λ (l : List ℕ). b ∈ l) list (mem_of_bit n s b hb eb)))

-- ---- the top atoms

put_keeps : (t : Bool) (acc r j : ℕ) → bit acc j ≡ 1 → bit (cond t (bit_or acc (2 ^ r)) acc) j ≡ 1
put_keeps true acc r j e = (or_has acc (2 ^ r) j).1 (inl e)
put_keeps false acc r j e = e

put_only : (t : Bool) (acc r j : ℕ) → bit (cond t (bit_or acc (2 ^ r)) acc) j ≡ 1 → (bit acc j ≡ 1) ⊎ (r ≡ j)
put_only true acc r j e = ⊎_elim (λ l. inl l) (λ h. inr ((pow_has r j).0 h)) ((or_has acc (2 ^ r) j).0 e)
put_only false acc r j e = inl e

put_takes : (t : Bool) (acc r : ℕ) → t ≡ true → bit (cond t (bit_or acc (2 ^ r)) acc) r ≡ 1
put_takes true acc r e = (or_has acc (2 ^ r) r).1 (inr ((pow_has r r).1 refl))
put_takes false acc r e = let z : ◌≡◌ {A = ℕ} 0 1 = cc in absurd (omega arith)

module _ (G : Net) (pre : ℕ → ℕ) where
  tops_keep : (k from acc r : ℕ) → bit acc r ≡ 1 → bit (through (top_step G pre) (count from k) acc) r ≡ 1
  unfolding through count top_step
  tops_keep zero from acc r e = e
  tops_keep (suc k) from acc r e = tops_keep k (suc from) (top_step G pre from acc) r (put_keeps (two (bit_and (nbrs G from) (pre from))) acc from r e)

  tops_take : (k from acc r : ℕ) → from ≤ r → r < from + k → two (bit_and (nbrs G r) (pre r)) ≡ true → bit (through (top_step G pre) (count from k) acc) r ≡ 1
  unfolding through count top_step
  tops_take zero from acc r l h e = absurd (omega arith)
  tops_take (suc k) from acc r l h e =
      ⊎_elim (λ (i : from < r). tops_take k (suc from) (top_step G pre from acc) r i (omega arith) e)
      (λ (i : r ≤ from). let q : r ≡ from = omega arith in tops_keep k (suc from) (top_step G pre from acc) r (took q)) (lt_or_ge from r)
    where
      took : r ≡ from → bit (top_step G pre from acc) r ≡ 1
      took q = rw q (put_takes (two (bit_and (nbrs G from) (pre from))) acc from (rw q at e))

  tops_only : (k from acc r : ℕ) → bit (through (top_step G pre) (count from k) acc) r ≡ 1 → (bit acc r ≡ 1) ⊎ (r < from + k)
  unfolding through count top_step
  tops_only zero from acc r e = inl e
  tops_only (suc k) from acc r e =
      ⊎_elim (λ (l : bit (top_step G pre from acc) r ≡ 1).
      ⊎_elim (λ l. inl l) (λ (i : from ≡ r). inr (omega arith)) (put_only (two (bit_and (nbrs G from) (pre from))) acc from r l))
      (λ (i : r < suc from + k). inr (omega arith)) (tops_only k (suc from) (top_step G pre from acc) r e)

  -- An atom with two neighbours that precede it is a top atom.
  pub top_of_two : (r : ℕ) → r < G.n → two (bit_and (nbrs G r) (pre r)) ≡ true → bit (tops G pre) r ≡ 1
  unfolding tops
  top_of_two r h e = tops_take G.n 0 0 r (omega arith) (omega arith) e

  -- A top atom is an atom.
  pub top_small : (r : ℕ) → bit (tops G pre) r ≡ 1 → r < G.n
  unfolding tops
  top_small r e = ⊎_elim (λ (z : bit 0 r ≡ 1). absurd (omega (arith, zero_bit r))) (λ (h : r < 0 + G.n). omega arith) (tops_only G.n 0 0 r e)
