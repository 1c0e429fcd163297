use Rattle.std.proofs.Common.{◌≡◌, ◌<◌, ◌≤◌, Bool, true, get_or, refl, sym, ◌∙◌, arith, rules, tests}
use Prim.Native.Nat.{ℕ, zero, suc, ◌^◌}
use mathlib.Core.Logic.{⊎_elim}
use lib.Dec.{eqb}
use borrow.Author.Tests.{eqb-true}
use Rattle.std.specs.List.{list_all}
use Rattle.std.proofs.lemmas.Bool.{and_parts}
use Rattle.std.proofs.lemmas.List.Folds.{list_all-append}
use Rattle.std.proofs.lemmas.Iterator.Search.{all_from_yields_List}
use Rattle.std.proofs.lemmas.Iterator.Consumers.{YieldsList-from_first}
use Rattle.bondset.specs.declared.BondSet.{BondSet}
use Rattle.bondset.specs.declared.word_sets.Each.{Each}
use Rattle.bondset.specs.Sets.{bit, if_set, value, members}
use Rattle.bondset.proofs.Laws.{lt_or_ge, words_lt}
use Rattle.model.proofs.NetBits.{lt_of_has}
use Rattle.labels.proofs.alike.Goals as goal

-- What all members pass each passes.
passes : (test : ℕ → Bool) (n s : ℕ) → list_all test (members n s) ≡ true → (k : ℕ) → k < n → bit s k ≡ 1 → test k ≡ true
unfolding members
passes test zero s e k h b = absurd (omega arith)
passes test (suc n) s e k h b =
    let both = and_parts _ _ (sym (list_all-append test (members n s) (if_set (bit s n) n)) ∙ e) in
    ⊎_elim (λ (l : k < n). passes test n s both.0 k l b) (λ (l : n ≤ k). let q : k ≡ n = omega arith in rw q (last (bit s n) (rw q at b) both.1)) (lt_or_ge k n)
  where
    last : (d : ℕ) → d ≡ 1 → list_all test (if_set d n) ≡ true → test n ≡ true
    last zero q a = absurd (omega arith)
    last (suc d) q a = (and_parts (test n) true a).0

pub returns : goal.returns
returns c e i j p q =
    let t = c.args.t in
    let labels = c.args.labels.now in
    let small : value t < 2 ^ 128 = words_lt 64 t.hi t.lo (omega arith) (omega arith) in
    let test : ℕ → Bool = λ k. eqb (get_or labels k 0) c.byte_at-first.result in
    let all : c.all.result ≡ list_all test (members 128 (value t)) =
    all_from_yields_List test _ _ c.all.result c.all.ensures.ran
    (YieldsList-from_first (λ (k : ℕ). k) (λ (s : Each BondSet). members 128 (value s.rest)) (members 128 (value t)) (rw c.into_iter.ensures.into_iter_gives refl))
    (λ x b f k. search (rules, tests)) in
    let same : (k : ℕ) → bit (value t) k ≡ 1 → get_or labels k 0 ≡ c.byte_at-first.result =
    λ k b. eqb-true _ _ (passes test 128 (value t) (sym all ∙ e) k (lt_of_has 128 (value t) k small b) b) in
    same i p ∙ sym (same j q)
