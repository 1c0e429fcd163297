-- Kept families have at least 3 and at most n bonds, so nothing is to be spanned before length 3.
use mathlib.Core.Path.{◌≡◌, sym, subst}
use mathlib.Core.List.{List, [], ◌∷◌}
use mathlib.Core.Logic.{◌≢◌}
use Prim.Native.Nat.{ℕ, zero, suc, ◌<◌, ◌≤◌}
use native.Mathlib.Omega.{arith}
use lib.ListN.{length, get_or}
use Rattle.spans.specs.Elements.{◌∈◌, Once}
use Rattle.spans.specs.Basis.{All}
use Rattle.spans.proofs.Marking.{all_element, spans_short_zero, next_spans_short}
use Rattle.spans.proofs.Short.{SpansShort}
use Rattle.bondset.proofs.Group.{bond_sets}
use Rattle.cycles.specs.Compound.{Compound, Sound}
use Rattle.cycles.specs.Ring.{len, Closed, Relevant, Edges}
use Rattle.cycles.specs.Family.{Family, Kept}
use Rattle.cycles.proofs.Arcs.{Around, around}
use Rattle.cycles.proofs.Bases.{prototype_long, no_sum_relevant}
use Rattle.cycles.proofs.Families.{apart_ring, prototype_made}
use Rattle.cycles.proofs.Few.{pigeonhole}
use Rattle.cycles.proofs.Members.{relevant_in_family}
use Rattle.cycles.proofs.PathsDecide.{joins_sym}
use Rattle.cycles.proofs.PathsDown.{down_first}

get_or_in : (xs : List ℕ) (i : ℕ) → i < length xs → get_or xs i 0 ∈ xs
get_or_in [] i h = absurd (omega arith)
get_or_in (x ∷ xs) zero h = ◌∈◌.first
get_or_in (x ∷ xs) (suc i) h = ◌∈◌.later (get_or_in xs i (omega arith))

once_differ : {xs : List ℕ} → Once xs → (i j : ℕ) → i < length xs → j < i → get_or xs j 0 ≢ get_or xs i 0
once_differ Once.none i j h l e = omega arith
once_differ (Once.more n o) zero j h l e = omega arith
once_differ (Once.more {xs = xs} n o) (suc i) zero h l e = n (subst (λ (y : ℕ). y ∈ xs) (sym e) (get_or_in xs i (omega arith)))
once_differ (Once.more n o) (suc i) (suc j) h l e = once_differ o i j (omega arith) (omega arith) e

module _ (c : Compound) (sound : Sound c) where
  edges_atoms : {a S : ℕ} {path : List ℕ} → Edges c (a ∷ path) S → a < c.n → All (λ b. b < c.n) (a ∷ path)
  edges_atoms Edges.point h = All.cons h All.nil
  edges_atoms (Edges.more {k = k} j e t) h = All.cons h (edges_atoms e (sound.named k _ _ (joins_sym c j)))

  once_few : {xs : List ℕ} → Once xs → All (λ a. a < c.n) xs → length xs ≤ c.n
  once_few {xs} o a = pigeonhole (λ i. get_or xs i 0) c.n (length xs) (λ i h. all_element a (get_or_in xs i h)) (once_differ o)

  around_few : {C r : ℕ} → Around c sound C r → (3 ≤ len c C) × (len c C ≤ c.n)
  around_few {r = r} a =
      let few = once_few a.once (edges_atoms a.edges (sound.named a.closing r _ (joins_sym c a.closes))) in
      (omega (arith, a.long, a.three), omega (arith, a.long))

  module _ (rank : ℕ → ℕ) where
    -- A kept family has at least 3 bonds and at most as many as there are atoms.
    pub kept_long : {f : Family} → Kept c rank f → (3 ≤ f.long) × (f.long ≤ c.n)
    kept_long {f} k =
        let p = k.prototype in
        let made = prototype_made c sound rank p in
        let (low, high) = around_few (around c sound k.relevant ((apart_ring c sound rank made p.apart).has_P f.p (down_first c rank made.down_p))) in
        (omega (arith, prototype_long c sound rank p), omega (arith, prototype_long c sound rank p))

    module _ (injective : (a b : ℕ) → a < c.n → b < c.n → rank a ≡ rank b → a ≡ b) where
      relevant_three : {C : ℕ} → Relevant c C → 3 ≤ len c C
      relevant_three r = let t = relevant_in_family c sound rank injective r in omega (arith, t.member.long, (kept_long t.kept).0)

      -- No closed set shorter than 3 has to be spanned.
      pub none_spans_three : (k : ℕ) → k ≤ 3 → SpansShort bond_sets (len c) (Closed c) k []
      none_spans_three zero h = spans_short_zero bond_sets (len c) (Closed c) [] All.nil
      none_spans_three (suc k) h =
          next_spans_short bond_sets (len c) (Closed c) (none_spans_three k (omega arith)) All.nil All.nil
          (λ C r e. absurd (omega (arith, relevant_three (no_sum_relevant c sound r))))
