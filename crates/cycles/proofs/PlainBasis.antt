-- What the plain method chooses is a minimum basis, and there is one such choice.
use mathlib.Core.Path.{◌≡◌, refl, subst}
use mathlib.Core.List.{List, [], ◌∷◌, map}
use Prim.Native.Nat.{ℕ, ◌<◌, ◌≤◌, ◌+◌}
use native.Mathlib.Omega.{arith}
use lib.ListN.{length}
use Rattle.spans.specs.Elements.{◌∈◌}
use Rattle.spans.specs.Basis.{All}
use Rattle.spans.proofs.Lists.{all_map, all_and}
use Rattle.spans.proofs.Span.{at, to_part, from_part}
use Rattle.spans.proofs.Marking.{Marking, Rising, Covering, covering_minimum}
use Rattle.bondset.proofs.Group.{bond_sets}
use Rattle.cycles.specs.Compound.{Compound, m, Sound, OnePiece, cyclomatic}
use Rattle.cycles.specs.Ring.{len, Closed, Ring, Relevant}
use Rattle.cycles.specs.Basis.{Minimum}
use Rattle.cycles.specs.Rows.{Less}
use Rattle.cycles.specs.Plain.{Entry, place, Sorted, Greedy, PlainRing, PlainRings, Plain}
use Rattle.cycles.proofs.Dimension.{Rooted, pieces, dimension, dimension_one_piece}
use Rattle.cycles.proofs.Bases.{less_first, no_sum_relevant, minimum_members_relevant}
use Rattle.cycles.proofs.Ranks.{in_map, all_each}
use Rattle.cycles.proofs.Unique.{less_trans, Ordered, ordered_unique}
use Rattle.cycles.proofs.PlainCover.{relevant_reached}

-- ---- the list
sorted_less : {e : Entry} {es : List Entry} → Sorted (e ∷ es) → All (λ f. Less (place e) (place f)) es
sorted_less Sorted.one = All.nil
sorted_less (Sorted.more l s) = All.cons l (all_map (λ f h. less_trans l h) (sorted_less s))

sorted_ordered : {es : List Entry} → Sorted es → Ordered place es
sorted_ordered Sorted.none = Ordered.nil
sorted_ordered Sorted.one = Ordered.cons All.nil Ordered.nil
sorted_ordered (Sorted.more {e = e} {f = f} l s) = Ordered.cons (sorted_less (Sorted.more {e = e} {f = f} l s)) (sorted_ordered s)

-- The bond sets of the entries.
abbrev pub sets : List Entry → List ℕ
sets es = map (λ e. e.set) es

-- What holds of the sets of all entries.
pub all_sets : {P : ℕ → Type 0} {es : List Entry} → All (λ e. P e.set) es → All P (sets es)
all_sets All.nil = All.nil
all_sets (All.cons a r) = All.cons a (all_sets r)

-- ---- the choice
-- The choice is a marking of the listed sets.
pub greedy_marking : {before after : List ℕ} {es : List Entry} → Greedy before es after → Marking bond_sets before (sets es) after
greedy_marking Greedy.end = Marking.end
greedy_marking (Greedy.choose n g) = Marking.mark (λ s. n (to_part bond_sets s)) (greedy_marking g)
greedy_marking (Greedy.pass (part, p, e) g) = Marking.skip (at bond_sets e (from_part bond_sets p)) (greedy_marking g)

-- From one list one choice is made.
pub greedy_unique : {before after after' : List ℕ} {es : List Entry} → Greedy before es after → Greedy before es after' → after ≡ after'
greedy_unique Greedy.end Greedy.end = refl
greedy_unique (Greedy.choose n g) (Greedy.choose k h) = greedy_unique g h
greedy_unique (Greedy.choose n g) (Greedy.pass s h) = absurd (n s)
greedy_unique (Greedy.pass s g) (Greedy.choose n h) = absurd (n s)
greedy_unique (Greedy.pass s g) (Greedy.pass t h) = greedy_unique g h

module _ (c : Compound) where
  -- There is one list of the rings of the method.
  pub plain_rings_unique : {list list' : List Entry} → PlainRings c list → PlainRings c list' → list ≡ list'
  plain_rings_unique p q =
      ordered_unique place (sorted_ordered p.sorted) (sorted_ordered q.sorted) (λ e i. (q.all e).1 ((p.all e).0 i))
      (λ e i. (p.all e).1 ((q.all e).0 i))

  -- The plain method leaves one choice.
  pub plain_unique : {chosen chosen' : List ℕ} → Plain c chosen → Plain c chosen' → chosen ≡ chosen'
  plain_unique {chosen} p q =
      greedy_unique (subst (λ (es : List Entry). Greedy [] es chosen) (plain_rings_unique p.rings q.rings) p.greedy) q.greedy

  module _ {list : List Entry} (rings : PlainRings c list) where
    each_ring : All (λ e. Ring c e.set × (e.long ≡ len c e.set)) list
    each_ring = all_each list (λ e i. let w = (rings.all e).0 i in (w.0.ring, w.1))

    -- Every ring of the method is listed.
    pub plain_listed : (v j S : ℕ) → PlainRing c v j S → S ∈ sets list
    plain_listed v j S ring =
        in_map (λ e. e.set) ((rings.all (record { long = len c S; atom = v; bond = j; set = S })).1 (ring, refl))

  ordered_rising : {es : List Entry} → Ordered place es → All (λ e. e.long ≡ len c e.set) es → Rising (len c) (sets es)
  ordered_rising Ordered.nil a = Rising.nil
  ordered_rising (Ordered.cons {x = e} h o) (All.cons l r) =
      Rising.cons (all_sets {P = λ S. len c e.set ≤ len c S} (all_map (λ f p. omega (arith, less_first p.0, l, p.1)) (all_and h r)))
      (ordered_rising o r)

module _ (c : Compound) (sound : Sound c) where
  plain_covering : {list : List Entry} → PlainRings c list → Covering bond_sets (len c) (Closed c) (sets list)
  plain_covering {list} rings =
      record { covered = λ C r. relevant_reached c sound (sets list) (plain_listed c rings) (no_sum_relevant c sound r) }

  module _ {chosen : List ℕ} (plain : Plain c chosen) where
    -- What the plain method chooses is a minimum basis.
    pub plain_minimum : Minimum c chosen
    plain_minimum =
        let rings = plain.rings in
        covering_minimum bond_sets (len c) (Closed c) (plain_covering rings)
        (ordered_rising c (sorted_ordered rings.sorted) (all_map (λ e p. p.1) (each_ring c rings)))
        (all_sets {P = Closed c} (all_map (λ e p. p.0.closed) (each_ring c rings))) (greedy_marking plain.greedy)

    -- It chooses relevant rings.
    pub plain_relevant : All (Relevant c) chosen
    plain_relevant = minimum_members_relevant c sound plain_minimum

    -- There are m - n and the number of pieces of them.
    pub plain_count_pieces : (root : ℕ → ℕ) → Rooted c root → length chosen + c.n ≡ m c + pieces c root
    plain_count_pieces root rooted = dimension c sound root rooted chosen plain_minimum.basis

    -- In one piece, as many as the cyclomatic number says.
    pub plain_count : OnePiece c → 0 < c.n → length chosen ≡ cyclomatic c
    plain_count piece some = dimension_one_piece c sound piece some chosen plain_minimum.basis
