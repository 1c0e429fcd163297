-- The marked prototypes are a minimum basis, and the relevant rings are the rings of the minimum bases.
use mathlib.Core.Path.{◌≡◌, refl, sym, ◌∙◌, subst}
use mathlib.Core.List.{List, [], ◌∷◌, map}
use mathlib.Core.Logic.{◌⊎◌, inl, inr}
use Prim.Native.Nat.{ℕ, ◌+◌, ◌<◌, ◌≤◌}
use native.Mathlib.Omega.{arith}
use lib.Bits.{bit_xor}
use lib.ListN.{length}
use Rattle.spans.specs.Elements.{◌∈◌}
use Rattle.spans.specs.Basis.{Part, All, Sum, Independent}
use Rattle.spans.specs.Graded.{total, below}
use Rattle.spans.proofs.Lists.{all_map}
use Rattle.spans.proofs.Span.{Span, at, span_dec, to_part, from_part}
use Rattle.spans.proofs.Indep.{Indep}
use Rattle.spans.proofs.Graded.{below_indep}
use Rattle.spans.proofs.Short as Short
use Rattle.spans.proofs.Short.{Short, SpansShort, relevant_not_span, not_span_relevant, minimum_spans_short}
use Rattle.spans.proofs.Short.{relevant_in_minimum, in_minimum_relevant, minimum_relevant}
use Rattle.spans.proofs.Marking.{Marking, Rising, Complete, marking_minimum, full_stops}
use Rattle.bondset.proofs.Group.{bond_sets}
use Rattle.cycles.specs.Compound.{Compound, m, Sound, OnePiece, cyclomatic}
use Rattle.cycles.specs.Ring.{len, Closed, Ring, Relevant}
use Rattle.cycles.specs.Basis.{Basis, Minimum}
use Rattle.cycles.specs.Family.{Family, Prototype, Member, Kept}
use Rattle.cycles.specs.Rows.{Row, Report, Right, Ascending, Less, Marks, SumOf}
use Rattle.cycles.proofs.Shorter.{Shorter, shorter_zero, shorter_add, closed_shorter, ring_or_shorter, relevant_not_shorter, not_shorter_relevant}
use Rattle.cycles.proofs.Families.{prototype_member, prototype_unique, member_differ_shorter}
use Rattle.cycles.proofs.Members.{relevant_in_family}
use Rattle.cycles.proofs.Dimension.{Rooted, pieces, closed_basis, dimension, dimension_one_piece}
use Rattle.cycles.proofs.Exists.{closed_dec, minimum_exists}

module _ (c : Compound) where
  -- A sum of rings shorter than k is a sum of closed sets shorter than k.
  pub shorter_short : {k S : ℕ} → Shorter c k S → Short bond_sets (len c) (Closed c) k S
  shorter_short s = record { parts = s.rings; short = all_map (λ R p. (p.0.closed, p.1)) s.short; sum = s.sum }

module _ (c : Compound) (sound : Sound c) where
  sum_shorter : {k : ℕ} {parts : List ℕ} → All (λ S. Closed c S × (len c S < k)) parts → Shorter c k (Sum bond_sets parts)
  unfolding Sum bond_sets
  sum_shorter {k} All.nil = shorter_zero c k
  sum_shorter (All.cons a r) = shorter_add c (closed_shorter c sound a.0 a.1) (sum_shorter r)

  -- A sum of closed sets shorter than k is a sum of rings shorter than k.
  pub short_shorter : {k S : ℕ} → Short bond_sets (len c) (Closed c) k S → Shorter c k S
  short_shorter {k} s = subst (Shorter c k) s.sum (sum_shorter s.short)

  -- A relevant ring is no sum of shorter closed sets.
  pub relevant_no_sum : {C : ℕ} → Relevant c C → Short.Relevant bond_sets (len c) (Closed c) C
  relevant_no_sum r = record { inside = r.ring.closed; alone = λ s. relevant_not_shorter c r (short_shorter s) }

  -- A closed set that is no sum of shorter closed sets is a relevant ring.
  pub no_sum_relevant : {C : ℕ} → Short.Relevant bond_sets (len c) (Closed c) C → Relevant c C
  no_sum_relevant {C} r = go (ring_or_shorter c sound r.inside)
    where
      go : Ring c C ⊎ Shorter c (len c C) C → Relevant c C
      go (inl ring) = not_shorter_relevant c ring (λ s. r.alone (shorter_short c s))
      go (inr s) = absurd (r.alone (shorter_short c s))

  -- A relevant ring is in some minimum basis.
  pub relevant_in_some_minimum : {C : ℕ} → Relevant c C → (R : List ℕ) × Minimum c (C ∷ R)
  relevant_in_some_minimum r = let (B, m) = minimum_exists c sound in relevant_in_minimum bond_sets (len c) (Closed c) m (relevant_no_sum r)

  -- What is in some minimum basis is a relevant ring.
  pub in_some_minimum_relevant : {C : ℕ} {R : List ℕ} → Minimum c (C ∷ R) → Relevant c C
  in_some_minimum_relevant m = no_sum_relevant (in_minimum_relevant bond_sets (len c) (Closed c) m)

  -- All members of a minimum basis are relevant rings.
  pub minimum_members_relevant : {B : List ℕ} → Minimum c B → All (Relevant c) B
  minimum_members_relevant m = all_map (λ C r. no_sum_relevant r) (minimum_relevant bond_sets (len c) (Closed c) m)

  decide_relevant : {B : List ℕ} {C : ℕ} → Minimum c B → Dec (Closed c C) → Dec (Span bond_sets (below (len c) (len c C) B) C) → Dec (Relevant c C)
  decide_relevant m (no n) d = no λ r. n r.ring.closed
  decide_relevant {C} m (yes w) (yes t) =
      no λ r. relevant_not_span bond_sets (len c) (Closed c) (minimum_spans_short bond_sets (len c) (Closed c) m (len c C)) refl (relevant_no_sum r) t
  decide_relevant {C} m (yes w) (no n) =
      yes (no_sum_relevant (not_span_relevant bond_sets (len c) (Closed c) (minimum_spans_short bond_sets (len c) (Closed c) m (len c C)) w refl n))

  -- Whether a bond set is a relevant ring is decided.
  pub relevant_dec : (C : ℕ) → Dec (Relevant c C)
  relevant_dec C =
      let (B, m) = minimum_exists c sound in
      decide_relevant m (closed_dec c sound C) (span_dec bond_sets (below (len c) (len c C) B) C)

  -- Once the closed sets shorter than k have as many independent members as the cyclomatic number says, no relevant ring has length k or more.
  pub full_no_longer : {k C : ℕ} {S : List ℕ} → OnePiece c → 0 < c.n → Indep bond_sets S → SpansShort bond_sets (len c) (Closed c) k S
      → length S ≡ cyclomatic c → Relevant c C → len c C < k
  full_no_longer piece some i h e r =
      let (B, b) = closed_basis c sound in
      full_stops bond_sets (len c) (Closed c) i h b (e ∙ sym (dimension_one_piece c sound piece some B b)) (relevant_no_sum r)

-- The first numbers of keys in order are in order.
pub less_first : {a b : ℕ} {xs ys : List ℕ} → Less (a ∷ xs) (b ∷ ys) → a ≤ b
less_first (Less.here h) = omega arith
less_first (Less.later l) = omega arith

-- Families that come later are no shorter.
pub ascending_long : {f : Family} {fs : List Family} → Ascending (f ∷ fs) → All (λ g. f.long ≤ g.long) fs
ascending_long Ascending.one = All.nil
ascending_long (Ascending.more l a) = let h = less_first l in All.cons h (all_map (λ g q. omega arith) (ascending_long a))

-- Without the first one the others are in order.
pub ascending_rest : {f : Family} {fs : List Family} → Ascending (f ∷ fs) → Ascending fs
ascending_rest Ascending.one = Ascending.none
ascending_rest (Ascending.more l a) = a

module _ (c : Compound) (rank : ℕ → ℕ) where
  -- The prototype of each row, in order.
  data Prototypes : List Row → List ℕ → Type 0 where
    none : Prototypes [] []
    more : {row : Row} {rows : List Row} {S : ℕ} {Ss : List ℕ} → Prototype c rank row.family S → Prototypes rows Ss
        → Prototypes (row ∷ rows) (S ∷ Ss)

  record Marked (before : List ℕ) (rows : List Row) (after : List ℕ) : Type 0 where
    prototypes : List ℕ
    theirs : Prototypes rows prototypes
    marking : Marking bond_sets before prototypes after

  marks_marking : {before after : List ℕ} {rows : List Row} → Marks c rank before rows after → Marked before rows after
  marks_marking Marks.end = record { prototypes = []; theirs = Prototypes.none; marking = Marking.end }
  marks_marking (Marks.marked {S = S} p n e m) =
      let r = marks_marking m in
      record {
        prototypes = S ∷ r.prototypes;
        theirs = Prototypes.more p r.theirs;
        marking = Marking.mark (λ s. n (to_part bond_sets s)) r.marking;
      }
  marks_marking (Marks.unmarked {S = S} p (part, q, d) e m) =
      let r = marks_marking m in
      record {
        prototypes = S ∷ r.prototypes;
        theirs = Prototypes.more p r.theirs;
        marking = Marking.skip (at bond_sets d (from_part bond_sets q)) r.marking;
      }

  sum_of_none : {S : ℕ} → SumOf c rank [] S → S ≡ 0
  unfolding Sum bond_sets
  sum_of_none (part, Part.nil, e) = sym e

  prototype_listed : {f : Family} {rows : List Row} {Ss : List ℕ} → Prototypes rows Ss → f ∈ map (λ row. row.family) rows
      → (S : ℕ) × (S ∈ Ss) × Prototype c rank f S
  prototype_listed none i = elim i [ ]
  prototype_listed (Prototypes.more {S = S} p ps) ◌∈◌.first = (S, ◌∈◌.first, p)
  prototype_listed (Prototypes.more p ps) (◌∈◌.later i) = let (S, j, q) = prototype_listed ps i in (S, ◌∈◌.later j, q)

module _ (c : Compound) (sound : Sound c) (rank : ℕ → ℕ) where
  -- A prototype is as long as its family says.
  pub prototype_long : {f : Family} {S : ℕ} → Prototype c rank f S → len c S ≡ f.long
  prototype_long p = (prototype_member c sound rank p).long

  -- The prototype of a kept family is relevant.
  pub kept_prototype_relevant : {f : Family} {S : ℕ} → Kept c rank f → Prototype c rank f S → Relevant c S
  kept_prototype_relevant k p = subst (Relevant c) (prototype_unique c sound rank k.prototype p) k.relevant

  -- A member of a family and its prototype differ by shorter closed sets.
  pub member_near_prototype : {f : Family} {C S : ℕ} → Member c rank f C → Prototype c rank f S
      → Short bond_sets (len c) (Closed c) (len c C) (bit_xor C S)
  member_near_prototype {f} {C} {S} t p =
      subst (λ (k : ℕ). Short bond_sets (len c) (Closed c) k (bit_xor C S)) (sym t.long) (shorter_short c (member_differ_shorter c sound rank t p))

  prototypes_relevant : {rows : List Row} {Ss : List ℕ} → Prototypes c rank rows Ss
      → ((f : Family) → f ∈ map (λ row. row.family) rows → Kept c rank f) → All (Short.Relevant bond_sets (len c) (Closed c)) Ss
  prototypes_relevant Prototypes.none k = All.nil
  prototypes_relevant (Prototypes.more p ps) k =
      All.cons (relevant_no_sum c sound (kept_prototype_relevant (k _ ◌∈◌.first) p)) (prototypes_relevant ps (λ f i. k f (◌∈◌.later i)))

  prototypes_longer : {k : ℕ} {rows : List Row} {Ss : List ℕ} → Prototypes c rank rows Ss → All (λ f. k ≤ f.long) (map (λ row. row.family) rows)
      → All (λ S. k ≤ len c S) Ss
  prototypes_longer Prototypes.none All.nil = All.nil
  prototypes_longer {k} (Prototypes.more {S = S} p ps) (All.cons h r) =
      let l : k ≤ len c S = omega (arith, prototype_long p) in All.cons l (prototypes_longer ps r)

  prototypes_rising : {rows : List Row} {Ss : List ℕ} → Prototypes c rank rows Ss → Ascending (map (λ row. row.family) rows) → Rising (len c) Ss
  prototypes_rising Prototypes.none a = Rising.nil
  prototypes_rising (Prototypes.more {S = S} {Ss = Ss} p ps) a =
      let h : All (λ T. len c S ≤ len c T) Ss = all_map (λ T l. omega (arith, prototype_long p)) (prototypes_longer ps (ascending_long a)) in
      Rising.cons h (prototypes_rising ps (ascending_rest a))

  module _ (injective : (a b : ℕ) → a < c.n → b < c.n → rank a ≡ rank b → a ≡ b) where
    prototypes_complete : {rows : List Row} {Ss : List ℕ} → Prototypes c rank rows Ss
        → ((f : Family) → Kept c rank f → f ∈ map (λ row. row.family) rows) → Complete bond_sets (len c) (Closed c) Ss
    unfolding bond_sets
    prototypes_complete ps k =
        record {
          prototype = λ C r.
              let t = relevant_in_family c sound rank injective (no_sum_relevant c sound r) in
              let (S, i, p) = prototype_listed c rank ps (k t.family t.kept) in
              record {
                one = S;
                listed = i;
                same = prototype_long p ∙ sym t.member.long;
                near = member_near_prototype t.member p;
              };
        }

    module _ {R : Report} (right : Right c rank R) where
      -- "In that order a prototype is marked for the basis if it is no sum of prototypes marked before it": the marked prototypes are a minimum basis.
      pub marked_minimum : Minimum c right.basis
      marked_minimum =
          let m = marks_marking c rank right.marks in
          marking_minimum bond_sets (len c) (Closed c) (prototypes_complete m.theirs (λ f k. (right.kept f).1 k))
          (prototypes_rising m.theirs right.ordered) (prototypes_relevant m.theirs (λ f i. (right.kept f).0 i)) m.marking

      -- "No non-empty part sums to the empty set."
      pub marked_independent : Independent bond_sets right.basis
      marked_independent = marked_minimum.basis.independent

      -- "Whose sums give every closed set."
      pub marked_spans : (S : ℕ) → Closed c S → SumOf c rank right.basis S
      marked_spans = marked_minimum.basis.spans.part

      -- "An empty basis meets demand 3 only where the compound has no ring."
      pub marked_none_no_ring : {C : ℕ} → right.basis ≡ [] → Ring c C → ⊥
      marked_none_no_ring {C} e r =
          let d = sum_of_none c rank (subst (λ (B : List ℕ). SumOf c rank B C) e (marked_spans C r.closed)) in omega (arith, r.some)

      -- "Its total length is the least of all."
      pub marked_least : (C : List ℕ) → Basis c C → total (len c) right.basis ≤ total (len c) C
      marked_least = marked_minimum.least

      -- The marked prototypes are relevant rings.
      pub marked_relevant : All (Relevant c) right.basis
      marked_relevant = minimum_members_relevant c sound marked_minimum

      -- There are m - n and the number of pieces marked prototypes.
      pub marked_count_pieces : (root : ℕ → ℕ) → Rooted c root → length right.basis + c.n ≡ m c + pieces c root
      marked_count_pieces root rooted = dimension c sound root rooted right.basis marked_minimum.basis

      -- In one piece, as many as the cyclomatic number says.
      pub marked_count : OnePiece c → 0 < c.n → length right.basis ≡ cyclomatic c
      marked_count piece some = dimension_one_piece c sound piece some right.basis marked_minimum.basis

      -- Once so many prototypes shorter than k are marked, no relevant ring has length k or more.
      pub marked_full_no_longer : (root : ℕ → ℕ) → Rooted c root → {k C : ℕ} → length (below (len c) k right.basis) + c.n ≡ m c + pieces c root
          → Relevant c C → len c C < k
      marked_full_no_longer root rooted {k} e r =
          let b = marked_minimum.basis in
          full_stops bond_sets (len c) (Closed c) (below_indep bond_sets (len c) (Closed c) b k) (minimum_spans_short bond_sets (len c) (Closed c) marked_minimum k)
          b (omega (arith, e, marked_count_pieces root rooted)) (relevant_no_sum c sound r)

      -- The total length answered is that of every minimum basis.
      pub marked_total : {B : List ℕ} → Minimum c B → R.total ≡ total (len c) B
      marked_total {B} m = omega (arith, right.total_is, marked_minimum.least B m.basis, m.least right.basis marked_minimum.basis)
