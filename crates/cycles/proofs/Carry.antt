-- The compound as a graph whose bond sets are functions: bonds, degrees, lengths, closed sets and rings are the same there.
use mathlib.Core.Path.{◌≡◌, refl, sym, ap, ap₂, ◌∙◌}
use mathlib.Core.Bool.{Bool, true, false, cond, ◌&&◌, ◌||◌}
use mathlib.Core.Logic.{inl, inr, ⊎_elim}
use Prim.Native.Nat.{ℕ, zero, suc, ◌+◌, ◌*◌, ◌^◌, ◌<◌}
use native.Mathlib.Omega.{arith}
use lib.Pow.{pow_pos}
use lib.Bits.{bit_xor}
use Rattle.bondset.specs.Sets.{bit, length_to}
use Rattle.bondset.proofs.Laws.{cases2, bit_lt, lt_or_ge}
use Rattle.graphs.specs.Count.{xor, same, val, cnt, flip}
use Rattle.graphs.specs.Graph.{Graph, Simple, deg, Joins as JoinsIn, Closed as ClosedIn}
use Rattle.graphs.specs.Ring.{Joined, Ring as RingIn}
use Rattle.graphs.specs.Walk.{Steps, end, go, last, IsWalk, Within}
use Rattle.graphs.proofs.Basics.{not_true, same_is, same_ne, same_eq}
use Rattle.graphs.proofs.Count.{cnt_pos, cnt_none}
use Rattle.graphs.proofs.Cycle.{joined_refl, joined_step}
use Rattle.graphs.proofs.Graph.{degree_is, closed_even, even_closed}
use Rattle.cycles.proofs.Number.{holds, holds_is, holds_xor, holds_zero, holds_pow, holds_ext}
use Rattle.cycles.specs.Compound.{Compound, m, one, other, Joins, given, turned, Sound}
use Rattle.cycles.specs.Ring.{len, degree_to, degree, Closed, Along, here, step, Ring}

-- ---- digits
-- Bond k is in S where digit k is 1.
pub holds_true : (S k : ℕ) → bit S k ≡ 1 → holds S k ≡ true
holds_true S k e = holds_is S k ∙ same_is (bit S k) 1 e

-- Digit k is 1 where bond k is in S.
pub bit_one : (S k : ℕ) → holds S k ≡ true → bit S k ≡ 1
bit_one S k e = same_eq (bit S k) 1 (sym (holds_is S k) ∙ e)

-- Bond k added to S.
pub holds_flip : (k S i : ℕ) → holds (bit_xor (2 ^ k) S) i ≡ flip k (holds S) i
holds_flip k S i = holds_xor (2 ^ k) S i ∙ ap (λ (x : Bool). xor x (holds S i)) (holds_pow k i)

val_bit : (x : ℕ) (b : Bool) → x < 2 → x * cond b 1 0 ≡ val (same x 1 && b)
val_bit x b h =
    cases2 (λ (x : ℕ). x * cond b 1 0 ≡ val (same x 1 && b))
    (rw (same_ne 0 1 (omega arith)) (omega arith))
    (rw (same_is 1 1 refl) (go b)) x h
  where
    go : (b : Bool) → 1 * cond b 1 0 ≡ val b
    go true = refl
    go false = refl

val_digit : (x : ℕ) → x < 2 → x ≡ val (same x 1)
val_digit x h = cases2 (λ (x : ℕ). x ≡ val (same x 1)) (rw (same_ne 0 1 (omega arith))) (rw (same_is 1 1 refl)) x h

-- The length below n is the number of bonds below n.
pub length_to_cnt : (n S : ℕ) → length_to n S ≡ cnt (holds S) n
unfolding length_to cnt
length_to_cnt zero S = refl
length_to_cnt (suc n) S = ap₂ ◌+◌ (val_digit (bit S n) (bit_lt S n) ∙ ap val (sym (holds_is S n))) (length_to_cnt n S)

module _ (c : Compound) where
  -- The compound as a graph.
  abbrev pub graph_of : Graph
  graph_of = record { n = c.n; m = m c; src = one c; tgt = other c }

  -- A bond that joins two atoms joins them in the graph.
  pub joins_graph : {k a b : ℕ} → Joins c k a b → (k < m c) × JoinsIn graph_of k a b
  joins_graph (given l p q) = (l, inl (p, q))
  joins_graph (turned l p q) = (l, inr (q, p))

  -- A bond that joins two atoms in the graph joins them.
  pub graph_joins : {k a b : ℕ} → k < m c → JoinsIn graph_of k a b → Joins c k a b
  graph_joins l (inl e) = given l e.0 e.1
  graph_joins l (inr e) = turned l e.1 e.0

  -- The length is the number of bonds.
  pub len_cnt : (S : ℕ) → len c S ≡ cnt (holds S) (m c)
  len_cnt S = length_to_cnt (m c) S

  degree_to_cnt : (n S a : ℕ) → degree_to c n S a ≡ cnt (λ k. holds S k && (same (one c k) a || same (other c k) a)) n
  unfolding degree_to cnt same holds
  degree_to_cnt zero S a = refl
  degree_to_cnt (suc n) S a = ap₂ ◌+◌ (val_bit (bit S n) (same (one c n) a || same (other c n) a) (bit_lt S n)) (degree_to_cnt n S a)

  -- No bond: the empty set.
  pub empty_zero : {S : ℕ} → S < 2 ^ m c → cnt (holds S) (m c) ≡ 0 → S ≡ 0
  empty_zero {S} l e =
      holds_ext (m c) S 0 l (pow_pos (m c))
      (λ k i. not_true (holds S k) (λ h. omega (arith, cnt_pos (holds S) k (m c) i h)) ∙ sym (holds_zero k))

module _ (c : Compound) (sound : Sound c) where
  -- The graph of a sound compound is simple.
  pub simple : Simple (graph_of c)
  simple =
      record {
        no_loop = λ k l e. sound.no_loop k (one c k) (given l refl (sym e));
        src_in = λ k l. sound.named k (one c k) (other c k) (given l refl refl);
        tgt_in = λ k l. sound.named k (other c k) (one c k) (turned l refl refl);
        once = λ j k u w lj lk p q. sound.once j k u w (graph_joins c lj p) (graph_joins c lk q);
      }

  -- The degrees are those in the graph.
  pub degree_deg : (S a : ℕ) → degree c S a ≡ deg (graph_of c) (holds S) a
  degree_deg S a = degree_to_cnt c (m c) S a ∙ degree_is (graph_of c) simple (holds S) a

  -- A closed set is closed in the graph.
  pub closed_graph : {S : ℕ} → Closed c S → ClosedIn (graph_of c) (holds S)
  closed_graph {S} h = even_closed (graph_of c) (holds S) (λ a. rw (← degree_deg S a) (h.even a))

  -- A set that is closed in the graph is closed.
  pub graph_closed : {S : ℕ} → S < 2 ^ m c → ClosedIn (graph_of c) (holds S) → Closed c S
  graph_closed {S} l h = record { bonds = l; even = λ a. rw (degree_deg S a) (closed_even (graph_of c) (holds S) h a) }

  along_joined : {S b a : ℕ} → Along c S b a → Joined (graph_of c) (holds S) a b
  along_joined {S} {b = b} here = joined_refl (graph_of c) (holds S) b
  along_joined {S} {b = b} (step {k = k} {a = a} {next = next} e j r) =
      let J = joins_graph c j in
      joined_step (graph_of c) (holds S) k a next b J.0 (holds_true S k e) J.1 (along_joined r)

  walk_along : (S a : ℕ) (p : Steps) → IsWalk (graph_of c) a p → Within (holds S) p → Along c S (last a p) a
  walk_along S a end h s = here
  walk_along S a (go k b p) h s = step (bit_one S k s.0) (graph_joins c h.0 h.1) (walk_along S b p h.2 s.1)

  joined_along : {S a b : ℕ} → Joined (graph_of c) (holds S) a b → Along c S b a
  joined_along {S} {a} r = rw r.ends at (walk_along S a r.by r.walk r.within)

  -- A ring is a ring in the graph.
  pub ring_graph : {S : ℕ} → Ring c S → RingIn (graph_of c) (holds S)
  ring_graph {S} r =
      record {
        some = ⊎_elim (λ p. p) (λ e. absurd (omega (arith, r.some, empty_zero c r.closed.bonds (omega arith)))) (lt_or_ge 0 (cnt (holds S) (m c)));
        closed = closed_graph r.closed;
        two = λ a. rw (← degree_deg S a) (r.twice a);
        joined = λ a b p q. along_joined (r.connected a b (omega (arith, degree_deg S a)) (omega (arith, degree_deg S b)));
      }

  -- A ring in the graph is a ring.
  pub graph_ring : {S : ℕ} → S < 2 ^ m c → RingIn (graph_of c) (holds S) → Ring c S
  graph_ring {S} l r =
      record {
        some = ⊎_elim (λ p. p) (λ e. absurd (omega (arith, r.some, none (omega arith)))) (lt_or_ge 0 S);
        closed = graph_closed l r.closed;
        connected = λ a b p q. joined_along (r.joined a b (omega (arith, degree_deg S a)) (omega (arith, degree_deg S b)));
        twice = λ a. rw (degree_deg S a) (r.two a);
      }
    where
      none : S ≡ 0 → cnt (holds S) (m c) ≡ 0
      none e = cnt_none (holds S) (m c) (λ k i. rw e (holds_zero k))
