-- Sums of rings shorter than k, and which closed sets they are.
use mathlib.Core.Path.{◌≡◌, refl, sym, ap, ap₂, ◌∙◌}
use mathlib.Core.List.{List, [], ◌∷◌, ◌++◌}
use mathlib.Core.Logic.{◌⊎◌, inl, inr, ⊎_elim}
use Prim.Native.Nat.{ℕ, zero, suc, ◌+◌, ◌*◌, ◌%◌, ◌^◌, ◌<◌}
use native.Mathlib.Omega.{arith}
use lib.Pow.{pow_pos}
use lib.Bits.{bit_xor, differ, xor_lt, xor_zero_l}
use Rattle.spans.specs.Basis.{All, Sum}
use Rattle.spans.proofs.Lists.{all_append}
use Rattle.bondset.specs.Sets.{bit}
use Rattle.bondset.proofs.Group.{bond_sets}
use Rattle.bondset.proofs.Laws.{cases2, bit_lt, bit_xor_lem, xor_assoc, zero_bit, lt_or_ge}
use Rattle.graphs.specs.Count.{xor, cnt}
use Rattle.graphs.specs.Graph.{BondSet, Agree}
use Rattle.graphs.specs.Ring.{Each, sum_all, SumOf, Shorter as ShorterIn}
use Rattle.graphs.proofs.Count.{cnt_ext}
use Rattle.graphs.proofs.Decide as Decide
use Rattle.graphs.proofs.Decompose.{ring_ext, small_sum}
use Rattle.cycles.proofs.Number.{holds, num, holds_xor, holds_zero, holds_ext, num_lt, holds_num}
use Rattle.cycles.specs.Compound.{Compound, m, Sound}
use Rattle.cycles.specs.Ring.{len, meets, degree_to, degree, Closed, Ring, Relevant}
use Rattle.cycles.proofs.Carry.{graph_of, simple, len_cnt, empty_zero, closed_graph, graph_ring}

sum_append : (xs ys : List ℕ) → Sum bond_sets (xs ++ ys) ≡ bit_xor (Sum bond_sets xs) (Sum bond_sets ys)
unfolding Sum bond_sets
sum_append [] ys = sym (xor_zero_l (Sum bond_sets ys))
sum_append (x ∷ xs) ys = ap (bit_xor x) (sum_append xs ys) ∙ sym (xor_assoc x (Sum bond_sets xs) (Sum bond_sets ys))

parity_step : (u v x d p q : ℕ) → u < 2 → v < 2 → d % 2 ≡ (p + q) % 2 → (differ u v * x + d) % 2 ≡ (u * x + p + (v * x + q)) % 2
parity_step u v x d p q hu hv e =
    cases2 (λ (u : ℕ). (differ u v * x + d) % 2 ≡ (u * x + p + (v * x + q)) % 2)
    (omega arith)
    (cases2 (λ (v : ℕ). (differ 1 v * x + d) % 2 ≡ (1 * x + p + (v * x + q)) % 2) (omega arith) (omega arith) v hv) u hu

module _ (c : Compound) where
  -- S is the sum of rings that are shorter than k.
  pub record Shorter (k S : ℕ) : Type 0 where
    pub rings : List ℕ
    pub short : All (λ R. Ring c R × (len c R < k)) rings
    pub sum : Sum bond_sets rings ≡ S

  pub shorter_zero : (k : ℕ) → Shorter k 0
  unfolding Sum bond_sets
  shorter_zero k = record { rings = []; short = All.nil; sum = refl }

  pub shorter_add : {k S T : ℕ} → Shorter k S → Shorter k T → Shorter k (bit_xor S T)
  shorter_add s t =
      record {
        rings = s.rings ++ t.rings;
        short = all_append s.short t.short;
        sum = sum_append s.rings t.rings ∙ ap₂ bit_xor s.sum t.sum;
      }

  degree_to_sum_parity : (n S T a : ℕ) → degree_to c n (bit_xor S T) a % 2 ≡ (degree_to c n S a + degree_to c n T a) % 2
  unfolding degree_to
  degree_to_sum_parity zero S T a = refl
  degree_to_sum_parity (suc n) S T a =
      rw (bit_xor_lem S T n)
      (parity_step (bit S n) (bit T n) (meets c n a) (degree_to c n (bit_xor S T) a) (degree_to c n S a) (degree_to c n T a) (bit_lt S n) (bit_lt T n)
      (degree_to_sum_parity n S T a))

  pub degree_sum_parity : (S T a : ℕ) → degree c (bit_xor S T) a % 2 ≡ (degree c S a + degree c T a) % 2
  degree_sum_parity = degree_to_sum_parity (m c)

  degree_to_zero : (n a : ℕ) → degree_to c n 0 a ≡ 0
  unfolding degree_to
  degree_to_zero zero a = refl
  degree_to_zero (suc n) a = rw (zero_bit n, degree_to_zero n a) (omega arith)

  pub closed_zero : Closed c 0
  closed_zero = record { bonds = pow_pos (m c); even = λ a. omega (arith, degree_to_zero (m c) a) }

  pub closed_sum : {S T : ℕ} → Closed c S → Closed c T → Closed c (bit_xor S T)
  closed_sum {S} {T} p q =
      record { bonds = xor_lt (m c) S T p.bonds q.bonds; even = λ a. omega (arith, degree_sum_parity S T a, p.even a, q.even a) }

  rings_closed : {k : ℕ} {Rs : List ℕ} → All (λ R. Ring c R × (len c R < k)) Rs → Closed c (Sum bond_sets Rs)
  unfolding Sum bond_sets
  rings_closed All.nil = closed_zero
  rings_closed (All.cons h r) = closed_sum h.0.closed (rings_closed r)

  pub relevant_not_shorter : {S : ℕ} → Relevant c S → Shorter (len c S) S → ⊥
  relevant_not_shorter r s = r.alone s.rings s.short s.sum

  pub not_shorter_relevant : {S : ℕ} → Ring c S → (Shorter (len c S) S → ⊥) → Relevant c S
  not_shorter_relevant r h = record { ring = r; alone = λ Rs a e. h (record { rings = Rs; short = a; sum = e }) }

module _ (c : Compound) (sound : Sound c) where
  -- Rings shorter than k with a given sum in the graph.
  record Carried (k : ℕ) (X : BondSet) : Type 0 where
    pub rings : List ℕ
    pub short : All (λ R. Ring c R × (len c R < k)) rings
    pub sum : Agree (graph_of c) (holds (Sum bond_sets rings)) X

  carried : {k : ℕ} (L : List BondSet) → Each (ShorterIn (graph_of c) k) L → Carried k (sum_all L)
  unfolding Sum bond_sets
  carried [] h = record { rings = []; short = All.nil; sum = λ k l. holds_zero k }
  carried (X ∷ L) h =
      let r = carried L h.1 in
      let R : ℕ = num X (m c) in
      let A : Agree (graph_of c) X (holds R) = λ k l. sym (holds_num X (m c) k l) in
      let ring : Ring c R = graph_ring c sound (num_lt X (m c)) (ring_ext (graph_of c) X (holds R) A h.0.0) in
      record {
        rings = R ∷ r.rings;
        short = All.cons (ring, omega (arith, h.0.1, len_cnt c R, cnt_ext X (holds R) (m c) A)) r.short;
        sum = λ k l. holds_xor R (Sum bond_sets r.rings) k ∙ ap₂ xor (sym (A k l)) (r.sum k l);
      }

  -- A sum of rings shorter than k in the graph is one.
  pub graph_shorter : {k S : ℕ} → S < 2 ^ m c → SumOf (graph_of c) (ShorterIn (graph_of c) k) (holds S) → Shorter c k S
  graph_shorter {S = S} l s =
      let r = carried s.rings s.all in
      record {
        rings = r.rings;
        short = r.short;
        sum = holds_ext (m c) (Sum bond_sets r.rings) S (rings_closed c r.short).bonds l (λ j i. r.sum j i ∙ sym (s.is j i));
      }

  -- A closed set that is shorter than k is a sum of rings shorter than k.
  pub closed_shorter : {k S : ℕ} → Closed c S → len c S < k → Shorter c k S
  closed_shorter {k} {S} h l =
      graph_shorter h.bonds (small_sum (graph_of c) (simple c sound) k (holds S) (closed_graph c sound h) (omega (arith, len_cnt c S)))

  -- A closed set is a ring or a sum of strictly shorter rings.
  pub ring_or_shorter : {S : ℕ} → Closed c S → Ring c S ⊎ Shorter c (len c S) S
  ring_or_shorter {S} h =
      ⊎_elim
      (λ p. ⊎_elim (λ r. inl (graph_ring c sound h.bonds r)) (λ s. inr (rw (len_cnt c S) (graph_shorter h.bonds s)))
      (Decide.ring_or_shorter (graph_of c) (simple c sound) (holds S) (closed_graph c sound h) p))
      (λ p. inr (rw (empty_zero c h.bonds (omega arith)) (shorter_zero c (len c 0))))
      (lt_or_ge 0 (cnt (holds S) (m c)))
