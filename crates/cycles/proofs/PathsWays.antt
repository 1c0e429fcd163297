-- Ways from one atom to another: ways that begin and end together add up to closed sets, and short ones to shorter rings.
use mathlib.Core.Path.{◌≡◌, refl, sym, ap, ◌∙◌}
use mathlib.Core.List.{List, [], ◌∷◌}
use Prim.Native.Nat.{ℕ, suc, ◌+◌, ◌%◌, ◌^◌, ◌<◌, ◌≤◌}
use native.Mathlib.Omega.{arith}
use lib.Bits.{bit_xor, xor_comm, xor_self, xor_zero_l, xor_zero_r, xor_lt}
use lib.ListN.{length}
use Rattle.bondset.proofs.Laws.{xor_assoc, length_sum}
use Rattle.graphs.specs.AtomList.{last_l}
use Rattle.cycles.specs.Compound.{Compound, m, Joins, Sound}
use Rattle.cycles.specs.Ring.{len, degree, Closed, Edges}
use Rattle.cycles.proofs.Shorter.{Shorter, degree_sum_parity, closed_shorter}
use Rattle.cycles.proofs.Edges.{is, edges_bonds, edges_length, edges_parity}

pub xor_left_comm : (a b c : ℕ) → bit_xor a (bit_xor b c) ≡ bit_xor b (bit_xor a c)
xor_left_comm a b c = sym (xor_assoc a b c) ∙ ap (λ (x : ℕ). bit_xor x c) (xor_comm a b) ∙ xor_assoc b a c

pub xor_cancel_left : (a b : ℕ) → bit_xor a (bit_xor a b) ≡ b
xor_cancel_left a b = sym (xor_assoc a a b) ∙ ap (λ (x : ℕ). bit_xor x b) (xor_self a) ∙ xor_zero_l b

-- Sums of bond sets are equal if each set stands in both an equal number of times, modulo 2.
pub ruleset sums = (xor_comm, xor_assoc, xor_left_comm, xor_self, xor_zero_l, xor_zero_r, xor_cancel_left)

even_two : (a b x y : ℕ) → a % 2 ≡ (x + y) % 2 → b % 2 ≡ (x + y) % 2 → (a + b) % 2 ≡ 0
even_two a b x y e f = omega arith

even_three : (a b c s x y z : ℕ) → s % 2 ≡ (a + b) % 2 → a % 2 ≡ (x + y) % 2 → b % 2 ≡ (z + y) % 2 → c % 2 ≡ (x + z) % 2 → (s + c) % 2 ≡ 0
even_three a b c s x y z e f g h = omega arith

module _ (c : Compound) where
  pub len_sum_le : (S T : ℕ) → len c (bit_xor S T) ≤ len c S + len c T
  len_sum_le S T = omega (arith, length_sum (m c) S T)

  -- A way from u to v in n steps whose bonds add up to S.
  pub record Way (u v n S : ℕ) : Type 0 where
    pub path : List ℕ
    pub edges : Edges c (u ∷ path) S
    pub ends : last_l u path ≡ v
    pub steps : length path ≡ n

  pub way_here : (u : ℕ) → Way u u 0 0
  way_here u = record { path = []; edges = Edges.point; ends = refl; steps = refl }

  pub way_step : {k u v w n S : ℕ} → Joins c k u w → Way w v n S → Way u v (suc n) (bit_xor (2 ^ k) S)
  way_step {w} j way = record { path = w ∷ way.path; edges = Edges.more j way.edges refl; ends = way.ends; steps = ap suc way.steps }

  pub way_none : {u v n S : ℕ} → Way u v n S → n ≡ 0 → u ≡ v
  way_none {u} {v} way z = go way.path way.ends (way.steps ∙ z)
    where
      go : (path : List ℕ) → last_l u path ≡ v → length path ≡ 0 → u ≡ v
      go [] e s = e
      go (a ∷ path) e s = absurd (omega arith)

  pub way_len : {u v n S : ℕ} → Way u v n S → len c S ≤ n
  way_len way = omega (arith, edges_length c way.edges)

  way_bonds : {u v n S : ℕ} → Way u v n S → S < 2 ^ m c
  way_bonds way = edges_bonds c way.edges

  module _ (sound : Sound c) where
    pub way_parity : {u v n S : ℕ} → Way u v n S → (a : ℕ) → degree c S a % 2 ≡ (is u a + is v a) % 2
    way_parity way a = rw way.ends at (edges_parity c sound way.edges a)

    pub two_ways_closed : {u v i j S T : ℕ} → Way u v i S → Way u v j T → Closed c (bit_xor S T)
    two_ways_closed {u} {v} {S} {T} s t = record {
      bonds = xor_lt (m c) S T (way_bonds s) (way_bonds t);
      even = λ a. degree_sum_parity c S T a ∙ even_two _ _ (is u a) (is v a) (way_parity s a) (way_parity t a);
    }

    pub three_ways_closed : {u v w i j k S T U : ℕ} → Way u v i S → Way w v j T → Way u w k U → Closed c (bit_xor (bit_xor S T) U)
    three_ways_closed {u} {v} {w} {S} {T} {U} s t l = record {
      bonds = xor_lt (m c) (bit_xor S T) U (xor_lt (m c) S T (way_bonds s) (way_bonds t)) (way_bonds l);
      even = λ a.
          degree_sum_parity c (bit_xor S T) U a
          ∙ even_three (degree c S a) (degree c T a) _ _ (is u a) (is v a) (is w a) (degree_sum_parity c S T a) (way_parity s a) (way_parity t a) (way_parity l a);
    }

    pub two_ways_shorter : {u v i j S T h : ℕ} → Way u v i S → Way u v j T → i + j < h → Shorter c h (bit_xor S T)
    two_ways_shorter {S} {T} s t less = closed_shorter c sound (two_ways_closed s t) (omega (arith, len_sum_le S T, way_len s, way_len t))

    pub three_ways_shorter : {u v w i j k S T U h : ℕ} → Way u v i S → Way w v j T → Way u w k U → i + j + k < h
        → Shorter c h (bit_xor (bit_xor S T) U)
    three_ways_shorter {S} {T} {U} s t l less =
        closed_shorter c sound (three_ways_closed s t l) (omega (arith, len_sum_le (bit_xor S T) U, len_sum_le S T, way_len s, way_len t, way_len l))
