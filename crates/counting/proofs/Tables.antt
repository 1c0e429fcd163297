-- The turns of the loops that count paths: down from an atom that has one way to go, or by a table.
use mathlib.Core.Path.{◌≡◌, sym, ap, ◌∙◌}
use mathlib.Core.List.{List, [], ◌∷◌}
use mathlib.Core.Logic.{◌⊎◌, inl, inr, ⊎_elim}
use Prim.Native.Nat.{ℕ, suc, ◌+◌, ◌^◌, ◌<◌, ◌≤◌}
use native.Mathlib.Nat.{zero-add}
use native.Mathlib.Numerals.{add-one}
use native.Mathlib.Omega.{arith}
use native.Mathlib.Decide.{ℕ_discrete}
use lib.Bits.{bit_and}
use lib.ListN.{length, get_or, set, take}
use lib.Seq.{get_or-set_same, get_or-set_other}
use Rattle.std.specs.List.{push}
use Rattle.std.proofs.lemmas.List.{length-take-le}
use Rattle.spans.specs.Elements.{◌∈◌, first, later}
use Rattle.bondset.specs.Sets.{bit, members}
use Rattle.bondset.proofs.Members.{members_zero, mem_members, bit_of_mem, first_lt}
use Rattle.cycles.proofs.PathsDecide.{not_in_none, in_cases}
use Rattle.model.specs.Fold.{through}
use Rattle.model.specs.Layer.{ways}
use Rattle.model.proofs.NetBits.{and_has, lt_of_has}
use Rattle.model.proofs.Turns.{Left, left_next, left_none}
use Rattle.paths.specs.Nets.{net}
use Rattle.paths.proofs.Steps.{Front, front_start, front_next, front_last, front_less}
use Rattle.counting.specs.Counts.{Disjoint, Table, Others}
use Rattle.counting.proofs.Bound.{shared_none, le_sum}

-- ---- one way to go

-- The paths from an atom with one neighbour in the layer below are those from this neighbour.
ways_lone : (adj layers : List ℕ) (e t next : ℕ) → members 64 (bit_and (get_or adj t 0) (get_or layers e 0)) ≡ next ∷ members 64 0
    → ways (net adj []) layers (suc e) t ≡ ways (net adj []) layers e next
unfolding ways through
ways_lone adj layers e t next one = rw (one, members_zero 64) (zero-add _)

-- As many paths lead to the top from a through the layers that are left as from the start.
pub record Down (adj layers left : List ℕ) (a all : ℕ) : Type 0 where
  pub inside : a < 64
  front : Front left layers
  same : ways (net adj []) layers (length left) a ≡ all

pub down_start : (adj layers : List ℕ) (d t : ℕ) → t < 64 → d ≤ length layers → Down adj layers (take d layers) t (ways (net adj []) layers d t)
down_start adj layers d t inside h = record { inside = inside; front = front_start d layers; same = rw (length-take-le d layers h) }

-- After a step with one way to go.
pub down_next : {adj layers left : List ℕ} {a all : ℕ} → Down adj layers left a all → (left' : List ℕ) (layer : ℕ) → left ≡ push left' layer
    → {next : ℕ} → members 64 (bit_and (get_or adj a 0) layer) ≡ next ∷ members 64 0 → Down adj layers left' next all
down_next {adj} {layers} {left} {a} {all} down left' layer last {next} one =
    let here = front_last down.front left' layer last in
    record {
      inside = first_lt 64 _ _ _ one;
      front = front_next down.front left' layer last;
      same = sym (ways_lone adj layers (length left') a next (rw here one)) ∙ (rw (front_less down.front left' layer last) at down.same);
    }

-- At the top.
pub down_end : {adj layers left : List ℕ} {a all : ℕ} → Down adj layers left a all → length left ≡ 0 → all ≡ 1
unfolding ways
down_end down e = sym (rw e at down.same)

-- ---- counts written atom by atom

-- Each atom of a set is left, or has the count that f gives.
pub record Done (f : ℕ → ℕ) (s : ℕ) (left counts : List ℕ) : Type 0 where
  each : (k : ℕ) → bit s k ≡ 1 → (k ∈ left) ⊎ (get_or counts k 0 ≡ f k)

module _ (f : ℕ → ℕ) (s : ℕ) where
  pub done_start : (counts : List ℕ) → s < 2 ^ 64 → Done f s (members 64 s) counts
  done_start counts word = record { each = λ k b. inl ((mem_members 64 s k).1 (lt_of_has 64 s k word b, b)) }

  pub done_next : {left left' counts : List ℕ} {t v : ℕ} → left ≡ t ∷ left' → t < length counts → v ≡ f t → Done f s left counts
      → Done f s left' (set counts t v)
  done_next {left} {left'} {counts} {t} {v} e room is done = record { each = λ k b. go k (ℕ_discrete k t) (rw e at (done.each k b)) }
    where
      go : (k : ℕ) → Dec (k ≡ t) → (k ∈ t ∷ left') ⊎ (get_or counts k 0 ≡ f k) → (k ∈ left') ⊎ (get_or (set counts t v) k 0 ≡ f k)
      go k (yes at) c = inr (rw at (get_or-set_same counts t v 0 room ∙ is))
      go k (no ne) (inl m) = inl (⊎_elim (λ (e : t ≡ k). absurd (ne (sym e))) (λ (h : k ∈ left'). h) (in_cases m))
      go k (no ne) (inr c) = inr (get_or-set_other counts t k v 0 ne ∙ c)

  pub done_end : {left counts : List ℕ} → left ≡ [] → Done f s left counts → (k : ℕ) → bit s k ≡ 1 → get_or counts k 0 ≡ f k
  done_end {left} {counts} e done k b = ⊎_elim (λ (m : k ∈ left). absurd (not_in_none (rw e at m))) (λ (c : get_or counts k 0 ≡ f k). c) (done.each k b)

-- ---- the sum of the counts of some atoms

-- What is left to be added to `sum` makes `all`, and the atoms that are left are of the layer.
pub record Adding (adj layers : List ℕ) (e : ℕ) (left : List ℕ) (sum all : ℕ) : Type 0 where
  inside : (k : ℕ) → k ∈ left → bit (get_or layers e 0) k ≡ 1
  makes : Left (λ s acc. acc + ways (net adj []) layers e s) left sum all

pub adding_start : (adj layers : List ℕ) (e t : ℕ)
    → Adding adj layers e (members 64 (bit_and (get_or adj t 0) (get_or layers e 0))) 0 (ways (net adj []) layers (e + 1) t)
unfolding ways
adding_start adj layers e t = record {
  inside = λ k m. ((and_has (get_or adj t 0) (get_or layers e 0) k).0 (bit_of_mem 64 _ k m)).1;
  makes = record { same = rw add-one };
}

module _ {adj layers : List ℕ} {e : ℕ} {left : List ℕ} {sum all : ℕ} (adding : Adding adj layers e left sum all) where
  pub adding_end : left ≡ [] → sum ≡ all
  adding_end z = left_none _ z adding.makes

  module _ {s : ℕ} {left' counts : List ℕ} (table : Table adj layers e counts) (more : left ≡ s ∷ left') where
    here : get_or counts s 0 ≡ ways (net adj []) layers e s
    here = table.holds s (adding.inside s (rw more first))

    pub adding_next : Adding adj layers e left' (sum + get_or counts s 0) all
    adding_next = record {
      inside = λ k m. adding.inside k (rw more (later m));
      makes = left_next _ more (ap (λ (x : ℕ). sum + x) here) adding.makes;
    }

    -- The sum so far is within the whole.
    pub adding_le : sum + get_or counts s 0 ≤ all
    adding_le =
        rw adding_next.makes.same at (le_sum (ways (net adj []) layers e) left' (sum + get_or counts s 0))

-- ---- a layer of the table

-- The table of layer e is there still, and each atom of layer e + 1 is left or done.
pub record Filling (adj layers : List ℕ) (e : ℕ) (left counts : List ℕ) : Type 0 where
  pub inside : (k : ℕ) → k ∈ left → bit (get_or layers (e + 1) 0) k ≡ 1
  pub table : Table adj layers e counts
  done : Done (ways (net adj []) layers (e + 1)) (get_or layers (e + 1) 0) left counts

module _ {adj layers : List ℕ} {e : ℕ} (disjoint : Disjoint layers (e + 1)) where
  pub filling_start : {counts : List ℕ} → Table adj layers e counts → Filling adj layers e (members 64 (get_or layers (e + 1) 0)) counts
  filling_start {counts} table = record {
    inside = bit_of_mem 64 _;
    table = table;
    done = done_start _ _ counts (disjoint.words (e + 1) (omega arith));
  }

  pub filling_end : {left counts : List ℕ} → Filling adj layers e left counts → left ≡ [] → Table adj layers (e + 1) counts
  filling_end filling z = record { holds = done_end _ _ z filling.done }

  module _ {left counts : List ℕ} (filling : Filling adj layers e left counts) {t : ℕ} {left' : List ℕ} (more : left ≡ t ∷ left') where
    -- The atom of a turn is one of the layer.
    pub filling_in : bit (get_or layers (e + 1) 0) t ≡ 1
    filling_in = filling.inside t (rw more first)

    pub filling_next : {v : ℕ} → t < length counts → v ≡ ways (net adj []) layers (e + 1) t → Filling adj layers e left' (set counts t v)
    filling_next {v} room is = record {
      inside = λ k m. filling.inside k (rw more (later m));
      table = record { holds = λ k b. get_or-set_other counts t k v 0 (apart k b) ∙ filling.table.holds k b };
      done = done_next _ _ more room is filling.done;
    }
      where
        apart : (k : ℕ) → bit (get_or layers e 0) k ≡ 1 → k ≡ t → ⊥
        apart k b same = shared_none layers (e + 1) disjoint e (e + 1) k (omega arith) (omega arith) b (rw same filling_in)

    -- A count that is written is one of the layer.
    pub others_next : (v : ℕ) {counts₀ : List ℕ} → Others (get_or layers (e + 1) 0) counts₀ counts → Others (get_or layers (e + 1) 0) counts₀ (set counts t v)
    others_next v {counts₀} others = record {
      stay = λ k z. get_or-set_other counts t k v 0
          (λ same. omega (arith, z, filling_in, ap (λ (x : ℕ). bit (get_or layers (e + 1) 0) x) same)) ∙ others.stay k z;
    }

-- ---- all layers

module _ (adj layers : List ℕ) (d : ℕ) (disjoint : Disjoint layers d) where
  -- What is in a layer is one of 64 atoms.
  pub layer_lt : (t : ℕ) → bit (get_or layers d 0) t ≡ 1 → t < 64
  layer_lt t = lt_of_has 64 (get_or layers d 0) t (disjoint.words d (omega arith))

-- One path leads from the top to the top.
pub table_start : (adj layers counts : List ℕ) → ((t : ℕ) → bit (get_or layers 0 0) t ≡ 1 → get_or counts t 0 ≡ 1) → Table adj layers 0 counts
unfolding ways
table_start adj layers counts ones = record { holds = ones }
