-- The first layers alone, whether there are places for all members, and what is answered.
use mathlib.Core.Path.{◌≡◌, refl, sym, ap, ap₂, ◌∙◌}
use mathlib.Core.List.{List, [], ◌∷◌, ◌++◌}
use Prim.Native.Nat.{ℕ, ◌+◌, ◌*◌, ◌/◌, ◌≤◌}
use native.Mathlib.Omega.{arith}
use lib.ListN.{length, take, drop, take-append-drop}
use lib.Seq.{length-take-le}
use Rattle.std.specs.Prelude.{Some, None}
use Rattle.model.specs.Net.{Net}
use Rattle.model.specs.Layer.{ways}
use Rattle.paths.specs.Nets.{net}
use Rattle.counting.specs.declared.PathCounts.{PathCounts}
use Rattle.counting.specs.Counts.{Counted as Counts}
use Rattle.members.specs.Listed.{path_sets, sums, member_sets, placed, over, Counted, Told}
use Rattle.members.proofs.Places.{length_placed}
use Rattle.members.proofs.Listing.{path_sets_front, ways_front}
use Rattle.members.proofs.Writing.{member_sets_many}

-- ---- the layers nearer to the top than those of p and q

module _ (layers : List ℕ) (d : ℕ) (deep : d ≤ length layers) where
  few : length (take d layers) ≡ d
  few = length-take-le d layers deep

  ways_take : (adj : List ℕ) (t : ℕ) → ways (net adj []) (take d layers) (length (take d layers)) t ≡ ways (net adj []) layers d t
  ways_take adj t = rw few (ways_front (take d layers) (drop d layers) (sym (take-append-drop d layers)) adj d t (omega (arith, few)))

  path_sets_take : (G : Net) (t : ℕ) → path_sets G (take d layers) (length (take d layers)) t ≡ path_sets G layers d t
  path_sets_take G t = rw few (path_sets_front (take d layers) (drop d layers) (sym (take-append-drop d layers)) G d t (omega (arith, few)))

  member_sets_take : (G : Net) (p q l : ℕ) → member_sets G (take d layers) (length (take d layers)) p q l ≡ member_sets G layers d p q l
  unfolding member_sets
  member_sets_take G p q l = ap₂ (λ (Ps Qs : List ℕ). sums Ps (sums Qs (l ∷ []))) (path_sets_take G p) (path_sets_take G q)

-- ---- the answer

module _ {adj layers : List ℕ} {d p q : ℕ} {counts : PathCounts} (are : Counts adj layers d p q counts) (touch : List ℕ) (link : ℕ) where
  abbrev sets : List ℕ
  sets = member_sets (net adj touch) layers d p q link

  many : length sets ≡ counts.from_p * counts.from_q
  many = member_sets_many adj touch layers d p q link ∙ sym (ap₂ (λ (x y : ℕ). x * y) are.one are.other)

  pub short : {rings : List ℕ} → (counts.from_p * counts.from_q ≤ length rings / 12 → ⊥) → Told sets rings rings None
  short {rings} no_room = (omega (arith, many, no_room), refl)

  module _ (rings : List ℕ) {n : ℕ} (deep : d ≤ length layers) (room : (counts.from_p * counts.from_q ≤ length rings / 12) × (n ≡ counts.from_p * counts.from_q)) where
    pub fits : 12 * n ≤ length rings
    fits = omega (arith, room.0, room.1)

    pub counted : Counted adj (take d layers) (take (12 * n) rings) (length (take d layers)) p q counts.from_q
    counted = record {
      from_q = are.other ∙ sym (ways_take layers d deep adj q);
      places =
          length-take-le (12 * n) rings fits
          ∙ ap (λ (x : ℕ). 12 * x) (room.1 ∙ ap (λ (x : ℕ). x * counts.from_q) (are.one ∙ sym (ways_take layers d deep adj p)));
    }

    -- The part in front is written, and the rest stays.
    pub written : {front : List ℕ} → front ≡ placed (member_sets (net adj touch) (take d layers) (length (take d layers)) p q link)
        → Told sets rings (front ++ drop (12 * n) rings) (Some n)
    unfolding over
    written {front} is =
        let wide : 12 * n ≡ 0 + length (placed sets) = omega (arith, length_placed sets, many, room.1) in (
          room.1 ∙ sym many,
          omega (arith, many, room.0),
          ap₂ (λ (l : List ℕ) (i : ℕ). l ++ drop i rings) (is ∙ ap placed (member_sets_take layers d deep (net adj touch) p q link)) wide,
        )
