-- The layers that the model writes share no atom, whatever the neighbours are.
use mathlib.Core.Path.{◌≡◌}
use mathlib.Core.List.{List}
use mathlib.Core.Logic.{inl, inr, ⊎_elim}
use Prim.Native.Nat.{ℕ, zero, suc, ◌^◌, ◌<◌, ◌≤◌}
use native.Mathlib.Omega.{arith}
use lib.Bits.{bit_and, and_le_l}
use lib.ListN.{length}
use lib.Pow.{pow-lt}
use Rattle.bondset.specs.Sets.{bit}
use Rattle.bondset.proofs.Laws.{lt_or_ge}
use Rattle.model.specs.Net.{Net, nbrs, near}
use Rattle.model.specs.Layer.{Wave, spread, wave, layer, layers_into}
use Rattle.model.proofs.NetBits.{and_has, zero_of_none}
use Rattle.model.proofs.NetNear.{new_of, Step, step}
use Rattle.model.proofs.Layers.{layers_written}
use Rattle.counting.specs.Counts.{Disjoint}

module _ (G : Net) (pre r : ℕ) (words : (a : ℕ) → nbrs G a < 2 ^ 64) (inside : r < 64) where
  -- The search as far as it has come is of words, and what it last reached is seen.
  record Waved (w : Wave) : Type 0 where
    seen_word : w.seen < 2 ^ 64
    under_word : w.under < 2 ^ 64
    front_seen : (k : ℕ) → bit w.front k ≡ 1 → bit w.seen k ≡ 1
    under_front : (k : ℕ) → bit w.under k ≡ 1 → bit w.front k ≡ 1

  module _ (w : Wave) (waved : Waved w) where
    abbrev front' : ℕ
    front' = new_of G w.seen w.front

    stepped : Step G 64 w.seen w.front
    stepped = step G 64 words w.seen w.front waved.seen_word

    spread_waved : Waved (spread G pre w)
    unfolding spread
    spread_waved = record {
      seen_word = stepped.seen_small;
      under_word = omega (arith, and_le_l (bit_and front' (near G w.under)) pre, and_le_l front' (near G w.under), stepped.new_small);
      front_seen = λ k e. (stepped.seen_has k).1 (inr e);
      under_front = λ k e. ((and_has front' (near G w.under) k).0 ((and_has (bit_and front' (near G w.under)) pre k).0 e).0).0;
    }

    spread_new : (k : ℕ) → bit (spread G pre w).front k ≡ 1 → bit w.seen k ≡ 1 → ⊥
    unfolding spread
    spread_new k e = ((stepped.new_has k).0 e).1

    spread_seen : (k : ℕ) → bit w.seen k ≡ 1 → bit (spread G pre w).seen k ≡ 1
    unfolding spread
    spread_seen k e = (stepped.seen_has k).1 (inl e)

  waved_all : (d : ℕ) → Waved (wave G pre r d)
  unfolding wave
  waved_all zero = record { seen_word = pow-lt inside; under_word = pow-lt inside; front_seen = λ k e. e; under_front = λ k e. e }
  waved_all (suc d) = spread_waved (wave G pre r d) (waved_all d)

  seen_later : (i j k : ℕ) → i ≤ j → bit (wave G pre r i).seen k ≡ 1 → bit (wave G pre r j).seen k ≡ 1
  unfolding wave
  seen_later i zero k l e = let z : i ≡ 0 = omega arith in rw z at e
  seen_later i (suc j) k l e =
      ⊎_elim (λ (m : i < suc j). spread_seen (wave G pre r j) (waved_all j) k (seen_later i j k (omega arith) e))
      (λ (m : suc j ≤ i). let z : i ≡ suc j = omega arith in rw z at e) (lt_or_ge i (suc j))

  layer_word : (d : ℕ) → layer G pre r d < 2 ^ 64
  unfolding layer
  layer_word d = (waved_all d).under_word

  layers_apart : (i j k : ℕ) → i < j → bit (layer G pre r i) k ≡ 1 → bit (layer G pre r j) k ≡ 1 → ⊥
  unfolding layer wave
  layers_apart i zero k l e f = omega arith
  layers_apart i (suc j) k l e f =
      spread_new (wave G pre r j) (waved_all j) k ((waved_all (suc j)).under_front k f)
      (seen_later i j k (omega arith) ((waved_all i).front_seen k ((waved_all i).under_front k e)))

  -- The layers that the model writes share no atom.
  pub layers_disjoint : (h : ℕ) (us : List ℕ) → h < length us → (d : ℕ) → d ≤ h → Disjoint (layers_into G pre r h us) d
  layers_disjoint h us room d l =
      let written = layers_written G pre r h us room in
      record {
        words = λ i k. rw (written.are i (omega arith)) (layer_word i);
        apart = λ i j k m.
            rw (written.are i (omega arith), written.are j (omega arith))
            (zero_of_none 64 _ (omega (arith, and_le_l (layer G pre r i) (layer G pre r j), layer_word i))
            (λ t e. let both = (and_has (layer G pre r i) (layer G pre r j) t).0 e in layers_apart i j t k both.0 both.1));
      }
