-- The loops of the plain method choose what the plain method chooses, whatever the state is that tells sums of the chosen rings from others.
use mathlib.Core.Path.{◌≡◌, refl, ◌∙◌}
use mathlib.Core.Bool.{cond}
use mathlib.Core.List.{List, [], ◌∷◌, ◌++◌}
use Prim.Native.Nat.{ℕ, suc, ◌+◌, ◌-◌, ◌/◌, ◌<◌, ◌≤◌}
use native.Mathlib.Omega.{arith}
use borrow.Author.Tests.{eq-eqb, ne_eqb}
use lib.Dec.{eqb}
use lib.ListN.{length, replicate}
use Rattle.cycles.specs.Compound.{Compound, m, Sound, Joins}
use Rattle.cycles.specs.Ring.{len, Ring}
use Rattle.cycles.specs.Plain.{PlainSum, Plain}
use Rattle.cycles.proofs.PlainLoops.{Tried, Gone, gone_start, gone_try, gone_atom, gone_length}
use Rattle.cycles.proofs.PlainExists.{gone_all}
use Rattle.model.specs.Fold.{through, count}
use Rattle.model.specs.Net.{net_of}
use Rattle.model.specs.Layer.{layers_into}
use Rattle.model.specs.Loops.{Running, running}
use Rattle.model.specs.Plain.{others, bond_turn, atom_turn, length_turn, plain_run}
use Rattle.model.proofs.NetRead.{through_count}
use Rattle.model.proofs.Layers.{layers_written}
use Rattle.model.proofs.PlainModel.{Computed, plain_computed_lem}

module _ {X : Type 0} (c : Compound) (sound : Sound c) (atoms : c.n ≤ 64) (bonds : m c ≤ 96) (attempt : ℕ → ℕ → X → X)
    (R : X → List ℕ → Type 0) where
  -- A ring that is a sum of those chosen leaves the state standing for these; another is chosen too.
  pub data Attempted (k S : ℕ) (s : X) (chosen : List ℕ) : Type 0 where
    pass : PlainSum chosen S → R (attempt k S s) chosen → Attempted k S s chosen
    choose : (PlainSum chosen S → ⊥) → R (attempt k S s) (chosen ++ (S ∷ [])) → Attempted k S s chosen

  module _ (tries : (k S : ℕ) (s : X) (chosen : List ℕ) → R s chosen → Ring c S → len c S ≡ k → Attempted k S s chosen) where
    -- The state stands for what is chosen before length k, atom v and bond j.
    pub record Come (k v j : ℕ) (s : X) : Type 0 where
      pub chosen : List ℕ
      pub stands : R s chosen
      pub gone : Gone c k v j chosen

    -- The same of the state after all bonds of the atoms before v, with the layers as they were last written.
    record Layers (k v : ℕ) (s : Running X) : Type 0 where
      room : length s.layers ≡ 33
      come : Come k v 0 s.state

    computed_come : {k v j S : ℕ} (s : X) → Come k v j s → Computed c v k j S → Come k v (suc j) (cond (eqb S 0) s (attempt k S s))
    computed_come {k} {v} {j} {S} s w (Computed.empty e n) =
        rw (eq-eqb S 0 e) (record { chosen = w.chosen; stands = w.stands; gone = gone_try c sound w.gone (Tried.none n) })
    computed_come {k} {v} {j} {S} s w (Computed.found r l) =
        rw (ne_eqb S 0 (λ e. omega (arith, r.ring.some, e))) (go (tries k S s w.chosen w.stands r.ring l))
      where
        go : Attempted k S s w.chosen → Come k v (suc j) (attempt k S s)
        go (Attempted.pass p t) = record { chosen = w.chosen; stands = t; gone = gone_try c sound w.gone (Tried.pass r l p) }
        go (Attempted.choose p t) = record { chosen = _; stands = t; gone = gone_try c sound w.gone (Tried.choose r l p) }

    -- One atom: its layers, and every bond.
    atom_come : {k v : ℕ} (s : Running X) → 3 ≤ k → k ≤ c.n → v < c.n → Layers k v s → Layers k (suc v) (atom_turn c attempt k v s)
    unfolding atom_turn bond_turn
    atom_come {k} {v} s three few inside w = record {
      room = (layers_written (net_of c) (others c.n v) v (k / 2) s.layers space).long ∙ w.room;
      come = record { chosen = all.chosen; stands = all.stands; gone = gone_atom c all.gone };
    }
      where
        space : k / 2 < length s.layers
        space = omega (arith, w.room)

        us : List ℕ
        us = layers_into (net_of c) (others c.n v) v (k / 2) s.layers

        all : Come k v (m c) (through (bond_turn c attempt us k) (count 0 (m c)) s.state)
        all =
            through_count (bond_turn c attempt us k) (Come k v) (m c)
            (λ j x h t. computed_come x t (plain_computed_lem c v sound atoms bonds inside k s.layers space three (Joins.given h refl refl))) 0 (m c)
            s.state (omega arith) w.come

    -- One length: every atom.
    length_come : {k : ℕ} (s : Running X) → 3 ≤ k → k ≤ c.n → Layers k 0 s → Layers (suc k) 0 (length_turn c attempt k s)
    unfolding length_turn
    length_come {k} s three few w =
        let all = through_count (atom_turn c attempt k) (Layers k) c.n (λ v t h u. atom_come t three few h u) 0 c.n s (omega arith) w in
        record { room = all.room; come = record { chosen = all.come.chosen; stands = all.come.stands; gone = gone_length c sound all.come.gone } }

    -- What the loops choose is what the plain method chooses.
    pub run_plain : (s : X) → R s [] → (chosen : List ℕ) × R (plain_run c attempt s).state chosen × Plain c chosen
    unfolding plain_run
    run_plain s start =
        let first : Layers 3 0 (running (replicate 33 0) s) =
        record { room = refl; come = record { chosen = []; stands = start; gone = gone_start c sound } } in
        let all =
        through_count (length_turn c attempt) (λ k t. (3 ≤ k) × Layers k 0 t) (3 + (c.n - 2))
        (λ k t h w. (omega (arith, w.0), length_come t w.0 (omega (arith, w.0)) w.1)) 3 (c.n - 2) (running (replicate 33 0) s) refl
        (omega arith, first) in
        (all.1.come.chosen, all.1.come.stands, gone_all c sound all.1.come.gone (omega arith))
