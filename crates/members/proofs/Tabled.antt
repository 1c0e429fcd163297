-- Tables of path counts at a distance that is 0, or that is one more than another.
use mathlib.Core.Path.{◌≡◌, ◌∙◌}
use mathlib.Core.List.{List, []}
use mathlib.Core.Logic.{⊎_elim}
use Prim.Native.Nat.{ℕ, ◌+◌, ◌-◌, ◌<◌, ◌≤◌}
use native.Mathlib.Omega.{arith}
use lib.ListN.{get_or}
use Rattle.bondset.specs.Sets.{bit}
use Rattle.bondset.proofs.Laws.{bit_lt, lt_or_ge}
use Rattle.model.specs.Layer.{ways}
use Rattle.paths.specs.Nets.{net}
use Rattle.counting.specs.Counts.{Disjoint, Table, Others}
use Rattle.counting.proofs.Bound.{shared_none}
use Rattle.counting.proofs.Tables.{table_start}
use Rattle.members.specs.Listed.{Tables}

-- A table of the layer of this number.
at_layer : {adj layers counts : List ℕ} {e d : ℕ} → Table adj layers e counts → e ≡ d
    → (t : ℕ) → bit (get_or layers d 0) t ≡ 1 → get_or counts t 0 ≡ ways (net adj []) layers d t
at_layer table same = rw same at table.holds

module _ (adj layers : List ℕ) (d : ℕ) where
  pub tables_top : (counts : List ℕ) → d ≡ 0 → ((t : ℕ) → bit (get_or layers 0 0) t ≡ 1 → get_or counts t 0 ≡ 1) → Tables adj layers d counts
  tables_top counts z ones = record { holds = λ e t le. at_layer (table_start adj layers counts ones) (omega arith) t }

  -- The counts of a further layer are filled in; those of the layers before stay, because the layers share no atom.
  pub tables_next : (counts counts' : List ℕ) → (d ≡ 0 → ⊥) → Disjoint layers d → Tables adj layers (d - 1) counts
      → Table adj layers (d - 1 + 1) counts' → Others (get_or layers (d - 1 + 1) 0) counts counts' → Tables adj layers d counts'
  tables_next counts counts' ne disjoint tables table others = record {
    holds = λ e t le here.
        ⊎_elim (λ (l : e < d). others.stay t (outside e t l here) ∙ tables.holds e t (omega arith) here)
        (λ (l : d ≤ e). at_layer table (omega arith) t here) (lt_or_ge e d);
  }
    where
      outside : (e t : ℕ) → e < d → bit (get_or layers e 0) t ≡ 1 → bit (get_or layers (d - 1 + 1) 0) t ≡ 0
      outside e t l here =
          let none : bit (get_or layers (d - 1 + 1) 0) t ≡ 1 → ⊥ = λ both. shared_none layers d disjoint e (d - 1 + 1) t (omega arith) (omega arith) here both in
          omega (arith, bit_lt (get_or layers (d - 1 + 1) 0) t)
