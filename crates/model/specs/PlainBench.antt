-- The plain method on the bench set: what it chooses, in the order chosen, with the total, and that the model gives it.
use Rattle.std.specs.Prelude.{◌≡◌, refl, List, [], ◌∷◌, ℕ}
use Rattle.std.specs.Int.Count.{count_trailing_zeros}
use Rattle.cycles.specs.Compound.{Compound}
use Rattle.bondset.specs.Sets.{single, members}
use Rattle.bondset.specs.Rows.{row_at, put_row}
use Rattle.bondset.specs.Reduction.{reduced_by, used_by, reduced, used, pushed_tag, pivot_of}
use Rattle.model.specs.Fold.{through, count}
use Rattle.model.specs.Net.{near1, touch1, read_adj, read_touch, adj_of, touch_of, net_of, near, bond}
use Rattle.model.specs.Layer.{spread, wave, layer, layers_into, walk}
use Rattle.model.specs.Plain.{others, level_ring, up_ring, ring_of, bond_turn, atom_turn, length_turn, plain_run, Choice, no_choice, more_choice, choose_ring, plain_choice}
use Rattle.model.specs.Bench.{Each}

pub record PlainCase : Type 0 where
  pub compound : Compound
  pub rings : List ℕ
  pub total : ℕ

-- atoms, bonds; the rings chosen; their total
abbrev case : ℕ → List ℕ → List ℕ → ℕ → PlainCase
case n bonds rings total = record { compound = record { n = n; bytes = bonds }; rings = rings; total = total }

unfoldable pub plain_bench : List PlainCase
plain_bench =
    -- A
    case 1 ([])
    ([]) 0
    -- B
    ∷ case 3 (0 ∷ 1 ∷ 1 ∷ 2 ∷ 0 ∷ 2 ∷ [])
    (7 ∷ []) 3
    -- C
    ∷ case 4 (0 ∷ 1 ∷ 1 ∷ 2 ∷ 2 ∷ 3 ∷ 3 ∷ 0 ∷ [])
    (15 ∷ []) 4
    -- D
    ∷ case 4 (0 ∷ 1 ∷ 0 ∷ 2 ∷ 0 ∷ 3 ∷ 1 ∷ 2 ∷ 1 ∷ 3 ∷ 2 ∷ 3 ∷ [])
    (11 ∷ 21 ∷ 38 ∷ []) 9
    -- E
    ∷ case 5 (0 ∷ 1 ∷ 0 ∷ 2 ∷ 0 ∷ 3 ∷ 0 ∷ 4 ∷ 1 ∷ 2 ∷ 1 ∷ 3 ∷ 1 ∷ 4 ∷ 2 ∷ 3 ∷ 2 ∷ 4 ∷ 3 ∷ 4 ∷ [])
    (19 ∷ 37 ∷ 73 ∷ 134 ∷ 266 ∷ 524 ∷ []) 18
    -- F
    ∷ case 8 (0 ∷ 2 ∷ 2 ∷ 3 ∷ 3 ∷ 1 ∷ 0 ∷ 4 ∷ 4 ∷ 5 ∷ 5 ∷ 1 ∷ 0 ∷ 6 ∷ 6 ∷ 7 ∷ 7 ∷ 1 ∷ [])
    (63 ∷ 455 ∷ []) 12
    -- G
    ∷ case 8 (0 ∷ 1 ∷ 0 ∷ 2 ∷ 0 ∷ 4 ∷ 1 ∷ 3 ∷ 1 ∷ 5 ∷ 2 ∷ 3 ∷ 2 ∷ 6 ∷ 3 ∷ 7 ∷ 4 ∷ 5 ∷ 4 ∷ 6 ∷ 5 ∷ 7 ∷ 6 ∷ 7 ∷ [])
    (43 ∷ 277 ∷ 582 ∷ 1176 ∷ 2272 ∷ []) 20
    -- H
    ∷ case 5 (0 ∷ 1 ∷ 1 ∷ 2 ∷ 2 ∷ 3 ∷ 3 ∷ 0 ∷ 4 ∷ 0 ∷ 4 ∷ 1 ∷ 4 ∷ 2 ∷ 4 ∷ 3 ∷ [])
    (49 ∷ 152 ∷ 98 ∷ 196 ∷ []) 12
    -- I
    ∷ case 5 (0 ∷ 1 ∷ 1 ∷ 2 ∷ 0 ∷ 2 ∷ 2 ∷ 3 ∷ 3 ∷ 4 ∷ 2 ∷ 4 ∷ [])
    (7 ∷ 56 ∷ []) 6
    -- J
    ∷ case 10 (0 ∷ 1 ∷ 1 ∷ 2 ∷ 2 ∷ 3 ∷ 3 ∷ 4 ∷ 4 ∷ 5 ∷ 5 ∷ 6 ∷ 6 ∷ 7 ∷ 7 ∷ 8 ∷ 8 ∷ 9 ∷ 9 ∷ 0 ∷ 0 ∷ 5 ∷ [])
    (1055 ∷ 2016 ∷ []) 12
    -- K
    ∷ case 10 (1 ∷ 2 ∷ 1 ∷ 3 ∷ 2 ∷ 4 ∷ 3 ∷ 4 ∷ 4 ∷ 0 ∷ 0 ∷ 5 ∷ 5 ∷ 6 ∷ 5 ∷ 7 ∷ 6 ∷ 8 ∷ 7 ∷ 8 ∷ 8 ∷ 9 ∷ 9 ∷ 1 ∷ [])
    (15 ∷ 960 ∷ 3445 ∷ []) 16
    -- L
    ∷ case 10 (0 ∷ 4 ∷ 4 ∷ 1 ∷ 0 ∷ 5 ∷ 5 ∷ 2 ∷ 0 ∷ 6 ∷ 6 ∷ 3 ∷ 1 ∷ 7 ∷ 7 ∷ 2 ∷ 1 ∷ 8 ∷ 8 ∷ 3 ∷ 2 ∷ 9 ∷ 9 ∷ 3 ∷ [])
    (207 ∷ 819 ∷ 3132 ∷ []) 18
    -- the case beside the bench set
    ∷ case 6 (0 ∷ 1 ∷ 1 ∷ 2 ∷ 0 ∷ 5 ∷ 5 ∷ 2 ∷ 2 ∷ 3 ∷ 3 ∷ 4 ∷ 4 ∷ 0 ∷ [])
    (15 ∷ 115 ∷ []) 9
    ∷ []

-- `plain_choice` with all that it calls open, to be run.
unfoldable pub plain_computed : Compound → Choice
unfolding count_trailing_zeros single members row_at put_row reduced_by used_by reduced used pushed_tag pivot_of through count near1 touch1 read_adj read_touch adj_of touch_of net_of near bond spread wave layer layers_into walk others level_ring up_ring ring_of bond_turn atom_turn length_turn plain_run no_choice more_choice choose_ring plain_choice
plain_computed c = plain_choice c

-- The model chooses what each case says.
pub plain_bench_chosen : Each (λ (k : PlainCase). ((plain_choice k.compound).rings ≡ k.rings) × ((plain_choice k.compound).total ≡ k.total)) plain_bench
unfolding plain_computed plain_bench
plain_bench_chosen = ((refl, refl), ((refl, refl), ((refl, refl), ((refl, refl), ((refl, refl), ((refl, refl), ((refl, refl), ((refl, refl), ((refl, refl), ((refl, refl), ((refl, refl), ((refl, refl), ((refl, refl), tt)))))))))))))
