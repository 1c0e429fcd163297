-- The bench set of the scope document, cases A to L, and a case beside it: what the report of each must be, row by row, and that the model gives it.
use Rattle.std.specs.Prelude.{◌≡◌, refl, List, [], ◌∷◌, ℕ}
use Rattle.std.specs.Int.Count.{count_trailing_zeros}
use Rattle.cycles.specs.Compound.{Compound}
use Rattle.cycles.specs.Rows.{Row, ClassRow, Report}
use Rattle.bondset.specs.Sets.{single, members}
use Rattle.bondset.specs.Rows.{row_at, put_row}
use Rattle.bondset.specs.Reduction.{reduced_by, used_by, reduced, used, pushed_tag}
use Rattle.bondset.specs.Index.{held_by, new_in, fresh_pivot}
use Rattle.model.specs.Fold.{through, each, count}
use Rattle.model.specs.Net.{near1, touch1, read_adj, read_touch, adj_of, touch_of, net_of, near, bond, preceding}
use Rattle.model.specs.Layer.{spread, wave, layer, layers_into, walk, ways}
use Rattle.model.specs.State.{start, marked, labels_in, relabel, joined, unmarked, kept, judged, link, tried}
use Rattle.model.specs.Loops.{above, partners, odd_loop, tip_loop, even_loop, seek, two, top_step, tops, top_loop, length_loop, length_round}
use Rattle.model.specs.Run.{more, numbered, classed, settled, run_all, report_by, report}

pub record Case : Type 0 where
  pub compound : Compound
  pub expected : Report

-- length, r, p, q, x, basis mark, class, size
abbrev row : ℕ → ℕ → ℕ → ℕ → ℕ → ℕ → ℕ → ℕ → Row
row k r p q x b c s = record { family = record { long = k; r = r; p = p; q = q; x = x }; mark = b; class = c; size = s }

-- length, relative rank, families, essential mark
abbrev class : ℕ → ℕ → ℕ → ℕ → ClassRow
class k r f e = record { long = k; rank = r; families = f; essential = e }

-- atoms, bonds; cyclomatic number, families, classes, total, rings; family rows; class rows
abbrev case : ℕ → List ℕ → ℕ → ℕ → ℕ → ℕ → ℕ → List Row → List ClassRow → Case
case n bonds y f c t s rows class_rows =
    record {
      compound = record { n = n; bytes = bonds };
      expected = record { cyclomatic = y; families = f; classes = c; total = t; rings = s; rows = rows; class_rows = class_rows };
    }

unfoldable pub bench : List Case
bench =
    -- A
    case 1 ([]) 0 0 0 0 0
    ([])
    ([])
    -- B
    ∷ case 3 (0 ∷ 1 ∷ 1 ∷ 2 ∷ 0 ∷ 2 ∷ []) 1 1 1 3 1
    (row 3 2 0 1 255 1 0 1 ∷ [])
    (class 3 1 1 1 ∷ [])
    -- C
    ∷ case 4 (0 ∷ 1 ∷ 1 ∷ 2 ∷ 2 ∷ 3 ∷ 3 ∷ 0 ∷ []) 1 1 1 4 1
    (row 4 3 0 2 1 1 0 1 ∷ [])
    (class 4 1 1 1 ∷ [])
    -- D
    ∷ case 4 (0 ∷ 1 ∷ 0 ∷ 2 ∷ 0 ∷ 3 ∷ 1 ∷ 2 ∷ 1 ∷ 3 ∷ 2 ∷ 3 ∷ []) 3 4 1 9 4
    (row 3 2 0 1 255 1 0 1 ∷ row 3 3 0 1 255 1 0 1 ∷ row 3 3 0 2 255 1 0 1 ∷ row 3 3 1 2 255 0 0 1 ∷ [])
    (class 3 3 4 0 ∷ [])
    -- E
    ∷ case 5 (0 ∷ 1 ∷ 0 ∷ 2 ∷ 0 ∷ 3 ∷ 0 ∷ 4 ∷ 1 ∷ 2 ∷ 1 ∷ 3 ∷ 1 ∷ 4 ∷ 2 ∷ 3 ∷ 2 ∷ 4 ∷ 3 ∷ 4 ∷ []) 6 10 1 18 10
    (row 3 2 0 1 255 1 0 1 ∷ row 3 3 0 1 255 1 0 1 ∷ row 3 3 0 2 255 1 0 1 ∷ row 3 3 1 2 255 0 0 1 ∷ row 3 4 0 1 255 1 0 1 ∷ row 3 4 0 2 255 1 0 1 ∷ row 3 4 0 3 255 1 0 1 ∷ row 3 4 1 2 255 0 0 1 ∷ row 3 4 1 3 255 0 0 1 ∷ row 3 4 2 3 255 0 0 1 ∷ [])
    (class 3 6 10 0 ∷ [])
    -- F
    ∷ case 8 (0 ∷ 2 ∷ 2 ∷ 3 ∷ 3 ∷ 1 ∷ 0 ∷ 4 ∷ 4 ∷ 5 ∷ 5 ∷ 1 ∷ 0 ∷ 6 ∷ 6 ∷ 7 ∷ 7 ∷ 1 ∷ []) 2 3 1 12 3
    (row 6 5 0 3 2 1 0 1 ∷ row 6 7 0 3 2 1 0 1 ∷ row 6 7 0 5 4 0 0 1 ∷ [])
    (class 6 2 3 0 ∷ [])
    -- G
    ∷ case 8 (0 ∷ 1 ∷ 0 ∷ 2 ∷ 0 ∷ 4 ∷ 1 ∷ 3 ∷ 1 ∷ 5 ∷ 2 ∷ 3 ∷ 2 ∷ 6 ∷ 3 ∷ 7 ∷ 4 ∷ 5 ∷ 4 ∷ 6 ∷ 5 ∷ 7 ∷ 6 ∷ 7 ∷ []) 5 6 1 20 6
    (row 4 3 1 2 0 1 0 1 ∷ row 4 5 1 4 0 1 0 1 ∷ row 4 6 2 4 0 1 0 1 ∷ row 4 7 3 5 1 1 0 1 ∷ row 4 7 3 6 2 1 0 1 ∷ row 4 7 5 6 4 0 0 1 ∷ [])
    (class 4 5 6 0 ∷ [])
    -- H
    ∷ case 5 (0 ∷ 1 ∷ 1 ∷ 2 ∷ 2 ∷ 3 ∷ 3 ∷ 0 ∷ 4 ∷ 0 ∷ 4 ∷ 1 ∷ 4 ∷ 2 ∷ 4 ∷ 3 ∷ []) 4 4 4 12 4
    (row 3 4 0 1 255 1 0 1 ∷ row 3 4 0 3 255 1 1 1 ∷ row 3 4 1 2 255 1 2 1 ∷ row 3 4 2 3 255 1 3 1 ∷ [])
    (class 3 1 1 1 ∷ class 3 1 1 1 ∷ class 3 1 1 1 ∷ class 3 1 1 1 ∷ [])
    -- I
    ∷ case 5 (0 ∷ 1 ∷ 1 ∷ 2 ∷ 0 ∷ 2 ∷ 2 ∷ 3 ∷ 3 ∷ 4 ∷ 2 ∷ 4 ∷ []) 2 2 2 6 2
    (row 3 2 0 1 255 1 0 1 ∷ row 3 4 2 3 255 1 1 1 ∷ [])
    (class 3 1 1 1 ∷ class 3 1 1 1 ∷ [])
    -- J
    ∷ case 10 (0 ∷ 1 ∷ 1 ∷ 2 ∷ 2 ∷ 3 ∷ 3 ∷ 4 ∷ 4 ∷ 5 ∷ 5 ∷ 6 ∷ 6 ∷ 7 ∷ 7 ∷ 8 ∷ 8 ∷ 9 ∷ 9 ∷ 0 ∷ 0 ∷ 5 ∷ []) 2 2 2 12 2
    (row 6 5 1 3 2 1 0 1 ∷ row 6 9 5 7 6 1 1 1 ∷ [])
    (class 6 1 1 1 ∷ class 6 1 1 1 ∷ [])
    -- K
    ∷ case 10 (1 ∷ 2 ∷ 1 ∷ 3 ∷ 2 ∷ 4 ∷ 3 ∷ 4 ∷ 4 ∷ 0 ∷ 0 ∷ 5 ∷ 5 ∷ 6 ∷ 5 ∷ 7 ∷ 6 ∷ 8 ∷ 7 ∷ 8 ∷ 8 ∷ 9 ∷ 9 ∷ 1 ∷ []) 3 3 3 16 6
    (row 4 4 2 3 1 1 0 1 ∷ row 4 8 6 7 5 1 1 1 ∷ row 8 9 4 5 0 1 2 4 ∷ [])
    (class 4 1 1 1 ∷ class 4 1 1 1 ∷ class 8 1 1 1 ∷ [])
    -- L
    ∷ case 10 (0 ∷ 4 ∷ 4 ∷ 1 ∷ 0 ∷ 5 ∷ 5 ∷ 2 ∷ 0 ∷ 6 ∷ 6 ∷ 3 ∷ 1 ∷ 7 ∷ 7 ∷ 2 ∷ 1 ∷ 8 ∷ 8 ∷ 3 ∷ 2 ∷ 9 ∷ 9 ∷ 3 ∷ []) 3 4 1 18 4
    (row 6 7 4 5 0 1 0 1 ∷ row 6 8 4 6 0 1 0 1 ∷ row 6 9 5 6 0 1 0 1 ∷ row 6 9 7 8 1 0 0 1 ∷ [])
    (class 6 3 4 0 ∷ [])
    ∷ []

-- Cases beside the bench set: what none of A to L shows.
unfoldable pub further_cases : List Case
further_cases =
    -- Two five-rings share a four-ring: atoms 0 and 2 are joined by way of 1, by way of 5, and by way of 4 and 3, and each two of these ways are a ring.
    -- So any two of the three rings sum to the third. All three are relevant, since only the four-ring is shorter than a five-ring. By the order of
    -- the rows the four-ring and the five-ring 0, 1, 2, 3, 4 are marked, and the five-ring 0, 5, 2, 3, 4 is their sum. Every minimum basis has the
    -- four-ring and one of the five-rings: these two are one class of relative rank 1, and the four-ring is a class of its own, and essential. To join
    -- classes through the four-ring would put all three into one.
    case 6 (0 ∷ 1 ∷ 1 ∷ 2 ∷ 0 ∷ 5 ∷ 5 ∷ 2 ∷ 2 ∷ 3 ∷ 3 ∷ 4 ∷ 4 ∷ 0 ∷ []) 2 3 2 9 3
    (row 4 5 0 2 1 1 0 1 ∷ row 5 4 1 2 255 1 1 1 ∷ row 5 5 3 4 255 0 1 1 ∷ [])
    (class 4 1 1 1 ∷ class 5 1 2 0 ∷ [])
    ∷ []

-- `report` with all that it calls open, to be run.
unfoldable pub computed : Compound → Report
unfolding count_trailing_zeros single members row_at put_row reduced_by used_by reduced used pushed_tag held_by new_in fresh_pivot through each count near1 touch1 read_adj read_touch adj_of touch_of net_of near bond preceding spread wave layer layers_into walk ways start marked labels_in relabel joined unmarked kept judged link tried above partners odd_loop tip_loop even_loop seek two top_step tops top_loop length_loop length_round more numbered classed settled run_all report_by report
computed c = report c

-- Each member of the list has P, by computation.
abbrev pub Each : {X : Type 0} → (X → Type 0) → List X → Type 0
Each P [] = Unit {0}
Each P (x ∷ xs) = P x × Each P xs

-- The model gives what each case of the bench set says.
pub bench_reported : Each (λ (k : Case). report k.compound ≡ k.expected) bench
unfolding computed bench
bench_reported = (refl, (refl, (refl, (refl, (refl, (refl, (refl, (refl, (refl, (refl, (refl, (refl, tt))))))))))))

-- The model gives what each case beside the bench set says.
pub further_reported : Each (λ (k : Case). report k.compound ≡ k.expected) further_cases
unfolding computed further_cases
further_reported = (refl, tt)
