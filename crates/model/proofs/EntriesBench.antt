-- The entries of a bench case, by computation: case K, whose ring of eight bonds goes either way round each of the two rings of four.
use mathlib.Core.Path.{◌≡◌, refl}
use mathlib.Core.List.{List, [], ◌∷◌}
use Prim.Native.Nat.{ℕ}
use Rattle.bondset.specs.Sets.{single, members}
use Rattle.bondset.specs.Rows.{row_at, put_row}
use Rattle.cycles.specs.Compound.{Compound}
use Rattle.cycles.specs.Rows.{Row}
use Rattle.cycles.specs.Through.{sum_to}
use Rattle.model.specs.Fold.{through, count}
use Rattle.model.specs.Net.{near1, touch1, read_adj, read_touch, adj_of, touch_of, net_of, near, preceding}
use Rattle.model.specs.Layer.{spread, wave, layer, layers_into}
use Rattle.model.specs.Through.{pair, in_link, layers_of}
use Rattle.model.specs.Tables.{gathered, gather_into, down_table, up_table, down_of, up_of, size_by_tables, step_by_tables, bond_by_tables, atom_by_tables}
use Rattle.model.specs.Tables.{add_into, entries_into, bond_of_row, atom_of_row, bond_counts, atom_counts}

unfoldable pub case_k : Compound
case_k = record { n = 10; bytes = 1 ∷ 2 ∷ 1 ∷ 3 ∷ 2 ∷ 4 ∷ 3 ∷ 4 ∷ 4 ∷ 0 ∷ 0 ∷ 5 ∷ 5 ∷ 6 ∷ 5 ∷ 7 ∷ 6 ∷ 8 ∷ 7 ∷ 8 ∷ 8 ∷ 9 ∷ 9 ∷ 1 ∷ [] }

abbrev pub family : ℕ → ℕ → ℕ → ℕ → ℕ → ℕ → Row
family k r p q x s = record { family = record { long = k; r = r; p = p; q = q; x = x }; mark = 1; class = 0; size = s }

unfoldable pub rows_k : List Row
rows_k = family 4 4 2 3 1 1 ∷ family 4 8 6 7 5 1 ∷ family 8 9 4 5 0 4 ∷ []

-- The bonds: of a ring of four 3 rings, of the others 4.
pub bonds_K : bond_counts case_k preceding rows_k ≡ 3 ∷ 3 ∷ 3 ∷ 3 ∷ 4 ∷ 4 ∷ 3 ∷ 3 ∷ 3 ∷ 3 ∷ 4 ∷ 4 ∷ []
unfolding case_k rows_k single members row_at put_row sum_to through count near1 touch1 read_adj read_touch adj_of touch_of net_of near preceding spread wave layer layers_into pair in_link layers_of gathered gather_into down_table up_table down_of up_of size_by_tables step_by_tables bond_by_tables add_into entries_into bond_of_row bond_counts
bonds_K = refl

-- The atoms: those where the rings part or meet have 5 rings.
pub atoms_K : atom_counts case_k preceding rows_k ≡ 4 ∷ 5 ∷ 3 ∷ 3 ∷ 5 ∷ 5 ∷ 3 ∷ 3 ∷ 5 ∷ 4 ∷ []
unfolding case_k rows_k single members row_at put_row sum_to through count near1 touch1 read_adj read_touch adj_of touch_of net_of near preceding spread wave layer layers_into layers_of gathered gather_into down_table up_table down_of up_of size_by_tables atom_by_tables add_into entries_into atom_of_row atom_counts
atoms_K = refl
