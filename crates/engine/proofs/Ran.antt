-- The engine's run over the atoms and bonds of an accepted compound leaves the bytes of the right report.
use mathlib.Core.Path.{◌≡◌, ap, ◌∙◌}
use mathlib.Core.List.{List, ◌++◌, map, append-nil}
use Prim.Native.Nat.{ℕ, ◌+◌, ◌-◌, ◌/◌, ◌^◌, ◌<◌, ◌≤◌}
use native.Mathlib.Nat.{mod-eq_of_lt}
use native.Mathlib.Omega.{arith}
use lib.ListN.{length, length-map}
use Rattle.spans.specs.Basis.{All}
use Rattle.cycles.specs.Compound.{Compound, cyclomatic}
use Rattle.cycles.specs.Refusal.{Accepted}
use Rattle.cycles.specs.Rows.{Row, Report, most}
use Rattle.cycles.proofs.Ranks.{all_each}
use Rattle.answers.specs.Answered.{family_bytes, class_bytes, over}
use Rattle.model.specs.Net.{net_of, preceding}
use Rattle.model.specs.State.{State}
use Rattle.model.specs.Run.{run_all, report_by, report}
use Rattle.model.proofs.Meets.{Reached, run_all_reached, reached_few, accepted_ready}
use Rattle.counting.specs.Counts.{counted}
use Rattle.ledger.specs.Ledger.{Ledger}
use Rattle.candidates.specs.Engine.{Engine}
use Rattle.engine.specs.Lengths.{run_by}
use Rattle.engine.proofs.Laid.{length_laid, laid_all}
use Rattle.engine.proofs.Keeps.{written_rows, written_classes, row_bytes, class_row_bytes, row_wide, class_wide, room_8, room_5}
use Rattle.engine.proofs.Sizes.{written_sizes}
use Rattle.engine.proofs.Steps.{Holds, run_holds}
use Rattle.engine.proofs.Rows.{Small, kept_small, ascending_few, each_rows, each_classes, marks_many}

-- What the engine has when it has run into these buffers, R being the report.
pub record Ran (out₀ table₀ sizes₀ : List ℕ) (from : ℕ) (R : Report) (E : Engine) : Type 0 where
  pub few : R.families < 2 ^ 64
  pub families : E.ledger.families ≡ R.families
  pub classes : E.ledger.classes ≡ R.classes
  pub total : E.ledger.total ≡ R.total
  pub rings : E.rings ≡ counted most R.rings
  -- the rows, as many as there is room for; all of them, if they fit
  pub out : E.ledger.out ≡ written_rows out₀ R.rows
  pub rows : R.families ≤ length out₀ / 8 → E.ledger.out ≡ over (family_bytes R.rows) out₀
  -- the class rows likewise
  pub table : E.ledger.table ≡ written_classes table₀ R.class_rows
  pub class_rows : R.families ≤ 4096 → R.classes ≤ length table₀ / 5 → E.ledger.table ≡ over (class_bytes R.class_rows) table₀
  -- the sizes of the rows asked for
  pub sizes : R.rings ≤ most → E.sizes ≡ written_sizes from sizes₀ R.rows
  -- the buffers keep their lengths
  pub out_long : length E.ledger.out ≡ length out₀
  pub table_long : length E.ledger.table ≡ length table₀
  pub sizes_long : length E.sizes ≡ length sizes₀

module _ (c : Compound) (accepted : Accepted c) where
  abbrev end : State
  end = (run_all (net_of c) preceding (cyclomatic c)).state

  reached : Reached c (λ a. a) preceding (accepted_ready c accepted) (3 + (c.n - 2)) (run_all (net_of c) preceding (cyclomatic c))
  reached = run_all_reached c (λ a. a) preceding (accepted_ready c accepted)

  rows_small : All Small (map (λ row. row.family) end.done)
  rows_small =
      all_each (map (λ row. row.family) end.done)
      (λ f i. kept_small c (λ a. a) preceding (accepted_ready c accepted) ((reached.listed.kept f).0 i).0)

  rows_few : length end.done < 2 ^ 64
  rows_few = omega (arith, ascending_few reached.listed.ordered rows_small, length-map end.done (λ (row : Row). row.family))

  module _ (out table sizes : List ℕ) (from : ℕ) where
    abbrev E : Engine
    E = run_by (net_of c) from (cyclomatic c) out table sizes

    holds : Holds out table sizes from end E
    holds = run_holds out table sizes from c (λ a. a) (accepted_ready c accepted)

    rows_are : end.done ++ end.here ≡ end.done
    rows_are = rw reached.before.here (append-nil end.done)

    number : length end.done + length end.here ≡ length end.done
    number = omega (arith, ap length reached.before.here)

    few : length end.done + length end.here < 2 ^ 64
    few = omega (arith, number, rows_few)

    out_is : E.ledger.out ≡ written_rows out end.done
    out_is = holds.keeps.out few ∙ ap (written_rows out) rows_are

    table_is : E.ledger.table ≡ written_classes table end.table
    table_is = ap (λ (L : Ledger). L.table) holds.keeps.is

    classes_fit_lem : length end.done ≤ 4096 → length end.table ≤ length table / 5 → E.ledger.table ≡ over (class_bytes end.table) table
    classes_fit_lem many fit =
        let marked = marks_many c (λ a. a) reached.listed.marks in
        table_is
        ∙ laid_all 5 class_row_bytes class_wide room_5 table end.table fit
        ∙ ap (λ (bytes : List ℕ). over bytes table)
        (rw reached.table_is
        (each_classes end.done 0 reached.firsts
        (omega (arith, marked, reached.before.marks, reached_few c (λ a. a) preceding (accepted_ready c accepted) reached)) many))

    -- The engine's run leaves the report of an accepted compound.
    pub engine_ran : Ran out table sizes from (report c) E
    unfolding report report_by
    engine_ran =
        record {
          few = rows_few;
          families = ap (λ (L : Ledger). L.families) holds.keeps.is ∙ mod-eq_of_lt few ∙ number;
          classes = ap (λ (L : Ledger). L.classes) holds.keeps.is;
          total = ap (λ (L : Ledger). L.total) holds.keeps.is;
          rings = holds.rings;
          out = out_is;
          rows = λ fit.
              out_is ∙ laid_all 8 row_bytes row_wide room_8 out end.done fit ∙ ap (λ (bytes : List ℕ). over bytes out) (each_rows end.done);
          table = table_is;
          class_rows = classes_fit_lem;
          sizes = λ l. holds.sizes l few ∙ ap (written_sizes from sizes) rows_are;
          out_long = ap length out_is ∙ length_laid 8 row_bytes row_wide room_8 out end.done;
          table_long = ap length table_is ∙ length_laid 5 class_row_bytes class_wide room_5 table end.table;
          sizes_long = holds.wide;
        }
