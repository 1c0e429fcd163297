-- A run on a compound that stands gives its report.
use mathlib.Core.Path.{◌≡◌, refl, sym, ap, ◌∙◌}
use mathlib.Core.Logic.{inl, inr}
use mathlib.Core.List.{List, [], ◌∷◌, ◌++◌, map}
use Prim.Native.Nat.{ℕ, zero, suc, ◌+◌, ◌-◌, ◌<◌}
use native.Mathlib.Omega.{arith}
use lib.ListN.{length, get_or, take, drop, replicate, length-replicate, get_or-append, get_or-eq_default}
use lib.Seq.{get_or-append-add, get_or-take, get_or-drop}
use Rattle.bondset.proofs.Laws.{lt_or_ge}
use Rattle.cycles.specs.Compound.{Compound, cyclomatic}
use Rattle.cycles.specs.Rows.{Row}
use Rattle.cycles.specs.Refusal.{Accepted}
use Rattle.answers.specs.Answered.{over, size_of}
use Rattle.model.specs.Net.{Net, net_of}
use Rattle.model.specs.Run.{report}
use Rattle.model.proofs.NetRead.{get_or_zeros}
use Rattle.atoms.specs.declared.nets.Net as code
use Rattle.atoms.specs.declared.nets.View.{View}
use Rattle.candidates.specs.Nets.{graph, lent_graph}
use Rattle.candidates.specs.Engine.{Engine}
use Rattle.engine.specs.declared.Found.{Found}
use Rattle.engine.specs.Lengths.{run_by, Runs}
use Rattle.engine.specs.Reports.{Stands, Reports}
use Rattle.engine.proofs.Sizes.{written_from, written_sizes}
use Rattle.engine.proofs.Ran.{Ran, engine_ran}

-- ---- sizes over zeros

get_or_over_zeros : (xs : List ℕ) (k j : ℕ) → get_or (over xs (replicate k 0)) j 0 ≡ get_or xs j 0
unfolding over
get_or_over_zeros xs k j = elim (lt_or_ge j (length xs)) [
  | inl h ↦ get_or-append xs (drop (length xs) (replicate k 0)) 0 j h
  | inr h ↦
      let split : j ≡ length xs + (j - length xs) = omega arith in
      ap (λ (i : ℕ). get_or (xs ++ drop (length xs) (replicate k 0)) i 0) split
      ∙ get_or-append-add xs (drop (length xs) (replicate k 0)) (j - length xs) 0
      ∙ get_or-drop (length xs) (replicate k 0) (j - length xs) 0
      ∙ get_or_zeros k (length xs + (j - length xs))
      ∙ sym (get_or-eq_default xs 0 h)
]

get_or_sizes : (rows : List Row) (i : ℕ) → get_or (map (λ row. row.size) rows) i 0 ≡ size_of rows i
unfolding size_of
get_or_sizes [] i = refl
get_or_sizes (row ∷ rows) zero = refl
get_or_sizes (row ∷ rows) (suc i) = get_or_sizes rows i

sizes_over_zeros : (from k : ℕ) (rows : List Row) (j : ℕ) → j < k → get_or (written_sizes from (replicate k 0) rows) j 0 ≡ size_of rows (from + j)
unfolding written_from
sizes_over_zeros from k rows j h =
    let xs : List ℕ = map (λ row. row.size) rows in
    let inside : j < length (replicate {A = ℕ} k 0) = rw (length-replicate {A = ℕ} k 0) h in
    get_or_over_zeros (take (length (replicate {A = ℕ} k 0)) (drop from xs)) k j
    ∙ get_or-take (length (replicate {A = ℕ} k 0)) (drop from xs) j 0 inside
    ∙ get_or-drop from xs j 0
    ∙ get_or_sizes rows (from + j)

-- ---- a run

-- A net that stands is the compound's.
stands_net : {c : Compound} {net : code.Net} → Stands c net → graph net ≡ net_of c
unfolding net_of
stands_net s = rw (s.atoms, s.neighbours, s.bonds)

-- It is the compound's as it is lent, too.
lent_stands_net : {c : Compound} {net : code.Net} (view : View) → Stands c net → view.n ≡ net.n → view.adj.now ≡ net.adj
    → view.touch.now ≡ net.touch → lent_graph view ≡ net_of c
lent_stands_net view s n adj touch = rw (n, adj, touch) (stands_net s)

-- A run on the net of an accepted compound reports it.
net_run_reports : {c : Compound} {G : Net} {from full : ℕ} {out table sizes out' table' sizes' : List ℕ} {r : Found}
    → Accepted c → G ≡ net_of c → full ≡ cyclomatic c → Runs G from full out table sizes r out' table' sizes'
    → Reports c from out table sizes r out' table' sizes'
net_run_reports {c} {G} {from} {full} {out} {table} {sizes} {out'} {table'} {sizes'} {r} accepted g e runs =
    let E : Engine = run_by (net_of c) from (cyclomatic c) out table sizes in
    let run : Runs (net_of c) from (cyclomatic c) out table sizes r out' table' sizes' = rw (g, e) at runs in
    let ran : Ran out table sizes from (report c) E = engine_ran c accepted out table sizes from in
    record {
      families = run.families ∙ ran.families;
      classes = run.classes ∙ ran.classes;
      total = run.total ∙ ran.total;
      rings = run.rings ∙ ran.rings;
      rows = λ fit. run.rows ∙ ran.rows fit;
      class_rows = λ many fit. run.class_rows ∙ ran.class_rows many fit;
      sized = λ zero within j h.
          ap (λ (xs : List ℕ). get_or xs j 0) (run.sized ∙ ran.sizes within ∙ ap (λ (xs : List ℕ). written_sizes from xs (report c).rows) zero)
          ∙ sizes_over_zeros from (length sizes) (report c).rows j h;
      out_kept = ap length run.rows ∙ ran.out_long;
      table_kept = ap length run.class_rows ∙ ran.table_long;
      sizes_kept = ap length run.sized ∙ ran.sizes_long;
    }

-- So does a run on a net that stands,
pub run_reports : {c : Compound} {net : code.Net} {from full : ℕ} {out table sizes out' table' sizes' : List ℕ} {r : Found}
    → Stands c net → full ≡ cyclomatic c → Runs (graph net) from full out table sizes r out' table' sizes'
    → Reports c from out table sizes r out' table' sizes'
run_reports s e runs = net_run_reports s.accepted (stands_net s) e runs

-- and one on a net that stands, as it is lent.
pub lent_run_reports : {c : Compound} {net : code.Net} (view : View) {from full : ℕ} {out table sizes out' table' sizes' : List ℕ} {r : Found}
    → Stands c net → view.n ≡ net.n → view.adj.now ≡ net.adj → view.touch.now ≡ net.touch → full ≡ cyclomatic c
    → Runs (lent_graph view) from full out table sizes r out' table' sizes' → Reports c from out table sizes r out' table' sizes'
lent_run_reports view s n adj touch e runs = net_run_reports s.accepted (lent_stands_net view s n adj touch) e runs
