-- What the loops over top atoms and over lengths do to the engine.
use mathlib.Core.Path.{◌≡◌, sym, ap, ◌∙◌}
use mathlib.Core.Bool.{Bool, cond}
use mathlib.Core.List.{List}
use Prim.Native.Nat.{ℕ, ◌+◌, ◌-◌, ◌/◌, ◌<◌, ◌≤◌}
use native.Mathlib.Omega.{arith}
use borrow.Author.Tests.{lt-ltb, le-ltb}
use lib.ListN.{replicate}
use Rattle.std.specs.Prelude.{Some}
use Rattle.model.specs.Fold.{through, count}
use Rattle.model.specs.Net.{Net, preceding}
use Rattle.model.specs.Layer.{layers_into}
use Rattle.model.specs.Loops.{Running, running, seek, top_loop, length_loop, length_round}
use Rattle.atoms.specs.Nets.{neighbours}
use Rattle.atoms.proofs.Loops.{Upto, upto_start, upto_next}
use Rattle.search.proofs.Same.{layers_into_same}
use Rattle.ledger.specs.Ledger.{Ledger, settled_in, unmarked}
use Rattle.candidates.specs.declared.Going.{Going}
use Rattle.candidates.specs.Engine.{Engine, attempted}
use Rattle.candidates.specs.Going.{engine_of, Tries}
use Rattle.engine.specs.declared.Found.{Found}
use Rattle.engine.specs.declared.lengths.Running as run
use Rattle.engine.specs.Lengths.{settled_by, round_by, begun, run_by, running_of, Runs}

-- ---- one top atom

-- The layers are written, and then the candidates are tried.
pub top_is : (G : Net) (from k r : ℕ) {before after : Going} (us out table sizes : List ℕ) {us' out' sizes' : List ℕ}
    → us' ≡ layers_into (neighbours G.adj) (preceding r) r (k / 2) us
    → Tries (seek G (attempted G from) k r us') before out sizes after out' sizes'
    → running us' (engine_of after out' table sizes') ≡ top_loop G (attempted G from) preceding k r (running us (engine_of before out table sizes))
unfolding top_loop
top_is G from k r {before} us out table sizes {us'} e tries =
    ap (λ (E : Engine). running us' E) (tries.is table)
    ∙ ap (λ (us : List ℕ). running us (seek G (attempted G from) k r us (engine_of before out table sizes)))
    (e ∙ layers_into_same G (preceding r) r (k / 2) us)

-- ---- one length

module _ (G : Net) (from full k : ℕ) (s : Running Engine) where
  -- All top atoms are tried, and the length is settled.
  pub round_is : {t : Running Engine} {L : Ledger} → s.state.ledger.marks < full → t ≡ length_loop G (attempted G from) preceding k s
      → L ≡ settled_in k s.state.ledger.families t.state.ledger
      → running t.layers (record { ledger = L; rings = t.state.rings; sizes = t.state.sizes }) ≡ round_by G from full k s
  unfolding length_round settled_by
  round_is {t} more tried settled =
      ap (λ (L : Ledger). running t.layers (record { ledger = L; rings = t.state.rings; sizes = t.state.sizes })) settled
      ∙ ap finish tried
      ∙ sym (ap (λ (b : Bool). cond b (finish (length_loop G (attempted G from) preceding k s)) s) (lt-ltb s.state.ledger.marks full more))
    where
      finish : Running Engine → Running Engine
      finish x = running x.layers (settled_by k s.state x.state)

  -- The basis is full: nothing is done.
  pub round_full : full ≤ s.state.ledger.marks → s ≡ round_by G from full k s
  unfolding length_round
  round_full l = rw (le-ltb s.state.ledger.marks full l)

-- ---- all lengths

-- One turn of a loop over the lengths from 3 on.
pub length_turn_lem : {S : Type 0} (step : ℕ → S → S) {k : ℕ} {start state next : S}
    → 3 ≤ k → next ≡ step k state → Upto step 3 start (k - 3) state → Upto step 3 start (k + 1 - 3) next
length_turn_lem step {k} {start} {state} {next} l e upto =
    let i : k + 1 - 3 ≡ k - 3 + 1 = omega arith in
    rw i (upto_next step (omega arith) e upto)

-- Nothing is counted before the first length.
pub run_start : (step : ℕ → Running Engine → Running Engine) {L : Ledger} {out table sizes : List ℕ} → L ≡ unmarked out table
    → Upto step 3 (running (replicate 33 0) (begun out table sizes)) 0 (running (replicate 33 0) (record { ledger = L; rings = Some 0; sizes = sizes }))
unfolding begun
run_start step e = rw e (upto_start step 3 _)

-- What the lengths leave is what the engine does.
pub run_is : (G : Net) (from full : ℕ) (t : run.Running) {out table sizes out' table' sizes' : List ℕ}
    → running_of t out' table' sizes' ≡ through (round_by G from full) (count 3 (G.n - 2)) (running (replicate 33 0) (begun out table sizes))
    → let tally = t.going.ledger.classes.tally in
    let found : Found =
    record { marks = tally.marks; short = tally.short; families = tally.families; classes = tally.classes; total = tally.total; rings = t.going.rings } in
    Runs G from full out table sizes found out' table' sizes'
unfolding run_by
run_is G from full t {out} {table} {sizes} {out'} {table'} {sizes'} all =
    let tally = t.going.ledger.classes.tally in
    record {
      marks = ap (λ (E : Engine). E.ledger.marks) is;
      short = ap (λ (E : Engine). E.ledger.short) is;
      families = ap (λ (E : Engine). E.ledger.families) is;
      classes = ap (λ (E : Engine). E.ledger.classes) is;
      total = ap (λ (E : Engine). E.ledger.total) is;
      rings = ap (λ (E : Engine). E.rings) is;
      rows = ap (λ (E : Engine). E.ledger.out) is;
      class_rows = ap (λ (E : Engine). E.ledger.table) is;
      sized = ap (λ (E : Engine). E.sizes) is;
      few_marks = tally.marks_fit;
      few_classes = omega (arith, tally.classes_fit, tally.short_fit, tally.marks_fit);
    }
  where
    is : engine_of t.going out' table' sizes' ≡ run_by G from full out table sizes
    is = ap (λ (x : Running Engine). x.state) all
