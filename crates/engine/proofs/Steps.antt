-- The engine goes along with the model: candidate by candidate, length by length, through all rounds.
use mathlib.Core.Path.{◌≡◌, refl, sym, ap, ◌∙◌, subst}
use mathlib.Core.Bool.{Bool, true, false, cond}
use mathlib.Core.List.{List, [], ◌∷◌, ◌++◌, map, map-append, append_assoc, append-nil}
use Prim.Native.Nat.{ℕ, zero, suc, ◌+◌, ◌-◌, ◌*◌, ◌/◌, ◌^◌, ◌<◌, ◌≤◌}
use native.Mathlib.Nat.{mod-eq_of_lt}
use native.Mathlib.Numerals.{add-one}
use native.Mathlib.Omega.{arith}
use borrow.Author.Tests.{lt-ltb, eqb-false}
use lib.Dec.{eqb, ltb}
use lib.ListN.{length, replicate, length-append, length-map}
use Rattle.std.specs.Prelude.{Option}
use Rattle.bondset.specs.Reduction.{reduced, used}
use Rattle.cycles.specs.Compound.{Compound, cyclomatic}
use Rattle.cycles.specs.Family.{Family}
use Rattle.cycles.specs.Rows.{Row, most}
use Rattle.model.specs.Fold.{through, count}
use Rattle.model.specs.Net.{Net, net_of, preceding}
use Rattle.model.specs.State.{State, start, marked, unmarked, kept, judged, tried}
use Rattle.model.specs.Loops.{Running, running, length_loop, length_round}
use Rattle.model.specs.Run.{Run, classed, settled, round, run_all}
use Rattle.model.proofs.Ready.{Ready}
use Rattle.model.proofs.Related.{length_related}
use Rattle.model.proofs.Items.{Try, judge, tries, tries_items, loop_tries}
use Rattle.model.proofs.Trace.{Fits, length_along}
use Rattle.model.proofs.Meets.{Reached, round_reached, run_reached}
use Rattle.counting.specs.Counts.{added, counted}
use Rattle.counting.proofs.Added.{added_counted, counted_none, counted_within}
use Rattle.ledger.specs.Ledger.{Ledger}
use Rattle.candidates.specs.Engine.{Engine, put_size, size_in, kept_by, attempted}
use Rattle.engine.specs.Lengths.{settled_by, begun, round_by, run_by}
use Rattle.engine.proofs.Laid.{laid_none}
use Rattle.engine.proofs.Keeps.{word, rows_of, Keeps, keeps_kept, keeps_settled, row_bytes, class_row_bytes, row_wide, class_wide, room_8, room_5}
use Rattle.engine.proofs.Sizes.{written_from, written_sizes, written_none, length_put_size, size_next}

-- The engine holds what the model's state says: the ledger, the count of rings, and, if the rings do not exceed the count and the rows are fewer
-- than 2^64, the sizes of the rows asked for.
pub record Holds (out₀ table₀ sizes₀ : List ℕ) (from : ℕ) (st : State) (E : Engine) : Type 0 where
  pub keeps : Keeps out₀ table₀ st E.ledger
  pub rings : E.rings ≡ counted most st.rings
  pub wide : length E.sizes ≡ length sizes₀
  pub sizes : st.rings ≤ most → rows_of st < 2 ^ 64 → E.sizes ≡ written_sizes from sizes₀ (st.done ++ st.here)

-- ---- one candidate

-- A state with one row more, of so many rings.
record Grown (size : ℕ) (st after : State) : Type 0 where
  row : Row
  sized : row.size ≡ size
  done : after.done ≡ st.done
  here : after.here ≡ st.here ++ (row ∷ [])
  rings : after.rings ≡ st.rings + size

kept_grown : (f : Family) (size rest names : ℕ) (st : State)
    → ((reduced st.rows st.pivots st.short st.marks rest ≡ 0 → ⊥) → st.marks < 82) → Grown size st (kept f size rest names st)
unfolding kept marked unmarked
kept_grown f size rest names st room = go (eqb (reduced st.rows st.pivots st.short st.marks rest) 0) refl
  where
    u : ℕ
    u = used st.rows st.tags st.pivots st.short st.marks rest names

    e : ℕ
    e = reduced st.rows st.pivots st.short st.marks rest

    go : (b : Bool) → eqb e 0 ≡ b
        → Grown size st (cond b (unmarked f size (u / 2 ^ st.short * 2 ^ st.short) st) (cond (ltb st.marks 82) (marked f size e u st) st))
    go true z = record { row = _; sized = refl; done = refl; here = refl; rings = refl }
    go false z =
        rw (lt-ltb st.marks 82 (room (eqb-false e 0 z))) (record { row = _; sized = refl; done = refl; here = refl; rings = refl })

-- What a candidate does to the engine.
abbrev judge_by : ℕ → Try → Engine → Engine
judge_by from t E =
    let L = E.ledger in
    let rest = reduced L.rows L.pivots 0 L.short t.ring in
    let names = used L.rows L.tags L.pivots 0 L.short t.ring 0 in
    cond (eqb rest 0) E (kept_by from t.family t.size rest names E)

module _ {out₀ table₀ sizes₀ : List ℕ} {from : ℕ} where
  families_are : {st : State} {E : Engine} → Holds out₀ table₀ sizes₀ from st E → E.ledger.families ≡ word (rows_of st)
  families_are h = ap (λ (L : Ledger). L.families) h.keeps.is

  holds_kept_lem : {st : State} {E : Engine} (f : Family) (size rest names : ℕ) → Grown size st (kept f size rest names st)
      → Holds out₀ table₀ sizes₀ from st E → Holds out₀ table₀ sizes₀ from (kept f size rest names st) (kept_by from f size rest names E)
  unfolding kept_by
  holds_kept_lem {st} {E} f size rest names g h =
      record {
        keeps = keeps_kept f size rest names h.keeps;
        rings = sum ∙ ap (counted most) (sym g.rings);
        wide = length_put_size from E.ledger.families _ E.sizes ∙ h.wide;
        sizes = written;
      }
    where
      after : State
      after = kept f size rest names st

      sum : added most E.rings size ≡ counted most (st.rings + size)
      sum = ap (λ (rings : Option ℕ). added most rings size) h.rings ∙ added_counted most st.rings size

      fits : st.rings + size ≤ most → size_in (added most E.rings size) size ≡ size
      fits l = ap (λ (rings : Option ℕ). size_in rings size) (sum ∙ counted_within most (st.rings + size) l)

      written : after.rings ≤ most → rows_of after < 2 ^ 64
          → put_size from E.ledger.families (size_in (added most E.rings size) size) E.sizes
          ≡ written_sizes from sizes₀ (after.done ++ after.here)
      written l few =
          let rows : List Row = st.done ++ st.here in
          let less : rows_of st < 2 ^ 64 =
          omega (arith, ap length g.done, ap length g.here, length-append st.here (g.row ∷ [])) in
          let fit : st.rings + size ≤ most = omega (arith, g.rings) in
          let number : E.ledger.families ≡ length rows = families_are h ∙ mod-eq_of_lt less ∙ sym (length-append st.done st.here) in
          let before : E.sizes ≡ written_sizes from sizes₀ rows = h.sizes (omega arith) less in
          rw (fits fit, number, before, g.done, g.here, ← append_assoc st.done st.here (g.row ∷ []), ← g.sized)
          (size_next from sizes₀ rows g.row)

-- All along a length the rows of shorter lengths stay.
record During (out₀ table₀ sizes₀ : List ℕ) (from : ℕ) (D : List Row) (st : State) (E : Engine) : Type 0 where
  holds : Holds out₀ table₀ sizes₀ from st E
  done : st.done ≡ D

module _ {out₀ table₀ sizes₀ : List ℕ} {from : ℕ} {D : List Row} where
  during_judged : (t : Try) (st : State) (E : Engine) → Fits t st → During out₀ table₀ sizes₀ from D st E
      → During out₀ table₀ sizes₀ from D (judge t st) (judge_by from t E)
  unfolding judged
  during_judged t st E room r =
      subst (λ (x : ℕ). During out₀ table₀ sizes₀ from D (judge t st) (cond (eqb x 0) E (kept_by from t.family t.size x u' E))) (sym a_same)
      (subst (λ (y : ℕ). During out₀ table₀ sizes₀ from D (judge t st) (cond (eqb a 0) E (kept_by from t.family t.size a y E))) (sym u_same)
      (go (eqb a 0) refl))
    where
      a : ℕ
      a = reduced st.rows st.pivots 0 st.short t.ring

      u : ℕ
      u = used st.rows st.tags st.pivots 0 st.short t.ring 0

      u' : ℕ
      u' = used E.ledger.rows E.ledger.tags E.ledger.pivots 0 E.ledger.short t.ring 0

      a_same : reduced E.ledger.rows E.ledger.pivots 0 E.ledger.short t.ring ≡ a
      a_same = ap (λ (L : Ledger). reduced L.rows L.pivots 0 L.short t.ring) r.holds.keeps.is

      u_same : u' ≡ u
      u_same = ap (λ (L : Ledger). used L.rows L.tags L.pivots 0 L.short t.ring 0) r.holds.keeps.is

      go : (b : Bool) → eqb a 0 ≡ b
          → During out₀ table₀ sizes₀ from D (cond b st (kept t.family t.size a u st)) (cond b E (kept_by from t.family t.size a u E))
      go true z = r
      go false z =
          let g : Grown t.size st (kept t.family t.size a u st) = kept_grown t.family t.size a u st (room (eqb-false a 0 z)) in
          record { holds = holds_kept_lem t.family t.size a u g r.holds; done = g.done ∙ r.done }

-- ---- the end of a length

sizes_classed : (labels : List ℕ) (rows : List Row) → map (λ row. row.size) (map (classed labels) rows) ≡ map (λ row. row.size) rows
unfolding classed
sizes_classed labels [] = refl
sizes_classed labels (row ∷ rows) = ap (λ (xs : List ℕ). row.size ∷ xs) (sizes_classed labels rows)

module _ {out₀ table₀ sizes₀ : List ℕ} {from : ℕ} where
  holds_settled : (k : ℕ) (before : Engine) {st : State} {E : Engine} → before.ledger.families ≡ word (length st.done)
      → Holds out₀ table₀ sizes₀ from st E → Holds out₀ table₀ sizes₀ from (settled k st) (settled_by k before E)
  unfolding settled settled_by
  holds_settled k before {st} {E} first h =
      record {
        keeps = keeps_settled k before.ledger.families first h.keeps;
        rings = h.rings;
        wide = h.wide;
        sizes = λ l few. h.sizes l (omega (arith, few, many)) ∙ same;
      }
    where
      labels : List ℕ
      labels = (settled k st).labels

      many : length (settled k st).done ≡ rows_of st
      many = length-append st.done (map (classed labels) st.here) ∙ ap (λ (n : ℕ). length st.done + n) (length-map st.here (classed labels))

      same : written_sizes from sizes₀ (st.done ++ st.here) ≡ written_sizes from sizes₀ ((settled k st).done ++ [])
      same =
          ap (written_from from sizes₀)
          (map-append (λ (row : Row). row.size) st.done st.here
          ∙ ap (λ (xs : List ℕ). map (λ (row : Row). row.size) st.done ++ xs) (sym (sizes_classed labels st.here))
          ∙ sym (map-append (λ (row : Row). row.size) st.done (map (classed labels) st.here))
          ∙ ap (map (λ (row : Row). row.size)) (sym (append-nil (st.done ++ map (classed labels) st.here))))

-- ---- all lengths

module _ (out₀ table₀ sizes₀ : List ℕ) (from : ℕ) (c : Compound) (rank : ℕ → ℕ) (ready : Ready c rank preceding) where
  -- The layers are the same, and the engine holds what the state says.
  record Level (s : Run) (t : Running Engine) : Type 0 where
    layers : s.layers ≡ t.layers
    holds : Holds out₀ table₀ sizes₀ from s.state t.state

  abbrev G : Net
  G = net_of c

  module _ {k : ℕ} {s : Run} {t : Running Engine} (low : 3 ≤ k) (high : k ≤ c.n) (r : Reached c rank preceding ready k s) (level : Level s t) where
    layers_after : (length_loop G (tried G) preceding k s).layers ≡ (length_loop G (attempted G from) preceding k t).layers
    layers_after =
        (length_related (λ (x : State) (y : Engine). Unit {0}) G (tried G) (attempted G from) (λ us d f x y u. tt) preceding k s t
        (record { layers = level.layers; state = tt })).layers

    state_after : (length_loop G (tried G) preceding k s).state ≡ through judge (tries c rank preceding ready k s.layers) s.state
    unfolding tried
    state_after = loop_tries c rank preceding ready k low high judge s (omega (arith, r.room))

    engine_after : (length_loop G (attempted G from) preceding k t).state ≡ through (judge_by from) (tries c rank preceding ready k t.layers) t.state
    unfolding attempted
    engine_after = loop_tries c rank preceding ready k low high (judge_by from) t (omega (arith, r.room, ap length level.layers))

    during_length : During out₀ table₀ sizes₀ from s.state.done (length_loop G (tried G) preceding k s).state
        (length_loop G (attempted G from) preceding k t).state
    during_length =
        rw (state_after, engine_after, ← level.layers)
        (length_along c rank preceding ready (During out₀ table₀ sizes₀ from s.state.done) (judge_by from) during_judged t.state r.before
        (tries_items c rank preceding ready k low high s.layers (omega (arith, r.room))) (record { holds = level.holds; done = refl }))

    families_first : t.state.ledger.families ≡ word (length (length_loop G (tried G) preceding k s).state.done)
    families_first =
        families_are level.holds ∙ ap word (omega (arith, ap length r.before.here, ap length during_length.done))

    level_length : let x = length_loop G (tried G) preceding k s in let y = length_loop G (attempted G from) preceding k t in
        Level (running x.layers (settled k x.state)) (running y.layers (settled_by k t.state y.state))
    level_length = record { layers = layers_after; holds = holds_settled k t.state families_first during_length.holds }

    marks_are : t.state.ledger.marks ≡ s.state.marks
    marks_are = ap (λ (L : Ledger). L.marks) level.holds.keeps.is

    level_round : Level (round G preceding (cyclomatic c) k s) (round_by G from (cyclomatic c) k t)
    unfolding length_round
    level_round =
        subst (λ (m : ℕ). Level (round G preceding (cyclomatic c) k s) (cond (ltb m (cyclomatic c)) next t)) (sym marks_are)
        (go (ltb s.state.marks (cyclomatic c)))
      where
        next : Running Engine
        next = let y = length_loop G (attempted G from) preceding k t in running y.layers (settled_by k t.state y.state)

        go : (b : Bool)
            → Level
            (cond b (let x = length_loop G (tried G) preceding k s in running x.layers (settled k x.state)) s)
            (cond b next t)
        go true = level_length
        go false = level

  level_rounds : (j k : ℕ) {s : Run} {t : Running Engine} → 3 ≤ k → j ≤ c.n + 1 - k → Reached c rank preceding ready k s → Level s t
      → Level (through (round G preceding (cyclomatic c)) (count k j) s) (through (round_by G from (cyclomatic c)) (count k j) t)
  unfolding through count
  level_rounds zero k low high r level = level
  level_rounds (suc j) k {s} low high r level =
      let next : Reached c rank preceding ready (suc k) (round G preceding (cyclomatic c) k s) =
      rw (add-one k) at (round_reached c rank preceding ready low (omega arith) r) in
      level_rounds j (suc k) (omega arith) (omega arith) next (level_round low (omega arith) r level)

  level_start : Level (running (replicate 33 0) start) (running (replicate 33 0) (begun out₀ table₀ sizes₀))
  unfolding start begun
  level_start =
      record {
        layers = refl;
        holds = record {
          keeps = record {
            is = rw (laid_none 5 class_row_bytes class_wide room_5 table₀);
            out = λ few. sym (laid_none 8 row_bytes row_wide room_8 out₀);
          };
          rings = counted_none most;
          wide = refl;
          sizes = λ l few. sym (written_none from sizes₀);
        };
      }

  -- After all rounds the engine holds what the model's state says.
  pub run_holds : Holds out₀ table₀ sizes₀ from (run_all G preceding (cyclomatic c)).state (run_by G from (cyclomatic c) out₀ table₀ sizes₀)
  unfolding run_all run_by net_of through count
  run_holds = (level_rounds (c.n - 2) 3 (omega arith) (omega arith) (run_reached c rank preceding ready 0 (omega arith)) level_start).holds
