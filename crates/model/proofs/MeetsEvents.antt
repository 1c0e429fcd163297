-- What the events of one length say of its rows: families, sizes, lengths.
use mathlib.Core.Path.{◌≡◌, refl, ap}
use mathlib.Core.List.{List, [], ◌∷◌, map}
use Prim.Native.Nat.{ℕ, ◌+◌}
use native.Mathlib.Omega.{arith}
use Rattle.spans.specs.Elements.{◌∈◌}
use Rattle.spans.specs.Basis.{All, Part}
use Rattle.spans.specs.Graded.{total}
use Rattle.spans.proofs.Replace.{total_append}
use Rattle.cycles.specs.Compound.{Compound}
use Rattle.cycles.specs.Ring.{len}
use Rattle.cycles.specs.Family.{Family, Kept, Size}
use Rattle.cycles.specs.Rows.{Row, sizes}
use Rattle.cycles.proofs.Bases.{prototype_long}
use Rattle.model.specs.Run.{classed}
use Rattle.model.proofs.Ready.{Ready}
use Rattle.model.proofs.Items.{Try}
use Rattle.model.proofs.Trace.{Event, row_of, lengths, sizes_of, Steps}

-- The rows of events, with their classes from the labels.
abbrev pub rows_of : List ℕ → List Event → List Row
rows_of labels es = map (classed labels) (map row_of es)

-- The families of events.
abbrev pub families_of : List Event → List Family
families_of es = map (λ e. (row_of e).family) es

module _ (labels : List ℕ) where
  -- The rows have the families of the events, and their marks.
  pub rows_families : (es : List Event) → map (λ row. row.family) (rows_of labels es) ≡ families_of es
  unfolding classed
  rows_families [] = refl
  rows_families (e ∷ es) = ap (λ (fs : List Family). (row_of e).family ∷ fs) (rows_families es)

  pub rows_marks : (es : List Event) → map (λ row. row.mark) (rows_of labels es) ≡ map (λ e. (row_of e).mark) es
  unfolding classed
  rows_marks [] = refl
  rows_marks (e ∷ es) = ap (λ (ms : List ℕ). (row_of e).mark ∷ ms) (rows_marks es)

  -- The sizes of the rows are those of the events.
  pub rows_sizes : (es : List Event) → sizes (rows_of labels es) ≡ sizes_of es
  unfolding classed sizes sizes_of
  rows_sizes [] = refl
  rows_sizes (Event.marked t j ∷ es) = omega (arith, rows_sizes es)
  rows_sizes (Event.summed t tag count ∷ es) = omega (arith, rows_sizes es)

  -- What holds of each event's family and size holds of those of each row.
  pub all_rows : (P : Family → ℕ → Type 0) {es : List Event} → All (λ e. P (row_of e).family (row_of e).size) es
      → All (λ row. P row.family row.size) (rows_of labels es)
  unfolding classed
  all_rows P All.nil = All.nil
  all_rows P (All.cons p ps) = All.cons p (all_rows P ps)

module _ (c : Compound) (rank pre : ℕ → ℕ) (ready : Ready c rank pre) where
  -- The events' families, in the order of the candidates.
  pub steps_part : {S M N : List ℕ} {ts : List Try} {es : List Event} → Steps c rank pre ready S M ts N es
      → Part (map (λ t. t.family) ts) (families_of es)
  steps_part Steps.end = Part.nil
  steps_part (Steps.passed n s) = Part.skip (steps_part s)
  steps_part (Steps.marks p r n s) = Part.keep (steps_part s)
  steps_part (Steps.sums p r x s) = Part.keep (steps_part s)

  -- The family of each event is kept.
  pub steps_kept : {S M N : List ℕ} {ts : List Try} {es : List Event} → Steps c rank pre ready S M ts N es → All (Kept c rank) (families_of es)
  steps_kept Steps.end = All.nil
  steps_kept (Steps.passed n s) = steps_kept s
  steps_kept (Steps.marks {t = t} p r n s) = All.cons (record { ring = t.ring; prototype = p; relevant = r }) (steps_kept s)
  steps_kept (Steps.sums {t = t} p r x s) = All.cons (record { ring = t.ring; prototype = p; relevant = r }) (steps_kept s)

  -- The family of each event has the length of the candidates.
  pub steps_families_long : {k : ℕ} {S M N : List ℕ} {ts : List Try} {es : List Event} → Steps c rank pre ready S M ts N es
      → All (λ t. t.family.long ≡ k) ts → All (λ f. f.long ≡ k) (families_of es)
  steps_families_long Steps.end ls = All.nil
  steps_families_long (Steps.passed n s) (All.cons l ls) = steps_families_long s ls
  steps_families_long (Steps.marks p r n s) (All.cons l ls) = All.cons l (steps_families_long s ls)
  steps_families_long (Steps.sums p r x s) (All.cons l ls) = All.cons l (steps_families_long s ls)

  -- Each kept family among the candidates is that of an event.
  pub steps_all : {S M N : List ℕ} {ts : List Try} {es : List Event} {f : Family} → Steps c rank pre ready S M ts N es → Kept c rank f
      → f ∈ map (λ t. t.family) ts → f ∈ families_of es
  steps_all Steps.end kept h = elim h [ ]
  steps_all (Steps.passed n s) kept ◌∈◌.first = absurd (n kept)
  steps_all (Steps.passed n s) kept (◌∈◌.later i) = steps_all s kept i
  steps_all (Steps.marks p r n s) kept ◌∈◌.first = ◌∈◌.first
  steps_all (Steps.marks p r n s) kept (◌∈◌.later i) = ◌∈◌.later (steps_all s kept i)
  steps_all (Steps.sums p r x s) kept ◌∈◌.first = ◌∈◌.first
  steps_all (Steps.sums p r x s) kept (◌∈◌.later i) = ◌∈◌.later (steps_all s kept i)

  -- The size of each event is that of its family.
  pub steps_sized : {S M N : List ℕ} {ts : List Try} {es : List Event} → Steps c rank pre ready S M ts N es
      → All (λ t. Kept c rank t.family → Size c rank t.family t.size) ts → All (λ e. Size c rank (row_of e).family (row_of e).size) es
  steps_sized Steps.end a = All.nil
  steps_sized (Steps.passed n s) (All.cons g gs) = steps_sized s gs
  steps_sized (Steps.marks {t = t} p r n s) (All.cons g gs) =
      All.cons (g (record { ring = t.ring; prototype = p; relevant = r })) (steps_sized s gs)
  steps_sized (Steps.sums {t = t} p r x s) (All.cons g gs) =
      All.cons (g (record { ring = t.ring; prototype = p; relevant = r })) (steps_sized s gs)

  -- The lengths of the events add up to the total length of the marked rings.
  pub steps_total : {S M N : List ℕ} {ts : List Try} {es : List Event} → Steps c rank pre ready S M ts N es
      → total (len c) N ≡ total (len c) M + lengths es
  unfolding lengths total
  steps_total Steps.end = omega arith
  steps_total (Steps.passed n s) = steps_total s
  steps_total (Steps.marks {M = M} {t = t} p r n s) =
      omega (arith, steps_total s, total_append (len c) M (t.ring ∷ []), prototype_long c ready.sound rank p)
  steps_total (Steps.sums p r x s) = steps_total s
