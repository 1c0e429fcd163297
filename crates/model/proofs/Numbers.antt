-- The classes that the labels give are the classes, numbered by their first family, and the table has their rows.
use mathlib.Core.Path.{◌≡◌, refl, sym, ◌∙◌, ap, subst}
use mathlib.Core.List.{List, [], ◌++◌, map}
use Prim.Native.Nat.{ℕ, ◌+◌, ◌-◌, ◌<◌, ◌≤◌}
use native.Mathlib.Omega.{arith}
use lib.ListN.{length}
use Rattle.spans.specs.Basis.{All}
use Rattle.spans.proofs.Lists.{all_map}
use Rattle.spans.proofs.Indep.{Indep}
use Rattle.spans.proofs.Short.{SpansShort}
use Rattle.bondset.proofs.Group.{bond_sets}
use Rattle.cycles.specs.Compound.{Compound}
use Rattle.cycles.specs.Ring.{len, Closed}
use Rattle.cycles.specs.Family.{Family}
use Rattle.cycles.specs.Rows.{Row, ClassRow, Classes, class_rows}
use Rattle.model.specs.Fold.{through, count}
use Rattle.model.specs.Run.{Numbering, numbered, classed}
use Rattle.model.proofs.Ready.{Ready}
use Rattle.model.proofs.Items.{Try}
use Rattle.model.proofs.Trace.{Event, label, hold, row_of, NearEvents, Steps}
use Rattle.model.proofs.NumbersCount.{own, own_low, opens}
use Rattle.model.proofs.NumbersTable.{Least, Named, Upto, row_to, upto_start, upto_all, row_final}
use Rattle.model.proofs.NumbersEvents.{Counted, counted_named, news, news_long, news_rows, Tells, known_start, known_classes}
use Rattle.model.proofs.NumbersRings.{label_of, inv_start}
use Rattle.model.proofs.NumbersSteps.{Ended, steps_ended, Told, good_told, told_tells}

all_of_map : {P : Row → Type 0} (f : Row → Row) {rows : List Row} → All (λ row. P (f row)) rows → All P (map f rows)
all_of_map f All.nil = All.nil
all_of_map f (All.cons p r) = All.cons p (all_of_map f r)

module _ (c : Compound) (rank pre : ℕ → ℕ) (ready : Ready c rank pre) where
  -- The numbering of the classes of one length, after its events.
  abbrev pub numbering : ℕ → List ℕ → List ℕ → List Event → List ℕ → List ℕ → List ClassRow → Numbering
  numbering k S M es labels holds table =
      through (numbered k (through hold es holds)) (count (length S) (length M)) (record { labels = through (label (length S)) es labels; table = table })

  pub record Numbered (k : ℕ) (S M : List ℕ) (es : List Event) (labels holds : List ℕ) (table : List ClassRow) (firsts : List Family) : Type 0 where
    pub new : List Family
    pub classes : Classes c rank firsts (map (classed (numbering k S M es labels holds table).labels) (map row_of es)) (firsts ++ new)
    pub table_is : (numbering k S M es labels holds table).table
        ≡ table ++ class_rows (map (classed (numbering k S M es labels holds table).labels) (map row_of es)) (length firsts) new
    pub above : All (λ row. length firsts ≤ row.class) (map (classed (numbering k S M es labels holds table).labels) (map row_of es))
    pub long : All (λ f. f.long ≡ k) new
    pub room : length (numbering k S M es labels holds table).labels ≡ length labels

  pub classes_numbered : (k : ℕ) (S M : List ℕ) (tries : List Try) (es : List Event) (labels holds : List ℕ) (table : List ClassRow) (firsts : List Family)
      → Steps c rank pre ready S [] tries M es → All (λ t. t.family.long ≡ k) tries
      → Indep bond_sets S → SpansShort bond_sets (len c) (Closed c) k S → NearEvents c rank pre ready k es
      → length S + length M ≤ 82 → length labels ≡ 82 → length holds ≡ 82 → length table ≡ length firsts → All (λ f. f.long < k) firsts
      → Numbered k S M es labels holds table firsts
  unfolding classed
  classes_numbered k S M tries es labels holds table firsts steps long indep spans near fits label_room hold_room same older =
      record {
        new = news lab es;
        classes =
            known_classes c rank (length table) least numbers.labels (λ j h t. done.done j h t) tells (omega arith) refl counted
            (known_start c rank (length table) least numbers.labels (λ j h t. done.done j h t) tells (sym same) older)
            (all_map (λ e g. good_told c rank pre ready k S g) ended.good);
        table_is = table_new;
        above = above_firsts;
        long = news_long lab longs;
        room = done.room ∙ sym label_room;
      }
    where
      lab : ℕ → ℕ
      lab = label_of (through (label (length S)) es labels)

      ended : Ended c rank pre ready k S [] labels M (through (label (length S)) es labels) es
      ended = steps_ended c rank pre ready k S indep spans steps long (inv_start c k S indep spans labels) label_room fits

      least : Least (length S) (length M) lab
      least = ended.inv.least

      counted : Counted (length S) (length S) es (length M)
      counted =
          let here : length S + 0 ≡ length S = omega arith in
          let marks : ended.new ≡ length M = omega (arith, ended.grown) in
          subst (λ (m : ℕ). Counted (length S) m es (length M)) here (subst (λ (d : ℕ). Counted (length S) (length S + 0) es d) marks ended.counted)

      named : Named (length S) (length M) (map row_of es) (through hold es holds)
      named = counted_named holds (omega arith) counted

      numbers : Numbering
      numbers = numbering k S M es labels holds table

      start : Numbering
      start = record { labels = through (label (length S)) es labels; table = table }

      done : Upto k (length S) (length M) lab (map row_of es) (through hold es holds) table 82 (length S + length M) numbers
      done =
          upto_all k (length S) (length M) lab (map row_of es) (through hold es holds) table 82 least named fits (length S) (length M) start (omega arith) refl
          (upto_start k (length S) (length M) lab (map row_of es) (through hold es holds) table 82 start (λ j h t. refl) (ended.room ∙ label_room) refl)

      rows : List Row
      rows = map (classed numbers.labels) (map row_of es)

      tells : Tells c rank k (Told c rank pre ready k S M (through (label (length S)) es labels))
      tells = told_tells c rank pre ready k S indep spans ended.inv ended.good near

      longs : All (λ e. (row_of e).family.long ≡ k) es
      longs = all_map (λ e g. g.long) ended.good

      base : length table + own (length S) lab (length S) ≡ length firsts
      base = omega (arith, own_low (length S) lab (length S) (omega arith))

      final : ℕ → ClassRow
      final = row_to k lab (map row_of es) (length S + length M)

      new_rows_lem : class_rows rows (length table + own (length S) lab (length S)) (news lab es) ≡ map final (opens lab (length S) (length M))
      new_rows_lem =
          news_rows lab (length table) rows final (omega arith) counted longs
          (λ l f h t e q. row_final k (length S) (length M) lab (map row_of es) (through hold es holds) table 82 least named fits numbers l f done h t e q)

      table_new : numbers.table ≡ table ++ class_rows rows (length firsts) (news lab es)
      table_new =
          let all : length S + length M - length S ≡ length M = omega arith in
          done.table_is
          ∙ ap (λ (l : List ClassRow). table ++ l)
          (ap (λ (d : ℕ). map final (opens lab (length S) d)) all ∙ sym new_rows_lem ∙ ap (λ (b : ℕ). class_rows rows b (news lab es)) base)

      above_firsts : All (λ row. length firsts ≤ row.class) rows
      above_firsts = all_of_map (classed numbers.labels) (all_map (λ row h. omega (arith, done.done row.class h.0 h.1)) named.ranged)
