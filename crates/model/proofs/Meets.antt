-- The model's report is the right one: what has been reached before each length, and what is reported after the last.
use mathlib.Core.Path.{◌≡◌, refl, sym, ap, ◌∙◌, subst}
use mathlib.Core.Logic.{◌↔◌, inl, inr, ⊎_elim}
use mathlib.Core.List.{List, [], ◌++◌, map, map-append, append-nil}
use Prim.Native.Nat.{ℕ, zero, suc, ◌+◌, ◌-◌, ◌^◌, ◌<◌, ◌≤◌}
use native.Mathlib.Decide.{dec_lt}
use native.Mathlib.Numerals.{add-one}
use native.Mathlib.Omega.{arith}
use borrow.Author.Tests.{lt-ltb, le-ltb}
use lib.ListN.{length, length-append, replicate}
use lib.Pow.{pow-sub-lt}
use Rattle.spans.specs.Elements.{◌∈◌}
use Rattle.spans.specs.Basis.{All}
use Rattle.spans.specs.Graded.{total}
use Rattle.spans.proofs.Lists.{all_map, all_append, in_left, in_right, in_append}
use Rattle.spans.proofs.Span.{own}
use Rattle.spans.proofs.Indep.{Indep}
use Rattle.spans.proofs.Marking.{all_element, next_spans_short}
use Rattle.spans.proofs.Replace.{total_append}
use Rattle.spans.proofs.Steinitz.{steinitz, spanned}
use Rattle.bondset.specs.Sets.{bit}
use Rattle.bondset.proofs.Group.{bond_sets}
use Rattle.bondset.proofs.Laws.{lt_or_ge, pos_of_ne, bit_beyond}
use Rattle.bondset.proofs.ReductionTheorems.{reduction_none}
use Rattle.cycles.specs.Compound.{Compound, m, cyclomatic}
use Rattle.cycles.specs.Ring.{len, Closed, Relevant}
use Rattle.cycles.specs.Family.{Family, Kept, Size}
use Rattle.cycles.specs.Rows.{Row, ClassRow, Ascending, Marks, Classes, class_rows, sizes, Right}
use Rattle.cycles.specs.Refusal.{Accepted}
use Rattle.cycles.proofs.Bases.{no_sum_relevant, full_no_longer, prototype_long}
use Rattle.cycles.proofs.Dimension.{closed_basis, dimension_one_piece}
use Rattle.cycles.proofs.Members.{relevant_in_family}
use Rattle.cycles.proofs.PathsDecide.{not_in_none}
use Rattle.cycles.proofs.Refusals.{fine_sound}
use Rattle.cycles.proofs.Ranks.{all_each, length_class_rows}
use Rattle.model.specs.Fold.{through, count}
use Rattle.model.specs.Net.{net_of, preceding}
use Rattle.model.specs.State.{State, start, tried}
use Rattle.model.specs.Loops.{running, length_loop, length_round}
use Rattle.model.specs.Run.{Run, Numbering, numbered, settled, round, run_all, report_by, report}
use Rattle.model.proofs.NetBits.{full_has}
use Rattle.model.proofs.Ready.{Ready, Covered}
use Rattle.model.proofs.Items.{Try, Items, length_pass}
use Rattle.model.proofs.TraceBases.{closed_few}
use Rattle.model.proofs.Trace.{Event, Steps, Before, After, length_told, steps_marks}
use Rattle.model.proofs.Numbers.{numbering, Numbered, classes_numbered}
use Rattle.model.proofs.MeetsRows.{ascending_part, ascending_append, marks_append, classes_append, classes_below, class_rows_append, sizes_append}
use Rattle.model.proofs.MeetsBounds.{kept_long, none_spans_three}
use Rattle.model.proofs.MeetsEvents.{rows_of, families_of, rows_families, rows_marks, rows_sizes, all_rows}
use Rattle.model.proofs.MeetsEvents.{steps_part, steps_kept, steps_families_long, steps_all, steps_sized, steps_total}

families_append : (rows : List Row) (labels : List ℕ) (es : List Event)
    → map (λ row. row.family) (rows ++ rows_of labels es) ≡ map (λ row. row.family) rows ++ families_of es
families_append rows labels es =
    map-append (λ row. row.family) rows (rows_of labels es) ∙ ap (λ (fs : List Family). map (λ row. row.family) rows ++ fs) (rows_families labels es)

module _ (c : Compound) (rank pre : ℕ → ℕ) (ready : Ready c rank pre) where
  -- The rows of all kept families shorter than k: S are their marked prototypes, and firsts the first families of their classes.
  pub record Listed (k : ℕ) (S : List ℕ) (rows : List Row) (firsts : List Family) : Type 0 where
    pub ordered : Ascending (map (λ row. row.family) rows)
    pub kept : (f : Family) → (f ∈ map (λ row. row.family) rows) ↔ (Kept c rank f × (f.long < k))
    pub sized : All (λ row. Size c rank row.family row.size) rows
    pub marks : Marks c rank [] rows S
    pub classed : Classes c rank [] rows firsts
    pub short : All (λ f. f.long < k) firsts

  -- The layers have room, and the state is right for all lengths below k.
  pub record Reached (k : ℕ) (s : Run) : Type 0 where
    pub room : length s.layers ≡ 33
    pub S : List ℕ
    pub before : Before c rank pre ready k S s.state
    pub firsts : List Family
    pub listed : Listed k S s.state.done firsts
    pub table_is : s.state.table ≡ class_rows s.state.done 0 firsts
    pub total_is : s.state.total ≡ total (len c) S
    pub rings_are : s.state.rings ≡ sizes s.state.done

  covered : Covered c rank
  covered C r = let t = relevant_in_family c ready.sound rank ready.injective r in (t.family, t.kept, t.member)

  -- ---- one length

  module _ {k : ℕ} {S M : List ℕ} {rows : List Row} {firsts : List Family} {tries : List Try} {es : List Event}
      (l : Listed k S rows firsts) (items : Items c rank pre ready k tries) (steps : Steps c rank pre ready S [] tries M es) where
    kept_more : (f : Family) → (f ∈ (map (λ row. row.family) rows ++ families_of es)) ↔ (Kept c rank f × (f.long < k + 1))
    kept_more f = (
      λ i.
          ⊎_elim (λ h. let (kept, less) = (l.kept f).0 h in (kept, omega arith))
          (λ h. let long : f.long ≡ k = all_element (steps_families_long c rank pre ready steps items.long) h in
          (all_element (steps_kept c rank pre ready steps) h, omega arith))
          (in_append (map (λ row. row.family) rows) (families_of es) i),
      λ (kept, less). go kept less (dec_lt f.long k),
    )
      where
        go : Kept c rank f → f.long < k + 1 → Dec (f.long < k) → f ∈ (map (λ row. row.family) rows ++ families_of es)
        go kept less (yes h) = in_left (families_of es) ((l.kept f).1 (kept, h))
        go kept less (no n) = in_right (map (λ row. row.family) rows) (steps_all c rank pre ready steps kept (items.all f kept (omega arith)))

    listed_more : {new : List Family} (labels : List ℕ) → Classes c rank firsts (rows_of labels es) (firsts ++ new) → All (λ f. f.long ≡ k) new
        → Listed (k + 1) (S ++ M) (rows ++ rows_of labels es) (firsts ++ new)
    listed_more labels classes long =
        record {
          ordered =
              rw (families_append rows labels es)
              (ascending_append {k = k} l.ordered (ascending_part items.ordered (steps_part c rank pre ready steps))
              (all_each (map (λ row. row.family) rows) (λ f i. ((l.kept f).0 i).1))
              (all_map (λ f e. omega arith) (steps_families_long c rank pre ready steps items.long)));
          kept = λ f. rw (families_append rows labels es) (kept_more f);
          sized = all_append l.sized (all_rows labels (Size c rank) (steps_sized c rank pre ready steps items.sized));
          marks =
              marks_append c rank l.marks
              (rw append-nil at (steps_marks c rank pre ready (rows_of labels es) steps (rows_families labels es) (rows_marks labels es)));
          classed = classes_append c rank l.classed classes;
          short = all_append (all_map (λ f h. omega arith) l.short) (all_map (λ f h. omega arith) long);
        }

  -- The numbering that is made when the state after a length is settled.
  module _ {k : ℕ} {S : List ℕ} {tries : List Try} {st after : State} (a : After c rank pre ready k S tries st after) where
    abbrev numbering_of : Numbering
    numbering_of = numbering c rank pre ready k S a.M a.events st.labels st.holds st.table

    abbrev new_rows : List Row
    new_rows = rows_of numbering_of.labels a.events

    numbering_is :
        through (numbered k after.holds) (count after.short (after.marks - after.short)) (record { labels = after.labels; table = after.table })
        ≡ numbering_of
    numbering_is = let e : after.marks - after.short ≡ length a.M = omega (arith, a.marks, a.short) in rw (e, a.holds, a.short, a.labels, a.table)

    settled_done : (settled k after).done ≡ st.done ++ new_rows
    unfolding settled
    settled_done = rw (numbering_is, a.done, a.here)

    settled_labels : (settled k after).labels ≡ numbering_of.labels
    unfolding settled
    settled_labels = ap (λ (s : Numbering). s.labels) numbering_is

    settled_table : (settled k after).table ≡ numbering_of.table
    unfolding settled
    settled_table = ap (λ (s : Numbering). s.table) numbering_is

  module _ {k : ℕ} {s : Run} (r : Reached k s) {tries : List Try} (items : Items c rank pre ready k tries) {after : State}
      (a : After c rank pre ready k r.S tries s.state after) where
    numbered_new : Numbered c rank pre ready k r.S a.M a.events s.state.labels s.state.holds s.state.table r.firsts
    numbered_new =
        classes_numbered c rank pre ready k r.S a.M tries a.events s.state.labels s.state.holds s.state.table r.firsts
        a.steps items.long r.before.independent r.before.spans a.near a.few r.before.roomy.labels r.before.roomy.holds
        (ap length r.table_is ∙ length_class_rows s.state.done 0 r.firsts) r.listed.short

    settled_before : Before c rank pre ready (k + 1) (r.S ++ a.M) (settled k after)
    unfolding settled
    settled_before =
        record {
          roomy = record {
            rows = a.roomy.rows;
            tags = a.roomy.tags;
            pivots = a.roomy.pivots;
            labels = ap length (settled_labels a) ∙ numbered_new.room ∙ r.before.roomy.labels;
            holds = a.roomy.holds;
          };
          marks = a.marks ∙ sym (length-append r.S a.M);
          short = a.marks ∙ sym (length-append r.S a.M);
          reduction = a.reduction;
          independent = a.independent;
          spans = a.spans;
          here = refl;
        }

    settled_listed : Listed (k + 1) (r.S ++ a.M) (settled k after).done (r.firsts ++ numbered_new.new)
    settled_listed =
        rw (settled_done a) (listed_more r.listed items a.steps (numbering_of a).labels numbered_new.classes numbered_new.long)

    table_more : (settled k after).table ≡ class_rows (settled k after).done 0 (r.firsts ++ numbered_new.new)
    table_more =
        settled_table a
        ∙ numbered_new.table_is
        ∙ ap (λ (t : List ClassRow). t ++ class_rows (new_rows a) (length r.firsts) numbered_new.new) r.table_is
        ∙ sym (class_rows_append s.state.done (new_rows a) r.firsts numbered_new.new (classes_below c rank r.listed.classed) numbered_new.above)
        ∙ ap (λ (rows : List Row). class_rows rows 0 (r.firsts ++ numbered_new.new)) (sym (settled_done a))

    total_more : (settled k after).total ≡ total (len c) (r.S ++ a.M)
    unfolding settled total
    total_more = omega (arith, a.total, r.total_is, total_append (len c) r.S a.M, steps_total c rank pre ready a.steps)

    rings_more : (settled k after).rings ≡ sizes (settled k after).done
    unfolding settled
    rings_more =
        omega (
          arith,
          a.rings,
          r.rings_are,
          ap sizes (settled_done a),
          sizes_append s.state.done (new_rows a),
          rows_sizes (numbering_of a).labels a.events,
        )

    reached_settled : (us : List ℕ) → length us ≡ 33 → Reached (k + 1) (running us (settled k after))
    reached_settled us room =
        record {
          room = room;
          S = r.S ++ a.M;
          before = settled_before;
          firsts = r.firsts ++ numbered_new.new;
          listed = settled_listed;
          table_is = table_more;
          total_is = total_more;
          rings_are = rings_more;
        }

  -- ---- the rounds

  -- Once the basis is full there is nothing more to find.
  module _ {k : ℕ} {s : Run} (r : Reached k s) (full : cyclomatic c ≤ s.state.marks) where
    basis_full : length r.S ≡ cyclomatic c
    basis_full =
        let (B, b) = closed_basis c ready.sound in
        let few : length r.S ≤ length B =
        steinitz bond_sets r.before.independent (all_map (λ C p. spanned bond_sets b.spans C p.0) r.before.spans.inside) in
        omega (arith, dimension_one_piece c ready.sound ready.one_piece ready.some B b, r.before.marks)

    relevant_short : {C : ℕ} → Relevant c C → len c C < k
    relevant_short = full_no_longer c ready.sound ready.one_piece ready.some r.before.independent r.before.spans basis_full

    kept_short : {f : Family} → Kept c rank f → f.long < k
    kept_short h = omega (arith, relevant_short h.relevant, prototype_long c ready.sound rank h.prototype)

    reached_full : Reached (k + 1) s
    reached_full =
        record {
          room = r.room;
          S = r.S;
          before = record {
            roomy = r.before.roomy;
            marks = r.before.marks;
            short = r.before.short;
            reduction = r.before.reduction;
            independent = r.before.independent;
            spans =
                rw (add-one k)
                (next_spans_short bond_sets (len c) (Closed c) r.before.spans
                (all_map (λ C p. (p.0, omega (arith, p.1))) r.before.spans.inside) (own bond_sets r.S)
                (λ C q e. absurd (omega (arith, relevant_short (no_sum_relevant c ready.sound q)))));
            here = r.before.here;
          };
          firsts = r.firsts;
          listed = record {
            ordered = r.listed.ordered;
            kept = λ f. (
              λ i. let (kept, less) = (r.listed.kept f).0 i in (kept, omega arith),
              λ (kept, less). (r.listed.kept f).1 (kept, kept_short kept),
            );
            sized = r.listed.sized;
            marks = r.listed.marks;
            classed = r.listed.classed;
            short = all_map (λ f h. omega arith) r.listed.short;
          };
          table_is = r.table_is;
          total_is = r.total_is;
          rings_are = r.rings_are;
        }

  module _ {k : ℕ} {s : Run} (low : 3 ≤ k) (high : k ≤ c.n) (r : Reached k s) where
    reached_length : let t = length_loop (net_of c) (tried (net_of c)) pre k s in Reached (k + 1) (running t.layers (settled k t.state))
    reached_length =
        let p = length_pass c rank pre ready k low high s (omega (arith, r.room)) in
        let told = length_told c rank pre ready k r.S s.state p.tries covered r.before p.items in
        reached_settled r p.items (subst (After c rank pre ready k r.S p.tries s.state) (sym p.state) told)
        (length_loop (net_of c) (tried (net_of c)) pre k s).layers (p.room ∙ r.room)

    -- One round takes the state from one length to the next.
    pub round_reached : Reached (k + 1) (round (net_of c) pre (cyclomatic c) k s)
    unfolding length_round
    round_reached =
        ⊎_elim
        (λ (h : s.state.marks < cyclomatic c). rw (lt-ltb s.state.marks (cyclomatic c) h) reached_length)
        (λ (h : cyclomatic c ≤ s.state.marks). rw (le-ltb s.state.marks (cyclomatic c) h) (reached_full r h))
        (lt_or_ge s.state.marks (cyclomatic c))

  rounds_reached : (j k : ℕ) {s : Run} → 3 ≤ k → j ≤ c.n + 1 - k → Reached k s
      → Reached (k + j) (through (round (net_of c) pre (cyclomatic c)) (count k j) s)
  unfolding through count
  rounds_reached zero k {s} low high r = subst (λ (i : ℕ). Reached i s) (omega arith) r
  rounds_reached (suc j) k {s} low high r =
      let next : Reached (suc k) (round (net_of c) pre (cyclomatic c) k s) = rw (add-one k) at (round_reached low (omega arith) r) in
      subst (λ (i : ℕ). Reached i (through (round (net_of c) pre (cyclomatic c)) (count (suc k) j) (round (net_of c) pre (cyclomatic c) k s))) (omega arith)
      (rounds_reached j (suc k) (omega arith) (omega arith) next)

  -- Before length 3 there is nothing.
  start_reached : Reached 3 (running (replicate 33 0) start)
  unfolding start class_rows total sizes
  start_reached =
      record {
        room = refl;
        S = [];
        before = record {
          roomy = record { rows = refl; tags = refl; pivots = refl; labels = refl; holds = refl };
          marks = refl;
          short = refl;
          reduction = reduction_none (replicate 164 0) (replicate 164 0) (replicate 82 0);
          independent = Indep.none;
          spans = none_spans_three c ready.sound rank ready.injective 3 (omega arith);
          here = refl;
        };
        firsts = [];
        listed = record {
          ordered = Ascending.none;
          kept = λ f. (λ i. absurd (not_in_none i), λ (kept, less). absurd (omega (arith, (kept_long c ready.sound rank kept).0)));
          sized = All.nil;
          marks = Marks.end;
          classed = Classes.end;
          short = All.nil;
        };
        table_is = refl;
        total_is = refl;
        rings_are = refl;
      }

  -- After so many rounds the state is right for so many lengths.
  pub run_reached : (j : ℕ) → j ≤ c.n - 2 → Reached (3 + j) (through (round (net_of c) pre (cyclomatic c)) (count 3 j) (running (replicate 33 0) start))
  run_reached j h = rounds_reached j 3 (omega arith) (omega arith) start_reached

  -- There are never more marked rings than there is room for.
  pub reached_few : {k : ℕ} {s : Run} → Reached k s → s.state.marks ≤ 82
  reached_few r =
      omega (
        arith,
        r.before.marks,
        closed_few c ready.sound ready.one_piece ready.some ready.bonds r.before.independent (all_map (λ C p. p.0) r.before.spans.inside),
      )

  -- After all rounds the state is right for all lengths.
  pub run_all_reached : Reached (3 + (c.n - 2)) (run_all (net_of c) pre (cyclomatic c))
  unfolding run_all net_of
  run_all_reached = run_reached (c.n - 2) (omega arith)

-- The model's report is the right one, for any ranking.
pub report_right : (c : Compound) (rank pre : ℕ → ℕ) → Ready c rank pre → Right c rank (report_by pre c)
unfolding report_by
report_right c rank pre ready =
    let r = run_all_reached c rank pre ready in
    record {
      ordered = r.listed.ordered;
      kept = λ f. (
        λ i. ((r.listed.kept f).0 i).0,
        λ k. let h = (kept_long c ready.sound rank k).1 in (r.listed.kept f).1 (k, omega arith),
      );
      sized = r.listed.sized;
      basis = r.S;
      marks = r.listed.marks;
      firsts = r.firsts;
      classed = r.listed.classed;
      class_rows_are = r.table_is;
      cyclomatic_is = refl;
      families_are = refl;
      classes_are = ap length r.table_is ∙ length_class_rows (run_all (net_of c) pre (cyclomatic c)).state.done 0 r.firsts;
      total_is = r.total_is;
      rings_are = r.rings_are;
    }

preceding_bit : (r a : ℕ) → (bit (preceding r) a ≡ 1) ↔ (a < r)
unfolding preceding
preceding_bit r a = (λ e. ⊎_elim (λ (h : a < r). h) (λ (h : r ≤ a). absurd (beyond e h)) (lt_or_ge a r), full_has r a)
  where
    beyond : bit (2 ^ r - 1) a ≡ 1 → r ≤ a → ⊥
    beyond e h = omega (arith, bit_beyond r (2 ^ r - 1) a (pow-sub-lt r (omega arith)) h)

-- Atoms ranked by number in an accepted compound.
pub accepted_ready : (c : Compound) → Accepted c → Ready c (λ a. a) preceding
accepted_ready c a =
    record {
      sound = fine_sound c a.fine;
      one_piece = a.one_piece;
      some = pos_of_ne c.n (λ e. a.fits.atoms (inl e));
      atoms = ⊎_elim (λ (h : 64 < c.n). absurd (a.fits.atoms (inr h))) (λ (h : c.n ≤ 64). h) (lt_or_ge 64 c.n);
      bonds = ⊎_elim (λ (h : 96 < m c). absurd (a.fits.bytes (inr h))) (λ (h : m c ≤ 96). h) (lt_or_ge 96 (m c));
      injective = λ a b h g e. e;
      precede = λ r b h g. preceding_bit r b;
    }

-- The report of an accepted compound is the right one, atoms ranked by number.
pub report_accepted : (c : Compound) → Accepted c → Right c (λ a. a) (report c)
unfolding report
report_accepted c a = report_right c (λ b. b) preceding (accepted_ready c a)
