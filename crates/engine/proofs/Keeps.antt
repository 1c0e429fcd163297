-- The ledger keeps the model's state: its numbers and lists, its rows and class rows as bytes over the buffers, and counts modulo 2^64.
use mathlib.Core.Path.{◌≡◌, refl, sym, ap, ◌∙◌, subst}
use mathlib.Core.Bool.{Bool, true, false, cond}
use mathlib.Core.List.{List, [], ◌∷◌, ◌++◌, map, map-append, append_assoc, append-nil}
use mathlib.Core.Logic.{⊎_elim}
use Prim.Native.Nat.{ℕ, zero, suc, ◌+◌, ◌-◌, ◌*◌, ◌/◌, ◌%◌, ◌^◌, ◌<◌, ◌≤◌, min}
use native.Mathlib.Nat.{mod-eq_of_lt, mod-add-mod, add-mod-mod, add-zero}
use native.Mathlib.Omega.{arith}
use borrow.Author.Tests.{lt-ltb, le-ltb}
use lib.Count.{count_trailing_zeros}
use lib.Dec.{eqb, ltb}
use lib.ListN.{length, get_or, set, take, drop, length-append, length-take, length-map, length-set, take-append-drop, drop_of_length-le, get_or-map}
use lib.Seq.{split_at, set_split, set_out, append_snoc, length-take-le}
use Rattle.bondset.specs.Reduction.{reduced, used}
use Rattle.bondset.proofs.Laws.{lt_or_ge}
use Rattle.cycles.specs.Family.{Family}
use Rattle.cycles.specs.Rows.{Row, ClassRow}
use Rattle.model.specs.Fold.{through, count}
use Rattle.model.specs.State.{State, marked, unmarked, kept}
use Rattle.model.specs.Run.{Numbering, blank, more, numbered, classed, settled}
use Rattle.model.proofs.Related.{through_related}
use Rattle.rows.specs.Rows.{Numbers, family_bytes, class_bytes, put_family, open_class, more_class, numbered_in, patched}
use Rattle.rows.proofs.Bytes.{class_bytes_same}
use Rattle.ledger.specs.Ledger.{Ledger, marked_in, summed_in, entered, settled_in}
use Rattle.engine.proofs.Laid.{laid, length_laid, laid_out, laid_next, get_or_laid, set_laid, put, put_laid}

-- ---- rows and class rows as bytes

-- The eight bytes of a row.
abbrev pub row_bytes : Row → List ℕ
row_bytes row = family_bytes row.family row.mark row.class

-- The five bytes of a class row.
abbrev pub class_row_bytes : ClassRow → List ℕ
class_row_bytes row = class_bytes row.long row.rank row.families

-- The rows over a buffer, as many as there is room for.
abbrev pub written_rows : List ℕ → List Row → List ℕ
written_rows = laid 8 row_bytes

-- The class rows over a buffer, as many as there is room for.
abbrev pub written_classes : List ℕ → List ClassRow → List ℕ
written_classes = laid 5 class_row_bytes

-- A row has eight bytes.
pub row_wide : (row : Row) → length (row_bytes row) ≡ 8
unfolding family_bytes
row_wide row = refl

-- A class row has five bytes.
pub class_wide : (row : ClassRow) → length (class_row_bytes row) ≡ 5
unfolding class_bytes
class_wide row = refl

-- So many rows have room in the buffer.
pub room_8 : (n l : ℕ) → n ≤ l / 8 → 8 * n ≤ l
room_8 n l h = omega arith

-- So many class rows have room in the buffer.
pub room_5 : (n l : ℕ) → n ≤ l / 5 → 5 * n ≤ l
room_5 n l h = omega arith

-- ---- what is kept

-- Modulo 2^64.
abbrev pub word : ℕ → ℕ
word n = n % 2 ^ 64

-- How many rows there are.
abbrev pub rows_of : State → ℕ
rows_of st = length st.done + length st.here

-- The state as a ledger that has written this far.
abbrev pub ledger_of : List ℕ → State → List ℕ → Ledger
ledger_of table₀ st out =
    record {
      marks = st.marks;
      short = st.short;
      families = word (rows_of st);
      classes = length st.table;
      total = st.total;
      rows = st.rows;
      tags = st.tags;
      pivots = st.pivots;
      labels = st.labels;
      holds = map word st.holds;
      out = out;
      table = written_classes table₀ st.table;
    }

-- The ledger is the state's, and its rows are over the buffer if there are fewer than 2^64.
pub record Keeps (out₀ table₀ : List ℕ) (st : State) (L : Ledger) : Type 0 where
  pub is : L ≡ ledger_of table₀ st L.out
  pub out : rows_of st < 2 ^ 64 → L.out ≡ written_rows out₀ (st.done ++ st.here)

-- ---- lists

map_set : {X Y : Type 0} (f : X → Y) (xs : List X) (i : ℕ) (x : X) → map f (set xs i x) ≡ set (map f xs) i (f x)
map_set f [] i x = refl
map_set f (y ∷ xs) zero x = refl
map_set f (y ∷ xs) (suc i) x = ap (λ (ys : List _). f y ∷ ys) (map_set f xs i x)

either : {X Y : Type 0} (R : X → Y → Type 0) (b : Bool) {x x' : X} {y y' : Y} → R x y → R x' y' → R (cond b x x') (cond b y y')
either R true r s = r
either R false r s = s

-- ---- a kept prototype

module _ (out₀ table₀ : List ℕ) (st : State) (out : List ℕ) (written : rows_of st < 2 ^ 64 → out ≡ written_rows out₀ (st.done ++ st.here)) (f : Family) where
  abbrev L : Ledger
  L = ledger_of table₀ st out

  families_next : (row : Row) → word (word (rows_of st) + 1) ≡ word (length st.done + length (st.here ++ (row ∷ [])))
  families_next row = mod-add-mod (rows_of st) (2 ^ 64) 1 ∙ ap word (omega (arith, length-append st.here (row ∷ [])))

  row_next : (row : Row) → length st.done + length (st.here ++ (row ∷ [])) < 2 ^ 64
      → put_family out (word (rows_of st)) row.family row.mark row.class ≡ written_rows out₀ (st.done ++ (st.here ++ (row ∷ [])))
  unfolding put_family
  row_next row h =
      let few : rows_of st < 2 ^ 64 = omega (arith, length-append st.here (row ∷ [])) in
      let rows : List Row = st.done ++ st.here in
      let number : word (rows_of st) ≡ length rows = mod-eq_of_lt few ∙ sym (length-append st.done st.here) in
      rw (written few, number, ← append_assoc st.done st.here (row ∷ [])) (laid_next 8 row_bytes row_wide room_8 out₀ rows row)

  keeps_marked : (size rest names : ℕ) → Keeps out₀ table₀ (marked f size rest names st) (marked_in f rest names L)
  unfolding marked marked_in
  keeps_marked size rest names =
      let row : Row = record { family = f; mark = 1; class = st.marks; size = size } in
      record { is = rw (families_next row, map_set word st.holds st.marks 1); out = row_next row }

  held_next : (j : ℕ) → map word (set st.holds j (get_or st.holds j 0 + 1)) ≡ set (map word st.holds) j (word (get_or (map word st.holds) j 0 + 1))
  held_next j =
      map_set word st.holds j (get_or st.holds j 0 + 1)
      ∙ rw (get_or-map word st.holds j 0, mod-add-mod (get_or st.holds j 0) (2 ^ 64) 1)

  keeps_summed : (size t : ℕ) → Keeps out₀ table₀ (unmarked f size t st) (summed_in f t L)
  unfolding unmarked summed_in
  keeps_summed size t =
      let row : Row = record { family = f; mark = 0; class = count_trailing_zeros 128 t; size = size } in
      record { is = rw (families_next row, held_next (count_trailing_zeros 128 t)); out = row_next row }

  keeps_entered : (size rest names : ℕ) → Keeps out₀ table₀ (kept f size rest names st) (entered f rest names L)
  unfolding kept entered
  keeps_entered size rest names =
      let e = reduced st.rows st.pivots st.short st.marks rest in
      let u = used st.rows st.tags st.pivots st.short st.marks rest names in
      either (Keeps out₀ table₀) (eqb e 0) (keeps_summed size (u / 2 ^ st.short * 2 ^ st.short))
      (either (Keeps out₀ table₀) (ltb st.marks 82) (keeps_marked size e u) (record { is = refl; out = written }))

-- A kept prototype, entered.
pub keeps_kept : {out₀ table₀ : List ℕ} {st : State} {L : Ledger} (f : Family) (size rest names : ℕ) → Keeps out₀ table₀ st L
    → Keeps out₀ table₀ (kept f size rest names st) (entered f rest names L)
keeps_kept {out₀} {table₀} {st} {L} f size rest names k =
    subst (λ (l : Ledger). Keeps out₀ table₀ (kept f size rest names st) (entered f rest names l)) (sym k.is)
    (keeps_entered out₀ table₀ st L.out k.out f size rest names)

-- ---- the classes of a length

-- A class row is its numbers, modulo what the bytes hold.
high_byte : (f : ℕ) → f / 256 % 256 ≡ f % 65536 / 256
high_byte f = omega arith

two_bytes : (f : ℕ) → f % 256 + 256 * (f / 256 % 256) ≡ f % 65536
two_bytes f = rw (high_byte f) (omega arith)

families_more : (f h held : ℕ) → held % 65536 ≡ h % 65536 → (f % 256 + 256 * (f / 256 % 256) + held) % 65536 ≡ (f + h) % 65536
families_more f h held e =
    ap (λ (n : ℕ). (n + held) % 65536) (two_bytes f)
    ∙ mod-add-mod f 65536 held
    ∙ sym (add-mod-mod f held 65536)
    ∙ ap (λ (n : ℕ). (f + n) % 65536) e
    ∙ add-mod-mod f h 65536

held_same : (h : ℕ) → word h % 65536 % 65536 ≡ h % 65536
held_same h = omega arith

module _ (table₀ : List ℕ) where
  open_written : (table : List ClassRow) (row : ClassRow) (k held : ℕ) → k ≡ row.long → row.rank ≡ 1 → held % 65536 ≡ row.families % 65536
      → open_class (written_classes table₀ table) (length table) k held ≡ written_classes table₀ (table ++ (row ∷ []))
  unfolding open_class
  open_written table row k held e r h =
      rw (e, class_bytes_same row.long 1 row.rank held row.families (ap (λ (n : ℕ). n % 256) (sym r)) h)
      (laid_next 5 class_row_bytes class_wide room_5 table₀ table row)

  module _ (A B : List ClassRow) (row : ClassRow) (c h held : ℕ) (before : length A ≡ c) (e : held % 65536 ≡ h % 65536) where
    abbrev bytes : List ℕ
    bytes = written_classes table₀ (A ++ row ∷ B)

    read : (j : ℕ) → c < length table₀ / 5 → j < 5 → get_or bytes (5 * c + j) 0 ≡ get_or (class_row_bytes row) j 0
    read j l = get_or_laid 5 class_row_bytes class_wide room_5 table₀ A B c before row j l

    more_bytes : c < length table₀ / 5
        → class_bytes (get_or bytes (5 * c) 0) (get_or bytes (5 * c + 1) 0 + 1) (get_or bytes (5 * c + 2) 0 + 256 * get_or bytes (5 * c + 3) 0 + held)
        ≡ class_row_bytes (more h row)
    unfolding class_bytes more
    more_bytes l =
        let long : get_or bytes (5 * c) 0 ≡ row.long = ap (λ (i : ℕ). get_or bytes i 0) (sym (add-zero (5 * c))) ∙ read 0 l (omega arith) in
        let rank : get_or bytes (5 * c + 1) 0 ≡ row.rank % 256 = read 1 l (omega arith) in
        let low : get_or bytes (5 * c + 2) 0 ≡ row.families % 256 = read 2 l (omega arith) in
        let high : get_or bytes (5 * c + 3) 0 ≡ row.families / 256 % 256 = read 3 l (omega arith) in
        rw (long, rank, low, high)
        (class_bytes_same row.long (row.rank % 256 + 1) (row.rank + 1) (row.families % 256 + 256 * (row.families / 256 % 256) + held) (row.families + h)
        (omega arith) (families_more row.families h held e))

    more_written : more_class bytes c held ≡ written_classes table₀ (A ++ more h row ∷ B)
    unfolding more_class
    more_written = go ∙ put_laid 5 class_row_bytes class_wide room_5 table₀ A B c before row (more h row)
      where
        go : more_class bytes c held ≡ put 5 class_row_bytes bytes c (more h row)
        go =
            rw (length_laid 5 class_row_bytes class_wide room_5 table₀ (A ++ row ∷ B))
            (⊎_elim (λ (l : c < length table₀ / 5). rw (lt-ltb c (length table₀ / 5) l, more_bytes l))
            (λ (l : length table₀ / 5 ≤ c). rw (le-ltb c (length table₀ / 5) l))
            (lt_or_ge c (length table₀ / 5)))

  more_class_lem : (table : List ClassRow) (c h held : ℕ) → held % 65536 ≡ h % 65536
      → cond (ltb c (length table)) (more_class (written_classes table₀ table) c held) (written_classes table₀ table)
      ≡ written_classes table₀ (set table c (more h (get_or table c blank)))
  more_class_lem table c h held e =
      ⊎_elim
      (λ (l : c < length table).
      rw (lt-ltb c (length table) l)
      (ap (λ (t : List ClassRow). more_class (written_classes table₀ t) c held) (split_at table c blank l)
      ∙ more_written (take c table) (drop (suc c) table) (get_or table c blank) c h held (length-take-le c table (omega arith)) e
      ∙ ap (written_classes table₀) (sym (set_split table c (more h (get_or table c blank)) l))))
      (λ (l : length table ≤ c). rw (le-ltb c (length table) l, set_out table c (more h (get_or table c blank)) l))
      (lt_or_ge c (length table))

  -- The model's numbering as the ledger's.
  abbrev numbers_of : Numbering → Numbers
  numbers_of s = record { labels = s.labels; classes = length s.table; table = written_classes table₀ s.table }

  either_is : (b : Bool) (x y : Numbers) (x' y' : Numbering) → x ≡ numbers_of x' → y ≡ numbers_of y' → cond b x y ≡ numbers_of (cond b x' y')
  either_is true x y x' y' e d = e
  either_is false x y x' y' e d = d

  numbered_one : (k : ℕ) (holds : List ℕ) (i : ℕ) (s : Numbering) → numbered_in k (map word holds) i (numbers_of s) ≡ numbers_of (numbered k holds i s)
  unfolding numbered numbered_in
  numbered_one k holds i s =
      let h = get_or holds i 0 in
      let l = get_or s.labels i 0 in
      let c = get_or s.labels l 0 in
      let same : get_or (map word holds) i 0 % 65536 % 65536 ≡ h % 65536 = rw (get_or-map word holds i 0) (held_same h) in
      let row : ClassRow = record { long = k; rank = 1; families = h; essential = cond (eqb h 1) 1 0 } in
      either_is (eqb l i) _ _ _ _
      (rw (open_written s.table row k (get_or (map word holds) i 0 % 65536) refl refl same, length-append s.table (row ∷ [])))
      (rw (more_class_lem s.table c h (get_or (map word holds) i 0 % 65536) same, length-set s.table c (more h (get_or s.table c blank))))

  numbered_all : (k : ℕ) (holds js : List ℕ) (s : Numbering)
      → through (numbered_in k (map word holds)) js (numbers_of s) ≡ numbers_of (through (numbered k holds) js s)
  numbered_all k holds js s =
      through_related (λ (s : Numbering) (t : Numbers). t ≡ numbers_of s) {f = numbered k holds} {g = numbered_in k (map word holds)}
      (λ i s t e. ap (numbered_in k (map word holds) i) e ∙ numbered_one k holds i s) js s (numbers_of s) refl

-- ---- the rows of a length

module _ (out₀ labels : List ℕ) where
  patch_one : (A B : List Row) (row : Row) (i : ℕ) → length A ≡ i → i < length out₀ / 8
      → patched labels i (written_rows out₀ (A ++ row ∷ B)) ≡ written_rows out₀ (A ++ classed labels row ∷ B)
  unfolding patched classed family_bytes
  patch_one A B row i e l =
      rw (get_or_laid 8 row_bytes row_wide room_8 out₀ A B i e row 6 l (omega arith))
      (set_laid 8 row_bytes row_wide room_8 out₀ A B i e row (classed labels row) 6 (get_or labels row.class 0) l (omega arith) refl)

  patch_rows : (A B C : List Row) (i : ℕ) → length A ≡ i → i + length B ≤ length out₀ / 8
      → through (patched labels) (count i (length B)) (written_rows out₀ (A ++ (B ++ C))) ≡ written_rows out₀ (A ++ (map (classed labels) B ++ C))
  unfolding through count
  patch_rows A [] C i e h = refl
  patch_rows A (row ∷ B) C i e h =
      let new = classed labels row in
      ap (through (patched labels) (count (suc i) (length B)))
      (patch_one A (B ++ C) row i e (omega arith) ∙ ap (written_rows out₀) (sym (append_snoc A new (B ++ C))))
      ∙ patch_rows (A ++ (new ∷ [])) B C (suc i) (omega (arith, length-append A (new ∷ []))) (omega arith)
      ∙ ap (written_rows out₀) (append_snoc A new (map (classed labels) B ++ C))

  -- All rows of the length that are there.
  patch_all : (done here : List Row)
      → through (patched labels) (count (length done) (min (length done + length here) (length out₀ / 8) - length done)) (written_rows out₀ (done ++ here))
      ≡ written_rows out₀ (done ++ map (classed labels) here)
  unfolding through count
  patch_all done here = ⊎_elim within past (lt_or_ge (length done) (length out₀ / 8))
    where
      n : ℕ
      n = min (length done + length here) (length out₀ / 8) - length done

      past : length out₀ / 8 ≤ length done
          → through (patched labels) (count (length done) n) (written_rows out₀ (done ++ here)) ≡ written_rows out₀ (done ++ map (classed labels) here)
      past h =
          let none : n ≡ 0 = omega arith in
          rw (none, laid_out 8 row_bytes row_wide room_8 out₀ done here h, laid_out 8 row_bytes row_wide room_8 out₀ done (map (classed labels) here) h)

      rest : (room : length done < length out₀ / 8)
          → written_rows out₀ (done ++ (map (classed labels) (take n here) ++ drop n here))
          ≡ written_rows out₀ (done ++ (map (classed labels) (take n here) ++ map (classed labels) (drop n here)))
      rest room =
          ⊎_elim
          (λ (h : n < length here).
          let full : length out₀ / 8 ≤ length (done ++ map (classed labels) (take n here)) =
          omega (
            arith,
            length-append done (map (classed labels) (take n here)),
            length-map (take n here) (classed labels),
            length-take n here,
          ) in
          rw (
            ← append_assoc done (map (classed labels) (take n here)) (drop n here),
            ← append_assoc done (map (classed labels) (take n here)) (map (classed labels) (drop n here)),
            laid_out 8 row_bytes row_wide room_8 out₀ (done ++ map (classed labels) (take n here)) (drop n here) full,
            laid_out 8 row_bytes row_wide room_8 out₀ (done ++ map (classed labels) (take n here)) (map (classed labels) (drop n here)) full,
          ))
          (λ (h : length here ≤ n). rw (drop_of_length-le here h))
          (lt_or_ge n (length here))

      within : length done < length out₀ / 8
          → through (patched labels) (count (length done) n) (written_rows out₀ (done ++ here)) ≡ written_rows out₀ (done ++ map (classed labels) here)
      within room =
          let many : length (take n here) ≡ n = omega (arith, length-take n here) in
          ap (λ (rows : List Row). through (patched labels) (count (length done) n) (written_rows out₀ (done ++ rows))) (sym (take-append-drop n here))
          ∙ ap (λ (m : ℕ). through (patched labels) (count (length done) m) (written_rows out₀ (done ++ (take n here ++ drop n here)))) (sym many)
          ∙ patch_rows done (take n here) (drop n here) (length done) refl (omega arith)
          ∙ rest room
          ∙ ap (λ (rows : List Row). written_rows out₀ (done ++ rows))
          (sym (map-append (classed labels) (take n here) (drop n here)) ∙ ap (map (classed labels)) (take-append-drop n here))

-- ---- the end of a length

-- The end of a length, settled: `first` is the number of rows before it.
pub keeps_settled : {out₀ table₀ : List ℕ} {st : State} {L : Ledger} (k first : ℕ) → first ≡ word (length st.done) → Keeps out₀ table₀ st L
    → Keeps out₀ table₀ (settled k st) (settled_in k first L)
unfolding settled settled_in
keeps_settled {out₀} {table₀} {st} {L} k first e keeps =
    subst (λ (l : Ledger). Keeps out₀ table₀ (settled k st) (settled_in k first l)) (sym keeps.is)
    (record { is = rw (same, count_is); out = patches })
  where
    numbering : Numbering
    numbering = through (numbered k st.holds) (count st.short (st.marks - st.short)) (record { labels = st.labels; table = st.table })

    same : through (numbered_in k (map word st.holds)) (count st.short (st.marks - st.short))
        (record { labels = st.labels; classes = length st.table; table = written_classes table₀ st.table })
        ≡ numbers_of table₀ numbering
    same = numbered_all table₀ k st.holds (count st.short (st.marks - st.short)) (record { labels = st.labels; table = st.table })

    rows_kept_lem : length (st.done ++ map (classed numbering.labels) st.here) + 0 ≡ rows_of st
    rows_kept_lem =
        omega (arith, length-append st.done (map (classed numbering.labels) st.here), length-map st.here (classed numbering.labels))

    count_is : word (rows_of st) ≡ word (length (st.done ++ map (classed numbering.labels) st.here) + 0)
    count_is = ap word (sym rows_kept_lem)

    patches : length (st.done ++ map (classed numbering.labels) st.here) + 0 < 2 ^ 64
        → (settled_in k first (ledger_of table₀ st L.out)).out ≡ written_rows out₀ ((st.done ++ map (classed numbering.labels) st.here) ++ [])
    patches h =
        let few : rows_of st < 2 ^ 64 = omega (arith, rows_kept_lem) in
        let begin : first ≡ length st.done = e ∙ mod-eq_of_lt (omega arith) in
        rw (
          same,
          keeps.out few,
          begin,
          mod-eq_of_lt few,
          length_laid 8 row_bytes row_wide room_8 out₀ (st.done ++ st.here),
          append-nil (st.done ++ map (classed numbering.labels) st.here),
        )
        (patch_all out₀ numbering.labels st.done st.here)
