-- Tables filled layer by layer hold the numbers of paths down and of ways up, and with them the shares are what the model says.
use mathlib.Core.Path.{◌≡◌, refl, sym, ap, ap₂, ◌∙◌, subst}
use mathlib.Core.Bool.{Bool, true, false, cond, ◌&&◌, ◌||◌}
use mathlib.Core.List.{List, [], ◌∷◌}
use mathlib.Core.Logic.{⊎_elim}
use Prim.Native.Nat.{ℕ, zero, suc, ◌+◌, ◌*◌, ◌-◌, ◌<◌, ◌≤◌}
use native.Mathlib.Nat.{zero-add}
use native.Mathlib.Decide.{ℕ_discrete}
use native.Mathlib.Omega.{arith}
use borrow.Author.Tests.{eqb-true, eqb-false, eq-eqb, ne_eqb}
use lib.Bits.{bit_and}
use lib.Dec.{eqb}
use lib.ListN.{length, get_or, set, replicate, length-set, length-replicate}
use lib.Seq.{get_or-set_same, get_or-set_other}
use Rattle.spans.specs.Elements.{◌∈◌, Once}
use Rattle.spans.specs.Graded.{total}
use Rattle.bondset.specs.Sets.{bit, has, members}
use Rattle.bondset.proofs.Laws.{lt_or_ge}
use Rattle.bondset.proofs.Members.{members_climb, mem_of_bit, bit_of_mem}
use Rattle.cycles.specs.Family.{Family}
use Rattle.cycles.specs.Rows.{Row}
use Rattle.cycles.proofs.PathsDecide.{not_in_none}
use Rattle.cycles.proofs.Exact.{total_same, sum_same}
use Rattle.model.specs.Fold.{through, count}
use Rattle.model.specs.Net.{Net, nbrs}
use Rattle.model.specs.Layer.{ways}
use Rattle.model.specs.Through.{upways, pairs_of, ends, reaching, step_share, in_link, bond_share, layer_share, atom_share}
use Rattle.model.specs.Tables.{gathered, gather_into, down_table, up_table, size_by_tables, step_by_tables, bond_by_tables, atom_by_tables, down_of, up_of, add_into, entries_into}
use Rattle.model.proofs.NetBits.{and_has}
use Rattle.model.proofs.Upways.{through_total, climbs_once}

-- The table holds F at the atoms of a set.
abbrev pub Held : (ℕ → ℕ) → ℕ → List ℕ → Type 0
Held F mask table = (t : ℕ) → bit mask t ≡ 1 → get_or table t 0 ≡ F t

-- ---- writing places one after the other

-- What is written at t is F t of what stood there, as long as what it is made of is good, and writing keeps it good.
module _ (v : List ℕ → ℕ → ℕ) (F : ℕ → ℕ → ℕ) (Good : List ℕ → Type 0) (right : (table : List ℕ) (t : ℕ) → Good table → v table t ≡ F t (get_or table t 0))
    (Here : ℕ → Type 0) (keeps : (table : List ℕ) (t n : ℕ) → Here t → Good table → Good (set table t n)) where
  abbrev write : ℕ → List ℕ → List ℕ
  write t table = set table t (v table t)

  record Wrote (xs table after : List ℕ) : Type 0 where
    long : length after ≡ length table
    done : (t : ℕ) → t ∈ xs → get_or after t 0 ≡ F t (get_or table t 0)
    others : (t : ℕ) → (t ∈ xs → ⊥) → get_or after t 0 ≡ get_or table t 0

  wrote : {xs : List ℕ} (table : List ℕ) → Once xs → ((t : ℕ) → t ∈ xs → (t < length table) × Here t) → Good table → Wrote xs table (through write xs table)
  unfolding through
  wrote table Once.none inside good = record { long = refl; done = λ t h. absurd (not_in_none h); others = λ t h. refl }
  wrote table (Once.more {x = x} {xs = xs} fresh once) inside good =
      let first = inside x ◌∈◌.first in
      let same : length (write x table) ≡ length table = length-set table x (v table x) in
      let w = wrote (write x table) once (λ t h. let l = inside t (◌∈◌.later h) in (omega (arith, l.0), l.1)) (keeps table x (v table x) first.1 good) in
      record {
        long = w.long ∙ same;
        done = done first.0 w;
        others = λ t h. w.others t (λ l. h (◌∈◌.later l)) ∙ elsewhere t (λ e. h (subst (λ (y : ℕ). t ∈ (y ∷ xs)) e ◌∈◌.first));
      }
    where
      elsewhere : (t : ℕ) → (t ≡ x → ⊥) → get_or (write x table) t 0 ≡ get_or table t 0
      elsewhere t other = get_or-set_other table x t (v table x) 0 other

      done : x < length table → Wrote xs (write x table) (through write xs (write x table)) → (t : ℕ) → t ∈ (x ∷ xs)
          → get_or (through write xs (write x table)) t 0 ≡ F t (get_or table t 0)
      done small w t ◌∈◌.first = w.others x fresh ∙ get_or-set_same table x (v table x) 0 small ∙ right table x good
      done small w t (◌∈◌.later h) = w.done t h ∙ ap (F t) (elsewhere t (λ e. fresh (subst (λ (y : ℕ). y ∈ xs) e h)))

-- ---- one layer from another

module _ (G : Net) where
  gathered_total : (from : ℕ) (F : ℕ → ℕ) (t : ℕ) → gathered G from F t ≡ total F (members 64 (bit_and (nbrs G t) from))
  unfolding gathered
  gathered_total from F t = through_total F (members 64 (bit_and (nbrs G t) from)) 0 ∙ zero-add _

  -- What is gathered from a table is what is gathered from the values that it holds.
  pub gathered_held : (from : ℕ) (F : ℕ → ℕ) (table : List ℕ) (t : ℕ) → Held F from table → gathered G from (λ s. get_or table s 0) t ≡ gathered G from F t
  gathered_held from F table t held =
      gathered_total from (λ s. get_or table s 0) t
      ∙ total_same (λ s. get_or table s 0) F (members 64 (bit_and (nbrs G t) from))
      (λ s h. held s ((and_has (nbrs G t) from s).0 (bit_of_mem 64 (bit_and (nbrs G t) from) s h)).1)
      ∙ sym (gathered_total from F t)

  -- What filling a layer leaves.
  pub record Gathered (from to : ℕ) (F : ℕ → ℕ) (table after : List ℕ) : Type 0 where
    pub long : length after ≡ length table
    pub done : Held (gathered G from F) to after
    pub others : (t : ℕ) → (bit to t ≡ 1 → ⊥) → get_or after t 0 ≡ get_or table t 0

  -- A layer filled from another, that shares no atom with it.
  pub gather_fills : (from to : ℕ) (F : ℕ → ℕ) (table : List ℕ) → 64 ≤ length table → ((t : ℕ) → bit to t ≡ 1 → t < 64)
      → ((t : ℕ) → bit from t ≡ 1 → bit to t ≡ 1 → ⊥) → Held F from table → Gathered from to F table (gather_into G from to table)
  unfolding gather_into
  gather_fills from to F table room word apart held =
      let w = wrote (λ table t. gathered G from (λ s. get_or table s 0) t) (λ t old. gathered G from F t) (Held F from)
      (λ table t good. gathered_held from F table t good) (λ t. bit to t ≡ 1) keeps table (climbs_once (members_climb 64 to)) inside held in
      record {
        long = w.long;
        done = λ t b. w.done t (mem_of_bit 64 to t (word t b) b);
        others = λ t off. w.others t (λ h. off (bit_of_mem 64 to t h));
      }
    where
      keeps : (table : List ℕ) (t n : ℕ) → bit to t ≡ 1 → Held F from table → Held F from (set table t n)
      keeps table t n here good s b = get_or-set_other table t s n 0 (λ e. apart s b (subst (λ (y : ℕ). bit to y ≡ 1) (sym e) here)) ∙ good s b

      inside : (t : ℕ) → t ∈ members 64 to → (t < length table) × (bit to t ≡ 1)
      inside t h = let b = bit_of_mem 64 to t h in (omega (arith, word t b), b)

  -- ---- all layers

  -- The layers 0 to d have atoms below 64, and no atom is in two of them.
  pub record Apart (us : List ℕ) (d : ℕ) : Type 0 where
    pub word : (e t : ℕ) → e ≤ d → bit (get_or us e 0) t ≡ 1 → t < 64
    pub once : (i j t : ℕ) → i ≤ d → j ≤ d → bit (get_or us i 0) t ≡ 1 → bit (get_or us j 0) t ≡ 1 → i ≡ j

  module _ (us : List ℕ) (d : ℕ) (apart : Apart us d) where
    ways_gathered : (e t : ℕ) → gathered G (get_or us e 0) (ways G us e) t ≡ ways G us (suc e) t
    unfolding gathered ways
    ways_gathered e t = refl

    upways_gathered : (start : ℕ → ℕ) (i e t : ℕ) → gathered G (get_or us (suc e) 0) (upways G us start i (suc e)) t ≡ upways G us start (suc i) e t
    unfolding gathered upways
    upways_gathered start i e t = refl

    -- The table holds the numbers of paths of the layers 0 to e.
    pub record Downs (e : ℕ) (table : List ℕ) : Type 0 where
      pub long : 64 ≤ length table
      pub holds : (j : ℕ) → j ≤ e → Held (ways G us j) (get_or us j 0) table

    -- A table with 1 at the top becomes that of all layers to e.
    pub down_table_lem : (e : ℕ) (table : List ℕ) → e ≤ d → 64 ≤ length table → ((t : ℕ) → bit (get_or us 0 0) t ≡ 1 → get_or table t 0 ≡ 1)
        → Downs e (down_table G us e table)
    unfolding down_table ways
    down_table_lem zero table le room top = record { long = room; holds = λ j l t b. at_top j l t b }
      where
        at_top : (j : ℕ) → j ≤ zero → (t : ℕ) → bit (get_or us j 0) t ≡ 1 → get_or table t 0 ≡ ways G us j t
        at_top zero l t b = top t b
        at_top (suc j) l t b = absurd (omega arith)
    down_table_lem (suc e) table le room top =
        let before = down_table_lem e table (omega arith) room top in
        let w = gather_fills (get_or us e 0) (get_or us (suc e) 0) (ways G us e) (down_table G us e table) before.long (λ t. apart.word (suc e) t le)
        (λ t b b'. omega (arith, apart.once e (suc e) t (omega arith) le b b')) (before.holds e (omega arith)) in
        record {
          long = omega (arith, w.long, before.long);
          holds = λ j l t b. ⊎_elim
              (λ (h : j < suc e). w.others t (λ b'. omega (arith, apart.once j (suc e) t (omega arith) le b b')) ∙ before.holds j (omega arith) t b)
              (λ (h : suc e ≤ j). let same : j ≡ suc e = omega arith in
              w.done t (subst (λ (n : ℕ). bit (get_or us n 0) t ≡ 1) same b) ∙ ways_gathered e t ∙ ap (λ (n : ℕ). ways G us n t) (sym same))
              (lt_or_ge j (suc e));
        }

    -- The table holds what reaches the atoms of the layers e to d.
    pub record Ups (start : ℕ → ℕ) (e : ℕ) (table : List ℕ) : Type 0 where
      pub long : 64 ≤ length table
      pub holds : (j : ℕ) → e ≤ j → j ≤ d → Held (upways G us start (d - j) j) (get_or us j 0) table

    -- A table with the start in layer d becomes that of all layers from e.
    pub up_table_lem : (start : ℕ → ℕ) (i e : ℕ) (table : List ℕ) → i + e ≡ d → 64 ≤ length table → Held start (get_or us d 0) table
        → Ups start e (up_table G us i e table)
    unfolding up_table upways
    up_table_lem start zero e table sum room held = record { long = room; holds = at_start }
      where
        at_start : (j : ℕ) → e ≤ j → j ≤ d → (t : ℕ) → bit (get_or us j 0) t ≡ 1 → get_or table t 0 ≡ upways G us start (d - j) j t
        at_start j l le t b =
            let same : j ≡ d = omega arith in
            let none : d - j ≡ 0 = omega arith in
            held t (subst (λ (n : ℕ). bit (get_or us n 0) t ≡ 1) same b) ∙ ap (λ (n : ℕ). upways G us start n j t) (sym none)
    up_table_lem start (suc i) e table sum room held =
        let before = up_table_lem start i (suc e) table (omega arith) room held in
        let left : d - suc e ≡ i = omega arith in
        let here : Held (upways G us start i (suc e)) (get_or us (suc e) 0) (up_table G us i (suc e) table) =
        λ t b. before.holds (suc e) (omega arith) (omega arith) t b ∙ ap (λ (n : ℕ). upways G us start n (suc e) t) left in
        let w = gather_fills (get_or us (suc e) 0) (get_or us e 0) (upways G us start i (suc e)) (up_table G us i (suc e) table) before.long
        (λ t. apart.word e t (omega arith)) (λ t b b'. omega (arith, apart.once (suc e) e t (omega arith) (omega arith) b b')) here in
        record {
          long = omega (arith, w.long, before.long);
          holds = λ j l le t b. ⊎_elim
              (λ (h : e < j). w.others t (λ b'. omega (arith, apart.once j e t le (omega arith) b b')) ∙ before.holds j (omega arith) le t b)
              (λ (h : j ≤ e).
              let same : j ≡ e = omega arith in
              let more : d - j ≡ suc i = omega arith in
              w.done t (subst (λ (n : ℕ). bit (get_or us n 0) t ≡ 1) same b) ∙ upways_gathered start i e t
              ∙ ap₂ (λ (n k : ℕ). upways G us start n k t) (sym more) (sym same))
              (lt_or_ge e j);
        }

-- ---- the shares by tables

cond_same : (b : Bool) {x y : ℕ} → (b ≡ true → x ≡ y) → cond b x 0 ≡ cond b y 0
cond_same true same = same refl
cond_same false same = refl

and_both : (a b : Bool) → (a && b) ≡ true → (a ≡ true) × (b ≡ true)
and_both true b e = (refl, e)
and_both false b e = absurd (false_true e)
  where
    false_true : false ≡ true → ⊥
    false_true e = eqb-false 0 1 refl (eqb-true 0 1 e)

module _ (G : Net) (us : List ℕ) (d : ℕ) (f : Family) (apart : Apart G us d) (up down : List ℕ) (ups : Ups G us d apart (ends G us d f) 1 up)
    (downs : Downs G us d apart d down) (in_p : bit (get_or us d 0) f.p ≡ 1) (in_q : bit (get_or us d 0) f.q ≡ 1) where
  up_is : (e t : ℕ) → 0 < e → e ≤ d → has (get_or us e 0) t ≡ true → get_or up t 0 ≡ reaching G us d f e t
  unfolding reaching
  up_is e t some le b = ups.holds e some le t (eqb-true (bit (get_or us e 0) t) 1 b)

  down_is : (e t : ℕ) → e ≤ d → has (get_or us e 0) t ≡ true → get_or down t 0 ≡ ways G us e t
  down_is e t le b = downs.holds e le t (eqb-true (bit (get_or us e 0) t) 1 b)

  size_by_tables_lem : size_by_tables G us d f up down ≡ pairs_of G us d f
  unfolding size_by_tables pairs_of
  size_by_tables_lem = ap₂ ◌*◌ (downs.holds d (omega arith) f.p in_p) (downs.holds d (omega arith) f.q in_q)

  step_by_tables_lem : (e t s : ℕ) → e < d → step_by_tables G us d f up down e t s ≡ step_share G us d f e t s
  unfolding step_by_tables step_share
  step_by_tables_lem e t s less =
      cond_same (has (get_or us (suc e) 0) t && has (get_or us e 0) s) (λ b.
      let w = and_both (has (get_or us (suc e) 0) t) (has (get_or us e 0) s) b in
      ap₂ ◌*◌ (up_is (suc e) t (omega arith) less w.0) (down_is e s (omega arith) w.1))

  -- The share of a bond, read from the tables.
  pub bond_by_tables_lem : (a b : ℕ) → bond_by_tables G us d f up down a b ≡ bond_share G us d f a b
  unfolding bond_by_tables bond_share
  bond_by_tables_lem a b =
      ap₂ ◌+◌ (sum_same d _ _ (λ e less. ap₂ ◌+◌ (step_by_tables_lem e a b less) (step_by_tables_lem e b a less)))
      (cond_same (in_link G us d f a b) (λ e. size_by_tables_lem))

  -- The share of an atom, read from the tables.
  pub atom_by_tables_lem : (a : ℕ) → atom_by_tables G us d f up down a ≡ atom_share G us d f a
  unfolding atom_by_tables atom_share layer_share
  atom_by_tables_lem a =
      ap₂ ◌+◌
      (sum_same d _ _ (λ e less.
      cond_same (has (get_or us (suc e) 0) a) (λ b. ap₂ ◌*◌ (up_is (suc e) a (omega arith) less b) (down_is (suc e) a less b))))
      (cond_same (eqb f.r a || eqb f.x a) (λ e. size_by_tables_lem))

-- ---- the tables of a family

-- A place for each atom, all 0.
abbrev blank : List ℕ
blank = replicate 64 0

pub zero_places : (n t : ℕ) → get_or {A = ℕ} (replicate n 0) t 0 ≡ 0
zero_places zero t = refl
zero_places (suc n) zero = refl
zero_places (suc n) (suc t) = zero_places n t

blank_long : length blank ≡ 64
blank_long = length-replicate {A = ℕ} 64 0

module _ (G : Net) (us : List ℕ) (d : ℕ) (f : Family) (apart : Apart G us d) (some : 0 < d) (in_r : (t : ℕ) → bit (get_or us 0 0) t ≡ 1 → f.r ≡ t)
    (in_p : bit (get_or us d 0) f.p ≡ 1) (in_q : bit (get_or us d 0) f.q ≡ 1) (different : f.p ≡ f.q → ⊥) where
  -- The down table of a family.
  pub downs_of : Downs G us d apart d (down_of G us d f)
  unfolding down_of
  downs_of =
      down_table_lem G us d apart d (set blank f.r 1) (omega arith) (omega (arith, blank_long, length-set blank f.r 1)) top
    where
      top : (t : ℕ) → bit (get_or us 0 0) t ≡ 1 → get_or (set blank f.r 1) t 0 ≡ 1
      top t b =
          let here = in_r t b in
          subst (λ (y : ℕ). get_or (set blank f.r 1) y 0 ≡ 1) here
          (get_or-set_same blank f.r 1 0 (omega (arith, blank_long, apart.word 0 t (omega arith) b)))

  -- The up table of a family.
  pub ups_of : Ups G us d apart (ends G us d f) 1 (up_of G us d f)
  unfolding up_of ends
  ups_of =
      up_table_lem G us d apart (ends G us d f) (d - 1) 1 base (omega arith) (omega (arith, blank_long, length-set blank f.p b, length-set one f.q a)) (λ t h. held t)
    where
      a : ℕ
      a = get_or (down_of G us d f) f.p 0

      b : ℕ
      b = get_or (down_of G us d f) f.q 0

      one : List ℕ
      one = set blank f.p b

      base : List ℕ
      base = set one f.q a

      small : f.p < 64
      small = apart.word d f.p (omega arith) in_p

      small' : f.q < 64
      small' = apart.word d f.q (omega arith) in_q

      a_is : a ≡ ways G us d f.p
      a_is = downs_of.holds d (omega arith) f.p in_p

      b_is : b ≡ ways G us d f.q
      b_is = downs_of.holds d (omega arith) f.q in_q

      held : (t : ℕ) → get_or base t 0 ≡ ends G us d f t
      held t = go (ℕ_discrete f.p t) (ℕ_discrete f.q t)
        where
          go : Dec (f.p ≡ t) → Dec (f.q ≡ t) → get_or base t 0 ≡ cond (eqb f.p t) (ways G us d f.q) (cond (eqb f.q t) (ways G us d f.p) 0)
          go (yes e) (yes g) = absurd (different (e ∙ sym g))
          go (yes e) (no g) =
              rw (eq-eqb f.p t e) (get_or-set_other one f.q t a 0 (λ h. g (sym h))
              ∙ subst (λ (y : ℕ). get_or one y 0 ≡ b) e (get_or-set_same blank f.p b 0 (omega (arith, blank_long, small))) ∙ b_is)
          go (no e) (yes g) =
              rw (ne_eqb f.p t e, eq-eqb f.q t g)
              (subst (λ (y : ℕ). get_or base y 0 ≡ a) g (get_or-set_same one f.q a 0 (omega (arith, blank_long, length-set blank f.p b, small'))) ∙ a_is)
          go (no e) (no g) =
              rw (ne_eqb f.p t e, ne_eqb f.q t g)
              (get_or-set_other one f.q t a 0 (λ h. g (sym h)) ∙ get_or-set_other blank f.p t b 0 (λ h. e (sym h)) ∙ zero_places 64 t)

  -- The shares of a family, by its own tables.
  pub family_bond_by_tables : (a b : ℕ) → bond_by_tables G us d f (up_of G us d f) (down_of G us d f) a b ≡ bond_share G us d f a b
  family_bond_by_tables = bond_by_tables_lem G us d f apart (up_of G us d f) (down_of G us d f) ups_of downs_of in_p in_q

  pub family_atom_by_tables : (a : ℕ) → atom_by_tables G us d f (up_of G us d f) (down_of G us d f) a ≡ atom_share G us d f a
  family_atom_by_tables = atom_by_tables_lem G us d f apart (up_of G us d f) (down_of G us d f) ups_of downs_of in_p in_q

-- ---- the entries of all rows

in_count : (from n k : ℕ) → k ∈ count from n → (from ≤ k) × (k < from + n)
unfolding count
in_count from zero k h = absurd (not_in_none h)
in_count from (suc n) k ◌∈◌.first = (omega arith, omega arith)
in_count from (suc n) k (◌∈◌.later h) = let w = in_count (suc from) n k h in (omega (arith, w.0), omega (arith, w.1))

count_in : (from n k : ℕ) → from ≤ k → k < from + n → k ∈ count from n
unfolding count
count_in from zero k low high = absurd (omega arith)
count_in from (suc n) k low high =
    ⊎_elim (λ (less : from < k). ◌∈◌.later (count_in (suc from) n k less (omega arith)))
    (λ (least : k ≤ from). let same : from ≡ k = omega arith in subst (λ (y : ℕ). y ∈ (from ∷ count (suc from) n)) same ◌∈◌.first) (lt_or_ge from k)

count_once : (from n : ℕ) → Once (count from n)
unfolding count
count_once from zero = Once.none
count_once from (suc n) = Once.more {x = from} (λ (h : from ∈ count (suc from) n). omega (arith, (in_count (suc from) n from h).0)) (count_once (suc from) n)

-- Each of the first n places has its share more; the others are as they were.
pub record Added (share : ℕ → ℕ) (n : ℕ) (table after : List ℕ) : Type 0 where
  pub long : length after ≡ length table
  pub entry : (k : ℕ) → k < n → get_or after k 0 ≡ get_or table k 0 + share k
  pub others : (k : ℕ) → n ≤ k → get_or after k 0 ≡ get_or table k 0

pub added : (share : ℕ → ℕ) (n : ℕ) (table : List ℕ) → n ≤ length table → Added share n table (add_into share n table)
unfolding add_into
added share n table room =
    let w = wrote (λ table k. get_or table k 0 + share k) (λ k old. old + share k) (λ table. Unit {0}) (λ table k good. refl) (λ k. Unit {0})
    (λ table k x here good. tt) table (count_once 0 n) (λ k h. (omega (arith, (in_count 0 n k h).1), tt)) tt in
    record {
      long = w.long;
      entry = λ k h. w.done k (count_in 0 n k (omega arith) (omega arith));
      others = λ k h. w.others k (λ (i : k ∈ count 0 n). omega (arith, (in_count 0 n k i).1));
    }

-- After all rows each place has the sum of its shares more.
pub entries_added : (share : Row → ℕ → ℕ) (n : ℕ) (rows : List Row) (table : List ℕ) → n ≤ length table
    → Added (λ k. total (λ row. share row k) rows) n table (entries_into share n rows table)
unfolding entries_into through total
entries_added share n [] table room = record { long = refl; entry = λ k h. omega arith; others = λ k h. refl }
entries_added share n (row ∷ rows) table room =
    let first = added (share row) n table room in
    let rest = entries_added share n rows (add_into (share row) n table) (omega (arith, first.long)) in
    record {
      long = rest.long ∙ first.long;
      entry = λ k h. omega (arith, rest.entry k h, first.entry k h);
      others = λ k h. rest.others k h ∙ first.others k h;
    }
