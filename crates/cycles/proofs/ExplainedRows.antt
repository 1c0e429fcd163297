-- The numbers of the marked rows, in order, and their prototypes: the marked basis.
use mathlib.Core.Path.{◌≡◌, refl, sym, ap, ap₂, ◌∙◌, subst}
use mathlib.Core.List.{List, [], ◌∷◌, ◌++◌, map, append_assoc, append-nil}
use mathlib.Core.Logic.{◌⊎◌, inl, inr, ⊎_elim}
use Prim.Native.Nat.{ℕ, suc, ◌<◌, ◌≤◌}
use native.Mathlib.Omega.{arith}
use lib.ListN.{length, take, length-take}
use Rattle.spans.specs.Elements.{◌∈◌}
use Rattle.spans.specs.Basis.{Part, All}
use Rattle.spans.specs.Graded.{below}
use Rattle.spans.proofs.Lists.{part_none, part_all}
use Rattle.spans.proofs.Marking.{all_element, Rising}
use Rattle.spans.proofs.Prefix.{below_front}
use Rattle.cycles.specs.Compound.{Compound, Sound}
use Rattle.cycles.specs.Ring.{len, Ring}
use Rattle.cycles.specs.Family.{Prototype}
use Rattle.cycles.specs.Rows.{Row, At, Ascending, Marks, Report, Right}
use Rattle.cycles.specs.Explained.{InOrder, Named}
use Rattle.cycles.proofs.PathsDecide.{not_in_none, in_cases}
use Rattle.cycles.proofs.Families.{prototype_member, prototype_unique}
use Rattle.cycles.proofs.Ranks.{in_map, at_element, at_unique}
use Rattle.cycles.proofs.Bases.{ascending_long, ascending_rest, prototype_long}
use Rattle.cycles.proofs.OneRow.{row_place_unique}

-- A part is no longer than the whole.
part_length : {X : Type 0} {xs ys : List X} → Part xs ys → length ys ≤ length xs
part_length Part.nil = omega arith
part_length (Part.keep p) = omega (arith, part_length p)
part_length (Part.skip p) = omega (arith, part_length p)

-- ---- numbers in order
-- Numbers in order of which some are left out are in order.
pub in_order_part : {xs ys : List ℕ} → Part xs ys → InOrder xs → InOrder ys
in_order_part Part.nil o = o
in_order_part (Part.keep p) (InOrder.more a o) = InOrder.more (part_all p a) (in_order_part p o)
in_order_part (Part.skip p) (InOrder.more a o) = in_order_part p o

all_suc : {i : ℕ} {xs : List ℕ} → All (λ j. i < j) xs → All (λ j. suc i < j) (map suc xs)
all_suc All.nil = All.nil
all_suc {i} (All.cons {x = x} h a) = let l : suc i < suc x = omega arith in All.cons l (all_suc a)

all_positive : (xs : List ℕ) → All (λ j. 0 < j) (map suc xs)
all_positive [] = All.nil
all_positive (x ∷ xs) = let l : 0 < suc x = omega arith in All.cons l (all_positive xs)

in_order_suc : {xs : List ℕ} → InOrder xs → InOrder (map suc xs)
in_order_suc InOrder.none = InOrder.none
in_order_suc (InOrder.more a o) = InOrder.more (all_suc a) (in_order_suc o)

-- Numbers in order, all of them among others in order, are a part of these.
in_order_inside : (xs ys : List ℕ) → InOrder xs → InOrder ys → ((y : ℕ) → y ∈ ys → y ∈ xs) → Part xs ys
in_order_inside [] [] o q f = Part.nil
in_order_inside [] (y ∷ ys) o q f = absurd (not_in_none (f y ◌∈◌.first))
in_order_inside (x ∷ xs) [] o q f = Part.skip (part_none xs)
in_order_inside (x ∷ xs) (y ∷ ys) (InOrder.more a o) (InOrder.more b q) f =
    go (in_cases (f y ◌∈◌.first)) (λ g. in_order_inside xs ys o q g) (λ g. in_order_inside xs (y ∷ ys) o (InOrder.more b q) g)
  where
    beyond : (z : ℕ) → x < z → z ∈ (x ∷ xs) → z ∈ xs
    beyond z h i = ⊎_elim (λ e. absurd (omega arith)) (λ j. j) (in_cases i)

    go : (x ≡ y) ⊎ (y ∈ xs) → (((z : ℕ) → z ∈ ys → z ∈ xs) → Part xs ys) → (((z : ℕ) → z ∈ (y ∷ ys) → z ∈ xs) → Part xs (y ∷ ys)) → Part (x ∷ xs) (y ∷ ys)
    go (inl e) same less =
        subst (λ (w : ℕ). Part (x ∷ xs) (w ∷ ys)) e
        (Part.keep (same (λ z i. beyond z (omega (arith, all_element b i)) (f z (◌∈◌.later i)))))
    go (inr j) same less =
        let h = all_element a j in
        Part.skip (less (λ z i. ⊎_elim (λ e. subst (λ (w : ℕ). w ∈ xs) e j) (λ k. beyond z (omega (arith, all_element b k)) (f z i)) (in_cases i)))

module _ (c : Compound) {rank : ℕ → ℕ} {R : Report} (right : Right c rank R) where
  -- How many marked prototypes are shorter than k.
  abbrev pub short_of : ℕ → ℕ
  short_of k = length (below (len c) k right.basis)

module _ (c : Compound) (rank : ℕ → ℕ) where
  -- A row in front moves the numbers on by one.
  named_later : {row : Row} {rows : List Row} {numbers Ss : List ℕ} → Named c rank rows numbers Ss → Named c rank (row ∷ rows) (map suc numbers) Ss
  named_later Named.none = Named.none
  named_later (Named.more a e p n) = Named.more (At.later a) e p (named_later n)

  -- The numbers of all rows with mark 1, in order; their prototypes are what was marked on the way.
  pub record MarkedRows (before : List ℕ) (rows : List Row) (after : List ℕ) : Type 0 where
    pub numbers : List ℕ
    pub ordered : InOrder numbers
    pub rings : List ℕ
    pub named : Named c rank rows numbers rings
    pub in_front : after ≡ before ++ rings
    pub every : (i : ℕ) (row : Row) → At rows i row → row.mark ≡ 1 → i ∈ numbers

  -- Marking gives these numbers.
  pub marks_numbers : {before after : List ℕ} {rows : List Row} → Marks c rank before rows after → MarkedRows before rows after
  marks_numbers (Marks.end {marked = before}) = record {
    numbers = [];
    ordered = InOrder.none;
    rings = [];
    named = Named.none;
    in_front = sym (append-nil before);
    every = λ i row a e. absurd (at_none a);
  }
    where
      at_none : {i : ℕ} {row : Row} → At [] i row → ⊥
      at_none = elim [ ]
  marks_numbers (Marks.marked {before = before} {row = row} {rows = rows} {S = S} p n e m) =
      let r = marks_numbers m in
      record {
        numbers = 0 ∷ map suc r.numbers;
        ordered = InOrder.more (all_positive r.numbers) (in_order_suc r.ordered);
        rings = S ∷ r.rings;
        named = Named.more At.here e p (named_later r.named);
        in_front = r.in_front ∙ append_assoc before (S ∷ []) r.rings;
        every = every r.every;
      }
    where
      every : {numbers : List ℕ} → ((i : ℕ) (u : Row) → At rows i u → u.mark ≡ 1 → i ∈ numbers)
          → (i : ℕ) (u : Row) → At (row ∷ rows) i u → u.mark ≡ 1 → i ∈ (0 ∷ map suc numbers)
      every f _ u At.here d = ◌∈◌.first
      every f _ u (At.later a) d = ◌∈◌.later (in_map suc (f _ u a d))
  marks_numbers (Marks.unmarked {row = row} {rows = rows} p s e m) =
      let r = marks_numbers m in
      record {
        numbers = map suc r.numbers;
        ordered = in_order_suc r.ordered;
        rings = r.rings;
        named = named_later r.named;
        in_front = r.in_front;
        every = every r.every;
      }
    where
      every : {numbers : List ℕ} → ((i : ℕ) (u : Row) → At rows i u → u.mark ≡ 1 → i ∈ numbers)
          → (i : ℕ) (u : Row) → At (row ∷ rows) i u → u.mark ≡ 1 → i ∈ map suc numbers
      every f _ u At.here d = absurd (omega (arith, e, d))
      every f _ u (At.later a) d = in_map suc (f _ u a d)

  -- Some of the rings named have some of the numbers.
  named_part : {rows : List Row} {numbers Ss Ts : List ℕ} → Named c rank rows numbers Ss → Part Ss Ts
      → (some : List ℕ) × Part numbers some × Named c rank rows some Ts
  named_part Named.none Part.nil = ([], Part.nil, Named.none)
  named_part (Named.more {i = i} a e p n) (Part.keep q) =
      let (some, u, v) = named_part n q in (i ∷ some, Part.keep u, Named.more a e p v)
  named_part (Named.more a e p n) (Part.skip q) = let (some, u, v) = named_part n q in (some, Part.skip u, v)

  -- Some of the numbers name some of the rings.
  numbers_part : {rows : List Row} {numbers some Ss : List ℕ} → Named c rank rows numbers Ss → Part numbers some
      → (Ts : List ℕ) × Part Ss Ts × Named c rank rows some Ts
  numbers_part Named.none Part.nil = ([], Part.nil, Named.none)
  numbers_part (Named.more {S = S} a e p n) (Part.keep q) =
      let (Ts, u, v) = numbers_part n q in (S ∷ Ts, Part.keep u, Named.more a e p v)
  numbers_part (Named.more a e p n) (Part.skip q) = let (Ts, u, v) = numbers_part n q in (Ts, Part.skip u, v)

  -- A number that names a ring is that of a row with mark 1.
  named_marked : {rows : List Row} {numbers Ss : List ℕ} {i : ℕ} → Named c rank rows numbers Ss → i ∈ numbers
      → (row : Row) × At rows i row × (row.mark ≡ 1)
  named_marked Named.none a = elim a [ ]
  named_marked (Named.more {row = row} a e p n) ◌∈◌.first = (row, a, e)
  named_marked (Named.more a e p n) (◌∈◌.later i) = named_marked n i

  -- As many numbers as rings.
  named_length : {rows : List Row} {numbers Ss : List ℕ} → Named c rank rows numbers Ss → length numbers ≡ length Ss
  named_length Named.none = refl
  named_length (Named.more a e p n) = ap suc (named_length n)

module _ (c : Compound) (sound : Sound c) (rank : ℕ → ℕ) where
  -- Numbers name one list of rings.
  named_unique : {rows : List Row} {numbers Ss Ts : List ℕ} → Named c rank rows numbers Ss → Named c rank rows numbers Ts → Ss ≡ Ts
  named_unique Named.none Named.none = refl
  named_unique (Named.more {S = S} {row = u} a e p n) (Named.more {S = T} {row = v} b d q m) =
      let same : u ≡ v = at_unique a b in
      ap₂ ◌∷◌ (prototype_unique c sound rank (subst (λ (w : Row). Prototype c rank w.family S) same p) q) (named_unique n m)

  -- The rings named are rings.
  pub named_rings : {rows : List Row} {numbers Ss : List ℕ} → Named c rank rows numbers Ss → All (Ring c) Ss
  named_rings Named.none = All.nil
  named_rings (Named.more a e p n) = All.cons (prototype_member c sound rank p).ring (named_rings n)

  -- A row further on is no shorter.
  rows_long_lem : {rows : List Row} {u v : Row} {i j : ℕ} → Ascending (map (λ row. row.family) rows) → At rows i u → At rows j v → i < j
      → u.family.long ≤ v.family.long
  rows_long_lem a At.here At.here h = absurd (omega arith)
  rows_long_lem a At.here (At.later q) h = all_element (ascending_long a) (in_map (λ row. row.family) (at_element q))
  rows_long_lem a (At.later p) At.here h = absurd (omega arith)
  rows_long_lem a (At.later p) (At.later q) h = rows_long_lem (ascending_rest a) p q (omega arith)

  named_longer : {rows : List Row} {i S : ℕ} {u : Row} {numbers Ss : List ℕ} → Ascending (map (λ row. row.family) rows) → At rows i u
      → Prototype c rank u.family S → All (λ j. i < j) numbers → Named c rank rows numbers Ss → All (λ T. len c S ≤ len c T) Ss
  named_longer a p s All.nil Named.none = All.nil
  named_longer {S = S} a p s (All.cons h less) (Named.more {S = T} q e t n) =
      let l : len c S ≤ len c T = omega (arith, rows_long_lem a p q h, prototype_long c sound rank s, prototype_long c sound rank t) in
      All.cons l (named_longer a p s less n)

  -- Numbers in order name rings that rise in length.
  named_rising : {rows : List Row} {numbers Ss : List ℕ} → Ascending (map (λ row. row.family) rows) → InOrder numbers → Named c rank rows numbers Ss
      → Rising (len c) Ss
  named_rising a InOrder.none Named.none = Rising.nil
  named_rising a (InOrder.more less o) (Named.more p e s n) = Rising.cons (named_longer a p s less n) (named_rising a o n)

  module _ {R : Report} (right : Right c rank R) where
    -- A part of the marked basis is named by numbers of rows in order.
    pub part_named : {Ss : List ℕ} → Part right.basis Ss → (numbers : List ℕ) × InOrder numbers × Named c rank R.rows numbers Ss
    part_named {Ss} p =
        let r = marks_numbers c rank right.marks in
        let (some, q, n) = named_part c rank r.named (subst (λ (B : List ℕ). Part B Ss) r.in_front p) in
        (some, in_order_part q r.ordered, n)

    -- What numbers in order name is a part of the marked basis.
    pub named_basis_part : {numbers Ss : List ℕ} → InOrder numbers → Named c rank R.rows numbers Ss → Part right.basis Ss
    named_basis_part {numbers} {Ss} o n =
        let r = marks_numbers c rank right.marks in
        let inside =
        in_order_inside r.numbers numbers r.ordered o (λ i h. let (row, a, e) = named_marked c rank n h in r.every i row a e) in
        let (Ts, p, m) = numbers_part c rank r.named inside in
        subst (λ (Us : List ℕ). Part right.basis Us) (named_unique m n) (subst (λ (B : List ℕ). Part B Ts) (sym r.in_front) p)

    -- No more rows are named than are marked.
    pub named_few : {numbers Ss : List ℕ} → InOrder numbers → Named c rank R.rows numbers Ss → length numbers ≤ length right.basis
    named_few o n = omega (arith, named_length c rank n, part_length (named_basis_part o n))

    -- The marked basis rises in length: it is in row order.
    pub marked_rising : Rising (len c) right.basis
    marked_rising =
        let r = marks_numbers c rank right.marks in
        subst (Rising (len c)) (sym r.in_front) (named_rising right.ordered r.ordered r.named)

    -- The marked prototypes that are shorter than k are the first ones.
    pub marked_front : (k : ℕ) → take (short_of c right k) right.basis ≡ below (len c) k right.basis
    marked_front k = below_front (len c) k marked_rising

    -- They are no more than all.
    pub marked_short_le : (k : ℕ) → short_of c right k ≤ length right.basis
    marked_short_le k = omega (arith, length-take (short_of c right k) right.basis, ap length (marked_front k))

    module _ (injective : (a b : ℕ) → a < c.n → b < c.n → rank a ≡ rank b → a ≡ b) where
      -- Rings are named by one list of numbers.
      pub numbers_unique : {numbers others Ss Ts : List ℕ} → Ss ≡ Ts → Named c rank R.rows numbers Ss → Named c rank R.rows others Ts
          → numbers ≡ others
      numbers_unique e Named.none Named.none = refl
      numbers_unique e Named.none (Named.more b d q m) = let z : ◌≡◌ {A = ℕ} 0 1 = cc in absurd (omega arith)
      numbers_unique e (Named.more a f p n) Named.none = let z : ◌≡◌ {A = ℕ} 0 1 = cc in absurd (omega arith)
      numbers_unique e (Named.more {S = S} {row = u} {Ss = Ss} a f p n) (Named.more {S = T} {Ss = Ts} b d q m) =
          let head : S ≡ T = cc in
          let rest : Ss ≡ Ts = cc in
          ap₂ ◌∷◌
          (row_place_unique c sound rank injective right a b
          (prototype_member c sound rank (subst (λ (X : ℕ). Prototype c rank u.family X) head p)) (prototype_member c sound rank q))
          (numbers_unique rest n m)
