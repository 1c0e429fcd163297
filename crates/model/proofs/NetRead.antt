-- What the neighbours and the bonds at each atom are, bond by bond as a compound is read.
use mathlib.Core.Path.{◌≡◌, sym, ap, ap₂, ◌∙◌, subst}
use mathlib.Core.List.{List}
use mathlib.Core.Logic.{◌⊎◌, inl, inr, ⊎_elim, ◌↔◌}
use Prim.Native.Nat.{ℕ, zero, suc, ◌+◌, ◌*◌, ◌/◌, ◌%◌, ◌^◌, ◌≤◌, ◌<◌}
use native.Mathlib.Omega.{arith}
use native.Mathlib.Decide.{ℕ_discrete}
use lib.Bits.{bit_or, bit_xor, differ, or_lt, xor_lt}
use lib.ListN.{length, get_or, set, replicate, length-set, length-replicate, get_or-replicate, get_or-eq_default}
use lib.Seq.{get_or-set_same, get_or-set_other}
use lib.Pow.{pow_pos, pow-lt}
use Rattle.bondset.specs.Sets.{bit}
use Rattle.bondset.specs.Rows.{row_at, put_row}
use Rattle.bondset.proofs.Laws.{differ_zero, lt_or_ge, bit_xor_lem, bit_lt, bit_pow_same, bit_pow_other, zero_bit, single_below}
use Rattle.bondset.proofs.Rows.{length_put_row, row_same}
use Rattle.cycles.specs.Compound.{Compound, m, one, other, Joins, Bonded, Sound}
use Rattle.cycles.proofs.Dimension.{one_lt, other_lt}
use Rattle.model.specs.Fold.{through, count}
use Rattle.model.specs.Net.{near1, touch1, read_adj, read_touch, adj_of, touch_of}
use Rattle.model.proofs.NetBits.{or_has, pow_has}

-- What a loop over from, from + 1, .. keeps, it has at the end.
pub through_count : {S : Type 0} (step : ℕ → S → S) (P : ℕ → S → Type 0) (end : ℕ) → ((i : ℕ) (s : S) → i < end → P i s → P (suc i) (step i s))
    → (from k : ℕ) (s : S) → from + k ≡ end → P from s → P end (through step (count from k) s)
unfolding through count
through_count step P end more from zero s e p = let e' : from ≡ end = omega arith in subst (λ (i : ℕ). P i s) e' p
through_count step P end more from (suc k) s e p = through_count step P end more (suc from) k (step from s) (omega arith) (more from s (omega arith) p)

-- So many zeros.
abbrev pub zeros : ℕ → List ℕ
zeros n = replicate n 0

pub get_or_zeros : (n i : ℕ) → get_or (zeros n) i 0 ≡ 0
get_or_zeros n i =
    ⊎_elim (λ (h : i < n). get_or-replicate {A = ℕ} n i 0 0 h)
    (λ (h : n ≤ i). get_or-eq_default (zeros n) 0 (rw length-replicate h)) (lt_or_ge i n)

-- ---- neighbours

pub near1_length : (a b : ℕ) (adj : List ℕ) → length (near1 a b adj) ≡ length adj
unfolding near1
near1_length a b adj = length-set adj a _

module _ (a b : ℕ) (adj : List ℕ) (room : a < length adj) where
  near1_same : get_or (near1 a b adj) a 0 ≡ bit_or (get_or adj a 0) (2 ^ b)
  unfolding near1
  near1_same = get_or-set_same adj a _ 0 room

  near1_other : (x : ℕ) → (x ≡ a → ⊥) → get_or (near1 a b adj) x 0 ≡ get_or adj x 0
  unfolding near1
  near1_other x ne = get_or-set_other adj a x _ 0 ne

  near1_has : (x y : ℕ) → (bit (get_or (near1 a b adj) x 0) y ≡ 1) ↔ ((bit (get_or adj x 0) y ≡ 1) ⊎ ((x ≡ a) × (y ≡ b)))
  near1_has x y = go (ℕ_discrete x a)
    where
      go : Dec (x ≡ a) → (bit (get_or (near1 a b adj) x 0) y ≡ 1) ↔ ((bit (get_or adj x 0) y ≡ 1) ⊎ ((x ≡ a) × (y ≡ b)))
      go (yes e) =
          let same : get_or (near1 a b adj) x 0 ≡ bit_or (get_or adj x 0) (2 ^ b) = rw e near1_same in
          rw same (
            λ h.
                ⊎_elim (λ (l : bit (get_or adj x 0) y ≡ 1). inl l) (λ (r : bit (2 ^ b) y ≡ 1). inr (e, sym ((pow_has b y).0 r)))
                ((or_has (get_or adj x 0) (2 ^ b) y).0 h),
            ⊎_elim (λ (l : bit (get_or adj x 0) y ≡ 1). (or_has (get_or adj x 0) (2 ^ b) y).1 (inl l))
                (λ (r : (x ≡ a) × (y ≡ b)). (or_has (get_or adj x 0) (2 ^ b) y).1 (inr ((pow_has b y).1 (sym r.1)))),
          )
      go (no ne) = rw (near1_other x ne) (λ h. inl h, ⊎_elim (λ (l : bit (get_or adj x 0) y ≡ 1). l) (λ (r : (x ≡ a) × (y ≡ b)). absurd (ne r.0)))

  near1_small : (n : ℕ) → b < n → ((x : ℕ) → get_or adj x 0 < 2 ^ n) → (x : ℕ) → get_or (near1 a b adj) x 0 < 2 ^ n
  near1_small n h small x = go (ℕ_discrete x a)
    where
      go : Dec (x ≡ a) → get_or (near1 a b adj) x 0 < 2 ^ n
      go (yes e) = rw (e, near1_same) (or_lt n (get_or adj a 0) (2 ^ b) (small a) (pow-lt h))
      go (no ne) = rw (near1_other x ne) (small x)

-- The neighbours after the first k bonds.
pub record Near (c : Compound) (k : ℕ) (adj : List ℕ) : Type 0 where
  pub size : length adj ≡ 64
  pub bonded : (a b : ℕ) → bit (get_or adj a 0) b ≡ 1 → Bonded c a b
  pub all : (j a b : ℕ) → j < k → Joins c j a b → bit (get_or adj a 0) b ≡ 1
  pub small : (a : ℕ) → get_or adj a 0 < 2 ^ c.n

module _ (c : Compound) (sound : Sound c) (atoms : c.n ≤ 64) where
  near_none : Near c 0 (zeros 64)
  near_none = record {
    size = length-replicate {A = ℕ} 64 0;
    bonded = λ a b h. absurd (omega (arith, h, ap (λ (x : ℕ). bit x b) (get_or_zeros 64 a), zero_bit b));
    all = λ j a b h. absurd (omega arith);
    small = λ a. rw (get_or_zeros 64 a) (pow_pos c.n);
  }

  near_more : (k : ℕ) (adj : List ℕ) → k < m c → Near c k adj → Near c (suc k) (read_adj c k adj)
  unfolding read_adj
  near_more k adj h near = record {
    size = near1_length q p adj' ∙ near1_length p q adj ∙ near.size;
    bonded = λ a b e.
        ⊎_elim (λ (l : bit (get_or adj' a 0) b ≡ 1). ⊎_elim (λ (o : bit (get_or adj a 0) b ≡ 1). near.bonded a b o)
        (λ (n : (a ≡ p) × (b ≡ q)). (k, Joins.given h (sym n.0) (sym n.1))) ((near1_has p q adj room a b).0 l))
        (λ (n : (a ≡ q) × (b ≡ p)). (k, Joins.turned h (sym n.0) (sym n.1))) ((near1_has q p adj' room' a b).0 e);
    all = λ j a b l joins. elim (lt_or_ge j k) [
      | inl old ↦ (near1_has q p adj' room' a b).1 (inl ((near1_has p q adj room a b).1 (inl (near.all j a b old joins))))
      | inr new ↦ let e : j ≡ k = omega arith in last a b (subst (λ (i : ℕ). Joins c i a b) e joins)
    ];
    small = near1_small q p adj' room' c.n (one_lt c sound k h) (near1_small p q adj room c.n (other_lt c sound k h) near.small);
  }
    where
      p : ℕ
      p = one c k

      q : ℕ
      q = other c k

      adj' : List ℕ
      adj' = near1 p q adj

      room : p < length adj
      room = omega (arith, near.size, one_lt c sound k h)

      room' : q < length adj'
      room' = omega (arith, near1_length p q adj, near.size, other_lt c sound k h)

      last : (a b : ℕ) → Joins c k a b → bit (get_or (near1 q p adj') a 0) b ≡ 1
      last a b (Joins.given l e f) = (near1_has q p adj' room' a b).1 (inl ((near1_has p q adj room a b).1 (inr (sym e, sym f))))
      last a b (Joins.turned l e f) = (near1_has q p adj' room' a b).1 (inr (sym e, sym f))

  -- After all bonds.
  pub adj_near : Near c (m c) (adj_of c (m c))
  unfolding adj_of
  adj_near = through_count (read_adj c) (Near c) (m c) near_more 0 (m c) (zeros 64) (omega arith) near_none

-- ---- bonds

row_other : (rows : List ℕ) (i v j : ℕ) → (j ≡ i → ⊥) → row_at (put_row rows i v) j ≡ row_at rows j
unfolding row_at put_row
row_other rows i v j ne =
    ap₂ (λ (x y : ℕ). x * 2 ^ 64 + y) (past (2 * j + 1) (omega arith) (omega arith)) (past (2 * j) (omega arith) (omega arith))
  where
    past : (k : ℕ) → (k ≡ 2 * i → ⊥) → (k ≡ 2 * i + 1 → ⊥) → get_or (set (set rows (2 * i) (v % 2 ^ 64)) (2 * i + 1) (v / 2 ^ 64)) k 0 ≡ get_or rows k 0
    past k l h = get_or-set_other (set rows (2 * i) (v % 2 ^ 64)) (2 * i + 1) k (v / 2 ^ 64) 0 h ∙ get_or-set_other rows (2 * i) k (v % 2 ^ 64) 0 l

-- A set with one more member.
toggled : (s k j : ℕ) → (bit s k ≡ 1 → ⊥) → (bit (bit_xor s (2 ^ k)) j ≡ 1) ↔ ((bit s j ≡ 1) ⊎ (j ≡ k))
toggled s k j new = go (ℕ_discrete j k)
  where
    go : Dec (j ≡ k) → (bit (bit_xor s (2 ^ k)) j ≡ 1) ↔ ((bit s j ≡ 1) ⊎ (j ≡ k))
    go (yes e) =
        let old : bit s k ≡ 0 = omega (arith, bit_lt s k) in
        let one : bit (bit_xor s (2 ^ k)) j ≡ 1 = rw e (bit_xor_lem s (2 ^ k) k ∙ ap₂ differ old (bit_pow_same k)) in
        (λ h. inr e, λ h. one)
    go (no ne) =
        let same : bit (bit_xor s (2 ^ k)) j ≡ bit s j =
        bit_xor_lem s (2 ^ k) j ∙ ap (differ (bit s j)) (bit_pow_other k j (λ e. ne (sym e))) ∙ differ_zero (bit s j) in
        (λ h. inl (sym same ∙ h), ⊎_elim (λ (l : bit s j ≡ 1). same ∙ l) (λ (r : j ≡ k). absurd (ne r)))

row_zeros : (n i : ℕ) → row_at (zeros n) i ≡ 0
unfolding row_at
row_zeros n i = ap₂ (λ (x y : ℕ). x * 2 ^ 64 + y) (get_or_zeros n (2 * i + 1)) (get_or_zeros n (2 * i))

-- Atom a is an end of bond k.
abbrev pub End : Compound → ℕ → ℕ → Type 0
End c k a = (one c k ≡ a) ⊎ (other c k ≡ a)

-- The bonds at each atom after the first k bonds.
pub record Touched (c : Compound) (k : ℕ) (touch : List ℕ) : Type 0 where
  pub size : length touch ≡ 128
  pub read : (a j : ℕ) → bit (row_at touch a) j ≡ 1 → j < k
  pub meets : (a j : ℕ) → bit (row_at touch a) j ≡ 1 → End c j a
  pub all : (a j : ℕ) → j < k → End c j a → bit (row_at touch a) j ≡ 1
  pub small : (a : ℕ) → row_at touch a < 2 ^ m c

module _ (c : Compound) (sound : Sound c) (atoms : c.n ≤ 64) (bonds : m c ≤ 96) where
  touched_none : Touched c 0 (zeros 128)
  touched_none = record {
    size = length-replicate {A = ℕ} 128 0;
    read = λ a j h. absurd (empty a j h);
    meets = λ a j h. absurd (empty a j h);
    all = λ a j h. absurd (omega arith);
    small = λ a. rw (row_zeros 128 a) (pow_pos (m c));
  }
    where
      empty : (a j : ℕ) → bit (row_at (zeros 128) a) j ≡ 1 → ⊥
      empty a j h = omega (arith, ap (λ (x : ℕ). bit x j) (row_zeros 128 a), zero_bit j)

  module _ (k : ℕ) (touch : List ℕ) (h : k < m c) (before : Touched c k touch) where
    abbrev p : ℕ
    p = one c k

    abbrev q : ℕ
    q = other c k

    touch1_length : (a : ℕ) (rows : List ℕ) → length (touch1 a k rows) ≡ length rows
    unfolding touch1
    touch1_length a rows = length_put_row rows a _

    touch1_same : (a : ℕ) (rows : List ℕ) → a < c.n → length rows ≡ 128 → row_at (touch1 a k rows) a ≡ bit_xor (row_at rows a) (2 ^ k)
    unfolding touch1
    touch1_same a rows l size =
        row_same rows a _ (omega arith) ∙ ap (bit_xor (row_at rows a)) (single_below k (omega arith))

    touch1_other : (a : ℕ) (rows : List ℕ) (x : ℕ) → (x ≡ a → ⊥) → row_at (touch1 a k rows) x ≡ row_at rows x
    unfolding touch1
    touch1_other a rows x ne = row_other rows a _ x ne

    apart : (a : ℕ) → p ≡ a → q ≡ a → ⊥
    apart a e f = sound.no_loop k a (Joins.given h e f)

    after : List ℕ
    after = touch1 q k (touch1 p k touch)

    at_end_lem : (a : ℕ) → End c k a → row_at after a ≡ bit_xor (row_at touch a) (2 ^ k)
    unfolding after
    at_end_lem a (inl e) =
        touch1_other q (touch1 p k touch) a (λ f. apart a e (sym f))
        ∙ subst (λ (x : ℕ). row_at (touch1 p k touch) x ≡ bit_xor (row_at touch x) (2 ^ k)) e (touch1_same p touch (one_lt c sound k h) before.size)
    at_end_lem a (inr e) =
        subst (λ (x : ℕ). row_at after x ≡ bit_xor (row_at (touch1 p k touch) x) (2 ^ k)) e
        (touch1_same q (touch1 p k touch) (other_lt c sound k h) (touch1_length p touch ∙ before.size))
        ∙ ap (λ (x : ℕ). bit_xor x (2 ^ k)) (touch1_other p touch a (λ f. apart a (sym f) e))

    elsewhere : (a : ℕ) → (End c k a → ⊥) → row_at after a ≡ row_at touch a
    unfolding after
    elsewhere a ne = touch1_other q (touch1 p k touch) a (λ e. ne (inr (sym e))) ∙ touch1_other p touch a (λ e. ne (inl (sym e)))

    end_dec : (a : ℕ) → Dec (End c k a)
    end_dec a = go (ℕ_discrete p a) (ℕ_discrete q a)
      where
        go : Dec (p ≡ a) → Dec (q ≡ a) → Dec (End c k a)
        go (yes e) d = yes (inl e)
        go (no n) (yes f) = yes (inr f)
        go (no n) (no o) = no (elim [ inl e ↦ n e | inr f ↦ o f ])

    -- The bonds at a, one more if it is an end of bond k.
    row_has : (a j : ℕ) → (bit (row_at after a) j ≡ 1) ↔ ((bit (row_at touch a) j ≡ 1) ⊎ ((j ≡ k) × End c k a))
    row_has a j = go (end_dec a)
      where
        go : Dec (End c k a) → (bit (row_at after a) j ≡ 1) ↔ ((bit (row_at touch a) j ≡ 1) ⊎ ((j ≡ k) × End c k a))
        go (yes e) =
            let new = toggled (row_at touch a) k j (λ o. omega (arith, before.read a k o)) in
            rw (at_end_lem a e) (
              λ o. ⊎_elim (λ (l : bit (row_at touch a) j ≡ 1). inl l) (λ (r : j ≡ k). inr (r, e)) (new.0 o),
              ⊎_elim (λ (l : bit (row_at touch a) j ≡ 1). new.1 (inl l)) (λ (r : (j ≡ k) × End c k a). new.1 (inr r.0)),
            )
        go (no ne) = rw (elsewhere a ne) (λ o. inl o, ⊎_elim (λ (l : bit (row_at touch a) j ≡ 1). l) (λ (r : (j ≡ k) × End c k a). absurd (ne r.1)))

    after_size : length after ≡ 128
    unfolding after
    after_size = touch1_length q (touch1 p k touch) ∙ touch1_length p touch ∙ before.size

    after_small : (a : ℕ) → row_at after a < 2 ^ m c
    after_small a = go (end_dec a)
      where
        go : Dec (End c k a) → row_at after a < 2 ^ m c
        go (yes e) = rw (at_end_lem a e) (xor_lt (m c) (row_at touch a) (2 ^ k) (before.small a) (pow-lt h))
        go (no ne) = rw (elsewhere a ne) (before.small a)

    touched_after : Touched c (suc k) after
    touched_after = record {
      size = after_size;
      read = λ a j o.
          ⊎_elim (λ (l : bit (row_at touch a) j ≡ 1). omega (arith, before.read a j l)) (λ (r : (j ≡ k) × End c k a). omega (arith, r.0)) ((row_has a j).0 o);
      meets = λ a j o.
          ⊎_elim (λ (l : bit (row_at touch a) j ≡ 1). before.meets a j l)
          (λ (r : (j ≡ k) × End c k a). subst (λ (i : ℕ). End c i a) (sym r.0) r.1) ((row_has a j).0 o);
      all = λ a j l e. elim (lt_or_ge j k) [
        | inl old ↦ (row_has a j).1 (inl (before.all a j old e))
        | inr new ↦ let same : j ≡ k = omega arith in (row_has a j).1 (inr (same, subst (λ (i : ℕ). End c i a) same e))
      ];
      small = after_small;
    }

  touched_more : (k : ℕ) (touch : List ℕ) → k < m c → Touched c k touch → Touched c (suc k) (read_touch c k touch)
  unfolding read_touch after
  touched_more k touch h before = touched_after k touch h before

  -- After all bonds.
  pub touch_touched : Touched c (m c) (touch_of c (m c))
  unfolding touch_of
  touch_touched = through_count (read_touch c) (Touched c) (m c) touched_more 0 (m c) (zeros 128) (omega arith) touched_none
