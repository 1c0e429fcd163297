-- How many sets a basis of the closed sets has: as many as there are bonds and pieces, less the atoms.
use mathlib.Core.Path.{◌≡◌, refl, sym, ap, ap₂, ◌∙◌}
use mathlib.Core.Bool.{Bool, cond, ◌||◌}
use mathlib.Core.List.{List, [], ◌∷◌, map}
use mathlib.Core.Logic.{⊎_elim, ◌≢◌}
use Prim.Native.Nat.{ℕ, zero, suc, ◌+◌, ◌-◌, ◌*◌, ◌%◌, ◌^◌, ◌<◌, ◌≤◌}
use native.Mathlib.Omega.{arith}
use native.Mathlib.Decide.{ℕ_discrete}
use native.Mathlib.Nat.{one-mul, mod-eq_of_lt}
use borrow.Author.Tests.{eq-eqb, ne_eqb}
use lib.Arith.{digits_lt, lt-one}
use lib.Bits.{bit_xor, differ, xor_lt, xor_shifted, xor_comm, xor_self, xor_zero_l}
use lib.Dec.{eqb, eqb-zero-suc}
use lib.ListN.{length, length-map}
use lib.Pow.{pow_pos, pow-lt, high}
use Rattle.spans.specs.Basis.{All, Subgroup}
use Rattle.spans.proofs.Lists.{all_map, part_all}
use Rattle.spans.proofs.Span.{Span, at, pick, zero as span-zero, head, add, null}
use Rattle.spans.proofs.Indep.{Indep, independent}
use Rattle.spans.proofs.Steinitz.{steinitz, same_length, span_inside, spans}
use Rattle.spans.proofs.Kernel.{RankNullity, rank_nullity}
use Rattle.bondset.specs.Sets.{bit}
use Rattle.bondset.proofs.Laws.{cases2, bit_xor_lem, bit_pow_same, bit_pow_other, ext, lt_or_ge, bit_word_lo, zero_bit, xor_assoc, xor_swap, xor_cancel}
use Rattle.bondset.proofs.Group.{bond_sets}
use Rattle.graphs.proofs.Basics.{or_r}
use Rattle.cycles.specs.Compound.{Compound, m, one, other, Joins, Bonded, Walk, Sound, OnePiece, cyclomatic}
use Rattle.cycles.specs.Ring.{meets, degree_to, degree, Closed}
use Rattle.cycles.specs.Basis.{Basis}
use Rattle.cycles.proofs.Shorter.{degree_sum_parity}
use Rattle.cycles.proofs.Edges.{is}
use Rattle.cycles.proofs.PathsDecide.{joins_below}

-- ---- digits
parity_differ : (x y : ℕ) → (x + y) % 2 ≡ differ (x % 2) (y % 2)
parity_differ x y =
    let e : (x + y) % 2 ≡ (x % 2 + y % 2) % 2 = omega arith in
    e ∙ digits (x % 2) (y % 2) (omega arith) (omega arith)
  where
    digits : (u v : ℕ) → u < 2 → v < 2 → (u + v) % 2 ≡ differ u v
    digits u v hu hv =
        cases2 (λ (u : ℕ). (u + v) % 2 ≡ differ u v) (cases2 (λ (v : ℕ). (0 + v) % 2 ≡ v) refl refl v hv)
        (cases2 (λ (v : ℕ). (1 + v) % 2 ≡ differ 1 v) refl refl v hv) u hu

bit_sum : (a b k : ℕ) {x y : ℕ} → bit a k ≡ x → bit b k ≡ y → bit (bit_xor a b) k ≡ differ x y
bit_sum a b k e f = bit_xor_lem a b k ∙ ap₂ (λ (x y : ℕ). differ x y) e f

bit_top : (q r i : ℕ) → q < 2 → r < 2 ^ i → bit (q * 2 ^ i + r) i ≡ q
bit_top q r i hq hr = ap (λ (x : ℕ). x % 2) (high q i hr) ∙ mod-eq_of_lt hq

-- The set of the numbers below n at which g is odd.
unfoldable pub odd_to : (ℕ → ℕ) → ℕ → ℕ
odd_to g zero = 0
odd_to g (suc i) = g i % 2 * 2 ^ i + odd_to g i

odd_to_lt : (g : ℕ → ℕ) (n : ℕ) → odd_to g n < 2 ^ n
unfolding odd_to
odd_to_lt g zero = pow_pos 0
odd_to_lt g (suc i) = omega (arith, digits_lt {q = g i % 2} {m = 2} (omega arith) (odd_to_lt g i))

bit_odd_to : (g : ℕ → ℕ) (n a : ℕ) → a < n → bit (odd_to g n) a ≡ g a % 2
unfolding odd_to
bit_odd_to g zero a h = absurd (omega arith)
bit_odd_to g (suc i) a h =
    ⊎_elim
    (λ (l : a < i). bit_word_lo i (g i % 2) (odd_to g i) (odd_to_lt g i) a l ∙ bit_odd_to g i a l)
    (λ (l : i ≤ a). let e : a ≡ i = omega arith in rw e (bit_top (g i % 2) (odd_to g i) i (omega arith) (odd_to_lt g i)))
    (lt_or_ge a i)

-- ---- the two ends of a bond
-- 1 if i is p or q, else 0.
abbrev ends : ℕ → ℕ → ℕ → ℕ
ends p q i = cond (eqb p i || eqb q i) 1 0

ends_one : (p q i : ℕ) → p ≡ i → ends p q i ≡ 1
ends_one p q i e = ap (λ (b : Bool). cond (b || eqb q i) 1 0) (eq-eqb p i e)

ends_other : (p q i : ℕ) → q ≡ i → ends p q i ≡ 1
ends_other p q i e = ap (λ (b : Bool). cond b 1 0) (or_r (eqb p i) (eqb q i) (eq-eqb q i e))

ends_none : (p q i : ℕ) → p ≢ i → q ≢ i → ends p q i ≡ 0
ends_none p q i e f = ap₂ (λ (b d : Bool). cond (b || d) 1 0) (ne_eqb p i e) (ne_eqb q i f)

ends_parity : (p q i : ℕ) → p ≢ q → ends p q i % 2 ≡ bit (bit_xor (2 ^ p) (2 ^ q)) i
ends_parity p q i n = go (ℕ_discrete p i) (ℕ_discrete q i)
  where
    single_at : (a : ℕ) → a ≡ i → bit (2 ^ a) i ≡ 1
    single_at a e = ap (λ (x : ℕ). bit (2 ^ a) x) (sym e) ∙ bit_pow_same a

    parity : {u v w : ℕ} → ends p q i ≡ u → bit (2 ^ p) i ≡ v → bit (2 ^ q) i ≡ w → u % 2 ≡ differ v w
        → ends p q i % 2 ≡ bit (bit_xor (2 ^ p) (2 ^ q)) i
    parity e f g d = ap (λ (x : ℕ). x % 2) e ∙ d ∙ sym (bit_sum (2 ^ p) (2 ^ q) i f g)

    go : Dec (p ≡ i) → Dec (q ≡ i) → ends p q i % 2 ≡ bit (bit_xor (2 ^ p) (2 ^ q)) i
    go (yes e) (yes f) = absurd (n (e ∙ sym f))
    go (yes e) (no f) = parity (ends_one p q i e) (single_at p e) (bit_pow_other q i f) refl
    go (no e) (yes f) = parity (ends_other p q i f) (bit_pow_other p i e) (single_at q f) refl
    go (no e) (no f) = parity (ends_none p q i e f) (bit_pow_other p i e) (bit_pow_other q i f) refl

-- ---- the boundary of a bond set
module _ (c : Compound) where
  -- The atoms that meet an odd number of the bonds of S.
  pub boundary : ℕ → ℕ
  boundary S = odd_to (degree c S) c.n

  boundary_lt : (S : ℕ) → boundary S < 2 ^ c.n
  unfolding boundary
  boundary_lt S = odd_to_lt (degree c S) c.n

  bit_boundary : (S a : ℕ) → a < c.n → bit (boundary S) a ≡ degree c S a % 2
  unfolding boundary
  bit_boundary S a h = bit_odd_to (degree c S) c.n a h

  -- The boundary of a sum is the sum of the boundaries.
  pub boundary_sum : (S T : ℕ) → boundary (bit_xor S T) ≡ bit_xor (boundary S) (boundary T)
  boundary_sum S T =
      ext c.n _ _ (boundary_lt (bit_xor S T)) (xor_lt c.n _ _ (boundary_lt S) (boundary_lt T))
      (λ a h.
      bit_boundary (bit_xor S T) a h
      ∙ degree_sum_parity c S T a
      ∙ parity_differ (degree c S a) (degree c T a)
      ∙ sym (bit_sum (boundary S) (boundary T) a (bit_boundary S a h) (bit_boundary T a h)))

  -- A closed set has no boundary.
  pub closed_boundary : {S : ℕ} → Closed c S → boundary S ≡ 0
  closed_boundary {S} C =
      ext c.n (boundary S) 0 (boundary_lt S) (pow_pos c.n) (λ a h. bit_boundary S a h ∙ C.even a ∙ sym (zero_bit a))

  degree_to_below : (k i j : ℕ) → j ≤ k → degree_to c j (2 ^ k) i ≡ 0
  unfolding degree_to
  degree_to_below k i zero h = refl
  degree_to_below k i (suc j) h =
      ap₂ (λ (x y : ℕ). x * meets c j i + y) (bit_pow_other k j (omega arith)) (degree_to_below k i j (omega arith)) ∙ omega arith

  degree_to_single : (k i j : ℕ) → k < j → degree_to c j (2 ^ k) i ≡ meets c k i
  unfolding degree_to
  degree_to_single k i zero h = absurd (omega arith)
  degree_to_single k i (suc j) h =
      ⊎_elim
      (λ (l : k < j).
      ap₂ (λ (x y : ℕ). x * meets c j i + y) (bit_pow_other k j (omega arith)) (degree_to_single k i j l) ∙ omega arith)
      (λ (l : j ≤ k).
      let e : j ≡ k = omega arith in
      rw e (ap₂ (λ (x y : ℕ). x * meets c k i + y) (bit_pow_same k) (degree_to_below k i k (omega arith)) ∙ omega arith))
      (lt_or_ge k j)

module _ (c : Compound) (sound : Sound c) where
  pub one_lt : (k : ℕ) → k < m c → one c k < c.n
  one_lt k h = sound.named k (one c k) (other c k) (Joins.given h refl refl)

  pub other_lt : (k : ℕ) → k < m c → other c k < c.n
  other_lt k h = sound.named k (other c k) (one c k) (Joins.turned h refl refl)

  pub ends_differ : (k : ℕ) → k < m c → one c k ≢ other c k
  ends_differ k h e = sound.no_loop k (one c k) (Joins.given h refl (sym e))

  -- An atom that the compound does not have meets no bond.
  pub degree_to_outside : (S a : ℕ) → c.n ≤ a → (k : ℕ) → k ≤ m c → degree_to c k S a ≡ 0
  unfolding degree_to
  degree_to_outside S a h zero l = refl
  degree_to_outside S a h (suc k) l =
      ap₂ (λ (x y : ℕ). bit S k * x + y)
      (ends_none (one c k) (other c k) a (λ e. absurd (omega (arith, one_lt k l))) (λ e. absurd (omega (arith, other_lt k l))))
      (degree_to_outside S a h k (omega arith)) ∙ omega arith

  -- A bond set with no boundary is closed: no other atoms meet a bond.
  pub boundary_closed : {S : ℕ} → S < 2 ^ m c → boundary c S ≡ 0 → Closed c S
  boundary_closed {S} h e =
      record {
        bonds = h;
        even = λ a.
            ⊎_elim
            (λ (l : a < c.n). sym (bit_boundary c S a l) ∙ ap (λ (x : ℕ). bit x a) e ∙ zero_bit a)
            (λ (l : c.n ≤ a). ap (λ (x : ℕ). x % 2) (degree_to_outside S a l (m c) (omega arith)))
            (lt_or_ge a c.n);
      }

  boundary_bond : (k : ℕ) → k < m c → boundary c (2 ^ k) ≡ bit_xor (2 ^ one c k) (2 ^ other c k)
  boundary_bond k h =
      ext c.n _ _ (boundary_lt c (2 ^ k)) (xor_lt c.n _ _ (pow-lt (one_lt k h)) (pow-lt (other_lt k h)))
      (λ a l.
      bit_boundary c (2 ^ k) a l
      ∙ ap (λ (x : ℕ). x % 2) (degree_to_single c k a (m c) h)
      ∙ ends_parity (one c k) (other c k) a (ends_differ k h))

  boundary_joins : {k a b : ℕ} → Joins c k a b → boundary c (2 ^ k) ≡ bit_xor (2 ^ a) (2 ^ b)
  boundary_joins {k} (Joins.given h e f) = boundary_bond k h ∙ ap₂ (λ (x y : ℕ). bit_xor (2 ^ x) (2 ^ y)) e f
  boundary_joins {k} (Joins.turned h e f) =
      boundary_bond k h ∙ xor_comm (2 ^ one c k) (2 ^ other c k) ∙ ap₂ (λ (x y : ℕ). bit_xor (2 ^ x) (2 ^ y)) e f

-- ---- sets of one member
-- The set of g i alone, for each i below k.
unfoldable pub singles_of : (ℕ → ℕ) → ℕ → List ℕ
singles_of g zero = []
singles_of g (suc k) = 2 ^ g k ∷ singles_of g k

-- The sets of one number below k.
abbrev pub singles : ℕ → List ℕ
singles k = singles_of (λ i. i) k

pub length_singles_of : (g : ℕ → ℕ) (k : ℕ) → length (singles_of g k) ≡ k
unfolding singles_of
length_singles_of g zero = refl
length_singles_of g (suc k) = ap suc (length_singles_of g k)

pub singles_of_all : {P : ℕ → Type 0} (g : ℕ → ℕ) (k : ℕ) → ((i : ℕ) → i < k → P (2 ^ g i)) → All P (singles_of g k)
unfolding singles_of
singles_of_all g zero h = All.nil
singles_of_all g (suc k) h = All.cons (h k (omega arith)) (singles_of_all g k (λ i l. h i (omega arith)))

lacks_subgroup : (i : ℕ) → Subgroup bond_sets (λ v. bit v i ≡ 0)
unfolding bond_sets
lacks_subgroup i = record { zero = zero_bit i; add = λ x y hx hy. bit_sum x y i hx hy }

-- Different members: independent sets.
pub singles_of_indep : (g : ℕ → ℕ) (k : ℕ) → ((i j : ℕ) → i < k → j < i → g j ≢ g i) → Indep bond_sets (singles_of g k)
unfolding singles_of
singles_of_indep g zero once = Indep.none
singles_of_indep g (suc k) once = Indep.more (new (once k)) (singles_of_indep g k (λ i j l. once i j (omega arith)))
  where
    new : ((j : ℕ) → k < suc k → j < k → g j ≢ g k) → ¬ Span bond_sets (singles_of g k) (2 ^ g k)
    new h s =
        let others : All (λ v. bit v (g k) ≡ 0) (singles_of g k) = singles_of_all g k (λ j l. bit_pow_other (g j) (g k) (h j (omega arith) l)) in
        omega (arith, bit_pow_same (g k), span_inside bond_sets (lacks_subgroup (g k)) others s)

below_subgroup : (k : ℕ) → Subgroup bond_sets (λ v. v < 2 ^ k)
unfolding bond_sets
below_subgroup k = record { zero = pow_pos k; add = λ x y hx hy. xor_lt k x y hx hy }

span_singles_lt : (k : ℕ) {v : ℕ} → Span bond_sets (singles k) v → v < 2 ^ k
span_singles_lt k s = span_inside bond_sets (below_subgroup k) (singles_of_all (λ i. i) k (λ j l. pow-lt l)) s

xor_top : (k v : ℕ) → 2 ^ k ≤ v → v < 2 ^ suc k → v - 2 ^ k ≡ bit_xor v (2 ^ k)
xor_top k v l h =
    let e : v ≡ 1 * 2 ^ k + (v - 2 ^ k) = omega arith in
    sym
    (ap (λ (x : ℕ). bit_xor x (2 ^ k)) (e ∙ sym (xor_shifted 1 k (v - 2 ^ k) (omega arith)) ∙ xor_comm (1 * 2 ^ k) (v - 2 ^ k))
    ∙ ap (λ (x : ℕ). bit_xor (bit_xor (v - 2 ^ k) x) (2 ^ k)) (one-mul (2 ^ k))
    ∙ xor_cancel (v - 2 ^ k) (2 ^ k))

-- They span every set of numbers below k.
pub span_singles : (k v : ℕ) → v < 2 ^ k → Span bond_sets (singles k) v
unfolding singles_of bond_sets
span_singles zero v h = null bond_sets (lt-one h)
span_singles (suc k) v h =
    ⊎_elim
    (λ (l : v < 2 ^ k). Span.skip (span_singles k v l))
    (λ (l : 2 ^ k ≤ v). pick bond_sets (span_singles k (v - 2 ^ k) (omega arith)) (xor_top k v l h))
    (lt_or_ge v (2 ^ k))

-- ---- pieces
-- Each atom has a root in its piece: bonded atoms have one root.
pub record Rooted (c : Compound) (root : ℕ → ℕ) : Type 0 where
  pub inside : (a : ℕ) → a < c.n → root a < c.n
  pub fixed : (a : ℕ) → a < c.n → root (root a) ≡ root a
  pub walk : (a : ℕ) → a < c.n → (steps : ℕ) × Walk c (root a) a steps
  pub bonded : (a b : ℕ) → Bonded c a b → root a ≡ root b

-- How many of the atoms below i are roots.
unfoldable pub roots_to : (ℕ → ℕ) → ℕ → ℕ
roots_to root zero = 0
roots_to root (suc i) = is (root i) i + roots_to root i

-- The number of pieces: one for each root.
abbrev pub pieces : Compound → (ℕ → ℕ) → ℕ
pieces c root = roots_to root c.n

module _ (root : ℕ → ℕ) where
  -- An atom and its root: nothing, if the atom is a root.
  star : ℕ → ℕ
  star a = bit_xor (2 ^ root a) (2 ^ a)

  star_root : (a : ℕ) → root a ≡ a → 0 ≡ star a
  unfolding star
  star_root a e = sym (ap (λ (x : ℕ). bit_xor (2 ^ x) (2 ^ a)) e ∙ xor_self (2 ^ a))

  star_has : (a : ℕ) → root a ≢ a → bit (star a) a ≡ 1
  unfolding star
  star_has a n = bit_sum (2 ^ root a) (2 ^ a) a (bit_pow_other (root a) a n) (bit_pow_same a)

  star_lacks : (a i : ℕ) → root a ≢ i → a ≢ i → bit (star a) i ≡ 0
  unfolding star
  star_lacks a i n l = bit_sum (2 ^ root a) (2 ^ a) i (bit_pow_other (root a) i n) (bit_pow_other a i l)

  star_sum : (a b : ℕ) → root a ≡ root b → bit_xor (star a) (star b) ≡ bit_xor (2 ^ a) (2 ^ b)
  unfolding star
  star_sum a b e =
      ap (λ (x : ℕ). bit_xor (bit_xor (2 ^ x) (2 ^ a)) (star b)) e
      ∙ xor_swap (2 ^ root b) (2 ^ a) (2 ^ root b) (2 ^ b)
      ∙ ap (λ (x : ℕ). bit_xor x (bit_xor (2 ^ a) (2 ^ b))) (xor_self (2 ^ root b))
      ∙ xor_zero_l (bit_xor (2 ^ a) (2 ^ b))

  -- The stars of the atoms below i that are no roots.
  record Stars (i : ℕ) : Type 0 where
    list : List ℕ
    count : length list + roots_to root i ≡ i
    indep : Indep bond_sets list
    stars : All (λ v. (a : ℕ) × (a < i) × (star a ≡ v)) list
    spans : (a : ℕ) → a < i → Span bond_sets list (star a)

  module _ (i : ℕ) (fixed : (a : ℕ) → a < i → root (root a) ≡ root a) (r : Stars i) where
    before_lacks : root i ≢ i → (v : ℕ) → (a : ℕ) × (a < i) × (star a ≡ v) → bit v i ≡ 0
    before_lacks n v (a, l, e) =
        ap (λ (x : ℕ). bit x i) (sym e) ∙ star_lacks a i (λ q. n (ap root (sym q) ∙ fixed a l ∙ q)) (omega arith)

    star_new : root i ≢ i → ¬ Span bond_sets r.list (star i)
    star_new n s =
        omega (arith, star_has i n, span_inside bond_sets (lacks_subgroup i) (all_map (before_lacks n) r.stars) s)

    one_more : Dec (root i ≡ i) → Stars (suc i)
    unfolding roots_to bond_sets
    one_more (yes e) =
        let root-one : is (root i) i ≡ 1 = ap (λ (b : Bool). cond b 1 0) (eq-eqb (root i) i e) in
        record {
          list = r.list;
          count = omega (arith, r.count);
          indep = r.indep;
          stars = all_map (λ v (a, l, e). (a, omega arith, e)) r.stars;
          spans = λ a l.
              ⊎_elim (λ (h : a < i). r.spans a h)
              (λ (h : i ≤ a). let q : i ≡ a = omega arith in at bond_sets (star_root a (rw (← q) e)) (span-zero bond_sets r.list))
              (lt_or_ge a i);
        }
    one_more (no n) =
        let root_none : is (root i) i ≡ 0 = ap (λ (b : Bool). cond b 1 0) (ne_eqb (root i) i n) in
        record {
          list = star i ∷ r.list;
          count = omega (arith, r.count);
          indep = Indep.more (star_new n) r.indep;
          stars = All.cons (i, omega arith, refl) (all_map (λ v (a, l, e). (a, omega arith, e)) r.stars);
          spans = λ a l.
              ⊎_elim (λ (h : a < i). Span.skip (r.spans a h))
              (λ (h : i ≤ a). let q : i ≡ a = omega arith in rw (← q) (head bond_sets))
              (lt_or_ge a i);
        }

  stars_to : (i : ℕ) → ((a : ℕ) → a < i → root (root a) ≡ root a) → Stars i
  unfolding roots_to
  stars_to zero fixed = record { list = []; count = refl; indep = Indep.none; stars = All.nil; spans = λ a l. absurd (omega arith) }
  stars_to (suc i) fixed =
      one_more i (λ a l. fixed a (omega arith)) (stars_to i (λ a l. fixed a (omega arith))) (ℕ_discrete (root i) i)

-- ---- the dimension
all_images : {P : ℕ → Type 0} (f : ℕ → ℕ) {xs : List ℕ} → All (λ x. P (f x)) xs → All P (map f xs)
all_images f All.nil = All.nil
all_images f (All.cons a r) = All.cons a (all_images f r)

xor_between : (a b d : ℕ) → bit_xor (bit_xor a b) (bit_xor b d) ≡ bit_xor a d
xor_between a b d = sym (xor_assoc (bit_xor a b) b d) ∙ ap (λ (x : ℕ). bit_xor x d) (xor_cancel a b)

module _ (c : Compound) (sound : Sound c) where
  -- The boundary of the bond sets: its rank, and its kernel.
  ranked : RankNullity bond_sets bond_sets (boundary c) (singles (m c))
  unfolding bond_sets
  ranked = rank_nullity bond_sets bond_sets (boundary c) (boundary_sum c) (singles_of_indep (λ i. i) (m c) (λ i j h l. omega arith))

  kernel_basis : Basis c ranked.kernel
  unfolding bond_sets
  kernel_basis =
      record {
        inside = all_map (λ S p. boundary_closed c sound (span_singles_lt (m c) p.0) p.1) ranked.kernel_inside;
        independent = independent bond_sets ranked.kernel_indep;
        spans = spans bond_sets (λ S C. ranked.kernel_spans S (span_singles (m c) S C.bonds) (closed_boundary c C));
      }

  -- The closed sets have a basis.
  pub closed_basis : (B : List ℕ) × Basis c B
  closed_basis = (ranked.kernel, kernel_basis)

  image_joins : {k a b : ℕ} → Joins c k a b → Span bond_sets (map (boundary c) ranked.chosen) (bit_xor (2 ^ a) (2 ^ b))
  image_joins {k} j = at bond_sets (boundary_joins c sound j) (ranked.image_spans (2 ^ k) (span_singles (m c) (2 ^ k) (pow-lt (joins_below c j))))

  -- The two ends of a walk are the boundary of some bond set.
  image_walk : {b a steps : ℕ} → Walk c b a steps → Span bond_sets (map (boundary c) ranked.chosen) (bit_xor (2 ^ a) (2 ^ b))
  unfolding bond_sets
  image_walk {b} Walk.here = at bond_sets (sym (xor_self (2 ^ b))) (span-zero bond_sets _)
  image_walk {b} (Walk.step {a = a} {next = next} (k, j) w) =
      at bond_sets (xor_between (2 ^ a) (2 ^ next) (2 ^ b)) (add bond_sets (image_joins j) (image_walk w))

  module _ (root : ℕ → ℕ) (rooted : Rooted c root) where
    atoms_stars : Stars root c.n
    atoms_stars = stars_to root c.n rooted.fixed

    star_image : (a : ℕ) → a < c.n → Span bond_sets (map (boundary c) ranked.chosen) (star root a)
    unfolding star
    star_image a h = let (steps, w) = rooted.walk a h in at bond_sets (xor_comm (2 ^ a) (2 ^ root a)) (image_walk w)

    bond_stars : (k : ℕ) → k < m c → Span bond_sets atoms_stars.list (boundary c (2 ^ k))
    unfolding bond_sets
    bond_stars k h =
        at bond_sets
        (star_sum root (one c k) (other c k) (rooted.bonded (one c k) (other c k) (k, Joins.given h refl refl)) ∙ sym (boundary_bond c sound k h))
        (add bond_sets (atoms_stars.spans (one c k) (one_lt c sound k h)) (atoms_stars.spans (other c k) (other_lt c sound k h)))

    stars_fewer : length atoms_stars.list ≤ length (map (boundary c) ranked.chosen)
    stars_fewer = steinitz bond_sets atoms_stars.indep (all_map (λ v (a, l, e). at bond_sets e (star_image a l)) atoms_stars.stars)

    images_fewer : length (map (boundary c) ranked.chosen) ≤ length atoms_stars.list
    images_fewer =
        steinitz bond_sets ranked.image_indep
        (all_images (boundary c) (part_all ranked.part (singles_of_all (λ i. i) (m c) bond_stars)))

    rank : length ranked.chosen + pieces c root ≡ c.n
    rank = omega (arith, stars_fewer, images_fewer, atoms_stars.count, length-map ranked.chosen (boundary c))

    -- A basis of the closed sets has m - n and the number of pieces members.
    pub dimension : (B : List ℕ) → Basis c B → length B + c.n ≡ m c + pieces c root
    dimension B b = omega (arith, same_length bond_sets b kernel_basis, ranked.count, length_singles_of (λ i. i) (m c), rank)

roots_to_zero : (i : ℕ) → 0 < i → roots_to (λ a. 0) i ≡ 1
unfolding roots_to
roots_to_zero zero h = absurd (omega arith)
roots_to_zero (suc zero) h = refl
roots_to_zero (suc (suc i)) h =
    let e : is 0 (suc i) ≡ 0 = ap (λ (b : Bool). cond b 1 0) (eqb-zero-suc i) in
    ap₂ (λ (x y : ℕ). x + y) e (roots_to_zero (suc i) (omega arith))

module _ (c : Compound) (sound : Sound c) (piece : OnePiece c) (some : 0 < c.n) where
  one_root : Rooted c (λ a. 0)
  one_root = record { inside = λ a h. some; fixed = λ a h. refl; walk = λ a h. piece.walk a 0 h some; bonded = λ a b j. refl }

  -- A compound in one piece has at least n - 1 bonds, and a basis has as many members as it has more.
  pub dimension_one_piece_sum : (B : List ℕ) → Basis c B → length B + c.n ≡ m c + 1
  dimension_one_piece_sum B b = dimension c sound (λ a. 0) one_root B b ∙ ap (λ (x : ℕ). m c + x) (roots_to_zero c.n some)

  -- In one piece a basis has as many members as the cyclomatic number.
  pub dimension_one_piece : (B : List ℕ) → Basis c B → length B ≡ cyclomatic c
  dimension_one_piece B b = omega (arith, dimension_one_piece_sum B b)
