-- Walks lengthened, joined, cut and turned round.
use mathlib.Core.Path.{◌≡◌, refl, sym, ap, ◌∙◌}
use mathlib.Core.Bool.{Bool, true, false, ◌||◌, or_assoc, or-false}
use mathlib.Core.Logic.{⊎_elim}
use Prim.Native.Nat.{ℕ, zero, suc, ◌+◌, ◌≤◌, ◌<◌}
use native.Mathlib.Omega.{arith}
use Rattle.graphs.specs.Count.{xor, same}
use Rattle.graphs.specs.Graph.{Graph, Joins}
use Rattle.graphs.specs.Walk.{Steps, end, go, last, len, atom, edges, heads, visits, IsWalk, Distinct}
use Rattle.graphs.proofs.Basics.{clash, or_cases, or_off_l, or_off_r, xor_assoc, xor_left_comm, same_eq, same_sym}
use Rattle.graphs.proofs.Graph.{joins_sym}

-- One step more at the end.

abbrev pub snoc : Steps → ℕ → ℕ → Steps
snoc end k w = go k w end
snoc (go j x p) k w = go j x (snoc p k w)

pub last_snoc : (u : ℕ) (p : Steps) (k w : ℕ) → last u (snoc p k w) ≡ w
last_snoc u end k w = refl
last_snoc u (go j x p) k w = last_snoc x p k w

pub len_snoc : (p : Steps) (k w : ℕ) → len (snoc p k w) ≡ suc (len p)
len_snoc end k w = refl
len_snoc (go j x p) k w = ap suc (len_snoc p k w)

pub walk_snoc : (G : Graph) (u : ℕ) (p : Steps) (k w : ℕ) → IsWalk G u p → k < G.m → Joins G k (last u p) w → IsWalk G u (snoc p k w)
walk_snoc G u end k w h l j = (l, j, tt)
walk_snoc G u (go i x p) k w h l j = (h.0, h.1, walk_snoc G x p k w h.2 l j)

heads_snoc : (p : Steps) (k w a : ℕ) → heads (snoc p k w) a ≡ (heads p a || same w a)
heads_snoc end k w a = or-false (same w a)
heads_snoc (go j x p) k w a = ap (λ (b : Bool). same x a || b) (heads_snoc p k w a) ∙ sym (or_assoc (same x a) (heads p a) (same w a))

pub edges_snoc : (p : Steps) (k w j : ℕ) → edges (snoc p k w) j ≡ xor (same k j) (edges p j)
edges_snoc end k w j = refl
edges_snoc (go i x p) k w j = ap (λ (b : Bool). xor (same i j) b) (edges_snoc p k w j) ∙ xor_left_comm (same i j) (same k j) (edges p j)

pub distinct_snoc : (u : ℕ) (p : Steps) (k w : ℕ) → Distinct u p → visits u p w ≡ false → Distinct u (snoc p k w)
distinct_snoc u end k w d v = (rw (same_sym w u) v, tt)
distinct_snoc u (go j x p) k w d v = (
  ap (λ (b : Bool). same x u || b) (heads_snoc p k w u) ∙ sym (or_assoc (same x u) (heads p u) (same w u))
      ∙ rw (d.0, same_sym w u) (or_off_l (same u w) (visits x p w) v),
  distinct_snoc x p k w d.1 (or_off_r (same u w) (visits x p w) v),
)

pub atom_snoc : (u : ℕ) (p : Steps) (k w i : ℕ) → i ≤ len p → atom u (snoc p k w) i ≡ atom u p i
atom_snoc u p k w zero h = refl
atom_snoc u end k w (suc i) h = absurd (omega arith)
atom_snoc u (go j x p) k w (suc i) h = atom_snoc x p k w i (omega arith)

-- One walk after another.

abbrev pub app : Steps → Steps → Steps
app end q = q
app (go k w p) q = go k w (app p q)

pub last_app : (u : ℕ) (p q : Steps) → last u (app p q) ≡ last (last u p) q
last_app u end q = refl
last_app u (go k w p) q = last_app w p q

pub len_app : (p q : Steps) → len (app p q) ≡ len p + len q
len_app end q = omega arith
len_app (go k w p) q = omega (arith, len_app p q)

pub walk_app : (G : Graph) (u : ℕ) (p q : Steps) → IsWalk G u p → IsWalk G (last u p) q → IsWalk G u (app p q)
walk_app G u end q h g = g
walk_app G u (go k w p) q h g = (h.0, h.1, walk_app G w p q h.2 g)

pub edges_app : (p q : Steps) (j : ℕ) → edges (app p q) j ≡ xor (edges p j) (edges q j)
edges_app end q j = refl
edges_app (go k w p) q j = ap (λ (x : Bool). xor (same k j) x) (edges_app p q j) ∙ sym (xor_assoc (same k j) (edges p j) (edges q j))

-- The first i steps and the others.

abbrev pub take_s : ℕ → Steps → Steps
take_s zero p = end
take_s (suc i) end = end
take_s (suc i) (go k w p) = go k w (take_s i p)

abbrev pub drop_s : ℕ → Steps → Steps
drop_s zero p = p
drop_s (suc i) end = end
drop_s (suc i) (go k w p) = drop_s i p

pub split : (i : ℕ) (p : Steps) → app (take_s i p) (drop_s i p) ≡ p
split zero p = refl
split (suc i) end = refl
split (suc i) (go k w p) = ap (go k w) (split i p)

pub last_take : (u i : ℕ) (p : Steps) → last u (take_s i p) ≡ atom u p i
last_take u zero p = refl
last_take u (suc i) end = refl
last_take u (suc i) (go k w p) = last_take w i p

pub len_take : (i : ℕ) (p : Steps) → i ≤ len p → len (take_s i p) ≡ i
len_take zero p h = refl
len_take (suc i) end h = absurd (omega arith)
len_take (suc i) (go k w p) h = ap suc (len_take i p (omega arith))

pub len_drop : (i : ℕ) (p : Steps) → i ≤ len p → len (drop_s i p) + i ≡ len p
len_drop zero p h = omega arith
len_drop (suc i) end h = absurd (omega arith)
len_drop (suc i) (go k w p) h = omega (arith, len_drop i p (omega arith))

pub walk_take : (G : Graph) (u i : ℕ) (p : Steps) → IsWalk G u p → IsWalk G u (take_s i p)
walk_take G u zero p h = tt
walk_take G u (suc i) end h = tt
walk_take G u (suc i) (go k w p) h = (h.0, h.1, walk_take G w i p h.2)

pub walk_drop : (G : Graph) (u i : ℕ) (p : Steps) → IsWalk G u p → IsWalk G (atom u p i) (drop_s i p)
walk_drop G u zero p h = h
walk_drop G u (suc i) end h = tt
walk_drop G u (suc i) (go k w p) h = walk_drop G w i p h.2

pub last_drop : (u i : ℕ) (p : Steps) → last (atom u p i) (drop_s i p) ≡ last u p
last_drop u zero p = refl
last_drop u (suc i) end = refl
last_drop u (suc i) (go k w p) = last_drop w i p

-- A walk turned round, before what is behind it.

abbrev pub rev_s : ℕ → Steps → Steps → Steps
rev_s u end r = r
rev_s u (go k w p) r = rev_s w p (go k u r)

pub walk_rev : (G : Graph) (u : ℕ) (p r : Steps) → IsWalk G u p → IsWalk G u r → IsWalk G (last u p) (rev_s u p r)
walk_rev G u end r h g = g
walk_rev G u (go k w p) r h g = walk_rev G w p (go k u r) h.2 (h.0, joins_sym G k u w h.1, g)

pub last_rev : (u : ℕ) (p r : Steps) → last (last u p) (rev_s u p r) ≡ last u r
last_rev u end r = refl
last_rev u (go k w p) r = last_rev w p (go k u r)

pub len_rev : (u : ℕ) (p r : Steps) → len (rev_s u p r) ≡ len p + len r
len_rev u end r = omega arith
len_rev u (go k w p) r = omega (arith, len_rev w p (go k u r))

pub edges_rev : (u : ℕ) (p r : Steps) (j : ℕ) → edges (rev_s u p r) j ≡ xor (edges p j) (edges r j)
edges_rev u end r j = refl
edges_rev u (go k w p) r j =
    edges_rev w p (go k u r) j ∙ xor_left_comm (edges p j) (same k j) (edges r j) ∙ sym (xor_assoc (same k j) (edges p j) (edges r j))

-- The atoms of a walk.

pub atom_of : (u : ℕ) (p : Steps) (a : ℕ) → visits u p a ≡ true → (i : ℕ) × (i ≤ len p) × (atom u p i ≡ a)
atom_of u end a v = ⊎_elim (λ e. (0, omega arith, same_eq u a e)) (λ e. absurd (clash e refl)) (or_cases (same u a) false v)
atom_of u (go k w p) a v =
    ⊎_elim (λ e. (0, omega arith, same_eq u a e))
    (λ e. let t = atom_of w p a e in (suc t.0, omega arith, t.2))
    (or_cases (same u a) (visits w p a) v)
