-- Lists of bonded atoms are walks.
use mathlib.Core.Path.{◌≡◌, refl, ap, ap₂, ◌∙◌}
use mathlib.Core.Bool.{Bool, true, ◌&&◌, ◌||◌}
use mathlib.Core.Logic.{inl, inr, ⊎_elim, ◌≢◌}
use mathlib.Core.List.{List, [], ◌∷◌}
use Prim.Native.Nat.{ℕ, zero, suc, ◌≤◌, ◌<◌}
use native.Mathlib.Omega.{arith}
use lib.ListN.{length, get_or}
use Rattle.graphs.specs.Count.{xor, same}
use Rattle.graphs.specs.Graph.{Graph, Joins, Simple}
use Rattle.graphs.specs.Walk.{Steps, end, go, last, len, atom, edges, heads, IsWalk, Distinct}
use Rattle.graphs.specs.AtomList.{Chain, last_l, mem, Nodup, joinsb, look, bond_of, edges_l}
use Rattle.graphs.proofs.Basics.{both, clash, and_l, and_r, or_r, or_cases, same_eq, same_is}

-- The walk of a list.

-- The steps along a list of bonded atoms.
abbrev pub steps : (G : Graph) (u : ℕ) (l : List ℕ) → Chain G u l → Steps
steps G u [] c = end
steps G u (w ∷ l) c = go c.0.0 w (steps G w l c.1)

pub steps_walk : (G : Graph) (u : ℕ) (l : List ℕ) (c : Chain G u l) → IsWalk G u (steps G u l c)
steps_walk G u [] c = tt
steps_walk G u (w ∷ l) c = (c.0.1, c.0.2, steps_walk G w l c.1)

pub steps_last : (G : Graph) (u : ℕ) (l : List ℕ) (c : Chain G u l) → last u (steps G u l c) ≡ last_l u l
steps_last G u [] c = refl
steps_last G u (w ∷ l) c = steps_last G w l c.1

pub steps_len : (G : Graph) (u : ℕ) (l : List ℕ) (c : Chain G u l) → len (steps G u l c) ≡ length l
steps_len G u [] c = refl
steps_len G u (w ∷ l) c = ap suc (steps_len G w l c.1)

steps_heads : (G : Graph) (u : ℕ) (l : List ℕ) (c : Chain G u l) (a : ℕ) → heads (steps G u l c) a ≡ mem l a
steps_heads G u [] c a = refl
steps_heads G u (w ∷ l) c a = ap (λ (b : Bool). same w a || b) (steps_heads G w l c.1 a)

pub steps_distinct : (G : Graph) (u : ℕ) (l : List ℕ) (c : Chain G u l) → Nodup (u ∷ l) → Distinct u (steps G u l c)
steps_distinct G u [] c d = tt
steps_distinct G u (w ∷ l) c d = (steps_heads G u (w ∷ l) c u ∙ d.0, steps_distinct G w l c.1 d.1)

-- The list of a walk.

-- The atoms after the first.
abbrev pub atoms : Steps → List ℕ
atoms end = []
atoms (go k w p) = w ∷ atoms p

abbrev pub atoms_chain : (G : Graph) (u : ℕ) (p : Steps) → IsWalk G u p → Chain G u (atoms p)
atoms_chain G u end h = tt
atoms_chain G u (go k w p) h = ((k, h.0, h.1), atoms_chain G w p h.2)

pub atoms_len : (p : Steps) → length (atoms p) ≡ len p
atoms_len end = refl
atoms_len (go k w p) = ap suc (atoms_len p)

pub last_l_atoms : (u : ℕ) (p : Steps) → last_l u (atoms p) ≡ last u p
last_l_atoms u end = refl
last_l_atoms u (go k w p) = last_l_atoms w p

mem_atoms : (p : Steps) (a : ℕ) → mem (atoms p) a ≡ heads p a
mem_atoms end a = refl
mem_atoms (go k w p) a = ap (λ (b : Bool). same w a || b) (mem_atoms p a)

pub nodup_atoms : (u : ℕ) (p : Steps) → Distinct u p → Nodup (u ∷ atoms p)
nodup_atoms u end d = (refl, tt)
nodup_atoms u (go k w p) d = (mem_atoms (go k w p) u ∙ d.0, nodup_atoms w p d.1)

pub get_or_atoms : (u : ℕ) (p : Steps) (i : ℕ) → i ≤ len p → get_or (u ∷ atoms p) i 0 ≡ atom u p i
get_or_atoms u p zero h = refl
get_or_atoms u end (suc i) h = absurd (omega arith)
get_or_atoms u (go k w p) (suc i) h = get_or_atoms w p i (omega arith)

-- The bond of two atoms, looked up.

joinsb_joins : (G : Graph) (k u w : ℕ) → joinsb G k u w ≡ true → Joins G k u w
unfolding joinsb
joinsb_joins G k u w h =
    ⊎_elim
    (λ e. inl (same_eq (G.src k) u (and_l (same (G.src k) u) (same (G.tgt k) w) e), same_eq (G.tgt k) w (and_r (same (G.src k) u) (same (G.tgt k) w) e)))
    (λ e. inr (same_eq (G.src k) w (and_l (same (G.src k) w) (same (G.tgt k) u) e), same_eq (G.tgt k) u (and_r (same (G.src k) w) (same (G.tgt k) u) e)))
    (or_cases (same (G.src k) u && same (G.tgt k) w) (same (G.src k) w && same (G.tgt k) u) h)

joins_joinsb : (G : Graph) (k u w : ℕ) → Joins G k u w → joinsb G k u w ≡ true
unfolding joinsb
joins_joinsb G k u w (inl h) = rw (same_is (G.src k) u h.0, same_is (G.tgt k) w h.1)
joins_joinsb G k u w (inr h) =
    or_r (same (G.src k) u && same (G.tgt k) w) (same (G.src k) w && same (G.tgt k) u) (rw (same_is (G.src k) w h.0, same_is (G.tgt k) u h.1))

look_is : (G : Graph) → Simple G → (k u w : ℕ) → k < G.m → Joins G k u w → (n : ℕ) → k < n → n ≤ G.m → look G u w n ≡ k
unfolding look
look_is G Z k u w l j zero h le = absurd (omega arith)
look_is G Z k u w l j (suc n) h le =
    ⊎_elim
    (λ e. rw e (Z.once n k u w (omega arith) l (joinsb_joins G n u w e) j))
    (λ e. let ne : n ≢ k = λ q. clash (joins_joinsb G k u w j) (rw q at e) in rw e (look_is G Z k u w l j n (omega arith) (omega arith)))
    (both (joinsb G n u w))

pub bond_of_is : (G : Graph) → Simple G → (k u w : ℕ) → k < G.m → Joins G k u w → bond_of G u w ≡ k
unfolding bond_of
bond_of_is G Z k u w l j = look_is G Z k u w l j G.m l (omega arith)

pub edges_l_is : (G : Graph) → Simple G → (u : ℕ) (l : List ℕ) (c : Chain G u l) (j : ℕ) → edges_l G u l j ≡ edges (steps G u l c) j
edges_l_is G Z u [] c j = refl
edges_l_is G Z u (w ∷ l) c j = ap₂ (λ (x : ℕ) (y : Bool). xor (same x j) y) (bond_of_is G Z c.0.0 u w c.0.1 c.0.2) (edges_l_is G Z w l c.1 j)
