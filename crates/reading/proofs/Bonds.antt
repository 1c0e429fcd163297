-- Bond by bond: the neighbours read so far tell whether a bond joins two atoms again.
use mathlib.Core.Path.{◌≡◌, refl, sym, ap, ap₂, ◌∙◌}
use mathlib.Core.Bool.{Bool, true, false, ◌&&◌, ◌||◌, or-false, or-true, or_assoc, and_comm}
use mathlib.Core.List.{List, ◌++◌}
use mathlib.Core.Logic.{◌⊎◌, inl, inr, ⊎_elim}
use Prim.Native.Nat.{ℕ, zero, suc, ◌+◌, ◌*◌, ◌/◌, ◌^◌, ◌≤◌, ◌<◌}
use native.Mathlib.Decide.{ℕ_discrete}
use native.Mathlib.Nat.{zero-add}
use native.Mathlib.Omega.{arith}
use borrow.Author.Tests.{leb-false, eqb-true, eq-eqb, ne_eqb}
use lib.Bits.{bit_or}
use lib.Dec.{eqb, leb}
use lib.ListN.{length, get_or, set, drop, replicate, length-append, length-drop, length-replicate, get_or-append}
use lib.Seq.{get_or-set_same, get_or-set_other, get_or-drop, drop_at, drop-drop}
use Rattle.bondset.specs.Sets.{bit, has}
use Rattle.bondset.proofs.Laws.{lt_or_ge, zero_bit}
use Rattle.cycles.specs.Compound.{Compound, m, one, other}
use Rattle.model.specs.Fold.{through, count}
use Rattle.model.specs.Net.{near1, touch1, read_adj, read_touch, adj_of, touch_of}
use Rattle.model.specs.Fault.{Fault, none, fault, or_else, when, first_of, some_below, same_pair, bond_fault}
use Rattle.model.proofs.NetBits.{or_has, pow_has}
use Rattle.model.proofs.NetRead.{get_or_zeros, near1_length}
use Rattle.std.specs.Prelude.{⊤, Ok, Err}
use Rattle.reading.specs.declared.Fault.{Fault as BondFault}
use Rattle.reading.specs.declared.Fault.TheVariants.{NoAtom, Loop, Again}
use Rattle.reading.specs.Reading.{fault_of, bonds_read, fault_by, Reading}
use Rattle.atoms.proofs.Loops.{through_suc}

-- ---- tests

same_test : (p q : Bool) → (p ≡ true → q ≡ true) → (q ≡ true → p ≡ true) → p ≡ q
same_test true q to from = sym (to refl)
same_test false true to from = from refl
same_test false false to from = refl

or_cases : (p q : Bool) → (p || q) ≡ true → (p ≡ true) ⊎ (q ≡ true)
or_cases true q e = inl refl
or_cases false q e = inr e

-- The set u with b, and atom y.
or_pow_has : (u b y : ℕ) → has (bit_or u (2 ^ b)) y ≡ (has u y || eqb b y)
or_pow_has u b y = same_test _ _ to from
  where
    to : has (bit_or u (2 ^ b)) y ≡ true → (has u y || eqb b y) ≡ true
    to e =
        ⊎_elim (λ (l : bit u y ≡ 1). ap (λ (t : Bool). t || eqb b y) (eq-eqb (bit u y) 1 l))
        (λ (r : bit (2 ^ b) y ≡ 1). ap (λ (t : Bool). has u y || t) (eq-eqb b y ((pow_has b y).0 r)) ∙ or-true (has u y))
        ((or_has u (2 ^ b) y).0 (eqb-true _ 1 e))

    from : (has u y || eqb b y) ≡ true → has (bit_or u (2 ^ b)) y ≡ true
    from e =
        eq-eqb _ 1 ((or_has u (2 ^ b) y).1 (⊎_elim (λ (l : has u y ≡ true). inl (eqb-true _ 1 l))
        (λ (r : eqb b y ≡ true). inr ((pow_has b y).1 (eqb-true b y r))) (or_cases (has u y) (eqb b y) e)))

near1_has : (a b : ℕ) (adj : List ℕ) (x y : ℕ) → a < length adj → has (get_or (near1 a b adj) x 0) y ≡ (has (get_or adj x 0) y || (eqb a x && eqb b y))
unfolding near1
near1_has a b adj x y room = go (ℕ_discrete a x)
  where
    go : Dec (a ≡ x) → has (get_or (set adj a (bit_or (get_or adj a 0) (2 ^ b))) x 0) y ≡ (has (get_or adj x 0) y || (eqb a x && eqb b y))
    go (yes e) = rw (← e, eq-eqb a a refl, get_or-set_same adj a (bit_or (get_or adj a 0) (2 ^ b)) 0 room) (or_pow_has (get_or adj a 0) b y)
    go (no ne) = rw (ne_eqb a x ne, get_or-set_other adj a x (bit_or (get_or adj a 0) (2 ^ b)) 0 (λ e. ne (sym e))) (sym (or-false (has (get_or adj x 0) y)))

-- ---- faults

-- The first fault stays the first.
first_stays : (f : ℕ → Fault) (k n number place : ℕ) → first_of k f ≡ fault number place → k ≤ n → first_of n f ≡ fault number place
unfolding first_of or_else
first_stays f k zero number place e h = let z : k ≡ 0 = omega arith in rw z at e
first_stays f k (suc n) number place e h =
    ⊎_elim (λ (l : k < suc n). rw (first_stays f k n number place e (omega arith)))
    (λ (l : suc n ≤ k). let z : k ≡ suc n = omega arith in rw z at e) (lt_or_ge k (suc n))

-- A bond's fault is at the bond.
fault_place : (n : ℕ) (adj : List ℕ) (a b k number place : ℕ) → fault number place ≡ fault_by n adj a b k → place ≡ k
unfolding fault_by or_else when
fault_place n adj a b k number place e = go (leb n a || leb n b) (eqb a b) (has (get_or adj a 0) b) e
  where
    go : (p q r : Bool) → fault number place ≡ or_else (when p (fault 3 k)) (or_else (when q (fault 4 k)) (when r (fault 5 k))) → place ≡ k
    go true q r e = cc
    go false true r e = cc
    go false false true e = cc
    go false false false e = let z : ◌≡◌ {A = ℕ} 0 1 = cc in absurd (omega arith)

-- A fine bond names two atoms.
pub fine_named : (n : ℕ) (adj : List ℕ) (a b k : ℕ) → none ≡ fault_by n adj a b k → (a < n) × (b < n)
unfolding fault_by or_else when
fine_named n adj a b k e = go (leb n a) (leb n b) refl refl e
  where
    go : (p q : Bool) → leb n a ≡ p → leb n b ≡ q
        → none ≡ or_else (when (p || q) (fault 3 k)) (or_else (when (eqb a b) (fault 4 k)) (when (has (get_or adj a 0) b) (fault 5 k))) → (a < n) × (b < n)
    go true q ea eb e = let z : ◌≡◌ {A = ℕ} 0 1 = cc in absurd (omega arith)
    go false true ea eb e = let z : ◌≡◌ {A = ℕ} 0 1 = cc in absurd (omega arith)
    go false false ea eb e = (leb-false n a ea, leb-false n b eb)

-- ---- two bytes for a bond

-- What is left of the bytes before bond k is read.
pub record Pairs (bytes : List ℕ) (k : ℕ) (rest : List ℕ) : Type 0 where
  pub left : rest ≡ drop (2 * k) bytes
  pub room : 2 * k ≤ length bytes

-- Before the first bond.
pub pairs_start : (bytes : List ℕ) → Pairs bytes 0 bytes
pairs_start bytes = record { left = refl; room = omega arith }

module _ {bytes : List ℕ} {k : ℕ} {rest : List ℕ} (pairs : Pairs bytes k rest) where
  module _ (bond rest' : List ℕ) (split : rest ≡ bond ++ rest') (two : length bond ≡ 2) where
    pairs_byte : (i : ℕ) → i < 2 → get_or bond i 0 ≡ get_or bytes (2 * k + i) 0
    pairs_byte i h =
        sym (get_or-append bond rest' 0 i (omega arith)) ∙ ap (λ (l : List ℕ). get_or l i 0) (sym split ∙ pairs.left)
        ∙ get_or-drop (2 * k) bytes i 0

    -- The first atom of bond k.
    pub pairs_one : get_or bond 0 0 ≡ get_or bytes (2 * k) 0
    pairs_one = pairs_byte 0 (omega arith) ∙ ap (λ (i : ℕ). get_or bytes i 0) (omega arith)

    -- The second.
    pub pairs_other : get_or bond 1 0 ≡ get_or bytes (2 * k + 1) 0
    pairs_other = pairs_byte 1 (omega arith)

    pairs_here : 2 * k + 2 ≤ length bytes
    pairs_here = omega (arith, ap length split, length-append bond rest', ap length pairs.left, length-drop (2 * k) bytes)

    -- Bond k is one of the bonds.
    pub pairs_bond : k < length bytes / 2
    pairs_bond = omega (arith, pairs_here)

    -- One bond more.
    pub pairs_next : Pairs bytes (suc k) rest'
    pairs_next = record {
      left =
          sym (drop_at bond rest' 2 two) ∙ ap (drop 2) (sym split ∙ pairs.left) ∙ drop-drop 2 (2 * k) bytes
          ∙ ap (λ (i : ℕ). drop i bytes) (omega arith);
      room = omega (arith, pairs_here);
    }

  -- All bonds are read.
  pub pairs_end : length rest < 2 → k ≡ length bytes / 2
  pairs_end short = omega (arith, pairs.room, ap length pairs.left, length-drop (2 * k) bytes)

-- ---- the bonds before bond k

module _ (c : Compound) where
  -- Bond j joins x and y, either way round.
  abbrev joins : ℕ → ℕ → ℕ → Bool
  joins x y j = (eqb (one c j) x && eqb (other c j) y) || (eqb (one c j) y && eqb (other c j) x)

  -- The bonds before bond k are fine and taken in.
  pub record Sofar (k : ℕ) (adj touch : List ℕ) : Type 0 where
    pub fine : none ≡ first_of k (bond_fault c)
    pub neighbours : adj ≡ adj_of c k
    pub bonds : touch ≡ touch_of c k
    pub joined : (x y : ℕ) → has (get_or adj x 0) y ≡ some_below k (joins x y)
    pub long : length adj ≡ 64

  -- Before the first bond.
  pub sofar_start : Sofar 0 (replicate 64 0) (replicate 128 0)
  unfolding first_of adj_of touch_of through count some_below
  sofar_start = record {
    fine = refl;
    neighbours = refl;
    bonds = refl;
    joined = λ x y. ap (λ (s : ℕ). has s y) (get_or_zeros 64 x) ∙ ap (λ (b : ℕ). eqb b 1) (zero_bit y);
    long = length-replicate {A = ℕ} 64 0;
  }

  module _ (k : ℕ) (adj touch : List ℕ) (sofar : Sofar k adj touch) where
    -- What the neighbours say is what the bonds say.
    pub sofar_fault : fault_by c.n adj (one c k) (other c k) k ≡ bond_fault c k
    unfolding fault_by bond_fault same_pair
    sofar_fault = rw (sofar.joined (one c k) (other c k))

    fine_next : none ≡ bond_fault c k → none ≡ first_of (suc k) (bond_fault c)
    unfolding first_of or_else
    fine_next ok = rw (← sofar.fine) ok

    adj_next : near1 (other c k) (one c k) (near1 (one c k) (other c k) adj) ≡ adj_of c (suc k)
    unfolding adj_of read_adj
    adj_next =
        ap (read_adj c k) sofar.neighbours ∙ ap (λ (i : ℕ). read_adj c i (adj_of c k)) (sym (zero-add k))
        ∙ sym (through_suc (read_adj c) 0 k (replicate 64 0))

    touch_next : touch1 (other c k) k (touch1 (one c k) k touch) ≡ touch_of c (suc k)
    unfolding touch_of read_touch
    touch_next =
        ap (read_touch c k) sofar.bonds ∙ ap (λ (i : ℕ). read_touch c i (touch_of c k)) (sym (zero-add k))
        ∙ sym (through_suc (read_touch c) 0 k (replicate 128 0))

    joined_next : one c k < 64 → other c k < 64
        → (x y : ℕ) → has (get_or (near1 (other c k) (one c k) (near1 (one c k) (other c k) adj)) x 0) y ≡ some_below (suc k) (joins x y)
    unfolding some_below
    joined_next ra rb x y =
        let a = one c k in
        let b = other c k in
        near1_has b a (near1 a b adj) x y (rw (near1_length a b adj) (omega (arith, sofar.long)))
        ∙ ap (λ (t : Bool). t || (eqb b x && eqb a y)) (near1_has a b adj x y (omega (arith, sofar.long)))
        ∙ or_assoc (has (get_or adj x 0) y) (eqb a x && eqb b y) (eqb b x && eqb a y)
        ∙ ap₂ (λ (s t : Bool). s || ((eqb a x && eqb b y) || t)) (sofar.joined x y) (and_comm (eqb b x) (eqb a y))

    -- One bond more.
    pub sofar_next : one c k < 64 → other c k < 64 → none ≡ bond_fault c k
        → Sofar (suc k) (near1 (other c k) (one c k) (near1 (one c k) (other c k) adj)) (touch1 (other c k) k (touch1 (one c k) k touch))
    sofar_next ra rb ok = record {
      fine = fine_next ok;
      neighbours = adj_next;
      bonds = touch_next;
      joined = joined_next ra rb;
      long = near1_length (other c k) (one c k) (near1 (one c k) (other c k) adj) ∙ near1_length (one c k) (other c k) adj ∙ sofar.long;
    }

    -- All bonds are read.
    pub sofar_end : (u : ⊤) → k ≡ m c → Reading c (Ok u) adj touch
    unfolding fault_of bonds_read
    sofar_end u e = record {
      fault = sofar.fine ∙ ap (λ (i : ℕ). first_of i (bond_fault c)) e;
      neighbours = sofar.neighbours ∙ ap (adj_of c) e;
      bonds = sofar.bonds ∙ ap (touch_of c) e;
    }

    first_here : (number place : ℕ) → k < m c → fault number place ≡ bond_fault c k → fault number place ≡ first_of (m c) (bond_fault c)
    unfolding first_of or_else
    first_here number place h e = sym (first_stays (bond_fault c) (suc k) (m c) number place (rw (← sofar.fine) (sym e)) h)

    refused : (f : BondFault) (number place : ℕ) → fault_of (Err f) ≡ fault number place → bonds_read c (Err f) ≡ place → k < m c
        → fault_of (Err f) ≡ fault_by c.n adj (one c k) (other c k) k → Reading c (Err f) adj touch
    refused f number place is at h e =
        let here : place ≡ k = fault_place c.n adj (one c k) (other c k) k number place (sym is ∙ e) in
        record {
          fault = is ∙ first_here number place h (sym is ∙ e ∙ sofar_fault);
          neighbours = sofar.neighbours ∙ ap (adj_of c) (sym (at ∙ here));
          bonds = sofar.bonds ∙ ap (touch_of c) (sym (at ∙ here));
        }

    -- Bond k is the first that is not fine.
    pub sofar_refused : (f : BondFault) → k < m c → fault_of (Err f) ≡ fault_by c.n adj (one c k) (other c k) k → Reading c (Err f) adj touch
    unfolding fault_of bonds_read
    sofar_refused (NoAtom j) h e = refused (NoAtom j) 3 j refl refl h e
    sofar_refused (Loop j) h e = refused (Loop j) 4 j refl refl h e
    sofar_refused (Again j) h e = refused (Again j) 5 j refl refl h e
