-- The turns of a walk, and what of a net a bond, a link, a walk and the ways depend on.
use mathlib.Core.Path.{◌≡◌, refl, sym, ap, ◌∙◌}
use mathlib.Core.Bool.{Bool, true, false, cond, ◌&&◌, not, true≢false, false≢true}
use mathlib.Core.List.{List, [], ◌∷◌}
use mathlib.Core.Logic.{◌⊎◌, inl, inr}
use Prim.Native.Nat.{ℕ, zero, suc, ◌^◌, ◌<◌, ◌≤◌}
use native.Mathlib.Omega.{arith}
use borrow.Author.Tests.{ltb-true, lt-ltb, le-ltb, eq-eqb, ne_eqb}
use lib.Bits.{bit_xor}
use lib.Dec.{eqb, ltb, eqb-suc-zero}
use lib.ListN.{length, get_or, take, drop}
use Rattle.std.specs.List.{push}
use Rattle.std.proofs.Common.{◌++◌, append_assoc, add-one}
use Rattle.std.proofs.lemmas.List.{length_push, length-take-le, take-append-drop}
use Rattle.std.proofs.Math.Seq.{get_or-append_seam}
use Rattle.std.specs.Option.{MatchOption}
use Rattle.std.specs.Bool.{then_some}
use Rattle.std.specs.Int.Count.{trailing_of_zero}
use Rattle.bondset.specs.Sets.{members}
use Rattle.bondset.proofs.Laws.{lt_or_ge}
use Rattle.bondset.proofs.Members.{members_zero, members_step}
use Rattle.cycles.specs.Family.{Family}
use Rattle.model.specs.Net.{Net, bond}
use Rattle.model.specs.Layer.{low, walk}
use Rattle.model.specs.State.{link}
use Rattle.paths.specs.Nets.{net, nearest, apart}

-- ---- the test

and_left : (x y : Bool) → x && y ≡ true → x ≡ true
and_left true y e = refl
and_left false y e = e

and_right : (x y : Bool) → x && y ≡ true → y ≡ true
and_right true y e = e
and_right false y e = absurd (false≢true e)

module _ (a b i : ℕ) where
  pub apart_one : apart a b i ≡ true → a < 64
  unfolding apart
  apart_one e = ltb-true a 64 (and_left _ (ltb b 64) (and_left _ _ e))

  pub apart_other : apart a b i ≡ true → b < 64
  unfolding apart
  apart_other e = ltb-true b 64 (and_right (ltb a 64) _ (and_left _ _ e))

  pub none_one : 64 ≤ a → false ≡ apart a b i
  unfolding apart
  none_one h = rw (le-ltb a 64 h)

  pub none_other : a < 64 → 64 ≤ b → false ≡ apart a b i
  unfolding apart
  none_other g h = rw (lt-ltb a 64 g, le-ltb b 64 h)

  pub one_atom : a < 64 → b < 64 → a ≡ b → eqb i 0 ≡ apart a b i
  unfolding apart
  one_atom g h e = rw (lt-ltb a 64 g, lt-ltb b 64 h, eq-eqb a b e) (top i)
    where
      top : (i : ℕ) → eqb i 0 ≡ not (ltb 0 i)
      top zero = refl
      top (suc i) = eqb-suc-zero i ∙ rw (lt-ltb 0 (suc i) (omega arith))

  pub two_atoms : a < 64 → b < 64 → (a ≡ b → ⊥) → true ≡ apart a b i
  unfolding apart
  two_atoms g h ne = rw (lt-ltb a 64 g, lt-ltb b 64 h, ne_eqb a b ne)

-- ---- the lowest atom

-- The first member of a set is its lowest atom.
pub first_low : (s k : ℕ) (ks : List ℕ) → s < 2 ^ 64 → members 64 s ≡ k ∷ ks → k ≡ low s
first_low s k ks h e = go (lt_or_ge 0 s)
  where
    go : (0 < s) ⊎ (s ≤ 0) → k ≡ low s
    go (inl l) = let f = members_step 64 s l h in cc
    go (inr l) = let z : s ≡ 0 = omega arith in let f = members_zero 64 in cc

-- A set without a member has no lowest atom.
pub none_low : (s : ℕ) → s < 2 ^ 64 → members 64 s ≡ [] → low s ≡ 64
none_low s h e = go (lt_or_ge 0 s)
  where
    go : (0 < s) ⊎ (s ≤ 0) → low s ≡ 64
    go (inl l) = let f = members_step 64 s l h in cc
    go (inr l) = let z : s ≡ 0 = omega arith in ap low z ∙ trailing_of_zero 64

-- Both paths go on, as the test says.
pub stepped : {A B : ℕ} (x y i : ℕ) (test : Bool) → x ≡ A → y ≡ B → test ≡ apart x y i
    → MatchOption (then_some test (x, y)) (apart A B i ≡ false) (λ (x, y). (x ≡ A) × (y ≡ B) × (apart x y i ≡ true))
stepped x y i true ex ey e = (ex, ey, sym e)
stepped x y i false ex ey e = rw (← ex, ← ey) (sym e)

-- ---- a turn

goes_on : (x y z : Bool) (W : ℕ) → (x && y) && not z ≡ true → cond (x && y) (cond z 0 W) 0 ≡ W
goes_on true true true W e = absurd (false≢true e)
goes_on true true false W e = refl
goes_on true false z W e = absurd (false≢true e)
goes_on false y z W e = absurd (false≢true e)

stops : (x y z : Bool) (W : ℕ) → (x && y) && not z ≡ false → cond (x && y) (cond z 0 W) 0 ≡ 0
stops true true true W e = refl
stops true true false W e = absurd (true≢false e)
stops true false z W e = refl
stops false y z W e = refl

module _ (G : Net) (us : List ℕ) (n a b ring a' b' : ℕ) (ea : a' ≡ nearest G.adj (get_or us n 0) a) (eb : b' ≡ nearest G.adj (get_or us n 0) b) where
  turn : walk G us (suc n) a b ring ≡ cond (ltb a' 64 && ltb b' 64)
      (cond (eqb a' b' && ltb 0 n) 0 (walk G us n a' b' (bit_xor (bit_xor ring (bond G a a')) (bond G b b')))) 0
  unfolding walk
  turn = rw (← ea, ← eb)

  -- Both paths go on.
  walk_on : apart a' b' n ≡ true → walk G us (suc n) a b ring ≡ walk G us n a' b' (bit_xor (bit_xor ring (bond G a a')) (bond G b b'))
  unfolding apart
  walk_on e = turn ∙ goes_on (ltb a' 64) (ltb b' 64) (eqb a' b' && ltb 0 n) _ e

  -- They meet, or one of them has nowhere to go.
  walk_stops : apart a' b' n ≡ false → walk G us (suc n) a b ring ≡ 0
  unfolding apart
  walk_stops e = turn ∙ stops (ltb a' 64) (ltb b' 64) (eqb a' b' && ltb 0 n) _ e

-- ---- a loop over the layers, the farthest first

-- The layers that are left are the first ones.
pub record Front (left us : List ℕ) : Type 0 where
  done : List ℕ
  whole : left ++ done ≡ us

pub front_start : (d : ℕ) (us : List ℕ) → Front (take d us) us
front_start d us = record { done = drop d us; whole = take-append-drop d us }

module _ {left us : List ℕ} (front : Front left us) (left' : List ℕ) (layer : ℕ) (last : left ≡ push left' layer) where
  fewer : left' ++ (layer ∷ front.done) ≡ us
  fewer = sym (append_assoc left' (layer ∷ []) front.done) ∙ ap (λ (l : List ℕ). l ++ front.done) (sym last) ∙ front.whole

  -- After the turn of the last of them.
  pub front_next : Front left' us
  front_next = record { done = layer ∷ front.done; whole = fewer }

  -- The last of them is the layer of that number.
  pub front_last : get_or us (length left') 0 ≡ layer
  front_last = rw (← fewer) (get_or-append_seam left' layer front.done 0)

  pub front_less : length left ≡ suc (length left')
  front_less = ap length last ∙ length_push left' layer ∙ add-one (length left')

-- What is left of the layers takes the ring so far to the goal, as the paths go on from a and b.
pub record Walking (G : Net) (us left : List ℕ) (a b ring goal : ℕ) : Type 0 where
  pub one : a < 64
  pub other : b < 64
  front : Front left us
  same : walk G us (length left) a b ring ≡ goal

-- Before the first turn.
pub walking_start : (G : Net) (us : List ℕ) (d a b ring : ℕ) → a < 64 → b < 64 → d ≤ length us → Walking G us (take d us) a b ring (walk G us d a b ring)
walking_start G us d a b ring one other h = record { one = one; other = other; front = front_start d us; same = rw (length-take-le d us h) }

module _ {G : Net} {us left : List ℕ} {a b ring goal : ℕ} (walking : Walking G us left a b ring goal) (left' : List ℕ) (layer : ℕ) (last : left ≡ push left' layer) where
  here : get_or us (length left') 0 ≡ layer
  here = front_last walking.front left' layer last

  same' : walk G us (suc (length left')) a b ring ≡ goal
  same' = rw (front_less walking.front left' layer last) at walking.same

  -- After turn i.
  pub walking_on : {i x y ring' : ℕ} → x ≡ nearest G.adj layer a → y ≡ nearest G.adj layer b → apart x y i ≡ true → i ≡ length left'
      → ring' ≡ bit_xor (bit_xor ring (bond G a x)) (bond G b y) → Walking G us left' x y ring' goal
  walking_on {i} {x} {y} {ring'} ex ey e at more = record {
    one = apart_one _ _ _ e;
    other = apart_other _ _ _ e;
    front = front_next walking.front left' layer last;
    same = rw more (sym (walk_on G us (length left') a b ring x y (rw here ex) (rw here ey) (rw at at e)) ∙ same');
  }

  -- At turn i the paths meet, or one of them has nowhere to go.
  pub walking_stops : {i : ℕ} → apart (nearest G.adj layer a) (nearest G.adj layer b) i ≡ false → i ≡ length left' → 0 ≡ goal
  walking_stops {i} e at =
      sym (walk_stops G us (length left') a b ring (nearest G.adj layer a) (nearest G.adj layer b) (rw here) (rw here) (rw at at e)) ∙ same'

-- All layers are done.
pub walking_end : {G : Net} {us left : List ℕ} {a b ring goal : ℕ} → length left ≡ 0 → Walking G us left a b ring goal → ring ≡ goal
unfolding walk
walking_end {left = left} e walking = rw e at walking.same

-- ---- what of a net they depend on

pub link_net : (G : Net) (f : Family) → link (net [] G.touch) f ≡ link G f
unfolding link bond
link_net G f = refl

pub walk_net : (G : Net) (us : List ℕ) (d p q ring : ℕ) → walk (net G.adj G.touch) us d p q ring ≡ walk G us d p q ring
unfolding walk bond
walk_net G us zero p q ring = refl
walk_net G us (suc i) p q ring = rw (walk_net G us i)
