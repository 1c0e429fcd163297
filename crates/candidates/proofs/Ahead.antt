-- What is ahead of a cursor, as the cursor moves.
use mathlib.Core.Path.{◌≡◌, refl, sym, ap}
use mathlib.Core.List.{List, [], ◌∷◌, ◌++◌, append-nil, append_assoc, map}
use Prim.Native.Nat.{ℕ, ◌-◌, ◌/◌, ◌%◌, ◌<◌, ◌≤◌}
use native.Mathlib.Omega.{arith}
use borrow.Author.Tests.{eq-eqb, ne_eqb}
use lib.Bits.{bit_and}
use lib.ListN.{length, get_or}
use Rattle.std.proofs.Common.{Option, Some, None, IfSome, Bor}
use Rattle.spans.specs.Elements.{◌∈◌, first, later}
use Rattle.bondset.specs.Sets.{bit, members}
use Rattle.bondset.proofs.Laws.{length_le}
use Rattle.bondset.proofs.Members.{members_zero, length_to_members, lt_of_mem, bit_of_mem}
use Rattle.model.specs.Fold.{each}
use Rattle.model.specs.Loops.{above, fam}
use Rattle.model.specs.Net.{Net}
use Rattle.model.specs.Candidates.{pairs, tips, odds, evens, found}
use Rattle.model.proofs.NetBits.{and_has}
use Rattle.model.proofs.ItemsSets.{above_has}
use Rattle.model.proofs.ItemsLists.{map_each, from_each}
use Rattle.model.specs.Cross.{cross}
use Rattle.candidates.specs.declared.cursor.Cursor.{Cursor}
use Rattle.candidates.specs.Cursor.{Spot, partners_in, with_q, with_p, with_x, ahead, left, named, Within, Firsts}

-- ---- the first of a set, and none

module _ (x : Option ℕ) (p qs : ℕ) where
  q_none : members 64 qs ≡ [] → with_q x p qs ≡ []
  unfolding with_q each
  q_none e = rw e refl

  q_next : (q qs' : ℕ) → members 64 qs ≡ q ∷ members 64 qs' → with_q x p qs ≡ (p, q, x) ∷ with_q x p qs'
  unfolding with_q each
  q_next q qs' e = rw e refl

module _ (adj : List ℕ) (all : ℕ) (x : Option ℕ) (ps : ℕ) where
  p_none : members 64 ps ≡ [] → with_p adj all x ps ≡ []
  unfolding with_p each
  p_none e = rw e refl

  p_next : (p ps' : ℕ) → members 64 ps ≡ p ∷ members 64 ps' → with_p adj all x ps ≡ with_q x p (partners_in adj all x p) ++ with_p adj all x ps'
  unfolding with_p each
  p_next p ps' e = rw e refl

module _ (adj : List ℕ) (below xs : ℕ) where
  x_none : members 64 xs ≡ [] → with_x adj below xs ≡ []
  unfolding with_x each
  x_none e = rw e refl

  x_next : (x xs' : ℕ) → members 64 xs ≡ x ∷ members 64 xs'
      → let a = bit_and (get_or adj x 0) below in with_x adj below xs ≡ with_p adj a (Some x) a ++ with_x adj below xs'
  unfolding with_x each
  x_next x xs' e = rw e refl

-- ---- the cursor moves

members_few : (s : ℕ) → length (members 64 s) ≤ 64
members_few s = omega (arith, length_to_members 64 s, length_le 64 s)

module _ (c : Cursor) where
  -- The candidate in hand.
  pub ahead_q : (q qs : ℕ) → members 64 c.qs ≡ q ∷ members 64 qs → ahead c ≡ (c.p, q, c.x) ∷ ahead (record c { qs = qs })
  unfolding ahead
  ahead_q q qs e =
      ap (λ (l : List Spot). l ++ (with_p c.adj.now c.all c.x c.ps ++ with_x c.adj.now c.below c.xs)) (q_next c.x c.p c.qs q qs e)

  module _ (none : members 64 c.qs ≡ []) where
    -- The next p.
    pub ahead_p : (p ps qs : ℕ) → members 64 c.ps ≡ p ∷ members 64 ps → qs ≡ partners_in c.adj.now c.all c.x p
        → let t = record c { ps = ps; qs = qs; p = p } in (ahead t ≡ ahead c) × (left t < left c)
    unfolding ahead
    ahead_p p ps qs e is = (
      rw (is, q_none c.x c.p c.qs none, p_next c.adj.now c.all c.x c.ps p ps e)
          (sym
          (append_assoc (with_q c.x p (partners_in c.adj.now c.all c.x p)) (with_p c.adj.now c.all c.x ps) (with_x c.adj.now c.below c.xs))),
      omega (arith, ap (λ (l : List ℕ). length l) e),
    )

    -- The next x.
    pub ahead_x : (x xs : ℕ) → members 64 c.ps ≡ [] → members 64 c.xs ≡ x ∷ members 64 xs
        → let a = bit_and (get_or c.adj.now x 0) c.below in
        let t = record c { xs = xs; all = a; ps = a; x = Some x } in (ahead t ≡ ahead c) × (left t < left c)
    unfolding ahead
    ahead_x x xs gone e = (
      rw (
        q_none (Some x) c.p c.qs none,
        q_none c.x c.p c.qs none,
        p_none c.adj.now c.all c.x c.ps gone,
        x_next c.adj.now c.below c.xs x xs e,
      ) refl,
      omega (arith, ap (λ (l : List ℕ). length l) e, members_few (bit_and (get_or c.adj.now x 0) c.below)),
    )

    -- Nothing is left.
    pub ahead_none : members 64 c.ps ≡ [] → members 64 c.xs ≡ [] → ahead c ≡ []
    unfolding ahead
    ahead_none p x = rw (q_none c.x c.p c.qs none, p_none c.adj.now c.all c.x c.ps p, x_none c.adj.now c.below c.xs x) refl

-- ---- which candidates they are

-- Their families are those of the model.
module _ (G : Net) (k r : ℕ) where
  named_q : (x : Option ℕ) (p qs : ℕ) → map (named k r) (with_q x p qs) ≡ pairs G k r (cross x) p qs
  unfolding with_q pairs
  named_q x p qs = map_each (named k r) (λ q. (p, q, x) ∷ []) (λ q. fam k r (cross x) p q ∷ []) (λ q. refl) (members 64 qs)

  named_odd : (u : ℕ) → map (named k r) (with_p G.adj u None u) ≡ odds G k r u
  unfolding with_p odds partners_in
  named_odd u = map_each (named k r) _ _ (λ p. named_q None p (partners_in G.adj u None p)) (members 64 u)

  named_tip : (x ps : ℕ) → map (named k r) (with_p G.adj ps (Some x) ps) ≡ tips G k r x ps
  unfolding with_p tips partners_in
  named_tip x ps = map_each (named k r) _ _ (λ p. named_q (Some x) p (partners_in G.adj ps (Some x) p)) (members 64 ps)

  named_even : (u below : ℕ) → map (named k r) (with_x G.adj below u) ≡ evens G k r u below
  unfolding with_x evens
  named_even u below = map_each (named k r) _ _ (λ x. named_tip x (bit_and (get_or G.adj x 0) below)) (members 64 u)

-- The partners are among all p and q.
partners_among : (adj : List ℕ) (all : ℕ) (x : Option ℕ) (p t : ℕ) → bit (partners_in adj all x p) t ≡ 1 → bit all t ≡ 1
unfolding partners_in
partners_among adj all (Some x) p t e = ((above_has all p t).0 e).1
partners_among adj all None p t e = ((above_has all p t).0 ((and_has (above all p) (get_or adj p 0) t).0 e).0).1

-- Their p and q are in one layer.
module _ (layer : ℕ) where
  within_p : (adj : List ℕ) (all : ℕ) (x : Option ℕ) (ps : ℕ) → ((t : ℕ) → bit all t ≡ 1 → bit layer t ≡ 1) → ((t : ℕ) → bit ps t ≡ 1 → bit layer t ≡ 1)
      → IfSome x (λ x. x < 64) → {s : Spot} → s ∈ with_p adj all x ps → Within layer s
  unfolding with_p with_q
  within_p adj all x ps all_in ps_in atom m =
      let qs : ℕ → ℕ = partners_in adj all x in
      let one = from_each (λ p. with_q x p (qs p)) (members 64 ps) m in
      let other = from_each (λ q. (one.a, q, x) ∷ []) (members 64 (qs one.a)) one.here in
      let q_in = all_in other.a (partners_among adj all x one.a other.a (bit_of_mem 64 (qs one.a) other.a other.mem)) in
      go one.a other.a (lt_of_mem 64 ps one.a one.mem) (lt_of_mem 64 (qs one.a) other.a other.mem) (ps_in one.a (bit_of_mem 64 ps one.a one.mem)) q_in other.here
    where
      go : {s : Spot} (p q : ℕ) → p < 64 → q < 64 → bit layer p ≡ 1 → bit layer q ≡ 1 → s ∈ ((p, q, x) ∷ []) → Within layer s
      go p q hp hq e f (later h) = elim h [ ]
      go p q hp hq e f first = record { p_atom = hp; q_atom = hq; x_atom = atom; p_in = e; q_in = f }

  within_x : (adj : List ℕ) (xs : ℕ) {s : Spot} → s ∈ with_x adj layer xs → Within layer s
  unfolding with_x
  within_x adj xs m =
      let all : ℕ → ℕ = λ x. bit_and (get_or adj x 0) layer in
      let tip = from_each (λ x. with_p adj (all x) (Some x) (all x)) (members 64 xs) m in
      let low : (t : ℕ) → bit (all tip.a) t ≡ 1 → bit layer t ≡ 1 = λ t e. ((and_has (get_or adj tip.a 0) layer t).0 e).1 in
      within_p adj (all tip.a) (Some tip.a) (all tip.a) low low (lt_of_mem 64 xs tip.a tip.mem) tip.here

-- ---- before the first candidate

module _ (adj : Bor (List ℕ)) (long : 64 ≤ length adj.now) (layers : List ℕ) (k u below : ℕ) (is : u ≡ get_or layers (k / 2) 0) (low : below ≡ get_or layers ((k - 1) / 2) 0) where
  pub firsts_odd : k % 2 ≡ 1 → Firsts adj.now layers k (record { adj = adj; below = below; xs = 0; all = u; ps = u; qs = 0; x = None; p = 0; long = long })
  unfolding ahead found
  firsts_odd odd =
      let none : with_q None 0 0 ++ (with_p adj.now u None u ++ with_x adj.now below 0) ≡ with_p adj.now u None u =
      rw (q_none None 0 0 (members_zero 64), x_none adj.now below 0 (members_zero 64)) (append-nil (with_p adj.now u None u)) in
      let same : k / 2 ≡ (k - 1) / 2 = omega (arith, odd) in
      let here : (t : ℕ) → bit u t ≡ 1 → bit (get_or layers ((k - 1) / 2) 0) t ≡ 1 = λ t e. rw (sym same, sym is) e in
      record {
        all = λ n touch r. rw (none, eq-eqb (k % 2) 1 odd, ← is) (named_odd (record { n = n; adj = adj.now; touch = touch }) k r u);
        within = λ s m. within_p (get_or layers ((k - 1) / 2) 0) adj.now u None u here here tt (rw none at m);
      }

  pub firsts_even : 3 ≤ k → (k % 2 ≡ 1 → ⊥) → Firsts adj.now layers k (record { adj = adj; below = below; xs = u; all = 0; ps = 0; qs = 0; x = None; p = 0; long = long })
  unfolding ahead found
  firsts_even three even =
      let none : with_q None 0 0 ++ (with_p adj.now 0 None 0 ++ with_x adj.now below u) ≡ with_x adj.now below u =
      rw (q_none None 0 0 (members_zero 64), p_none adj.now 0 None 0 (members_zero 64)) refl in
      let same : (k - 1) / 2 ≡ k / 2 - 1 = omega (arith, even) in
      record {
        all = λ n touch r. rw (none, ne_eqb (k % 2) 1 even, ← is, ← same, ← low) (named_even (record { n = n; adj = adj.now; touch = touch }) k r u below);
        within = λ s m. within_x (get_or layers ((k - 1) / 2) 0) adj.now u (rw (none, low) at m);
      }
