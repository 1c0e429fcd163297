-- The rings that are listed are the members of a kept family, each once, in order; and the members have one such list.
use mathlib.Core.Path.{◌≡◌, refl, sym, ap, ap₂, ◌∙◌, subst}
use mathlib.Core.List.{List, [], ◌∷◌, ◌++◌, map, map-map}
use mathlib.Core.Logic.{◌⊎◌, inl, inr}
use Prim.Native.Nat.{ℕ, zero, suc, ◌<◌, ◌≤◌}
use native.Mathlib.Omega.{arith}
use lib.Bits.{bit_xor}
use lib.ListN.{length}
use Rattle.spans.specs.Elements.{◌∈◌, Once}
use Rattle.bondset.specs.Sets.{members}
use Rattle.bondset.proofs.Laws.{xor_assoc}
use Rattle.cycles.specs.Compound.{Compound}
use Rattle.cycles.specs.Family.{Family, Candidate, Member, Kept, Size}
use Rattle.cycles.specs.Rows.{Less}
use Rattle.cycles.proofs.Families.{Made, made_unique, made_at, member_made}
use Rattle.cycles.proofs.Members.{kept_apart, made_kept_member}
use Rattle.cycles.proofs.MembersCorners.{made_injective}
use Rattle.model.specs.Fold.{each}
use Rattle.model.specs.Net.{Net, net_of, bond}
use Rattle.model.specs.State.{link}
use Rattle.model.proofs.Ready.{held, Ready, Layered}
use Rattle.model.proofs.Walks.{Linked, candidate_linked}
use Rattle.model.proofs.ItemsLists.{∈_each, from_each, map_each}
use Rattle.paths.specs.Nets.{net}
use Rattle.std.specs.Prelude.{Option, Some, None}
use Rattle.members.specs.Listed.{nearer, path_sets, sums, member_sets, Told}
use Rattle.members.specs.Ordered.{Sooner, Rising, Members}
use Rattle.members.proofs.Routes.{Climb, climb_map, climb_each, Image, from_map, in_map, each_same}
use Rattle.members.proofs.Routes.{Route, routes, routes_sets, routes_climb, routes_go, routes_all}

-- ---- the order

-- Each list has two names, because cases are not split where two indices are one list.
less_differs : {xs ys : List ℕ} → Less xs ys → xs ≡ ys → ⊥
less_differs (Less.here {a} {b} l) e = let h : a ≡ b = cc in omega arith
less_differs (Less.later {xs} {ys} l) e = let t : xs ≡ ys = cc in less_differs l t

less_self : {xs : List ℕ} → Less xs xs → ⊥
less_self l = less_differs l refl

less_one_way : {xs ys vs ws : List ℕ} → Less xs ys → Less vs ws → ys ≡ vs → xs ≡ ws → ⊥
less_one_way (Less.here {a} {b} l) (Less.here {a = u} {b = v} m) e f = let h : b ≡ u = cc in let k : a ≡ v = cc in omega arith
less_one_way (Less.here {a} {b} l) (Less.later {a = u} m) e f = let h : b ≡ u = cc in let k : a ≡ u = cc in omega arith
less_one_way (Less.later {a} l) (Less.here {a = u} {b = v} m) e f = let h : a ≡ u = cc in let k : a ≡ v = cc in omega arith
less_one_way (Less.later {xs} {ys} l) (Less.later {xs = vs} {ys = ws} m) e f = let h : ys ≡ vs = cc in let k : xs ≡ ws = cc in less_one_way l m h k

less_back : {xs ys : List ℕ} → Less xs ys → Less ys xs → ⊥
less_back l m = less_one_way l m refl refl

less_append : {xs ys : List ℕ} (vs ws : List ℕ) → Less xs ys → Less (xs ++ vs) (ys ++ ws)
less_append vs ws (Less.here l) = Less.here l
less_append vs ws (Less.later l) = Less.later (less_append vs ws l)

less_under : (xs : List ℕ) {vs ws : List ℕ} → Less vs ws → Less (xs ++ vs) (xs ++ ws)
less_under [] l = l
less_under (x ∷ xs) l = Less.later (less_under xs l)

-- ---- one list

first_or : {x y : ℕ} {l : List ℕ} → x ∈ (y ∷ l) → (x ≡ y) ⊎ (x ∈ l)
first_or ◌∈◌.first = inl refl
first_or (◌∈◌.later m) = inr m

module _ (c : Compound) (rank : ℕ → ℕ) (f : Family) where
  rising_once : {Cs : List ℕ} → ((C : ℕ) → C ∈ Cs → Member c rank f C) → Rising c rank f Cs → Once Cs
  rising_once members Rising.none = Once.none
  rising_once members (Rising.next {C} {Cs} before rest) =
      Once.more (λ m. let s = members C ◌∈◌.first in less_self (before C m s s)) (rising_once (λ D m. members D (◌∈◌.later m)) rest)

  -- Every member stands there once.
  pub members_once : {Cs : List ℕ} → Members c rank f Cs → Once Cs
  members_once s = rising_once (λ C. (s.all C).0) s.ordered

  -- Their number is the family's size.
  pub members_size : {Cs : List ℕ} → Members c rank f Cs → Size c rank f (length Cs)
  members_size {Cs} s = record { members = Cs; once = members_once s; all = s.all; count = refl }

  same_rising : {Cs Ds : List ℕ} → Rising c rank f Cs → Rising c rank f Ds → ((C : ℕ) → C ∈ Cs → Member c rank f C) → ((C : ℕ) → C ∈ Ds → Member c rank f C)
      → ((C : ℕ) → C ∈ Cs → C ∈ Ds) → ((C : ℕ) → C ∈ Ds → C ∈ Cs) → Cs ≡ Ds
  same_rising Rising.none Rising.none ms ns to back = refl
  same_rising Rising.none (Rising.next {C} before rest) ms ns to back = absurd (elim (back C ◌∈◌.first) [ ])
  same_rising (Rising.next {C} before rest) Rising.none ms ns to back = absurd (elim (to C ◌∈◌.first) [ ])
  same_rising (Rising.next {C} {Cs} before rest) (Rising.next {C = D} {Cs = Ds} before' rest') ms ns to back =
      let e : C ≡ D = heads (first_or (to C ◌∈◌.first)) (first_or (back D ◌∈◌.first)) in
      ap₂ (λ (x : ℕ) (l : List ℕ). x ∷ l) e
      (same_rising rest rest' (λ x m. ms x (◌∈◌.later m)) (λ x m. ns x (◌∈◌.later m))
      (λ x m. down (to x (◌∈◌.later m)) (λ z. let s = ms C ◌∈◌.first in less_self (before C (subst (λ (y : ℕ). y ∈ Cs) (z ∙ sym e) m) s s)))
      (λ x m. down (back x (◌∈◌.later m)) (λ z. let s = ns D ◌∈◌.first in less_self (before' D (subst (λ (y : ℕ). y ∈ Ds) (z ∙ e) m) s s))))
    where
      heads : (C ≡ D) ⊎ (C ∈ Ds) → (D ≡ C) ⊎ (D ∈ Cs) → C ≡ D
      heads (inl e) n = e
      heads (inr m) (inl e) = sym e
      heads (inr m) (inr n) =
          let s = ms C ◌∈◌.first in
          let t = ns D ◌∈◌.first in
          absurd (less_back (before D n s t) (before' C m t s))

      down : {x y : ℕ} {l : List ℕ} → x ∈ (y ∷ l) → (x ≡ y → ⊥) → x ∈ l
      down ◌∈◌.first other = absurd (other refl)
      down (◌∈◌.later m) other = m

  -- The members have one such list.
  pub members_unique : {Cs Ds : List ℕ} → Members c rank f Cs → Members c rank f Ds → Cs ≡ Ds
  members_unique s t =
      same_rising s.ordered t.ordered (λ C. (s.all C).0) (λ C. (t.all C).0) (λ C m. (t.all C).1 ((s.all C).0 m)) (λ C m. (s.all C).1 ((t.all C).0 m))

-- ---- pairs of routes

-- Two paths, and the ring that they make with a link.
record Pair : Type 0 where
  P : List ℕ
  Q : List ℕ
  ring : ℕ

abbrev pair : ℕ → Route → Route → Pair
pair l v w = record { P = v.atoms; Q = w.atoms; ring = bit_xor v.bonds (bit_xor w.bonds l) }

abbrev path : Pair → List ℕ
path x = x.P ++ x.Q

abbrev pairs : ℕ → List Route → List Route → List Pair
pairs l vs ws = each (λ v. map (pair l v) ws) vs

each_map : {A B X : Type 0} (f : B → List X) (g : A → B) (those : List A) → each f (map g those) ≡ each (λ a. f (g a)) those
unfolding each
each_map f g [] = refl
each_map f g (a ∷ those) = ap (λ (l : List _). f (g a) ++ l) (each_map f g those)

each_one : {A X : Type 0} (f : A → X) (those : List A) → each (λ a. f a ∷ []) those ≡ map f those
unfolding each
each_one f [] = refl
each_one f (a ∷ those) = ap (λ (l : List _). f a ∷ l) (each_one f those)

pairs_sums : (l : ℕ) (vs ws : List Route)
    → map (λ (x : Pair). x.ring) (pairs l vs ws) ≡ sums (map (λ (w : Route). w.bonds) vs) (sums (map (λ (w : Route). w.bonds) ws) (l ∷ []))
unfolding sums
pairs_sums l vs ws =
    map_each (λ (x : Pair). x.ring) (λ v. map (pair l v) ws) _
    (λ v. map-map (λ (x : Pair). x.ring) (pair l v) ws
    ∙ sym (map-map (bit_xor v.bonds) (λ (w : Route). bit_xor w.bonds l) ws)
    ∙ ap (map (bit_xor v.bonds)) (sym (each_map (λ (Q : ℕ). bit_xor Q l ∷ []) (λ (w : Route). w.bonds) ws ∙ each_one (λ (w : Route). bit_xor w.bonds l) ws))) vs
    ∙ sym (each_map (λ P. map (bit_xor P) (each (λ Q. bit_xor Q l ∷ []) (map (λ (w : Route). w.bonds) ws))) (λ (w : Route). w.bonds) vs)

pairs_climb : (l : ℕ) {vs ws : List Route} → Climb (λ (w : Route). w.atoms) vs → Climb (λ (w : Route). w.atoms) ws → Climb path (pairs l vs ws)
pairs_climb l {vs} {ws} s t =
    climb_each (λ (w : Route). w.atoms) path (λ v. map (pair l v) ws) (λ v v' x y less m n. apart v v' less (from_map (pair l v) ws m) (from_map (pair l v') ws n))
    (λ v. climb_map (λ (w : Route). w.atoms) path (pair l v) (λ w w' less. less_under v.atoms less) t) s
  where
    apart : (v v' : Route) → Less v.atoms v'.atoms → {x y : Pair} → Image (pair l v) ws x → Image (pair l v') ws y → Less (path x) (path y)
    apart v v' less (Image.image {x = w} m) (Image.image {x = w'} n) = less_append w.atoms w'.atoms less

-- ---- the members

module _ (c : Compound) (rank pre : ℕ → ℕ) (ready : Ready c rank pre) (us : List ℕ) (h d : ℕ) (f : Family) (between : List ℕ)
    (inside : f.r < c.n) (layered : Layered c pre f.r h us) (deep : d ≤ h) (candidate : Candidate c rank f d between) (kept : Kept c rank f) where
  abbrev G : Net
  G = net_of c

  abbrev all_pairs : List Pair
  all_pairs = pairs (link G f) (routes G us d f.p) (routes G us d f.q)

  abbrev Makes : Pair → Type 0
  Makes x = Made c ready.sound rank f d between x.P x.Q x.ring

  linked : Linked c rank pre (held ready) f d between
  linked = candidate_linked c rank pre (held ready) candidate

  made_pair : (v w : Route) → v ∈ routes G us d f.p → w ∈ routes G us d f.q → Makes (pair (link G f) v w)
  made_pair v w m n =
      let s = routes_go c rank pre ready us h f.r inside layered d f.p deep linked.down_p v m in
      let t = routes_go c rank pre ready us h f.r inside layered d f.q deep linked.down_q w n in
      record {
        candidate = candidate;
        down_p = s.down;
        down_q = t.down;
        made = record {
          from_p = v.bonds;
          from_q = w.bonds;
          between = link G f;
          edges_p = s.edges;
          edges_q = t.edges;
          edges_link = linked.edges;
          sum = sym (xor_assoc v.bonds w.bonds (link G f));
        };
      }

  made_all : (x : Pair) → x ∈ all_pairs → Makes x
  made_all x m =
      let g = from_each (λ v. map (pair (link G f) v) (routes G us d f.q)) (routes G us d f.p) m in
      go g.a g.mem (from_map (pair (link G f) g.a) (routes G us d f.q) g.here)
    where
      go : (v : Route) → v ∈ routes G us d f.p → {x : Pair} → Image (pair (link G f) v) (routes G us d f.q) x → Makes x
      go v m (Image.image {x = w} n) = made_pair v w m n

  -- The paths of a member are those that it was made of.
  paths_are : (x : Pair) → Makes x → (one : Member c rank f x.ring) → (one.P ++ one.Q) ≡ path x
  paths_are x made one =
      let other = made_at c ready.sound rank (member_made c ready.sound rank one) candidate in
      let same = made_injective c ready.sound rank other made (kept_apart c ready.sound rank ready.injective candidate kept other)
      (kept_apart c ready.sound rank ready.injective candidate kept made) in
      ap₂ (λ (x y : List ℕ). x ++ y) same.0 same.1

  rising_pairs : {xs : List Pair} → Climb path xs → ((x : Pair) → x ∈ xs → Makes x) → Rising c rank f (map (λ (x : Pair). x.ring) xs)
  rising_pairs Climb.none made = Rising.none
  rising_pairs (Climb.next {x} {xs} before rest) made =
      Rising.next (λ D m. go (from_map (λ (x : Pair). x.ring) xs m)) (rising_pairs rest (λ y m. made y (◌∈◌.later m)))
    where
      go : {D : ℕ} → Image (λ (x : Pair). x.ring) xs D → Sooner c rank f x.ring D
      go (Image.image {x = y} m) one other =
          rw (paths_are x (made x ◌∈◌.first) one, paths_are y (made y (◌∈◌.later m)) other) (before y m)

  are_members : {C : ℕ} → Image (λ (x : Pair). x.ring) all_pairs C → Member c rank f C
  are_members (Image.image {x = x} m) = made_kept_member c ready.sound rank ready.injective candidate kept (made_all x m)

  have_members : {C : ℕ} → Member c rank f C → C ∈ map (λ (x : Pair). x.ring) all_pairs
  have_members {C} one =
      let made = made_at c ready.sound rank (member_made c ready.sound rank one) candidate in
      let v = routes_all c rank pre ready us h f.r inside layered d deep made.down_p in
      let w = routes_all c rank pre ready us h f.r inside layered d deep made.down_q in
      let x = pair (link G f) v.way w.way in
      let here : x ∈ all_pairs = ∈_each (λ v. map (pair (link G f) v) (routes G us d f.q)) v.mem (in_map (pair (link G f) v.way) w.mem) in
      let again : Made c ready.sound rank f d between one.P one.Q x.ring = rw (v.is, w.is) at (made_pair v.way w.way v.mem w.mem) in
      subst (λ (C : ℕ). C ∈ map (λ (x : Pair). x.ring) all_pairs) (made_unique c ready.sound rank again made) (in_map (λ (x : Pair). x.ring) here)

  -- The listed rings are the members of the family.
  pub listed_members : Members c rank f (member_sets G us d f.p f.q (link G f))
  unfolding member_sets
  listed_members =
      let same = pairs_sums (link G f) (routes G us d f.p) (routes G us d f.q)
      ∙ ap₂ (λ (Ps Qs : List ℕ). sums Ps (sums Qs (link G f ∷ []))) (routes_sets G us d f.p) (routes_sets G us d f.q) in
      subst (Members c rank f) same
      (record {
        all = λ C. (λ m. are_members (from_map (λ (x : Pair). x.ring) all_pairs m), have_members);
        ordered = rising_pairs (pairs_climb (link G f) (routes_climb G us d f.p) (routes_climb G us d f.q)) made_all;
      })

-- ---- the net

-- The rings that are listed ask for the neighbours and the bonds alone.
path_sets_net : (G : Net) (us : List ℕ) (e t : ℕ) → path_sets (net G.adj G.touch) us e t ≡ path_sets G us e t
unfolding path_sets bond
path_sets_net G us zero t = refl
path_sets_net G us (suc e) t = each_same _ _ (λ s. ap (map (bit_xor (bond G t s))) (path_sets_net G us e s)) (members 64 (nearer G us e t))

pub member_sets_net : (G : Net) (us : List ℕ) (d p q l : ℕ) → member_sets (net G.adj G.touch) us d p q l ≡ member_sets G us d p q l
unfolding member_sets
member_sets_net G us d p q l = ap₂ (λ (Ps Qs : List ℕ). sums Ps (sums Qs (l ∷ []))) (path_sets_net G us d p) (path_sets_net G us d q)

-- The neighbours, the bonds and the layers are those of a compound and a top atom.
pub record Holds (c : Compound) (pre : ℕ → ℕ) (r h : ℕ) (adj touch layers : List ℕ) : Type 0 where
  pub adj_held : adj ≡ (net_of c).adj
  pub touch_held : touch ≡ (net_of c).touch
  pub layered : Layered c pre r h layers

module _ (c : Compound) (rank pre : ℕ → ℕ) (ready : Ready c rank pre) (adj touch layers : List ℕ) (h d : ℕ) (f : Family) (between : List ℕ)
    (inside : f.r < c.n) (holds : Holds c pre f.r h adj touch layers) (deep : d ≤ h) (candidate : Candidate c rank f d between) (kept : Kept c rank f) where
  -- What `rings` lists for a kept family are its members in order.
  pub held_members : Members c rank f (member_sets (net adj touch) layers d f.p f.q (link (net_of c) f))
  held_members =
      rw (holds.adj_held, holds.touch_held, member_sets_net (net_of c) layers d f.p f.q (link (net_of c) f))
      (listed_members c rank pre ready layers h d f between inside holds.layered deep candidate kept)

  -- What it answers is the family's size.
  pub answered_size : (before after : List ℕ) (n : ℕ)
      → Told (member_sets (net adj touch) layers d f.p f.q (link (net_of c) f)) before after (Some n) → Size c rank f n
  answered_size before after n told = subst (Size c rank f) (sym told.0) (members_size c rank f held_members)

-- ---- one answer

-- One answer is possible, and one content of the buffer.
pub told_unique : (sets before after after' : List ℕ) (w w' : Option ℕ) → Told sets before after w → Told sets before after' w' → (w ≡ w') × (after ≡ after')
told_unique sets before after after' (Some n) (Some n') s t = (ap Some (s.0 ∙ sym t.0), s.2 ∙ sym t.2)
told_unique sets before after after' (Some n) None s t = absurd (omega (arith, s.1, t.0))
told_unique sets before after after' None (Some n) s t = absurd (omega (arith, s.0, t.1))
told_unique sets before after after' None None s t = (refl, s.1 ∙ sym t.1)
