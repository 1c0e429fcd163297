-- The paths from an atom to the top with their bond sets: all of them, and in order.
use mathlib.Core.Path.{◌≡◌, refl, sym, ap, ap₂, ◌∙◌}
use mathlib.Core.List.{List, [], ◌∷◌, ◌++◌, map, map-map}
use mathlib.Core.Logic.{⊎_elim}
use Prim.Native.Nat.{ℕ, zero, suc, ◌<◌, ◌≤◌}
use native.Mathlib.Omega.{arith}
use lib.Bits.{bit_xor}
use Rattle.spans.specs.Elements.{◌∈◌}
use Rattle.spans.proofs.Lists.{in_append}
use Rattle.bondset.specs.Sets.{members, Climbs}
use Rattle.bondset.proofs.Members.{members_climb, mem_of_bit, bit_of_mem}
use Rattle.cycles.specs.Compound.{Compound, Bonded}
use Rattle.cycles.specs.Ring.{Edges}
use Rattle.cycles.specs.Family.{Down}
use Rattle.cycles.specs.Rows.{Less}
use Rattle.cycles.proofs.PathsDown.{down_more, edges_at}
use Rattle.model.specs.Fold.{each}
use Rattle.model.specs.Net.{Net, net_of, bond}
use Rattle.model.proofs.Ready.{held, Ready, DownFrom, Layered}
use Rattle.model.proofs.Layers.{bonded_sym, bond_joins}
use Rattle.model.proofs.Walks.{mask_has}
use Rattle.model.proofs.ItemsLists.{map_each, ∈_each, from_each}
use Rattle.model.proofs.ItemsCandidates.{bonded_small, down_small}
use Rattle.members.specs.Listed.{nearer, path_sets}

-- ---- lists in order

module _ {X : Type 0} (key : X → List ℕ) where
  -- Each element comes before all that follow it.
  pub data Climb : List X → Type 0 where
    none : Climb []
    next : {x : X} {xs : List X} → ((y : X) → y ∈ xs → Less (key x) (key y)) → Climb xs → Climb (x ∷ xs)

  pub climb_append : {xs ys : List X} → Climb xs → Climb ys → ((x y : X) → x ∈ xs → y ∈ ys → Less (key x) (key y)) → Climb (xs ++ ys)
  climb_append none t less = t
  climb_append {ys} (next {x} {xs} before s) t less =
      next (λ y m. ⊎_elim (λ (l : y ∈ xs). before y l) (λ (l : y ∈ ys). less x y ◌∈◌.first l) (in_append xs ys m))
      (climb_append s t (λ x y m. less x y (◌∈◌.later m)))

-- An element of a mapped list.
pub data Image {X Y : Type 0} (g : X → Y) (xs : List X) : Y → Type 0 where
  image : {x : X} → x ∈ xs → Image g xs (g x)

pub from_map : {X Y : Type 0} (g : X → Y) (xs : List X) {y : Y} → y ∈ map g xs → Image g xs y
from_map g [] m = elim m [ ]
from_map g (x ∷ xs) ◌∈◌.first = image ◌∈◌.first
from_map g (x ∷ xs) (◌∈◌.later m) = more (from_map g xs m)
  where
    more : {y : _} → Image g xs y → Image g (x ∷ xs) y
    more (image m) = image (◌∈◌.later m)

pub in_map : {X Y : Type 0} (g : X → Y) {x : X} {xs : List X} → x ∈ xs → g x ∈ map g xs
in_map g ◌∈◌.first = ◌∈◌.first
in_map g (◌∈◌.later m) = ◌∈◌.later (in_map g m)

pub climb_map : {X Y : Type 0} (key : X → List ℕ) (to : Y → List ℕ) (g : X → Y) → ((x y : X) → Less (key x) (key y) → Less (to (g x)) (to (g y)))
    → {xs : List X} → Climb key xs → Climb to (map g xs)
climb_map key to g less none = none
climb_map key to g less (next {x} {xs} before s) = next (λ y m. go (from_map g xs m)) (climb_map key to g less s)
  where
    go : {y : _} → Image g xs y → Less (to (g x)) (to y)
    go (image {x = z} m) = less x z (before z m)

-- Lists one after another, for numbers that climb.
pub climb_members : {X : Type 0} (key : X → List ℕ) (f : ℕ → List X) → ((a b : ℕ) (x y : X) → a < b → x ∈ f a → y ∈ f b → Less (key x) (key y))
    → ((a : ℕ) → Climb key (f a)) → {those : List ℕ} → Climbs those → Climb key (each f those)
unfolding each
climb_members key f less climb Climbs.none = none
climb_members key f less climb (Climbs.next {x} {xs} up rest) =
    climb_append key (climb x) (climb_members key f less climb rest) (λ y z m n. let w = from_each f xs n in less x w.a y z (up w.a w.mem) m w.here)

-- Lists one after another, for elements in order.
pub climb_each : {A X : Type 0} (from : A → List ℕ) (key : X → List ℕ) (f : A → List X)
    → ((a b : A) (x y : X) → Less (from a) (from b) → x ∈ f a → y ∈ f b → Less (key x) (key y)) → ((a : A) → Climb key (f a))
    → {those : List A} → Climb from those → Climb key (each f those)
unfolding each
climb_each from key f less climb none = none
climb_each from key f less climb (next {x} {xs} before rest) =
    climb_append key (climb x) (climb_each from key f less climb rest) (λ y z m n. let w = from_each f xs n in less x w.a y z (before w.a w.mem) m w.here)

pub each_same : {A X : Type 0} (f g : A → List X) → ((a : A) → f a ≡ g a) → (those : List A) → each f those ≡ each g those
unfolding each
each_same f g same [] = refl
each_same f g same (a ∷ those) = ap₂ (λ (x y : List _). x ++ y) (same a) (each_same f g same those)

-- ---- routes

-- A path, and the sum of its bonds.
pub record Route : Type 0 where
  pub atoms : List ℕ
  pub bonds : ℕ

-- The route from t over s.
abbrev longer : Net → ℕ → ℕ → Route → Route
longer G t s way = record { atoms = t ∷ way.atoms; bonds = bit_xor (bond G t s) way.bonds }

-- A route starts at t.
data Starts (t : ℕ) : Route → Type 0 where
  starts : {path : List ℕ} {b : ℕ} → Starts t (record { atoms = t ∷ path; bonds = b })

module _ (G : Net) (us : List ℕ) where
  unfoldable pub routes : ℕ → ℕ → List Route
  routes zero t = record { atoms = t ∷ []; bonds = 0 } ∷ []
  routes (suc e) t = each (λ s. map (longer G t s) (routes e s)) (members 64 (nearer G us e t))

  -- Their bond sets are those that are listed.
  pub routes_sets : (e t : ℕ) → map (λ (w : Route). w.bonds) (routes e t) ≡ path_sets G us e t
  unfolding routes path_sets
  routes_sets zero t = refl
  routes_sets (suc e) t =
      map_each (λ (w : Route). w.bonds) (λ s. map (longer G t s) (routes e s)) _
      (λ s. map-map (λ (w : Route). w.bonds) (longer G t s) (routes e s)
      ∙ sym (map-map (bit_xor (bond G t s)) (λ (w : Route). w.bonds) (routes e s))
      ∙ ap (map (bit_xor (bond G t s))) (routes_sets e s)) (members 64 (nearer G us e t))

  routes_start : (e t : ℕ) {w : Route} → w ∈ routes e t → Starts t w
  unfolding routes
  routes_start zero t ◌∈◌.first = starts
  routes_start zero t (◌∈◌.later m) = elim m [ ]
  routes_start (suc e) t m =
      let g = from_each (λ s. map (longer G t s) (routes e s)) (members 64 (nearer G us e t)) m in
      go g.a (from_map (longer G t g.a) (routes e g.a) g.here)
    where
      go : (s : ℕ) {w : Route} → Image (longer G t s) (routes e s) w → Starts t w
      go s (image m) = starts

  -- They stand in order.
  pub routes_climb : (e t : ℕ) → Climb (λ (w : Route). w.atoms) (routes e t)
  unfolding routes
  routes_climb zero t = next {x = record { atoms = t ∷ []; bonds = 0 }} {xs = []} (λ y. elim [ ]) none
  routes_climb (suc e) t =
      climb_members (λ (w : Route). w.atoms) (λ s. map (longer G t s) (routes e s))
      (λ a b x y l m n. apart a b l (from_map (longer G t a) (routes e a) m) (from_map (longer G t b) (routes e b) n))
      (λ s. climb_map (λ (w : Route). w.atoms) (λ (w : Route). w.atoms) (longer G t s) (λ x y l. Less.later l) (routes_climb e s))
      (members_climb 64 (nearer G us e t))
    where
      lower : {a b : ℕ} {v w : Route} → a < b → Starts a v → Starts b w → Less v.atoms w.atoms
      lower l starts starts = Less.here l

      apart : (a b : ℕ) → a < b → {x y : Route} → Image (longer G t a) (routes e a) x → Image (longer G t b) (routes e b) y → Less x.atoms y.atoms
      apart a b l (image m) (image n) = Less.later (lower l (routes_start e a m) (routes_start e b n))

module _ (c : Compound) (rank pre : ℕ → ℕ) (ready : Ready c rank pre) (us : List ℕ) (h r : ℕ) (small : r < c.n) (layered : Layered c pre r h us) where
  abbrev G : Net
  G = net_of c

  -- A route is a path down with its bonds.
  pub record Goes (t e : ℕ) (w : Route) : Type 0 where
    pub down : Down c rank r t e w.atoms
    pub edges : Edges c w.atoms w.bonds

  goes_here : {t : ℕ} {Q : List ℕ} {w : Route} → Down c rank r t 0 Q → w ∈ (record { atoms = t ∷ []; bonds = 0 } ∷ []) → Goes t 0 w
  goes_here Down.top ◌∈◌.first = record { down = Down.top; edges = Edges.point }
  goes_here Down.top (◌∈◌.later m) = elim m [ ]

  goes_next : {t e s : ℕ} {Q : List ℕ} {w : Route} → Down c rank r t (suc e) Q → Bonded c t s → ((v : Route) → v ∈ routes G us e s → Goes s e v)
      → Image (longer G t s) (routes G us e s) w → Goes t (suc e) w
  goes_next {t} {s} (Down.step less far bond rest) (k, joins) goes (image {x = v} m) =
      let g = goes v m in
      record {
        down = Down.step less far (k, joins) g.down;
        edges = edges_at c rank (ap (λ (b : ℕ). bit_xor b v.bonds) (sym (bond_joins c rank pre (held ready) k t s joins))) (down_more c rank g.down joins g.edges);
      }

  pub routes_go : (e t : ℕ) → e ≤ h → DownFrom c rank r t e → (w : Route) → w ∈ routes G us e t → Goes t e w
  unfolding routes
  routes_go zero t le d w m = goes_here d.1 m
  routes_go (suc e) t le d w m =
      let g = from_each (λ s. map (longer G t s) (routes G us e s)) (members 64 (nearer G us e t)) m in
      let s = g.a in
      let near = (mask_has c rank pre (held ready) us r h small layered t s e (down_small c rank pre ready d.1 (omega arith)) (omega arith)).0 (bit_of_mem 64 (nearer G us e t) s g.mem) in
      goes_next d.1 near.0 (routes_go e s (omega arith) near.1) (from_map (longer G t s) (routes G us e s) g.here)

  -- Every path down is one of them.
  pub record Found (t e : ℕ) (P : List ℕ) : Type 0 where
    pub way : Route
    pub mem : way ∈ routes G us e t
    pub is : way.atoms ≡ P

  pub routes_all : (e : ℕ) {t : ℕ} {P : List ℕ} → e ≤ h → Down c rank r t e P → Found t e P
  unfolding routes
  routes_all zero le Down.top = record { way = record { atoms = r ∷ []; bonds = 0 }; mem = ◌∈◌.first; is = refl }
  routes_all (suc e) le (Down.step {t} {next} less far bond rest) =
      let near = (mask_has c rank pre (held ready) us r h small layered t next e (bonded_small c rank pre ready bond) (omega arith)).1 (bond, (_, rest)) in
      let named : next < c.n = bonded_small c rank pre ready (bonded_sym c rank pre (held ready) bond) in
      let g = routes_all e (omega arith) rest in
      record {
        way = longer G t next g.way;
        mem = ∈_each (λ s. map (longer G t s) (routes G us e s)) (mem_of_bit 64 (nearer G us e t) next (omega (arith, ready.atoms)) near) (in_map (longer G t next) g.mem);
        is = ap (λ (l : List ℕ). t ∷ l) g.is;
      }
