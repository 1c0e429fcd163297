-- The loop over the neighbours that are nearer to the top: what is left to be written makes the whole.
use mathlib.Core.Path.{◌≡◌, refl, sym, ap, ap₂, ◌∙◌}
use mathlib.Core.List.{List, [], ◌∷◌, ◌++◌, map, append-nil, map-append}
use Prim.Native.Nat.{ℕ, zero, suc, ◌+◌, ◌-◌, ◌*◌, ◌/◌, ◌<◌, ◌≤◌}
use native.Mathlib.Nat.{mul-le-mul_right}
use native.Mathlib.Omega.{arith}
use lib.Bits.{bit_and, bit_xor, xor_zero_r}
use lib.ListN.{length, get_or, drop, length-append, length-map, get_or-append}
use lib.Seq.{get_or-append_seam}
use Rattle.bondset.specs.Sets.{members}
use Rattle.bondset.proofs.Laws.{xor_assoc}
use Rattle.model.specs.Fold.{through, each}
use Rattle.model.specs.Net.{Net, nbrs, bond}
use Rattle.model.specs.Layer.{ways}
use Rattle.paths.specs.Nets.{net}
use Rattle.counting.proofs.WaysNet.{ways_net}
use Rattle.members.specs.Listed.{nearer, path_sets, sums, placed, places_at, over, last_sets, Room, Listed}
use Rattle.members.proofs.Routes.{each_same}
use Rattle.members.proofs.Places.{over_none, length_over, drop_over, over_over, placed_append, length_placed, sums_append, length_sums, length_places, places_same}

-- ---- as many sets as paths

through_lengths : (f : ℕ → List ℕ) (g : ℕ → ℕ) → ((s : ℕ) → length (f s) ≡ g s) → (L : List ℕ) (acc : ℕ)
    → through (λ s acc. acc + g s) L acc ≡ acc + length (each f L)
unfolding through each
through_lengths f g same [] acc = omega arith
through_lengths f g same (x ∷ L) acc = omega (arith, through_lengths f g same L (acc + g x), length-append (f x) (each f L), same x)

pub path_sets_many : (G : Net) (us : List ℕ) (e t : ℕ) → length (path_sets G us e t) ≡ ways (net G.adj []) us e t
unfolding path_sets ways
path_sets_many G us e t = go e t ∙ sym (ways_net G us e t)
  where
    go : (e t : ℕ) → length (path_sets G us e t) ≡ ways G us e t
    go zero t = refl
    go (suc e) t =
        sym (through_lengths (λ s. map (bit_xor (bond G t s)) (path_sets G us e s)) (ways G us e) (λ s. length-map (path_sets G us e s) (bit_xor (bond G t s)) ∙ go e s)
        (members 64 (nearer G us e t)) 0 ∙ omega arith)

-- ---- what a step adds to a path

map_xor : (a b : ℕ) (L : List ℕ) → map (bit_xor a) (map (bit_xor b) L) ≡ map (bit_xor (bit_xor a b)) L
map_xor a b [] = refl
map_xor a b (x ∷ L) = ap₂ (λ (y : ℕ) (l : List ℕ). y ∷ l) (sym (xor_assoc a b x)) (map_xor a b L)

module _ (G : Net) (us : List ℕ) (e t path : ℕ) where
  -- The sets of the paths through the atoms that are left, `path` and all.
  unfoldable pub left : List ℕ → List ℕ
  left = each (λ s. map (bit_xor (bit_xor path (bond G t s))) (path_sets G us e s))

  all_left : (L : List ℕ) → map (bit_xor path) (each (λ s. map (bit_xor (bond G t s)) (path_sets G us e s)) L) ≡ left L
  unfolding left each
  all_left [] = refl
  all_left (s ∷ L) =
      map-append (bit_xor path) (map (bit_xor (bond G t s)) (path_sets G us e s)) _
      ∙ ap₂ (λ (x y : List ℕ). x ++ y) (map_xor path (bond G t s) (path_sets G us e s)) (all_left L)

  left_start : map (bit_xor path) (path_sets G us (suc e) t) ≡ left (members 64 (nearer G us e t))
  unfolding path_sets
  left_start = all_left (members 64 (nearer G us e t))

  left_none : left [] ≡ []
  unfolding left each
  left_none = refl

  left_more : (s : ℕ) (L : List ℕ) → left (s ∷ L) ≡ map (bit_xor (bit_xor path (bond G t s))) (path_sets G us e s) ++ left L
  unfolding left each
  left_more s L = refl

-- A bond asks for the bonds at the atoms alone.
pub bond_net : (adj touch : List ℕ) (a b : ℕ) → bond (net [] touch) a b ≡ bond (net adj touch) a b
unfolding bond
bond_net adj touch a b = refl

-- ---- the top

module _ (adj touch layers rings rings' : List ℕ) (e t path count at : ℕ) (z : e ≡ 0) where
  pub top_one : ways (net adj []) layers e t ≡ 1
  unfolding ways
  top_one = rw z

  pub top_below : Room rings count at (ways (net adj []) layers e t) → at ≤ length rings / 12 - count
  top_below room = let one = top_one in let h : at + 1 * count ≤ length rings / 12 = rw one at room.target in omega arith

  pub top_listed : rings' ≡ over rings (12 * at) (placed (map (bit_xor path) (last_sets rings count)))
      → Listed adj touch layers e t path count at rings rings' (at + count)
  unfolding path_sets sums each
  top_listed is = record {
    written = is ∙ ap (λ (l : List ℕ). over rings (12 * at) (placed l)) (rw (z, xor_zero_r) (sym (append-nil _)));
    ends = rw top_one (omega arith);
  }

-- ---- the first layers alone

-- The last layer is that of the number of those before it.
pub last_layer : {layers : List ℕ} (us : List ℕ) (layer : ℕ) → layers ≡ us ++ (layer ∷ []) → get_or layers (length us) 0 ≡ layer
last_layer us layer e = rw e (get_or-append_seam us layer [] 0)

-- The paths from an atom ask for the layers nearer to the top alone.
module _ {layers : List ℕ} (us more : List ℕ) (whole : layers ≡ us ++ more) where
  pub path_sets_front : (G : Net) (e t : ℕ) → e ≤ length us → path_sets G us e t ≡ path_sets G layers e t
  unfolding path_sets
  path_sets_front G zero t h = refl
  path_sets_front G (suc e) t h =
      let same : get_or us e 0 ≡ get_or layers e 0 = rw whole (sym (get_or-append us more 0 e (omega arith))) in
      ap (λ (w : ℕ). each (λ s. map (bit_xor (bond G t s)) (path_sets G us e s)) (members 64 (bit_and (nbrs G t) w))) same
      ∙ each_same _ _ (λ s. ap (map (bit_xor (bond G t s))) (path_sets_front G e s (omega arith))) (members 64 (nearer G layers e t))

  pub ways_front : (adj : List ℕ) (e t : ℕ) → e ≤ length us → ways (net adj []) us e t ≡ ways (net adj []) layers e t
  ways_front adj e t h =
      sym (path_sets_many (net adj []) us e t) ∙ ap length (path_sets_front (net adj []) e t h) ∙ path_sets_many (net adj []) layers e t

  module _ (adj : List ℕ) (e t : ℕ) (h : e ≤ length us) where
    pub room_front : {rings : List ℕ} {count at : ℕ} → Room rings count at (ways (net adj []) layers e t) → Room rings count at (ways (net adj []) us e t)
    room_front {rings} {count} {at} room = rw (ways_front adj e t h) room

    pub listed_front : {touch rings rings' : List ℕ} {path count at end : ℕ} → Listed adj touch us e t path count at rings rings' end
        → Listed adj touch layers e t path count at rings rings' end
    listed_front {touch} {rings} {rings'} {path} {count} {at} {end} listed = record {
      written = rw (path_sets_front (net adj touch) e t h) at listed.written;
      ends = rw (ways_front adj e t h) at listed.ends;
    }

-- ---- the loop

-- From place `next` on, what is left makes the goal; the source stands as long as anything is left.
pub record Listing (G : Net) (us : List ℕ) (e t path from count : ℕ) (rings₀ goal : List ℕ) (end : ℕ) (rings todo : List ℕ) (next : ℕ) : Type 0 where
  pub same : length rings ≡ length rings₀
  pub room : next + length (left G us e t path todo) * count ≤ from + count
  pub all : next + length (left G us e t path todo) * count ≡ end
  pub source : 0 < length (left G us e t path todo) → places_at rings from count ≡ places_at rings₀ from count
  pub makes : over rings (12 * next) (placed (sums (left G us e t path todo) (places_at rings₀ from count))) ≡ goal

-- Where something is written, the source is the old one.
sums_source : (A B xs ys : List ℕ) → (0 < length (A ++ B) → ys ≡ xs) → sums A ys ≡ sums A xs
unfolding sums each
sums_source [] B xs ys h = refl
sums_source (a ∷ A) B xs ys h = ap (λ (l : List ℕ). sums (a ∷ A) l) (h (omega arith))

module _ (adj touch layers : List ℕ) (n e t path count at : ℕ) (rings₀ : List ℕ) where
  abbrev G : Net
  G = net adj touch

  abbrev from : ℕ
  from = length rings₀ / 12 - count

  abbrev pub wanted : List ℕ
  wanted = over rings₀ (12 * at) (placed (sums (map (bit_xor path) (path_sets G layers n t)) (last_sets rings₀ count)))

  abbrev pub Going : List ℕ → List ℕ → ℕ → Type 0
  Going = Listing G layers e t path from count rings₀ wanted (at + ways (net adj []) layers n t * count)

  pub going_start : {layer : ℕ} → n ≡ suc e → get_or layers e 0 ≡ layer → Room rings₀ count at (ways (net adj []) layers n t)
      → Going rings₀ (members 64 (bit_and (get_or adj t 0) layer)) at
  going_start {layer} step last room =
      let todo = members 64 (bit_and (get_or adj t 0) layer) in
      let same : map (bit_xor path) (path_sets G layers n t) ≡ left G layers e t path todo =
      ap (λ (i : ℕ). map (bit_xor path) (path_sets G layers i t)) step ∙ left_start G layers e t path
      ∙ ap (λ (w : ℕ). left G layers e t path (members 64 (bit_and (get_or adj t 0) w))) last in
      let many : length (left G layers e t path todo) ≡ ways (net adj []) layers n t =
      sym (ap length same) ∙ length-map (path_sets G layers n t) (bit_xor path) ∙ path_sets_many G layers n t in
      record { same = refl; room = rw many (omega (arith, room.target, room.source)); all = rw many; source = λ h. refl; makes = rw (← same) }

  pub going_end : {rings todo : List ℕ} {next : ℕ} → todo ≡ [] → Going rings todo next → Listed adj touch layers n t path count at rings₀ rings next
  unfolding sums placed each
  going_end {rings} {todo} {next} z going =
      let none : left G layers e t path todo ≡ [] = rw z (left_none G layers e t path) in
      record {
        written = sym (over_none rings (12 * next)) ∙ (rw none at going.makes);
        ends = omega (arith, rw none at going.all);
      }

  module _ {rings todo : List ℕ} {next : ℕ} (going : Going rings todo next) (source : count ≤ length rings₀ / 12) {s : ℕ} {todo' : List ℕ} (more : todo ≡ s ∷ todo') where
    abbrev here : List ℕ
    here = map (bit_xor (bit_xor path (bond G t s))) (path_sets G layers e s)

    abbrev later : List ℕ
    later = left G layers e t path todo'

    turn : left G layers e t path todo ≡ here ++ later
    turn = rw more (left_more G layers e t path s todo')

    many : length here ≡ ways (net adj []) layers e s
    many = length-map (path_sets G layers e s) (bit_xor (bit_xor path (bond G t s))) ∙ path_sets_many G layers e s

    both : length (left G layers e t path todo) ≡ ways (net adj []) layers e s + length later
    both = ap length turn ∙ length-append here later ∙ ap (λ (w : ℕ). w + length later) many

    -- There is room for the paths through the atom of a turn.
    pub going_room : Room rings count next (ways (net adj []) layers e s)
    going_room = record { source = omega (arith, going.same); target = omega (arith, going.same, rw both at going.room) }

    -- These are written.
    pub going_more : {rings' : List ℕ} {r path' : ℕ} → path' ≡ bit_xor path (bond G t s) → Listed adj touch layers e s path' count next rings rings' r
        → Going rings' todo' r
    going_more {rings'} {r} {path'} is listed =
        let xs = places_at rings₀ from count in
        let k = 12 * next in
        let u = placed (sums here xs) in
        let w = ways (net adj []) layers e s in
        let old : 0 < length (here ++ later) → places_at rings from count ≡ xs = rw turn at going.source in
        let new : rings' ≡ over rings k u =
        listed.written
        ∙ ap₂ (λ (p m : ℕ). over rings k (placed (sums (map (bit_xor p) (path_sets G layers e s)) (places_at rings (m / 12 - count) count)))) is going.same
        ∙ ap (λ (l : List ℕ). over rings k (placed l)) (sums_source here later xs (places_at rings from count) old) in
        let wide : length u ≡ 12 * (w * count) =
        length_placed (sums here xs)
        ∙ ap (λ (i : ℕ). 12 * i) (length_sums here xs ∙ ap₂ (λ (i j : ℕ). i * j) many (length_places rings₀ from count)) in
        let room : next + (w + length later) * count ≤ from + count = rw both at going.room in
        let all : next + (w + length later) * count ≡ at + ways (net adj []) layers n t * count = rw both at going.all in
        let in-room : k + length u ≤ length rings = omega (arith, going.same) in
        record {
          same = ap length new ∙ length_over rings k u in-room ∙ going.same;
          room = omega (arith, listed.ends);
          all = omega (arith, listed.ends);
          source = λ some.
              let below : k + length u ≤ 12 * from = omega (arith, mul-le-mul_right count some) in
              places_same rings' rings from count (ap (drop (12 * from)) new ∙ drop_over rings k u in-room (12 * from) below)
              ∙ old (omega (arith, length-append here later));
          makes =
              ap₂ (λ (l : List ℕ) (i : ℕ). over l (12 * i) (placed (sums later xs))) new listed.ends
              ∙ over_over rings k u in-room (placed (sums later xs)) (12 * (next + w * count)) (omega arith)
              ∙ ap (over rings k) (sym (placed_append (sums here xs) (sums later xs)) ∙ ap placed (sym (sums_append here later xs)))
              ∙ (rw turn at going.makes);
        }
