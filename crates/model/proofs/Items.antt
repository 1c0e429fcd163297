-- The loops over one length are one pass over the candidates of that length in the order of the rows.
use mathlib.Core.Path.{◌≡◌, refl, sym, ap, ap₂, ◌∙◌, subst}
use mathlib.Core.List.{List, [], ◌∷◌, ◌++◌, map, map-append}
use Prim.Native.Nat.{ℕ, suc, ◌-◌, ◌*◌, ◌/◌, ◌<◌, ◌≤◌}
use native.Mathlib.Omega.{arith}
use lib.ListN.{length, set, length-set}
use Rattle.spans.specs.Basis.{All}
use Rattle.spans.specs.Elements.{◌∈◌, first, later}
use Rattle.spans.proofs.Lists.{all_append, all_map}
use Rattle.bondset.specs.Sets.{members}
use Rattle.cycles.specs.Compound.{Compound}
use Rattle.cycles.specs.Family.{Family, Kept, Size}
use Rattle.cycles.specs.Rows.{Ascending}
use Rattle.model.specs.Fold.{through, each, count}
use Rattle.model.specs.Net.{Net, net_of}
use Rattle.model.specs.Layer.{layer, layers_into, walk, ways}
use Rattle.model.specs.State.{State, judged, link, tried}
use Rattle.model.specs.Loops.{Running, seek, tops, top_loop, length_loop}
use Rattle.model.specs.Run.{Run}
use Rattle.model.proofs.Ready.{held, Ready, Layered}
use Rattle.model.proofs.Layers.{layers_layered}
use Rattle.model.proofs.Walks.{Given, walk_given}
use Rattle.model.proofs.Ways.{ways_size}
use Rattle.model.proofs.ItemsLists.{through_append, through_map, ∈_each, sorted_each, sorted_ascending}
use Rattle.bondset.proofs.Members.{members_climb, mem_of_bit, bit_of_mem}
use Rattle.model.specs.Candidates.{found}
use Rattle.model.proofs.ItemsFound.{depth, Of, less_top, found_of, found_sorted, seek_found}
use Rattle.model.proofs.ItemsCandidates.{under, Some, under_candidate, candidate_under, prototype_top, top_named_small}

-- A candidate with its prototype, or the empty set, and its size.
pub record Try : Type 0 where
  pub family : Family
  pub size : ℕ
  pub ring : ℕ

-- What a candidate does to the state.
abbrev pub judge : Try → State → State
judge t st = judged t.family t.size t.ring st

-- A candidate whose p and q are d steps below the top in these layers.
abbrev pub try_at : Net → List ℕ → ℕ → Family → Try
try_at G us d f = record { family = f; size = ways G us d f.p * ways G us d f.q; ring = walk G us d f.p f.q (link G f) }

all_mapped : {A B : Type 0} {P : B → Type 0} (f : A → B) (xs : List A) → ((x : A) → x ∈ xs → P (f x)) → All P (map f xs)
all_mapped f [] h = All.nil
all_mapped f (x ∷ xs) h = All.cons (h x first) (all_mapped f xs (λ y m. h y (later m)))

length_through : {A C : Type 0} (step : C → List A → List A) → ((x : C) (s : List A) → length (step x s) ≡ length s) → (xs : List C) (s : List A)
    → length (through step xs s) ≡ length s
unfolding through
length_through step keep [] s = refl
length_through step keep (x ∷ xs) s = length_through step keep xs (step x s) ∙ keep x s

module _ (c : Compound) (rank pre : ℕ → ℕ) (ready : Ready c rank pre) where
  -- All that may be kept of length k, in the order of the rows.
  pub record Items (k : ℕ) (tries : List Try) : Type 0 where
    pub ordered : Ascending (map (λ t. t.family) tries)
    pub long : All (λ t. t.family.long ≡ k) tries
    pub given : All (λ t. Given c rank pre (held ready) t.family t.ring) tries
    pub sized : All (λ t. Kept c rank t.family → Size c rank t.family t.size) tries
    pub all : (f : Family) → Kept c rank f → f.long ≡ k → f ∈ map (λ t. t.family) tries

  -- The loop over one length is a loop over its candidates, and keeps the room for layers.
  pub record Pass (k : ℕ) (s : Run) : Type 0 where
    pub tries : List Try
    pub items : Items k tries
    pub state : (length_loop (net_of c) (tried (net_of c)) pre k s).state ≡ through judge tries s.state
    pub room : length (length_loop (net_of c) (tried (net_of c)) pre k s).layers ≡ length s.layers

  abbrev G : Net
  G = net_of c

  module _ (k : ℕ) where
    -- The layers as the loop over the top atoms writes them.
    abbrev wrote : ℕ → List ℕ → List ℕ
    wrote r us = layers_into G (pre r) r (k / 2) us

    abbrev try : List ℕ → Family → Try
    try us f = try_at G us (depth k) f

    abbrev high : ℕ → ℕ
    high r = layer G (pre r) r (k / 2)

    abbrev low : ℕ → ℕ
    low r = layer G (pre r) r (k / 2 - 1)

    abbrev candidates : ℕ → List Family
    candidates r = under c rank pre ready k r

    of : (r : ℕ) {f : Family} → f ∈ candidates r → Of k r f
    of r = found_of G k r (high r) (low r)

    -- All that is tried under these top atoms.
    unfoldable tries_of : List ℕ → List ℕ → List Try
    tries_of [] us = []
    tries_of (r ∷ rs) us = map (try (wrote r us)) (candidates r) ++ tries_of rs (wrote r us)

    length_wrote : (r : ℕ) (us : List ℕ) → length (wrote r us) ≡ length us
    unfolding layers_into
    length_wrote r us = length_through (λ d us. set us d (layer G (pre r) r d)) (λ d us. length-set us d (layer G (pre r) r d)) (count 0 (suc (k / 2))) us

    family_try : (us : List ℕ) (fs : List Family) → map (λ t. t.family) (map (try us) fs) ≡ fs
    family_try us [] = refl
    family_try us (f ∷ fs) = ap (λ l. f ∷ l) (family_try us fs)

    families_are : (rs us : List ℕ) → map (λ t. t.family) (tries_of rs us) ≡ each candidates rs
    unfolding tries_of each
    families_are [] us = refl
    families_are (r ∷ rs) us =
        map-append (λ t. t.family) (map (try (wrote r us)) (candidates r)) (tries_of rs (wrote r us))
        ∙ ap₂ (λ (x y : List Family). x ++ y) (family_try (wrote r us) (candidates r)) (families_are rs (wrote r us))

    candidates_ascend : (s : ℕ) → Ascending (each candidates (members 64 s))
    candidates_ascend s =
        sorted_ascending (sorted_each candidates (λ a b f g h m n. less_top h (of a m) (of b n)) (λ r. found_sorted G k r (high r) (low r)) (members_climb 64 s))

    record Good (t : Try) : Type 0 where
      long : t.family.long ≡ k
      given : Given c rank pre (held ready) t.family t.ring
      sized : Kept c rank t.family → Size c rank t.family t.size

    try_good : {r : ℕ} {us : List ℕ} {f : Family} → r < c.n → Layered c pre r (k / 2) us → Of k r f → Some c rank pre ready f (depth k) → Good (try us f)
    try_good {us} {f} small layered Of.of w =
        record {
          long = refl;
          given = walk_given c rank pre (held ready) us (k / 2) (depth k) f w.0 small layered (omega arith) w.1;
          sized = ways_size c rank pre ready us (k / 2) (depth k) f w.0 small layered (omega arith) w.1;
        }

    tries_good : (rs us : List ℕ) → 3 ≤ k → k / 2 < length us → ((r : ℕ) → r ∈ rs → r < c.n) → All Good (tries_of rs us)
    unfolding tries_of
    tries_good [] us long room named = All.nil
    tries_good (r ∷ rs) us long room named =
        all_append
        (all_mapped (try (wrote r us)) (candidates r)
        (λ f m. try_good (named r first) (layers_layered c rank pre (held ready) r (k / 2) us room) (of r m) (under_candidate c rank pre ready r (named r first) k long m)))
        (tries_good rs (wrote r us) long (rw (length_wrote r us) room) (λ r' m. named r' (later m)))

    module _ {X : Type 0} (step : Try → X → X) where
      abbrev attempt : List ℕ → ℕ → Family → X → X
      attempt us d f x = step (try_at G us d f) x

      seek_tried : (r : ℕ) (us : List ℕ) (x : X) → Layered c pre r (k / 2) us → seek G attempt k r us x ≡ through step (map (try us) (candidates r)) x
      seek_tried r us x layered =
          seek_found G k r attempt us x
          ∙ ap₂ (λ (u below : ℕ). through (attempt us (depth k)) (found G k r u below) x) (layered.are (k / 2) (omega arith))
          (layered.are (k / 2 - 1) (omega arith))
          ∙ sym (through_map step (try us) (candidates r) x)

      state_is : (rs : List ℕ) (s : Running X) → k / 2 < length s.layers
          → (through (top_loop G attempt pre k) rs s).state ≡ through step (tries_of rs s.layers) s.state
      unfolding through top_loop tries_of
      state_is [] s room = refl
      state_is (r ∷ rs) s room =
          let us = wrote r s.layers in
          let more : k / 2 < length us = rw (length_wrote r s.layers) room in
          state_is rs (top_loop G attempt pre k r s) more
          ∙ ap (λ (x : X). through step (tries_of rs us) x) (seek_tried r us s.state (layers_layered c rank pre (held ready) r (k / 2) s.layers room))
          ∙ sym (through_append step (map (try us) (candidates r)) (tries_of rs us) s.state)

    room_is : (rs : List ℕ) (s : Run) → length (through (top_loop G (tried G) pre k) rs s).layers ≡ length s.layers
    unfolding through top_loop
    room_is [] s = refl
    room_is (r ∷ rs) s = room_is rs (top_loop G (tried G) pre k r s) ∙ length_wrote r s.layers

  -- All that is tried of length k, from these layers on.
  pub tries : ℕ → List ℕ → List Try
  tries k us = tries_of k (members 64 (tops G pre)) us

  module _ (k : ℕ) (long : 3 ≤ k) (fits : k ≤ c.n) where
    kept_in : (f : Family) → Kept c rank f → f.long ≡ k → f ∈ each (candidates k) (members 64 (tops G pre))
    kept_in f kept e =
        let many : 3 ≤ f.long = omega arith in
        let top = prototype_top c rank pre ready kept.prototype many in
        let small = top_named_small c rank pre ready f.r top in
        ∈_each (candidates k) (mem_of_bit 64 (tops G pre) f.r (omega (arith, ready.atoms)) top)
        (subst (λ (j : ℕ). f ∈ candidates j f.r) e (candidate_under c rank pre ready kept.prototype.candidate many))

    -- They are all that may be kept, in order.
    pub tries_items : (us : List ℕ) → 33 ≤ length us → Items k (tries k us)
    unfolding tries
    tries_items us room =
        let rs = members 64 (tops G pre) in
        let good = tries_good k rs us long (omega (arith, ready.atoms)) (λ r m. top_named_small c rank pre ready r (bit_of_mem 64 (tops G pre) r m)) in
        let families = families_are k rs us in
        record {
          ordered = rw families (candidates_ascend k (tops G pre));
          long = all_map (λ t g. g.long) good;
          given = all_map (λ t g. g.given) good;
          sized = all_map (λ t g. g.sized) good;
          all = λ f kept e. rw families (kept_in f kept e);
        }

    -- The loop over the length is a loop over them, whatever a candidate does to the state.
    pub loop_tries : {X : Type 0} (step : Try → X → X) (s : Running X) → 33 ≤ length s.layers
        → (length_loop G (λ us d f x. step (try_at G us d f) x) pre k s).state ≡ through step (tries k s.layers) s.state
    unfolding length_loop tries
    loop_tries step s room = state_is k step (members 64 (tops G pre)) s (omega (arith, ready.atoms))

    -- The loop over the length is such a pass.
    pub length_pass : (s : Run) → 33 ≤ length s.layers → Pass k s
    unfolding length_loop tried
    length_pass s room =
        record {
          tries = tries k s.layers;
          items = tries_items s.layers room;
          state = loop_tries judge s room;
          room = room_is k (members 64 (tops G pre)) s;
        }
