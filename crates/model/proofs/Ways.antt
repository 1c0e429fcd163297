-- The number of paths that the model counts is the number of paths, and so sizes are sizes.
use mathlib.Core.Path.{◌≡◌, refl, ◌∙◌, subst}
use mathlib.Core.List.{List, [], ◌∷◌, map}
use Prim.Native.Nat.{ℕ, zero, suc, ◌+◌, ◌*◌, ◌<◌, ◌≤◌}
use native.Mathlib.Omega.{arith}
use lib.Bits.{bit_and}
use lib.ListN.{length, get_or, length-append, length-map}
use Rattle.spans.specs.Elements.{◌∈◌, first, later, Once}
use Rattle.bondset.specs.Sets.{members, Climbs}
use Rattle.cycles.specs.Compound.{Compound, Bonded}
use Rattle.cycles.specs.Family.{Family, Down, Candidate, Kept, Size}
use Rattle.cycles.proofs.MembersLists.{once_append}
use Rattle.cycles.proofs.Members.{AllDown, size_is_product}
use Rattle.model.specs.Fold.{through, each}
use Rattle.model.specs.Net.{Net, net_of, nbrs}
use Rattle.model.specs.Layer.{ways}
use Rattle.model.proofs.Ready.{held, Ready, DownFrom, Layered}
use Rattle.model.proofs.Layers.{bonded_sym}
use Rattle.model.proofs.Walks.{mask_has}
use Rattle.model.proofs.ItemsLists.{∈_each, from_each}
use Rattle.bondset.proofs.Members.{members_climb, mem_of_bit, bit_of_mem}
use Rattle.model.proofs.ItemsCandidates.{bonded_small, down_small}

-- ---- lists one after the other

-- An element put before each list.
data Longer (t : ℕ) (Ps : List (List ℕ)) : List ℕ → Type 0 where
  longer : {P : List ℕ} → P ∈ Ps → Longer t Ps (t ∷ P)

abbrev ahead : ℕ → List (List ℕ) → List (List ℕ)
ahead t Ps = map (λ P. t ∷ P) Ps

ahead_are : (t : ℕ) (Ps : List (List ℕ)) {Q : List ℕ} → Q ∈ ahead t Ps → Longer t Ps Q
ahead_are t [] h = elim h [ ]
ahead_are t (P ∷ Ps) first = longer first
ahead_are t (P ∷ Ps) (later m) = more (ahead_are t Ps m)
  where
    more : {Q : List ℕ} → Longer t Ps Q → Longer t (P ∷ Ps) Q
    more (longer m) = longer (later m)

ahead_have : (t : ℕ) {P : List ℕ} {Ps : List (List ℕ)} → P ∈ Ps → (t ∷ P) ∈ ahead t Ps
ahead_have t first = first
ahead_have t (later m) = later (ahead_have t m)

fresh : (t : ℕ) (P : List ℕ) (Ps : List (List ℕ)) → (P ∈ Ps → ⊥) → (t ∷ P) ∈ ahead t Ps → ⊥
fresh t P Ps h m = go (ahead_are t Ps m) refl
  where
    go : {Q : List ℕ} → Longer t Ps Q → Q ≡ t ∷ P → ⊥
    go (longer {P = R} i) e = h (subst (λ (L : List ℕ). L ∈ Ps) (let same : R ≡ P = cc in same) i)

ahead_once : (t : ℕ) {Ps : List (List ℕ)} → Once Ps → Once (ahead t Ps)
ahead_once t Once.none = Once.none
ahead_once t (Once.more {x = P} {xs = Ps} new rest) = Once.more (fresh t P Ps new) (ahead_once t rest)

-- Lists without repeats one after the other, for numbers that climb.
once_each : {X : Type 0} (f : ℕ → List X) → ((a b : ℕ) (x : X) → a < b → x ∈ f a → x ∈ f b → ⊥) → ((a : ℕ) → Once (f a))
    → {xs : List ℕ} → Climbs xs → Once (each f xs)
unfolding each
once_each f apart once Climbs.none = Once.none
once_each f apart once (Climbs.next {x} {xs} up rest) =
    once_append (once x) (once_each f apart once rest)
    (λ y m n. let w = from_each f xs n in apart x w.a y (up w.a w.mem) m w.here)

length_each : {X : Type 0} (f : ℕ → List X) (g : ℕ → ℕ) → ((a : ℕ) → length (f a) ≡ g a) → (xs : List ℕ) (acc : ℕ)
    → through (λ a acc. acc + g a) xs acc ≡ acc + length (each f xs)
unfolding through each
length_each f g same [] acc = omega arith
length_each f g same (x ∷ xs) acc = omega (arith, length_each f g same xs (acc + g x), length-append (f x) (each f xs), same x)

-- ---- the paths that are counted

data Starts (t : ℕ) : List ℕ → Type 0 where
  starts : {P : List ℕ} → Starts t (t ∷ P)

starts_apart : {a b : ℕ} {P Q : List ℕ} → a < b → Starts a P → Starts b Q → P ≡ Q → ⊥
starts_apart {a} {b} h starts starts e = let same : a ≡ b = cc in omega arith

module _ (G : Net) (us : List ℕ) where
  -- The atoms one step nearer to the top.
  abbrev nearer : ℕ → ℕ → ℕ
  nearer e t = bit_and (nbrs G t) (get_or us e 0)

  unfoldable downs : ℕ → ℕ → List (List ℕ)
  downs zero t = (t ∷ []) ∷ []
  downs (suc e) t = each (λ s. ahead t (downs e s)) (members 64 (nearer e t))

  downs_many : (e t : ℕ) → length (downs e t) ≡ ways G us e t
  unfolding downs ways
  downs_many zero t = refl
  downs_many (suc e) t =
      omega (arith, length_each (λ s. ahead t (downs e s)) (λ s. ways G us e s) (λ s. length-map (downs e s) (λ P. t ∷ P) ∙ downs_many e s) (members 64 (nearer e t)) 0)

  downs_start : (e t : ℕ) {P : List ℕ} → P ∈ downs e t → Starts t P
  unfolding downs
  downs_start zero t (later h) = elim h [ ]
  downs_start zero t first = starts
  downs_start (suc e) t m =
      let w = from_each (λ s. ahead t (downs e s)) (members 64 (nearer e t)) m in
      go w.a (ahead_are t (downs e w.a) w.here)
    where
      go : {Q : List ℕ} (s : ℕ) → Longer t (downs e s) Q → Starts t Q
      go s (longer i) = starts

  ahead_apart : (e t a b : ℕ) {P Q : List ℕ} → a < b → Longer t (downs e a) P → Longer t (downs e b) Q → P ≡ Q → ⊥
  ahead_apart e t a b h (longer {P} m) (longer {P = Q} n) same =
      let tails : P ≡ Q = cc in
      starts_apart h (downs_start e a m) (downs_start e b n) tails

  downs_once : (e t : ℕ) → Once (downs e t)
  unfolding downs
  downs_once zero t = Once.more {x = t ∷ []} {xs = []} (elim [ ]) Once.none
  downs_once (suc e) t =
      once_each (λ s. ahead t (downs e s)) (λ a b P h m n. ahead_apart e t a b h (ahead_are t (downs e a) m) (ahead_are t (downs e b) n) refl)
      (λ s. ahead_once t (downs_once e s)) (members_climb 64 (nearer e t))

module _ (c : Compound) (rank pre : ℕ → ℕ) (ready : Ready c rank pre) where
  abbrev G : Net
  G = net_of c

  module _ (us : List ℕ) (h r : ℕ) (small : r < c.n) (layered : Layered c pre r h us) where
    down_here : {t : ℕ} {P Q : List ℕ} → Down c rank r t 0 Q → P ∈ ((t ∷ []) ∷ []) → Down c rank r t 0 P
    down_here Down.top (later h) = elim h [ ]
    down_here Down.top first = Down.top

    down_next : {t e s : ℕ} {P Q : List ℕ} {Ps : List (List ℕ)} → Down c rank r t (suc e) Q → Bonded c t s → ((R : List ℕ) → R ∈ Ps → Down c rank r s e R)
        → Longer t Ps P → Down c rank r t (suc e) P
    down_next (Down.step less far bond rest) near down (longer {P} m) = Down.step less far near (down P m)

    downs_down : (e t : ℕ) → e ≤ h → DownFrom c rank r t e → (P : List ℕ) → P ∈ downs G us e t → Down c rank r t e P
    unfolding downs
    downs_down zero t le w P m = down_here w.1 m
    downs_down (suc e) t le w P m =
        let g = from_each (λ s. ahead t (downs G us e s)) (members 64 (nearer G us e t)) m in
        let s = g.a in
        let near = (mask_has c rank pre (held ready) us r h small layered t s e (down_small c rank pre ready w.1 (omega arith)) (omega arith)).0 (bit_of_mem 64 (nearer G us e t) s g.mem) in
        down_next w.1 near.0 (downs_down e s (omega arith) near.1) (ahead_are t (downs G us e s) g.here)

    down_downs : (e : ℕ) {t : ℕ} {P : List ℕ} → e ≤ h → Down c rank r t e P → P ∈ downs G us e t
    unfolding downs
    down_downs zero le Down.top = first
    down_downs (suc e) le (Down.step {t} {next} less far bond rest) =
        let near = (mask_has c rank pre (held ready) us r h small layered t next e (bonded_small c rank pre ready bond) (omega arith)).1 (bond, (_, rest)) in
        let named : next < c.n = bonded_small c rank pre ready (bonded_sym c rank pre (held ready) bond) in
        ∈_each (λ s. ahead t (downs G us e s)) (mem_of_bit 64 (nearer G us e t) next (omega (arith, ready.atoms)) near)
        (ahead_have t (down_downs e (omega arith) rest))

    -- Those are all paths, each once.
    pub all_down : (e t : ℕ) → e ≤ h → DownFrom c rank r t e → AllDown c ready.sound rank ready.injective r t e (ways G us e t)
    all_down e t le w = record {
      paths = downs G us e t;
      once = downs_once G us e t;
      all = λ P. (downs_down e t le w P, down_downs e le);
      many = downs_many G us e t;
    }

  -- Paths lead down from p and from q.
  pub ends : {f : Family} {d : ℕ} {between : List ℕ} → Candidate c rank f d between → DownFrom c rank f.r f.p d × DownFrom c rank f.r f.q d
  ends (Candidate.odd less bond under_p under_q long) = (under_p.1, under_q.1)
  ends (Candidate.even less bond_p bond_q under_x under_p under_q long) = (under_p.1, under_q.1)

  -- The size of a kept family is the product of the numbers of ways from p and from q.
  pub ways_size : (us : List ℕ) (h d : ℕ) (f : Family) (between : List ℕ) → f.r < c.n → Layered c pre f.r h us → d ≤ h → Candidate c rank f d between
      → Kept c rank f → Size c rank f (ways (net_of c) us d f.p * ways (net_of c) us d f.q)
  ways_size us h d f between small layered le candidate kept =
      let w = ends candidate in
      size_is_product c ready.sound rank ready.injective kept candidate (all_down us h f.r small layered d f.p le w.0)
      (all_down us h f.r small layered d f.q le w.1)
