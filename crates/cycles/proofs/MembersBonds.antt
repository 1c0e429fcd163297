-- Which bonds a path uses, and that a ring says which way its two paths go down.
use mathlib.Core.Path.{◌≡◌, refl, sym, ap, ap₂, ◌∙◌, subst}
use mathlib.Core.Bool.{Bool, true, false}
use mathlib.Core.List.{List, [], ◌∷◌}
use mathlib.Core.Logic.{◌⊎◌, inl, inr, ⊎_elim}
use Prim.Native.Nat.{ℕ, ◌^◌, ◌<◌, ◌≤◌}
use native.Mathlib.Omega.{arith}
use lib.Bits.{bit_xor}
use Rattle.spans.specs.Elements.{◌∈◌, Once}
use Rattle.graphs.specs.Count.{xor, same}
use Rattle.graphs.proofs.Basics.{clash, not_true, same_eq, same_is, same_ne}
use Rattle.cycles.proofs.Number.{holds, holds_xor, holds_zero, holds_pow}
use Rattle.cycles.specs.Compound.{Compound, Joins, Sound, Distance}
use Rattle.cycles.specs.Ring.{Edges}
use Rattle.cycles.specs.Family.{Down}
use Rattle.cycles.proofs.PathsDecide.{joins_sym}
use Rattle.cycles.proofs.PathsDown.{in_one, distance_unique, down_far, down_first, down_near}

-- One of two that differ is true.
pub xor_either : (a b : Bool) → xor a b ≡ true → (a ≡ true) ⊎ (b ≡ true)
xor_either true b e = inl refl
xor_either false b e = inr e

module _ (c : Compound) where
  -- Bond k joins two consecutive atoms of the path.
  pub data Uses (k : ℕ) : List ℕ → Type 0 where
    here : {a b : ℕ} {path : List ℕ} → Joins c k a b → Uses k (a ∷ b ∷ path)
    later : {a : ℕ} {path : List ℕ} → Uses k path → Uses k (a ∷ path)

  pub joins_left : {k a b x y : ℕ} → Joins c k a b → Joins c k x y → (a ≡ x) ⊎ (a ≡ y)
  joins_left (Joins.given h e f) (Joins.given h' e' f') = inl (sym e ∙ e')
  joins_left (Joins.given h e f) (Joins.turned h' e' f') = inr (sym e ∙ f')
  joins_left (Joins.turned h e f) (Joins.given h' e' f') = inr (sym e ∙ f')
  joins_left (Joins.turned h e f) (Joins.turned h' e' f') = inl (sym e ∙ e')

  joins_at : {j k a b : ℕ} → j ≡ k → Joins c j a b → Joins c k a b
  joins_at {a} {b} e joins = subst (λ (i : ℕ). Joins c i a b) e joins

  -- The ends of a bond that a path uses are atoms of the path.
  pub uses_left : {k a b : ℕ} {w : List ℕ} → Uses k w → Joins c k a b → a ∈ w
  uses_left (Uses.here {a = x} {b = y} {path = path} j) i =
      ⊎_elim (λ e. subst (λ (z : ℕ). z ∈ (x ∷ y ∷ path)) (sym e) ◌∈◌.first) (λ e. subst (λ (z : ℕ). z ∈ (x ∷ y ∷ path)) (sym e) (◌∈◌.later ◌∈◌.first))
      (joins_left i j)
  uses_left (Uses.later u) i = ◌∈◌.later (uses_left u i)

  uses_joins : {k : ℕ} {w : List ℕ} → Uses k w → (a : ℕ) × (b : ℕ) × Joins c k a b
  uses_joins (Uses.here j) = (_, _, j)
  uses_joins (Uses.later u) = uses_joins u

  -- Paths that share at most one atom use no bond in common.
  pub uses_apart : {r k : ℕ} {v w : List ℕ} → Sound c → ((a : ℕ) → a ∈ v → a ∈ w → a ≡ r) → Uses k v → Uses k w → ⊥
  uses_apart {r} {k} sound apart s t =
      let (a, b, j) = uses_joins s in
      let one : a ≡ r = apart a (uses_left s j) (uses_left t j) in
      let two : b ≡ r = apart b (uses_left s (joins_sym c j)) (uses_left t (joins_sym c j)) in
      sound.no_loop k r (subst (λ (x : ℕ). Joins c k x r) one (subst (λ (x : ℕ). Joins c k a x) two j))

  holds_more : (j k S : ℕ) {T : ℕ} → T ≡ bit_xor (2 ^ j) S → holds T k ≡ xor (same j k) (holds S k)
  holds_more j k S e = ap (λ (x : ℕ). holds x k) e ∙ holds_xor (2 ^ j) S k ∙ ap (λ (b : Bool). xor b (holds S k)) (holds_pow j k)

  -- A bond in the sum of a path's bonds is used by the path.
  pub held_uses : {w : List ℕ} {S k : ℕ} → Edges c w S → holds S k ≡ true → Uses k w
  held_uses {k} Edges.point h = absurd (clash h (holds_zero k))
  held_uses {k} (Edges.more {k = j} {S = S} joins edges e) h =
      ⊎_elim (λ s. Uses.here (joins_at (same_eq j k s) joins)) (λ s. Uses.later (held_uses edges s))
      (xor_either (same j k) (holds S k) (sym (holds_more j k S e) ∙ h))

  module _ (sound : Sound c) where
    -- A bond that a path of different atoms uses is in the sum of its bonds.
    pub uses_held : {w : List ℕ} {S k : ℕ} → Edges c w S → Once w → Uses k w → holds S k ≡ true
    uses_held Edges.point once (Uses.later u) = absurd (uses_none u)
      where
        uses_none : {k : ℕ} → Uses k [] → ⊥
        uses_none = elim [ ]
    uses_held {k} (Edges.more {k = j} {S = S} joins edges e) (Once.more fresh once) (Uses.here i) =
        let off : holds S k ≡ false = not_true (holds S k) (λ h. fresh (uses_left (held_uses edges h) i)) in
        holds_more j k S e ∙ ap₂ xor (same_is j k (sound.once j k _ _ joins i)) off
    uses_held {k} (Edges.more {k = j} {S = S} joins edges e) (Once.more fresh once) (Uses.later u) =
        let off : same j k ≡ false = same_ne j k (λ s. fresh (uses_left u (joins_at s joins))) in
        holds_more j k S e ∙ ap₂ xor off (uses_held edges once u)

  module _ (rank : ℕ → ℕ) where
    -- A down path has one atom at each distance.
    pub down_same : {r t d a b e : ℕ} {P : List ℕ} → Down c rank r t d P → a ∈ P → b ∈ P → Distance c a r e → Distance c b r e → a ≡ b
    down_same Down.top h g s t = sym (in_one h) ∙ in_one g
    down_same (Down.step before far bond down) ◌∈◌.first ◌∈◌.first s t = refl
    down_same (Down.step before far bond down) ◌∈◌.first (◌∈◌.later g) s t =
        absurd (down_near c rank down t (omega (arith, distance_unique c s far)) g)
    down_same (Down.step before far bond down) (◌∈◌.later h) ◌∈◌.first s t =
        absurd (down_near c rank down s (omega (arith, distance_unique c t far)) h)
    down_same (Down.step before far bond down) (◌∈◌.later h) (◌∈◌.later g) s t = down_same down h g s t

    -- A bond to the first atom of a path is used by the longer path.
    pub down_uses : {r u t d k : ℕ} {P : List ℕ} → Down c rank r t d P → Joins c k u t → Uses k (u ∷ P)
    down_uses Down.top j = Uses.here j
    down_uses (Down.step before far bond down) j = Uses.here j

    -- C as made up of a path down from p, another path and a link, seen from p.
    pub record Side (r p d C : ℕ) (P Q link : List ℕ) : Type 0 where
      pub down : Down c rank r p d P
      pub apart : (a : ℕ) → a ∈ P → a ∈ Q → a ≡ r
      pub parts : (k : ℕ) → holds C k ≡ true → Uses k P ⊎ (Uses k Q ⊎ Uses k link)
      pub held : (k : ℕ) → Uses k P → holds C k ≡ true
      pub beyond : (a e : ℕ) → a ∈ link → Distance c a r e → d ≤ e

    module _ {r p d C : ℕ} {P P' Q Q' link link' : List ℕ} (s : Side r p d C P Q link) (t : Side r p d C P' Q' link') where
      next_same : {a b b' e k : ℕ} → rank a < rank r → Distance c b r e → Distance c b' r e → e < d → a ∈ P → b ∈ P
          → Joins c k a b' → Uses k P' → b ≡ b'
      next_same {k} before far far' less ha hb j u =
          ⊎_elim (λ v. down_same s.down hb (uses_left v (joins_sym c j)) far far')
          (⊎_elim (λ v. absurd (omega (arith, before, ap rank (s.apart _ ha (uses_left v j)))))
          (λ v. absurd (omega (arith, s.beyond _ _ (uses_left v (joins_sym c j)) far'))))
          (s.parts k (t.held k u))

      rest_same : {a a' e : ℕ} {A A' : List ℕ} → Down c rank r a e A → Down c rank r a' e A' → a ≡ a' → e ≤ d → ((x : ℕ) → x ∈ A → x ∈ P)
          → ((k : ℕ) → Uses k A' → Uses k P') → A ≡ A'
      rest_same Down.top Down.top e less inside used = refl
      rest_same (Down.step {t = a} {next = b} before far bond down) (Down.step {next = b'} before' far' (k, j) down') e less inside used =
          let j' : Joins c k a b' = subst (λ (x : ℕ). Joins c k x b') (sym e) j in
          let next : b ≡ b' =
          next_same before (down_far c rank down) (down_far c rank down') (omega arith) (inside a ◌∈◌.first)
          (inside b (◌∈◌.later (down_first c rank down))) j' (used k (down_uses down' j)) in
          ap₂ ◌∷◌ e (rest_same down down' next (omega arith) (λ x h. inside x (◌∈◌.later h)) (λ k u. used k (Uses.later u)))

      -- Such paths are the same.
      pub side_unique : P ≡ P'
      side_unique = rest_same s.down t.down refl (omega arith) (λ x h. h) (λ k u. u)
