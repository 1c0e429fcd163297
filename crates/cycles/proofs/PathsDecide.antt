-- Bounded search, and what it decides: bonds, walks, distances and down paths.
use mathlib.Core.Path.{◌≡◌, refl, sym, subst}
use mathlib.Core.List.{List, [], ◌∷◌}
use mathlib.Core.Logic.{◌⊎◌, inl, inr}
use Prim.Native.Nat.{ℕ, zero, suc, ◌<◌, ◌≤◌}
use native.Mathlib.Omega.{arith}
use native.Mathlib.Decide.{map_dec, ℕ_discrete, dec_lt}
use Rattle.bondset.proofs.Laws.{lt_or_ge}
use Rattle.spans.specs.Elements.{◌∈◌}
use Rattle.cycles.specs.Compound.{Compound, m, one, other, Joins, Bonded, Walk, Distance, Sound}
use Rattle.cycles.specs.Family.{Precedes, Down}

-- Both hold, or not.
pub both_dec : {A B : Type 0} → Dec A → Dec B → Dec (A × B)
both_dec (yes a) (yes b) = yes (a, b)
both_dec (yes a) (no n) = no (λ p. n p.1)
both_dec (no n) d = no (λ p. n p.0)

either_dec : {A B : Type 0} → Dec A → Dec B → Dec (A ⊎ B)
either_dec (yes a) d = yes (inl a)
either_dec (no n) (yes b) = yes (inr b)
either_dec (no n) (no k) = no (elim [ inl a ↦ n a | inr b ↦ k b ])

-- Nothing is in the empty list.
pub not_in_none : {X : Type 0} {a : X} → a ∈ [] → ⊥
not_in_none = elim [ ]

-- An element is the first one or is among the others.
pub in_cases : {X : Type 0} {a b : X} {Q : List X} → a ∈ (b ∷ Q) → (b ≡ a) ⊎ (a ∈ Q)
in_cases ◌∈◌.first = inl refl
in_cases (◌∈◌.later h) = inr h

pub in_dec : (a : ℕ) (Q : List ℕ) → Dec (a ∈ Q)
in_dec a [] = no not_in_none
in_dec a (b ∷ Q) =
    map_dec (elim [ inl e ↦ subst (λ (x : ℕ). a ∈ (x ∷ Q)) (sym e) ◌∈◌.first | inr h ↦ ◌∈◌.later h ]) in_cases
    (either_dec (ℕ_discrete b a) (in_dec a Q))

-- Two lists have r alone in common, or another number too.
pub apart_or_shared : (r : ℕ) (P Q : List ℕ) → ((a : ℕ) → a ∈ P → a ∈ Q → a ≡ r) ⊎ ((a : ℕ) × (a ∈ P) × (a ∈ Q) × (a ≡ r → ⊥))
apart_or_shared r [] Q = inl (λ a h. absurd (not_in_none h))
apart_or_shared r (b ∷ P) Q = go (apart_or_shared r P Q) (in_dec b Q) (ℕ_discrete b r)
  where
    more : (b ∈ Q → b ≡ r) → ((a : ℕ) → a ∈ P → a ∈ Q → a ≡ r) → (a : ℕ) → a ∈ (b ∷ P) → a ∈ Q → a ≡ r
    more here rest a ◌∈◌.first q = here q
    more here rest a (◌∈◌.later h) q = rest a h q

    go : ((a : ℕ) → a ∈ P → a ∈ Q → a ≡ r) ⊎ ((a : ℕ) × (a ∈ P) × (a ∈ Q) × (a ≡ r → ⊥)) → Dec (b ∈ Q) → Dec (b ≡ r)
        → ((a : ℕ) → a ∈ (b ∷ P) → a ∈ Q → a ≡ r) ⊎ ((a : ℕ) × (a ∈ (b ∷ P)) × (a ∈ Q) × (a ≡ r → ⊥))
    go (inr s) d e = inr (s.0, ◌∈◌.later s.1, s.2, s.3)
    go (inl rest) (no n) e = inl (more (λ q. absurd (n q)) rest)
    go (inl rest) (yes q) (yes e) = inl (more (λ h. e) rest)
    go (inl rest) (yes q) (no n) = inr (b, ◌∈◌.first, q, n)

-- The least number that has P; it is below n.
pub record Least (P : ℕ → Type 0) (n : ℕ) : Type 0 where
  pub at : ℕ
  pub below : at < n
  pub holds : P at
  pub least : (i : ℕ) → P i → at ≤ i

module _ (P : ℕ → Type 0) (dec : (i : ℕ) → Dec (P i)) where
  -- The least number below n that has P, or there is none.
  pub least_below : (n : ℕ) → Least P n ⊎ ((i : ℕ) → i < n → P i → ⊥)
  least_below zero = inr (λ i h p. omega arith)
  least_below (suc n) = go (least_below n) (dec n)
    where
      at_least : ((i : ℕ) → i < n → P i → ⊥) → (i : ℕ) → P i → n ≤ i
      at_least none i p = elim (lt_or_ge i n) [ inl h ↦ absurd (none i h p) | inr h ↦ h ]

      go : Least P n ⊎ ((i : ℕ) → i < n → P i → ⊥) → Dec (P n) → Least P (suc n) ⊎ ((i : ℕ) → i < suc n → P i → ⊥)
      go (inl l) d = inl (record { at = l.at; below = omega arith; holds = l.holds; least = l.least })
      go (inr none) (yes p) = inl (record { at = n; below = omega arith; holds = p; least = at_least none })
      go (inr none) (no k) = inr (λ i h p. let e : i ≡ n = omega (arith, at_least none i p) in k (subst P e p))

  -- Whether a number has P is decided, where those that have it are below n.
  pub some_dec : (n : ℕ) → ((i : ℕ) → P i → i < n) → Dec ((i : ℕ) × P i)
  some_dec n bound = elim (least_below n) [ inl l ↦ yes (l.at, l.holds) | inr none ↦ no (λ p. none p.0 (bound p.0 p.1) p.1) ]

  none_dec : (n : ℕ) → Dec ((i : ℕ) → i < n → P i → ⊥)
  none_dec n = elim (least_below n) [ inl l ↦ no (λ f. f l.at l.below l.holds) | inr none ↦ yes none ]

module _ (c : Compound) where
  pub joins_sym : {k a b : ℕ} → Joins c k a b → Joins c k b a
  joins_sym (Joins.given h e f) = Joins.turned h f e
  joins_sym (Joins.turned h e f) = Joins.given h f e

  abbrev Ends : ℕ → ℕ → ℕ → Type 0
  Ends k a b = (k < m c) × (((one c k ≡ a) × (other c k ≡ b)) ⊎ ((other c k ≡ a) × (one c k ≡ b)))

  joins_dec : (k a b : ℕ) → Dec (Joins c k a b)
  joins_dec k a b =
      map_dec from to (both_dec (dec_lt k (m c)) (either_dec (both_dec (ℕ_discrete (one c k) a) (ℕ_discrete (other c k) b))
      (both_dec (ℕ_discrete (other c k) a) (ℕ_discrete (one c k) b))))
    where
      from : Ends k a b → Joins c k a b
      from (h, inl e) = Joins.given h e.0 e.1
      from (h, inr e) = Joins.turned h e.0 e.1

      to : Joins c k a b → Ends k a b
      to (Joins.given h e f) = (h, inl (e, f))
      to (Joins.turned h e f) = (h, inr (e, f))

  -- What joins atoms is a bond of the compound.
  pub joins_below : {k a b : ℕ} → Joins c k a b → k < m c
  joins_below (Joins.given h e f) = h
  joins_below (Joins.turned h e f) = h

  bonded_dec : (a b : ℕ) → Dec (Bonded c a b)
  bonded_dec a b = some_dec (λ k. Joins c k a b) (λ k. joins_dec k a b) (m c) (λ k j. joins_below j)

  module _ (sound : Sound c) where
    next_named : {a b : ℕ} → Bonded c a b → b < c.n
    next_named (k, j) = sound.named k _ _ (joins_sym j)

    walk_dec : (b a steps : ℕ) → Dec (Walk c b a steps)
    walk_dec b a zero = map_dec (λ e. subst (λ (x : ℕ). Walk c b x zero) e Walk.here) out (ℕ_discrete b a)
      where
        out : {a : ℕ} → Walk c b a zero → b ≡ a
        out Walk.here = refl
    walk_dec b a (suc steps) =
        map_dec (λ s. Walk.step s.1.0 s.1.1) out
        (some_dec (λ next. Bonded c a next × Walk c b next steps) (λ next. both_dec (bonded_dec a next) (walk_dec b next steps)) c.n
        (λ next s. next_named s.0))
      where
        out : {a : ℕ} → Walk c b a (suc steps) → (next : ℕ) × (Bonded c a next × Walk c b next steps)
        out (Walk.step bond walk) = (_, (bond, walk))

    -- Whether two atoms are at distance d is decided.
    pub distance_dec : (a b d : ℕ) → Dec (Distance c a b d)
    distance_dec a b d =
        map_dec (λ p. record { walk = p.0; least = λ steps w. least p.1 steps w (lt_or_ge steps d) })
        (λ far. (far.walk, λ steps h w. omega (arith, far.least steps w)))
        (both_dec (walk_dec b a d) (none_dec (λ steps. Walk c b a steps) (λ steps. walk_dec b a steps) d))
      where
        least : ((i : ℕ) → i < d → Walk c b a i → ⊥) → (steps : ℕ) → Walk c b a steps → (steps < d) ⊎ (d ≤ steps) → d ≤ steps
        least none steps w (inl h) = absurd (none steps h w)
        least none steps w (inr h) = h

    module _ (rank : ℕ → ℕ) (r : ℕ) where
      pub down_dec : (d t : ℕ) → Dec ((path : List ℕ) × Down c rank r t d path)
      down_dec zero t = map_dec (λ e. subst (λ (x : ℕ). (path : List ℕ) × Down c rank r x zero path) e (_, Down.top)) out (ℕ_discrete r t)
        where
          out : {t : ℕ} → ((path : List ℕ) × Down c rank r t zero path) → r ≡ t
          out (_, Down.top) = refl
      down_dec (suc d) t =
          map_dec (λ p. (_, Down.step p.0 p.1.0 p.1.1.1.0 p.1.1.1.1.1)) out
          (both_dec (dec_lt (rank t) (rank r)) (both_dec (distance_dec t r (suc d))
          (some_dec (λ next. Bonded c t next × ((path : List ℕ) × Down c rank r next d path)) (λ next. both_dec (bonded_dec t next) (down_dec d next))
          c.n (λ next s. next_named s.0))))
        where
          out : {t : ℕ} → ((path : List ℕ) × Down c rank r t (suc d) path)
              → Precedes c rank t r × (Distance c t r (suc d) × ((next : ℕ) × (Bonded c t next × ((path : List ℕ) × Down c rank r next d path))))
          out (_, Down.step before far bond down) = (before, (far, (_, (bond, (_, down)))))

      -- The lowest-numbered neighbour of t from which a path goes down.
      pub lowest_next : {t next d : ℕ} {path : List ℕ} → Bonded c t next → Down c rank r next d path
          → Least (λ s. Bonded c t s × ((way : List ℕ) × Down c rank r s d way)) c.n
      lowest_next {t} {next} {d} bond down =
          elim (least_below _ (λ s. both_dec (bonded_dec t s) (down_dec d s)) c.n) [
            | inl l ↦ l
            | inr none ↦ absurd (none next (next_named bond) (bond, (_, down)))
          ]
