-- Ways that fall from one atom to another, ever nearer to r, and the number of down paths through an atom or along a bond.
use mathlib.Core.Path.{◌≡◌, refl, sym, ap, ◌∙◌, subst}
use mathlib.Core.Bool.{Bool, cond}
use mathlib.Core.List.{List, [], ◌∷◌}
use mathlib.Core.Logic.{◌↔◌}
use Prim.Native.Nat.{ℕ, suc, ◌+◌, ◌*◌, ◌<◌, ◌≤◌}
use native.Mathlib.Decide.{ℕ_discrete}
use native.Mathlib.Nat.{one-mul}
use native.Mathlib.Omega.{arith}
use borrow.Author.Tests.{eq-eqb, ne_eqb}
use lib.Dec.{eqb}
use lib.ListN.{length}
use Rattle.spans.specs.Elements.{◌∈◌, Once, later}
use Rattle.spans.specs.Graded.{total}
use Rattle.cycles.specs.Compound.{Compound, Joins, Bonded, Distance}
use Rattle.cycles.specs.Family.{Precedes, Down}
use Rattle.cycles.specs.Through.{Exactly}
use Rattle.cycles.proofs.PathsDecide.{joins_sym}
use Rattle.cycles.proofs.PathsDown.{distance_unique, down_far, down_first}
use Rattle.cycles.proofs.MembersBonds.{Uses, uses_left, down_same, down_uses}
use Rattle.cycles.proofs.Exact.{exactly_as, exactly_at, exactly_none, exactly_one, Among, exactly_each, Paired, exactly_pairs}

-- The atoms of a way, the last of them first, put back before a path.
unfoldable pub onto : List ℕ → List ℕ → List ℕ
onto [] path = path
onto (t ∷ way) path = onto way (t ∷ path)

tails_same : {a b : ℕ} {xs ys : List ℕ} → a ∷ xs ≡ b ∷ ys → (a ≡ b) × (xs ≡ ys)
tails_same {a} {b} {xs} {ys} e = let heads : a ≡ b = cc in let tails : xs ≡ ys = cc in (heads, tails)

-- Ways of one length put before paths are told by the whole.
onto_injective : (U W D E : List ℕ) → length U ≡ length W → onto U D ≡ onto W E → (U ≡ W) × (D ≡ E)
unfolding onto
onto_injective [] [] D E l e = (refl, e)
onto_injective [] (b ∷ W) D E l e = absurd (omega arith)
onto_injective (a ∷ U) [] D E l e = absurd (omega arith)
onto_injective (a ∷ U) (b ∷ W) D E l e =
    let rest = onto_injective U W (a ∷ D) (b ∷ E) (omega arith) e in
    let both = tails_same rest.1 in
    let heads : a ≡ b = both.0 in
    let tails : U ≡ W = rest.0 in
    let same : ◌≡◌ {A = List ℕ} (a ∷ U) (b ∷ W) = cc in
    (same, both.1)

in_onto : {a : ℕ} (U : List ℕ) {D : List ℕ} → a ∈ D → a ∈ onto U D
unfolding onto
in_onto [] h = h
in_onto (t ∷ U) h = in_onto U (◌∈◌.later h)

uses_onto : (c : Compound) {k : ℕ} (U : List ℕ) {D : List ℕ} → Uses c k D → Uses c k (onto U D)
unfolding onto
uses_onto c [] u = u
uses_onto c (t ∷ U) u = uses_onto c U (Uses.later u)

-- A way and what is made of a rest, put together: the way has d - e atoms.
module _ (g : List ℕ → List ℕ) (injective : (D E : List ℕ) → g D ≡ g E → D ≡ E) (e d : ℕ) where
  record Joint (U D P : List ℕ) : Type 0 where
    long : length U + e ≡ d
    is : onto U (g D) ≡ P

  joints : {A B : List ℕ → Type 0} {j k : ℕ} → ((U : List ℕ) → A U → length U + e ≡ d) → Exactly j A → Exactly k B → Exactly (j * k) (Paired Joint A B)
  joints long =
      exactly_pairs Joint (λ U D P P' s t. sym s.is ∙ t.is) (λ U U' D D' P s t. apart U U' D D' s t)
      (λ U D h b. (onto U (g D), record { long = long U h; is = refl }))
    where
      apart : (U W D E : List ℕ) {P : List ℕ} → Joint U D P → Joint W E P → (U ≡ W) × (D ≡ E)
      apart U W D E s t =
          let both = onto_injective U W (g D) (g E) (omega (arith, s.long, t.long)) (s.is ∙ sym t.is) in
          (both.0, injective D E both.1)

module _ (c : Compound) (rank : ℕ → ℕ) where
  -- A way from p, at distance d from r, to t, at distance e: each step leads nearer to r, and all its atoms before t precede r.
  -- The list has the atoms before t, the last of them first.
  pub data Fall (r p d : ℕ) : ℕ → ℕ → List ℕ → Type 0 where
    start : Fall r p d p d []
    step : {t next e : ℕ} {way : List ℕ} → Precedes c rank t r → Distance c t r (suc e) → Bonded c t next → Fall r p d t (suc e) way
        → Fall r p d next e (t ∷ way)

  -- A down path that has T.
  pub record DownWith (T : List ℕ → Type 0) (r t d : ℕ) (P : List ℕ) : Type 0 where
    pub down : Down c rank r t d P
    pub has : T P

  fall_long : {r p d t e : ℕ} {U : List ℕ} → Fall r p d t e U → length U + e ≡ d
  fall_long Fall.start = omega arith
  fall_long (Fall.step before far bond fall) = omega (arith, fall_long fall)

  -- ---- how many ways there are: at the start, and one step on

  fall_start : {r p d t e : ℕ} {U : List ℕ} → Fall r p d t e U → e ≡ d → (p ≡ t) × ([] ≡ U)
  fall_start Fall.start same = (refl, refl)
  fall_start (Fall.step before far bond fall) same = absurd (omega (arith, fall_long fall))

  -- At the distance of p there is one way, to p itself.
  pub falls_start : (r p d t : ℕ) → Exactly (cond (eqb p t) 1 0) (Fall r p d t d)
  falls_start r p d t = go (ℕ_discrete p t)
    where
      go : Dec (p ≡ t) → Exactly (cond (eqb p t) 1 0) (Fall r p d t d)
      go (yes e) =
          exactly_at (sym (ap (λ (b : Bool). cond b 1 0) (eq-eqb p t e)))
          (exactly_as (exactly_one []) (λ U. (
            λ h. subst (λ (W : List ℕ). Fall r p d t d W) h (subst (λ (x : ℕ). Fall r p d x d []) e Fall.start),
            λ fall. (fall_start fall refl).1,
          )))
      go (no other) = exactly_at (sym (ap (λ (b : Bool). cond b 1 0) (ne_eqb p t other))) (exactly_none (λ U fall. other (fall_start fall refl).0))

  -- s is bonded to t, one step farther from r, and precedes r.
  pub record Above (r t e s : ℕ) : Type 0 where
    pub before : Precedes c rank s r
    pub far : Distance c s r (suc e)
    pub bond : Bonded c s t

  -- The last step of a way.
  record Last (r p d t e : ℕ) (U : List ℕ) : Type 0 where
    from : ℕ
    way : List ℕ
    above : Above r t e from
    fall : Fall r p d from (suc e) way
    is : from ∷ way ≡ U

  fall_last : {r p d t e : ℕ} {U : List ℕ} → Fall r p d t e U → e < d → Last r p d t e U
  fall_last Fall.start less = absurd (omega arith)
  fall_last (Fall.step before far bond fall) less =
      record { from = _; way = _; above = record { before = before; far = far; bond = bond }; fall = fall; is = refl }

  abbrev Longer : ℕ → List ℕ → List ℕ → Type 0
  Longer s way U = s ∷ way ≡ U

  -- Nearer to r the ways to t are those to the atoms above t, one step longer.
  pub falls_step : {r p d t e : ℕ} (F : ℕ → ℕ) {ss : List ℕ} → e < d → Once ss → ((s : ℕ) → (s ∈ ss) ↔ Above r t e s)
      → ((s : ℕ) → s ∈ ss → Exactly (F s) (Fall r p d s (suc e))) → Exactly (total F ss) (Fall r p d t e)
  falls_step {r} {p} {d} {t} {e} F {ss} less once above counts =
      exactly_as (exactly_each F Via apart once (λ s h. exactly_at (one-mul (F s)) (via s (counts s h)))) (λ U. (to U, back U))
    where
      Via : ℕ → List ℕ → Type 0
      Via s = Paired Longer (λ a. s ≡ a) (Fall r p d s (suc e))

      via : {n : ℕ} (s : ℕ) → Exactly n (Fall r p d s (suc e)) → Exactly (1 * n) (Via s)
      via s =
          exactly_pairs Longer (λ a W U U' h g. sym h ∙ g) (λ a b W W' U h g. tails_same (h ∙ sym g)) (λ a W h fall. (a ∷ W, refl)) (exactly_one s)

      apart : (a b : ℕ) (U : List ℕ) → Via a U → Via b U → a ≡ b
      apart a b U v w = v.left ∙ (tails_same (v.makes ∙ sym w.makes)).0 ∙ sym w.left

      to : (U : List ℕ) → Among ss Via U → Fall r p d t e U
      to U w =
          let s = w.by in
          let a = (above s).0 w.listed in
          let fall : Fall r p d t e (s ∷ w.has.other) = Fall.step a.before a.far a.bond w.has.right in
          subst (Fall r p d t e) (ap (λ (x : ℕ). x ∷ w.has.other) w.has.left ∙ w.has.makes) fall

      back : (U : List ℕ) → Fall r p d t e U → Among ss Via U
      back U fall =
          let l = fall_last fall less in
          record {
            by = l.from;
            listed = (above l.from).1 l.above;
            has = record { one = l.from; other = l.way; left = refl; right = l.fall; makes = l.is };
          }

  -- ---- ways and down paths

  -- A way down to t goes on with a down path from t.
  fall_down : {r p d t e : ℕ} {U D : List ℕ} → Fall r p d t e U → Down c rank r t e D → Down c rank r p d (onto U D)
  unfolding onto
  fall_down Fall.start down = down
  fall_down (Fall.step before far bond fall) down = fall_down fall (Down.step before far bond down)

  -- A path cut at t.
  record Parts (r p d t e : ℕ) (P : List ℕ) : Type 0 where
    way : List ℕ
    rest : List ℕ
    fall : Fall r p d t e way
    down : Down c rank r t e rest
    whole : onto way rest ≡ P

  parts_here : {r p d t e i : ℕ} {U A : List ℕ} → i ≡ e → Fall r p d t i U → Down c rank r t i A → Parts r p d t e (onto U A)
  parts_here {r} {p} {d} {t} {U} {A} same fall down = record {
    way = U;
    rest = A;
    fall = subst (λ (n : ℕ). Fall r p d t n U) same fall;
    down = subst (λ (n : ℕ). Down c rank r t n A) same down;
    whole = refl;
  }

  parts_from : {r p d a t e i : ℕ} {U A : List ℕ} → Fall r p d a i U → Down c rank r a i A → t ∈ A → Distance c t r e → Parts r p d t e (onto U A)
  unfolding onto
  parts_from fall Down.top (later h) far = elim h [ ]
  parts_from fall Down.top ◌∈◌.first far = parts_here (distance_unique c (down_far c rank Down.top) far) fall Down.top
  parts_from fall (Down.step before far' bond down) ◌∈◌.first far =
      parts_here (distance_unique c far' far) fall (Down.step before far' bond down)
  parts_from fall (Down.step before far' bond down) (◌∈◌.later h) far = parts_from (Fall.step before far' bond fall) down h far

  -- A path through t is a way down to t and a down path from t.
  parts : {r p d t e : ℕ} {P : List ℕ} → Down c rank r p d P → t ∈ P → Distance c t r e → Parts r p d t e P
  unfolding onto
  parts down h far = parts_from Fall.start down h far

  -- As many down paths lead through t as there are ways down to t and paths down from t.
  pub paths_through_atom : {r p d t e u w : ℕ} → Distance c t r e → Exactly u (Fall r p d t e) → Exactly w (Down c rank r t e)
      → Exactly (u * w) (DownWith (λ P. t ∈ P) r p d)
  paths_through_atom {r} {p} {d} {t} {e} far ups downs =
      exactly_as (joints (λ D. D) (λ D E same. same) e d (λ U fall. fall_long fall) ups downs) (λ P. (to P, back P))
    where
      to : (P : List ℕ) → Paired (Joint (λ D. D) (λ D E same. same) e d) (Fall r p d t e) (Down c rank r t e) P → DownWith (λ P. t ∈ P) r p d P
      to P w = record {
        down = subst (Down c rank r p d) w.makes.is (fall_down w.left w.right);
        has = subst (λ (A : List ℕ). t ∈ A) w.makes.is (in_onto w.one (down_first c rank w.right));
      }

      back : (P : List ℕ) → DownWith (λ P. t ∈ P) r p d P → Paired (Joint (λ D. D) (λ D E same. same) e d) (Fall r p d t e) (Down c rank r t e) P
      back P w =
          let cut = parts w.down w.has far in
          record { one = cut.way; other = cut.rest; left = cut.fall; right = cut.down; makes = record { long = fall_long cut.fall; is = cut.whole } }

  -- A path cut behind t, where s follows.
  record Bridged (r p d t s e : ℕ) (P : List ℕ) : Type 0 where
    way : List ℕ
    rest : List ℕ
    fall : Fall r p d t (suc e) way
    down : Down c rank r s e rest
    whole : onto way (t ∷ rest) ≡ P

  bridged : {r p d t s e : ℕ} {P U A : List ℕ} → Down c rank r p d P → s ∈ P → Distance c s r e → Fall r p d t (suc e) U → Down c rank r t (suc e) A
      → onto U A ≡ P → Bridged r p d t s e P
  bridged {r} {s} {e} {P} {U} path h far fall (Down.step {t} {next} {path = A} before far' bond down) whole =
      let here : next ∈ P = subst (λ (B : List ℕ). next ∈ B) whole (in_onto U {D = t ∷ A} (◌∈◌.later (down_first c rank down))) in
      let same : next ≡ s = down_same c rank path here h (down_far c rank down) far in
      record { way = U; rest = A; fall = fall; down = subst (λ (x : ℕ). Down c rank r x e A) same down; whole = whole }

  -- As many down paths lead along the bond from t to s as there are ways down to t and paths down from s.
  pub paths_along_bond : {r p d k t s e u w : ℕ} → Joins c k t s → Precedes c rank t r → Distance c t r (suc e) → Distance c s r e
      → Exactly u (Fall r p d t (suc e)) → Exactly w (Down c rank r s e) → Exactly (u * w) (DownWith (Uses c k) r p d)
  paths_along_bond {r} {p} {d} {k} {t} {s} {e} joins before far far' ups downs =
      exactly_as (joints (λ D. t ∷ D) (λ D E same. (tails_same same).1) (suc e) d (λ U fall. fall_long fall) ups downs) (λ P. (to P, back P))
    where
      to : (P : List ℕ) → Paired (Joint (λ D. t ∷ D) (λ D E same. (tails_same same).1) (suc e) d) (Fall r p d t (suc e)) (Down c rank r s e) P
          → DownWith (Uses c k) r p d P
      to P w = record {
        down = subst (Down c rank r p d) w.makes.is (fall_down w.left (Down.step before far (k, joins) w.right));
        has = subst (Uses c k) w.makes.is (uses_onto c w.one (down_uses c rank w.right joins));
      }

      back : (P : List ℕ) → DownWith (Uses c k) r p d P
          → Paired (Joint (λ D. t ∷ D) (λ D E same. (tails_same same).1) (suc e) d) (Fall r p d t (suc e)) (Down c rank r s e) P
      back P w =
          let cut = parts w.down (uses_left c w.has joins) far in
          let b = bridged w.down (uses_left c w.has (joins_sym c joins)) far' cut.fall cut.down cut.whole in
          record { one = b.way; other = b.rest; left = b.fall; right = b.down; makes = record { long = fall_long b.fall; is = b.whole } }

  -- A bond that a down path uses leads from an atom under r to one that is nearer.
  pub record Stepped (r d k : ℕ) : Type 0 where
    pub t : ℕ
    pub s : ℕ
    pub e : ℕ
    pub joins : Joins c k t s
    pub less : e < d
    pub above : (P : List ℕ) × Down c rank r t (suc e) P
    pub below : (P : List ℕ) × Down c rank r s e P

  uses_none : {k : ℕ} → Uses c k [] → ⊥
  uses_none = elim [ ]

  pub stepped : {r t d k : ℕ} {P : List ℕ} → Down c rank r t d P → Uses c k P → Stepped r d k
  stepped Down.top (Uses.later u) = absurd (uses_none u)
  stepped (Down.step {d} before far bond Down.top) (Uses.here joins) =
      record { t = _; s = _; e = d; joins = joins; less = omega arith; above = (_, Down.step before far bond Down.top); below = (_, Down.top) }
  stepped (Down.step {d} before far bond (Down.step before' far' bond' down)) (Uses.here joins) =
      let rest = Down.step before' far' bond' down in
      record { t = _; s = _; e = d; joins = joins; less = omega arith; above = (_, Down.step before far bond rest); below = (_, rest) }
  stepped (Down.step before far bond down) (Uses.later u) =
      let w = stepped down u in
      record { t = w.t; s = w.s; e = w.e; joins = w.joins; less = omega (arith, w.less); above = w.above; below = w.below }

  -- An atom of a down path has a down path itself.
  pub record Passed (r d a : ℕ) : Type 0 where
    pub e : ℕ
    pub near : e ≤ d
    pub down : (P : List ℕ) × Down c rank r a e P

  pub passed : {r t d a : ℕ} {P : List ℕ} → Down c rank r t d P → a ∈ P → Passed r d a
  passed Down.top (later h) = elim h [ ]
  passed Down.top ◌∈◌.first = record { e = 0; near = omega arith; down = (_, Down.top) }
  passed (Down.step {d} before far bond down) ◌∈◌.first = record { e = suc d; near = omega arith; down = (_, Down.step before far bond down) }
  passed (Down.step before far bond down) (◌∈◌.later h) =
      let w = passed down h in
      record { e = w.e; near = omega (arith, w.near); down = w.down }
