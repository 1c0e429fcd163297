-- Pieces counted one after another, as a search finds them; whether two atoms are in one piece is decided.
use mathlib.Core.Path.{◌≡◌, refl, sym, ap, ◌∙◌, subst}
use mathlib.Core.List.{List, [], ◌∷◌}
use mathlib.Core.Logic.{◌⊎◌, inl, inr, ◌↔◌}
use Prim.Native.Nat.{ℕ, suc, ◌<◌}
use native.Mathlib.Decide.{map_dec, ℕ_discrete, dec_lt}
use lib.ListN.{length}
use Rattle.spans.specs.Elements.{◌∈◌, Once}
use Rattle.cycles.specs.Compound.{Compound, Walk, Sound}
use Rattle.cycles.specs.Pieces.{SamePiece, Pieces}
use Rattle.cycles.proofs.PathsDecide.{joins_sym, not_in_none, in_cases}
use Rattle.cycles.proofs.Dimension.{Rooted}
use Rattle.cycles.proofs.Pieces.{rooted_exists}
use Rattle.cycles.proofs.PiecesCount.{same_piece_refl, same_piece_sym, walk_root, root_same_piece}

module _ (c : Compound) where
  -- Some whole pieces have been found, k of them: which atoms they have, and a head of each.
  pub record Found (done : ℕ → Type 0) (k : ℕ) : Type 0 where
    pub heads : List ℕ
    pub once : Once heads
    pub atoms : (h : ℕ) → h ∈ heads → h < c.n
    pub apart : (g h : ℕ) → g ∈ heads → h ∈ heads → SamePiece c g h → g ≡ h
    pub each : (a : ℕ) → done a → (h : ℕ) × (h ∈ heads) × SamePiece c a h
    pub whole : (a h : ℕ) → h ∈ heads → SamePiece c a h → done a
    pub count : length heads ≡ k

  -- No atoms: no pieces.
  pub found_none : (done : ℕ → Type 0) → ((a : ℕ) → done a → ⊥) → Found done 0
  found_none done none =
      record {
        heads = [];
        once = Once.none;
        atoms = λ h i. absurd (not_in_none i);
        apart = λ g h i j p. absurd (not_in_none i);
        each = λ a d. absurd (none a d);
        whole = λ a h i p. absurd (not_in_none i);
        count = refl;
      }

  -- An atom that has not been found, and all that a walk joins with it: one piece more.
  pub found_more : (done done' : ℕ → Type 0) {k h : ℕ} → Found done k → h < c.n → (done h → ⊥) → ((a : ℕ) → done' a ↔ (done a ⊎ SamePiece c a h))
      → Found done' (suc k)
  found_more done done' {k} {h} f named new is =
      record {
        heads = h ∷ f.heads;
        once = Once.more (λ i. fresh i (same_piece_refl c h)) f.once;
        atoms = λ g i. atoms (in_cases i);
        apart = λ g g' i j p. apart p (in_cases i) (in_cases j);
        each = λ a d. each a ((is a).0 d);
        whole = λ a g i p. (is a).1 (whole p (in_cases i));
        count = ap suc f.count;
      }
    where
      fresh : {g : ℕ} → g ∈ f.heads → SamePiece c h g → ⊥
      fresh {g} i p = new (f.whole h g i p)

      atoms : {g : ℕ} → (h ≡ g) ⊎ (g ∈ f.heads) → g < c.n
      atoms (inl e) = subst (λ (x : ℕ). x < c.n) e named
      atoms {g} (inr i) = f.atoms g i

      apart : {g g' : ℕ} → SamePiece c g g' → (h ≡ g) ⊎ (g ∈ f.heads) → (h ≡ g') ⊎ (g' ∈ f.heads) → g ≡ g'
      apart p (inl e) (inl d) = sym e ∙ d
      apart {g' = g'} p (inl e) (inr j) = absurd (fresh j (subst (λ (x : ℕ). SamePiece c x g') (sym e) p))
      apart {g} p (inr i) (inl d) = absurd (fresh i (same_piece_sym c (subst (SamePiece c g) (sym d) p)))
      apart {g} {g'} p (inr i) (inr j) = f.apart g g' i j p

      each : (a : ℕ) → done a ⊎ SamePiece c a h → (g : ℕ) × (g ∈ (h ∷ f.heads)) × SamePiece c a g
      each a (inl d) = let (g, i, p) = f.each a d in (g, ◌∈◌.later i, p)
      each a (inr p) = (h, ◌∈◌.first, p)

      whole : {a g : ℕ} → SamePiece c a g → (h ≡ g) ⊎ (g ∈ f.heads) → done a ⊎ SamePiece c a h
      whole {a} p (inl e) = inr (subst (SamePiece c a) (sym e) p)
      whole {a} {g} p (inr i) = inl (f.whole a g i p)

  -- All atoms: all pieces.
  pub found_all : (done : ℕ → Type 0) {k : ℕ} → Found done k → ((a : ℕ) → a < c.n → done a) → Pieces c k
  found_all done f all =
      record { heads = f.heads; once = f.once; atoms = f.atoms; apart = f.apart; each = λ a h. f.each a (all a h); count = f.count }

  -- ---- deciding
  module _ (sound : Sound c) where
    -- A walk from an atom of the compound ends at one.
    pub walk_atom : {b a steps : ℕ} → Walk c b a steps → a < c.n → b < c.n
    walk_atom Walk.here h = h
    walk_atom (Walk.step (k, j) w) h = walk_atom w (sound.named k _ _ (joins_sym c j))

    -- No walk leaves a number that is no atom of the compound.
    walk_outside : {a b steps : ℕ} → Walk c b a steps → (a < c.n → ⊥) → a ≡ b
    walk_outside Walk.here n = refl
    walk_outside (Walk.step (k, j) w) n = absurd (n (sound.named k _ _ j))

    -- Whether two atoms are in one piece is decided.
    pub same_piece_dec : (a b : ℕ) → Dec (SamePiece c a b)
    same_piece_dec a b = let (root, r) = rooted_exists c sound in go root r (dec_lt a c.n) (dec_lt b c.n)
      where
        go : (root : ℕ → ℕ) → Rooted c root → Dec (a < c.n) → Dec (b < c.n) → Dec (SamePiece c a b)
        go root r (no n) d = map_dec (λ e. subst (SamePiece c a) e (same_piece_refl c a)) (λ p. walk_outside p.1 n) (ℕ_discrete a b)
        go root r (yes h) (no n) = no (λ p. n (walk_atom p.1 h))
        go root r (yes h) (yes l) = map_dec (λ e. root_same_piece c r h l e) (λ p. walk_root c r p.1) (ℕ_discrete (root a) (root b))
