-- The number of pieces: every simple compound has one and only one, and it says how many sets a basis of the closed sets has.
use mathlib.Core.Path.{◌≡◌, refl, sym, ap, ◌∙◌, subst}
use mathlib.Core.Bool.{Bool, cond}
use mathlib.Core.List.{List, [], ◌∷◌}
use mathlib.Core.Logic.{◌⊎◌, inl, inr, ◌↔◌, ◌≢◌}
use Prim.Native.Nat.{ℕ, zero, suc, ◌+◌, ◌<◌}
use native.Mathlib.Decide.{ℕ_discrete, dec_lt}
use native.Mathlib.Omega.{arith}
use borrow.Author.Tests.{eq-eqb, ne_eqb}
use lib.ListN.{length}
use Rattle.spans.specs.Elements.{◌∈◌, Once, later}
use Rattle.cycles.specs.Compound.{Compound, m, Bonded, Walk, Sound, OnePiece}
use Rattle.cycles.specs.Basis.{Basis}
use Rattle.cycles.specs.Pieces.{SamePiece, Pieces, cyclomatic_of}
use Rattle.cycles.proofs.Edges.{is}
use Rattle.cycles.proofs.PathsDecide.{joins_sym, joins_below, not_in_none, in_cases}
use Rattle.cycles.proofs.MembersLists.{same_elements_length}
use Rattle.cycles.proofs.Dimension.{Rooted, roots_to, pieces, dimension}
use Rattle.cycles.proofs.Pieces.{walk_between, rooted_exists, pieces_unique}

-- ---- being in one piece
module _ (c : Compound) where
  -- Each atom is in one piece with itself.
  pub same_piece_refl : (a : ℕ) → SamePiece c a a
  same_piece_refl a = (0, Walk.here)

  -- A walk back.
  pub same_piece_sym : {a b : ℕ} → SamePiece c a b → SamePiece c b a
  same_piece_sym p = walk_between c p.1 Walk.here

  -- A walk and a walk on.
  pub same_piece_trans : {a b d : ℕ} → SamePiece c a b → SamePiece c b d → SamePiece c a d
  same_piece_trans p q = walk_between c (same_piece_sym p).1 q.1

  -- Bonded atoms are in one piece.
  pub bonded_same_piece : {a b : ℕ} → Bonded c a b → SamePiece c a b
  bonded_same_piece j = (1, Walk.step j Walk.here)

  -- A walk does not leave the atoms with its root.
  pub walk_root : {root : ℕ → ℕ} → Rooted c root → {b a steps : ℕ} → Walk c b a steps → root a ≡ root b
  walk_root r Walk.here = refl
  walk_root r (Walk.step {a = a} {next = next} j w) = r.bonded a next j ∙ walk_root r w

  -- Atoms with one root are in one piece.
  pub root_same_piece : {root : ℕ → ℕ} → Rooted c root → {a b : ℕ} → a < c.n → b < c.n → root a ≡ root b → SamePiece c a b
  root_same_piece r {a} {b} h l e =
      same_piece_trans (subst (SamePiece c a) e (r.walk a h)) (same_piece_sym (r.walk b l))

-- ---- roots as a list
-- A root counts as one.
pub is_root : (root : ℕ → ℕ) (i : ℕ) → root i ≡ i → is (root i) i ≡ 1
is_root root i e = ap (λ (b : Bool). cond b 1 0) (eq-eqb (root i) i e)

-- No root: it does not count.
pub is_no_root : (root : ℕ → ℕ) (i : ℕ) → root i ≢ i → is (root i) i ≡ 0
is_no_root root i n = ap (λ (b : Bool). cond b 1 0) (ne_eqb (root i) i n)

-- The roots below i, each once.
record Roots (root : ℕ → ℕ) (i : ℕ) : Type 0 where
  list : List ℕ
  once : Once list
  are : (a : ℕ) → (a ∈ list) ↔ ((a < i) × (root a ≡ a))
  count : length list ≡ roots_to root i

roots_more : {root : ℕ → ℕ} {i : ℕ} → Roots root i → Dec (root i ≡ i) → Roots root (suc i)
unfolding roots_to
roots_more {root} {i} r (yes e) =
    record {
      list = i ∷ r.list;
      once = Once.more (λ h. let l = ((r.are i).0 h).0 in omega arith) r.once;
      are = λ a. (λ h. to (in_cases h), λ p. back a p.0 p.1 (ℕ_discrete a i));
      count = omega (arith, r.count, is_root root i e);
    }
  where
    to : {a : ℕ} → (i ≡ a) ⊎ (a ∈ r.list) → (a < suc i) × (root a ≡ a)
    to {a} (inl q) = (omega arith, subst (λ (x : ℕ). root x ≡ x) q e)
    to {a} (inr h) = let (l, q) = (r.are a).0 h in (omega arith, q)

    back : (a : ℕ) → a < suc i → root a ≡ a → Dec (a ≡ i) → a ∈ (i ∷ r.list)
    back a l q (yes d) = subst (λ (x : ℕ). x ∈ (i ∷ r.list)) (sym d) ◌∈◌.first
    back a l q (no n) = ◌∈◌.later ((r.are a).1 (omega arith, q))
roots_more {root} {i} r (no n) =
    record {
      list = r.list;
      once = r.once;
      are = λ a. (λ h. let (l, q) = (r.are a).0 h in (omega arith, q), λ p. back a p.0 p.1 (ℕ_discrete a i));
      count = omega (arith, r.count, is_no_root root i n);
    }
  where
    back : (a : ℕ) → a < suc i → root a ≡ a → Dec (a ≡ i) → a ∈ r.list
    back a l q (yes d) = absurd (n (subst (λ (x : ℕ). root x ≡ x) d q))
    back a l q (no d) = (r.are a).1 (omega arith, q)

roots_to_lem : (root : ℕ → ℕ) (i : ℕ) → Roots root i
unfolding roots_to
roots_to_lem root zero =
    record { list = []; once = Once.none; are = λ a. (λ h. absurd (not_in_none h), λ p. absurd (omega (arith, p.0))); count = refl }
roots_to_lem root (suc i) = roots_more (roots_to_lem root i) (ℕ_discrete (root i) i)

-- ---- pieces and roots
module _ (c : Compound) where
  -- There are as many pieces as roots.
  pub rooted_pieces : {root : ℕ → ℕ} → Rooted c root → Pieces c (pieces c root)
  rooted_pieces {root} r =
      let l = roots_to_lem root c.n in
      record {
        heads = l.list;
        once = l.once;
        atoms = λ h i. ((l.are h).0 i).0;
        apart = λ g h i j p. sym ((l.are g).0 i).1 ∙ walk_root c r p.1 ∙ ((l.are h).0 j).1;
        each = λ a h. (root a, (l.are (root a)).1 (r.inside a h, r.fixed a h), r.walk a h);
        count = l.count;
      }

  module _ (sound : Sound c) where
    -- Every compound has a number of pieces.
    pub pieces_exist : (k : ℕ) × Pieces c k
    pieces_exist = let (root, r) = rooted_exists c sound in (pieces c root, rooted_pieces r)

    module _ {k : ℕ} (p : Pieces c k) where
      head_by : (a : ℕ) → Dec (a < c.n) → ℕ
      head_by a (yes h) = (p.each a h).0
      head_by a (no n) = a

      -- The head of the piece of atom a.
      head : ℕ → ℕ
      head a = head_by a (dec_lt a c.n)

      head_is : (a : ℕ) → a < c.n → (head a ∈ p.heads) × SamePiece c a (head a)
      unfolding head head_by
      head_is a h = go (dec_lt a c.n)
        where
          go : (d : Dec (a < c.n)) → (head_by a d ∈ p.heads) × SamePiece c a (head_by a d)
          go (yes l) = ((p.each a l).1, (p.each a l).2)
          go (no n) = absurd (n h)

      head_of_head : (h : ℕ) → h ∈ p.heads → head h ≡ h
      head_of_head h i =
          let (j, w) = head_is h (p.atoms h i) in
          p.apart (head h) h j i (same_piece_sym c w)

      head_bonded : (a b : ℕ) → Bonded c a b → head a ≡ head b
      head_bonded a b (k, j) =
          let (i, w) = head_is a (sound.named k a b j) in
          let (i', w') = head_is b (sound.named k b a (joins_sym c j)) in
          p.apart (head a) (head b) i i' (same_piece_trans c (same_piece_sym c w) (same_piece_trans c (bonded_same_piece c (k, j)) w'))

      -- The heads are roots.
      heads_rooted : Rooted c head
      heads_rooted =
          record {
            inside = λ a h. p.atoms (head a) (head_is a h).0;
            fixed = λ a h. head_of_head (head a) (head_is a h).0;
            walk = λ a h. (head_is a h).1;
            bonded = head_bonded;
          }

      heads_count : pieces c head ≡ k
      heads_count =
          let l = roots_to_lem head c.n in
          sym l.count
          ∙ same_elements_length l.once p.once
          (λ a. (λ i. let (h, e) = (l.are a).0 i in subst (λ (x : ℕ). x ∈ p.heads) e (head_is a h).0, λ i. (l.are a).1 (p.atoms a i, head_of_head a i)))
          ∙ p.count

    -- As many roots as pieces.
    pub pieces_rooted : {k : ℕ} → Pieces c k → (root : ℕ → ℕ) × Rooted c root × (pieces c root ≡ k)
    pieces_rooted p = (head p, heads_rooted p, heads_count p)

    -- A compound has one number of pieces.
    pub pieces_number_unique : {k l : ℕ} → Pieces c k → Pieces c l → k ≡ l
    pieces_number_unique p q =
        let (root, r, e) = pieces_rooted p in
        let (root', s, d) = pieces_rooted q in
        sym e ∙ pieces_unique c sound root root' r s ∙ d

    -- ---- the dimension
    -- A basis of the closed sets has m - n and the number of pieces members.
    pub dimension_pieces : {k : ℕ} → Pieces c k → (B : List ℕ) → Basis c B → length B + c.n ≡ m c + k
    dimension_pieces p B b =
        let (root, r, e) = pieces_rooted p in
        dimension c sound root r B b ∙ ap (λ (x : ℕ). m c + x) e

    -- As many as the cyclomatic number says.
    pub dimension_pieces_number : {k : ℕ} → Pieces c k → (B : List ℕ) → Basis c B → length B ≡ cyclomatic_of c k
    dimension_pieces_number p B b = omega (arith, dimension_pieces p B b)

-- ---- one piece
short_list : {xs : List ℕ} {a b : ℕ} → length xs ≡ 1 → a ∈ xs → b ∈ xs → a ≡ b
short_list e ◌∈◌.first ◌∈◌.first = refl
short_list e ◌∈◌.first (◌∈◌.later (◌∈◌.first)) = absurd (omega arith)
short_list e ◌∈◌.first (◌∈◌.later (◌∈◌.later h)) = absurd (omega arith)
short_list e (◌∈◌.later (◌∈◌.first)) g = absurd (omega arith)
short_list e (◌∈◌.later (◌∈◌.later h)) g = absurd (omega arith)

module _ (c : Compound) where
  -- In one piece: a walk between any two atoms.
  pub pieces_one_piece : Pieces c 1 → OnePiece c
  pieces_one_piece p = record { walk = λ a b h l. between (p.each a h) (p.each b l) }
    where
      between : {a b : ℕ} → (h : ℕ) × (h ∈ p.heads) × SamePiece c a h → (h : ℕ) × (h ∈ p.heads) × SamePiece c b h → SamePiece c a b
      between {a} (h, i, w) (h', i', w') =
          same_piece_trans c (subst (SamePiece c a) (short_list p.count i i') w) (same_piece_sym c w')

  -- A walk between any two atoms: one piece, if there is an atom.
  pub one_piece_pieces : OnePiece c → 0 < c.n → Pieces c 1
  one_piece_pieces p some =
      record {
        heads = 0 ∷ [];
        once = Once.more not_in_none Once.none;
        atoms = λ h i. subst (λ (x : ℕ). x < c.n) (alone i) some;
        apart = λ g h i j w. sym (alone i) ∙ alone j;
        each = λ a h. (0, ◌∈◌.first, p.walk a 0 h some);
        count = refl;
      }
    where
      alone : {a : ℕ} → a ∈ (0 ∷ []) → 0 ≡ a
      alone (later h) = elim h [ ]
      alone ◌∈◌.first = refl

-- ---- no bonds
roots_to_self : (i : ℕ) → roots_to (λ a. a) i ≡ i
unfolding roots_to
roots_to_self zero = refl
roots_to_self (suc i) = omega (arith, roots_to_self i, is_root (λ a. a) i refl)

-- Without bonds each atom is a piece: two atoms with no bond are two.
pub bare_pieces : (c : Compound) → m c ≡ 0 → Pieces c c.n
bare_pieces c e = subst (Pieces c) (roots_to_self c.n) (rooted_pieces c alone)
  where
    alone : Rooted c (λ a. a)
    alone =
        record {
          inside = λ a h. h;
          fixed = λ a h. refl;
          walk = λ a h. (0, Walk.here);
          bonded = λ a b j. absurd (omega (arith, joins_below c j.1));
        }
