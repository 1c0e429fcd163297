-- Families: candidates, prototypes, members, sizes, over any ranking of the atoms.
use Rattle.std.specs.Prelude.{◌≡◌, List, [], ◌∷◌, ◌↔◌, ℕ, suc, ◌+◌, ◌*◌, ◌<◌, ◌≤◌, length}
use Rattle.std.specs.Int.Bits.{bit_xor}
use Rattle.spans.specs.Elements.{◌∈◌, Once}
use Rattle.cycles.specs.Compound.{Compound, Bonded, Distance}
use Rattle.cycles.specs.Ring.{Ring, Relevant, len, Edges}

-- A family is named by its "length, r, p, q, x (255 if odd)".
pub record Family : Type 0 where
  pub long : ℕ
  pub r : ℕ
  pub p : ℕ
  pub q : ℕ
  pub x : ℕ

module _ (c : Compound) (rank : ℕ → ℕ) where
  -- "An atom precedes another if its number is lower": the ranking by number is rank a = a.
  abbrev pub Precedes : ℕ → ℕ → Type 0
  Precedes a b = rank a < rank b

  -- A shortest path from t to r, d steps long, whose atoms other than r precede r, as the list of its atoms.
  pub data Down (r : ℕ) : ℕ → ℕ → List ℕ → Type 0 where
    top : Down r r 0 (r ∷ [])
    step : {t next d : ℕ} {path : List ℕ} → Precedes t r → Distance c t r (suc d) → Bonded c t next → Down r next d path
        → Down r t (suc d) (t ∷ path)

  -- "t is under r if t precedes r and some shortest path from r to t has, apart from r, only atoms that precede r"; d is
  -- the distance.
  abbrev pub Under : ℕ → ℕ → ℕ → Type 0
  Under r t d = Precedes t r × ((path : List ℕ) × Down r t d path)

  -- "The chosen path from t to r steps each time to the lowest-numbered neighbour that is nearer to r by one and is r or
  -- under r."
  pub data Chosen (r : ℕ) : ℕ → ℕ → List ℕ → Type 0 where
    top : Chosen r r 0 (r ∷ [])
    step : {t next d : ℕ} {path : List ℕ} → Under r t (suc d) → Bonded c t next
        → ((s : ℕ) (way : List ℕ) → Bonded c t s → Down r s d way → next ≤ s) → Chosen r next d path
        → Chosen r t (suc d) (t ∷ path)

  -- "odd: a bond between p and q, both under r, at equal distance d from r, length 2d + 1; or even: an atom x under r at
  -- distance d, with two different neighbours p and q under r at distance d - 1, length 2d. Always p < q."
  -- `Candidate f d link`: p and q are at distance d, and link is the way between them.
  pub data Candidate : Family → ℕ → List ℕ → Type 0 where
    odd : {r p q d k : ℕ} → p < q → Bonded c p q → Under r p d → Under r q d → k ≡ 2 * d + 1
        → Candidate (record { long = k; r = r; p = p; q = q; x = 255 }) d (p ∷ q ∷ [])
    even : {r p q x d k : ℕ} → p < q → Bonded c p x → Bonded c x q → Under r x (suc d) → Under r p d → Under r q d
        → k ≡ 2 * suc d → Candidate (record { long = k; r = r; p = p; q = q; x = x }) d (p ∷ x ∷ q ∷ [])

  -- S is made up of a path from p, a path from q and the link between p and q.
  pub record MadeOf (P Q link : List ℕ) (S : ℕ) : Type 0 where
    pub from_p : ℕ
    pub from_q : ℕ
    pub between : ℕ
    pub edges_p : Edges c P from_p
    pub edges_q : Edges c Q from_q
    pub edges_link : Edges c link between
    pub sum : S ≡ bit_xor (bit_xor from_p from_q) between

  -- "A candidate whose two chosen paths, from p and from q, share an atom other than r is dropped. The prototype is the
  -- two chosen paths and the bond p-q, or the path p, x, q."
  pub record Prototype (f : Family) (S : ℕ) : Type 0 where
    pub d : ℕ
    pub link : List ℕ
    pub candidate : Candidate f d link
    pub P : List ℕ
    pub Q : List ℕ
    pub chosen_p : Chosen f.r f.p d P
    pub chosen_q : Chosen f.r f.q d Q
    pub apart : (a : ℕ) → a ∈ P → a ∈ Q → a ≡ f.r
    pub made : MadeOf P Q link S

  -- "A family is every ring of that length holding r and the bond p-q (or path p, x, q), made up with shortest paths from
  -- p and from q to r whose atoms other than r precede r."
  pub record Member (f : Family) (C : ℕ) : Type 0 where
    pub d : ℕ
    pub link : List ℕ
    pub candidate : Candidate f d link
    pub ring : Ring c C
    pub long : len c C ≡ f.long
    pub P : List ℕ
    pub Q : List ℕ
    pub down_p : Down f.r f.p d P
    pub down_q : Down f.r f.q d Q
    pub made : MadeOf P Q link C

  -- "It is kept exactly if its prototype is relevant."
  pub record Kept (f : Family) : Type 0 where
    pub ring : ℕ
    pub prototype : Prototype f ring
    pub relevant : Relevant c ring

  -- "Its size is the number of its members": a list of them all, each once.
  pub record Size (f : Family) (s : ℕ) : Type 0 where
    pub members : List ℕ
    pub once : Once members
    pub all : (C : ℕ) → (C ∈ members) ↔ Member f C
    pub count : length members ≡ s
