-- The neighbours of a set of atoms and one step of a search, in any net and in that of a sound compound of at most 64 atoms.
use mathlib.Core.Path.{◌≡◌}
use mathlib.Core.List.{List, [], ◌∷◌}
use mathlib.Core.Logic.{◌⊎◌, inl, inr, ⊎_elim, ◌↔◌}
use Prim.Native.Nat.{ℕ, ◌+◌, ◌-◌, ◌^◌, ◌<◌, ◌≤◌}
use native.Mathlib.Omega.{arith}
use lib.Bits.{bit_and, bit_or, or_lt}
use lib.Pow.{pow_pos}
use Rattle.spans.specs.Elements.{◌∈◌}
use Rattle.bondset.specs.Sets.{bit, members}
use Rattle.bondset.proofs.Laws.{zero_bit}
use Rattle.bondset.proofs.Members.{mem_of_bit, bit_of_mem}
use Rattle.cycles.specs.Compound.{Compound, m, Bonded, Sound}
use Rattle.cycles.proofs.PathsDecide.{joins_below}
use Rattle.model.specs.Fold.{through}
use Rattle.model.specs.Net.{Net, net_of, nbrs, near}
use Rattle.model.proofs.NetBits.{or_has, lt_of_has, without_has, add_or}
use Rattle.model.proofs.NetRead.{Near, adj_near}

module _ (G : Net) where
  -- An atom's neighbours come to those gathered.
  abbrev pub gather : ℕ → ℕ → ℕ
  gather a acc = bit_or acc (nbrs G a)

  pub gather_has : (L : List ℕ) (acc t : ℕ) → bit (through gather L acc) t ≡ 1 → (bit acc t ≡ 1) ⊎ ((a : ℕ) × (a ∈ L) × (bit (nbrs G a) t ≡ 1))
  unfolding through
  gather_has [] acc t e = inl e
  gather_has (a ∷ L) acc t e =
      ⊎_elim (λ (l : bit (bit_or acc (nbrs G a)) t ≡ 1). ⊎_elim (λ (o : bit acc t ≡ 1). inl o)
      (λ (n : bit (nbrs G a) t ≡ 1). inr (a, ◌∈◌.first, n)) ((or_has acc (nbrs G a) t).0 l))
      (λ (r : (b : ℕ) × (b ∈ L) × (bit (nbrs G b) t ≡ 1)). inr (r.0, ◌∈◌.later r.1, r.2)) (gather_has L (gather a acc) t e)

  pub gather_keeps : (L : List ℕ) (acc t : ℕ) → bit acc t ≡ 1 → bit (through gather L acc) t ≡ 1
  unfolding through
  gather_keeps [] acc t e = e
  gather_keeps (a ∷ L) acc t e = gather_keeps L (gather a acc) t ((or_has acc (nbrs G a) t).1 (inl e))

  gather_at : (a : ℕ) {L : List ℕ} (acc t : ℕ) → a ∈ L → bit (nbrs G a) t ≡ 1 → bit (through gather L acc) t ≡ 1
  unfolding through
  gather_at a acc t (◌∈◌.first {xs}) e = gather_keeps xs (gather a acc) t ((or_has acc (nbrs G a) t).1 (inr e))
  gather_at a acc t (◌∈◌.later {y} h) e = gather_at a (gather y acc) t h e

  pub gather_takes : {L : List ℕ} (acc t a : ℕ) → a ∈ L → bit (nbrs G a) t ≡ 1 → bit (through gather L acc) t ≡ 1
  gather_takes acc t a h e = gather_at a acc t h e

  pub gather_small : (n : ℕ) → ((a : ℕ) → nbrs G a < 2 ^ n) → (L : List ℕ) (acc : ℕ) → acc < 2 ^ n → through gather L acc < 2 ^ n
  unfolding through
  gather_small n small [] acc h = h
  gather_small n small (a ∷ L) acc h = gather_small n small L (gather a acc) (or_lt n acc (nbrs G a) h (small a))

-- What one more step from the front finds.
abbrev pub new_of : Net → ℕ → ℕ → ℕ
new_of G seen front = near G front - bit_and (near G front) seen

-- One step of a search among n atoms: what it finds, and what is seen after it.
pub record Step (G : Net) (n seen front : ℕ) : Type 0 where
  -- Both are among the atoms.
  pub new_small : new_of G seen front < 2 ^ n
  pub seen_small : seen + new_of G seen front < 2 ^ n
  -- The neighbours of the front that are not seen.
  pub new_has : (t : ℕ) → (bit (new_of G seen front) t ≡ 1) ↔ ((bit (near G front) t ≡ 1) × (bit seen t ≡ 1 → ⊥))
  -- What was seen, and they.
  pub seen_has : (t : ℕ) → (bit (seen + new_of G seen front) t ≡ 1) ↔ ((bit seen t ≡ 1) ⊎ (bit (new_of G seen front) t ≡ 1))

module _ (G : Net) (n : ℕ) (small : (a : ℕ) → nbrs G a < 2 ^ n) where
  -- The neighbours of a set of atoms are among the atoms.
  pub near_small : (s : ℕ) → near G s < 2 ^ n
  unfolding near
  near_small s = gather_small G n small (members 64 s) 0 (pow_pos n)

  module _ (seen front : ℕ) (inside : seen < 2 ^ n) where
    abbrev new : ℕ
    new = new_of G seen front

    new_small : new < 2 ^ n
    new_small = omega (arith, near_small front)

    new_has : (t : ℕ) → (bit new t ≡ 1) ↔ ((bit (near G front) t ≡ 1) × (bit seen t ≡ 1 → ⊥))
    new_has t = without_has n (near G front) seen t (near_small front)

    seen_or : seen + new ≡ bit_or seen new
    seen_or = add_or n seen new inside new_small (λ t e f. ((new_has t).0 f).1 e)

    pub step : Step G n seen front
    step = record {
      new_small = new_small;
      seen_small = rw seen_or (or_lt n seen new inside new_small);
      new_has = new_has;
      seen_has = λ t. rw seen_or (or_has seen new t);
    }

module _ (c : Compound) (sound : Sound c) (atoms : c.n ≤ 64) where
  abbrev G : Net
  G = net_of c

  -- The neighbours that the net holds are read from the bonds.
  pub net_near : Near c (m c) (net_of c).adj
  unfolding net_of
  net_near = adj_near c sound atoms

  -- The neighbours of an atom.
  pub nbrs_has : (a b : ℕ) → (bit (nbrs (net_of c) a) b ≡ 1) ↔ Bonded c a b
  nbrs_has a b = (net_near.bonded a b, λ p. net_near.all p.0 a b (joins_below c p.1) p.1)

  -- The neighbours of a set of atoms are the atoms bonded to one of it.
  pub near_has : (s t : ℕ) → s < 2 ^ c.n → (bit (near (net_of c) s) t ≡ 1) ↔ ((a : ℕ) × (bit s a ≡ 1) × Bonded c a t)
  unfolding near
  near_has s t h = (λ e. to (gather_has G (members 64 s) 0 t e), λ p. from p.0 p.1 p.2)
    where
      to : (bit 0 t ≡ 1) ⊎ ((a : ℕ) × (a ∈ members 64 s) × (bit (nbrs G a) t ≡ 1)) → (a : ℕ) × (bit s a ≡ 1) × Bonded c a t
      to (inl e) = absurd (omega (arith, zero_bit t))
      to (inr p) = (p.0, bit_of_mem 64 s p.0 p.1, (nbrs_has p.0 t).0 p.2)

      from : (a : ℕ) → bit s a ≡ 1 → Bonded c a t → bit (through (gather G) (members 64 s) 0) t ≡ 1
      from a e b = let l = lt_of_has c.n s a h e in gather_takes G 0 t a (mem_of_bit 64 s a (omega arith) e) ((nbrs_has a t).1 b)
