-- Refusals 1 to 6 and acceptance, from the tests that the engine makes in their order.
use mathlib.Core.Path.{◌≡◌, refl, sym, ap, ◌∙◌}
use mathlib.Core.Bool.{Bool, true, false, not}
use mathlib.Core.List.{List}
use Prim.Native.Nat.{ℕ, ◌-◌, ◌%◌, ◌^◌}
use native.Mathlib.Omega.{arith}
use borrow.Author.Tests.{le-ltb, ne_eqb}
use lib.Dec.{eqb}
use lib.ListN.{length}
use Rattle.std.specs.Prelude.{Ok, Err}
use Rattle.std.proofs.Props.{props}
use Rattle.std.proofs.Math.Logic.{∥∥₁_elim}
use Rattle.cycles.specs.Compound.{Compound, m}
use Rattle.cycles.specs.Refusal.{Refused}
use Rattle.model.specs.Fault.{Fault, none, fault, or_else, when, first_of, bond_fault, reached, piece_fault, size_fault, first_fault}
use Rattle.model.specs.Layer.{wave}
use Rattle.model.specs.Net.{adj_of, touch_of}
use Rattle.model.proofs.Faults.{fault_refused, none_accepted}
use Rattle.atoms.specs.Nets.{neighbours}
use Rattle.reading.specs.Reading.{fault_of, bonds_read, Reading}
use Rattle.reading.specs.declared.Fault.{Fault as BondFault}
use Rattle.atoms.specs.declared.nets.Net as code
use Rattle.search.proofs.Same.{reached_same}
use Rattle.rings.specs.declared.Refusal.{Refusal}
use Rattle.rings.specs.declared.Refusal.TheVariants.{Pieces}
use Rattle.engine.specs.Reports.{Stands}
use Rattle.rings.specs.Calls.{Names, Within, RefusedBy}

module _ (c : Compound) where
  module _ (within : Within c) where
    size_none : size_fault c ≡ none
    unfolding size_fault or_else when
    size_none =
        rw (
          ne_eqb c.n 0 (λ z. omega (arith, z, within.some)),
          le-ltb 64 c.n within.atoms,
          ne_eqb (length c.bytes % 2) 1 within.even,
          le-ltb 96 (m c) within.few,
        )

    first_is : first_fault c ≡ or_else (first_of (m c) (bond_fault c)) (piece_fault c)
    unfolding first_fault or_else
    first_is = rw size_none

    bond_refused : {number k : ℕ} → fault number k ≡ first_of (m c) (bond_fault c) → Refused c number k
    unfolding or_else
    bond_refused {number} {k} e = (fault_refused c number k).0 (first_is ∙ ap (λ (f : Fault). or_else f (piece_fault c)) (sym e))

    -- One of 3 to 5.
    pub refused_bond : (r : Refusal) {f : BondFault} {adj touch : List ℕ} → Names f r → Reading c (Err f) adj touch → RefusedBy c r
    refused_bond r e read = bond_refused (sym e ∙ read.fault)

    module _ (net : code.Net) (r : Reading c (Ok tt) net.adj net.touch) where
      read_all : net.adj ≡ adj_of c (m c)
      unfolding bonds_read
      read_all = r.neighbours

      touched_all : net.touch ≡ touch_of c (m c)
      unfolding bonds_read
      touched_all = r.bonds

      seen : (b : Bool) → b ≡ eqb (wave (neighbours net.adj) 0 0 c.n).seen (2 ^ c.n - 1) → first_fault c ≡ when (not b) (fault 6 0)
      unfolding or_else fault_of piece_fault
      seen b e =
          let same : (wave (neighbours net.adj) 0 0 c.n).seen ≡ reached c =
          ap (λ (xs : List ℕ). (wave (neighbours xs) 0 0 c.n).seen) read_all ∙ reached_same c in
          first_is
          ∙ ap (λ (f : Fault). or_else f (piece_fault c)) (sym r.fault)
          ∙ ap (λ (x : ℕ). when (not (eqb x (2 ^ c.n - 1))) (fault 6 0)) (sym same)
          ∙ ap (λ (b : Bool). when (not b) (fault 6 0)) (sym e)

      -- Refusal 6.
      pub refused_pieces : false ≡ eqb (wave (neighbours net.adj) 0 0 c.n).seen (2 ^ c.n - 1) → RefusedBy c Pieces
      unfolding when
      refused_pieces e = (fault_refused c 6 0).0 (seen false e)

      -- No refusal.
      pub stands : net.n ≡ c.n → true ≡ eqb (wave (neighbours net.adj) 0 0 c.n).seen (2 ^ c.n - 1) → Stands c net
      unfolding when
      stands n e = record { accepted = (none_accepted c).0 (seen true e); atoms = n; neighbours = read_all; bonds = touched_all }

-- ---- a compound that stands

clear : Fault → ℕ
clear none = 0
clear (fault number place) = 1

clear_none : (f : Fault) → clear f ≡ 0 → f ≡ none
unfolding clear
clear_none none e = refl
clear_none (fault number place) e = absurd (omega (arith, e))

-- Whether a compound is accepted can be tested, so that any proof that it stands is as good as one in hand.
module _ {c : Compound} {net : code.Net} (s : ∥ Stands c net ∥₁) where
  no_fault : clear (first_fault c) ≡ 0
  unfolding clear
  no_fault = ∥∥₁_elim s (Prim.hlevel props) (λ x. ap clear ((none_accepted c).1 x.accepted))

  pub standing : Stands c net
  standing =
      record {
        accepted = (none_accepted c).0 (clear_none (first_fault c) no_fault);
        atoms = ∥∥₁_elim s (Prim.hlevel props) (λ x. x.atoms);
        neighbours = ∥∥₁_elim s (Prim.hlevel props) (λ x. x.neighbours);
        bonds = ∥∥₁_elim s (Prim.hlevel props) (λ x. x.bonds);
      }
