-- Numbering anew is an equivalence, and a triangle numbered anew is an example of it. (The other way round is `renumbered_sym`.)
use mathlib.Core.Path.{refl, sym, ap, ◌∙◌, subst, subst₂}
use mathlib.Core.List.{[], ◌∷◌}
use Prim.Native.Nat.{ℕ, zero, suc, ◌+◌, ◌%◌, ◌<◌}
use native.Mathlib.Omega.{arith}
use Rattle.cycles.specs.Compound.{Compound, m, one, other, Joins, given, turned}
use Rattle.cycles.specs.Renumbered.{Undo, Renumbered}
use Rattle.cycles.proofs.RenumberClosed.{joins_turned}

-- One after the other.
undo_trans : {k : ℕ} {f g f' g' : ℕ → ℕ} → Undo k f g → Undo k f' g' → Undo k (λ i. f' (f i)) (λ i. g (g' i))
undo_trans {f = f} {g = g} {f' = f'} {g' = g'} u v =
    record {
      there = λ i h. v.there (f i) (u.there i h);
      back = λ i h. u.back (g' i) (v.back i h);
      there_back = λ i h. ap g (v.there_back (f i) (u.there i h)) ∙ u.there_back i h;
      back_there = λ i h. ap f' (u.back_there (g' i) (v.back i h)) ∙ v.back_there i h;
    }

-- A map of bonds that joins the new atoms of each bond's two ends keeps all that is joined.
pub joins_by_ends : {c c' : Compound} (atoms bonds : ℕ → ℕ) → ((k : ℕ) → k < m c → Joins c' (bonds k) (atoms (one c k)) (atoms (other c k)))
    → (k a b : ℕ) → Joins c k a b → Joins c' (bonds k) (atoms a) (atoms b)
joins_by_ends {c' = c'} atoms bonds ends k a b (given l e d) = subst₂ (λ (x y : ℕ). Joins c' (bonds k) (atoms x) (atoms y)) e d (ends k l)
joins_by_ends {c' = c'} atoms bonds ends k a b (turned l e d) =
    joins_turned (subst₂ (λ (x y : ℕ). Joins c' (bonds k) (atoms x) (atoms y)) d e (ends k l))

-- The numbering as it stands.
pub renumbered_refl : (c : Compound) → Renumbered c c
renumbered_refl c =
    record {
      atoms = λ a. a;
      old_atoms = λ a. a;
      bonds = λ k. k;
      old_bonds = λ k. k;
      same_n = refl;
      same_m = refl;
      atoms_undo = record { there = λ i h. h; back = λ i h. h; there_back = λ i h. refl; back_there = λ i h. refl };
      bonds_undo = record { there = λ i h. h; back = λ i h. h; there_back = λ i h. refl; back_there = λ i h. refl };
      joins = λ k a b j. j;
    }

-- Numbered anew twice is numbered anew.
pub renumbered_trans : {c d e : Compound} → Renumbered c d → Renumbered d e → Renumbered c e
renumbered_trans r s =
    record {
      atoms = λ a. s.atoms (r.atoms a);
      old_atoms = λ a. r.old_atoms (s.old_atoms a);
      bonds = λ k. s.bonds (r.bonds k);
      old_bonds = λ k. r.old_bonds (s.old_bonds k);
      same_n = r.same_n ∙ s.same_n;
      same_m = r.same_m ∙ s.same_m;
      atoms_undo = undo_trans r.atoms_undo (subst (λ (k : ℕ). Undo k s.atoms s.old_atoms) (sym r.same_n) s.atoms_undo);
      bonds_undo = undo_trans r.bonds_undo (subst (λ (k : ℕ). Undo k s.bonds s.old_bonds) (sym r.same_m) s.bonds_undo);
      joins = λ k a b j. s.joins (r.bonds k) (r.atoms a) (r.atoms b) (r.joins k a b j);
    }

-- A triangle, bonds 0-1, 1-2, 0-2.
abbrev pub triangle : Compound
triangle = record { n = 3; bytes = 0 ∷ 1 ∷ 1 ∷ 2 ∷ 0 ∷ 2 ∷ [] }

-- The same with the atoms 0, 1, 2 named 2, 0, 1, the bonds 0, 1, 2 named 1, 2, 0, and two bonds turned round: bonds 2-1, 0-2, 1-0.
abbrev pub triangle' : Compound
triangle' = record { n = 3; bytes = 2 ∷ 1 ∷ 0 ∷ 2 ∷ 1 ∷ 0 ∷ [] }

triangle_ends : (k : ℕ) → k < 3 → Joins triangle' ((k + 1) % 3) ((one triangle k + 2) % 3) ((other triangle k + 2) % 3)
triangle_ends zero h = turned (omega arith) refl refl
triangle_ends (suc zero) h = turned (omega arith) refl refl
triangle_ends (suc (suc zero)) h = given (omega arith) refl refl
triangle_ends (suc (suc (suc k))) h = absurd (omega arith)

-- One is the other numbered anew.
pub triangle_renumbered : Renumbered triangle triangle'
triangle_renumbered =
    record {
      atoms = λ a. (a + 2) % 3;
      old_atoms = λ a. (a + 1) % 3;
      bonds = λ k. (k + 1) % 3;
      old_bonds = λ k. (k + 2) % 3;
      same_n = refl;
      same_m = refl;
      atoms_undo = record { there = λ i h. omega arith; back = λ i h. omega arith; there_back = λ i h. omega arith; back_there = λ i h. omega arith };
      bonds_undo = record { there = λ i h. omega arith; back = λ i h. omega arith; there_back = λ i h. omega arith; back_there = λ i h. omega arith };
      joins = joins_by_ends (λ a. (a + 2) % 3) (λ k. (k + 1) % 3) triangle_ends;
    }
