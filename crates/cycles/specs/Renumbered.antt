-- "The same compound numbered anew."
use Rattle.std.specs.Prelude.{◌≡◌, ℕ, ◌<◌}
use Rattle.cycles.specs.Compound.{Compound, m, Joins}

-- f and g take the numbers below k to numbers below k, and undo each other there.
pub record Undo (k : ℕ) (f g : ℕ → ℕ) : Type 0 where
  pub there : (i : ℕ) → i < k → f i < k
  pub back : (i : ℕ) → i < k → g i < k
  pub there_back : (i : ℕ) → i < k → g (f i) ≡ i
  pub back_there : (i : ℕ) → i < k → f (g i) ≡ i

-- "any renumbering of atoms and bonds, and any turning round of a bond's two ends": atom a of c is atom `atoms a` of c', bond k of c is bond
-- `bonds k` of c' and joins the same atoms, either way round.
pub record Renumbered (c c' : Compound) : Type 0 where
  pub atoms : ℕ → ℕ
  pub old_atoms : ℕ → ℕ
  pub bonds : ℕ → ℕ
  pub old_bonds : ℕ → ℕ
  pub same_n : c.n ≡ c'.n
  pub same_m : m c ≡ m c'
  pub atoms_undo : Undo c.n atoms old_atoms
  pub bonds_undo : Undo (m c) bonds old_bonds
  pub joins : (k a b : ℕ) → Joins c k a b → Joins c' (bonds k) (atoms a) (atoms b)
