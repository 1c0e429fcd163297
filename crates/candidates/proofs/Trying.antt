-- The loop over the candidates that are ahead of a cursor.
use mathlib.Core.Path.{◌≡◌, sym, ap, ◌∙◌}
use mathlib.Core.List.{List, [], ◌∷◌, map}
use Prim.Native.Nat.{ℕ, ◌-◌, ◌/◌, ◌≤◌}
use native.Mathlib.Omega.{arith}
use lib.ListN.{get_or}
use Rattle.spans.specs.Elements.{◌∈◌, later}
use Rattle.cycles.specs.Family.{Family}
use Rattle.model.specs.Fold.{through}
use Rattle.model.specs.Net.{Net}
use Rattle.model.specs.Loops.{seek}
use Rattle.model.specs.Candidates.{found}
use Rattle.model.proofs.ItemsFound.{depth, seek_found}
use Rattle.candidates.specs.declared.Going as code
use Rattle.candidates.specs.declared.cursor.Cursor.{Cursor}
use Rattle.candidates.specs.Cursor.{Spot, named, ahead, Within}
use Rattle.candidates.specs.Engine.{Engine}
use Rattle.candidates.specs.Going.{engine_of, Place, Tries}

-- Fewer layers are needed.
pub place_less : {layers : List ℕ} {h : ℕ} → Place layers h → (d : ℕ) → d ≤ h → Place layers d
place_less p d l = record {
  deep = omega (arith, p.deep);
  disjoint = record { words = λ i b. p.disjoint.words i (omega arith); apart = λ i j b e. p.disjoint.apart i j b (omega arith) };
}

module _ (attempt : Family → Engine → Engine) (k r layer : ℕ) (all : List Family) (begun : code.Going) (out₀ sizes₀ : List ℕ) where
  -- What is left to try brings the engine where all of it brings the start.
  pub record Trying (left : List Spot) (going : code.Going) (out sizes : List ℕ) : Type 0 where
    pub same : (table : List ℕ) → through attempt (map (named k r) left) (engine_of going out table sizes)
        ≡ through attempt all (engine_of begun out₀ table sizes₀)
    pub within : (s : Spot) → s ∈ left → Within layer s

module _ {attempt : Family → Engine → Engine} {k r layer : ℕ} {all : List Family} {begun : code.Going} {out₀ sizes₀ : List ℕ} where
  -- Before the first candidate.
  pub trying_start : {c it : Cursor} → it ≡ c → ((s : Spot) → s ∈ ahead c → Within layer s) → map (named k r) (ahead c) ≡ all
      → Trying attempt k r layer all begun out₀ sizes₀ (ahead it) begun out₀ sizes₀
  trying_start {c} e within is = rw e (record {
    same = λ table. ap (λ (l : List Family). through attempt l (engine_of begun out₀ table sizes₀)) is;
    within = within;
  })

  -- One turn.
  pub trying_next : {left left' : List Spot} {s : Spot} {going : code.Going} {out sizes : List ℕ} {going' : code.Going} {out' sizes' : List ℕ}
      → Trying attempt k r layer all begun out₀ sizes₀ left going out sizes → left ≡ s ∷ left'
      → Tries (attempt (named k r s)) going out sizes going' out' sizes'
      → Trying attempt k r layer all begun out₀ sizes₀ left' going' out' sizes'
  unfolding through
  trying_next {left} {left'} {s} {going} {out} {sizes} {going'} {out'} {sizes'} trying e tries = record {
    same =
        λ table. ap (through attempt (map (named k r) left')) (tries.is table)
        ∙ sym (ap (λ (l : List Spot). through attempt (map (named k r) l) (engine_of going out table sizes)) e) ∙ trying.same table;
    within = λ t m. trying.within t (rw e (later m));
  }

-- No candidate is left.
pub seek_tries : (G : Net) (A : List ℕ → ℕ → Family → Engine → Engine) (k r layer : ℕ) (us : List ℕ) {begun going : code.Going}
    {out₀ sizes₀ out sizes : List ℕ} {left : List Spot}
    → Trying (A us (depth k)) k r layer (found G k r (get_or us (k / 2) 0) (get_or us (k / 2 - 1) 0)) begun out₀ sizes₀ left going out sizes
    → left ≡ [] → Tries (seek G A k r us) begun out₀ sizes₀ going out sizes
unfolding through
seek_tries G A k r layer us {begun} {going} {out₀} {sizes₀} {out} {sizes} trying e = record {
  is = λ table. (rw e at (trying.same table)) ∙ sym (seek_found G k r A us (engine_of begun out₀ table sizes₀));
}
