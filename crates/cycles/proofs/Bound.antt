-- How many rings there are to count: at most 3^21 in each kept family, and fewer than 400,000 families.
use mathlib.Core.Path.{◌≡◌}
use mathlib.Core.List.{List, [], ◌∷◌, map}
use Prim.Native.Nat.{ℕ, ◌*◌, ◌^◌, ◌<◌, ◌≤◌}
use native.Mathlib.Nat.{suc-mul}
use native.Mathlib.Omega.{arith}
use lib.ListN.{length, length-map}
use Rattle.spans.specs.Elements.{◌∈◌, Once}
use Rattle.spans.specs.Basis.{All}
use Rattle.spans.proofs.Marking.{all_element}
use Rattle.cycles.specs.Compound.{Compound, m, Sound}
use Rattle.cycles.specs.Family.{Family, Kept, Size}
use Rattle.cycles.specs.Rows.{Row, Report, Right, sizes}
use Rattle.cycles.proofs.Ranks.{in_map}
use Rattle.cycles.proofs.Unique.{ascending_once}
use Rattle.cycles.proofs.BoundSizes.{size_bound}
use Rattle.cycles.proofs.BoundChoices.{choices_few}

-- Sizes of at most `most` each sum to at most as many times `most` as there are rows.
sizes_le : (rows : List Row) (most : ℕ) → ((row : Row) → row ∈ rows → row.size ≤ most) → sizes rows ≤ length rows * most
unfolding sizes
sizes_le [] most bound = omega arith
sizes_le (row ∷ rows) most bound = omega (arith, bound row ◌∈◌.first, sizes_le rows most (λ r h. bound r (◌∈◌.later h)), suc-mul (length rows) most)

module _ (c : Compound) (sound : Sound c) (rank : ℕ → ℕ) (injective : (a b : ℕ) → a < c.n → b < c.n → rank a ≡ rank b → a ≡ b)
    (atoms : c.n ≤ 64) (bonds : m c ≤ 96) where
  -- Of kept families there are fewer than 400,000.
  pub kept_few : {fs : List Family} → Once fs → ((f : Family) → f ∈ fs → Kept c rank f) → length fs < 400000
  kept_few once kept = choices_few c sound rank atoms bonds once (λ f h. let p = (kept f h).prototype in (p.d, p.link, p.candidate))

  -- Rows of different kept families, such as an engine has made at any moment, count fewer than 400,000 times 3^21 rings.
  pub rows_bound : (rows : List Row) → Once (map (λ row. row.family) rows) → ((f : Family) → f ∈ map (λ row. row.family) rows → Kept c rank f)
      → All (λ row. Size c rank row.family row.size) rows → sizes rows < 400000 * 3 ^ 21
  rows_bound rows once kept sized =
      omega (
        arith,
        kept_few once kept,
        length-map rows (λ row. row.family),
        sizes_le rows (3 ^ 21)
            (λ row h. size_bound c sound rank injective (kept row.family (in_map (λ row. row.family) h)) (all_element sized h) atoms),
      )

  module _ {R : Report} (right : Right c rank R) where
    -- A right report has fewer than 400,000 families ..
    pub families_few : R.families < 400000
    families_few =
        omega (
          arith,
          right.families_are,
          length-map R.rows (λ row. row.family),
          kept_few (ascending_once _ right.ordered) (λ f h. (right.kept f).0 h),
        )

    -- .. and fewer than 400,000 times 3^21 rings ..
    pub rings_bound : R.rings < 400000 * 3 ^ 21
    rings_bound =
        omega (arith, right.rings_are, rows_bound R.rows (ascending_once _ right.ordered) (λ f h. (right.kept f).0 h) right.sized)

    -- .. which a word can say.
    pub rings_fit : R.rings < 2 ^ 64
    rings_fit = omega (arith, rings_bound)
