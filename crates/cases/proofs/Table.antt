-- A table that is not empty is its first case and the cases after that one's `~`.
use Rattle.std.proofs.Common.{◌≡◌, ℕ, ◌<◌, ◌==◌, ◌+◌, List, [], ◌∷◌, Bool, false, length, refl, inl, inr, arith}
use Rattle.std.specs.List.{All, slice_split, before_first, after_first, position_or_len}
use Rattle.std.proofs.lemmas.Bool.{cases_lt}
use Rattle.std.proofs.lemmas.List.{take_all, drop_all}
use Rattle.std.proofs.lemmas.List.Sums.{fails_before_first}
use Rattle.std.proofs.lemmas.List.Splits.{slice_split_first, slice_split_none, length-slice_split}
use Rattle.std.proofs.lemmas.Grind.{common_steps}
use Rattle.cases.specs.Table.{rows_of_parts, case_of, cases_in}

rows_of_parts-cons : (row : List ℕ) (parts : List (List ℕ)) → 0 < length parts → rows_of_parts (row ∷ parts) ≡ row ∷ rows_of_parts parts
rows_of_parts-cons row [] h = absurd (omega arith)
rows_of_parts-cons row (part ∷ parts) h = refl

rows_of_parts-last : (row : List ℕ) → 0 < length row → rows_of_parts (row ∷ []) ≡ row ∷ []
rows_of_parts-last row h = grind (arith, common_steps)

first_row : (p : ℕ → Bool) (table : List ℕ) → 0 < length table → rows_of_parts (slice_split p table) ≡ before_first p table ∷ rows_of_parts (slice_split p (after_first p table))
first_row p table h = elim (cases_lt (position_or_len p table) (length table)) [
  | inl ended ↦
      let more : 0 < length (slice_split p (after_first p table)) = omega (arith, length-slice_split p (after_first p table)) in
      rw (slice_split_first p table 0 ended) (rows_of_parts-cons _ _ more)
  | inr unended ↦
      let none : All (λ b. p b ≡ false) table = λ k d l. fails_before_first p table k d (omega arith) in
      rw (slice_split_none p table none, take_all (position_or_len p table) table unended, drop_all (position_or_len p table + 1) table (omega arith)) (rows_of_parts-last table h)
]

pub first_case : (table : List ℕ) → 0 < length table → cases_in table ≡ case_of (before_first (λ b. b == 126) table) ∷ cases_in (after_first (λ b. b == 126) table)
first_case table h = rw (first_row (λ b. b == 126) table h)
