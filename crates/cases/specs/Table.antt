-- The cases of a table: each is a name, `|`, what it is run on, and `~`, which the last one may lack.
use Rattle.std.specs.Prelude.{ℕ, ◌==◌, if◌then◌else◌, List, [], ◌∷◌, length, map}
use Rattle.std.specs.List.{slice_split, before_first, after_first}
use Rattle.cases.specs.declared.Case.{Case}
use Rattle.cases.specs.declared.Cases.{Cases}

-- the rows of a table that is cut at each `~`: its parts, and the last one only if it is not empty
abbrev pub rows_of_parts : List (List ℕ) → List (List ℕ)
rows_of_parts [] = []
rows_of_parts (part ∷ []) = if length part == 0 then [] else part ∷ []
rows_of_parts (part ∷ next ∷ more) = part ∷ rows_of_parts (next ∷ more)

-- a row's name, and what it is run on: the bytes before its first `|`, and those after it
abbrev pub case_of : List ℕ → List ℕ × List ℕ
case_of row = (before_first (λ b. b == 124) row, after_first (λ b. b == 124) row)

-- the cases of a table, in their order
abbrev pub cases_in : List ℕ → List (List ℕ × List ℕ)
cases_in table = map case_of (rows_of_parts (slice_split (λ b. b == 126) table))

-- a case as it stands in a table
abbrev pub case_text : Case → List ℕ × List ℕ
case_text case = (case.name.now, case.body.now)

-- the cases that are still to come
abbrev pub cases_left : Cases → List (List ℕ × List ℕ)
cases_left cases = cases_in cases.0.now
