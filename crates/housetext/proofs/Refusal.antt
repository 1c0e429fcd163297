-- Refusal 10 is given exactly if the text is that of no compound.
use mathlib.Core.Path.{◌≡◌, refl, sym, ap, ◌∙◌}
use mathlib.Core.List.{List, [], ◌∷◌, ◌++◌}
use mathlib.Core.Logic.{◌↔◌}
use Prim.Native.Nat.{ℕ, zero, suc, ◌+◌}
use native.Mathlib.Omega.{arith}
use lib.ListN.{drop}
use Rattle.std.specs.Prelude.{Option, Some, None}
use Rattle.housetext.specs.declared.Found.{Found}
use Rattle.housetext.specs.declared.BondLine.{BondLine}
use Rattle.housetext.specs.Text.{newline, atoms_word, bonds_word, field_at, bond_at, on_found, on_bond, Said, passes, refuses, Reading, bonds_from, reads}
use Rattle.housetext.proofs.RoundTrip.{Says, reads_text_of, text_of_reads}

-- what is said of a text: it passes, or it is refused by 10
data Either : Said → Type 0 where
  passing : {n m : ℕ} → Either (passes n m)
  refusing : {line : ℕ} → Either (refuses 10 line)

bonds_either : (n m line left : ℕ) (text done : List ℕ) → Either (bonds_from (passes n m) line left text done).says
unfolding bonds_from
bonds_either n m line zero [] done = passing
bonds_either n m line zero (x ∷ text) done = refusing
bonds_either n m line (suc left) text done =
    next (bond_at text) (λ a b i. bonds_either n m (line + 1) left (drop i text) (done ++ a ∷ b ∷ []))
  where
    next : (l : Option BondLine) → ((a b i : ℕ) → Either (bonds_from (passes n m) (line + 1) left (drop i text) (done ++ a ∷ b ∷ [])).says)
        → Either (on_bond l (record { says = refuses 10 line; bytes = done }) (λ a b i. bonds_from (passes n m) (line + 1) left (drop i text) (done ++ a ∷ b ∷ []))).says
    next None more = refusing
    next (Some line) more = more line.a line.b line.next

reads_either : (text : List ℕ) → Either (reads text).says
unfolding reads
reads_either text = first (field_at atoms_word newline text)
  where
    second : (n i : ℕ) (l : Option Found)
        → Either (on_found l (record { says = refuses 10 2; bytes = [] }) (λ m j. bonds_from (passes n m) 3 m (drop j (drop i text)) [])).says
    second n i None = refusing
    second n i (Some number) = bonds_either n number.value 3 number.value (drop number.next (drop i text)) []

    first : (l : Option Found)
        → Either (on_found l (record { says = refuses 10 1; bytes = [] })
        (λ n i. on_found (field_at bonds_word newline (drop i text)) (record { says = refuses 10 2; bytes = [] })
        (λ m j. bonds_from (passes n m) 3 m (drop j (drop i text)) []))).says
    first None = refusing
    first (Some number) = second number.value number.next (field_at bonds_word newline (drop number.next text))

-- a text is not both taken and refused
pub passes_refuses : {n m number line : ℕ} → passes n m ≡ refuses number line → ⊥
passes_refuses e = let z : ◌≡◌ {A = ℕ} 0 1 = cc in omega arith

module _ (text : List ℕ) where
  -- "text not in the form below": it is the text of no number of atoms and list of bonds
  pub refusal_10 : ((line : ℕ) × ((reads text).says ≡ refuses 10 line)) ↔ ((n m : ℕ) (bytes : List ℕ) → Says text n m bytes → ⊥)
  refusal_10 = (
    λ (line, e) n m bytes s.
        passes_refuses
        (sym (ap (λ (r : Reading). r.says) (ap reads s.is ∙ reads_text_of n m bytes s.atoms s.bonds s.count s.small)) ∙ e),
    λ none. given none (reads text).says refl (reads_either text),
  )
    where
      given : ((n m : ℕ) (bytes : List ℕ) → Says text n m bytes → ⊥) → (s : Said) → (reads text).says ≡ s → Either s → (line : ℕ) × ((reads text).says ≡ refuses 10 line)
      given none s e (passing {n} {m}) =
          absurd (none n m (reads text).bytes (text_of_reads text n m (reads text).bytes (ap (λ (s : Said). record { says = s; bytes = (reads text).bytes }) e)))
      given none s e (refusing {line}) = (line, e)
