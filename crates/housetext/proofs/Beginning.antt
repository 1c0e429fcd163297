-- Only the beginning of a text is read: what it says is said by its first 3,336 bytes, and a text of so many departs.
use mathlib.Core.Path.{◌≡◌, refl, sym, ap, ◌∙◌}
use mathlib.Core.Bool.{Bool, false, cond}
use mathlib.Core.List.{List, [], ◌∷◌, ◌++◌}
use Prim.Native.Nat.{ℕ, zero, suc, ◌+◌, ◌-◌, ◌*◌, ◌<◌, ◌≤◌}
use native.Mathlib.Omega.{arith}
use lib.Dec.{eqb}
use lib.ListN.{length, take, drop, length-append, length-drop}
use lib.Seq.{take-nil}
use Rattle.std.specs.Prelude.{Option, Some, None}
use Rattle.housetext.specs.declared.Found.{Found}
use Rattle.housetext.specs.declared.BondLine.{BondLine}
use Rattle.housetext.specs.Text.{newline, dash, atoms_word, bonds_word, bond_word, field, bond_line, starts, found, field_below, field_at, bond, bond_at}
use Rattle.housetext.specs.Text.{on_found, on_bond, Said, passes, refuses, Reading, bonds_from, reads}
use Rattle.housetext.proofs.Decimal.{decimal_length}
use Rattle.housetext.proofs.Fields.{field_sound}
use Rattle.housetext.proofs.Reading.{bond_sound}

-- the remainder of a beginning
drop_take : (i k : ℕ) (text : List ℕ) → i ≤ k → drop i (take k text) ≡ take (k - i) (drop i text)
drop_take zero k text h = let e : k ≡ k - 0 = omega arith in ap (λ (n : ℕ). take n text) e
drop_take (suc i) zero text h = absurd (omega arith)
drop_take (suc i) (suc k) [] h = sym (take-nil (suc k - suc i))
drop_take (suc i) (suc k) (x ∷ text) h =
    let e : k - i ≡ suc k - suc i = omega arith in drop_take i k text (omega arith) ∙ ap (λ (n : ℕ). take n (drop i text)) e

starts_beginning : (word text : List ℕ) (k : ℕ) → length word ≤ k → starts word (take k text) ≡ starts word text
unfolding starts
starts_beginning [] text k h = refl
starts_beginning (x ∷ word) text zero h = absurd (omega arith)
starts_beginning (x ∷ word) [] (suc k) h = refl
starts_beginning (x ∷ word) (y ∷ text) (suc k) h = ap (λ (b : Bool). cond (eqb x y) b false) (starts_beginning word text k (omega arith))

-- a number has at most three digits
field_long : (word : List ℕ) (end n : ℕ) → n ≤ 255 → length (field word end n) ≤ length word + 4
unfolding field
field_long word end n h = rw (length-append, length-append) (omega (arith, decimal_length 2 n (omega arith)))

module _ (word : List ℕ) (end : ℕ) (text : List ℕ) where
  below_beginning : (n k : ℕ) → n ≤ 256 → length word + 4 ≤ k → field_below n word end (take k text) ≡ field_below n word end text
  unfolding field_below
  below_beginning zero k h l = refl
  below_beginning (suc n) k h l =
      rw (starts_beginning (field word end n) text k (omega (arith, field_long word end n (omega arith))), below_beginning n k (omega arith) l)

  field_beginning : (k : ℕ) → length word + 4 ≤ k → field_at word end (take k text) ≡ field_at word end text
  unfolding field_at
  field_beginning k l = below_beginning 256 k (omega arith) l

  found_long : {n i : ℕ} → field_at word end text ≡ found n i → i ≤ length word + 4
  found_long {n} e = let w = field_sound word end text e in omega (arith, w.long, field_long word end n w.small)

bond_beginning : (text : List ℕ) (k : ℕ) → 13 ≤ k → bond_at (take k text) ≡ bond_at text
unfolding bond_at
bond_beginning text k h = rw (field_beginning bond_word dash text k (omega arith)) (go (field_at bond_word dash text) refl)
  where
    go : (f : Option Found) → field_at bond_word dash text ≡ f
        → on_found f None (λ a i. on_found (field_at [] newline (drop i (take k text))) None (λ b j. bond a b (i + j)))
        ≡ on_found f None (λ a i. on_found (field_at [] newline (drop i text)) None (λ b j. bond a b (i + j)))
    go None e = refl
    go (Some number) e =
        let i = number.next in
        let l = found_long bond_word dash text e in
        rw (drop_take i k text (omega arith), field_beginning [] newline (drop i text) (k - i) (omega arith))

-- a bond line has at most 13 bytes
bond_long : (text : List ℕ) {a b k : ℕ} → bond_at text ≡ bond a b k → k ≤ 13
unfolding bond_line
bond_long text {a} {b} {k} e =
    let w = bond_sound text e in
    let t = ap length w.there ∙ length-append (bond_line a b) (drop k text) in
    omega (
      arith,
      t,
      w.fits,
      length-drop k text,
      length-append (field bond_word dash a) (field [] newline b),
      field_long bond_word dash a w.first,
      field_long [] newline b w.second,
    )

-- the whole and its beginning give the same reading, and a line departs if the whole has more bytes than so many
record Begun (most : ℕ) (text : List ℕ) (whole beginning : Reading) : Type 0 where
  same : beginning ≡ whole
  departs : most < length text → (line : ℕ) × (whole.says ≡ refuses 10 line)

bonds_begun : (s : Said) (line left k : ℕ) (text done : List ℕ) → 13 * left < k
    → Begun (13 * left) text (bonds_from s line left text done) (bonds_from s line left (take k text) done)
unfolding bonds_from
bonds_begun s line zero zero text done h = absurd (omega arith)
bonds_begun s line zero (suc k) [] done h = record { same = refl; departs = λ l. absurd (omega arith) }
bonds_begun s line zero (suc k) (x ∷ text) done h = record { same = refl; departs = λ l. (line, refl) }
bonds_begun s line (suc left) k text done h =
    rw (bond_beginning text k (omega arith))
    (go (bond_at text) refl (λ a b i. bonds_begun s (line + 1) left (k - i) (drop i text) (done ++ a ∷ b ∷ [])))
  where
    go : (l : Option BondLine) → bond_at text ≡ l
        → ((a b i : ℕ) → 13 * left < k - i → Begun (13 * left) (drop i text) (bonds_from s (line + 1) left (drop i text) (done ++ a ∷ b ∷ []))
        (bonds_from s (line + 1) left (take (k - i) (drop i text)) (done ++ a ∷ b ∷ [])))
        → Begun (13 * suc left) text
        (on_bond l (record { says = refuses 10 line; bytes = done }) (λ a b i. bonds_from s (line + 1) left (drop i text) (done ++ a ∷ b ∷ [])))
        (on_bond l (record { says = refuses 10 line; bytes = done }) (λ a b i. bonds_from s (line + 1) left (drop i (take k text)) (done ++ a ∷ b ∷ [])))
    go None e more = record { same = refl; departs = λ l. (line, refl) }
    go (Some line) e more =
        let a = line.a in
        let b = line.b in
        let i = line.next in
        let n = bond_long text e in
        let w = more a b i (omega arith) in
        rw (drop_take i k text (omega arith)) (record { same = w.same; departs = λ l. w.departs (omega (arith, length-drop i text)) })

-- what follows the line of n atoms, which has i bytes
abbrev from_count : List ℕ → ℕ → ℕ → Reading
from_count text n i =
    on_found (field_at bonds_word newline (drop i text)) (record { says = refuses 10 2; bytes = [] })
    (λ m j. bonds_from (passes n m) 3 m (drop j (drop i text)) [])

reads_begun : (k : ℕ) (text : List ℕ) → 3335 < k → Begun 3335 text (reads text) (reads (take k text))
unfolding reads
reads_begun k text h = rw (field_beginning atoms_word newline text k (omega arith)) (first (field_at atoms_word newline text) refl)
  where
    second : (n i : ℕ) → i ≤ 10 → (f : Option Found) → field_at bonds_word newline (drop i text) ≡ f
        → Begun 3335 text
        (on_found f (record { says = refuses 10 2; bytes = [] }) (λ m j. bonds_from (passes n m) 3 m (drop j (drop i text)) []))
        (on_found f (record { says = refuses 10 2; bytes = [] }) (λ m j. bonds_from (passes n m) 3 m (drop j (take (k - i) (drop i text))) []))
    second n i l None e = record { same = refl; departs = λ more. (2, refl) }
    second n i l (Some number) e =
        let m = number.value in
        let j = number.next in
        let v = field_sound bonds_word newline (drop i text) e in
        let b = found_long bonds_word newline (drop i text) e in
        let w = bonds_begun (passes n m) 3 m (k - i - j) (drop j (drop i text)) [] (omega (arith, v.small)) in
        rw (drop_take j (k - i) (drop i text) (omega arith))
        (record {
          same = w.same;
          departs = λ more. w.departs (omega (arith, v.small, length-drop i text, length-drop j (drop i text)));
        })

    first : (f : Option Found) → field_at atoms_word newline text ≡ f
        → Begun 3335 text (on_found f (record { says = refuses 10 1; bytes = [] }) (from_count text))
        (on_found f (record { says = refuses 10 1; bytes = [] }) (from_count (take k text)))
    first None e = record { same = refl; departs = λ l. (1, refl) }
    first (Some number) e =
        let n = number.value in
        let i = number.next in
        let l = found_long atoms_word newline text e in
        rw (drop_take i k text (omega arith), field_beginning bonds_word newline (drop i text) (k - i) (omega arith))
        (second n i l (field_at bonds_word newline (drop i text)) refl)

-- a text says what its beginning says: 3,336 bytes are enough
pub reads_beginning : (k : ℕ) (text : List ℕ) → 3335 < k → reads (take k text) ≡ reads text
reads_beginning k text h = (reads_begun k text h).same

-- a text longer than any sound one departs: no sound text has more than 3,335 bytes
pub reads_long : (text : List ℕ) → 3335 < length text → (line : ℕ) × ((reads text).says ≡ refuses 10 line)
reads_long text h = (reads_begun 3336 text (omega arith)).departs h

-- and it departs at the same line as its beginning
pub reads_long_beginning : (k : ℕ) (text : List ℕ) → 3335 < k → 3335 < length text
    → (line : ℕ) × ((reads text).says ≡ refuses 10 line) × ((reads (take k text)).says ≡ refuses 10 line)
reads_long_beginning k text h l =
    let (line, e) = reads_long text l in (line, e, ap (λ (r : Reading). r.says) (reads_beginning k text h) ∙ e)
