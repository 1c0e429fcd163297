-- Reading line by line: the laws that the loop over the bond lines cites.
use mathlib.Core.Path.{◌≡◌, refl, sym, ap, ap₂, subst, ◌∙◌}
use mathlib.Core.List.{List, [], ◌∷◌, ◌++◌, append_assoc}
use Prim.Native.Nat.{ℕ, suc, ◌+◌, ◌-◌, ◌*◌, ◌<◌, ◌≤◌}
use native.Mathlib.Numerals.{add-one}
use native.Mathlib.Omega.{arith}
use lib.ListN.{length, take, drop, set, length-set, length-drop, take-append-drop}
use lib.Seq.{take-suc-set, drop-set-lt, drop-drop, length-take-le}
use Rattle.std.specs.Prelude.{Option, Some, None, Result, Ok, Err}
use Rattle.std.proofs.lemmas.Option.{none-some, same_Some}
use Rattle.housetext.specs.declared.Found.{Found}
use Rattle.housetext.specs.declared.BondLine.{BondLine}
use Rattle.housetext.specs.Text.{newline, dash, bond_word, field, found, field_at, bond, bond_at, bond_line}
use Rattle.housetext.specs.Text.{on_found, Said, passes, refuses, said, bonds_from, Reading, Answers}
use Rattle.housetext.specs.declared.Text.{Text}
use Rattle.housetext.specs.declared.Departure.{Departure}
use Rattle.housetext.proofs.Starts.{remainder}
use Rattle.housetext.proofs.Fields.{field_sound}

-- the text starts with the line of a bond
pub record Line (text : List ℕ) (a b k : ℕ) : Type 0 where
  pub first : a ≤ 255
  pub second : b ≤ 255
  pub there : text ≡ bond_line a b ++ drop k text
  pub fits : k ≤ length text

-- a bond line that is found is one, and ends at one place
bond_same : {a b k x y j : ℕ} → bond a b k ≡ bond x y j → (a ≡ x) × (b ≡ y) × (k ≡ j)
bond_same {a} {b} {k} {x} {y} {j} e =
    let same = same_Some (record { a = a; b = b; next = k }) (record { a = x; b = y; next = j }) e in
    (ap (λ (l : BondLine). l.a) same, ap (λ (l : BondLine). l.b) same, ap (λ (l : BondLine). l.next) same)

pub bond_sound : (text : List ℕ) {a b k : ℕ} → bond_at text ≡ bond a b k → Line text a b k
unfolding bond_at bond_line
bond_sound text {a} {b} {k} e = first (field_at bond_word dash text) refl e
  where
    none_bond : {A : Type 0} → None ≡ bond a b k → A
    none_bond e = absurd (none-some (record { a = a; b = b; next = k }) e)

    second : (x i : ℕ) → field_at bond_word dash text ≡ found x i → (f : Option Found) → field_at [] newline (drop i text) ≡ f
        → on_found f None (λ y j. bond x y (i + j)) ≡ bond a b k → Line text a b k
    second x i p None q e = none_bond e
    second x i p (Some number) q e =
        let y = number.value in
        let j = number.next in
        let u = field_sound bond_word dash text p in
        let w = field_sound [] newline (drop i text) q in
        let l : Line text x y (i + j) = record {
          first = u.small;
          second = w.small;
          there =
              u.there
              ∙ ap (λ (l : List ℕ). field bond_word dash x ++ l) (w.there ∙ ap (λ (l : List ℕ). field [] newline y ++ l) (drop-drop j i text))
              ∙ sym (append_assoc (field bond_word dash x) (field [] newline y) (drop (i + j) text));
          fits = omega (arith, rw (length-drop i text) at w.fits);
        } in
        let same = bond_same e in
        rw (← same.0, ← same.1, ← same.2) l

    first : (f : Option Found) → field_at bond_word dash text ≡ f
        → on_found f None (λ x i. on_found (field_at [] newline (drop i text)) None (λ y j. bond x y (i + j))) ≡ bond a b k → Line text a b k
    first None p e = none_bond e
    first (Some number) p e = second number.value number.next p (field_at [] newline (drop number.next text)) refl e

module _ (s : Said) (count k : ℕ) (rest done : List ℕ) where
  pub bonds_step : {a b next : ℕ} → k < count → bond_at rest ≡ bond a b next
      → bonds_from s (k + 3) (count - k) rest done ≡ bonds_from s (k + 1 + 3) (count - (k + 1)) (drop next rest) (done ++ a ∷ b ∷ [])
  unfolding bonds_from
  bonds_step h e =
      let m : count - k ≡ suc (count - (k + 1)) = omega arith in
      let l : k + 3 + 1 ≡ k + 1 + 3 = omega arith in
      rw (m, e, l)

  pub bonds_broken : k < count → bond_at rest ≡ None → bonds_from s (k + 3) (count - k) rest done ≡ record { says = refuses 10 (k + 3); bytes = done }
  unfolding bonds_from
  bonds_broken h e = let m : count - k ≡ suc (count - (k + 1)) = omega arith in rw (m, e)

pub bonds_end : (s : Said) (line : ℕ) (rest done : List ℕ) → length rest ≡ 0 → bonds_from s line 0 rest done ≡ record { says = s; bytes = done }
unfolding bonds_from
bonds_end s line [] done h = refl
bonds_end s line (x ∷ rest) done h = absurd (omega arith)

pub bonds_more : (s : Said) (line : ℕ) (rest done : List ℕ) → (length rest ≡ 0 → ⊥)
    → bonds_from s line 0 rest done ≡ record { says = refuses 10 line; bytes = done }
unfolding bonds_from
bonds_more s line [] done h = absurd (h refl)
bonds_more s line (x ∷ rest) done h = refl

-- two stores at places 2k and 2k + 1: what stands before and with them, and what stands after
pub stored_take : (l : List ℕ) (k a b : ℕ) → 2 * k + 1 < length l
    → take (2 * (k + 1)) (set (set l (2 * k) a) (2 * k + 1) b) ≡ take (2 * k) l ++ a ∷ b ∷ []
stored_take l k a b h =
    let e : 2 * (k + 1) ≡ suc (2 * k + 1) = omega arith in
    ap (λ (n : ℕ). take n (set (set l (2 * k) a) (2 * k + 1) b)) e
    ∙ take-suc-set (set l (2 * k) a) (2 * k + 1) b (rw length-set h)
    ∙ ap (λ (n : ℕ). take n (set l (2 * k) a) ++ b ∷ []) (add-one (2 * k))
    ∙ ap (λ (t : List ℕ). t ++ b ∷ []) (take-suc-set l (2 * k) a (omega arith))
    ∙ append_assoc (take (2 * k) l) (a ∷ []) (b ∷ [])

pub stored_drop : (l : List ℕ) (k a b : ℕ) → drop (2 * (k + 1)) (set (set l (2 * k) a) (2 * k + 1) b) ≡ drop (2 * (k + 1)) l
stored_drop l k a b =
    drop-set-lt (2 * (k + 1)) (set l (2 * k) a) (2 * k + 1) b (omega arith) ∙ drop-set-lt (2 * (k + 1)) l (2 * k) a (omega arith)

-- where the loop stands before bond k: the bytes of the bonds before are stored, and the text is read as far as the remainder says
pub record Along (text : List ℕ) (s : Said) (count : ℕ) (lent bonds rest : List ℕ) (k : ℕ) : Type 0 where
  pub within : k ≤ count
  pub long : length bonds ≡ length lent
  pub after : drop (2 * k) bonds ≡ drop (2 * k) lent
  pub reading : bonds_from s 3 count text [] ≡ bonds_from s (k + 3) (count - k) rest (take (2 * k) bonds)

pub along_none : (text : List ℕ) (s : Said) (count : ℕ) (lent : List ℕ) → Along text s count lent lent text 0
along_none text s count lent = record {
  within = omega arith;
  long = refl;
  after = refl;
  reading = let e : count ≡ count - 0 = omega arith in ap (λ (n : ℕ). bonds_from s 3 n text []) e;
}

module _ {text : List ℕ} {s : Said} {count : ℕ} {lent bonds rest : List ℕ} {k : ℕ}
    (w : Along text s count lent bonds rest k) (room : 2 * count ≤ length lent) where
  pub along_more : {a b next : ℕ} → k < count → bond_at rest ≡ bond a b next
      → Along text s count lent (set (set bonds (2 * k) a) (2 * k + 1) b) (take (length rest - next) (drop next rest)) (k + 1)
  along_more {a} {b} {next} h e = record {
    within = omega arith;
    long = simp length-set w.long;
    after =
        stored_drop bonds k a b
        ∙ ap (λ (n : ℕ). drop n bonds) two ∙ sym (drop-drop 2 (2 * k) bonds) ∙ ap (drop 2) w.after ∙ drop-drop 2 (2 * k) lent
        ∙ ap (λ (n : ℕ). drop n lent) (sym two);
    reading =
        w.reading
        ∙ bonds_step s count k rest (take (2 * k) bonds) h e
        ∙ rw (remainder rest next, stored_take bonds k a b (omega (arith, w.long)));
  }
    where
      two : 2 * (k + 1) ≡ 2 * k + 2
      two = omega arith

  stored : bonds ≡ take (2 * k) bonds ++ drop (length (take (2 * k) bonds)) lent
  stored =
      let e : length (take (2 * k) bonds) ≡ 2 * k = length-take-le (2 * k) bonds (omega (arith, w.long, w.within)) in
      sym (take-append-drop (2 * k) bonds) ∙ ap (λ (l : List ℕ). take (2 * k) bonds ++ l) (w.after ∙ ap (λ (n : ℕ). drop n lent) (sym e))

  answers : {t : Result Text Departure} → bonds_from s (k + 3) (count - k) rest (take (2 * k) bonds) ≡ record { says = said t; bytes = take (2 * k) bonds }
      → Answers (bonds_from s 3 count text []) t lent bonds
  answers e = rw (w.reading ∙ e) (record { says = refl; holds = stored })

  -- the three ways out
  pub answers_broken : k < count → bond_at rest ≡ None → Answers (bonds_from s 3 count text []) (Err (record { line = k + 3 })) lent bonds
  answers_broken h e = answers (bonds_broken s count k rest (take (2 * k) bonds) h e)

  pub answers_more : count ≤ k → (length rest ≡ 0 → ⊥) → Answers (bonds_from s 3 count text []) (Err (record { line = count + 3 })) lent bonds
  answers_more h n =
      let e : count - k ≡ 0 = omega arith in
      let l : k ≡ count = omega (arith, w.within) in
      subst (λ (m : ℕ). Answers (bonds_from s 3 count text []) (Err (record { line = m + 3 })) lent bonds) l
      (answers (rw e (bonds_more s (k + 3) rest (take (2 * k) bonds) n)))

pub answers_read : {text : List ℕ} {n count : ℕ} {lent bonds rest : List ℕ} {k : ℕ} → Along text (passes n count) count lent bonds rest k
    → 2 * count ≤ length lent → count ≤ k → length rest ≡ 0 → Answers (bonds_from (passes n count) 3 count text []) (Ok (record { atoms = n; bonds = count })) lent bonds
answers_read {text} {n} {count} {lent} {bonds} {rest} {k} w room h z =
    let e : count - k ≡ 0 = omega arith in
    answers w room (rw e (bonds_end (passes n count) (k + 3) rest (take (2 * k) bonds) z))

passes_same : (a b : Text) → passes a.atoms a.bonds ≡ passes b.atoms b.bonds → a ≡ b
passes_same a b e =
    let n : a.atoms ≡ b.atoms = cc in
    let m : a.bonds ≡ b.bonds = cc in
    ap₂ (λ (x y : ℕ). record { atoms = x; bonds = y }) n m

refuses_same : (a b : Departure) → refuses 10 a.line ≡ refuses 10 b.line → a ≡ b
refuses_same a b e = let l : a.line ≡ b.line = cc in ap (λ (x : ℕ). record { line = x }) l

said_injective : (a b : Result Text Departure) → said a ≡ said b → a ≡ b
said_injective (Ok a) (Ok b) e = ap Ok (passes_same a b e)
said_injective (Ok a) (Err b) e = let z : ◌≡◌ {A = ℕ} 0 1 = cc in absurd (omega arith)
said_injective (Err a) (Ok b) e = let z : ◌≡◌ {A = ℕ} 0 1 = cc in absurd (omega arith)
said_injective (Err a) (Err b) e = ap Err (refuses_same a b e)

-- a reading and a lent buffer leave one answer and one content of the buffer
pub answers_unique : {r : Reading} {a b : Result Text Departure} {lent x y : List ℕ} → Answers r a lent x → Answers r b lent y → (a ≡ b) × (x ≡ y)
answers_unique {r} {a} {b} u w = (said_injective a b (u.says ∙ sym w.says), u.holds ∙ sym w.holds)
