-- Laws of writing: one piece after another, and how long the pieces are.
use mathlib.Core.Path.{◌≡◌, refl, sym, ap, ◌∙◌}
use mathlib.Core.List.{List, [], ◌∷◌, ◌++◌, append_assoc}
use Prim.Native.Nat.{ℕ, suc, ◌+◌, ◌-◌, ◌*◌, ◌%◌, ◌<◌, ◌≤◌}
use native.Mathlib.Nat.{add-zero, add_comm, add-sub_cancel_left}
use native.Mathlib.Numerals.{add-one}
use native.Mathlib.Omega.{arith}
use lib.ListN.{length, get_or, take, drop, set, length-append}
use lib.Seq.{sets, take-suc}
use borrow.Rule.Slice.PartMut.{put_mid}
use Rattle.std.proofs.lemmas.List.{drop-drop}
use Rattle.std.proofs.lemmas.List.Edits.{sets-eq}
use Rattle.std.proofs.lemmas.Fmt.{decimal_by_steps}
use Rattle.std.specs.Fmt.{decimal as printed}
use borrow.Author.Tests.{ne_eqb}
use Rattle.housetext.specs.Decimal.{decimal}
use Rattle.housetext.specs.Text.{newline, dash}
use Rattle.listingtext.specs.Listing.{Wrote, comma, commas, joined, cross, family_word, class_word, family_line, class_line, row_of, family_lines, class_lines}
use Rattle.listingtext.specs.Page.{Adds}
use Rattle.listingtext.specs.declared.Page.{Page}
use Rattle.housetext.proofs.Decimal.{decimal_length, decimal_small, decimal_step}

sets_append : (xs ys l : List ℕ) (i : ℕ) → sets (sets l i xs) (i + length xs) ys ≡ sets l i (xs ++ ys)
sets_append [] ys l i = rw (add-zero i)
sets_append (x ∷ xs) ys l i =
    let e : i + suc (length xs) ≡ suc i + length xs = omega arith in
    rw e (sets_append xs ys (set l i x) (suc i))

pub adds_none : (p : Page) → Adds p [] p
adds_none p = record { wrote = record { stored = refl; next = omega arith }; buffer = refl; room = refl }

-- a word that is copied to its place
pub wrote_copied : (l : List ℕ) (at : ℕ) (word copy : List ℕ) → copy ≡ word → at + length word ≤ length l
    → Wrote l at word (put_mid at (at + length word - at) l copy) (at + length word)
wrote_copied l at word copy e h = record { stored = rw (e, add-sub_cancel_left at (length word), drop-drop (length word) at l) (sym (sets-eq word l at h ∙ append_assoc (take at l) word _)); next = refl }

-- one piece and then another
pub adds_then : {p q r : Page} {xs ys : List ℕ} → Adds p xs q → Adds q ys r → Adds p (xs ++ ys) r
adds_then {p} {q} {r} {xs} {ys} u w = record {
  wrote = record {
    stored = w.wrote.stored ∙ rw (u.wrote.stored, u.wrote.next) (sets_append xs ys p.out.now p.at);
    next = omega (arith, length-append xs ys, u.wrote.next, w.wrote.next);
  };
  buffer = w.buffer ∙ u.buffer;
  room = w.room ∙ u.room;
}

-- one piece by another name
pub adds_as : {p q : Page} {xs ys : List ℕ} → xs ≡ ys → Adds p xs q → Adds p ys q
adds_as e w = rw e at w

-- how long numbers in decimal are: of one byte, of two, and of eight
pub decimal_byte : (x : ℕ) → x ≤ 255 → length (decimal x) ≤ 3
decimal_byte x h = decimal_length 2 x (omega arith)

pub decimal_pair : (x : ℕ) → x < 65536 → length (decimal x) ≤ 5
decimal_pair x h = decimal_length 4 x (omega arith)

pub decimal_word : (x : ℕ) → x < 18446744073709551616 → length (decimal x) ≤ 20
decimal_word x h = decimal_length 19 x (omega arith)

-- what the kit prints of a number is the number in decimal
pub printed_decimal : (x : ℕ) → x < 18446744073709551616 → printed x ≡ decimal x
printed_decimal =
    decimal_by_steps (λ n ds. ds ≡ decimal n)
    (λ n h. rw (decimal_small n h, add_comm n 48) refl)
    (λ n ds h e. rw (e, decimal_step n h, add_comm (n % 10) 48) refl)

-- those four
pub ruleset decimals = (decimal_byte, decimal_pair, decimal_word, printed_decimal)

-- one field more
pub commas_more : {p q r : Page} (xs : List ℕ) (i x : ℕ) → i < length xs → x ≡ get_or xs i 0 → Adds p (commas (take i xs)) q
    → Adds q (decimal x ++ comma ∷ []) r → Adds p (commas (take (i + 1) xs)) r
unfolding commas
commas_more xs i x h e u w = adds_as (sym (rw (add-one i, take-suc xs i 0 h, e) (snoc (take i xs) (get_or xs i 0)))) (adds_then u w)
  where
    snoc : (ys : List ℕ) (y : ℕ) → commas (ys ++ y ∷ []) ≡ commas ys ++ (decimal y ++ comma ∷ [])
    snoc [] y = refl
    snoc (x ∷ ys) y = ap (λ (l : List ℕ). decimal x ++ (comma ∷ l)) (snoc ys y) ∙ sym (append_assoc (decimal x) (comma ∷ commas ys) (decimal y ++ comma ∷ []))

-- atom x or a dash, with a comma
pub cross_odd : (x : ℕ) → x ≡ 255 → dash ∷ comma ∷ [] ≡ cross x ++ comma ∷ []
unfolding cross
cross_odd x e = rw e

pub cross_even : (x y : ℕ) → (x ≡ 255 → ⊥) → y ≡ x → decimal y ++ comma ∷ [] ≡ cross x ++ comma ∷ []
unfolding cross
cross_even x y n e = rw (ne_eqb x 255 n, e)

-- a family's line, piece by piece
pub family_pieces : (row : List ℕ) (size : ℕ) → 7 ≤ length row
    → family_word ++ (commas (take 4 row) ++ ((cross (get_or row 4 0) ++ comma ∷ []) ++ (commas (take 2 (drop 5 row)) ++ (decimal size ++ newline ∷ []))))
    ≡ family_line row size
unfolding commas joined family_line
family_pieces [] size h = absurd (omega arith)
family_pieces (a ∷ []) size h = absurd (omega arith)
family_pieces (a ∷ b ∷ []) size h = absurd (omega arith)
family_pieces (a ∷ b ∷ c ∷ []) size h = absurd (omega arith)
family_pieces (a ∷ b ∷ c ∷ d ∷ []) size h = absurd (omega arith)
family_pieces (a ∷ b ∷ c ∷ d ∷ x ∷ []) size h = absurd (omega arith)
family_pieces (a ∷ b ∷ c ∷ d ∷ x ∷ e ∷ []) size h = absurd (omega arith)
family_pieces (a ∷ b ∷ c ∷ d ∷ x ∷ e ∷ f ∷ row) size h = simp append_assoc

-- a class's line, piece by piece
pub class_pieces : (class : ℕ) (row : List ℕ) (families mark : ℕ) → 5 ≤ length row → families ≡ get_or row 2 0 + 256 * get_or row 3 0 → mark ≡ get_or row 4 0
    → class_word ++ ((decimal class ++ comma ∷ []) ++ (commas (take 2 row) ++ ((decimal families ++ comma ∷ []) ++ (decimal mark ++ newline ∷ []))))
    ≡ class_line class row
unfolding commas joined class_line
class_pieces class [] families mark h p q = absurd (omega arith)
class_pieces class (a ∷ []) families mark h p q = absurd (omega arith)
class_pieces class (a ∷ b ∷ []) families mark h p q = absurd (omega arith)
class_pieces class (a ∷ b ∷ c ∷ []) families mark h p q = absurd (omega arith)
class_pieces class (a ∷ b ∷ c ∷ d ∷ []) families mark h p q = absurd (omega arith)
class_pieces class (a ∷ b ∷ c ∷ d ∷ e ∷ row) families mark h p q = rw (p, q) (simp append_assoc)

-- one family's line more
pub families_more : {p q r : Page} {row : List ℕ} {size : ℕ} (rows sizes : List ℕ) (k : ℕ) → row ≡ row_of 8 rows k → size ≡ get_or sizes k 0
    → Adds p (family_lines rows sizes k) q → Adds q (family_line row size) r → Adds p (family_lines rows sizes (k + 1)) r
unfolding family_lines
families_more rows sizes k e f u w = rw (add-one k) (adds_then u (rw (e, f) at w))

-- one class's line more
pub classes_more : {p q r : Page} {row : List ℕ} {class : ℕ} (rows : List ℕ) (k : ℕ) → class ≡ k → row ≡ row_of 5 rows k
    → Adds p (class_lines rows k) q → Adds q (class_line class row) r → Adds p (class_lines rows (k + 1)) r
unfolding class_lines
classes_more rows k f e u w = rw (add-one k) (adds_then u (rw (f, e) at w))
