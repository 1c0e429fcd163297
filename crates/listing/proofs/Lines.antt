-- The lines of an answer, the room that they need, and what a text that is read says.
use mathlib.Core.Path.{◌≡◌, sym, ap, subst, ◌∙◌}
use mathlib.Core.List.{List}
use Prim.Native.Nat.{ℕ, ◌*◌, ◌<◌, ◌≤◌}
use native.Mathlib.Omega.{arith}
use lib.ListN.{length, take, get_or, replicate, length-replicate}
use lib.Seq.{take-append_seam}
use Rattle.std.specs.Prelude.{Option, Some, None, IfSome, Result, Ok, Err}
use Rattle.housetext.specs.declared.Text.{Text}
use Rattle.housetext.specs.declared.Departure.{Departure}
use Rattle.housetext.specs.Text.{Said, passes, refuses, said, Reading, reads, Answers}
use Rattle.listingtext.specs.Listing.{Wrote, listing, refusal}
use Rattle.housetext.proofs.RoundTrip.{Says, text_of_reads}
use Rattle.housetext.proofs.Beginning.{reads_beginning}
use Rattle.answers.specs.Answered.{Told, full, refused, Answered, by_input, by_rows, by_class_rows, by_rings, in_full}
use Rattle.rings.specs.Calls.{Answer, told}
use Rattle.listing.specs.Listed.{lines_of, families_in, classes_in, Printed, departs, answers, Listed}

module _ (n m : ℕ) (rows sizes class_rows : List ℕ) {lent left : List ℕ} {end : ℕ} {t : Told} where
  pub wrote_refused : {number at : ℕ} → t ≡ refused number at → Wrote lent 0 (refusal number at) left end
      → Wrote lent 0 (lines_of n m rows sizes class_rows t) left end
  unfolding lines_of
  wrote_refused e w = rw e w

  pub wrote_full : {y f c l r s : ℕ} → t ≡ full y f c l r s
      → Wrote lent 0
      (listing (record { atoms = n; bonds = m; cyclomatic = y; families = f; classes = c; total = l; rings = r }) rows sizes class_rows) left end
      → Wrote lent 0 (lines_of n m rows sizes class_rows t) left end
  unfolding lines_of
  wrote_full e w = rw e w

pub families_full : {t : Told} {y f c l r s : ℕ} → t ≡ full y f c l r s → families_in t ≡ f
unfolding families_in
families_full e = ap families_in e

pub classes_full : {t : Told} {y f c l r s : ℕ} → t ≡ full y f c l r s → classes_in t ≡ c
unfolding classes_in
classes_full e = ap classes_in e

-- an answer fits 4,096 family rows and 82 class rows
pub record Room (t : Told) : Type 0 where
  pub families : families_in t ≤ 4096
  pub classes : classes_in t ≤ 82

answered_room : {n i : ℕ} {bonds rows class_rows rows' class_rows' : List ℕ} {t : Told} → Answered n bonds rows class_rows i t rows' class_rows'
    → length class_rows ≡ 410 → Room t
unfolding families_in classes_in
answered_room (by_input a) h = record { families = omega arith; classes = omega arith }
answered_room (by_rows a b c) h = record { families = omega arith; classes = omega arith }
answered_room (by_class_rows a b c d) h = record { families = omega arith; classes = omega arith }
answered_room (by_rings a b c d e) h = record { families = omega arith; classes = omega arith }
answered_room (in_full a b c d e) h = record { families = omega arith; classes = omega arith }

-- the size asked for changes no room
room_told : (a : Answer) (s : ℕ) → Room (told a s) → Room (told a 0)
unfolding told families_in classes_in
room_told (Ok f) s w = record { families = w.families; classes = w.classes }
room_told (Err r) s w = w

pub answer_room : {n i : ℕ} {bonds rows rows' class_rows' : List ℕ} (a : Answer) (s : ℕ)
    → Answered n bonds rows (replicate 410 0) i (told a s) rows' class_rows' → Room (told a 0)
answer_room a s w = room_told a s (answered_room w (length-replicate {A = ℕ} 410 0))

-- what a text that is read says, and where its bond bytes stand
pub record Sound (text : List ℕ) (n m : ℕ) (left : List ℕ) : Type 0 where
  pub says : (reads text).says ≡ passes n m
  pub few : m ≤ 255
  pub bytes : take (2 * m) left ≡ (reads text).bytes

pub read_sound : {text lent left : List ℕ} {r : Result Text Departure} {t : Text} → Answers (reads text) r lent left → r ≡ Ok t
    → Sound text t.atoms t.bonds left
read_sound {text} {lent} {left} {r} {t} a e =
    let s : (reads text).says ≡ passes t.atoms t.bonds = sym a.says ∙ ap said e in
    let w : Says text t.atoms t.bonds (reads text).bytes =
    text_of_reads text t.atoms t.bonds (reads text).bytes (ap (λ (s : Said). record { says = s; bytes = (reads text).bytes }) s) in
    record {
      says = s;
      few = w.bonds;
      bytes =
          ap (λ (k : ℕ). take k left) (sym w.count)
          ∙ ap (take (length (reads text).bytes)) a.holds
          ∙ take-append_seam (reads text).bytes _;
    }

pub read_departs : (text : List ℕ) {lent left : List ℕ} {r : Result Text Departure} {d : Departure} → Answers (reads text) r lent left → r ≡ Err d
    → (reads text).says ≡ refuses 10 d.line
read_departs text a e = sym a.says ∙ ap said e

-- the answer to what a text says is what is printed
pub printed_answer : {text left : List ℕ} {n m : ℕ} (a : Answer) (rows sizes class_rows : List ℕ) → Sound text n m left
    → ((j : ℕ) → j < length {A = ℕ} (replicate 4096 0)
    → Answered n (take (2 * m) left) (replicate 32768 0) (replicate 410 0) j (told a (get_or sizes j 0)) rows class_rows)
    → Printed text (lines_of n m rows sizes class_rows (told a 0))
printed_answer a rows sizes class_rows w f =
    answers a rows sizes class_rows w.says (λ j h. rw (← w.bytes) (f j (subst (λ (k : ℕ). j < k) (sym (length-replicate {A = ℕ} 4096 0)) h)))

-- what is printed for the first 4,096 bytes of a text is what is to be printed for the text
printed_whole : {text lines : List ℕ} → Printed (take 4096 text) lines → Printed text lines
printed_whole {text} p = go p (reads_beginning 4096 text (omega arith))
  where
    go : {lines : List ℕ} → Printed (take 4096 text) lines → reads (take 4096 text) ≡ reads text → Printed text lines
    go (departs e) same = departs (ap (λ (r : Reading). r.says) (sym same) ∙ e)
    go (answers {atoms = n} a rows sizes class_rows e f) same =
        answers a rows sizes class_rows (ap (λ (r : Reading). r.says) (sym same) ∙ e)
        (λ j h.
        subst (λ (r : Reading). Answered n r.bytes (replicate 32768 0) (replicate 410 0) j (told a (get_or sizes j 0)) rows class_rows) same (f j h))

-- the program may stop reading after 4,096 bytes
pub listed_whole : {text lent left : List ℕ} {end : ℕ} → Listed (take 4096 text) lent left end → Listed text lent left end
listed_whole w = record { lines = w.lines; printed = printed_whole w.printed; wrote = w.wrote }

-- so what is read of an input is enough for it, where the input's bytes are known
pub listed_input : (known : Option (List ℕ)) {text lent left : List ℕ} {end : ℕ} → IfSome known (λ (bytes : List ℕ). text ≡ take 4096 bytes)
    → Listed text lent left end → IfSome known (λ (bytes : List ℕ). Listed bytes lent left end)
listed_input None h w = tt
listed_input (Some bytes) h w = listed_whole (rw h at w)
