-- Fields of a text: the one that it starts with is found, and what is found is there.
use mathlib.Core.Path.{◌≡◌, refl, sym, ap, subst, ◌∙◌}
use mathlib.Core.Bool.{Bool, true, false, cond}
use mathlib.Core.List.{List, [], ◌∷◌, ◌++◌, append_assoc}
use mathlib.Core.Logic.{◌⊎◌, inl, inr}
use Prim.Native.Nat.{ℕ, zero, suc, ◌+◌, ◌<◌, ◌≤◌}
use native.Mathlib.Omega.{arith}
use lib.Dec.{eqb, ltb}
use lib.ListN.{length, get_or, take, drop, length-append}
use lib.Seq.{split_at, drop-append_seam, get_or-append_seam, length-take-le}
use borrow.Author.Tests.{eq-eqb, ne_eqb, lt-ltb, le-ltb}
use Rattle.std.specs.Prelude.{Option, Some, None}
use Rattle.std.specs.Cmp.Lexicographic.{pointwise}
use Rattle.housetext.specs.declared.Found.{Found}
use Rattle.housetext.specs.Decimal.{decimal}
use Rattle.housetext.specs.Scan.{scan}
use Rattle.housetext.specs.Text.{starts, field, found, field_below, field_at, on_found}
use Rattle.housetext.proofs.Decimal.{lt_or_ge}
use Rattle.housetext.proofs.Scan.{scan_complete, scan_sound, found_same, none_found}
use Rattle.housetext.proofs.Starts.{starts_pointwise, starts_append, starts_split, starts_two, starts_first, starts_length, false_not_true, same_or_not}

pub both : (b : Bool) → (b ≡ true) ⊎ (b ≡ false)
both true = inl refl
both false = inr refl

module _ (word : List ℕ) (end : ℕ) (text : List ℕ) where
  below_none : (k : ℕ) → ((n : ℕ) → n < k → starts (field word end n) text ≡ false) → field_below k word end text ≡ None
  unfolding field_below
  below_none zero h = refl
  below_none (suc k) h = rw (h k (omega arith)) (below_none k (λ n p. h n (omega arith)))

  below_one : (n : ℕ) → starts (field word end n) text ≡ true → ((m : ℕ) → m < 256 → starts (field word end m) text ≡ true → m ≡ n)
      → (k : ℕ) → k ≤ 256 → n < k → field_below k word end text ≡ found n (length (field word end n))
  unfolding field_below
  below_one n s only zero h p = absurd (omega arith)
  below_one n s only (suc k) h p = go (λ q. below_one n s only k (omega arith) q) (both (starts (field word end k) text))
    where
      go : (n < k → field_below k word end text ≡ found n (length (field word end n)))
          → (starts (field word end k) text ≡ true) ⊎ (starts (field word end k) text ≡ false)
          → field_below (suc k) word end text ≡ found n (length (field word end n))
      go less (inl q) = let e = only k (omega arith) q in rw q (rw e refl)
      go less (inr q) =
          rw q (less (strict (λ e. false_not_true (sym q ∙ rw e s))))
        where
          strict : (k ≡ n → ⊥) → n < k
          strict h = omega arith

  -- what `field_below` finds
  below_sound : {n j : ℕ} (k : ℕ) → field_below k word end text ≡ found n j
      → (n < k) × (starts (field word end n) text ≡ true) × (j ≡ length (field word end n))
  unfolding field_below
  below_sound zero e = none_found e
  below_sound {n} {j} (suc k) e = go (λ p. below_sound k p) (both (starts (field word end k) text))
    where
      Goal : ℕ → Type 0
      Goal k = (n < k) × (starts (field word end n) text ≡ true) × (j ≡ length (field word end n))

      go : (field_below k word end text ≡ found n j → Goal k)
          → (starts (field word end k) text ≡ true) ⊎ (starts (field word end k) text ≡ false) → Goal (suc k)
      go less (inl q) =
          let p = rw q at e in
          let same = found_same p in
          (omega (arith, same.0), rw (← same.0) q, sym same.1 ∙ ap (λ (n : ℕ). length (field word end n)) same.0)
      go less (inr q) = let w = less (rw q at e) in (omega arith, w.1, w.2)

module _ (end : ℕ) (low : end < 48) (text : List ℕ) where
  -- a number that the text starts with is the one found digit by digit, and its end stands after it
  starts_number : (n : ℕ) → n ≤ 255 → starts (field [] end n) text ≡ true → text ≡ decimal n ++ end ∷ drop (length (field [] end n)) text
  unfolding field
  starts_number n h s = starts_split (decimal n ++ end ∷ []) text s ∙ append_assoc (decimal n) (end ∷ []) (drop (length (decimal n ++ end ∷ [])) text)

  starts_scan : (n : ℕ) → n ≤ 255 → starts (field [] end n) text ≡ true → scan text ≡ found n (length (decimal n))
  starts_scan n h s = ap scan (starts_number n h s) ∙ scan_complete end low (drop (length (field [] end n)) text) n h

  -- where no number is found, or it is not ended so, there is no field
  ended_missing : scan text ≡ None → field_at [] end text ≡ None
  unfolding field_at
  ended_missing e = below_none [] end text 256 (λ n h. go n h (both (starts (field [] end n) text)))
    where
      go : (n : ℕ) → n < 256 → (starts (field [] end n) text ≡ true) ⊎ (starts (field [] end n) text ≡ false) → starts (field [] end n) text ≡ false
      go n h (inl s) = none_found (sym e ∙ starts_scan n (omega arith) s)
      go n h (inr s) = s

  ended_otherwise : {v k : ℕ} → scan text ≡ found v k → (k < length text → get_or text k 0 ≡ end → ⊥) → field_at [] end text ≡ None
  unfolding field_at
  ended_otherwise {v} {k} e differs = below_none [] end text 256 (λ n h. go n h (both (starts (field [] end n) text)))
    where
      there : (n : ℕ) → text ≡ decimal n ++ end ∷ drop (length (field [] end n)) text → length (decimal n) ≡ k → (k < length text) × (get_or text k 0 ≡ end)
      there n t e = (
        omega (arith, simp length-append at (ap length t)),
        ap (λ (l : List ℕ). get_or l k 0) t ∙ rw (← e) (get_or-append_seam (decimal n) end (drop (length (field [] end n)) text) 0),
      )

      go : (n : ℕ) → n < 256 → (starts (field [] end n) text ≡ true) ⊎ (starts (field [] end n) text ≡ false) → starts (field [] end n) text ≡ false
      go n h (inl s) =
          let p = starts_scan n (omega arith) s in
          let q = (found_same (sym p ∙ e)).1 in
          let w = there n (starts_number n (omega arith) s) q in
          absurd (differs w.0 w.1)
      go n h (inr s) = s

  field_only : (n : ℕ) → n ≤ 255 → starts (field [] end n) text ≡ true → field_at [] end text ≡ found n (length (field [] end n))
  unfolding field_at
  field_only n h s =
      below_one [] end text n s (λ m p q. (found_same (sym (starts_scan m (omega arith) q) ∙ starts_scan n h s)).0) 256 (omega arith) (omega arith)

  -- a number that is found and ended so is the field
  ended_value : {v k : ℕ} → scan text ≡ found v k → k < length text → get_or text k 0 ≡ end → field_at [] end text ≡ found v (k + 1)
  unfolding field
  ended_value {v} {k} e h q =
      let s = scan_sound text e in
      let t : text ≡ (decimal v ++ end ∷ []) ++ drop (suc k) text =
      split_at text k 0 h ∙ rw (s.there, q) (sym (append_assoc (decimal v) (end ∷ []) (drop (suc k) text))) in
      let j : length (decimal v ++ end ∷ []) ≡ k + 1 =
      length-append (decimal v) (end ∷ []) ∙ ap (λ (x : ℕ). x + 1) (sym (ap length s.there) ∙ length-take-le k text s.fits) in
      field_only v s.small (subst (λ (l : List ℕ). starts (decimal v ++ end ∷ []) l ≡ true) (sym t) (starts_append (decimal v ++ end ∷ []) (drop (suc k) text)))
      ∙ ap (found v) j

-- the number that a text starts with, ended by `end`: the one found digit by digit, if its end stands after it
pub ended_scan : (end : ℕ) (text : List ℕ) → end < 48 → field_at [] end text
    ≡ on_found (scan text) None (λ v k. cond (ltb k (length text)) (cond (eqb (get_or text k 0) end) (found v (k + 1)) None) None)
ended_scan end text low = go (scan text) refl
  where
    go : (s : Option Found) → scan text ≡ s
        → field_at [] end text ≡ on_found s None (λ v k. cond (ltb k (length text)) (cond (eqb (get_or text k 0) end) (found v (k + 1)) None) None)
    go None e = ended_missing end low text e
    go (Some number) e = within (lt_or_ge number.next (length text))
      where
        k : ℕ
        k = number.next

        there : k < length text → (get_or text k 0 ≡ end) ⊎ (get_or text k 0 ≡ end → ⊥)
            → field_at [] end text ≡ cond (eqb (get_or text k 0) end) (found number.value (k + 1)) None
        there h (inl p) = rw (eq-eqb (get_or text k 0) end p) (ended_value end low text e h p)
        there h (inr p) = rw (ne_eqb (get_or text k 0) end p) (ended_otherwise end low text e (λ _ q. p q))

        within : (k < length text) ⊎ (length text ≤ k)
            → field_at [] end text ≡ cond (ltb k (length text)) (cond (eqb (get_or text k 0) end) (found number.value (k + 1)) None) None
        within (inl h) = rw (lt-ltb k (length text) h) (there h (same_or_not (get_or text k 0) end))
        within (inr h) = rw (le-ltb k (length text) h) (ended_otherwise end low text e (λ p q. omega arith))

-- a field found so many bytes further on
abbrev pub shifted : ℕ → Option Found → Option Found
shifted j None = None
shifted j (Some number) = found number.value (j + number.next)

module _ (word : List ℕ) (end : ℕ) (text : List ℕ) where
  word_missing : starts word text ≡ false → field_at word end text ≡ None
  unfolding field field_at
  word_missing s = below_none word end text 256 (λ n h. starts_first word (decimal n ++ end ∷ []) text s)

  below_shifted : starts word text ≡ true → (k : ℕ)
      → field_below k word end text ≡ shifted (length word) (field_below k [] end (drop (length word) text))
  unfolding field field_below
  below_shifted s zero = refl
  below_shifted s (suc k) =
      rw (starts_two word (decimal k ++ end ∷ []) text s)
      (go (starts (decimal k ++ end ∷ []) (drop (length word) text)) (below_shifted s k))
    where
      go : (b : Bool) → field_below k word end text ≡ shifted (length word) (field_below k [] end (drop (length word) text))
          → cond b (found k (length (word ++ (decimal k ++ end ∷ [])))) (field_below k word end text)
          ≡ shifted (length word) (cond b (found k (length (decimal k ++ end ∷ []))) (field_below k [] end (drop (length word) text)))
      go true e = ap (found k) (length-append word (decimal k ++ end ∷ []))
      go false e = e

  -- after its word a field is a number
  word_found : starts word text ≡ true → field_at word end text ≡ shifted (length word) (field_at [] end (drop (length word) text))
  unfolding field_at
  word_found s = below_shifted s 256

-- a field is its word and then a number, so many bytes further on
pub field_stripped : (word : List ℕ) (end : ℕ) (text : List ℕ) → field_at word end text
    ≡ cond (pointwise eqb (take (length word) text) word) (shifted (length word) (field_at [] end (drop (length word) text))) None
field_stripped word end text = go (both (starts word text))
  where
    go : (starts word text ≡ true) ⊎ (starts word text ≡ false) → field_at word end text
        ≡ cond (pointwise eqb (take (length word) text) word) (shifted (length word) (field_at [] end (drop (length word) text))) None
    go (inl s) = rw (← starts_pointwise word text, s) (word_found word end text s)
    go (inr s) = rw (← starts_pointwise word text, s) (word_missing word end text s)

-- what it is that a field is found: the text starts with it
pub record Field (word : List ℕ) (end : ℕ) (text : List ℕ) (n k : ℕ) : Type 0 where
  pub small : n ≤ 255
  pub long : k ≡ length (field word end n)
  pub there : text ≡ field word end n ++ drop k text
  pub fits : k ≤ length text

pub field_sound : (word : List ℕ) (end : ℕ) (text : List ℕ) {n k : ℕ} → field_at word end text ≡ found n k → Field word end text n k
unfolding field_at
field_sound word end text {n} {k} e =
    let w = below_sound word end text 256 e in
    record {
      small = omega arith;
      long = w.2;
      there = rw w.2 (starts_split (field word end n) text w.1);
      fits = rw w.2 (starts_length (field word end n) text w.1);
    }

pub field_complete : (word : List ℕ) (end n : ℕ) (rest : List ℕ) → end < 48 → n ≤ 255
    → field_at word end (field word end n ++ rest) ≡ found n (length (field word end n))
unfolding field
field_complete word end n rest low h =
    let number : List ℕ = decimal n ++ end ∷ [] in
    let t : drop (length word) ((word ++ number) ++ rest) ≡ number ++ rest = rw (append_assoc word number rest) (drop-append_seam word (number ++ rest)) in
    word_found word end ((word ++ number) ++ rest) (rw (append_assoc word number rest) (starts_append word (number ++ rest)))
    ∙ rw (t, field_only end low (number ++ rest) n h (starts_append number rest)) (ap (found n) (sym (length-append word number)))
