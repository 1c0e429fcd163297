-- A number is found digit by digit exactly where its decimal stands.
use mathlib.Core.Path.{◌≡◌, refl, sym, ap, subst, ◌∙◌}
use mathlib.Core.List.{List, [], ◌∷◌, ◌++◌}
use mathlib.Core.Logic.{◌⊎◌, inl, inr}
use Prim.Native.Nat.{ℕ, zero, suc, ◌+◌, ◌-◌, ◌*◌, ◌/◌, ◌%◌, ◌<◌, ◌≤◌}
use native.Mathlib.Omega.{arith}
use lib.ListN.{length, get_or, take, get_or-eq_default}
use borrow.Author.Tests.{lt-ltb, le-ltb}
use Rattle.std.specs.Prelude.{Option, Some, None}
use Rattle.std.proofs.lemmas.Option.{none-some, same_Some}
use Rattle.housetext.specs.declared.Found.{Found}
use Rattle.housetext.specs.Decimal.{decimal}
use Rattle.housetext.specs.Scan.{digit, digit_at, scanned, scan}
use Rattle.housetext.specs.Text.{found}
use Rattle.housetext.proofs.Decimal.{lt_or_ge, decimal_small, decimal_two, decimal_three}

-- what each case of `scanned` needs
pub scanned_none : (b c : Option ℕ) → scanned None b c ≡ None
unfolding scanned
scanned_none b c = refl

pub scanned_zero : (a : ℕ) (b c : Option ℕ) → a ≡ 0 → scanned (Some a) b c ≡ found 0 1
unfolding scanned
scanned_zero a b c h = rw h

pub scanned_one : (a : ℕ) (c : Option ℕ) → 0 < a → scanned (Some a) None c ≡ found a 1
unfolding scanned
scanned_one zero c h = absurd (omega arith)
scanned_one (suc a) c h = refl

pub scanned_two : (a b : ℕ) → 0 < a → scanned (Some a) (Some b) None ≡ found (10 * a + b) 2
unfolding scanned
scanned_two zero b h = absurd (omega arith)
scanned_two (suc a) b h = refl

pub scanned_above : (a b c : ℕ) → 0 < a → 255 < 100 * a + 10 * b + c → scanned (Some a) (Some b) (Some c) ≡ None
unfolding scanned
scanned_above zero b c h l = absurd (omega arith)
scanned_above (suc a) b c h l = rw (lt-ltb 255 (100 * suc a + 10 * b + c) l)

pub scanned_three : (a b c : ℕ) → 0 < a → 100 * a + 10 * b + c ≤ 255 → scanned (Some a) (Some b) (Some c) ≡ found (100 * a + 10 * b + c) 3
unfolding scanned
scanned_three zero b c h l = absurd (omega arith)
scanned_three (suc a) b c h l = rw (le-ltb 255 (100 * suc a + 10 * b + c) l)

-- a number that is found is one, and ends at one place
pub found_same : {n k m j : ℕ} → found n k ≡ found m j → (n ≡ m) × (k ≡ j)
found_same {n} {k} {m} {j} e =
    let same = same_Some (record { value = n; next = k }) (record { value = m; next = j }) e in
    (ap (λ (f : Found). f.value) same, ap (λ (f : Found). f.next) same)

pub none_found : {A : Type 0} {n k : ℕ} → None ≡ found n k → A
none_found {n = n} {k = k} e = absurd (none-some (record { value = n; next = k }) e)

-- the cases together
pub ruleset scanned_cases = (scanned_none, scanned_zero, scanned_one, scanned_two, scanned_above, scanned_three)

digit_of : (d : ℕ) → d < 10 → digit (d + 48) ≡ Some d
unfolding digit
digit_of d h = let e : d + 48 - 48 ≡ d = omega arith in rw (le-ltb (d + 48) 48 (omega arith), le-ltb 57 (d + 48) (omega arith), e)

digit_low : (e : ℕ) → e < 48 → digit e ≡ None
unfolding digit
digit_low e h = rw (lt-ltb e 48 h)

-- a byte that is a digit is that digit's
digit_byte : (b : ℕ) {d : ℕ} → digit b ≡ Some d → (b ≡ d + 48) × (d < 10)
unfolding digit
digit_byte b {d} h = go (lt_or_ge b 48) (lt_or_ge 57 b)
  where
    go : (b < 48) ⊎ (48 ≤ b) → (57 < b) ⊎ (b ≤ 57) → (b ≡ d + 48) × (d < 10)
    go (inl p) q = absurd (none-some d (rw (lt-ltb b 48 p) at h))
    go (inr p) (inl q) = absurd (none-some d (rw (le-ltb b 48 p, lt-ltb 57 b q) at h))
    go (inr p) (inr q) = let e : b - 48 ≡ d = same_Some (b - 48) d (rw (le-ltb b 48 p, le-ltb 57 b q) at h) in (omega arith, omega arith)

module _ (end : ℕ) (low : end < 48) (rest : List ℕ) where
  scan_one : (d : ℕ) → d < 10 → scan ((d + 48) ∷ end ∷ rest) ≡ found d 1
  unfolding scan digit_at
  scan_one d h = rw (digit_of d h, digit_low end low) (go d h)
    where
      go : (d : ℕ) → d < 10 → scanned (Some d) None (digit (get_or rest 0 0)) ≡ found d 1
      go zero h = scanned_zero 0 None (digit (get_or rest 0 0)) refl
      go (suc d) h = scanned_one (suc d) (digit (get_or rest 0 0)) (omega arith)

  scan_two : (a b : ℕ) → 0 < a → a < 10 → b < 10 → scan ((a + 48) ∷ (b + 48) ∷ end ∷ rest) ≡ found (10 * a + b) 2
  unfolding scan digit_at
  scan_two a b p q r = rw (digit_of a q, digit_of b r, digit_low end low) (scanned_two a b p)

  scan_three : (a b c : ℕ) → 0 < a → a < 10 → b < 10 → c < 10 → 100 * a + 10 * b + c ≤ 255
      → scan ((a + 48) ∷ (b + 48) ∷ (c + 48) ∷ end ∷ rest) ≡ found (100 * a + 10 * b + c) 3
  unfolding scan digit_at
  scan_three a b c p q r s t = rw (digit_of a q, digit_of b r, digit_of c s) (scanned_three a b c p t)

  Finds : ℕ → Type 0
  Finds n = scan (decimal n ++ end ∷ rest) ≡ found n (length (decimal n))

  -- a number that stands at the start of a text, ended by a byte below the digits, is found
  pub scan_complete : (n : ℕ) → n ≤ 255 → scan (decimal n ++ end ∷ rest) ≡ found n (length (decimal n))
  unfolding Finds
  scan_complete n h = go (lt_or_ge n 10) (lt_or_ge n 100)
    where
      two : (a b : ℕ) → 0 < a → a < 10 → b < 10 → Finds (10 * a + b)
      two a b p q r = rw (decimal_two a b p q r) (scan_two a b p q r)

      three : (a b c : ℕ) → 0 < a → a < 10 → b < 10 → c < 10 → 100 * a + 10 * b + c ≤ 255 → Finds (100 * a + 10 * b + c)
      three a b c p q r s t = rw (decimal_three a b c p q r s) (scan_three a b c p q r s t)

      go : (n < 10) ⊎ (10 ≤ n) → (n < 100) ⊎ (100 ≤ n) → Finds n
      go (inl p) q = rw (decimal_small n p) (scan_one n p)
      go (inr p) (inl q) =
          let e : 10 * (n / 10) + n % 10 ≡ n = omega arith in
          subst Finds e (two (n / 10) (n % 10) (omega arith) (omega arith) (omega arith))
      go (inr p) (inr q) =
          let e : 100 * (n / 100) + 10 * (n / 10 % 10) + n % 10 ≡ n = omega arith in
          subst Finds e (three (n / 100) (n / 10 % 10) (n % 10) (omega arith) (omega arith) (omega arith) (omega arith) (omega arith))

-- the number n, of at most 255, stands in the first k bytes
pub record Stands (text : List ℕ) (n k : ℕ) : Type 0 where
  pub small : n ≤ 255
  pub there : take k text ≡ decimal n
  pub fits : k ≤ length text

-- a place with a digit is within the text, and has that digit's byte
record Digit (text : List ℕ) (i d : ℕ) : Type 0 where
  byte : get_or text i 0 ≡ d + 48
  small : d < 10
  within : i < length text

digit_there : (text : List ℕ) (i : ℕ) {d : ℕ} → digit_at text i ≡ Some d → Digit text i d
unfolding digit_at
digit_there text i {d} h = let w = digit_byte (get_or text i 0) h in record { byte = w.0; small = w.1; within = go w.0 (lt_or_ge i (length text)) }
  where
    go : get_or text i 0 ≡ d + 48 → (i < length text) ⊎ (length text ≤ i) → i < length text
    go e (inl p) = p
    go e (inr p) = absurd (omega (arith, get_or-eq_default text 0 p))

take_one : (t : List ℕ) → 0 < length t → take 1 t ≡ get_or t 0 0 ∷ []
take_one [] h = absurd (omega arith)
take_one (x ∷ t) h = refl

take_two : (t : List ℕ) → 1 < length t → take 2 t ≡ get_or t 0 0 ∷ get_or t 1 0 ∷ []
take_two [] h = absurd (omega arith)
take_two (x ∷ t) h = ap (λ (l : List ℕ). x ∷ l) (take_one t (omega arith))

take_three : (t : List ℕ) → 2 < length t → take 3 t ≡ get_or t 0 0 ∷ get_or t 1 0 ∷ get_or t 2 0 ∷ []
take_three [] h = absurd (omega arith)
take_three (x ∷ t) h = ap (λ (l : List ℕ). x ∷ l) (take_two t (omega arith))

-- a number found stands at the start of the text
pub scan_sound : (text : List ℕ) {n k : ℕ} → scan text ≡ found n k → Stands text n k
unfolding scan scanned
scan_sound text {n} {k} e = first (digit_at text 0) (digit_at text 1) (digit_at text 2) refl refl refl e
  where
    as_found : (m j : ℕ) {r : Option Found} → r ≡ found n k → r ≡ found m j → Stands text m j → Stands text n k
    as_found m j e p s = let same = found_same (sym p ∙ e) in rw (← same.0, ← same.1) s

    never : {A : Type 0} {r : Option Found} → r ≡ found n k → r ≡ None → A
    never e p = none_found (sym p ∙ e)

    three : (a b c : ℕ) → 0 < a → digit_at text 0 ≡ Some a → digit_at text 1 ≡ Some b → digit_at text 2 ≡ Some c → scanned (Some a) (Some b) (Some c) ≡ found n k
        → (255 < 100 * a + 10 * b + c) ⊎ (100 * a + 10 * b + c ≤ 255) → Stands text n k
    three a b c q p r s e (inl t) = never e (scanned_above a b c q t)
    three a b c q p r s e (inr t) =
        let u = digit_there text 0 p in
        let v = digit_there text 1 r in
        let w = digit_there text 2 s in
        as_found (100 * a + 10 * b + c) 3 e (scanned_three a b c q t)
        (record {
          small = t;
          there = take_three text w.within ∙ rw (u.byte, v.byte, w.byte) (sym (decimal_three a b c q u.small v.small w.small));
          fits = w.within;
        })

    two : (a b : ℕ) (z : Option ℕ) → 0 < a → digit_at text 0 ≡ Some a → digit_at text 1 ≡ Some b → digit_at text 2 ≡ z → scanned (Some a) (Some b) z ≡ found n k → Stands text n k
    two a b None q p r s e =
        let u = digit_there text 0 p in
        let v = digit_there text 1 r in
        as_found (10 * a + b) 2 e (scanned_two a b q)
        (record {
          small = omega (arith, u.small, v.small);
          there = take_two text v.within ∙ rw (u.byte, v.byte) (sym (decimal_two a b q u.small v.small));
          fits = v.within;
        })
    two a b (Some c) q p r s e = three a b c q p r s e (lt_or_ge 255 (100 * a + 10 * b + c))

    one : (a : ℕ) (y z : Option ℕ) → digit_at text 0 ≡ Some a → digit_at text 1 ≡ y → digit_at text 2 ≡ z → scanned (Some a) y z ≡ found n k
        → (0 < a) ⊎ (a ≤ 0) → Stands text n k
    one a y z p r s e (inr q) =
        let u = digit_there text 0 p in
        let h : a ≡ 0 = omega arith in
        as_found 0 1 e (scanned_zero a y z h)
        (record {
          small = omega arith;
          there = take_one text u.within ∙ rw (u.byte, h) (sym (decimal_small 0 (omega arith)));
          fits = u.within;
        })
    one a None z p r s e (inl q) =
        let u = digit_there text 0 p in
        as_found a 1 e (scanned_one a z q)
        (record {
          small = omega (arith, u.small);
          there = take_one text u.within ∙ rw u.byte (sym (decimal_small a u.small));
          fits = u.within;
        })
    one a (Some b) z p r s e (inl q) = two a b z q p r s e

    first : (x y z : Option ℕ) → digit_at text 0 ≡ x → digit_at text 1 ≡ y → digit_at text 2 ≡ z → scanned x y z ≡ found n k → Stands text n k
    first None y z p r s e = never e refl
    first (Some a) y z p r s e = one a y z p r s e (lt_or_ge 0 a)
