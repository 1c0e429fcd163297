-- What is read of a compound's text is the compound, and a text that is read is that compound's.
use mathlib.Core.Path.{◌≡◌, refl, sym, ap, ◌∙◌}
use mathlib.Core.List.{List, [], ◌∷◌, ◌++◌, append_assoc, append-nil}
use Prim.Native.Nat.{ℕ, zero, suc, ◌+◌, ◌*◌, ◌/◌, ◌≤◌}
use native.Mathlib.Omega.{arith}
use lib.ListN.{length, drop, length-append}
use lib.Seq.{drop-append_seam}
use Rattle.std.specs.Prelude.{Option, Some, None}
use Rattle.housetext.specs.declared.Found.{Found}
use Rattle.housetext.specs.declared.BondLine.{BondLine}
use Rattle.housetext.specs.Text.{newline, dash, atoms_word, bonds_word, bond_word, field, bond_line, bond_lines, text_of, found, field_at, bond, bond_at}
use Rattle.housetext.specs.Text.{on_found, on_bond, Said, passes, refuses, Reading, bonds_from, reads, Bytes}
use Rattle.housetext.proofs.Fields.{field_sound, field_complete}
use Rattle.housetext.proofs.Reading.{bond_sound}

pub bond_complete : (a b : ℕ) (rest : List ℕ) → a ≤ 255 → b ≤ 255 → bond_at (bond_line a b ++ rest) ≡ bond a b (length (bond_line a b))
unfolding bond_at bond_line
bond_complete a b rest p q =
    let x : List ℕ = field bond_word dash a in
    let y : List ℕ = field [] newline b in
    rw (append_assoc x y rest, field_complete bond_word dash a (y ++ rest) (omega arith) p, drop-append_seam x (y ++ rest))
    (rw (field_complete [] newline b rest (omega arith) q)
    (ap (bond a b) (sym (length-append x y))))

-- the lines of so many bonds are read
bonds_complete : (s : Said) (m line : ℕ) (bytes done : List ℕ) → length bytes ≡ 2 * m → Bytes bytes
    → bonds_from s line m (bond_lines bytes) done ≡ record { says = s; bytes = done ++ bytes }
unfolding bonds_from bond_lines
bonds_complete s zero line [] done e h = rw (append-nil done)
bonds_complete s zero line (a ∷ bytes) done e h = absurd (omega arith)
bonds_complete s (suc m) line [] done e h = absurd (omega arith)
bonds_complete s (suc m) line (a ∷ []) done e h = absurd (omega arith)
bonds_complete s (suc m) line (a ∷ b ∷ bytes) done e h =
    rw (bond_complete a b (bond_lines bytes) (h 0) (h 1), drop-append_seam (bond_line a b) (bond_lines bytes))
    (bonds_complete s m (line + 1) bytes (done ++ a ∷ b ∷ []) (omega arith) (λ i. h (suc (suc i)))
    ∙ rw (append_assoc done (a ∷ b ∷ []) bytes))

-- reading the text of n atoms and m bonds gives them back
pub reads_text_of : (n m : ℕ) (bytes : List ℕ) → n ≤ 255 → m ≤ 255 → length bytes ≡ 2 * m → Bytes bytes
    → reads (text_of n bytes) ≡ record { says = passes n m; bytes = bytes }
unfolding reads text_of
reads_text_of n m bytes p q e h =
    let half : length bytes / 2 ≡ m = omega arith in
    let x : List ℕ = field atoms_word newline n in
    let y : List ℕ = field bonds_word newline m in
    rw (half, field_complete atoms_word newline n (y ++ bond_lines bytes) (omega arith) p, drop-append_seam x (y ++ bond_lines bytes))
    (rw (field_complete bonds_word newline m (bond_lines bytes) (omega arith) q, drop-append_seam y (bond_lines bytes))
    (bonds_complete (passes n m) m 3 bytes [] e h))

-- bond lines and nothing after, of which the bytes were read
record Lines (text done out : List ℕ) (m : ℕ) : Type 0 where
  bytes : List ℕ
  all : out ≡ done ++ bytes
  there : text ≡ bond_lines bytes
  count : length bytes ≡ 2 * m
  small : Bytes bytes

refuses_not_passes : {A : Type 0} {number at n m : ℕ} → refuses number at ≡ passes n m → A
refuses_not_passes e = let z : ◌≡◌ {A = ℕ} 0 1 = cc in absurd (omega arith)

module _ (s : Said) (n c : ℕ) (out : List ℕ) where
  bonds_sound : (m line : ℕ) (text done : List ℕ) → bonds_from s line m text done ≡ record { says = passes n c; bytes = out }
      → (s ≡ passes n c) × Lines text done out m
  unfolding bonds_from bond_lines
  bonds_sound zero line [] done e = (
    ap (λ (r : Reading). r.says) e,
    record {
      bytes = [];
      all = sym (ap (λ (r : Reading). r.bytes) e) ∙ sym (append-nil done);
      there = refl;
      count = refl;
      small = λ i. omega arith;
    },
  )
  bonds_sound zero line (x ∷ text) done e = refuses_not_passes (ap (λ (r : Reading). r.says) e)
  bonds_sound (suc m) line text done e = go (bond_at text) refl e (λ a b k. bonds_sound m (line + 1) (drop k text) (done ++ a ∷ b ∷ []))
    where
      more : (a b : ℕ) (xs : List ℕ) → a ≤ 255 → b ≤ 255 → Bytes xs → Bytes (a ∷ b ∷ xs)
      more a b xs p q h zero = p
      more a b xs p q h (suc zero) = q
      more a b xs p q h (suc (suc i)) = h i

      go : (l : Option BondLine) → bond_at text ≡ l
          → on_bond l (record { says = refuses 10 line; bytes = done }) (λ a b k. bonds_from s (line + 1) m (drop k text) (done ++ a ∷ b ∷ []))
          ≡ record { says = passes n c; bytes = out }
          → ((a b k : ℕ) → bonds_from s (line + 1) m (drop k text) (done ++ a ∷ b ∷ []) ≡ record { says = passes n c; bytes = out }
          → (s ≡ passes n c) × Lines (drop k text) (done ++ a ∷ b ∷ []) out m)
          → (s ≡ passes n c) × Lines text done out (suc m)
      go None p e less = refuses_not_passes (ap (λ (r : Reading). r.says) e)
      go (Some line) p e less =
          let a = line.a in
          let b = line.b in
          let w = less a b line.next e in
          let l = bond_sound text p in (
            w.0,
            record {
              bytes = a ∷ b ∷ w.1.bytes;
              all = w.1.all ∙ append_assoc done (a ∷ b ∷ []) w.1.bytes;
              there = l.there ∙ ap (λ (t : List ℕ). bond_line a b ++ t) w.1.there;
              count = omega (arith, w.1.count);
              small = more a b w.1.bytes l.first l.second w.1.small;
            },
          )

-- what it is that a text says n atoms, m bonds and their bytes
pub record Says (text : List ℕ) (n m : ℕ) (bytes : List ℕ) : Type 0 where
  pub is : text ≡ text_of n bytes
  pub atoms : n ≤ 255
  pub bonds : m ≤ 255
  pub count : length bytes ≡ 2 * m
  pub small : Bytes bytes

-- a text that is read is the text of what was read
pub text_of_reads : (text : List ℕ) (n m : ℕ) (bytes : List ℕ) → reads text ≡ record { says = passes n m; bytes = bytes } → Says text n m bytes
unfolding reads text_of
text_of_reads text n m bytes e = first (field_at atoms_word newline text) refl e
  where
    says : (x y : ℕ) (xs : List ℕ) → x ≡ n → y ≡ m → bytes ≡ xs → length xs ≡ 2 * y → x ≤ 255 → y ≤ 255 → Bytes xs
        → text ≡ field atoms_word newline x ++ (field bonds_word newline y ++ bond_lines xs) → Says text n m bytes
    says x y xs a b c l p q h t =
        let k : length bytes ≡ 2 * m = omega (arith, ap length c) in
        let half : length bytes / 2 ≡ m = omega arith in
        record {
          is = t ∙ rw (a, b, half, c);
          atoms = omega arith;
          bonds = omega arith;
          count = k;
          small = rw c h;
        }

    second : (x i : ℕ) → field_at atoms_word newline text ≡ found x i → (f : Option Found) → field_at bonds_word newline (drop i text) ≡ f
        → on_found f (record { says = refuses 10 2; bytes = [] }) (λ y j. bonds_from (passes x y) 3 y (drop j (drop i text)) [])
        ≡ record { says = passes n m; bytes = bytes }
        → Says text n m bytes
    second x i p None q e = refuses_not_passes (ap (λ (r : Reading). r.says) e)
    second x i p (Some number) q e =
        let y = number.value in
        let j = number.next in
        let w = bonds_sound (passes x y) n m bytes y 3 (drop j (drop i text)) [] e in
        let u = field_sound atoms_word newline text p in
        let v = field_sound bonds_word newline (drop i text) q in
        let a : x ≡ n = cc w.0 in
        let b : y ≡ m = cc w.0 in
        says x y w.1.bytes a b w.1.all w.1.count u.small v.small w.1.small
        (u.there ∙ ap (λ (l : List ℕ). field atoms_word newline x ++ l) (v.there ∙ ap (λ (l : List ℕ). field bonds_word newline y ++ l) w.1.there))

    first : (f : Option Found) → field_at atoms_word newline text ≡ f
        → on_found f (record { says = refuses 10 1; bytes = [] })
        (λ x i. on_found (field_at bonds_word newline (drop i text)) (record { says = refuses 10 2; bytes = [] })
        (λ y j. bonds_from (passes x y) 3 y (drop j (drop i text)) []))
        ≡ record { says = passes n m; bytes = bytes } → Says text n m bytes
    first None p e = refuses_not_passes (ap (λ (r : Reading). r.says) e)
    first (Some number) p e = second number.value number.next p (field_at bonds_word newline (drop number.next text)) refl e
