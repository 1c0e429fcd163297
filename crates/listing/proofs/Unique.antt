-- A text leaves one listing: what is printed, and what the buffer holds.
use mathlib.Core.Path.{◌≡◌, refl, sym, ap, ap₂, ◌∙◌}
use mathlib.Core.List.{List, ◌++◌}
use Prim.Native.Nat.{ℕ, zero, suc, ◌<◌}
use native.Mathlib.Omega.{arith}
use lib.ListN.{get_or, replicate}
use Rattle.std.specs.Prelude.{Ok, Err}
use Rattle.housetext.specs.Text.{passes, refuses, reads}
use Rattle.housetext.proofs.Refusal.{passes_refuses}
use Rattle.listingtext.specs.Listing.{row_of, family_line, family_lines, class_lines, head_lines, listing, refusal}
use Rattle.answers.specs.Answered.{Told, full, refused, Answered}
use Rattle.answers.proofs.Unique.{answered_unique}
use Rattle.rings.specs.Calls.{Answer, told}
use Rattle.rings.proofs.Unique.{told_injective, same_size}
use Rattle.listing.specs.Listed.{lines_of, families_in, Printed, departs, answers, Listed}
use Rattle.listing.proofs.Lines.{answer_room}

-- the lines of the first families ask for their sizes alone
family_lines_same : (rows xs ys : List ℕ) (k : ℕ) → ((j : ℕ) → j < k → get_or xs j 0 ≡ get_or ys j 0) → family_lines rows xs k ≡ family_lines rows ys k
unfolding family_lines
family_lines_same rows xs ys zero h = refl
family_lines_same rows xs ys (suc k) h =
    ap₂ ◌++◌ (family_lines_same rows xs ys k (λ j l. h j (omega arith))) (ap (family_line (row_of 8 rows k)) (h k (omega arith)))

lines_same : (n m : ℕ) (rows xs ys class_rows : List ℕ) (t : Told) → ((j : ℕ) → j < families_in t → get_or xs j 0 ≡ get_or ys j 0)
    → lines_of n m rows xs class_rows t ≡ lines_of n m rows ys class_rows t
unfolding lines_of families_in listing
lines_same n m rows xs ys class_rows (full cyclomatic families classes total rings size) h =
    ap
    (λ (lines : List ℕ).
    head_lines (record { atoms = n; bonds = m; cyclomatic = cyclomatic; families = families; classes = classes; total = total; rings = rings })
    ++ (lines ++ class_lines class_rows classes))
    (family_lines_same rows xs ys families h)
lines_same n m rows xs ys class_rows (refused number at) h = refl

-- an answer that tells a family tells one size
told_size : (a : Answer) (s t : ℕ) → told a s ≡ told a t → 0 < families_in (told a 0) → s ≡ t
unfolding told families_in
told_size (Ok f) s t e h = same_size (Ok f) s t e tt
told_size (Err r) s t e h = absurd (omega (arith, h))

-- what is answered for every row leaves one listing
lines_unique : (n m : ℕ) (bytes : List ℕ) (a b : Answer) (rows xs class_rows rows' ys class_rows' : List ℕ)
    → ((j : ℕ) → j < 4096 → Answered n bytes (replicate 32768 0) (replicate 410 0) j (told a (get_or xs j 0)) rows class_rows)
    → ((j : ℕ) → j < 4096 → Answered n bytes (replicate 32768 0) (replicate 410 0) j (told b (get_or ys j 0)) rows' class_rows')
    → lines_of n m rows xs class_rows (told a 0) ≡ lines_of n m rows' ys class_rows' (told b 0)
lines_unique n m bytes a b rows xs class_rows rows' ys class_rows' p q =
    let room = answer_room a (get_or xs 0 0) (p 0 (omega arith)) in
    let (t, l, l') = answered_unique n bytes (replicate 32768 0) (replicate 410 0) 0 (p 0 (omega arith)) (q 0 (omega arith)) in
    let same : a ≡ b = told_injective a b (get_or xs 0 0) (get_or ys 0 0) t in
    let sizes : (j : ℕ) → j < families_in (told a 0) → get_or xs j 0 ≡ get_or ys j 0 =
    λ j h.
    let low : j < 4096 = omega (arith, h, room.families) in
    let (e, _, _) = answered_unique n bytes (replicate 32768 0) (replicate 410 0) j (p j low) (q j low) in
    told_size a (get_or xs j 0) (get_or ys j 0) (e ∙ ap (λ (x : Answer). told x (get_or ys j 0)) (sym same)) (omega (arith, h)) in
    lines_same n m rows xs ys class_rows (told a 0) sizes
    ∙ rw (l, l', same)

refuses_line : {line other : ℕ} → refuses 10 line ≡ refuses 10 other → line ≡ other
refuses_line e = cc

passes_atoms : {n m k l : ℕ} → passes n m ≡ passes k l → n ≡ k
passes_atoms e = cc

passes_bonds : {n m k l : ℕ} → passes n m ≡ passes k l → m ≡ l
passes_bonds e = cc

-- One text is printed for each text that is read.
pub printed_unique : {text lines other : List ℕ} → Printed text lines → Printed text other → lines ≡ other
printed_unique (departs e) (departs d) = ap (refusal 10) (refuses_line (sym e ∙ d))
printed_unique (departs e) (answers b rows ys class_rows d q) = absurd (passes_refuses (sym d ∙ e))
printed_unique (answers a rows xs class_rows e p) (departs d) = absurd (passes_refuses (sym e ∙ d))
printed_unique {text} (answers {atoms = n} {bonds = m} a rows xs class_rows e p) (answers {atoms = k} {bonds = l} b rows' ys class_rows' d q) =
    let atoms : n ≡ k = passes_atoms (sym e ∙ d) in
    let bonds : m ≡ l = passes_bonds (sym e ∙ d) in
    lines_unique n m (reads text).bytes a b rows xs class_rows rows' ys class_rows' p (λ j h. rw atoms (q j h))
    ∙ ap₂ (λ (x y : ℕ). lines_of x y rows' ys class_rows' (told b 0)) atoms bonds

-- So the buffer and the end of what is printed are one each.
pub listed_unique : {text lent left other : List ℕ} {end end' : ℕ} → Listed text lent left end → Listed text lent other end' → (left ≡ other) × (end ≡ end')
listed_unique v w =
    let same = printed_unique v.printed w.printed in
    (v.wrote.stored ∙ rw same (sym w.wrote.stored), v.wrote.next ∙ rw same (sym w.wrote.next))
