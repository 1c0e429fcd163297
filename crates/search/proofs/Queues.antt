-- A queue of atoms: how many it holds, and what is bonded to those of a part of it.
use mathlib.Core.Path.{◌≡◌, refl, sym, ap, ◌∙◌}
use mathlib.Core.Logic.{⊎_elim}
use native.Mathlib.Decide.{ℕ_discrete}
use mathlib.Core.List.{List, [], ◌∷◌, ◌++◌, append_assoc, append-nil}
use Prim.Native.Nat.{ℕ, ◌+◌, ◌-◌, ◌≤◌, ◌<◌}
use native.Mathlib.Numerals.{add-one}
use native.Mathlib.Omega.{arith}
use lib.Bits.{bit_and, bit_or}
use lib.ListN.{length, get_or, set, take, drop}
use lib.Seq.{take-suc-set, length-take-le, drop_at, get_or-set_same, get_or-set_other, set_out}
use Rattle.std.proofs.lemmas.List.{drop-take}
use Rattle.bondset.specs.Sets.{members, length_to}
use Rattle.bondset.proofs.Laws.{length_le, length_disjoint, lt_or_ge}
use Rattle.bondset.proofs.Members.{length_to_members}
use Rattle.search.specs.declared.queue.Queue.{Queue}
use Rattle.search.specs.Queue.{queued, Appended}
use Rattle.search.proofs.Waves.{and_without}

-- ---- the atoms of a set, one after the other

module _ (q₀ : List ℕ) (end₀ s : ℕ) where
  -- The atoms of s before those left are appended.
  pub record Appending (q : List ℕ) (at : ℕ) (left : List ℕ) : Type 0 where
    pub count : at + length left ≡ end₀ + length_to 64 s
    pub atoms : take at q ++ left ≡ take end₀ q₀ ++ members 64 s

  -- Before the first atom.
  pub appending_start : Appending q₀ end₀ (members 64 s)
  appending_start = record { count = ap (λ (k : ℕ). end₀ + k) (sym (length_to_members 64 s)); atoms = refl }

  module _ {q : List ℕ} {at : ℕ} {left : List ℕ} (t : ℕ) (rest : List ℕ) (split : left ≡ t ∷ rest) (appending : Appending q at left) where
    -- There is room for one atom more.
    pub appending_room : at < end₀ + length_to 64 s
    appending_room = omega (arith, appending.count, ap length split)

    -- One atom more.
    pub appending_next : at < length q → Appending (set q at t) (at + 1) rest
    appending_next room = record {
      count = omega (arith, appending.count, ap length split);
      atoms =
          ap (λ (l : List ℕ). l ++ rest) (ap (λ (k : ℕ). take k (set q at t)) (add-one at) ∙ take-suc-set q at t room)
          ∙ append_assoc (take at q) (t ∷ []) rest
          ∙ ap (λ (l : List ℕ). take at q ++ l) (sym split)
          ∙ appending.atoms;
    }

  -- All are appended.
  pub appending_end : {q : List ℕ} {at : ℕ} {left : List ℕ} → left ≡ [] → Appending q at left
      → (at ≡ end₀ + length_to 64 s) × (take at q ≡ take end₀ q₀ ++ members 64 s)
  appending_end {q} {at} {left} e appending = (
    omega (arith, appending.count, ap length e),
    sym (append-nil (take at q)) ∙ ap (λ (l : List ℕ). take at q ++ l) (sym e) ∙ appending.atoms,
  )

-- An atom may stand at any place.
pub named_set : (q : List ℕ) (at t : ℕ) → ((i : ℕ) → get_or q i 0 < 64) → t < 64 → (i : ℕ) → get_or (set q at t) i 0 < 64
named_set q at t named small i =
    elim (ℕ_discrete i at) [
      | yes e ↦
          ⊎_elim (λ (l : at < length q). rw (e, get_or-set_same q at t 0 l) small) (λ (l : length q ≤ at). rw (set_out q at t l) (named i)) (lt_or_ge at (length q))
      | no ne ↦ rw (get_or-set_other q at i t 0 ne) (named i)
    ]

-- ---- room for what is new

module _ (seen x end : ℕ) (full : end ≡ length_to 64 seen) where
  -- What x adds to the atoms seen is counted beside them.
  pub length_seen : length_to 64 (bit_or seen (x - bit_and x seen)) ≡ end + length_to 64 (x - bit_and x seen)
  length_seen =
      length_disjoint 64 seen (x - bit_and x seen) (and_without seen x) ∙ ap (λ (k : ℕ). k + length_to 64 (x - bit_and x seen)) (sym full)

  -- So there is room for it.
  pub new_room : end + length_to 64 (x - bit_and x seen) ≤ 64
  new_room = omega (arith, length_seen, length_le 64 (bit_or seen (x - bit_and x seen)))

-- ---- a part of the queue

-- What was appended is at the last distance.
pub queued_new : (q : Queue) (s : ℕ) (q' : Queue) → Appended q s q' → queued q' ≡ members 64 s
queued_new q s q' appended =
    let e : q.end + (q'.end - q.end) ≡ q'.end = omega (arith, appended.count) in
    ap (λ (i : ℕ). take (q'.end - i) (drop i q'.atoms)) appended.after
    ∙ sym (drop-take q.end (q'.end - q.end) q'.atoms)
    ∙ ap (drop q.end) (ap (λ (i : ℕ). take i q'.atoms) e ∙ appended.atoms)
    ∙ drop_at (take q.end q.atoms) (members 64 s) q.end (length-take-le q.end q.atoms (omega (arith, q.room, q.long)))
