-- All bases have as many elements in each class of interchangeable elements.
use mathlib.Core.Path.{◌≡◌}
use mathlib.Core.List.{List, ◌++◌}
use Prim.Native.Nat.{◌≤◌}
use native.Mathlib.Nat.{le_antisymm}
use lib.ListN.{length}
use Rattle.spans.specs.Group.{Space}
use Rattle.spans.specs.Basis.{Part, All, Sum}
use Rattle.spans.proofs.Xor.{undo}
use Rattle.spans.proofs.Lists.{part_append, part_all, all_map, all_and}
use Rattle.spans.proofs.Sift.{Sift, sift_all, sift_part, sift_most, sift, sifted}
use Rattle.spans.proofs.Span.{Span, at, add, expand, left_of, right_of, from_part}
use Rattle.spans.proofs.Indep.{Indep, indep_part}
use Rattle.spans.proofs.Steinitz.{steinitz_over}
use Rattle.spans.proofs.Interchange.{Swap, swap_used}

module _ {X : Type 0} (G : Space X) (P : X → Type 0) (S : List X) where
  open G use {◌⊕◌}

  -- What a basis has of one length: independent over the shorter ones, and they span all of that length.
  pub record Level (L : List X) : Type 0 where
    pub have : All P L
    pub indep : Indep G (L ++ S)
    pub covers : (x : X) → P x → Span G (L ++ S) x

  level_length_le : (L M : List X) → Level L → Level M → length L ≤ length M
  level_length_le L M l m = steinitz_over G L M S l.indep (all_map m.covers l.have)

  pub level_same_length : {L M : List X} → Level L → Level M → length L ≡ length M
  level_same_length {L} {M} l m = le_antisymm (level_length_le L M l m) (level_length_le M L m l)

  -- A class: closed under interchange among the elements that have P.
  module _ (K : X → Type 0) (dec : (x : X) → Dec (K x)) (closed : (x y : X) → P x → P y → K x → Swap G P S x y → K y) where
    used_in_class : {L Z : List X} {x : X} → Level L → Part L Z → Span G S (x ⊕ Sum G Z) → P x → K x → All K Z
    used_in_class {Z} {x} l p s px kx =
        let a = part_all p l.have in
        let b = swap_used G P S Z a (indep_part G (part_append S p) l.indep) s in
        all_map (λ z q. closed x z px q.0 kx q.1) (all_and a b)

    in_class : {L F : List X} {x : X} → Level L → Sift K L F → P x → K x → Span G (F ++ S) x
    in_class {L} {F} {x} l f px kx =
        let t = expand G L S (l.covers x px) in
        let a = used_in_class l t.part t.remains px kx in
        at G (undo G x (Sum G t.used))
        (add G (right_of G F t.remains) (left_of G S (from_part G (sift_most K f t.part a))))

    class_length_le : (L M : List X) → Level L → Level M → length (sift K dec L) ≤ length (sift K dec M)
    class_length_le L M l m =
        let f = sifted K dec L in
        let g = sifted K dec M in
        steinitz_over G (sift K dec L) (sift K dec M) S (indep_part G (part_append S (sift_part K f)) l.indep)
        (all_map (λ x q. in_class m g q.0 q.1) (all_and (part_all (sift_part K f) l.have) (sift_all K f)))

    pub same_count : (L M : List X) → Level L → Level M → length (sift K dec L) ≡ length (sift K dec M)
    same_count L M l m = le_antisymm (class_length_le L M l m) (class_length_le M L m l)

-- A level of a narrower Q that its members have.
pub level_narrow : {X : Type 0} {G : Space X} {P Q : X → Type 0} {S L : List X} → ((x : X) → Q x → P x) → All Q L → Level G P S L → Level G Q S L
level_narrow f a l = record { have = a; indep = l.indep; covers = λ x q. l.covers x (f x q) }
