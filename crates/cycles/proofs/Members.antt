-- Every relevant ring is in exactly one family, and sizes are products of numbers of paths.
use mathlib.Core.Path.{◌≡◌, sym, ap₂, ◌∙◌, subst}
use mathlib.Core.List.{List}
use mathlib.Core.Logic.{◌↔◌, ⊎_elim}
use Prim.Native.Nat.{ℕ, ◌*◌, ◌<◌}
use lib.Bits.{bit_xor}
use lib.ListN.{length}
use Rattle.spans.specs.Elements.{◌∈◌, Once}
use Rattle.cycles.specs.Compound.{Compound, Sound}
use Rattle.cycles.specs.Ring.{Relevant}
use Rattle.cycles.specs.Family.{Family, Down, Candidate, Member, Kept, Size}
use Rattle.cycles.proofs.Shorter.{Shorter, shorter_add, relevant_not_shorter}
use Rattle.cycles.proofs.PathsWays.{xor_cancel_left}
use Rattle.cycles.proofs.Families.{Made, made_exists, made_unique, made_differ_shorter, crossing_shorter, apart_ring, apart_or_crossing}
use Rattle.cycles.proofs.Families.{prototype_made, prototype_member, made_member, member_made, made_at, made_relevant_kept}
use Rattle.cycles.proofs.MembersLists.{same_elements_length, table}
use Rattle.cycles.proofs.MembersCorners.{member_family, made_injective}
use Rattle.cycles.proofs.MembersAround.{relevant_found}

module _ (c : Compound) (sound : Sound c) (rank : ℕ → ℕ) (injective : (a b : ℕ) → a < c.n → b < c.n → rank a ≡ rank b → a ≡ b) where
  -- A kept family that C is a member of.
  pub record InFamily (C : ℕ) : Type 0 where
    pub family : Family
    pub kept : Kept c rank family
    pub member : Member c rank family C

  -- Every relevant ring is a member of a kept family.
  pub relevant_in_family : {C : ℕ} → Relevant c C → InFamily C
  relevant_in_family relevant =
      let w = relevant_found c sound rank injective relevant in
      let both = made_relevant_kept c sound rank w.made relevant w.long in
      record { family = w.f; kept = both.0; member = both.1 }

  -- C is a member of a kept family, and of no other family.
  pub record InOneFamily (C : ℕ) : Type 0 where
    pub found : InFamily C
    pub only : (g : Family) → Member c rank g C → g ≡ found.family

  -- Every relevant ring is a member of exactly one kept family.
  pub relevant_in_one_family : {C : ℕ} → Relevant c C → InOneFamily C
  relevant_in_one_family relevant =
      let w = relevant_in_family relevant in
      record { found = w; only = λ g s. member_family c sound rank s w.member }

  -- So many down paths, each once.
  pub record AllDown (r t d count : ℕ) : Type 0 where
    pub paths : List (List ℕ)
    pub once : Once paths
    pub all : (P : List ℕ) → (P ∈ paths) ↔ Down c rank r t d P
    pub many : length paths ≡ count

  module _ {f : Family} {d : ℕ} {link : List ℕ} (candidate : Candidate c rank f d link) where
    module _ (kept : Kept c rank f) where
      -- In a kept family no two paths cross.
      pub kept_apart : {P Q : List ℕ} {S : ℕ} → Made c sound rank f d link P Q S → (a : ℕ) → a ∈ P → a ∈ Q → a ≡ f.r
      kept_apart {S} s =
          ⊎_elim (λ apart. apart) (λ w. absurd (crossed (crossing_shorter c sound rank s w.1 w.2 w.3))) (apart_or_crossing c sound rank s)
        where
          K : ℕ
          K = kept.ring

          crossed : Shorter c f.long S → ⊥
          crossed short =
              let differ : Shorter c f.long (bit_xor S K) = made_differ_shorter c sound rank s (made_at c sound rank (prototype_made c sound rank kept.prototype) candidate) in
              let all : Shorter c f.long K = subst (Shorter c f.long) (xor_cancel_left S K) (shorter_add c short differ) in
              relevant_not_shorter c kept.relevant
              (subst (λ (n : ℕ). Shorter c n K) (sym (prototype_member c sound rank kept.prototype).long) all)

      -- What any two paths of a kept family make up is a member.
      pub made_kept_member : {P Q : List ℕ} {S : ℕ} → Made c sound rank f d link P Q S → Member c rank f S
      made_kept_member s = let w = apart_ring c sound rank s (kept_apart s) in made_member c sound rank s w.ring w.long

      all_pairs : {a b : ℕ} → AllDown f.r f.p d a → AllDown f.r f.q d b → Size c rank f (a * b)
      all_pairs s t =
          let pairs =
          table (Made c sound rank f d link) (λ P Q S T. made_unique c sound rank)
          (λ P P' Q Q' S v w. made_injective c sound rank v w (kept_apart v) (kept_apart w)) s.once t.once
          (λ P Q h g. made_exists c sound rank candidate ((s.all P).0 h) ((t.all Q).0 g)) in
          record {
            members = pairs.made;
            once = pairs.once;
            all = λ C. (
              λ h. made_kept_member ((pairs.all C).0 h).4,
              λ h.
                  let w = made_at c sound rank (member_made c sound rank h) candidate in
                  (pairs.all C).1 (h.P, h.Q, (s.all h.P).1 w.down_p, (t.all h.Q).1 w.down_q, w),
            );
            count = pairs.count ∙ ap₂ ◌*◌ s.many t.many;
          }

  -- A kept family has a member for each pair of down paths, from p and from q.
  pub size_is_product : {f : Family} {d a b : ℕ} {link : List ℕ} → Kept c rank f → Candidate c rank f d link → AllDown f.r f.p d a
      → AllDown f.r f.q d b → Size c rank f (a * b)
  size_is_product kept candidate s t = all_pairs candidate kept s t

module _ (c : Compound) (rank : ℕ → ℕ) where
  -- A family has one size.
  pub size_unique : {f : Family} {s t : ℕ} → Size c rank f s → Size c rank f t → s ≡ t
  size_unique s t =
      sym s.count
      ∙ same_elements_length s.once t.once (λ C. (λ h. (t.all C).1 ((s.all C).0 h), λ h. (s.all C).1 ((t.all C).0 h)))
      ∙ t.count
