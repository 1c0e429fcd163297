-- "The same compound numbered anew": what the right reports of the two have in common.
use mathlib.Core.Path.{◌≡◌, refl, sym, ap, ◌∙◌, subst, subst₂}
use mathlib.Core.List.{List, [], ◌∷◌}
use Prim.Native.Nat.{ℕ, suc, ◌+◌, ◌<◌, ◌≤◌}
use native.Mathlib.Omega.{arith}
use lib.ListN.{length}
use Rattle.spans.specs.Elements.{◌∈◌}
use Rattle.spans.proofs.Lists.{Perm}
use Rattle.spans.proofs.Sift.{holding_unique}
use Rattle.spans.proofs.Alike.{alike_sym, minimum_alike}
use Rattle.cycles.specs.Compound.{Compound, Sound}
use Rattle.cycles.specs.Ring.{len, Closed, Relevant}
use Rattle.cycles.specs.Basis.{Interchangeable}
use Rattle.cycles.specs.Family.{Member}
use Rattle.cycles.specs.Rows.{Row, ClassRow, At, Report, Right}
use Rattle.cycles.specs.Renumbered.{Renumbered}
use Rattle.cycles.proofs.Families.{prototype_member}
use Rattle.cycles.proofs.Bases.{marked_minimum}
use Rattle.cycles.proofs.Swaps.{interchangeable_same_length}
use Rattle.cycles.proofs.Ranks.{in_map, relevant_in_row, same_class_iff, class_rows_length, class_row_of, class_row_exists, class_row_long}
use Rattle.cycles.proofs.Ranks.{relative_rank_in_every_minimum}
use Rattle.cycles.proofs.OneRow.{row_member_relevant}
use Rattle.cycles.proofs.RenumberClosed.{renumber, renumbered_alike}
use Rattle.cycles.proofs.RenumberRings.{AlikeSets, interchangeable_alike, relevant_alike, alike_interchangeable, holding_alike}
use Rattle.cycles.proofs.RenumberMatch.{Partners, partners_length, partners_perm}
use Rattle.answers.specs.Bytes.{Exactly}
use Rattle.answers.specs.Classes.{rings_of_length, rings_of_class, Class, class_of, class_list, classes_of}
use Rattle.answers.proofs.Counts.{right_rings}
use Rattle.answers.proofs.RenumberCounts.{Paired, exactly_unique, exactly_paired, rings_of_length_lem, rings_of_class_lem}

-- ---- the list of classes

class_list_at : (rows : List Row) (k : ℕ) (ts : List ClassRow) {j : ℕ} {x : Class} (i : ℕ) → At (class_list rows k ts) j x → i ≡ k + j
    → (t : ClassRow) × At ts j t × (x ≡ class_of rows i t)
unfolding class_list
class_list_at rows k [] i h e = elim h [ ]
class_list_at rows k (t ∷ ts) i At.here e = (t, At.here, ap (λ (l : ℕ). class_of rows l t) (omega arith))
class_list_at rows k (t ∷ ts) i (At.later a) e = let (s, b, d) = class_list_at rows (suc k) ts i a (omega arith) in (s, At.later b, d)

at_class_list : (rows : List Row) (k : ℕ) {ts : List ClassRow} {j : ℕ} {t : ClassRow} {x : Class} (i : ℕ) → At ts j t → i ≡ k + j
    → x ≡ class_of rows i t → At (class_list rows k ts) j x
unfolding class_list
at_class_list rows k {x = x} i (At.here {x = t} {xs = ts}) e d =
    let q : x ≡ class_of rows k t = d ∙ ap (λ (l : ℕ). class_of rows l t) (omega arith) in
    subst (At (class_of rows k t ∷ class_list rows (suc k) ts) 0) (sym q) At.here
at_class_list rows k i (At.later a) e d = At.later (at_class_list rows (suc k) i a (omega arith) d)

-- There is a class for each class row.
class_list_length : (rows : List Row) (k : ℕ) (ts : List ClassRow) → length (class_list rows k ts) ≡ length ts
unfolding class_list
class_list_length rows k [] = refl
class_list_length rows k (t ∷ ts) = ap suc (class_list_length rows (suc k) ts)

pub class_same : {l k n l' k' n' : ℕ} → l ≡ l' → k ≡ k' → n ≡ n'
    → ◌≡◌ {A = Class} (record { long = l; rank = k; rings = n }) (record { long = l'; rank = k'; rings = n' })
class_same p q r = rw (p, q, r)

-- ---- two compounds whose closed sets are alike

module _ {c c' : Compound} (f : AlikeSets c c') where
  -- Kinds of closed sets that go to each other.
  paired : {P P' : ℕ → Type 0} → ((C : ℕ) → P C → Closed c C) → ((D : ℕ) → P' D → Closed c' D) → ((C : ℕ) → P C → P' (f.to C))
      → ((D : ℕ) → P' D → P (f.back D)) → Paired P P'
  paired p p' g h =
      record {
        to = f.to;
        back = f.back;
        to_has = g;
        back_has = h;
        back_to = λ C q. f.back_to C (p C q);
        to_back = λ D q. f.to_back D (p' D q);
      }

  module _ (sound : Sound c) (sound' : Sound c') where
    -- The relevant rings of the two go to each other ..
    relevant_paired : Paired (Relevant c) (Relevant c')
    relevant_paired =
        paired (λ C r. r.ring.closed) (λ D r. r.ring.closed) (λ C r. relevant_alike f sound sound' r)
        (λ D r. relevant_alike (alike_sym f) sound' sound r)

    -- .. those of length k ..
    of_length_paired : (k : ℕ) → Paired (λ C. Relevant c C × (len c C ≡ k)) (λ D. Relevant c' D × (len c' D ≡ k))
    of_length_paired k =
        paired (λ C p. p.0.ring.closed) (λ D p. p.0.ring.closed)
        (λ C p. (relevant_alike f sound sound' p.0, f.to_length C p.0.ring.closed ∙ p.1))
        (λ D p. (relevant_alike (alike_sym f) sound' sound p.0, (alike_sym f).to_length D p.0.ring.closed ∙ p.1))

    -- .. and those that are interchangeable with C.
    of_class_paired : {C : ℕ} → Closed c C → Paired (λ D. Relevant c D × Interchangeable c D C) (λ D. Relevant c' D × Interchangeable c' D (f.to C))
    of_class_paired {C} h =
        paired (λ D p. p.0.ring.closed) (λ D p. p.0.ring.closed)
        (λ D p. (relevant_alike f sound sound' p.0, interchangeable_alike f p.1))
        (λ D p. (
          relevant_alike (alike_sym f) sound' sound p.0,
          subst (Interchangeable c (f.back D)) (f.back_to C h) (interchangeable_alike (alike_sym f) p.1),
        ))

module _ {c c' : Compound} (sound : Sound c) (sound' : Sound c') {rank rank' : ℕ → ℕ}
    (injective : (a b : ℕ) → a < c.n → b < c.n → rank a ≡ rank b → a ≡ b)
    (injective' : (a b : ℕ) → a < c'.n → b < c'.n → rank' a ≡ rank' b → a ≡ b) {R R' : Report} (right : Right c rank R) (right' : Right c' rank' R')
    (f : AlikeSets c c') where
  -- As many relevant rings.
  rings_alike : R.rings ≡ R'.rings
  rings_alike =
      exactly_unique (exactly_paired (relevant_paired f sound sound') (right_rings c sound rank injective right))
      (right_rings c' sound' rank' injective' right')

  -- As many relevant rings of each length.
  rings_of_length_alike : (k : ℕ) → rings_of_length R.rows k ≡ rings_of_length R'.rows k
  rings_of_length_alike k =
      exactly_unique (exactly_paired (of_length_paired f sound sound' k) (rings_of_length_lem c sound rank injective right k))
      (rings_of_length_lem c' sound' rank' injective' right' k)

  -- A ring of the one row goes to a ring of the other.
  record Counterpart (u u' : Row) : Type 0 where
    ring : ℕ
    listed : u ∈ R.rows
    member : Member c rank u.family ring
    listed' : u' ∈ R'.rows
    member' : Member c' rank' u'.family (f.to ring)

  counterpart_closed : {u u' : Row} (s : Counterpart u u') → Closed c s.ring
  counterpart_closed s = (row_member_relevant c sound rank right s.listed s.member).ring.closed

  -- As many rings in the two classes.
  rings_of_class_alike : {u u' : Row} → Counterpart u u' → rings_of_class R.rows u.class ≡ rings_of_class R'.rows u'.class
  rings_of_class_alike s =
      exactly_unique
      (exactly_paired (of_class_paired f sound sound' (counterpart_closed s)) (rings_of_class_lem c sound rank injective right s.listed s.member))
      (rings_of_class_lem c' sound' rank' injective' right' s.listed' s.member')

  module _ {u u' : Row} (s : Counterpart u u') {t t' : ClassRow} (a : At R.class_rows u.class t) (a' : At R'.class_rows u'.class t') where
    long_alike : t.long ≡ t'.long
    long_alike =
        class_row_long c sound rank injective right s.listed s.member a
        ∙ sym (f.to_length s.ring (counterpart_closed s))
        ∙ sym (class_row_long c' sound' rank' injective' right' s.listed' s.member' a')

    rank_alike : t.rank ≡ t'.rank
    rank_alike =
        let b = marked_minimum c sound rank injective right in
        holding_unique (λ D. Interchangeable c' D (f.to s.ring))
        (holding_alike f b (counterpart_closed s) (relative_rank_in_every_minimum c sound rank injective right s.listed s.member a b))
        (relative_rank_in_every_minimum c' sound' rank' injective' right' s.listed' s.member' a' (minimum_alike f b))

    -- The two classes are the same, as (length, relative rank, rings).
    class_alike : class_of R.rows u.class t ≡ class_of R'.rows u'.class t'
    class_alike = class_same long_alike rank_alike (rings_of_class_alike s)

  -- A ring of class i goes to a ring of class j.
  record Shares (i j : ℕ) : Type 0 where
    row : Row
    row' : Row
    both : Counterpart row row'
    class : row.class ≡ i
    class' : row'.class ≡ j

  -- No two classes go to one.
  shares_own : (i k j : ℕ) → Shares i j → Shares k j → i ≡ k
  shares_own i k j s t =
      let p = s.both in
      let q = t.both in
      let e = ((same_class_iff c' sound' rank' injective' right' p.listed' q.listed' p.member' q.member').0 (s.class' ∙ sym t.class')).1 in
      let d = alike_interchangeable f (counterpart_closed p) (counterpart_closed q) e in
      sym s.class
      ∙ (same_class_iff c sound rank injective right p.listed q.listed p.member q.member).1 (interchangeable_same_length c d, d)
      ∙ t.class

  -- Each class goes to a class: by the prototype of a row of it.
  share : {i : ℕ} {t : ClassRow} → At R.class_rows i t → (j : ℕ) × Shares i j
  share a =
      let (u, l, d) = class_row_of c sound rank injective right a in
      let k = (right.kept u.family).0 (in_map (λ row. row.family) l) in
      let w = relevant_in_row c' sound' rank' injective' right' (relevant_alike f sound sound' k.relevant) in
      let s : Counterpart u w.row =
      record { ring = k.ring; listed = l; member = prototype_member c sound rank k.prototype; listed' = w.listed; member' = w.member } in
      (w.row.class, record { row = u; row' = w.row; both = s; class = d; class' = refl })

  -- It is the same as the class that it goes to.
  shares_same : {i j : ℕ} {t : ClassRow} → Shares i j → At R.class_rows i t
      → (t' : ClassRow) × At R'.class_rows j t' × (class_of R.rows i t ≡ class_of R'.rows j t')
  shares_same {t = t} s a =
      let (t', b) = class_row_exists c' sound' rank' injective' right' s.both.listed' in (
        t',
        subst (λ (h : ℕ). At R'.class_rows h t') s.class' b,
        subst₂ (λ (h k : ℕ). class_of R.rows h t ≡ class_of R'.rows k t') s.class s.class'
            (class_alike s.both (subst (λ (h : ℕ). At R.class_rows h t) (sym s.class) a) b),
      )

  -- Each class of the list has a partner that is the same.
  class_partner : (i : ℕ) (x : Class) → At (classes_of R) i x → (j : ℕ) × At (classes_of R') j x × Shares i j
  class_partner i x a =
      let (t, b, e) = class_list_at R.rows 0 R.class_rows i a (omega arith) in
      let (j, s) = share b in
      let (t', b', d) = shares_same s b in
      (j, at_class_list R'.rows 0 j b' (omega arith) (e ∙ d), s)

  class_partners : Partners Shares (classes_of R) (classes_of R')
  class_partners = record { partner = class_partner; own = shares_own }

  -- As many classes as the list has.
  classes_listed : length (classes_of R) ≡ R.classes
  classes_listed = class_list_length R.rows 0 R.class_rows ∙ class_rows_length c sound rank injective right

  classes_listed' : length (classes_of R') ≡ R'.classes
  classes_listed' = class_list_length R'.rows 0 R'.class_rows ∙ class_rows_length c' sound' rank' injective' right'

  -- No more classes.
  classes_at_most : R.classes ≤ R'.classes
  classes_at_most = omega (arith, partners_length class_partners, classes_listed, classes_listed')

  class_list_perm : R.classes ≡ R'.classes → Perm (classes_of R) (classes_of R')
  class_list_perm e = partners_perm class_partners (classes_listed ∙ e ∙ sym classes_listed')

-- ---- a compound numbered anew

module _ {c c' : Compound} (r : Renumbered c c') (sound : Sound c) (sound' : Sound c') where
  -- "the number of relevant rings of each length"
  pub exactly_of_length_renumbered : {j k : ℕ} → Exactly j (λ C. Relevant c C × (len c C ≡ k)) → Exactly j (λ D. Relevant c' D × (len c' D ≡ k))
  exactly_of_length_renumbered {k = k} = exactly_paired (of_length_paired (renumbered_alike r sound sound') sound sound' k)

  -- The number of relevant rings that are interchangeable with C.
  pub exactly_of_class_renumbered : {j C : ℕ} → Relevant c C → Exactly j (λ D. Relevant c D × Interchangeable c D C)
      → Exactly j (λ D. Relevant c' D × Interchangeable c' D (renumber r C))
  exactly_of_class_renumbered h = exactly_paired (of_class_paired (renumbered_alike r sound sound') sound sound' h.ring.closed)

module _ {c c' : Compound} (r : Renumbered c c') (sound : Sound c) (sound' : Sound c') {rank rank' : ℕ → ℕ}
    (injective : (a b : ℕ) → a < c.n → b < c.n → rank a ≡ rank b → a ≡ b)
    (injective' : (a b : ℕ) → a < c'.n → b < c'.n → rank' a ≡ rank' b → a ≡ b) {R R' : Report} (right : Right c rank R) (right' : Right c' rank' R') where
  alike : AlikeSets c c'
  alike = renumbered_alike r sound sound'

  -- The number of relevant rings is the same.
  pub rings_renumbered : R.rings ≡ R'.rings
  rings_renumbered = rings_alike sound sound' injective injective' right right' alike

  -- "the number of relevant rings of each length", as the rows have it.
  pub rings_of_length_renumbered : (k : ℕ) → rings_of_length R.rows k ≡ rings_of_length R'.rows k
  rings_of_length_renumbered = rings_of_length_alike sound sound' injective injective' right right' alike

  -- The number of classes is the same.
  pub classes_renumbered : R.classes ≡ R'.classes
  classes_renumbered =
      let to = classes_at_most sound sound' injective injective' right right' alike in
      let back = classes_at_most sound' sound injective' injective right' right (alike_sym alike) in
      omega arith

  -- "the list of rule 1 classes as (length, relative rank, rings), taken without order"
  pub class_list_renumbered : Perm (classes_of R) (classes_of R')
  class_list_renumbered = class_list_perm sound sound' injective injective' right right' alike classes_renumbered
