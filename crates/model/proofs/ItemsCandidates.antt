-- What the loops under a top atom find are the candidates of the compound, and the families kept have top atoms.
use mathlib.Core.Path.{◌≡◌, refl, subst}
use mathlib.Core.Bool.{Bool, true, false, cond}
use mathlib.Core.List.{List, [], ◌∷◌}
use Prim.Native.Nat.{ℕ, suc, ◌+◌, ◌-◌, ◌*◌, ◌/◌, ◌%◌, ◌<◌, ◌≤◌}
use native.Mathlib.Omega.{arith}
use borrow.Author.Tests.{eqb-true, eqb-false, eq-eqb, ne_eqb}
use lib.Bits.{bit_and, and_le_l}
use lib.Dec.{eqb}
use Rattle.spans.specs.Elements.{◌∈◌, first, later}
use Rattle.bondset.specs.Sets.{bit}
use Rattle.cycles.specs.Compound.{Compound, Bonded}
use Rattle.cycles.specs.Family.{Family, Precedes, Down, Under, Candidate, Prototype}
use Rattle.cycles.proofs.PathsDown.{down_before}
use Rattle.cycles.proofs.Families.{chosen_down}
use Rattle.model.specs.Net.{Net, net_of, nbrs}
use Rattle.model.specs.Layer.{layer}
use Rattle.model.specs.Loops.{above, fam, tops}
use Rattle.model.proofs.Ready.{held, Ready, DownFrom}
use Rattle.model.proofs.Layers.{nbrs_bonded, nbrs_small, bonded_sym, layer_down}
use Rattle.model.proofs.NetBits.{and_has}
use Rattle.model.proofs.ItemsSets.{above_has, two_of, top_of_two, top_small}
use Rattle.model.specs.Candidates.{found, odds, evens}
use Rattle.model.proofs.ItemsFound.{depth, Odd, Even, odds_are, evens_are, odds_have, evens_have}

module _ (c : Compound) (rank pre : ℕ → ℕ) (ready : Ready c rank pre) where
  -- A bonded atom is an atom of the compound.
  pub bonded_small : {a b : ℕ} → Bonded c a b → a < c.n
  bonded_small {a} {b} w = ready.sound.named w.0 a b w.1

  -- ---- paths down

  -- So is the first atom of a path down.
  pub down_small : {r t d : ℕ} {P : List ℕ} → Down c rank r t d P → 0 < d → t < c.n
  down_small Down.top h = absurd (omega arith)
  down_small (Down.step less far bond rest) h = bonded_small bond

  -- So is the top of a path down.
  pub top_named : {r t d : ℕ} {P : List ℕ} → Down c rank r t d P → t < c.n → r < c.n
  top_named Down.top h = h
  top_named (Down.step less far bond rest) h = top_named rest (bonded_small (bonded_sym c rank pre (held ready) bond))

  -- The atom before the top.
  record Before (r : ℕ) (P : List ℕ) : Type 0 where
    a : ℕ
    mem : a ∈ P
    bond : Bonded c a r
    less : Precedes c rank a r

  before : {r t d : ℕ} {P : List ℕ} → Down c rank r t d P → 0 < d → Before r P
  before Down.top h = absurd (omega arith)
  before (Down.step {t} less far bond Down.top) h = record { a = t; mem = first; bond = bond; less = less }
  before (Down.step less far bond (Down.step less' far' bond' rest)) h =
      let b = before (Down.step less' far' bond' rest) (omega arith) in
      record { a = b.a; mem = later b.mem; bond = b.bond; less = b.less }

  under_of : {r t d : ℕ} → 0 < d → DownFrom c rank r t d → Under c rank r t d
  under_of h w = (down_before c rank w.1 h, w)

  -- ---- the candidates under one top atom

  abbrev G : Net
  G = net_of c

  -- The atoms under r at distance d.
  abbrev at : ℕ → ℕ → ℕ
  at r d = layer G (pre r) r d

  -- The candidates of length k with top atom r.
  abbrev pub under : ℕ → ℕ → List Family
  under k r = found G k r (at r (k / 2)) (at r (k / 2 - 1))

  -- A candidate whose p and q are d steps from the top.
  abbrev pub Some : Family → ℕ → Type 0
  Some f d = (between : List ℕ) × Candidate c rank f d between

  module _ (r : ℕ) (small : r < c.n) where
    odd_candidate : {k d : ℕ} {f : Family} → 0 < d → k ≡ 2 * d + 1 → Odd G k r (at r d) f → Some f d
    odd_candidate {k} {d} h long (Odd.odd {p} {q} e i) =
        let w = (and_has (above (at r d) p) (nbrs G p) q).0 i in
        let up = (above_has (at r d) p q).0 w.0 in
        let down = (layer_down c rank pre (held ready) r p d small).0 e in (
          p ∷ q ∷ [],
          Candidate.odd up.0 ((nbrs_bonded c rank pre (held ready) p q (down_small down.1 h)).0 w.1) (under_of h down)
              (under_of h ((layer_down c rank pre (held ready) r q d small).0 up.1)) long,
        )

    even_candidate : {k d e : ℕ} {f : Family} → 0 < d → e ≡ suc d → k ≡ 2 * suc d → Even G k r (at r e) (at r d) f → Some f d
    even_candidate {k} {d} {e} h next long (Even.even {x} {p} {q} here i j) =
        let up = (above_has (bit_and (nbrs G x) (at r d)) p q).0 j in
        let at_p = (and_has (nbrs G x) (at r d) p).0 i in
        let at_q = (and_has (nbrs G x) (at r d) q).0 up.1 in
        let down = (layer_down c rank pre (held ready) r x (suc d) small).0 (subst (λ (y : ℕ). bit (at r y) x ≡ 1) next here) in
        let near : (t : ℕ) → bit (nbrs G x) t ≡ 1 → Bonded c x t = λ t. (nbrs_bonded c rank pre (held ready) x t (down_small down.1 (omega arith))).0 in (
          p ∷ x ∷ q ∷ [],
          Candidate.even up.0 (bonded_sym c rank pre (held ready) (near p at_p.0)) (near q at_q.0) (under_of (omega arith) down)
              (under_of h ((layer_down c rank pre (held ready) r p d small).0 at_p.1)) (under_of h ((layer_down c rank pre (held ready) r q d small).0 at_q.1)) long,
        )

    -- All that is found under r is a candidate.
    pub under_candidate : (k : ℕ) {f : Family} → 3 ≤ k → f ∈ under k r → Some f (depth k)
    unfolding found
    under_candidate k {f} long = go (eqb (k % 2) 1) refl
      where
        go : (b : Bool) → eqb (k % 2) 1 ≡ b → f ∈ cond b (odds G k r (at r (k / 2))) (evens G k r (at r (k / 2)) (at r (k / 2 - 1))) → Some f (depth k)
        go true e m =
            let two : k % 2 ≡ 1 = eqb-true (k % 2) 1 e in
            let same : k / 2 ≡ depth k = omega arith in
            subst (λ (d : ℕ). Some f d) same (odd_candidate (omega arith) (omega arith) (odds_are G k r (at r (k / 2)) m))
        go false e m =
            let other : k % 2 ≡ 1 → ⊥ = eqb-false (k % 2) 1 e in
            let same : k / 2 - 1 ≡ depth k = omega arith in
            subst (λ (d : ℕ). Some f d) same
            (even_candidate (omega arith) (omega arith) (omega arith) (evens_are G k r (at r (k / 2)) (at r (k / 2 - 1)) m))

    atoms_64 : {t : ℕ} → t < c.n → t < 64
    atoms_64 h = omega (arith, ready.atoms)

    odd_under : {k p q : ℕ} → 0 < k / 2 → k % 2 ≡ 1 → p < q → Bonded c p q → DownFrom c rank r p (k / 2) → DownFrom c rank r q (k / 2)
        → fam k r 255 p q ∈ under k r
    unfolding found
    odd_under {k} {p} {q} h odd less bond down_p down_q =
        let u = at r (k / 2) in
        let at_p = (layer_down c rank pre (held ready) r p (k / 2) small).1 down_p in
        let at_q = (layer_down c rank pre (held ready) r q (k / 2) small).1 down_q in
        let small_p = bonded_small bond in
        let near = (nbrs_bonded c rank pre (held ready) p q small_p).1 bond in
        rw (eq-eqb (k % 2) 1 odd)
        (odds_have G k r u p q (atoms_64 small_p) (atoms_64 (bonded_small (bonded_sym c rank pre (held ready) bond))) at_p
        ((and_has (above u p) (nbrs G p) q).1 ((above_has u p q).1 (less, at_q), near)))

    even_under : {k x p q : ℕ} → (k % 2 ≡ 1 → ⊥) → p < q → Bonded c p x → Bonded c x q → DownFrom c rank r x (k / 2)
        → DownFrom c rank r p (k / 2 - 1) → DownFrom c rank r q (k / 2 - 1) → fam k r x p q ∈ under k r
    unfolding found
    even_under {k} {x} {p} {q} other less bond_p bond_q down_x down_p down_q =
        let below = at r (k / 2 - 1) in
        let ps = bit_and (nbrs G x) below in
        let small_x = bonded_small bond_q in
        let at_x = (layer_down c rank pre (held ready) r x (k / 2) small).1 down_x in
        let at_p = (layer_down c rank pre (held ready) r p (k / 2 - 1) small).1 down_p in
        let at_q = (layer_down c rank pre (held ready) r q (k / 2 - 1) small).1 down_q in
        let near_p = (nbrs_bonded c rank pre (held ready) x p small_x).1 (bonded_sym c rank pre (held ready) bond_p) in
        let near_q = (nbrs_bonded c rank pre (held ready) x q small_x).1 bond_q in
        rw (ne_eqb (k % 2) 1 other)
        (evens_have G k r (at r (k / 2)) below x p q (atoms_64 small_x) (atoms_64 (bonded_small bond_p)) (atoms_64 (bonded_small (bonded_sym c rank pre (held ready) bond_q))) at_x
        ((and_has (nbrs G x) below p).1 (near_p, at_p)) ((above_has ps p q).1 (less, (and_has (nbrs G x) below q).1 (near_q, at_q))))

  -- ---- the families kept

  deep : {f : Family} {d : ℕ} {between : List ℕ} → Candidate c rank f d between → 3 ≤ f.long → 0 < d
  deep (Candidate.odd less bond under_p under_q long) h = omega arith
  deep (Candidate.even less bond_p bond_q under_x under_p under_q long) h = omega arith

  -- All candidates are found under their top atom.
  pub candidate_under : {f : Family} {d : ℕ} {between : List ℕ} → Candidate c rank f d between → 3 ≤ f.long → f ∈ under f.long f.r
  candidate_under (Candidate.odd {r} {p} {q} {d} {k} less bond under_p under_q long) h =
      let same : d ≡ k / 2 = omega arith in
      let deep : 0 < d = omega arith in
      let small = top_named under_p.1.1 (down_small under_p.1.1 deep) in
      odd_under r small (omega arith) (omega arith) less bond (subst (λ (e : ℕ). DownFrom c rank r p e) same under_p.1)
      (subst (λ (e : ℕ). DownFrom c rank r q e) same under_q.1)
  candidate_under (Candidate.even {r} {p} {q} {x} {d} {k} less bond_p bond_q under_x under_p under_q long) h =
      let same : d ≡ k / 2 - 1 = omega arith in
      let next : suc d ≡ k / 2 = omega arith in
      let small = top_named under_x.1.1 (bonded_small bond_q) in
      even_under r small (λ (o : k % 2 ≡ 1). omega arith) less bond_p bond_q (subst (λ (e : ℕ). DownFrom c rank r x e) next under_x.1)
      (subst (λ (e : ℕ). DownFrom c rank r p e) same under_p.1) (subst (λ (e : ℕ). DownFrom c rank r q e) same under_q.1)

  net_n : (net_of c).n ≡ c.n
  unfolding net_of
  net_n = refl

  -- The two chosen paths of a prototype end in two neighbours of r that precede it, so r is a top atom.
  pub prototype_top : {f : Family} {S : ℕ} → Prototype c rank f S → 3 ≤ f.long → bit (tops G pre) f.r ≡ 1
  prototype_top {f} s h =
      let some = deep s.candidate h in
      let down_p = chosen_down c ready.sound rank s.chosen_p in
      let down_q = chosen_down c ready.sound rank s.chosen_q in
      let a = before down_p some in
      let b = before down_q some in
      let small : r < c.n = bonded_small (bonded_sym c rank pre (held ready) a.bond) in
      let apart : a.a ≡ b.a → ⊥ = λ e.
      let same = s.apart b.a (subst (λ (x : ℕ). x ∈ s.P) e a.mem) b.mem in
      let less : rank r < rank r = subst (λ (x : ℕ). rank x < rank r) same b.less in
      omega arith in
      top_of_two G pre r (rw net_n small)
      (two_of c.n (bit_and (nbrs G r) (pre r)) a.a b.a (omega (arith, and_le_l (nbrs G r) (pre r), nbrs_small c rank pre (held ready) r))
      (bonded_small a.bond) (bonded_small b.bond) (has small a) (has small b) apart)
    where
      r : ℕ
      r = f.r

      has : {P : List ℕ} → r < c.n → (a : Before r P) → bit (bit_and (nbrs G r) (pre r)) a.a ≡ 1
      has small a =
          (and_has (nbrs G r) (pre r) a.a).1
          ((nbrs_bonded c rank pre (held ready) r a.a small).1 (bonded_sym c rank pre (held ready) a.bond), (ready.precede r a.a small (bonded_small a.bond)).1 a.less)

  -- A top atom is an atom of the compound.
  pub top_named_small : (r : ℕ) → bit (tops G pre) r ≡ 1 → r < c.n
  top_named_small r e = rw net_n at (top_small G pre r e)
