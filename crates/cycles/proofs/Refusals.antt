-- Refusals 1 to 6 shut each other out, and an input that gives none of them is a sound compound.
use mathlib.Core.Path.{◌≡◌, refl, sym, ◌∙◌, subst}
use mathlib.Core.Logic.{inl, inr}
use Prim.Native.Nat.{ℕ, ◌<◌}
use native.Mathlib.Omega.{arith}
use Rattle.bondset.proofs.Laws.{lt_or_ge}
use Rattle.cycles.specs.Compound.{Compound, m, Joins, Sound, OnePiece}
use Rattle.cycles.specs.Refusal.{WrongAtoms, WrongBytes, NoAtom, Loop, SamePair, Again, Fine, Fits, FineBelow, Refused, Accepted}
use Rattle.cycles.proofs.PathsDecide.{joins_below}

module _ (c : Compound) where
  -- ---- a sound compound
  joins_named : {k a b : ℕ} → (NoAtom c k → ⊥) → Joins c k a b → a < c.n
  joins_named {k} {a} named (Joins.given h e f) = elim (lt_or_ge a c.n) [ inl l ↦ l | inr l ↦ absurd (named (inl (rw e l))) ]
  joins_named {k} {a} named (Joins.turned h e f) = elim (lt_or_ge a c.n) [ inl l ↦ l | inr l ↦ absurd (named (inr (rw e l))) ]

  joins_loop : {k a : ℕ} → Joins c k a a → Loop c k
  joins_loop (Joins.given h e f) = e ∙ sym f
  joins_loop (Joins.turned h e f) = f ∙ sym e

  joins_pair : {j k a b : ℕ} → Joins c j a b → Joins c k a b → SamePair c j k
  joins_pair (Joins.given h e f) (Joins.given h' e' f') = inl (e ∙ sym e', f ∙ sym f')
  joins_pair (Joins.given h e f) (Joins.turned h' e' f') = inr (e ∙ sym e', f ∙ sym f')
  joins_pair (Joins.turned h e f) (Joins.given h' e' f') = inr (f ∙ sym f', e ∙ sym e')
  joins_pair (Joins.turned h e f) (Joins.turned h' e' f') = inl (f ∙ sym f', e ∙ sym e')

  -- Fine bonds make a sound compound.
  pub fine_sound : FineBelow c (m c) → Sound c
  fine_sound fine = record {
    named = λ k a b joins. joins_named (fine k (joins_below c joins)).atoms joins;
    no_loop = λ k a joins. (fine k (joins_below c joins)).ends (joins_loop joins);
    once = λ j k a b joins joins'. elim (lt_or_ge j k) [
      | inl l ↦ absurd ((fine k (joins_below c joins')).new (j, l, joins_pair joins joins'))
      | inr l ↦ elim (lt_or_ge k j) [ inl l' ↦ absurd ((fine j (joins_below c joins)).new (k, l', joins_pair joins' joins)) | inr l' ↦ omega arith ]
    ];
  }

  -- ---- one refusal at most
  -- What bond k gives, of 3, 4, 5.
  data Gives (k : ℕ) : ℕ → Type 0 where
    no_atom : NoAtom c k → Gives k 3
    loop : (NoAtom c k → ⊥) → Loop c k → Gives k 4
    again : (NoAtom c k → ⊥) → (Loop c k → ⊥) → Again c k → Gives k 5

  gives_unique : {k a b : ℕ} → Gives k a → Gives k b → a ≡ b
  gives_unique (Gives.no_atom w) (Gives.no_atom v) = refl
  gives_unique (Gives.no_atom w) (Gives.loop s v) = absurd (s w)
  gives_unique (Gives.no_atom w) (Gives.again s t v) = absurd (s w)
  gives_unique (Gives.loop s w) (Gives.no_atom v) = absurd (s v)
  gives_unique (Gives.loop s w) (Gives.loop t v) = refl
  gives_unique (Gives.loop s w) (Gives.again t u v) = absurd (u w)
  gives_unique (Gives.again s t w) (Gives.no_atom v) = absurd (s v)
  gives_unique (Gives.again s t w) (Gives.loop u v) = absurd (t v)
  gives_unique (Gives.again s t w) (Gives.again u x v) = refl

  gives_not_fine : {k a : ℕ} → Gives k a → Fine c k → ⊥
  gives_not_fine (Gives.no_atom w) fine = fine.atoms w
  gives_not_fine (Gives.loop s w) fine = fine.ends w
  gives_not_fine (Gives.again s t w) fine = fine.new w

  -- A refusal, with 3, 4, 5 as one case.
  data Stage : ℕ → ℕ → Type 0 where
    atoms : WrongAtoms c → Stage 1 0
    bytes : (WrongAtoms c → ⊥) → WrongBytes c → Stage 2 0
    bond : {number k : ℕ} → Fits c → k < m c → FineBelow c k → Gives k number → Stage number k
    pieces : Fits c → FineBelow c (m c) → (OnePiece c → ⊥) → Stage 6 0

  stage : {number place : ℕ} → Refused c number place → Stage number place
  stage (Refused.atoms w) = Stage.atoms w
  stage (Refused.bytes s w) = Stage.bytes s w
  stage (Refused.no_atom f h b w) = Stage.bond f h b (Gives.no_atom w)
  stage (Refused.loop f h b s w) = Stage.bond f h b (Gives.loop s w)
  stage (Refused.again f h b s t w) = Stage.bond f h b (Gives.again s t w)
  stage (Refused.pieces f b w) = Stage.pieces f b w

  -- Both the number and the place.
  abbrev Same : ℕ → ℕ → ℕ → ℕ → Type 0
  Same a b a' b' = (a ≡ a') × (b ≡ b')

  bonds_same : {a b j k : ℕ} → FineBelow c j → FineBelow c k → Gives j a → Gives k b → Same a j b k
  bonds_same {a} {b} {j} {k} f g v w = elim (lt_or_ge j k) [
    | inl l ↦ absurd (gives_not_fine v (g j l))
    | inr l ↦ elim (lt_or_ge k j) [
      | inl l' ↦ absurd (gives_not_fine w (f k l'))
      | inr l' ↦ let e : k ≡ j = omega arith in (gives_unique v (subst (λ (x : ℕ). Gives x b) e w), sym e)
    ]
  ]

  stage_unique : {a b a' b' : ℕ} → Stage a b → Stage a' b' → Same a b a' b'
  stage_unique (Stage.atoms w) (Stage.atoms v) = (refl, refl)
  stage_unique (Stage.atoms w) (Stage.bytes s v) = absurd (s w)
  stage_unique (Stage.atoms w) (Stage.bond f h b v) = absurd (f.atoms w)
  stage_unique (Stage.atoms w) (Stage.pieces f b v) = absurd (f.atoms w)
  stage_unique (Stage.bytes s w) (Stage.atoms v) = absurd (s v)
  stage_unique (Stage.bytes s w) (Stage.bytes t v) = (refl, refl)
  stage_unique (Stage.bytes s w) (Stage.bond f h b v) = absurd (f.bytes w)
  stage_unique (Stage.bytes s w) (Stage.pieces f b v) = absurd (f.bytes w)
  stage_unique (Stage.bond f h b w) (Stage.atoms v) = absurd (f.atoms v)
  stage_unique (Stage.bond f h b w) (Stage.bytes s v) = absurd (f.bytes v)
  stage_unique (Stage.bond f h b w) (Stage.bond g l d v) = bonds_same b d w v
  stage_unique (Stage.bond {k = k} f h b w) (Stage.pieces g d v) = absurd (gives_not_fine w (d k h))
  stage_unique (Stage.pieces f b w) (Stage.atoms v) = absurd (f.atoms v)
  stage_unique (Stage.pieces f b w) (Stage.bytes s v) = absurd (f.bytes v)
  stage_unique (Stage.pieces f b w) (Stage.bond {k = k} g h d v) = absurd (gives_not_fine v (b k h))
  stage_unique (Stage.pieces f b w) (Stage.pieces g d v) = (refl, refl)

  stage_not_accepted : {number place : ℕ} → Stage number place → Accepted c → ⊥
  stage_not_accepted (Stage.atoms w) accepted = accepted.fits.atoms w
  stage_not_accepted (Stage.bytes s w) accepted = accepted.fits.bytes w
  stage_not_accepted (Stage.bond {k = k} f h b w) accepted = gives_not_fine w (accepted.fine k h)
  stage_not_accepted (Stage.pieces f b w) accepted = w accepted.one_piece

  -- "One numbered refusal": an input is refused in one way at most.
  pub refused_unique : {a b a' b' : ℕ} → Refused c a b → Refused c a' b' → (a ≡ a') × (b ≡ b')
  refused_unique r s = stage_unique (stage r) (stage s)

  -- No input is both refused and accepted.
  pub refused_not_accepted : {number place : ℕ} → Refused c number place → Accepted c → ⊥
  refused_not_accepted r = stage_not_accepted (stage r)

  -- An accepted input is a sound compound.
  pub accepted_sound : Accepted c → Sound c
  accepted_sound accepted = fine_sound accepted.fine
