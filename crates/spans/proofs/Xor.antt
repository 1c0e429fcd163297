-- Laws of a group in which each element is its own inverse.
use mathlib.Core.Path.{◌≡◌, sym, ◌∙◌, ap}
use Rattle.spans.specs.Group.{Space}

module _ {X : Type 0} (G : Space X) where
  open G use {o, ◌⊕◌, comm, assoc, self, left}

  pub right : (x : X) → x ⊕ o ≡ x
  right x = comm x o ∙ left x

  pub left_comm : (x y z : X) → x ⊕ (y ⊕ z) ≡ y ⊕ (x ⊕ z)
  left_comm x y z = sym (assoc x y z) ∙ ap (λ (w : X). w ⊕ z) (comm x y) ∙ assoc y x z

  pub cancel : (x y : X) → x ⊕ (x ⊕ y) ≡ y
  cancel x y = sym (assoc x x y) ∙ ap (λ (w : X). w ⊕ y) (self x) ∙ left y

  -- The laws of `Space` as lemmas: a rule set names no fields.
  pub comm' : (x y : X) → x ⊕ y ≡ y ⊕ x
  comm' = comm

  pub assoc' : (x y z : X) → (x ⊕ y) ⊕ z ≡ x ⊕ (y ⊕ z)
  assoc' = assoc

  pub self' : (x : X) → x ⊕ x ≡ o
  self' = self

  pub left' : (x : X) → o ⊕ x ≡ x
  left' = left

  -- Decides equations between sums: `simp (xor, G)`.
  pub ruleset xor = (comm', assoc', left_comm, self', left', right, cancel)

  pub right_comm : (v x w : X) → (v ⊕ x) ⊕ w ≡ (v ⊕ w) ⊕ x
  right_comm v x w = simp xor

  pub undo : (v x : X) → (v ⊕ x) ⊕ x ≡ v
  undo v x = simp xor

  pub undo_left : (x v : X) → (x ⊕ v) ⊕ x ≡ v
  undo_left x v = simp xor

  pub both : (v w x : X) → (v ⊕ x) ⊕ (w ⊕ x) ≡ v ⊕ w
  both v w x = simp xor

  pub both_left : (x v w : X) → (x ⊕ v) ⊕ (x ⊕ w) ≡ v ⊕ w
  both_left x v w = simp xor

  pub zeros : (v w : X) → v ≡ o → w ≡ o → v ⊕ w ≡ o
  zeros v w p q = rw (p, q) (left o)

  pub differ : (v w : X) → v ≡ w → v ⊕ w ≡ o
  differ v w e = ap (λ (u : X). u ⊕ w) e ∙ self w
