-- What the model hands up through the layers counts the ways down from p and from q.
use mathlib.Core.Path.{◌≡◌, sym, ap₂, ◌∙◌, subst}
use mathlib.Core.Bool.{cond}
use mathlib.Core.List.{List, [], ◌∷◌}
use mathlib.Core.Logic.{◌↔◌}
use Prim.Native.Nat.{ℕ, zero, suc, ◌+◌, ◌*◌, ◌<◌, ◌≤◌}
use native.Mathlib.Nat.{zero-add, add-mul}
use native.Mathlib.Omega.{arith}
use lib.Bits.{bit_and}
use lib.Dec.{eqb}
use lib.ListN.{get_or}
use Rattle.spans.specs.Elements.{◌∈◌, Once}
use Rattle.spans.specs.Graded.{total}
use Rattle.bondset.specs.Sets.{bit, members, Climbs}
use Rattle.bondset.proofs.Members.{members_climb, mem_of_bit, bit_of_mem}
use Rattle.cycles.specs.Compound.{Compound, Bonded}
use Rattle.cycles.specs.Family.{Down}
use Rattle.cycles.specs.Through.{Exactly}
use Rattle.cycles.proofs.PathsDown.{down_far, down_before}
use Rattle.cycles.proofs.Exact.{exactly_at, total_same}
use Rattle.cycles.proofs.Falls.{Fall, Above, falls_start, falls_step}
use Rattle.model.specs.Fold.{through}
use Rattle.model.specs.Net.{Net, net_of, nbrs}
use Rattle.model.specs.Through.{upways}
use Rattle.model.proofs.Ready.{held, Ready, DownFrom, Layered}
use Rattle.model.proofs.Layers.{bonded_sym}
use Rattle.model.proofs.Walks.{mask_has}
use Rattle.model.proofs.ItemsCandidates.{bonded_small}

-- A loop that adds up is a sum.
pub through_total : (F : ℕ → ℕ) (xs : List ℕ) (acc : ℕ) → through (λ s acc. acc + F s) xs acc ≡ acc + total F xs
unfolding through total
through_total F [] acc = omega arith
through_total F (x ∷ xs) acc = omega (arith, through_total F xs (acc + F x))

pub climbs_once : {xs : List ℕ} → Climbs xs → Once xs
climbs_once Climbs.none = Once.none
climbs_once (Climbs.next {x} up rest) = Once.more {x = x} (λ (h : x ∈ _). omega (arith, up x h)) (climbs_once rest)

total_linear : (F H : ℕ → ℕ) (a b : ℕ) (xs : List ℕ) → total (λ s. F s * a + H s * b) xs ≡ total F xs * a + total H xs * b
unfolding total
total_linear F H a b [] = omega arith
total_linear F H a b (x ∷ xs) = omega (arith, total_linear F H a b xs, add-mul (F x) (total F xs) a, add-mul (H x) (total H xs) b)

-- 1 at p, and else 0.
abbrev pub at : ℕ → ℕ → ℕ
at p t = cond (eqb p t) 1 0

module _ (G : Net) (us : List ℕ) where
  abbrev farther : ℕ → ℕ → ℕ
  farther e t = bit_and (nbrs G t) (get_or us (suc e) 0)

  upways_total : (start : ℕ → ℕ) (i e t : ℕ) → upways G us start (suc i) e t ≡ total (upways G us start i (suc e)) (members 64 (farther e t))
  unfolding upways
  upways_total start i e t = through_total (upways G us start i (suc e)) (members 64 (farther e t)) 0 ∙ zero-add _

  -- Two starts handed up together are handed up each by itself.
  pub upways_linear : (start f g : ℕ → ℕ) (a b : ℕ) → ((t : ℕ) → start t ≡ f t * a + g t * b)
      → (i e t : ℕ) → upways G us start i e t ≡ upways G us f i e t * a + upways G us g i e t * b
  unfolding upways
  upways_linear start f g a b is zero e t = is t
  upways_linear start f g a b is (suc i) e t =
      upways_total start i e t
      ∙ total_same _ (λ s. upways G us f i (suc e) s * a + upways G us g i (suc e) s * b) (members 64 (farther e t))
      (λ s h. upways_linear start f g a b is i (suc e) s)
      ∙ total_linear (upways G us f i (suc e)) (upways G us g i (suc e)) a b (members 64 (farther e t))
      ∙ ap₂ (λ (x y : ℕ). x * a + y * b) (sym (upways_total f i e t)) (sym (upways_total g i e t))

module _ (c : Compound) (rank pre : ℕ → ℕ) (ready : Ready c rank pre) (us : List ℕ) (h r : ℕ) (small : r < c.n) (layered : Layered c pre r h us) where
  abbrev G : Net
  G = net_of c

  -- An atom with a path down is an atom of the compound.
  pub down_named : {t e : ℕ} {P : List ℕ} → Down c rank r t e P → t < c.n
  down_named Down.top = small
  down_named (Down.step before far bond rest) = bonded_small c rank pre ready bond

  -- The atoms above t are its neighbours in the layer after.
  farther_above : (e t s : ℕ) → suc e ≤ h → DownFrom c rank r t e → (s ∈ members 64 (farther G us e t)) ↔ Above c rank r t e s
  farther_above e t s deep down = (to, from)
    where
      mask : (bit (farther G us e t) s ≡ 1) ↔ (Bonded c t s × DownFrom c rank r s (suc e))
      mask = mask_has c rank pre (held ready) us r h small layered t s (suc e) (down_named down.1) deep

      to : s ∈ members 64 (farther G us e t) → Above c rank r t e s
      to m =
          let w = mask.0 (bit_of_mem 64 (farther G us e t) s m) in
          record {
            before = down_before c rank w.1.1 (omega arith);
            far = down_far c rank w.1.1;
            bond = bonded_sym c rank pre (held ready) w.0;
          }

      from : Above c rank r t e s → s ∈ members 64 (farther G us e t)
      from a =
          let named = bonded_small c rank pre ready a.bond in
          mem_of_bit 64 (farther G us e t) s (omega (arith, ready.atoms))
          (mask.1 (bonded_sym c rank pre (held ready) a.bond, (_, Down.step a.before a.far a.bond down.1)))

  -- What is handed up from 1 at p is the number of ways from p down to t.
  pub upways_falls : (p d i e t : ℕ) → i + e ≡ d → d ≤ h → DownFrom c rank r t e → Exactly (upways G us (at p) i e t) (Fall c rank r p d t e)
  unfolding upways
  upways_falls p d zero e t sum deep down =
      let same : d ≡ e = omega arith in
      subst (λ (n : ℕ). Exactly (at p t) (Fall c rank r p d t n)) same (falls_start c rank r p d t)
  upways_falls p d (suc i) e t sum deep down =
      exactly_at (sym (upways_total G us (at p) i e t))
      (falls_step c rank (upways G us (at p) i (suc e)) (omega arith) (climbs_once (members_climb 64 (farther G us e t)))
      (λ s. farther_above e t s (omega arith) down)
      (λ s m.
      let a = (farther_above e t s (omega arith) down).0 m in
      upways_falls p d i (suc e) s (omega arith) deep (_, Down.step a.before a.far a.bond down.1)))
