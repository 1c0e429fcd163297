-- The refusals in their order.
use Rattle.std.proofs.Common.{◌≡◌, ◌≤◌, ◌/◌, ℕ, min, refl, arith, Option, Some, None, IfErr}
use Rattle.std.specs.Option.{ok_or}
use Rattle.rings.specs.declared.Refusal.TheVariants.{ManyRings}
use Rattle.rings.specs.Calls.{Unfit, few_rows, few_class_rows, many_rings}
use Rattle.rings.proofs.call.fits.Goals as goal

-- Only where there is no value is there an error.
at_none : {E : Type 0} (o : Option ℕ) (e : E) (P : E → Type 0) → (o ≡ None → P e) → IfErr (ok_or o e) P
at_none None e P none = none refl
at_none (Some x) e P none = tt

pub returns-then-found-min-clause-unfit : goal.returns-then-found-min-clause-unfit
returns-then-found-min-clause-unfit c = few_rows (omega (arith, c.min.ensures))

pub returns-then-found-class_bytes-clause-unfit : goal.returns-then-found-class_bytes-clause-unfit
returns-then-found-class_bytes-clause-unfit c = few_class_rows (omega (arith, c.min.ensures)) c.if-found-class_bytes.true

pub returns-clause-unfit : goal.returns-clause-unfit
returns-clause-unfit c =
    let a = c.args in
    let few : a.found.families ≤ min (a.row_bytes / 8) 4096 = omega (arith, c.min.ensures) in
    rw c.ok_or.ensures.value
    (at_none a.found.rings ManyRings (Unfit a.found a.row_bytes a.class_bytes) (many_rings few c.if-found-class_bytes.false))
