-- A loop over a list, one turn at a time: what is left of the list takes the state where the whole list takes the start.
use mathlib.Core.Path.{◌≡◌}
use mathlib.Core.List.{List, [], ◌∷◌}
use Rattle.model.specs.Fold.{through}

module _ {C S : Type 0} (step : C → S → S) where
  -- What is left takes the state to the goal.
  pub record Left (cs : List C) (state goal : S) : Type 0 where
    pub same : through step cs state ≡ goal

  -- After a turn.
  pub left_next : {cs rest : List C} {c : C} {state next goal : S} → cs ≡ c ∷ rest → next ≡ step c state → Left cs state goal → Left rest next goal
  unfolding through
  left_next {cs} {rest} {c} {state} {next} {goal} e f left = record { same = rw f (rw e at left.same) }

  -- Nothing is left.
  pub left_none : {cs : List C} {state goal : S} → cs ≡ [] → Left cs state goal → state ≡ goal
  unfolding through
  left_none {cs} {state} {goal} e left = rw e at left.same
