-- Equal polynomials have equal values, and so have equal numerators where the conditions hold.
use Rattle.std.specs.Prelude.{All}
use Rattle.std.proofs.Common.{sym, ap, subst, ◌∙◌}
use Rattle.alg_terms.specs.declared.goals.Method.{Method}
use Rattle.alg_terms.specs.GoalRules.{IsGoal, IsByField, MayBeBy, DividesNowhere}
use Rattle.alg_terms.specs.Members.{goal_at, no_goal}
use Rattle.alg_universe.specs.declared.universe.Universe.{Ghosts}
use Rattle.alg_universe.specs.Right.{ConditionHolds}
use Rattle.alg_meaning.specs.FractionValues.{EqualNumerators}
use Rattle.alg_meaning.proofs.AtomValues.{value_at}
use Rattle.alg_meaning.proofs.Equal.{same_value}
use Rattle.alg_meaning.proofs.Typed.{typed_left, typed_right, plain}
use Rattle.alg_reify.specs.RightLaws.{RingProvedIsRight, FieldProvedIsRight}

pub ring_is_right : {E : Type 0} (u : Ghosts E) → RingProvedIsRight u
ring_is_right u file i valid there method verdict fits v values uses conditions constants =
    let goal = goal_at file i in
    let e = goal.equation in
    let is : IsGoal file goal = valid.goals i no_goal there in
    let apart : DividesNowhere e = let P : Method → Type 0 = λ m. MayBeBy file e m in subst P method is.method in
    sym (same_value u fits values e.sort e.left (typed_left file e is.equation) (plain e.left apart.0))
    ∙ ap (λ p. (value_at u fits values e.sort p).0) verdict.1
    ∙ same_value u fits values e.sort e.right (typed_right file e is.equation) (plain e.right apart.1)

pub field_is_right : {E : Type 0} (u : Ghosts E) → EqualNumerators u → FieldProvedIsRight u
field_is_right u equal file i conditions valid there method verdict fits v values uses hold constants =
    let e = (goal_at file i).equation in
    let is : IsGoal file (goal_at file i) = valid.goals i no_goal there in
    let by : IsByField file e = let P : Method → Type 0 = λ m. MayBeBy file e m in subst P method is.method in
    equal file fits v values e is.equation by (subst (All (ConditionHolds u file v e.sort)) verdict.2 hold) verdict.1
