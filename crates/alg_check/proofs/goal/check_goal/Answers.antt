use Rattle.std.proofs.Common.{sym, subst, ◌∙◌, ap, get_or, List}
use Rattle.alg_terms.specs.declared.goals.Goal.{Goal}
use Rattle.alg_terms.specs.GoalRules.{IsGoal}
use Rattle.alg_check.proofs.goal.check_goal.Goals as goal

-- the goal of a number is one
pub check_answer-requires-clause-goal : goal.check_answer-requires-clause-goal
check_answer-requires-clause-goal c =
    let x = c.index-items-goal.result in
    subst (IsGoal c.args.file.now)
    (sym (c.index-items-goal.is ∙ ap (λ (l : List Goal). get_or l c.args.goal x) c.items.ensures))
    (c.requires.valid.goals c.args.goal x c.requires.there)
