use Rattle.std.proofs.Common.{ap, get_or, subst, sym, ◌∙◌}
use Rattle.alg_terms.specs.GoalRules.{IsGoal}
use Rattle.alg_prover.proofs.answering.decide.Goals as goal

-- the goal is one of the file
pub decide_by_ring-requires-clause-goal : goal.decide_by_ring-requires-clause-goal
decide_by_ring-requires-clause-goal c =
    let it = c.index-items-number.result in
    subst (IsGoal c.args.file.now)
    (sym (c.index-items-number.is ∙ ap (λ goals. get_or goals c.args.number it) c.items.ensures))
    (c.requires.valid.goals c.args.number it c.requires.there)

pub decide_by_field-requires-clause-goal : goal.decide_by_field-requires-clause-goal
decide_by_field-requires-clause-goal c =
    let it = c.index-items-number.result in
    subst (IsGoal c.args.file.now)
    (sym (c.index-items-number.is ∙ ap (λ goals. get_or goals c.args.number it) c.items.ensures))
    (c.requires.valid.goals c.args.number it c.requires.there)
