use Rattle.alg_terms.specs.Members.{goal_at, no_goal}
use Rattle.alg_nsatz.proofs.Found.{small}
use Rattle.alg_nsatz.proofs.decide.decide_nsatz.Goals as goal

pub answer-requires-clause-few : goal.answer-requires-clause-few
answer-requires-clause-few c =
    let file = c.args.file.now in
    (small file (goal_at file c.args.goal) c.in_ok-task.task
    (c.requires.valid.goals c.args.goal no_goal c.requires.there)
    c.in_ok-task.ensures.task).few
