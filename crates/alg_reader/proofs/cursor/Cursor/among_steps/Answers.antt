-- By the first word.
use Rattle.alg_reader.proofs.AnswerBodies.{step_choice, here, past}
use Rattle.alg_reader.proofs.cursor.Cursor.among_steps.Goals as goal

pub returns-then-sees : goal.returns-then-sees
returns-then-sees c = here (step_choice c.args.format) _ c.step.result c.if-sees.ensures c.step.ensures

pub returns : goal.returns
returns c = past (step_choice c.args.format) _ c.body.result c.if-sees.ensures c.body.ensures
