-- By the first word.
use Rattle.alg_reader.proofs.AnswerBodies.{line_choice, here, past}
use Rattle.alg_reader.proofs.cursor.Cursor.among_lines.Goals as goal

pub returns-then-sees : goal.returns-then-sees
returns-then-sees c = here (line_choice c.args.format) _ c.line.result c.if-sees.ensures c.line.ensures

pub returns : goal.returns
returns c = past (line_choice c.args.format) _ c.among_steps.result c.if-sees.ensures c.among_steps.ensures
