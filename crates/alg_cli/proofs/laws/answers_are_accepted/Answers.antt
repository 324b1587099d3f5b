use Rattle.alg_cli.proofs.OwnAnswers.{answers_are_accepted}
use Rattle.alg_cli.proofs.laws.answers_are_accepted.Goals as goal

pub returns : goal.returns
returns c = answers_are_accepted c.proved_is_accepted.ensures
