use Rattle.alg_cli.proofs.CheckAccepts.{check_accepts}
use Rattle.alg_cli.proofs.laws.check_accepts.Goals as goal

pub returns : goal.returns
returns c =
    check_accepts c.field_terms_occur.ensures c.answers_are_printable.ensures c.answers_are_accepted.ensures
    c.reads_back_with_answers.ensures
