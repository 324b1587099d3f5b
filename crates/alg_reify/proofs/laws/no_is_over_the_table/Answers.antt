use Rattle.alg_reify.proofs.Verdicts.{no_is_over_the_table}
use Rattle.alg_reify.proofs.laws.no_is_over_the_table.Goals as goal

pub returns : goal.returns
returns c = no_is_over_the_table
