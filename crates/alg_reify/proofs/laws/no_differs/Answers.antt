use Rattle.alg_reify.proofs.Verdicts.{no_differs}
use Rattle.alg_reify.proofs.laws.no_differs.Goals as goal

pub returns : goal.returns
returns c = no_differs
