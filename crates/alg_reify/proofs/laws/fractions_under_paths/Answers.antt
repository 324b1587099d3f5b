use Rattle.alg_reify.proofs.FractionsUnder.{fractions_under_paths}
use Rattle.alg_reify.proofs.laws.fractions_under_paths.Goals as goal

pub returns : goal.returns
returns c = fractions_under_paths
