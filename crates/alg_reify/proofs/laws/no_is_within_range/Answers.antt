use Rattle.alg_reify.proofs.Ranges.{no_is_within_range}
use Rattle.alg_reify.proofs.laws.no_is_within_range.Goals as goal

pub returns : goal.returns
returns c = no_is_within_range
