use Rattle.alg_tokens.proofs.Following.{cut_goes_on}
use Rattle.alg_tokens.proofs.laws.cut_goes_on.Goals as goal

pub returns : goal.returns
returns c = cut_goes_on
