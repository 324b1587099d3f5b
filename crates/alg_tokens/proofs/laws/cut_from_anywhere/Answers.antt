use Rattle.alg_tokens.proofs.Following.{cut_from_anywhere}
use Rattle.alg_tokens.proofs.laws.cut_from_anywhere.Goals as goal

pub returns : goal.returns
returns c = cut_from_anywhere
