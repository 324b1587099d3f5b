use Rattle.alg_reify.proofs.NumberedFractions.{numbering_keeps}
use Rattle.alg_reify.proofs.laws.numbering_keeps_fractions.Goals as goal

pub returns : goal.returns
returns c = numbering_keeps
