use Rattle.alg_tokens.proofs.Cuttings.{one_cutting}
use Rattle.alg_tokens.proofs.laws.one_cutting.Goals as goal

pub returns : goal.returns
returns c = one_cutting
