use Rattle.alg_tokens.proofs.Cuttings.{one_next}
use Rattle.alg_tokens.proofs.laws.one_next.Goals as goal

pub returns : goal.returns
returns c = one_next
