use Rattle.alg_reify.proofs.Verdicts.{one_ring_verdict}
use Rattle.alg_reify.proofs.laws.one_ring_verdict.Goals as goal

pub returns : goal.returns
returns c = one_ring_verdict
