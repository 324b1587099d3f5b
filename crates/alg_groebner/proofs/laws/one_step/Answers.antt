use Rattle.alg_groebner.proofs.Determined.{one_step, stays_in_order}
use Rattle.alg_groebner.proofs.laws.one_step.Goals as goal

pub returns : goal.returns
returns c = record { step = one_step; order = stays_in_order }
