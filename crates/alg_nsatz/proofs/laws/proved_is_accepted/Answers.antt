use Rattle.alg_nsatz.proofs.Accepted.{proved_is_accepted}
use Rattle.alg_nsatz.proofs.laws.proved_is_accepted.Goals as goal

pub returns : goal.returns
returns c = proved_is_accepted c.certificates_are_good.ensures c.powers_are_sought.ensures
