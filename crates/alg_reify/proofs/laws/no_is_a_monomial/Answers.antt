use Rattle.alg_reify.proofs.NoMonomials.{no_is_a_monomial}
use Rattle.alg_reify.proofs.laws.no_is_a_monomial.Goals as goal

pub returns : goal.returns
returns c = no_is_a_monomial
