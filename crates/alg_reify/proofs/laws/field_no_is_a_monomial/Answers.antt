use Rattle.alg_reify.proofs.NoMonomials.{field_no_is_a_monomial}
use Rattle.alg_reify.proofs.laws.field_no_is_a_monomial.Goals as goal

pub returns : goal.returns
returns c = field_no_is_a_monomial
