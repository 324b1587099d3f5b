use Rattle.alg_reify.proofs.Right.{field_is_right}
use Rattle.alg_field.proofs.laws.proved_is_right.Goals as goal

pub returns : goal.returns
returns g c = field_is_right g.U.Universe c.equal_numerators.ensures
