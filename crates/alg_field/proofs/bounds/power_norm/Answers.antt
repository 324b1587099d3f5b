use Rattle.std.proofs.Common.{arith}
use Rattle.alg_reify.specs.FactorMaps.{norms}
use Rattle.alg_field.proofs.Measures.{each_some, each_factor, norms_some, power_more}
use Rattle.alg_field.proofs.bounds.power_norm.Goals as goal

-- the bound is too great already, and its power is no less
pub returns-in-None : goal.returns-in-None
returns-in-None c =
    let list = c.args.list.now in
    let some = norms_some list (each_some list (each_factor list c.requires.list)) in
    omega (arith, c.in-None.ensures, power_more (norms list) c.args.n some c.requires.some)
