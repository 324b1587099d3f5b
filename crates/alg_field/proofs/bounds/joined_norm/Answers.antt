use Rattle.std.proofs.Common.{arith}
use Rattle.alg_reify.specs.FactorMaps.{norms}
use Rattle.alg_field.proofs.Measures.{each_some, each_factor, norms_some, times_more}
use Rattle.alg_field.proofs.bounds.joined_norm.Goals as goal

pub norm_bound-requires-in-Some-clause-start : goal.norm_bound-requires-in-Some-clause-start
norm_bound-requires-in-Some-clause-start c =
    let a = c.args.a.now in
    let some = norms_some a (each_some a (each_factor a c.requires.a)) in
    (omega (arith, c.in-Some.ensures.0, some), c.in-Some.ensures.1)

-- the first list's bound is too great already
pub returns-in-None : goal.returns-in-None
returns-in-None c =
    let b = c.args.b.now in
    let more = times_more (norms c.args.a.now) (norms b) (norms_some b (each_some b (each_factor b c.requires.b))) in
    omega (arith, c.in-None.ensures, more)
