use Rattle.alg_criterion.proofs.Ends.{sure_lem}
use Rattle.alg_criterion.proofs.sure.search_sure.Goals as goal

pub returns-clause-sure : goal.returns-clause-sure
returns-clause-sure c =
    sure_lem c.none_exists.ensures c.args.hyps.now c.args.goal.now c.args.power c.args.limit
    c.are_polynomials.ensures c.terms.ensures.sound c.requires.few c.requires.powers c.requires.limited
    c.search.result c.search.ensures.decides
