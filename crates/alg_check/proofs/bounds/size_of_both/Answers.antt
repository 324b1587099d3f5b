use Rattle.alg_check.proofs.Sizes.{both_sizes}
use Rattle.alg_check.proofs.bounds.size_of_both.Goals as goal

pub returns : goal.returns
returns c =
    both_sizes c.args.these.now c.args.those.now c.size_of.result c.size_of-2.result c.times.result c.size_of.ensures
    c.size_of-2.ensures c.times.ensures
