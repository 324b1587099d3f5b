use Rattle.std.proofs.Common.{[], ◌∷◌}
use Rattle.alg_check.proofs.Sizes.{both_sizes, one_size}
use Rattle.alg_check.proofs.bounds.size_over.Goals as goal

pub returns : goal.returns
returns c =
    both_sizes (c.args.first.now ∷ []) c.args.rest.now c.of.result c.size_of.result c.times.result
    (one_size c.args.first.now c.of.result c.of.ensures.size c.of.ensures.sound) c.size_of.ensures c.times.ensures
