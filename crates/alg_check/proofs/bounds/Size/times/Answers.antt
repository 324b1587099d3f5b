use Rattle.alg_check.proofs.Sizes.{times_size}
use Rattle.alg_check.proofs.bounds.Size.times.Goals as goal

pub returns : goal.returns
returns c =
    times_size c.args.self c.args.other (record { norm = c.times_norm.result; degree = c.plus_degree.result })
    c.times_norm.ensures c.plus_degree.ensures
