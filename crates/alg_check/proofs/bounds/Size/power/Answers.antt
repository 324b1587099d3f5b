use Rattle.alg_check.proofs.Powers.{power_size}
use Rattle.alg_check.proofs.bounds.Size.power.Goals as goal

pub returns : goal.returns
returns c =
    power_size c.args.self (record { norm = c.power_norm.result; degree = c.times_degree.result }) c.args.k
    c.power_norm.ensures c.times_degree.ensures
