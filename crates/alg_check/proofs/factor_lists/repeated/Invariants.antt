use Rattle.std.proofs.Common.{◌≡◌}
use Rattle.alg_check.specs.Factors.{repeated}
use Rattle.alg_check.proofs.factor_lists.repeated.Given as goal

-- so often until now
abbrev pub invariant-loop : goal.invariant-loop
invariant-loop l = l.all.items ≡ repeated l.counter l.list
