use Rattle.std.proofs.Common.{◌≡◌, take}
use Rattle.alg_check.specs.Factors.{times_in}
use Rattle.alg_check.proofs.factor_lists.take_away.Given as goal

-- the list is as it was, and the factor is not among those that were looked at
abbrev pub invariant-loop-i : goal.invariant-loop-i
invariant-loop-i l = record {
  same : l.list.items ≡ l.initial.list.items;
  apart : times_in l.p (take l.i l.list.items) ≡ 0;
}
