use Rattle.std.proofs.Common.{◌≡◌, ◌++◌, drop}
use Rattle.alg_check.proofs.factor_lists.append.Given as goal

-- what is there, with what is left, is all
abbrev pub invariant-loop-p : goal.invariant-loop-p
invariant-loop-p l = l.list.items ++ drop l.p-index l.more ≡ l.initial.list.items ++ l.more
