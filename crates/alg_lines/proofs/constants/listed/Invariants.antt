use Rattle.std.proofs.Common.{◌≡◌}
use Rattle.alg_lines.proofs.constants.listed.Given as goal

abbrev pub invariant-loop-number : goal.invariant-loop-number
invariant-loop-number l = l.numbers.items ≡ l.yielded
