use Rattle.std.proofs.Common.{◌≡◌, map, Some}
use Rattle.alg_cli.proofs.top.all_some.Given as goal

abbrev pub invariant-loop-answer : goal.invariant-loop-answer
invariant-loop-answer l = l.all.items ≡ map Some l.yielded
