use Rattle.std.proofs.Common.{◌≡◌, drop, map}
use Rattle.alg_lines.specs.Constants.{added}
use Rattle.alg_lines.proofs.constants.add_divisors.Given as goal

abbrev pub invariant-loop-line : goal.invariant-loop-line
invariant-loop-line l =
    added l.fn.set.keys (map (λ x. x.d) l.lines) ≡ added l.set.keys (map (λ x. x.d) (drop l.line-index l.lines))
