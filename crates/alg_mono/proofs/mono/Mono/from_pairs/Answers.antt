use Rattle.std.proofs.Common.{◌≤◌, sym, subst, rules}
use Rattle.std.specs.Ordering.{nat_cmp}
use Rattle.std.specs.Cmp.{nat_cmp_total}
use Rattle.std.specs.FinMap.{nat_cmp-IsAntisymmetric}
use Rattle.alg_mono.specs.Monomials.{IsMono, MAX_DEGREE, degree}
use Rattle.alg_mono.proofs.Sums.{IsMono-collect}
use Rattle.alg_mono.proofs.mono.Mono.from_pairs.Goals as goal

-- what collects pairs within the limit is a monomial
pub invariant_of-result : goal.invariant_of-result
invariant_of-result c =
    let within : degree c.args.pairs.now ≤ MAX_DEGREE = search rules in
    subst (IsMono nat_cmp) (sym c.in_ok-pairs.ensures)
    (IsMono-collect nat_cmp_total nat_cmp-IsAntisymmetric c.args.pairs.now within)
