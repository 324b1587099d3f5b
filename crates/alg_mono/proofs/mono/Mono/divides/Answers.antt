use Rattle.std.proofs.Common.{subst}
use Rattle.std.specs.Ordering.{nat_cmp}
use Rattle.std.specs.Cmp.{nat_cmp_total}
use Rattle.std.specs.FinMap.{nat_cmp-IsAntisymmetric}
use Rattle.alg_mono.specs.FiniteMaps.{IsCanonical}
use Rattle.alg_mono.specs.Numbers.{exponents}
use Rattle.alg_mono.proofs.Quotients.{divides_if_fits, fits_if_divides}
use Rattle.alg_mono.proofs.mono.Mono.divides.Goals as goal

-- a test of each pair decides for each atom
pub returns : goal.returns
returns c =
    let a = c.args.self.now in
    let b = c.args.other.now in
    let canonical = subst (IsCanonical nat_cmp exponents) c.self.view_is c.self.invariant.canonical in
    let fits = divides_if_fits nat_cmp_total nat_cmp-IsAntisymmetric a b canonical in
    let divides = fits_if_divides nat_cmp_total nat_cmp-IsAntisymmetric a b canonical in
    (λ yes. fits (c.each_pair_fits.ensures.0 yes), λ all. c.each_pair_fits.ensures.1 (divides all))
