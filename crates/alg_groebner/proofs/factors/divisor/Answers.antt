use Rattle.std.specs.Prelude.{◌≡◌, ◌<◌, ◌^◌, pos, ◌<ℤ◌, ℤ, unsigned_abs}
use Rattle.std.proofs.Common.{rules, arith, ap, sym, subst, ◌∙◌}
use Rattle.std.specs.Int.{IsGcd}
use mir.Syntax.{w128}
use Rattle.std.proofs.lemmas.Int.{to_z_pos, ints}
use Rattle.alg_groebner.specs.Divisors.{common}
use Rattle.alg_groebner.proofs.Divisors.{common_is, common_small}
use Rattle.alg_groebner.proofs.factors.divisor.Goals as goal

-- what Euclid's steps gave is the greatest common divisor, and it fits
divisor_is : (c : goal.After-greatest_divisor) →
    (c.greatest_divisor.result ≡ common c.args.u c.args.v) × (0 < c.greatest_divisor.result)
    × (c.greatest_divisor.result < 2 ^ 127)
divisor_is c =
    let u : c.unsigned_abs.result ≡ unsigned_abs c.args.u = search rules in
    let v : c.unsigned_abs-2.result ≡ unsigned_abs c.args.v = search rules in
    let gcd : IsGcd (unsigned_abs c.args.u) (unsigned_abs c.args.v) c.greatest_divisor.result =
    subst (λ n. IsGcd (unsigned_abs c.args.u) n c.greatest_divisor.result) v
    (subst (λ n. IsGcd n c.unsigned_abs-2.result c.greatest_divisor.result) u c.greatest_divisor.ensures) in
    let small = common_small c.args.u c.args.v c.greatest_divisor.result c.requires.some gcd in
    let fits = c.requires.u_fits in
    (common_is c.args.u c.args.v c.greatest_divisor.result c.requires.some gcd, small.0, omega arith)

pub overflow_cast-result : goal.overflow_cast-result
overflow_cast-result c = let fits = (divisor_is c).2 in search (rules, fits)

pub returns-clause-value : goal.returns-clause-value
returns-clause-value c =
    let d = divisor_is c in
    to_z_pos w128 c.greatest_divisor.result d.2 ∙ ap pos d.0

pub returns-clause-positive : goal.returns-clause-positive
returns-clause-positive c =
    let d = divisor_is c in
    let positive : pos 0 <ℤ pos c.greatest_divisor.result = let p = d.1 in omega (arith, ints) in
    subst (λ (z : ℤ). pos 0 <ℤ z) (sym (to_z_pos w128 c.greatest_divisor.result d.2)) positive
