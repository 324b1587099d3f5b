-- What divides which lead.
use Rattle.std.specs.Prelude.{◌≡◌, true}
use Rattle.std.proofs.Common.{sym, subst, arith}
use Rattle.std.specs.Ordering.{nat_cmp}
use Rattle.std.specs.Cmp.{nat_cmp_total}
use Rattle.std.specs.FinMap.{nat_cmp-IsAntisymmetric}
use Rattle.alg_mono.specs.FiniteMaps.{IsCanonical}
use Rattle.alg_mono.specs.Mono.{Monomial}
use Rattle.alg_mono.specs.Monomials.{Divides, lcm}
use Rattle.alg_mono.specs.Numbers.{exponents}
use Rattle.alg_mono.specs.NumberedPolynomials.{Polynomial}
use Rattle.alg_mono.proofs.Lcm.{exponent-lcm}
use Rattle.alg_groebner.specs.Leads.{lead, reduces}
use Rattle.alg_groebner.proofs.Leading.{reduces_says}

-- where q reduces p, its lead divides that of p
pub quotient_there : (p q : Polynomial) (f g : Monomial) → f ≡ lead p → g ≡ lead q → IsCanonical nat_cmp exponents g →
    reduces q p ≡ true → Divides nat_cmp g f
quotient_there p q f g fe ge c r =
    let divides = (reduces_says q p r).2 (subst (λ (x : Monomial). IsCanonical nat_cmp exponents x) ge c) in
    subst (λ (x : Monomial). Divides nat_cmp x f) (sym ge) (subst (λ (x : Monomial). Divides nat_cmp (lead q) x)
    (sym fe) divides)

-- both leads divide their least common multiple
pub left_divides : (a b l d : Monomial) → l ≡ lcm nat_cmp a b → d ≡ a → IsCanonical nat_cmp exponents b → Divides
    nat_cmp d l
left_divides a b l d le de c =
    subst (λ (x : Monomial). Divides nat_cmp x l) (sym de) (subst (λ (x : Monomial). Divides nat_cmp a x) (sym le)
    (λ k. let e = exponent-lcm nat_cmp_total nat_cmp-IsAntisymmetric k a b c in grind (arith, e)))

pub right_divides : (a b l d : Monomial) → l ≡ lcm nat_cmp a b → d ≡ b → IsCanonical nat_cmp exponents b → Divides
    nat_cmp d l
right_divides a b l d le de c =
    subst (λ (x : Monomial). Divides nat_cmp x l) (sym de) (subst (λ (x : Monomial). Divides nat_cmp b x) (sym le)
    (λ k. let e = exponent-lcm nat_cmp_total nat_cmp-IsAntisymmetric k a b c in grind (arith, e)))
