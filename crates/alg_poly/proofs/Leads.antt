-- The first term has the greatest degree.
use Rattle.std.specs.Prelude.{◌≡◌, ◌<◌, ◌≤◌, [], ◌∷◌, ℤ, reverse, Some, slice_get}
use Rattle.std.proofs.Common.{arith, T, ap, sym, ◌∙◌}
use Rattle.std.specs.declared.cmp.Ordering.TheVariants.{Less, Equal, Greater}
use Rattle.std.specs.Ordering.{nat_cmp, ordering_then, MatchOrdering}
use Rattle.std.specs.Cmp.{ranks}
use Rattle.std.specs.Cmp.Lexicographic.{slice_cmp}
use Rattle.std.specs.FinMap.Entries.{below_all}
use Rattle.alg_mono.specs.FiniteMaps.{IsCanonical}
use Rattle.alg_mono.specs.Monomials.{degree, entry_cmp}
use Rattle.alg_mono.specs.Numbers.{integers}
use Rattle.alg_mono.specs.Polynomials.{poly_degree}
use Rattle.alg_mono.proofs.Canonical.{first, second, less}
use Rattle.alg_mono.proofs.Degrees.{DegreesWithin, degree_within}
use Rattle.alg_mono.specs.Mono.{Monomial}
use Rattle.alg_mono.specs.NumberedPolynomials.{Polynomial, before}

before_degree : (m n : Monomial) → before m n ≡ Less → degree n ≤ degree m
before_degree m n e =
    elim (nat_cmp (degree n) (degree m)) as (λ r.
    MatchOrdering r (degree n < degree m) (degree n ≡ degree m) (degree m < degree n) →
    ordering_then r (slice_cmp (entry_cmp nat_cmp) (reverse m) (reverse n)) ≡ Less → degree n ≤ degree m) [
      | Less ↦ λ c _. omega arith
      | Equal ↦ λ c _. omega arith
      | Greater ↦ λ c e. cc
    ] (ranks (degree n) (degree m)) e

degrees_below : (m : Monomial) (p : Polynomial) → T (below_all before m p) → DegreesWithin (degree m) p
degrees_below m [] h = tt
degrees_below m (e ∷ p) h = (before_degree m e.0 (less _ (first _ _ h)), degrees_below m p (second _ _ h))

pub lead_degree : (e : Monomial × ℤ) (p : Polynomial) → IsCanonical before integers.amounts (e ∷ p) →
    poly_degree (e ∷ p) ≡ degree e.0
lead_degree e p c =
    let rest = degree_within (degree e.0) p (degrees_below e.0 p (first _ _ c.rises)) in
    grind (arith, rest)

pub first_degree : (p : Polynomial) (x : Monomial × ℤ) → IsCanonical before integers.amounts p →
    Some x ≡ slice_get p 0 → degree x.0 ≡ poly_degree p
first_degree [] x c e = cc
first_degree (y ∷ p) x c e = let is : x ≡ y = cc in ap (λ (z : Monomial × ℤ). degree z.0) is ∙ sym (lead_degree y p c)
