-- Polynomials over atoms under a path of morphisms.
use Rattle.std.specs.Prelude.{◌≡◌, ℕ, List, [], ◌∷◌, ◌++◌, ℤ}
use Rattle.std.proofs.Common.{refl, ap, ◌∙◌}
use Rattle.alg_mono.specs.FiniteMaps.{renamed}
use Rattle.alg_mono.specs.Numbers.{integers}
use Rattle.alg_mono.specs.Polynomials.{IsPolynomial, poly_neg, poly_term}
use Rattle.alg_mono.proofs.Numbers.{integer_laws, exponent_laws}
use Rattle.alg_mono.proofs.Canonical.{IsCanonical-collect}
use Rattle.alg_mono.proofs.Closure.{IsPolynomial-rename}
use Rattle.alg_meaning.specs.Atoms.{Polynomial, atom_cmp, falling, plus, minus, times_poly, power_poly, atom_poly, variable, put_before, mono_under, poly_under, poly_along}
use Rattle.alg_meaning.specs.Orders.{atom_total, atom_anti}
use Rattle.alg_reify.proofs.Images.{image-plus, image-neg, image-minus, image-times, image-term, image-power}

-- the path over a variable
pub along-variable : (path : List ℕ) (k : ℕ) →
    poly_along path (atom_poly (variable k)) ≡ atom_poly (record { path = path; var = k })
along-variable [] k = refl
along-variable (f ∷ path) k = ap (poly_under f) (along-variable path k)

-- a path over a constant, and over zero, changes nothing
pub along-constant : (path : List ℕ) (n : ℤ) →
    poly_along path (poly_term falling integers [] n) ≡ poly_term falling integers [] n
along-constant [] n = refl
along-constant (f ∷ path) n =
    ap (poly_under f) (along-constant path n) ∙ image-term atom_total atom_anti atom_total atom_anti (put_before f) [] n

pub along-zero : (path : List ℕ) → poly_along path [] ≡ []
along-zero [] = refl
along-zero (f ∷ path) = ap (poly_under f) (along-zero path)

-- a path goes to the parts of an opposite, a sum, a difference, a product and a power
pub along-neg : (path : List ℕ) (p : Polynomial) → poly_along path (poly_neg p) ≡ poly_neg (poly_along path p)
along-neg [] p = refl
along-neg (f ∷ path) p =
    ap (poly_under f) (along-neg path p) ∙ image-neg atom_total atom_anti atom_total atom_anti (put_before f)
    (poly_along path p)

pub along-plus : (path : List ℕ) (p q : Polynomial) →
    poly_along path (plus p q) ≡ plus (poly_along path p) (poly_along path q)
along-plus [] p q = refl
along-plus (f ∷ path) p q =
    ap (poly_under f) (along-plus path p q)
    ∙ image-plus atom_total atom_anti atom_total atom_anti (put_before f) (poly_along path p) (poly_along path q)

pub along-minus : (path : List ℕ) (p q : Polynomial) →
    poly_along path (minus p q) ≡ minus (poly_along path p) (poly_along path q)
along-minus [] p q = refl
along-minus (f ∷ path) p q =
    ap (poly_under f) (along-minus path p q)
    ∙ image-minus atom_total atom_anti atom_total atom_anti (put_before f) (poly_along path p) (poly_along path q)

pub along-times : (path : List ℕ) (p q : Polynomial) →
    poly_along path (times_poly p q) ≡ times_poly (poly_along path p) (poly_along path q)
along-times [] p q = refl
along-times (f ∷ path) p q =
    ap (poly_under f) (along-times path p q)
    ∙ image-times atom_total atom_anti atom_total atom_anti (put_before f) (poly_along path p) (poly_along path q)

pub along-power : (path : List ℕ) (p : Polynomial) (n : ℕ) →
    poly_along path (power_poly p n) ≡ power_poly (poly_along path p) n
along-power [] p n = refl
along-power (f ∷ path) p n =
    ap (poly_under f) (along-power path p n)
    ∙ image-power atom_total atom_anti atom_total atom_anti (put_before f) (poly_along path p) n

-- one more morphism below the path
pub along-under : (path : List ℕ) (f : ℕ) (p : Polynomial) →
    poly_along path (poly_under f p) ≡ poly_along (path ++ f ∷ []) p
along-under [] f p = refl
along-under (g ∷ path) f p = ap (poly_under g) (along-under path f p)

-- what a polynomial is under a path is one
pub IsPolynomial-along : (path : List ℕ) (p : Polynomial) → IsPolynomial atom_cmp integers p →
    IsPolynomial atom_cmp integers (poly_along path p)
IsPolynomial-along [] p h = h
IsPolynomial-along (f ∷ path) p h =
    IsPolynomial-rename integer_laws atom_total atom_anti (mono_under f)
    (λ m. IsCanonical-collect exponent_laws atom_total atom_anti (renamed (put_before f) m)) (poly_along path p)
