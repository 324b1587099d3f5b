-- The coefficient of a term at an index is within the norm.
use Rattle.std.specs.Prelude.{◌≡◌, ℕ, ◌+◌, ◌<◌, ◌≤◌, length, ℤ}
use Rattle.std.proofs.Common.{get_or, sym, subst, arith}
use Rattle.std.specs.Int.RustNames.{unsigned_abs}
use Rattle.std.proofs.lemmas.List.Sums.{get_or-le-sum_by}
use Rattle.alg_mono.specs.Mono.{Monomial}
use Rattle.alg_mono.specs.NumberedPolynomials.{Polynomial}
use Rattle.alg_mono.specs.Polynomials.{MAX, norm}

-- a coefficient's magnitude is at most the norm
pub coefficient_small : (p : Polynomial) (i : ℕ) (x : Monomial × ℤ) → i < length p → x ≡ get_or p i x →
    unsigned_abs x.1 ≤ norm p
coefficient_small p i x h e =
    subst (λ (z : Monomial × ℤ). unsigned_abs z.1 ≤ norm p) (sym e)
    (get_or-le-sum_by (λ (z : Monomial × ℤ). unsigned_abs z.1) p i x h)

pub both_fit : (a b : Polynomial) (i j : ℕ) (x y : Monomial × ℤ) → i < length a → j < length b →
    x ≡ get_or a i x → y ≡ get_or b j y → norm a + norm b ≤ MAX → unsigned_abs x.1 + unsigned_abs y.1 ≤ MAX
both_fit a b i j x y h k e f m = omega (arith, coefficient_small a i x h e, coefficient_small b j y k f)
