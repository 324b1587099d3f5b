-- The turns of loops over terms.
use Rattle.std.specs.Prelude.{◌≡◌, ℕ, ◌+◌, ◌*◌, ◌<◌, ◌≤◌, [], ◌∷◌, ◌++◌, length, take, ℤ}
use Rattle.std.proofs.Common.{get_or, refl, sym, ap, ◌∙◌, arith}
use lib.IntN.{neg_ℤ, ◌*ℤ◌}
use mir.Syntax.{w128}
use Rattle.std.specs.Int.RustNames.{unsigned_abs, FitsSigned}
use Rattle.std.proofs.lemmas.Int.{fits_signed_mul}
use Rattle.std.proofs.lemmas.List.{take_more}
use Rattle.alg_mono.specs.Polynomials.{MAX, norm, poly_neg}
use Rattle.alg_mono.specs.Mono.{Monomial}
use Rattle.alg_mono.specs.NumberedPolynomials.{Polynomial}
use Rattle.alg_mono.proofs.TermBounds.{coefficient_small}

poly_neg-append : (p : Polynomial) (x : Monomial × ℤ) → poly_neg (p ++ x ∷ []) ≡ poly_neg p ++ (x.0, neg_ℤ x.1) ∷ []
poly_neg-append [] x = refl
poly_neg-append (e ∷ p) x = ap (λ r. (e.0, neg_ℤ e.1) ∷ r) (poly_neg-append p x)

-- one more term
pub poly_neg-more : (p : Polynomial) (i : ℕ) (x : Monomial × ℤ) → i < length p → x ≡ get_or p i x →
    poly_neg (take (i + 1) p) ≡ poly_neg (take i p) ++ (x.0, neg_ℤ x.1) ∷ []
poly_neg-more p i x h e =
    ap poly_neg (take_more p i x h ∙ ap (λ z. take i p ++ z ∷ []) (sym e)) ∙ poly_neg-append (take i p) x

-- a coefficient times a number fits where the norm times the number does
pub product_fits : (p : Polynomial) (i : ℕ) (x : Monomial × ℤ) (c : ℤ) → i < length p → x ≡ get_or p i x →
    unsigned_abs c * norm p ≤ MAX → FitsSigned w128 (c *ℤ x.1)
product_fits p i x c h e m =
    fits_signed_mul w128 c x.1 (unsigned_abs c) (norm p) (omega arith) (coefficient_small p i x h e) (omega arith)
