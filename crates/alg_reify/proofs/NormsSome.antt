-- What isn't zero has a norm.
use Rattle.std.specs.Prelude.{◌≡◌, zero, suc, ◌<◌, false, not, ℤ, pos, negsuc, List, [], ◌∷◌}
use Rattle.std.specs.Int.RustNames.{unsigned_abs}
use Rattle.std.specs.Ordering.{nat_cmp}
use Rattle.std.specs.declared.cmp.Ordering.{Ordering}
use Rattle.std.proofs.Common.{refl, T, arith}
use Rattle.alg_mono.specs.FiniteMaps.{all_some}
use Rattle.alg_mono.specs.NumberedPolynomials.{Polynomial, before}
use Rattle.alg_mono.specs.Numbers.{integers, is_zero}
use Rattle.alg_mono.specs.Outcomes.{is_nothing}
use Rattle.alg_mono.specs.Polynomials.{IsPoly, norm}
use Rattle.alg_mono.proofs.Canonical.{first}
use Rattle.alg_mono.proofs.Norms.{norm-cons}

pub some_number : (c : ℤ) → T (not (is_zero c)) → 0 < unsigned_abs c
some_number (pos zero) h = absurd h
some_number (pos (suc n)) h = omega arith
some_number (negsuc n) h = omega arith

pub norm_some : (p : Polynomial) → IsPoly nat_cmp p → is_nothing p ≡ false → 0 < norm p
norm_some [] h e = absurd (cc)
norm_some (e ∷ p) h is =
    let terms = h.polynomial.canonical.no_none in
    let some = some_number e.1 (first (not (is_zero e.1)) (all_some before integers.amounts p) terms) in
    omega (arith, norm-cons e p, some)

-- so what has the norm 0 is zero
pub no_terms : {M : Type 0} (cmp : M → M → Ordering) (p : List (M × ℤ)) → T (all_some cmp integers.amounts p) →
    norm p ≡ 0 → p ≡ []
no_terms cmp [] h e = refl
no_terms cmp (e ∷ p) h is =
    let some = some_number e.1 (first (not (is_zero e.1)) (all_some cmp integers.amounts p) h) in
    absurd (omega (arith, norm-cons e p, some, is))
