-- What is divided by its content is exactly so.
use Rattle.std.specs.Prelude.{◌≡◌, ◌≢◌, ℕ, [], ◌∷◌, ℤ, pos, ◌≤ℤ◌}
use Rattle.std.proofs.Common.{refl, sym, ap, subst, ◌∙◌, arith}
use Rattle.std.specs.Int.{◌∣◌}
use Rattle.std.specs.Int.RustNames.{unsigned_abs}
use Rattle.std.specs.Ordering.{nat_cmp}
use Rattle.std.proofs.lemmas.Int.{ints}
use Rattle.std.proofs.lemmas.List.Elements.{All-head, All-tail}
use Rattle.alg_mono.specs.Numbers.{integers}
use Rattle.alg_mono.specs.Polynomials.{IsPolynomial}
use Rattle.alg_poly.specs.Divisors.{DividesEach, times_number}
use Rattle.alg_mono.specs.Mono.{Monomial}
use Rattle.alg_mono.specs.NumberedPolynomials.{Polynomial, multiple_of}
use Rattle.alg_poly.proofs.Contents.{exact_quotient, IsPolynomial-from_times}
use Rattle.alg_poly.proofs.Zeros.{multiple_is_times}
use Rattle.alg_groebner.specs.Divisors.{content, over_number}
use Rattle.alg_groebner.proofs.Divisors.{content_divides}

-- d times the quotients
times_over : (d : ℕ) (p : Polynomial) → DividesEach d p → times_number (pos d) (over_number (pos d) p) ≡ p
times_over d [] h = refl
times_over d (e ∷ p) h =
    let P = λ (y : Monomial × ℤ). d ∣ unsigned_abs y.1 in
    λ i. (e.0, exact_quotient e.1 (pos d) (All-head P e p h) i) ∷ times_over d p (All-tail P e p h) i

pub content_positive : (p : Polynomial) → IsPolynomial nat_cmp integers p → pos 1 ≤ℤ pos (content p)
content_positive p s = let h = (content_divides p s).0 in omega (arith, ints)

-- the content times the quotients is the polynomial
pub exactly : (p : Polynomial) → IsPolynomial nat_cmp integers p →
    multiple_of (pos (content p)) [] (over_number (pos (content p)) p) ≡ p
exactly p s =
    let d = content p in
    let h = content_divides p s in
    let low = h.0 in
    let times = times_over d p h.1 in
    let sound = IsPolynomial-from_times (pos d) (over_number (pos d) p)
    (subst (IsPolynomial nat_cmp integers) (sym times) s) in
    let some : pos d ≢ pos 0 = λ e. let n : d ≡ 0 = ap unsigned_abs e in omega arith in
    multiple_is_times (pos d) (over_number (pos d) p) some sound ∙ times

-- the quotients are a polynomial
pub IsPolynomial-over : (p : Polynomial) → IsPolynomial nat_cmp integers p →
    IsPolynomial nat_cmp integers (over_number (pos (content p)) p)
IsPolynomial-over p s =
    let d = content p in
    let times = times_over d p ((content_divides p s).1) in
    IsPolynomial-from_times (pos d) (over_number (pos d) p) (subst (IsPolynomial nat_cmp integers) (sym times) s)
