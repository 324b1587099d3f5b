-- The factors that cancel two leading coefficients are not zero.
use Rattle.std.specs.Prelude.{◌≡◌, ◌≢◌, ℕ, ◌*◌, ◌/◌, ◌<◌, ℤ, pos, negsuc, ◌*ℤ◌}
use Rattle.std.proofs.Common.{sym, ap, ◌∙◌, arith}
use Rattle.std.specs.Int.{◌∣◌}
use Rattle.std.specs.Int.RustNames.{unsigned_abs, int_div}
use Rattle.std.proofs.lemmas.Int.{ints}
use Rattle.std.proofs.Math.Nat.{mul-div_cancel'}
use lib.IntN.{pos-*ℤ-pos}
use Rattle.alg_poly.proofs.Contents.{exact_quotient}
use Rattle.alg_groebner.specs.Divisors.{common}
use Rattle.alg_groebner.specs.Cancelling.{signed_as, left_factor, right_factor}
use Rattle.alg_groebner.proofs.Divisors.{common_divides, common_first, some_size}

apart : (n e : ℕ) → e ∣ n → 0 < n → pos (n / e) ≢ pos 0
apart n e d h z =
    let y : n / e ≡ 0 = ap unsigned_abs z in
    let x : e * (n / e) ≡ n = mul-div_cancel' e d in
    let w : e * (n / e) ≡ 0 = ap (λ (m : ℕ). e * m) y ∙ omega arith in
    omega arith

pub left_some : (u v : ℤ) → v ≢ pos 0 → left_factor u v ≢ pos 0
left_some u v h = apart (unsigned_abs v) (common u v) ((common_divides u v h).1) (some_size v h)

-- a sign makes no number zero
unsigned : (v b : ℤ) → signed_as v b ≡ pos 0 → b ≡ pos 0
unsigned (pos n) b h = h
unsigned (negsuc n) b h = omega (arith, ints, h)

times_zero : (e : ℕ) → pos e *ℤ pos 0 ≡ pos 0
times_zero e = pos-*ℤ-pos e 0 ∙ ap pos (omega arith)

pub right_some : (u v : ℤ) → u ≢ pos 0 → right_factor u v ≢ pos 0
right_some u v h z =
    let e = common u v in
    h (sym (exact_quotient u (pos e) (common_first u v))
    ∙ ap (λ (x : ℤ). pos e *ℤ x) (unsigned v (int_div u (pos e)) z) ∙ times_zero e)
