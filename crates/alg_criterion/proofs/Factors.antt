-- The factors that cancel two leading coefficients.
use Rattle.std.specs.Prelude.{◌≡◌, ◌≢◌, ℕ, suc, ◌*◌, ◌/◌, ℤ, pos, negsuc, ◌*ℤ◌}
use Rattle.std.proofs.Common.{sym, ap, ◌∙◌}
use Rattle.std.specs.Int.{◌∣◌}
use Rattle.std.specs.Int.RustNames.{unsigned_abs, int_div}
use Rattle.std.proofs.Math.Nat.{mul-div_cancel'}
use lib.IntN.{neg_ℤ, pos-*ℤ-pos, neg_ℤ-neg_ℤ}
use Rattle.alg_mono.proofs.Numbers.{*ℤ_comm, *ℤ_assoc}
use Rattle.alg_mono.proofs.Integers.{neg_ℤ-*ℤ}
use Rattle.alg_poly.proofs.Contents.{exact_quotient}
use Rattle.alg_groebner.specs.Divisors.{common}
use Rattle.alg_groebner.specs.Cancelling.{signed_as, left_factor, right_factor}
use Rattle.alg_groebner.proofs.Divisors.{common_divides, common_first}

swapped : (a c u : ℤ) → a *ℤ (c *ℤ u) ≡ u *ℤ (c *ℤ a)
swapped a c u = *ℤ_comm a (c *ℤ u) ∙ ap (λ x. x *ℤ a) (*ℤ_comm c u) ∙ *ℤ_assoc u c a

both_signs : (u : ℤ) (n : ℕ) → neg_ℤ u *ℤ negsuc n ≡ u *ℤ pos (suc n)
both_signs u n =
    neg_ℤ-*ℤ u (negsuc n)
    ∙ ap neg_ℤ (*ℤ_comm u (negsuc n) ∙ neg_ℤ-*ℤ (pos (suc n)) u ∙ ap neg_ℤ (*ℤ_comm (pos (suc n)) u))
    ∙ neg_ℤ-neg_ℤ (u *ℤ pos (suc n))

balanced : (u : ℤ) (e n : ℕ) → e ∣ unsigned_abs u → e ∣ n → pos (n / e) *ℤ u ≡ int_div u (pos e) *ℤ pos n
balanced u e n du dn =
    ap (λ x. pos (n / e) *ℤ x) (sym (exact_quotient u (pos e) du)) ∙ swapped (pos (n / e)) (pos e) (int_div u (pos e))
    ∙ ap (λ x. int_div u (pos e) *ℤ x) (pos-*ℤ-pos e (n / e) ∙ ap pos (mul-div_cancel' e dn))

-- a*u is b*v
pub factors_balance : (u v : ℤ) → v ≢ pos 0 → left_factor u v *ℤ u ≡ right_factor u v *ℤ v
factors_balance u v h = go v (common u v) (common_first u v) ((common_divides u v h).1)
  where
    go : (w : ℤ) (e : ℕ) → e ∣ unsigned_abs u → e ∣ unsigned_abs w →
        pos (unsigned_abs w / e) *ℤ u ≡ signed_as w (int_div u (pos e)) *ℤ w
    go (pos n) e du dw = balanced u e n du dw
    go (negsuc n) e du dw = balanced u e (suc n) du dw ∙ sym (both_signs (int_div u (pos e)) n)
