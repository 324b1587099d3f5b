-- A factor of a polynomial cancels.
use Rattle.std.specs.Prelude.{◌≡◌, ℕ, zero, suc, ◌*◌, ◌<◌, ◌/◌, [], ◌∷◌, map, ℤ, pos, negsuc, ◌*ℤ◌, ◌≤ℤ◌}
use Rattle.std.proofs.Common.{refl, sym, ap, ◌∙◌, arith}
use Rattle.std.proofs.Math.Nat.{mul-div_cancel_left}
use lib.IntN.{neg_ℤ, pos-*ℤ-pos, pos-*ℤ-negsuc}
use Rattle.std.specs.Int.RustNames.{int_div}
use Rattle.std.proofs.lemmas.Int.{ints}
use Rattle.alg_mono.specs.Mono.{Monomial}
use Rattle.alg_mono.specs.NumberedPolynomials.{Polynomial}
use Rattle.alg_poly.specs.Divisors.{times_number}

-- a multiple over its factor
pub over_times : (d z : ℤ) → pos 1 ≤ℤ d → int_div (d *ℤ z) d ≡ z
over_times (pos zero) z h = absurd (omega (arith, ints))
over_times (negsuc n) z h = absurd (omega (arith, ints))
over_times (pos (suc n)) (pos m) h =
    ap (λ (z : ℤ). int_div z (pos (suc n))) (pos-*ℤ-pos (suc n) m) ∙ ap pos (mul-div_cancel_left m (omega arith))
over_times (pos (suc n)) (negsuc m) h =
    ap (λ (z : ℤ). int_div z (pos (suc n))) (pos-*ℤ-negsuc (suc n) m)
    ∙ below n m (suc n * suc m) refl (omega arith)
  where
    below : (n m k : ℕ) → k ≡ suc n * suc m → 0 < k → int_div (neg_ℤ (pos k)) (pos (suc n)) ≡ negsuc m
    below n m zero e h = absurd (omega arith)
    below n m (suc k) e h =
        ap (λ j. neg_ℤ (pos j)) (ap (λ j. j / suc n) e ∙ mul-div_cancel_left (suc m) (omega arith))

each_over : ℤ → Polynomial → Polynomial
each_over d p = map (λ (e : Monomial × ℤ). (e.0, int_div e.1 d)) p

over_each : (d : ℤ) (p : Polynomial) → pos 1 ≤ℤ d → each_over d (times_number d p) ≡ p
unfolding each_over
over_each d [] h = refl
over_each d (e ∷ p) h = λ i. (e.0, over_times d e.1 h i) ∷ over_each d p h i

-- equal multiples are of equal polynomials
pub times_same : (d : ℤ) (p q : Polynomial) → pos 1 ≤ℤ d → times_number d p ≡ times_number d q → p ≡ q
times_same d p q h e = sym (over_each d p h) ∙ ap (each_over d) e ∙ over_each d q h
