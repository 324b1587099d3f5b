-- Greatest common divisors of coefficients, and exact quotients.
use Rattle.std.specs.Prelude.{ℕ, zero, suc, ◌%◌, ◌==◌, cond, List, [], ◌∷◌, map, ℤ}
use Rattle.std.specs.List.{list_all}
use Rattle.std.specs.Int.RustNames.{unsigned_abs, int_div}
use Rattle.alg_mono.specs.NumberedPolynomials.{Polynomial}

-- the greatest number up to n that divides each of these, and 1 where there is none
abbrev pub greatest_up_to : ℕ → List ℤ → ℕ
greatest_up_to zero cs = 1
greatest_up_to (suc n) cs =
    cond (list_all (λ c. unsigned_abs c % suc n == 0) cs) (suc n) (greatest_up_to n cs)

-- the greatest common divisor, where the first is not 0
abbrev pub common_divisor : List ℤ → ℕ
common_divisor [] = 1
common_divisor (c ∷ cs) = greatest_up_to (unsigned_abs c) (c ∷ cs)

-- the greatest common divisor of u, which is not 0, and v
unfoldable pub common : ℤ → ℤ → ℕ
common u v = common_divisor (u ∷ v ∷ [])

-- the greatest common divisor of the coefficients, and 1 for zero
unfoldable pub content : Polynomial → ℕ
content p = common_divisor (map (λ e. e.1) p)

-- each coefficient over d
abbrev pub over_number : ℤ → Polynomial → Polynomial
over_number d [] = []
over_number d (e ∷ p) = (e.0, int_div e.1 d) ∷ over_number d p
