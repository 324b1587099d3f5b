-- Polynomials that are numbers.
use Rattle.std.specs.Prelude.{◌≡◌, ◌≢◌, ℤ, [], Option, MatchOption}
use Rattle.alg_mono.specs.NumberedPolynomials.{Polynomial, term_of}

-- the number that the polynomial is, and None where it is none
abbrev pub IsNumber : Polynomial → Option ℤ → Type 0
IsNumber p number = MatchOption number ((c : ℤ) → p ≢ term_of [] c) (λ c. p ≡ term_of [] c)
