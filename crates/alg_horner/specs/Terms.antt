-- The terms of a form, one for each number in it that is not 0.
use Rattle.std.specs.Prelude.{ℕ, ◌+◌, ◌++◌}
use Rattle.std.specs.Ordering.{nat_cmp}
use Rattle.alg_mono.specs.Mono.{Monomial}
use Rattle.alg_mono.specs.Monomials.{mono_times}
use Rattle.alg_mono.specs.NumberedPolynomials.{Polynomial, term_of}
use Rattle.alg_horner.specs.Form.{Form}
use Rattle.alg_horner.specs.Maps.{alone}

-- the terms of m times a form whose first atom is the atom s, in the order of the form
abbrev pub terms_of : Monomial → ℕ → Form → Polynomial
terms_of m s (Form.Const c) = term_of m c
terms_of m s (Form.Skip j p) = terms_of m (s + j) p
terms_of m s (Form.Mix p i q) = terms_of (mono_times nat_cmp m (alone s i)) s p ++ terms_of m (s + 1) q
