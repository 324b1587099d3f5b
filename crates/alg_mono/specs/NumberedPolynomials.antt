-- Polynomials over atoms by number: the words for finite maps, monomials and polynomials over any
-- atoms, at the order of numbers.
use Rattle.std.specs.Prelude.{◌≡◌, ◌≢◌, ℕ, ℤ, pos, ◌*ℤ◌, [], ◌∷◌, Option, Some, None}
use Rattle.std.specs.declared.cmp.Ordering.{Ordering}
use Rattle.std.specs.declared.cmp.Ordering.TheVariants.{Less}
use Rattle.std.specs.Ordering.{nat_cmp}
use Rattle.alg_mono.specs.FiniteMaps.{row}
use Rattle.alg_mono.specs.Numbers.{integers}
use Rattle.alg_mono.specs.Mono.{Monomial}
use Rattle.alg_mono.specs.Monomials.{falling, grevlex, mono_times}
use Rattle.alg_mono.specs.Polynomials.{PolyOver, coefficient, poly_term, poly_plus, poly_minus, poly_times, poly_scale, poly_power}

-- a polynomial: monomials with their coefficients, the greatest monomial first
abbrev pub Polynomial : Type 0
Polynomial = PolyOver ℕ

-- the order of the terms: the greatest monomial first
abbrev pub before : Monomial → Monomial → Ordering
before m n = falling nat_cmp m n

-- the coefficient at m, and 0 where p does not have m
abbrev pub coefficient_of : Monomial → Polynomial → ℤ
coefficient_of m p = coefficient before integers m p

-- c*m, which is zero where c is
abbrev pub term_of : Monomial → ℤ → Polynomial
term_of m c = poly_term before integers m c

-- the polynomial that is one atom
abbrev pub atom_of : ℕ → Polynomial
atom_of k = ((k, 1) ∷ [], pos 1) ∷ []

-- p + q
abbrev pub sum_of : Polynomial → Polynomial → Polynomial
sum_of p q = poly_plus before integers p q

-- p - q
abbrev pub difference_of : Polynomial → Polynomial → Polynomial
difference_of p q = poly_minus before p q

-- p*q
abbrev pub product_of : Polynomial → Polynomial → Polynomial
product_of p q = poly_times before integers (mono_times nat_cmp) p q

-- p^n
abbrev pub power_of : Polynomial → ℕ → Polynomial
power_of p n = poly_power before integers [] (mono_times nat_cmp) p n

-- c*m times each term of p, term by term
abbrev pub row_of : Monomial → ℤ → Polynomial → Polynomial
row_of m c p = row (mono_times nat_cmp) ◌*ℤ◌ m c p

-- c*m*p
abbrev pub multiple_of : ℤ → Monomial → Polynomial → Polynomial
multiple_of c m p = poly_scale before integers (mono_times nat_cmp) c m p

-- the term with the greatest monomial, and none for zero
abbrev pub lead_of : Polynomial → Option (Monomial × ℤ)
lead_of [] = None
lead_of (e ∷ p) = Some e

-- m is the greatest monomial of p, and c its coefficient
pub record IsLead (p : Polynomial) (m : Monomial) (c : ℤ) : Type 0 where
  pub there : coefficient_of m p ≡ c
  pub some : c ≢ pos 0
  pub none_above : (n : Monomial) → grevlex nat_cmp m n ≡ Less → coefficient_of n p ≡ pos 0

-- m is the greatest monomial at which p and q differ; they have the coefficients a and b there
pub record DifferFirst (p q : Polynomial) (m : Monomial) (a b : ℤ) : Type 0 where
  pub left : coefficient_of m p ≡ a
  pub right : coefficient_of m q ≡ b
  pub differ : a ≢ b
  pub same_above :
      (n : Monomial) → grevlex nat_cmp m n ≡ Less → coefficient_of n p ≡ coefficient_of n q
