-- The polynomial and the fraction of a term are polynomials: each has one list.
use Rattle.std.specs.Prelude.{ℕ, Bool, true, false, [], ◌∷◌, ◌++◌, ℤ}
use Rattle.alg_terms.specs.declared.term.Term.{Term, more_of-Term, Var, Int, Neg', Add', Sub', Mul', Div', Pow', Hom'}
use Rattle.alg_terms.specs.Nodes.{fold_term}
use Rattle.alg_mono.specs.FiniteMaps.{renamed, Each}
use Rattle.alg_mono.specs.Monomials.{lowered, scaled}
use Rattle.alg_mono.specs.Numbers.{integers, exponents}
use Rattle.alg_mono.specs.Polynomials.{IsPolynomial, poly_neg}
use Rattle.alg_mono.proofs.Numbers.{integer_laws, exponent_laws}
use Rattle.alg_mono.proofs.Canonical.{IsCanonical-collect}
use Rattle.alg_mono.proofs.Each.{Each-collect, Each-append, Each-renamed}
use Rattle.alg_mono.proofs.Lcm.{Each-lowered, Each-scaled}
use Rattle.alg_mono.proofs.Closure.{IsPolynomial-plus, IsPolynomial-neg, IsPolynomial-times, IsPolynomial-term, IsPolynomial-power, IsPolynomial-rename}
use Rattle.alg_meaning.specs.Atoms.{Polynomial, atom_cmp, plus, times_poly, power_poly, one_poly, put_before, mono_under, poly_under}
use Rattle.alg_meaning.specs.PolynomialOf.{poly_of}
use Rattle.alg_meaning.specs.Factors.{Factors, poly_cmp, product, lacks, common}
use Rattle.alg_meaning.specs.Fractions.{Fraction, frac, cleared, quotient, is_unit}
use Rattle.alg_meaning.specs.Orders.{atom_total, atom_anti}

abbrev Is : Polynomial → Type 0
Is p = IsPolynomial atom_cmp integers p

atom_is : (k : ℕ) → Is (poly_of (Var k))
unfolding fold_term
atom_is k =
    record { canonical = record { rises = tt; no_none = tt }; monomials = (record { rises = tt; no_none = tt }, tt) }

literal_is : (n : ℤ) → Is (poly_of (Int n))
unfolding fold_term
literal_is n = IsPolynomial-term integer_laws atom_total atom_anti [] n record { rises = tt; no_none = tt }

plus_is : (p q : Polynomial) → Is p → Is q → Is (plus p q)
plus_is p q h g = IsPolynomial-plus integer_laws atom_total atom_anti p q h g

neg_is : (p : Polynomial) → Is p → Is (poly_neg p)
neg_is p h = IsPolynomial-neg atom_total atom_anti p h

times_is : (p q : Polynomial) → Is p → Is q → Is (times_poly p q)
times_is p q h g = IsPolynomial-times integer_laws atom_total atom_anti p q h g

power_is : (p : Polynomial) (n : ℕ) → Is p → Is (power_poly p n)
power_is p n h = IsPolynomial-power integer_laws atom_total atom_anti p n h

under_is : (f : ℕ) (p : Polynomial) → Is (poly_under f p)
under_is f p =
    IsPolynomial-rename integer_laws atom_total atom_anti (mono_under f)
    (λ m. IsCanonical-collect exponent_laws atom_total atom_anti (renamed (put_before f) m)) p

nothing_is : Is []
nothing_is = record { canonical = record { rises = tt; no_none = tt }; monomials = tt }

pub IsPolynomial-poly_of : (t : Term) → Is (poly_of t)
unfolding fold_term
IsPolynomial-poly_of (Var k) = atom_is k
IsPolynomial-poly_of (Int n) = literal_is n
IsPolynomial-poly_of (Neg' p (more_of-Term t r)) = neg_is (poly_of t) (IsPolynomial-poly_of t)
IsPolynomial-poly_of (Add' p (more_of-Term t r) p' (more_of-Term t' r')) =
    plus_is (poly_of t) (poly_of t') (IsPolynomial-poly_of t) (IsPolynomial-poly_of t')
IsPolynomial-poly_of (Sub' p (more_of-Term t r) p' (more_of-Term t' r')) =
    plus_is (poly_of t) (poly_neg (poly_of t')) (IsPolynomial-poly_of t) (neg_is (poly_of t') (IsPolynomial-poly_of t'))
IsPolynomial-poly_of (Mul' p (more_of-Term t r) p' (more_of-Term t' r')) =
    times_is (poly_of t) (poly_of t') (IsPolynomial-poly_of t) (IsPolynomial-poly_of t')
IsPolynomial-poly_of (Div' p (more_of-Term t r) p' (more_of-Term t' r')) = nothing_is
IsPolynomial-poly_of (Pow' p (more_of-Term t r) n) = power_is (poly_of t) n (IsPolynomial-poly_of t)
IsPolynomial-poly_of (Hom' f p (more_of-Term t r)) = under_is f (poly_of t)

one_is : Is one_poly
one_is =
    record { canonical = record { rises = tt; no_none = tt }; monomials = (record { rises = tt; no_none = tt }, tt) }

product_is : (m : Factors) → Each Is m → Is (product m)
product_is [] h = one_is
product_is (e ∷ m) h = times_is (power_poly e.0 e.1) (product m) (power_is e.0 e.1 h.0) (product_is m h.1)

-- the numerator and each factor of a fraction are polynomials
pub record AreIn (a : Fraction) : Type 0 where
  pub top : Is a.top
  pub below : Each Is a.below

lacks_are : (a b : Factors) → Each Is b → Each Is (lacks a b)
lacks_are a b h = Each-collect poly_cmp exponents Is (lowered poly_cmp a b) (Each-lowered poly_cmp Is a b h)

pub cleared_is : (a b : Fraction) → AreIn a → AreIn b → Is (cleared a b)
cleared_is a b h g =
    times_is a.top (product (lacks a.below b.below)) h.top
    (product_is (lacks a.below b.below) (lacks_are a.below b.below g.below))

common_are : (a b : Fraction) → AreIn a → AreIn b → Each Is (common a.below b.below)
common_are a b h g =
    Each-collect poly_cmp exponents Is (a.below ++ lacks a.below b.below)
    (Each-append Is a.below (lacks a.below b.below) h.below (lacks_are a.below b.below g.below))

quotient_are : (a b : Fraction) (c : Bool) → AreIn a → AreIn b → AreIn (quotient c a b)
quotient_are a b true h g = record {
  top =
      times_is (times_poly a.top (product b.below)) b.top
      (times_is a.top (product b.below) h.top (product_is b.below g.below)) g.top;
  below = h.below;
}
quotient_are a b false h g = record {
  top = times_is a.top (product b.below) h.top (product_is b.below g.below);
  below =
      Each-collect poly_cmp exponents Is (a.below ++ (b.top, 1) ∷ [])
      (Each-append Is a.below ((b.top, 1) ∷ []) h.below (g.top, tt));
}

pub AreIn-frac : (t : Term) → AreIn (frac t)
unfolding fold_term
AreIn-frac (Var k) = record { top = atom_is k; below = tt }
AreIn-frac (Int n) = record { top = literal_is n; below = tt }
AreIn-frac (Neg' p (more_of-Term t r)) =
    let a = AreIn-frac t in record { top = neg_is (frac t).top a.top; below = a.below }
AreIn-frac (Add' p (more_of-Term t r) p' (more_of-Term t' r')) =
    let a = AreIn-frac t in
    let b = AreIn-frac t' in
    record {
      top =
          plus_is (cleared (frac t) (frac t')) (cleared (frac t') (frac t))
          (cleared_is (frac t) (frac t') a b) (cleared_is (frac t') (frac t) b a);
      below = common_are (frac t) (frac t') a b;
    }
AreIn-frac (Sub' p (more_of-Term t r) p' (more_of-Term t' r')) =
    let a = AreIn-frac t in
    let b = AreIn-frac t' in
    let q = cleared (frac t') (frac t) in
    record {
      top =
          plus_is (cleared (frac t) (frac t')) (poly_neg q)
          (cleared_is (frac t) (frac t') a b) (neg_is q (cleared_is (frac t') (frac t) b a));
      below = common_are (frac t) (frac t') a b;
    }
AreIn-frac (Mul' p (more_of-Term t r) p' (more_of-Term t' r')) =
    let a = AreIn-frac t in
    let b = AreIn-frac t' in
    record {
      top = times_is (frac t).top (frac t').top a.top b.top;
      below =
          Each-collect poly_cmp exponents Is ((frac t).below ++ (frac t').below)
          (Each-append Is (frac t).below (frac t').below a.below b.below);
    }
AreIn-frac (Div' p (more_of-Term t r) p' (more_of-Term t' r')) =
    quotient_are (frac t) (frac t') (is_unit (frac t').top) (AreIn-frac t) (AreIn-frac t')
AreIn-frac (Pow' p (more_of-Term t r) n) =
    let a = AreIn-frac t in
    record {
      top = power_is (frac t).top n a.top;
      below = Each-collect poly_cmp exponents Is (scaled n (frac t).below) (Each-scaled Is n (frac t).below a.below);
    }
AreIn-frac (Hom' f p (more_of-Term t r)) =
    let a = AreIn-frac t in
    record {
      top = under_is f (frac t).top;
      below =
          Each-collect poly_cmp exponents Is (renamed (poly_under f) (frac t).below)
          (Each-renamed (poly_under f) Is Is (λ q h. under_is f q) (frac t).below a.below);
    }
