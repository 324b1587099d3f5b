-- Fractions over any atoms: a polynomial over a product of polynomials.
use Rattle.std.specs.Prelude.{ℕ, Bool, true, false, ◌||◌, not, [], ◌∷◌, pos, negsuc}
use Rattle.std.specs.declared.cmp.Ordering.{Ordering}
use Rattle.std.specs.Ordering.{eq_by_cmp}
use Rattle.alg_mono.specs.Numbers.{integers, is_zero}
use Rattle.alg_mono.specs.Monomials.{mono_times, mono_power, falling}
use Rattle.alg_mono.specs.Polynomials.{PolyOver, poly_plus, poly_minus, poly_neg}
use Rattle.alg_meaning.specs.FactorsOver.{FactorsOver, poly_cmp, times, power, product, lacks, common}

-- it stands for the polynomial above divided by the product of the factors below
pub record FractionOver (K : Type 0) : Type 0 where
  pub top : PolyOver K
  pub below : FactorsOver K

-- the polynomial is a constant other than zero
abbrev pub is_constant : {K : Type 0} → PolyOver K → Bool
is_constant (([], c) ∷ []) = not (is_zero c)
is_constant _ = false

-- the opposite of a fraction
abbrev pub frac_opposite : {K : Type 0} → FractionOver K → FractionOver K
frac_opposite a = record { top = poly_neg a.top; below = a.below }

module _ {K : Type 0} (cmp : K → K → Ordering) where
  -- the polynomial is 1 or -1
  abbrev pub is_unit : PolyOver K → Bool
  is_unit p = eq_by_cmp (poly_cmp cmp) p (([], pos 1) ∷ []) || eq_by_cmp (poly_cmp cmp) p (([], negsuc 0) ∷ [])

  -- the numerator of a over the common factors of a and b: times those that a lacks
  abbrev pub cleared : FractionOver K → FractionOver K → PolyOver K
  cleared a b = times cmp a.top (product cmp (lacks cmp a.below b.below))

  -- a sum, over the common factors
  abbrev pub frac_sum : FractionOver K → FractionOver K → FractionOver K
  frac_sum a b = record {
    top = poly_plus (falling cmp) integers (cleared a b) (cleared b a);
    below = common cmp a.below b.below;
  }

  -- a difference, over the common factors
  abbrev pub frac_difference : FractionOver K → FractionOver K → FractionOver K
  frac_difference a b = record {
    top = poly_minus (falling cmp) (cleared a b) (cleared b a);
    below = common cmp a.below b.below;
  }

  -- a product
  abbrev pub frac_product : FractionOver K → FractionOver K → FractionOver K
  frac_product a b = record { top = times cmp a.top b.top; below = mono_times (poly_cmp cmp) a.below b.below }

  -- a by b, where b's numerator is 1 or -1, and else: only then it becomes a factor
  abbrev pub frac_quotient : Bool → FractionOver K → FractionOver K → FractionOver K
  frac_quotient true a b = record { top = times cmp (times cmp a.top (product cmp b.below)) b.top; below = a.below }
  frac_quotient false a b = record {
    top = times cmp a.top (product cmp b.below);
    below = mono_times (poly_cmp cmp) a.below ((b.top, 1) ∷ []);
  }

  -- a power
  abbrev pub frac_power : FractionOver K → ℕ → FractionOver K
  frac_power a n = record { top = power cmp a.top n; below = mono_power (poly_cmp cmp) a.below n }
