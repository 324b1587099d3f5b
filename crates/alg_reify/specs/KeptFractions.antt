-- What a renaming of atoms keeps of fractions, over any atoms.
use Rattle.std.specs.Prelude.{◌≡◌, ℕ, Bool}
use Rattle.std.specs.declared.cmp.Ordering.{Ordering}
use Rattle.alg_mono.specs.Outcomes.{is_nothing}
use Rattle.alg_mono.specs.Polynomials.{PolyOver}
use Rattle.alg_meaning.specs.FractionRules.{cleared_outcome, sum_of_fractions, product_of_fractions, quotient_of_fractions, power_of_fraction}
use Rattle.alg_meaning.specs.FractionsOver.{FractionOver, is_unit, is_constant, cleared, frac_opposite, frac_sum, frac_difference, frac_product, frac_quotient, frac_power}

-- `image` takes polynomials, and `renamed` fractions, from the one kind of atoms to the other
module _ {K L : Type 0} (ck : K → K → Ordering) (cl : L → L → Ordering) (image : PolyOver K → PolyOver L)
    (renamed : FractionOver K → FractionOver L) where
  -- for two fractions, the renamed fraction of each node is the node of the renamed fractions
  pub record KeepsFractions (a b : FractionOver K) : Type 0 where
    pub opposite : renamed (frac_opposite a) ≡ frac_opposite (renamed a)
    pub sum : renamed (frac_sum ck a b) ≡ frac_sum cl (renamed a) (renamed b)
    pub difference : renamed (frac_difference ck a b) ≡ frac_difference cl (renamed a) (renamed b)
    pub product : renamed (frac_product ck a b) ≡ frac_product cl (renamed a) (renamed b)
    pub quotient : (unit : Bool) →
        renamed (frac_quotient ck unit a b) ≡ frac_quotient cl unit (renamed a) (renamed b)
    pub power : (n : ℕ) → renamed (frac_power ck a n) ≡ frac_power cl (renamed a) n
    pub numerator : image (cleared ck a b) ≡ cleared cl (renamed a) (renamed b)

  -- and making each breaks the same rule
  pub record KeepsRules (a b : FractionOver K) : Type 0 where
    pub sum : sum_of_fractions ck a b ≡ sum_of_fractions cl (renamed a) (renamed b)
    pub product : product_of_fractions ck a b ≡ product_of_fractions cl (renamed a) (renamed b)
    pub quotient : quotient_of_fractions ck a b ≡ quotient_of_fractions cl (renamed a) (renamed b)
    pub power : (n : ℕ) → power_of_fraction ck a n ≡ power_of_fraction cl (renamed a) n
    pub numerators : cleared_outcome ck a b ≡ cleared_outcome cl (renamed a) (renamed b)

  -- a polynomial is zero, 1 or -1, or a constant where its image is
  pub record KeepsTests (p : PolyOver K) : Type 0 where
    pub zero : is_nothing p ≡ is_nothing (image p)
    pub unit : is_unit ck p ≡ is_unit cl (image p)
    pub constant : is_constant p ≡ is_constant (image p)
