-- Fractions all of whose atoms are of one kind, over any atoms: what is made of them is so too.
use Rattle.std.specs.Prelude.{ℕ, zero, suc, Bool, true, false, List, [], ◌∷◌, ◌++◌}
use Rattle.std.specs.declared.cmp.Ordering.{Ordering}
use Rattle.std.specs.Cmp.{IsTotalOrder}
use Rattle.std.specs.FinMap.{IsAntisymmetric}
use Rattle.alg_mono.specs.FiniteMaps.{Each, IsCanonical, products, rename, renamed}
use Rattle.alg_mono.specs.Monomials.{falling, lowered, mono_times, scaled}
use Rattle.alg_mono.specs.Numbers.{exponents, integers}
use Rattle.alg_mono.specs.Polynomials.{PolyOver, IsPolynomial, poly_plus, poly_neg}
use Rattle.alg_mono.proofs.Canonical.{IsCanonical-collect}
use Rattle.alg_mono.proofs.Closure.{IsPolynomial-plus, IsPolynomial-neg, IsPolynomial-times, IsPolynomial-power, IsPolynomial-rename}
use Rattle.alg_mono.proofs.Each.{Each-append, Each-collect, Each-keep, Each-neg, Each-products, Each-renamed}
use Rattle.alg_mono.proofs.Lcm.{Each-lowered, Each-scaled}
use Rattle.alg_mono.proofs.Numbers.{exponent_laws, integer_laws}
use Rattle.alg_meaning.specs.FactorsOver.{FactorsOver, poly_cmp, times, power, product, lacks, common}
use Rattle.alg_meaning.specs.FractionsOver.{FractionOver, cleared, frac_opposite, frac_sum, frac_difference, frac_product, frac_quotient, frac_power}
use Rattle.alg_meaning.specs.Orders.{over_total, over_anti}
use Rattle.alg_reify.proofs.Images.{mono_image, poly_image, Each-image}

module _ {K : Type 0} (cmp : K → K → Ordering) (P : K → Type 0) where
  -- P holds of each atom of the polynomial
  abbrev pub EachAtom : PolyOver K → Type 0
  EachAtom p = Each (λ (m : List (K × ℕ)). Each P m) p

  -- sums, products and powers have no other atoms
  pub plus_in : (p q : PolyOver K) → EachAtom p → EachAtom q → EachAtom (poly_plus (falling cmp) integers p q)
  plus_in p q h g =
      Each-collect (falling cmp) integers.amounts (λ m. Each P m) (p ++ q) (Each-append (λ m. Each P m) p q h g)

  pub times_in : (p q : PolyOver K) → EachAtom p → EachAtom q → EachAtom (times cmp p q)
  times_in p q h g =
      Each-collect (falling cmp) integers.amounts (λ m. Each P m) (products (mono_times cmp) integers.mul p q)
      (Each-products (mono_times cmp) integers.mul (λ m. Each P m) (λ m. Each P m) (λ m. Each P m)
      (λ m n a b. Each-collect cmp exponents P (m ++ n) (Each-append P m n a b)) p q h g)

  pub power_in : (p : PolyOver K) (n : ℕ) → EachAtom p → EachAtom (power cmp p n)
  power_in p zero h = Each-keep (falling cmp) integers.amounts (λ m. Each P m) [] integers.one [] tt tt
  power_in p (suc n) h = times_in p (power cmp p n) h (power_in p n h)

  -- a polynomial with such atoms alone
  pub record IsPolynomialIn (p : PolyOver K) : Type 0 where
    pub polynomial : IsPolynomial cmp integers p
    pub held : EachAtom p

  -- a fraction with such atoms alone
  pub record IsFractionIn (a : FractionOver K) : Type 0 where
    pub top : IsPolynomialIn a.top
    pub canonical : IsCanonical (poly_cmp cmp) exponents a.below
    pub below : Each IsPolynomialIn a.below

module _ {K : Type 0} {cmp : K → K → Ordering} (o : IsTotalOrder cmp) (anti : IsAntisymmetric cmp)
    (P : K → Type 0) where
  abbrev In : PolyOver K → Type 0
  In p = IsPolynomialIn cmp P p

  pub In-plus : (p q : PolyOver K) → In p → In q → In (poly_plus (falling cmp) integers p q)
  In-plus p q h g = record {
    polynomial = IsPolynomial-plus integer_laws o anti p q h.polynomial g.polynomial;
    held = plus_in cmp P p q h.held g.held;
  }

  pub In-neg : (p : PolyOver K) → In p → In (poly_neg p)
  In-neg p h = record {
    polynomial = IsPolynomial-neg o anti p h.polynomial;
    held = Each-neg (λ (m : List (K × ℕ)). Each P m) p h.held;
  }

  pub In-times : (p q : PolyOver K) → In p → In q → In (times cmp p q)
  In-times p q h g = record {
    polynomial = IsPolynomial-times integer_laws o anti p q h.polynomial g.polynomial;
    held = times_in cmp P p q h.held g.held;
  }

  pub In-power : (p : PolyOver K) (n : ℕ) → In p → In (power cmp p n)
  In-power p n h = record {
    polynomial = IsPolynomial-power integer_laws o anti p n h.polynomial;
    held = power_in cmp P p n h.held;
  }

  pub In-product : (m : FactorsOver K) → Each In m → In (product cmp m)
  In-product [] h = record {
    polynomial = record {
      canonical = record { rises = tt; no_none = tt };
      monomials = (record { rises = tt; no_none = tt }, tt);
    };
    held = (tt, tt);
  }
  In-product (e ∷ m) h = In-times (power cmp e.0 e.1) (product cmp m) (In-power e.0 e.1 h.0) (In-product m h.1)

  -- the factors that one lacks, and the common ones
  pub lacks_in : (m n : FactorsOver K) → Each In n → Each In (lacks cmp m n)
  lacks_in m n h =
      Each-collect (poly_cmp cmp) exponents In (lowered (poly_cmp cmp) m n) (Each-lowered (poly_cmp cmp) In m n h)

  pub joined_in : (m n : FactorsOver K) → Each In m → Each In n → Each In (mono_times (poly_cmp cmp) m n)
  joined_in m n h g = Each-collect (poly_cmp cmp) exponents In (m ++ n) (Each-append In m n h g)

  pub common_in : (m n : FactorsOver K) → Each In m → Each In n → Each In (common cmp m n)
  common_in m n h g = joined_in m (lacks cmp m n) h (lacks_in m n g)

  pub cleared_in : (a b : FractionOver K) → IsFractionIn cmp P a → IsFractionIn cmp P b → In (cleared cmp a b)
  cleared_in a b h g =
      In-times a.top (product cmp (lacks cmp a.below b.below)) h.top
      (In-product (lacks cmp a.below b.below) (lacks_in a.below b.below g.below))

  -- the fractions of the nodes
  pub opposite_in : (a : FractionOver K) → IsFractionIn cmp P a → IsFractionIn cmp P (frac_opposite a)
  opposite_in a h = record { top = In-neg a.top h.top; canonical = h.canonical; below = h.below }

  module _ (a b : FractionOver K) (h : IsFractionIn cmp P a) (g : IsFractionIn cmp P b) where
    pub sum_in : IsFractionIn cmp P (frac_sum cmp a b)
    sum_in = record {
      top = In-plus (cleared cmp a b) (cleared cmp b a) (cleared_in a b h g) (cleared_in b a g h);
      canonical =
          IsCanonical-collect exponent_laws (over_total o anti) (over_anti o anti)
          (a.below ++ lacks cmp a.below b.below);
      below = common_in a.below b.below h.below g.below;
    }

    pub difference_in : IsFractionIn cmp P (frac_difference cmp a b)
    difference_in = record {
      top =
          In-plus (cleared cmp a b) (poly_neg (cleared cmp b a)) (cleared_in a b h g)
          (In-neg (cleared cmp b a) (cleared_in b a g h));
      canonical =
          IsCanonical-collect exponent_laws (over_total o anti) (over_anti o anti)
          (a.below ++ lacks cmp a.below b.below);
      below = common_in a.below b.below h.below g.below;
    }

    pub product_in : IsFractionIn cmp P (frac_product cmp a b)
    product_in = record {
      top = In-times a.top b.top h.top g.top;
      canonical = IsCanonical-collect exponent_laws (over_total o anti) (over_anti o anti) (a.below ++ b.below);
      below = joined_in a.below b.below h.below g.below;
    }

    pub quotient_in : (unit : Bool) → IsFractionIn cmp P (frac_quotient cmp unit a b)
    quotient_in true = record {
      top =
          In-times (times cmp a.top (product cmp b.below)) b.top
          (In-times a.top (product cmp b.below) h.top (In-product b.below g.below)) g.top;
      canonical = h.canonical;
      below = h.below;
    }
    quotient_in false = record {
      top = In-times a.top (product cmp b.below) h.top (In-product b.below g.below);
      canonical =
          IsCanonical-collect exponent_laws (over_total o anti) (over_anti o anti) (a.below ++ (b.top, 1) ∷ []);
      below = joined_in a.below ((b.top, 1) ∷ []) h.below (g.top, tt);
    }

  pub power_fraction_in : (a : FractionOver K) (n : ℕ) → IsFractionIn cmp P a → IsFractionIn cmp P (frac_power cmp a n)
  power_fraction_in a n h = record {
    top = In-power a.top n h.top;
    canonical = IsCanonical-collect exponent_laws (over_total o anti) (over_anti o anti) (scaled n a.below);
    below = Each-collect (poly_cmp cmp) exponents In (scaled n a.below) (Each-scaled In n a.below h.below);
  }

-- renamed polynomials and fractions, where the images of such atoms are of another kind
module _ {K L : Type 0} (ck : K → K → Ordering) {cl : L → L → Ordering} (ol : IsTotalOrder cl) (al : IsAntisymmetric cl)
    (f : K → L) (P : K → Type 0) (Q : L → Type 0) (to : (k : K) → P k → Q (f k)) where
  image_in : (p : PolyOver K) → IsPolynomialIn ck P p → IsPolynomialIn cl Q (poly_image ck cl f p)
  image_in p h = record {
    polynomial =
        IsPolynomial-rename integer_laws ol al (mono_image ck cl f)
        (λ m. IsCanonical-collect exponent_laws ol al (renamed f m)) p;
    held = Each-image ck cl f P Q to p h.held;
  }

  pub fraction_image_in : (a : FractionOver K) → IsFractionIn ck P a →
      IsFractionIn cl Q (record {
        top = poly_image ck cl f a.top;
        below = rename (poly_cmp cl) exponents (poly_image ck cl f) a.below;
      })
  fraction_image_in a h = record {
    top = image_in a.top h.top;
    canonical =
        IsCanonical-collect exponent_laws (over_total ol al) (over_anti ol al) (renamed (poly_image ck cl f) a.below);
    below =
        Each-collect (poly_cmp cl) exponents (IsPolynomialIn cl Q) (renamed (poly_image ck cl f) a.below)
        (Each-renamed (poly_image ck cl f) (IsPolynomialIn ck P) (IsPolynomialIn cl Q) image_in a.below h.below);
  }
