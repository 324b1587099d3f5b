-- Fractions under a path of morphisms: a path keeps them, the rules that they break, and the tests on numerators.
use Rattle.std.specs.Prelude.{◌≡◌, ℕ, List, [], ◌∷◌, ◌++◌}
use Rattle.std.proofs.Common.{refl, ap, subst, ◌∙◌}
use Rattle.std.specs.declared.cmp.Ordering.{Ordering}
use Rattle.alg_terms.specs.declared.term.Atom.{Atom}
use Rattle.alg_terms.specs.declared.term.Term.{Term}
use Rattle.alg_mono.specs.FiniteMaps.{Each}
use Rattle.alg_mono.specs.Polynomials.{PolyOver}
use Rattle.alg_mono.proofs.Each.{Each-weaker}
use Rattle.alg_meaning.specs.Atoms.{Monomial, Polynomial, atom_cmp, put_before, poly_under, poly_along}
use Rattle.alg_meaning.specs.Fractions.{Fraction, frac}
use Rattle.alg_meaning.specs.FractionsOver.{FractionOver}
use Rattle.alg_meaning.specs.Orders.{atom_total, atom_anti}
use Rattle.alg_meaning.proofs.Canonical.{AreIn-frac}
use Rattle.alg_meaning.proofs.FractionLists.{canonical}
use Rattle.alg_reify.specs.FractionsUnder.{frac_under, frac_along}
use Rattle.alg_reify.specs.KeptFractions.{KeepsFractions, KeepsRules, KeepsTests}
use Rattle.alg_reify.proofs.FractionsIn.{IsFractionIn, fraction_image_in}
use Rattle.alg_reify.proofs.KeptFractions.{keeps_fractions, keeps_rules, keeps_tests}
use Rattle.alg_reify.proofs.Made.{below_first, each_always, comes_back}

-- ---- one renaming after the other
module _ {J K L : Type 0} (cj : J → J → Ordering) (ck : K → K → Ordering) (cl : L → L → Ordering)
    (first : PolyOver J → PolyOver K) (then : PolyOver K → PolyOver L)
    (F : FractionOver J → FractionOver K) (G : FractionOver K → FractionOver L) where
  pub both_fractions : (a b : FractionOver J) → KeepsFractions cj ck first F a b →
      KeepsFractions ck cl then G (F a) (F b) → KeepsFractions cj cl (λ p. then (first p)) (λ x. G (F x)) a b
  both_fractions a b h k = record {
    opposite = ap G h.opposite ∙ k.opposite;
    sum = ap G h.sum ∙ k.sum;
    difference = ap G h.difference ∙ k.difference;
    product = ap G h.product ∙ k.product;
    quotient = λ unit. ap G (h.quotient unit) ∙ k.quotient unit;
    power = λ n. ap G (h.power n) ∙ k.power n;
    numerator = ap then h.numerator ∙ k.numerator;
  }

  pub both_rules : (a b : FractionOver J) → KeepsRules cj ck first F a b → KeepsRules ck cl then G (F a) (F b) →
      KeepsRules cj cl (λ p. then (first p)) (λ x. G (F x)) a b
  both_rules a b h k = record {
    sum = h.sum ∙ k.sum;
    product = h.product ∙ k.product;
    quotient = h.quotient ∙ k.quotient;
    power = λ n. h.power n ∙ k.power n;
    numerators = h.numerators ∙ k.numerators;
  }

  pub both_tests : (p : PolyOver J) → KeepsTests cj ck first F p → KeepsTests ck cl then G (first p) →
      KeepsTests cj cl (λ q. then (first q)) (λ x. G (F x)) p
  both_tests p h k = record { zero = h.zero ∙ k.zero; unit = h.unit ∙ k.unit; constant = h.constant ∙ k.constant }

-- ---- along a path

-- any atom
abbrev pub Any : Atom → Type 0
Any a = Unit {0}

abbrev IsFraction : Fraction → Type 0
IsFraction a = IsFractionIn atom_cmp Any a

any_in : (p : Polynomial) → Each (λ (m : Monomial). Each Any m) p
any_in p = each_always (λ (m : Monomial). Each Any m) (λ m. each_always Any (λ a. tt) m) p

-- the fraction of a term is one
pub frac_is : (t : Term) → IsFraction (frac t)
frac_is t =
    let a = AreIn-frac t in
    record {
      top = record { polynomial = a.top; held = any_in (frac t).top };
      canonical = canonical t;
      below = Each-weaker (λ p h. record { polynomial = h; held = any_in p }) (frac t).below a.below;
    }

-- and is one under a path
along_is : (path : List ℕ) (a : Fraction) → IsFraction a → IsFraction (frac_along path a)
along_is [] a h = h
along_is (f ∷ path) a h =
    fraction_image_in atom_cmp atom_total atom_anti (put_before f) Any Any (λ k g. tt) (frac_along path a)
    (along_is path a h)

-- its numerator is the one under the path
pub top_along : (path : List ℕ) (a : Fraction) → (frac_along path a).top ≡ poly_along path a.top
top_along [] a = refl
top_along (f ∷ path) a = ap (poly_under f) (top_along path a)

-- a path keeps fractions, rules and tests
pub along_fractions : (path : List ℕ) (a b : Fraction) → IsFraction a → IsFraction b →
    KeepsFractions atom_cmp atom_cmp (poly_along path) (frac_along path) a b
along_fractions [] a b h g = record {
  opposite = refl;
  sum = refl;
  difference = refl;
  product = refl;
  quotient = λ unit. refl;
  power = λ n. refl;
  numerator = refl;
}
along_fractions (f ∷ path) a b h g =
    both_fractions atom_cmp atom_cmp atom_cmp (poly_along path) (poly_under f) (frac_along path) (frac_under f) a b
    (along_fractions path a b h g)
    (keeps_fractions atom_total atom_anti atom_total atom_anti (put_before f) below_first Any (λ k u. comes_back f k)
    (frac_along path a) (frac_along path b) (along_is path a h) (along_is path b g))

pub along_rules : (path : List ℕ) (a b : Fraction) → IsFraction a → IsFraction b →
    KeepsRules atom_cmp atom_cmp (poly_along path) (frac_along path) a b
along_rules [] a b h g =
    record { sum = refl; product = refl; quotient = refl; power = λ n. refl; numerators = refl }
along_rules (f ∷ path) a b h g =
    both_rules atom_cmp atom_cmp atom_cmp (poly_along path) (poly_under f) (frac_along path) (frac_under f) a b
    (along_rules path a b h g)
    (keeps_rules atom_total atom_anti atom_total atom_anti (put_before f) below_first Any (λ k u. comes_back f k)
    (frac_along path a) (frac_along path b) (along_is path a h) (along_is path b g))

pub along_tests : (path : List ℕ) (a : Fraction) → IsFraction a →
    KeepsTests atom_cmp atom_cmp (poly_along path) (frac_along path) a.top
along_tests [] a h = record { zero = refl; unit = refl; constant = refl }
along_tests (f ∷ path) a h =
    both_tests atom_cmp atom_cmp atom_cmp (poly_along path) (poly_under f) (frac_along path) (frac_under f) a.top
    (along_tests path a h)
    (subst (λ p. KeepsTests atom_cmp atom_cmp (poly_under f) (frac_under f) p) (top_along path a)
    (keeps_tests atom_total atom_anti atom_total atom_anti (put_before f) below_first Any (λ k u. comes_back f k)
    (frac_along path a).top (along_is path a h).top))

-- a fraction without factors
pub along_leaf : (path : List ℕ) (p : Polynomial) →
    frac_along path (record { top = p; below = [] }) ≡ record { top = poly_along path p; below = [] }
along_leaf [] p = refl
along_leaf (f ∷ path) p = ap (frac_under f) (along_leaf path p)

-- one more morphism below the path
pub along_image : (path : List ℕ) (f : ℕ) (a : Fraction) →
    frac_along path (frac_under f a) ≡ frac_along (path ++ f ∷ []) a
along_image [] f a = refl
along_image (g ∷ path) f a = ap (frac_under g) (along_image path f a)
