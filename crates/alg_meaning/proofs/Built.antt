-- What the definitions by cases give at the terms that code builds and matches: at a leaf, at an operation on one
-- part, and at an operation on two.
use Rattle.std.specs.Prelude.{◌≡◌, cond, List, [], ◌∷◌, ◌++◌}
use Rattle.std.proofs.Common.{refl, sym, ap, append-nil}
use Rattle.alg_terms.specs.declared.term.Term.{Term}
use Rattle.alg_terms.proofs.Views.{Leaf, Unary, Binary, leaf, unary, binary}
use Rattle.alg_mono.specs.Outcomes.{Outcome, first_breach, is_nothing, sum_outcome, product_outcome, power_outcome}
use Rattle.alg_mono.specs.Polynomials.{PolyOver}
use Rattle.alg_meaning.specs.PolynomialOf.{poly_of}
use Rattle.alg_meaning.specs.Fractions.{frac}
use Rattle.alg_meaning.specs.Conditions.{denominators}
use Rattle.alg_meaning.specs.TermOutcome.{term_outcome}
use Rattle.alg_meaning.specs.Atoms.{atom_cmp}
use Rattle.alg_meaning.specs.FractionRules.{sum_of_fractions, product_of_fractions, quotient_of_fractions, power_of_fraction}
use Rattle.alg_meaning.specs.FractionOutcome.{FractionOutcome, first_not_fine, of_polynomials, frac_outcome}

-- ---- the outcome of a term's polynomial

-- the outcome that is an operation's own: none for an opposite, for an image and for a quotient
abbrev pub unary_outcome : {K : Type 0} → Unary → PolyOver K → Outcome
unary_outcome Unary.Opposite p = Outcome.Fine
unary_outcome (Unary.Power n) p = power_outcome p n
unary_outcome (Unary.Image f) p = Outcome.Fine

abbrev pub binary_outcome : {K : Type 0} → Binary → PolyOver K → PolyOver K → Outcome
binary_outcome Binary.Sum p q = sum_outcome p q
binary_outcome Binary.Difference p q = sum_outcome p q
binary_outcome Binary.Product p q = product_outcome (p ∷ q ∷ [])
binary_outcome Binary.Quotient p q = Outcome.Fine

-- what is fine comes after nothing
nothing_own : (o : Outcome) → o ≡ first_breach o Outcome.Fine
nothing_own Outcome.Fine = refl
nothing_own Outcome.Range = refl
nothing_own Outcome.Degree = refl

pub term_outcome_leaf : (l : Leaf) → term_outcome (leaf l) ≡ Outcome.Fine
unfolding term_outcome
term_outcome_leaf (Leaf.Variable k) = refl
term_outcome_leaf (Leaf.Literal n) = refl

pub term_outcome_unary : (o : Unary) (t : Term) →
    term_outcome (unary o t) ≡ first_breach (term_outcome t) (unary_outcome o (poly_of t))
unfolding
    term_outcome Rattle.alg_terms.specs.declared.term.Term.TheBlock.hidden-the_row-Term-0
    denote.Hole.Carrier.hidden
term_outcome_unary Unary.Opposite t = nothing_own (term_outcome t)
term_outcome_unary (Unary.Power n) t = refl
term_outcome_unary (Unary.Image f) t = nothing_own (term_outcome t)

pub term_outcome_binary : (o : Binary) (t u : Term) →
    term_outcome (binary o t u) ≡
    first_breach (term_outcome t) (first_breach (term_outcome u) (binary_outcome o (poly_of t) (poly_of u)))
unfolding
    term_outcome Rattle.alg_terms.specs.declared.term.Term.TheBlock.hidden-the_row-Term-0
    denote.Hole.Carrier.hidden
term_outcome_binary Binary.Sum t u = refl
term_outcome_binary Binary.Difference t u = refl
term_outcome_binary Binary.Product t u = refl
term_outcome_binary Binary.Quotient t u = ap (first_breach (term_outcome t)) (nothing_own (term_outcome u))

-- ---- its denominators

-- the denominator that an operation adds
abbrev pub divisors : Binary → Term → List Term
divisors Binary.Sum u = []
divisors Binary.Difference u = []
divisors Binary.Product u = []
divisors Binary.Quotient u = u ∷ []

pub denominators_leaf : (l : Leaf) → denominators (leaf l) ≡ []
unfolding denominators
denominators_leaf (Leaf.Variable k) = refl
denominators_leaf (Leaf.Literal n) = refl

pub denominators_unary : (o : Unary) (t : Term) → denominators (unary o t) ≡ denominators t
unfolding
    denominators Rattle.alg_terms.specs.declared.term.Term.TheBlock.hidden-the_row-Term-0
    denote.Hole.Carrier.hidden
denominators_unary Unary.Opposite t = refl
denominators_unary (Unary.Power n) t = refl
denominators_unary (Unary.Image f) t = refl

pub denominators_binary : (o : Binary) (t u : Term) →
    denominators (binary o t u) ≡ denominators t ++ (denominators u ++ divisors o u)
unfolding
    denominators Rattle.alg_terms.specs.declared.term.Term.TheBlock.hidden-the_row-Term-0
    denote.Hole.Carrier.hidden
denominators_binary Binary.Sum t u = ap (λ l. denominators t ++ l) (sym (append-nil (denominators u)))
denominators_binary Binary.Difference t u = ap (λ l. denominators t ++ l) (sym (append-nil (denominators u)))
denominators_binary Binary.Product t u = ap (λ l. denominators t ++ l) (sym (append-nil (denominators u)))
denominators_binary Binary.Quotient t u = refl

-- ---- the outcome of its fraction

abbrev pub unary_fraction_outcome : Unary → Term → FractionOutcome
unary_fraction_outcome Unary.Opposite t = FractionOutcome.Fine
unary_fraction_outcome (Unary.Power n) t = of_polynomials (power_of_fraction atom_cmp (frac t) n)
unary_fraction_outcome (Unary.Image f) t = FractionOutcome.Fine

abbrev pub binary_fraction_outcome : Binary → Term → Term → FractionOutcome
binary_fraction_outcome Binary.Sum t u = of_polynomials (sum_of_fractions atom_cmp (frac t) (frac u))
binary_fraction_outcome Binary.Difference t u = of_polynomials (sum_of_fractions atom_cmp (frac t) (frac u))
binary_fraction_outcome Binary.Product t u = of_polynomials (product_of_fractions atom_cmp (frac t) (frac u))
binary_fraction_outcome Binary.Quotient t u =
    cond (is_nothing (frac u).top) (FractionOutcome.ZeroDenominator u)
    (of_polynomials (quotient_of_fractions atom_cmp (frac t) (frac u)))

nothing_more : (o : FractionOutcome) → o ≡ first_not_fine o FractionOutcome.Fine
nothing_more FractionOutcome.Fine = refl
nothing_more FractionOutcome.Range = refl
nothing_more FractionOutcome.Degree = refl
nothing_more (FractionOutcome.ZeroDenominator t) = refl

pub frac_outcome_leaf : (l : Leaf) → frac_outcome (leaf l) ≡ FractionOutcome.Fine
unfolding frac_outcome
frac_outcome_leaf (Leaf.Variable k) = refl
frac_outcome_leaf (Leaf.Literal n) = refl

pub frac_outcome_unary : (o : Unary) (t : Term) →
    frac_outcome (unary o t) ≡ first_not_fine (frac_outcome t) (unary_fraction_outcome o t)
unfolding
    frac_outcome Rattle.alg_terms.specs.declared.term.Term.TheBlock.hidden-the_row-Term-0
    denote.Hole.Carrier.hidden
frac_outcome_unary Unary.Opposite t = nothing_more (frac_outcome t)
frac_outcome_unary (Unary.Power n) t = refl
frac_outcome_unary (Unary.Image f) t = nothing_more (frac_outcome t)

pub frac_outcome_binary : (o : Binary) (t u : Term) →
    frac_outcome (binary o t u) ≡
    first_not_fine (frac_outcome t) (first_not_fine (frac_outcome u) (binary_fraction_outcome o t u))
unfolding
    frac_outcome Rattle.alg_terms.specs.declared.term.Term.TheBlock.hidden-the_row-Term-0
    denote.Hole.Carrier.hidden
frac_outcome_binary Binary.Sum t u = refl
frac_outcome_binary Binary.Difference t u = refl
frac_outcome_binary Binary.Product t u = refl
frac_outcome_binary Binary.Quotient t u = refl
