-- What making the polynomial of a term comes to.
use Rattle.std.specs.Prelude.{[], ◌∷◌}
use Rattle.alg_terms.specs.declared.term.Term.{Term, more_of-Term, Var, Int, Neg', Add', Sub', Mul', Div', Pow', Hom'}
use Rattle.alg_mono.specs.Outcomes.{Outcome, first_breach, sum_outcome, product_outcome, power_outcome}
use Rattle.alg_meaning.specs.PolynomialOf.{poly_of}

-- the outcome of the first node in postorder that breaks a rule, and fine where there is none
unfoldable pub term_outcome : Term → Outcome
term_outcome (Var k) = Outcome.Fine
term_outcome (Int n) = Outcome.Fine
term_outcome (Neg' _ (more_of-Term t _)) = term_outcome t
term_outcome (Add' _ (more_of-Term t _) _ (more_of-Term u _)) =
    first_breach (term_outcome t) (first_breach (term_outcome u) (sum_outcome (poly_of t) (poly_of u)))
term_outcome (Sub' _ (more_of-Term t _) _ (more_of-Term u _)) =
    first_breach (term_outcome t) (first_breach (term_outcome u) (sum_outcome (poly_of t) (poly_of u)))
term_outcome (Mul' _ (more_of-Term t _) _ (more_of-Term u _)) =
    first_breach (term_outcome t) (first_breach (term_outcome u) (product_outcome (poly_of t ∷ poly_of u ∷ [])))
term_outcome (Div' _ (more_of-Term t _) _ (more_of-Term u _)) = first_breach (term_outcome t) (term_outcome u)
term_outcome (Pow' _ (more_of-Term t _) n) = first_breach (term_outcome t) (power_outcome (poly_of t) n)
term_outcome (Hom' f _ (more_of-Term t _)) = term_outcome t
