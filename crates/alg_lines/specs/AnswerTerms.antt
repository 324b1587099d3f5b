-- The terms that stand in an answer.
use Rattle.std.specs.Prelude.{List, [], ◌∷◌}
use Rattle.alg_terms.specs.declared.term.Term.{Term}
use Rattle.alg_lines.specs.declared.answer.Answer.{Answer}
use Rattle.alg_lines.specs.declared.answer.Answer.TheVariants.{Proved, ZeroDenominator}

-- its conditions, or its denominator that is zero
abbrev pub terms_of : Answer → List Term
terms_of (Proved conditions) = conditions
terms_of (ZeroDenominator denominator) = denominator ∷ []
terms_of answer = []
