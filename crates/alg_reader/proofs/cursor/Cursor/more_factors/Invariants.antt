use Rattle.std.proofs.Common.{[], ◌∷◌, length}
use Rattle.alg_tokens.specs.declared.token.Sign.TheVariants as signs
use Rattle.alg_reader.specs.Forms as rules
use Rattle.alg_reader.specs.AnswerMeaning.{factor_in}
use Rattle.alg_reader.proofs.Lists.{Gathers}
use Rattle.alg_reader.proofs.cursor.Cursor.more_factors.Given as goal

-- what is left decides about all of them
abbrev pub invariant-factors : goal.invariant-factors
invariant-factors l = Gathers signs.Star rules.Factor factor_in l.fn.self l.self (l.fn.first ∷ []) l.factors.items

abbrev pub decreases-factors : goal.decreases-factors
decreases-factors l = length l.self
