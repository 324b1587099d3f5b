use Rattle.std.proofs.Common.{[], ◌∷◌, length}
use Rattle.alg_tokens.specs.declared.token.Sign.TheVariants as signs
use Rattle.alg_reader.specs.Forms as rules
use Rattle.alg_reader.specs.AnswerMeaning.{numeral_in}
use Rattle.alg_reader.proofs.Lists.{Gathers}
use Rattle.alg_reader.proofs.cursor.Cursor.more_constants.Given as goal

-- what is left decides about all of them
abbrev pub invariant-constants : goal.invariant-constants
invariant-constants l = Gathers signs.Comma rules.Constant numeral_in l.fn.self l.self (l.fn.first ∷ [])
    l.constants.items

abbrev pub decreases-constants : goal.decreases-constants
decreases-constants l = length l.self
