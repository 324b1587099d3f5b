use Rattle.std.proofs.Common.{◌≡◌, List, [], ◌∷◌, length}
use Rattle.alg_tokens.specs.declared.token.Sign.TheVariants as signs
use Rattle.alg_reader.specs.declared.raw.RawTerm.{RawTerm}
use Rattle.alg_reader.specs.Forms as rules
use Rattle.alg_reader.specs.AnswerMeaning.{term_in}
use Rattle.alg_reader.specs.Parts.{held}
use Rattle.alg_reader.proofs.HeldAnswers.{AreHeld}
use Rattle.alg_reader.proofs.Lists.{Gathers}
use Rattle.alg_reader.proofs.cursor.Cursor.more_conditions.Given as goal

-- the conditions that are left decide about all of them, where those so far are held
abbrev pub invariant-conditions : goal.invariant-conditions
invariant-conditions l = (t : RawTerm) → l.fn.first ≡ held t → (ts : List RawTerm)
    × AreHeld l.conditions.items l.too_deep ts
    × Gathers signs.Comma rules.Condition term_in l.fn.self l.self (t ∷ []) ts

abbrev pub decreases-conditions : goal.decreases-conditions
decreases-conditions l = length l.self
