-- The parts one after the other.
use Rattle.std.proofs.Common.{◌≡◌, List, ◌∷◌, refl, subst, Result, Ok, Err}
use Rattle.alg_tokens.specs.declared.token.Token.{Token}
use Rattle.alg_tokens.specs.declared.token.Sign.TheVariants as signs
use Rattle.alg_reader.specs.declared.cursor.Fault.{Fault}
use Rattle.alg_reader.specs.declared.parts.HeldAnswer.{HeldAnswer}
use Rattle.alg_reader.specs.declared.raw.RawAnswer.TheVariants as answers
use Rattle.alg_reader.specs.declared.raw.RawTerm.{RawTerm}
use Rattle.alg_reader.specs.Forms as rules
use Rattle.alg_reader.specs.Forms.{many, rule}
use Rattle.alg_reader.specs.Grammar.{grammar}
use Rattle.alg_reader.specs.Meaning.{act}
use Rattle.alg_reader.specs.TermMeaning.{Value, answer}
use Rattle.alg_reader.specs.AnswerMeaning.{after, term_in}
use Rattle.alg_reader.specs.Parts.{held_answer}
use Rattle.alg_reader.specs.Reading.{Takes, Owes, ReadsAnswer, ReadsAs}
use Rattle.alg_reader.proofs.Failing.{passed_kept}
use Rattle.alg_reader.proofs.Sequences.{owes_rule, owes_less, owes_fails, owes_token, fails_token}
use Rattle.alg_reader.proofs.AnswerChoices.{condition_ends}
use Rattle.alg_reader.proofs.Lists.{next_of}
use Rattle.alg_reader.proofs.cursor.Cursor.conditional.Goals as goal

pub returns-in_err-_if : goal.returns-in_err-_if
unfolding grammar
returns-in_err-_if c =
    let o = owes_rule rules.Conditional _ in
    passed_kept (rule rules.Conditional) held_answer answer _ _ c.from_residual.result c.in_err-_if.field-0.0
    c.from_residual.ensures.1 (fails_token _ o c.in_err-_if.ensures)

pub returns-in_err-first : goal.returns-in_err-first
unfolding grammar
returns-in_err-first c =
    let o = owes_token (owes_rule rules.Conditional _) c.in_ok-_if.ensures in
    passed_kept (rule rules.Conditional) held_answer answer _ _ c.from_residual-in_err-first.result
    c.in_err-first.field-0.0 c.from_residual-in_err-first.ensures.1
    (owes_fails _ (condition_ends (many (next_of signs.Comma rules.Condition))) o c.in_err-first.ensures)

-- the conditions behind the first one are all that is left
conditions_read : (old now new : List Token) (t : RawTerm) (r : Result HeldAnswer Fault) (before : Value → Value)
    → ((v : Value) → before v ≡ answer (answers.Proved (t ∷ after term_in v)))
    → Owes (rule rules.Conditional) (many (next_of signs.Comma rules.Condition)) old now before
    → ReadsAs (many (next_of signs.Comma rules.Condition)) (λ v. held_answer (answers.Proved (t ∷ after term_in v)))
    now r
    new → ReadsAnswer (rule rules.Conditional) old r new
conditions_read old now new t (Ok x) before is o (v, e, p) =
    let P : Value → Type 0 = λ w. Takes (rule rules.Conditional) old new w in
    (answers.Proved (t ∷ after term_in v), e, subst P (is v) (o.takes new v p))
conditions_read old now new t (Err e) before is o h = o.fails e h

pub returns : goal.returns
unfolding grammar act
returns c =
    let (t, e, p) = c.in_ok-first.ensures in
    let o = owes_less (condition_ends (many (next_of signs.Comma rules.Condition))) (owes_token
    (owes_rule rules.Conditional _) c.in_ok-_if.ensures) p in
    conditions_read _ _ _ t c.more_conditions.result _ (λ v. refl) o (c.more_conditions.ensures t e)
