-- The word, and what may stand behind it.
use Rattle.std.proofs.Common.{◌≡◌, ◌==◌, false, List, inl, inr, refl, ◌∙◌, subst, arith}
use Rattle.std.proofs.lemmas.Bool.Decides.{nat_tests}
use Rattle.alg_tokens.specs.declared.token.Token.{Token}
use Rattle.alg_tokens.specs.declared.token.TokenKind.TheVariants as kinds
use Rattle.alg_tokens.specs.declared.token.Word.TheVariants as words
use Rattle.alg_reader.specs.Kinds.{variant, code}
use Rattle.alg_reader.specs.Forms as rules
use Rattle.alg_reader.specs.Forms.{Form, alt, rule}
use Rattle.alg_reader.specs.Grammar.{grammar}
use Rattle.alg_reader.specs.Meaning.{act}
use Rattle.alg_reader.specs.Ahead.{begins, rule_begins, Starts, Lacks, StartsEither, LacksBoth}
use Rattle.alg_reader.proofs.Ahead.{or_first, or_true}
use Rattle.alg_reader.proofs.ReadChoices.{takes_left, takes_right, takes_some, takes_none}
use Rattle.alg_reader.proofs.Failing.{passed_statement, fails_left, fails_right, fails_some}
use Rattle.alg_reader.proofs.Sequences.{owes_rule, owes_token, fails_token}
use Rattle.alg_reader.proofs.AnswerChoices.{conditional_apart}
use Rattle.alg_reader.proofs.AnswerBodies.{starts_with_word, lacks_word, if_word}
use Rattle.alg_reader.proofs.HeldAnswers.{answer_said}
use Rattle.alg_reader.proofs.cursor.Cursor.proved.Goals as goal

-- what may stand behind the word
abbrev ways : Form
ways = alt (rule rules.Conditional) (rule rules.Certified)

starts_certified : (ts : List Token) → StartsEither (kinds.Word words.Version) (kinds.Word words.Power) ts
    → Starts (rule rules.Certified) ts
unfolding rule_begins
starts_certified ts (t, us, e, inl h) = (t, us, e, grind (arith, nat_tests))
starts_certified ts (t, us, e, inr h) = (t, us, e, grind (arith, nat_tests))

-- a choice that starts starts
starts_right : (f g : Form) (ts : List Token) → Starts g ts → Starts (alt f g) ts
starts_right f g ts (t, us, e, h) = (t, us, e, rw h (or_true (begins f (code t))))

starts_left : (f g : Form) (ts : List Token) → Starts f ts → Starts (alt f g) ts
starts_left f g ts (t, us, e, h) = (t, us, e, or_first (begins f (code t)) (begins g (code t)) h)

lacks_both : (ts : List Token) → Lacks (rule rules.Conditional) ts
    → LacksBoth (kinds.Word words.Version) (kinds.Word words.Power) ts → Lacks ways ts
unfolding rule_begins
lacks_both ts (t, us, e, h) ((t', us', e', h'), (t'', us'', e'', h'')) =
    let same : t' ≡ t = cc in
    let same' : t'' ≡ t = cc in
    let P : Token → Type 0 = λ x. (variant (kinds.Word words.Version) == code x) ≡ false in
    let Q : Token → Type 0 = λ x. (variant (kinds.Word words.Power) == code x) ≡ false in
    let first : (variant (kinds.Word words.Version) == code t) ≡ false = subst P same h' in
    let second : (variant (kinds.Word words.Power) == code t) ≡ false = subst Q same' h'' in
    (t, us, e, grind (arith, nat_tests))

pub returns-in_err-_proved : goal.returns-in_err-_proved
unfolding grammar
returns-in_err-_proved c =
    let o = owes_rule rules.Proved _ in
    passed_statement (rule rules.Proved) _ _ c.from_residual.result c.in_err-_proved.field-0.0
    c.from_residual.ensures.1 (fails_token _ o c.in_err-_proved.ensures)

pub returns-in_err-conditional : goal.returns-in_err-conditional
unfolding grammar
returns-in_err-conditional c =
    let o = owes_token (owes_rule rules.Proved _) c.in_ok-_proved.ensures in
    let starts = starts_with_word words.If rules.Conditional if_word _ c.if-sees.ensures in
    passed_statement (rule rules.Proved) _ _ c.from_residual-in_err-conditional.result c.in_err-conditional.field-0.0
    c.from_residual-in_err-conditional.ensures.1 (o.fails _ (fails_some ways refl _ _ (starts_left
    (rule rules.Conditional) (rule rules.Certified) _ starts)
    (fails_left (rule rules.Conditional) (rule rules.Certified)
    conditional_apart refl refl _ _ starts c.in_err-conditional.ensures)))

pub returns-then-sees : goal.returns-then-sees
unfolding grammar act
returns-then-sees c =
    let o = owes_token (owes_rule rules.Proved _) c.in_ok-_proved.ensures in
    let (said, e, p) = c.in_ok-conditional.ensures in (
      _,
      c.answered.ensures ∙ answer_said c.in_ok-conditional.conditional said e,
      o.takes _ _ (takes_some ways refl _ _ _ (takes_left (rule rules.Conditional) (rule rules.Certified)
          conditional_apart refl refl _ _ _ p)),
    )

pub returns-in_err-certified : goal.returns-in_err-certified
unfolding grammar
returns-in_err-certified c =
    let o = owes_token (owes_rule rules.Proved _) c.in_ok-_proved.ensures in
    let starts = starts_certified _ c.if-sees_either.ensures in
    passed_statement (rule rules.Proved) _ _ c.from_residual-in_err-certified.result c.in_err-certified.field-0.0
    c.from_residual-in_err-certified.ensures.1 (o.fails _ (fails_some ways refl _ _ (starts_right
    (rule rules.Conditional) (rule rules.Certified) _ starts)
    (fails_right (rule rules.Conditional) (rule rules.Certified)
    conditional_apart refl refl _ _ (lacks_word words.If rules.Conditional if_word _ c.if-sees.ensures)
    c.in_err-certified.ensures)))

pub returns-then-sees_either : goal.returns-then-sees_either
unfolding grammar act
returns-then-sees_either c =
    let o = owes_token (owes_rule rules.Proved _) c.in_ok-_proved.ensures in
    let (said, e, p) = c.in_ok-certified.ensures in (
      _,
      c.answered-then-sees_either.ensures ∙ answer_said c.in_ok-certified.certified said e,
      o.takes _ _ (takes_some ways refl _ _ _ (takes_right (rule rules.Conditional) (rule rules.Certified)
          conditional_apart refl refl _ _ _ p)),
    )

pub returns : goal.returns
unfolding grammar act
returns c =
    let o = owes_token (owes_rule rules.Proved _) c.in_ok-_proved.ensures in
    let none = c.from_vec-conditions.ensures ∙ c.new.ensures.items in (
      _,
      c.plain.ensures,
      rw none (o.takes _ _ (takes_none ways refl _ (lacks_both _
          (lacks_word words.If rules.Conditional if_word _ c.if-sees.ensures)
          c.if-sees_either.ensures))),
    )
