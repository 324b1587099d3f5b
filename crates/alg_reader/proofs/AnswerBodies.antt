-- What stands behind a goal or among lines and steps is told by its first word.
use Rattle.std.proofs.Common.{◌≡◌, ◌==◌, false, ℕ, List, inl, inr, refl, subst, ◌∙◌, arith, Result}
use Rattle.std.proofs.lemmas.Bool.Decides.{nat_tests}
use Rattle.alg_tokens.specs.declared.token.Token.{Token}
use Rattle.alg_tokens.specs.declared.token.TokenKind.TheVariants as kinds
use Rattle.alg_tokens.specs.declared.token.Word.{Word}
use Rattle.alg_tokens.specs.declared.token.Word.TheVariants as words
use Rattle.alg_reader.specs.declared.cursor.Fault.{Fault}
use Rattle.alg_reader.specs.declared.format.Format.{Format}
use Rattle.alg_reader.specs.declared.parts.HeldStatement.{HeldStatement}
use Rattle.alg_reader.specs.Kinds.{variant, code}
use Rattle.alg_reader.specs.Forms as rules
use Rattle.alg_reader.specs.Forms.{Rule, Form, alt, rule}
use Rattle.alg_reader.specs.Grammar.{word, body, step_or}
use Rattle.alg_reader.specs.Meaning.{kind_value}
use Rattle.alg_reader.specs.Parts.{held_statement}
use Rattle.alg_reader.specs.Ahead.{begins, nullable, is_word, rule_begins, Starts, Lacks, StartsEither, LacksBoth}
use Rattle.alg_reader.specs.Reading.{ReadsStatement}
use Rattle.alg_reader.proofs.Ahead.{Disjoint}
use Rattle.alg_reader.proofs.Bodies.{same_test}
use Rattle.alg_reader.proofs.Choices.{left_kept, right_kept}
use Rattle.alg_reader.proofs.AnswerChoices.{but_proved, but_zero, but_none_up_to, but_gave_up, but_stopped, proved_apart, no_apart, zero_denominator_apart, none_up_to_apart, gave_up_apart, stopped_apart, line_apart, step_apart}

-- a rule that begins with one word
module _ (w : Word) (r : Rule) (same : (n : ℕ) → rule_begins r n ≡ is_word w n) (ts : List Token) where
  pub starts_with_word : Starts (word w) ts → Starts (rule r) ts
  starts_with_word s = (s.0, s.1, s.2, same (code s.0) ∙ same_test (code s.0) (variant (kinds.Word w)) ∙ s.3)

  pub lacks_word : Lacks (word w) ts → Lacks (rule r) ts
  lacks_word s = (s.0, s.1, s.2, same (code s.0) ∙ same_test (code s.0) (variant (kinds.Word w)) ∙ s.3)

pub proved_word : (n : ℕ) → rule_begins rules.Proved n ≡ is_word words.Proved n
unfolding rule_begins
proved_word n = refl

pub no_word : (n : ℕ) → rule_begins rules.No n ≡ is_word words.No n
unfolding rule_begins
no_word n = refl

pub zero_word : (n : ℕ) → rule_begins rules.ZeroDenominator n ≡ is_word words.Zero n
unfolding rule_begins
zero_word n = refl

pub none_word : (n : ℕ) → rule_begins rules.NoneUpTo n ≡ is_word words.None n
unfolding rule_begins
none_word n = refl

pub gave_word : (n : ℕ) → rule_begins rules.GaveUp n ≡ is_word words.Gave n
unfolding rule_begins
gave_word n = refl

pub if_word : (n : ℕ) → rule_begins rules.Conditional n ≡ is_word words.If n
unfolding rule_begins
if_word n = refl

pub line_word : (format : Format) (n : ℕ) → rule_begins (rules.Line format) n ≡ is_word words.Line n
unfolding rule_begins
line_word format n = refl

pub step_word : (format : Format) (n : ℕ) → rule_begins (rules.Step format) n ≡ is_word words.Step n
unfolding rule_begins
step_word format n = refl

pub starts_range : (ts : List Token) → StartsEither (kinds.Word words.Range) (kinds.Word words.Degree) ts
    → Starts (rule rules.Stopped) ts
unfolding rule_begins
starts_range ts (t, us, e, inl h) = (t, us, e, grind (arith, nat_tests))
starts_range ts (t, us, e, inr h) = (t, us, e, grind (arith, nat_tests))

pub starts_atoms : (ts : List Token) → Starts (word words.Atoms) ts → Starts (rule rules.Stopped) ts
unfolding rule_begins
starts_atoms ts (t, us, e, h) = (t, us, e, grind (arith, nat_tests))

pub lacks_stopped : (ts : List Token) → LacksBoth (kinds.Word words.Range) (kinds.Word words.Degree) ts
    → Lacks (word words.Atoms) ts → Lacks (rule rules.Stopped) ts
unfolding rule_begins
lacks_stopped ts ((t, us, e, h), (t', us', e', h')) (t'', us'', e'', h'') =
    let same : t' ≡ t = cc in
    let same' : t'' ≡ t = cc in
    let P : Token → Type 0 = λ x. (variant (kinds.Word words.Degree) == code x) ≡ false in
    let Q : Token → Type 0 = λ x. (variant (kinds.Word words.Atoms) == code x) ≡ false in
    let first : (variant (kinds.Word words.Range) == code t) ≡ false = h in
    let second : (variant (kinds.Word words.Degree) == code t) ≡ false = subst P same h' in
    let third : (variant (kinds.Word words.Atoms) == code t) ≡ false = subst Q same' h'' in
    (t, us, e, grind (arith, nat_tests))

-- ---- a rule that begins with a word of its own, or what stands behind it

pub record IsChoice (w : Word) (r : Rule) (f : Form) : Type 0 where
  pub first : (n : ℕ) → rule_begins r n ≡ is_word w n
  pub apart : Disjoint (begins (rule r)) (begins f)
  pub full : nullable f ≡ false

pub proved_choice : IsChoice words.Proved rules.Proved but_proved
proved_choice = record { first = proved_word; apart = proved_apart; full = refl }

pub no_choice : IsChoice words.No rules.No but_zero
no_choice = record { first = no_word; apart = no_apart; full = refl }

pub zero_choice : IsChoice words.Zero rules.ZeroDenominator but_none_up_to
zero_choice = record { first = zero_word; apart = zero_denominator_apart; full = refl }

pub none_choice : IsChoice words.None rules.NoneUpTo but_gave_up
none_choice = record { first = none_word; apart = none_up_to_apart; full = refl }

pub gave_choice : IsChoice words.Gave rules.GaveUp but_stopped
gave_choice = record { first = gave_word; apart = gave_up_apart; full = refl }

pub line_choice : (format : Format) → IsChoice words.Line (rules.Line format) (step_or format)
line_choice format = record { first = line_word format; apart = line_apart format; full = refl }

pub step_choice : (format : Format) → IsChoice words.Step (rules.Step format) body
step_choice format = record { first = step_word format; apart = step_apart format; full = refl }

-- the rule, where its word is seen
pub here : {w : Word} {r : Rule} {f : Form} {ts : List Token} → IsChoice w r f
    → (new : List Token) (result : Result HeldStatement Fault) → Starts (word w) ts
    → ReadsStatement (rule r) ts result new
    → ReadsStatement (alt (rule r) f) ts result new
here {w = w} {r = r} {f = f} {ts = ts} choice new result starts h =
    left_kept (rule r) f held_statement kind_value ts new result choice.apart refl choice.full
    (starts_with_word w r choice.first ts starts) h

-- what stands behind it, where its word is not seen
pub past : {w : Word} {r : Rule} {f : Form} {ts : List Token} → IsChoice w r f
    → (new : List Token) (result : Result HeldStatement Fault) → Lacks (word w) ts → ReadsStatement f ts result new
    → ReadsStatement (alt (rule r) f) ts result new
past {w = w} {r = r} {f = f} {ts = ts} choice new result lacks h =
    right_kept (rule r) f held_statement kind_value ts new result choice.apart refl choice.full
    (lacks_word w r choice.first ts lacks) h

-- the words of an answer that gives a reason alone
pub here_stopped : {ts : List Token} (new : List Token) (result : Result HeldStatement Fault)
    → Starts (rule rules.Stopped) ts
    → ReadsStatement (rule rules.Stopped) ts result new → ReadsStatement but_stopped ts result new
here_stopped {ts = ts} new result starts h =
    left_kept (rule rules.Stopped) body held_statement kind_value ts new result stopped_apart refl refl starts h

pub past_stopped : {ts : List Token} (new : List Token) (result : Result HeldStatement Fault)
    → LacksBoth (kinds.Word words.Range) (kinds.Word words.Degree) ts → Lacks (word words.Atoms) ts
    → ReadsStatement body ts result new → ReadsStatement but_stopped ts result new
past_stopped {ts = ts} new result lacks lacks' h =
    right_kept (rule rules.Stopped) body held_statement kind_value ts new result stopped_apart refl refl
    (lacks_stopped ts lacks lacks') h
