-- What may stand between the parts of answers, of lines and of steps.
use Rattle.std.proofs.Common.{◌≡◌, ℕ, ◌||◌, true, false, inl, inr, refl, subst, arith, eqb-true}
use Rattle.alg_tokens.specs.declared.token.TokenKind.TheVariants as kinds
use Rattle.alg_tokens.specs.declared.token.Word.{Word}
use Rattle.alg_tokens.specs.declared.token.Word.TheVariants as words
use Rattle.alg_tokens.specs.declared.token.Sign.TheVariants as signs
use Rattle.alg_reader.specs.declared.format.Format.{Format}
use Rattle.alg_reader.specs.declared.format.Format.TheVariants as formats
use Rattle.alg_reader.specs.declared.place.Place.{Place}
use Rattle.alg_reader.specs.declared.place.Place.TheVariants as places
use Rattle.alg_reader.specs.Kinds.{variant}
use Rattle.alg_reader.specs.Forms as rules
use Rattle.alg_reader.specs.Forms.{Form, seq, alt, many, rule}
use Rattle.alg_reader.specs.Grammar.{body, cofactor, constants, divisor, number, option, said_at, sign, step_or, unit, word, zero}
use Rattle.alg_reader.specs.Ahead.{begins, goes_on, is_word, rule_begins, rule_goes_on}
use Rattle.alg_reader.proofs.Ahead.{Disjoint}
use Rattle.alg_reader.proofs.OneToken.{or_cases}

-- ---- monomials

pub atom_then_close : Disjoint (goes_on (rule rules.Atom)) (begins (sign signs.ParenRight))
unfolding rule_goes_on
atom_then_close n h h' = grind arith

pub atom_then_exponent : Disjoint (goes_on (rule rules.Atom)) (begins (option (kinds.Sign signs.Caret)))
unfolding rule_goes_on
atom_then_exponent n h h' = grind arith

pub factor_then_star : Disjoint (goes_on (rule rules.Factor))
    (begins (many (seq (sign signs.Star) (rule rules.Factor))))
unfolding rule_goes_on
factor_then_star n h h' = grind arith

pub star_apart : Disjoint (goes_on (seq (sign signs.Star) (rule rules.Factor))) (begins (seq (sign signs.Star)
    (rule rules.Factor)))
unfolding rule_goes_on
star_apart n h h' = grind arith

pub mono_apart : Disjoint (begins unit) (begins (rule rules.Factors))
unfolding rule_begins
mono_apart n h h' = grind arith

pub int_apart : Disjoint (begins (seq (sign signs.Minus) number)) (begins number)
int_apart n h h' = grind arith

-- behind an integer nothing goes on
pub int_ends : (f : Form) → Disjoint (goes_on (rule rules.Int)) (begins f)
unfolding rule_goes_on
int_ends f n h h' = cc

-- behind a numeral nothing goes on
pub number_ends : (f : Form) → Disjoint (goes_on number) (begins f)
number_ends f n h h' = cc

-- ---- answers

pub sum_then_unequal : Disjoint (goes_on (rule rules.Sum)) (begins (seq (sign signs.NotEqual) zero))
unfolding rule_goes_on
sum_then_unequal n h h' = grind arith

-- behind a condition and a constant nothing goes on
pub condition_ends : (f : Form) → Disjoint (goes_on (rule rules.Condition)) (begins f)
unfolding rule_goes_on
condition_ends f n h h' = cc

pub constant_ends : (f : Form) → Disjoint (goes_on (rule rules.Constant)) (begins f)
unfolding rule_goes_on
constant_ends f n h h' = cc

pub condition_again : Disjoint (goes_on (seq (sign signs.Comma) (rule rules.Condition))) (begins (seq
    (sign signs.Comma) (rule rules.Condition)))
unfolding rule_goes_on
condition_again n h h' = grind arith

pub constant_again : Disjoint (goes_on (seq (sign signs.Comma) (rule rules.Constant))) (begins (seq
    (sign signs.Comma) (rule rules.Constant)))
unfolding rule_goes_on
constant_again n h h' = grind arith

pub version_then_power : Disjoint (goes_on (option (kinds.Word words.Version))) (begins (seq (word words.Power) (seq
    number constants)))
version_then_power n h h' = grind arith

pub conditional_apart : Disjoint (begins (rule rules.Conditional)) (begins (rule rules.Certified))
unfolding rule_begins
conditional_apart n h h' = grind arith

pub mono_then_colon : Disjoint (goes_on (rule rules.Mono)) (begins (seq (sign signs.Colon) (seq (rule rules.Int)
    (seq (word words.And) (rule rules.Int)))))
unfolding rule_goes_on
mono_then_colon n h h' = grind arith

-- ---- lines and steps

pub mono_then_comma : Disjoint (goes_on (rule rules.Mono)) (begins (sign signs.Comma))
unfolding rule_goes_on
mono_then_comma n h h' = grind arith

pub factors_then_comma : Disjoint (goes_on (rule rules.Factors)) (begins (sign signs.Comma))
unfolding rule_goes_on
factors_then_comma n h h' = grind arith

pub cofactor_then_number : (format : Format) → Disjoint (goes_on (cofactor format)) (begins
    (seq number (divisor format)))
unfolding rule_begins
cofactor_then_number formats.One n h h' = grind arith
cofactor_then_number formats.Two n h h' = grind arith

pub cofactor_then_combined : (format : Format) → Disjoint (goes_on (cofactor format)) (begins
    (rule (rules.Combined format)))
unfolding rule_begins
cofactor_then_combined formats.One n h h' = grind arith
cofactor_then_combined formats.Two n h h' = grind arith

-- ---- what may stand at a place

-- what begins with a word begins with no other token
word_apart : (w : Word) (f : Form) → begins f (variant (kinds.Word w)) ≡ false → (n : ℕ) → is_word w n ≡ true
    → begins f n ≡ true → ⊥
word_apart w f other n h h' =
    let P : ℕ → Type 0 = λ m. begins f m ≡ true in
    let k = subst P (eqb-true n (variant (kinds.Word w)) h) h' in
    cc

-- the choices behind each answer
abbrev pub but_stopped : Form
but_stopped = alt (rule rules.Stopped) body

abbrev pub but_gave_up : Form
but_gave_up = alt (rule rules.GaveUp) but_stopped

abbrev pub but_none_up_to : Form
but_none_up_to = alt (rule rules.NoneUpTo) but_gave_up

abbrev pub but_zero : Form
but_zero = alt (rule rules.ZeroDenominator) but_none_up_to

abbrev pub but_proved : Form
but_proved = alt (rule rules.No) but_zero

pub proved_apart : Disjoint (begins (rule rules.Proved)) (begins but_proved)
unfolding rule_begins
proved_apart = word_apart words.Proved but_proved refl

pub no_apart : Disjoint (begins (rule rules.No)) (begins but_zero)
unfolding rule_begins
no_apart = word_apart words.No but_zero refl

pub zero_denominator_apart : Disjoint (begins (rule rules.ZeroDenominator)) (begins but_none_up_to)
unfolding rule_begins
zero_denominator_apart = word_apart words.Zero but_none_up_to refl

pub none_up_to_apart : Disjoint (begins (rule rules.NoneUpTo)) (begins but_gave_up)
unfolding rule_begins
none_up_to_apart = word_apart words.None but_gave_up refl

pub gave_up_apart : Disjoint (begins (rule rules.GaveUp)) (begins but_stopped)
unfolding rule_begins
gave_up_apart = word_apart words.Gave but_stopped refl

pub stopped_apart : Disjoint (begins (rule rules.Stopped)) (begins body)
unfolding rule_begins
stopped_apart n h h' =
    elim (or_cases (is_word words.Range n || is_word words.Degree n) (is_word words.Atoms n) h) [
      | inl e ↦ elim (or_cases (is_word words.Range n) (is_word words.Degree n) e) [
        | inl k ↦ word_apart words.Range body refl n k h'
        | inr k ↦ word_apart words.Degree body refl n k h'
      ]
      | inr e ↦ word_apart words.Atoms body refl n e h'
    ]

pub line_apart : (format : Format) → Disjoint (begins (rule (rules.Line format))) (begins (step_or format))
unfolding rule_begins
line_apart format = word_apart words.Line (step_or format) refl

pub step_apart : (format : Format) → Disjoint (begins (rule (rules.Step format))) (begins body)
unfolding rule_begins
step_apart format = word_apart words.Step body refl

pub said_then_dot : (place : Place) → Disjoint (goes_on (said_at place)) (begins (sign signs.Dot))
unfolding rule_goes_on
said_then_dot places.Plain n h h' = grind arith
said_then_dot places.Start n h h' = grind arith
said_then_dot places.AfterGoal n h h' = grind arith
said_then_dot places.Lines n h h' = grind arith
said_then_dot places.Steps n h h' = grind arith
said_then_dot places.LinesTwo n h h' = grind arith
said_then_dot places.StepsTwo n h h' = grind arith
