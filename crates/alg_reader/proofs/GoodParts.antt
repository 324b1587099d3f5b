-- One token ahead decides in the parts that rules share.
use Rattle.std.proofs.Common.{◌≡◌, false, refl}
use Rattle.alg_tokens.specs.declared.token.TokenKind.{TokenKind}
use Rattle.alg_tokens.specs.declared.token.TokenKind.TheVariants as kinds
use Rattle.alg_tokens.specs.declared.token.Sign.TheVariants as signs
use Rattle.alg_tokens.specs.declared.token.Word.TheVariants as words
use Rattle.alg_reader.specs.declared.format.Format.{Format}
use Rattle.alg_reader.specs.declared.format.Format.TheVariants as formats
use Rattle.alg_reader.specs.declared.place.Place.{Place}
use Rattle.alg_reader.specs.declared.place.Place.TheVariants as places
use Rattle.alg_reader.specs.Forms as rules
use Rattle.alg_reader.specs.Forms.{Form, a, seq, alt, opt, many, rule}
use Rattle.alg_reader.specs.Grammar.{number, sign, option, using, inside, separated, body, step_or, line_or, said_at, constants, cofactor, divisor}
use Rattle.alg_reader.specs.Ahead.{nullable, begins, goes_on}
use Rattle.alg_reader.proofs.Ahead.{Disjoint}
use Rattle.alg_reader.proofs.Leaves.{close_apart}
use Rattle.alg_reader.proofs.OneToken.{zero_apart, unit_apart}
use Rattle.alg_reader.proofs.Options.{use_then_close, use_then_comma, comma_apart, all_uses}
use Rattle.alg_reader.proofs.Bodies.{ring_apart, sort_apart, hom_apart, vars_apart, hyp_apart}
use Rattle.alg_reader.proofs.AnswerChoices.{constant_ends, constant_again, mono_then_comma, factors_then_comma, proved_apart, no_apart, zero_denominator_apart, none_up_to_apart, gave_up_apart, stopped_apart, line_apart, step_apart}

-- one token ahead decides
abbrev pub IsGood : Form → Type 0
IsGood (a k) = Unit {0}
IsGood (seq f g) = IsGood f × IsGood g × Disjoint (goes_on f) (begins g)
IsGood (alt f g) = IsGood f × IsGood g × (nullable f ≡ false) × (nullable g ≡ false) × Disjoint (begins f) (begins g)
IsGood (opt f) = IsGood f × (nullable f ≡ false)
IsGood (many f) = IsGood f × (nullable f ≡ false) × Disjoint (goes_on f) (begins f)
IsGood (rule r) = Unit {0}

-- a token, and what follows it
pub good_token : (k : TokenKind) (f : Form) → IsGood f → IsGood (seq (a k) f)
good_token k f good = (tt, good, λ n h h'. cc)

-- a numeral
pub good_number : IsGood number
good_number = (tt, (tt, tt, refl, refl, unit_apart), refl, refl, zero_apart)

-- an option of one number
pub good_option : (k : TokenKind) → IsGood (option k)
good_option k = (good_token k number good_number, refl)

-- the uses
pub good_using : IsGood using
good_using = (
  good_token (kinds.Word words.Using) all_uses (
    tt,
    (good_token (kinds.Sign signs.Comma) (rule rules.Use) tt, refl, comma_apart),
    use_then_comma,
  ),
  refl,
)

-- something in parentheses
pub good_sum_inside : IsGood (inside (rule rules.Sum))
good_sum_inside = good_token (kinds.Sign signs.ParenLeft) (seq (rule rules.Sum) (sign signs.ParenRight))
    (tt, tt, close_apart)

pub good_use_inside : IsGood (inside (rule rules.Use))
good_use_inside = good_token (kinds.Sign signs.ParenLeft) (seq (rule rules.Use) (sign signs.ParenRight))
    (tt, tt, use_then_close)

-- a declaration or a goal
pub good_body : IsGood body
good_body = (
  tt,
  (
    tt,
    (tt, (tt, (tt, tt, refl, refl, hyp_apart), refl, refl, vars_apart), refl, refl, hom_apart),
    refl,
    refl,
    sort_apart,
  ),
  refl,
  refl,
  ring_apart,
)

pub good_step_or : (format : Format) → IsGood (step_or format)
good_step_or format = (tt, good_body, refl, refl, step_apart format)

pub good_line_or : (format : Format) → IsGood (line_or format)
good_line_or format = (tt, good_step_or format, refl, refl, line_apart format)

-- what may stand at a place
pub good_said : (place : Place) → IsGood (said_at place)
good_said places.Plain = good_body
good_said places.Start = good_body
good_said places.AfterGoal = (
  tt,
  (
    tt,
    (
      tt,
      (tt, (tt, (tt, good_body, refl, refl, stopped_apart), refl, refl, gave_up_apart), refl, refl, none_up_to_apart),
      refl,
      refl,
      zero_denominator_apart,
    ),
    refl,
    refl,
    no_apart,
  ),
  refl,
  refl,
  proved_apart,
)
good_said places.Lines = good_line_or formats.One
good_said places.Steps = good_step_or formats.One
good_said places.LinesTwo = good_line_or formats.Two
good_said places.StepsTwo = good_step_or formats.Two

-- the constants of a certificate
pub good_constants : IsGood constants
good_constants = (
  good_token (kinds.Word words.If) (separated signs.Comma rules.Constant) (
    tt,
    (good_token (kinds.Sign signs.Comma) (rule rules.Constant) tt, refl, constant_again),
    constant_ends (many (seq (sign signs.Comma) (rule rules.Constant))),
  ),
  refl,
)

pub good_cofactor : (format : Format) → IsGood (cofactor format)
good_cofactor formats.One = (tt, tt, mono_then_comma)
good_cofactor formats.Two = ((tt, tt, factors_then_comma), refl)

pub good_divisor : (format : Format) → IsGood (divisor format)
good_divisor formats.One = good_token (kinds.Word words.Over) number good_number
good_divisor formats.Two = good_option (kinds.Word words.Over)
