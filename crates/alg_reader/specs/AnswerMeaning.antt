-- What the derivations of answers, of lines and of steps mean.
use Rattle.std.specs.Prelude.{List, [], ◌∷◌, ◌++◌, Option, None, Some, unwrap_or}
use Rattle.alg_tokens.specs.declared.token.TokenKind.{TokenKind}
use Rattle.alg_tokens.specs.declared.token.TokenKind.TheVariants as kinds
use Rattle.alg_tokens.specs.declared.token.Word.TheVariants as words
use Rattle.alg_reader.specs.declared.raw.RawAnswer.{RawAnswer}
use Rattle.alg_reader.specs.declared.raw.RawAnswer.TheVariants as answers
use Rattle.alg_reader.specs.declared.raw.RawFactor.{RawFactor}
use Rattle.alg_reader.specs.declared.raw.RawMono.{RawMono}
use Rattle.alg_reader.specs.declared.raw.RawNumber.{RawNumber}
use Rattle.alg_reader.specs.declared.raw.RawTerm.{RawTerm}
use Rattle.alg_reader.specs.RawMonos.{image_factor, mono_of, mono_one, number_one, opposite_of, plain_factor, raised_factor, start_of}
use Rattle.alg_reader.specs.RawNodes.{numeral_of}
use Rattle.alg_reader.specs.PartMeaning.{option_of}
use Rattle.alg_reader.specs.TermMeaning.{Value, one, two, nothing, term, factor, mono, int, answer, combined, line, step}

-- what stands behind separators, one after the other, where `item` says what one of them is
unfoldable pub after : {X : Type 0} → (Value → List X) → Value → List X
after item (two (two separator v) rest) = item v ++ after item rest
after item _ = []

-- one factor, one term, or one numeral
abbrev pub factor_in : Value → List RawFactor
factor_in (factor f) = f ∷ []
factor_in _ = []

-- one term
abbrev pub term_in : Value → List RawTerm
term_in (term t) = t ∷ []
term_in _ = []

-- one numeral
abbrev pub numeral_in : Value → List RawNumber
numeral_in (one n) = numeral_of n ∷ []
numeral_in _ = []

-- ---- monomials

-- `x`, or `f(x)`
abbrev pub act_atom : Value → Value
act_atom (two (one name) nothing) = factor (plain_factor name)
act_atom (two (one name) (two (one paren) (two (factor f) (one close)))) = factor (image_factor name f)
act_atom _ = nothing

-- an atom with its exponent, if it has one
abbrev pub act_factor : Value → Value
act_factor (two (factor f) exponent) = factor (raised_factor f (option_of exponent))
act_factor _ = nothing

-- `x*y^2`
abbrev pub act_factors : Value → Value
act_factors (two (factor f) rest) = mono (mono_of (start_of f) (f ∷ after factor_in rest))
act_factors _ = nothing

-- `1`, or factors
abbrev pub act_mono : Value → Value
act_mono (one n) = mono (mono_one n.start)
act_mono v = v

-- `2`, or `-2`
abbrev pub act_int : Value → Value
act_int (one n) = int (numeral_of n)
act_int (two (one minus) (one n)) = int (opposite_of minus n)
act_int _ = nothing

-- ---- answers

-- `t <> 0`
abbrev pub act_condition : Value → Value
act_condition (two (term t) zero) = term t
act_condition _ = nothing

-- `2 <> 0`
abbrev pub act_constant : Value → Value
act_constant (two (one n) zero) = one n
act_constant _ = nothing

-- `if t <> 0, u <> 0`
abbrev pub act_conditional : Value → Value
act_conditional (two (one word) (two (term t) rest)) = answer (answers.Proved (t ∷ after term_in rest))
act_conditional _ = nothing

-- `if 2 <> 0, 3 <> 0`, if it is there
abbrev pub constants_of : Value → List RawNumber
constants_of (two (one word) (two (one n) rest)) = numeral_of n ∷ after numeral_in rest
constants_of _ = []

-- `version 2 power 1 if 2 <> 0`
abbrev pub act_certified : Value → Value
act_certified (two version (two (one power) (two (one n) constants))) =
    answer (answers.Certified (option_of version) (numeral_of n) (constants_of constants))
act_certified _ = nothing

-- `proved`, with its conditions or by a certificate
abbrev pub act_proved : Value → Value
act_proved (two (one word) nothing) = answer (answers.Proved [])
act_proved (two (one word) (answer said)) = answer said
act_proved _ = nothing

-- `no at x : 1 and 0`
abbrev pub act_no : Value → Value
act_no (two (one word) (two (one at) (two (mono m) (two (one colon) (two (int b) (two (one and) (int c))))))) =
    answer (answers.No m b c)
act_no _ = nothing

-- `zero denominator t`
abbrev pub act_zero_denominator : Value → Value
act_zero_denominator (two (one word) (two (one denominator) (term t))) = answer (answers.ZeroDenominator t)
act_zero_denominator _ = nothing

-- `none up to power 1`
abbrev pub act_none_up_to : Value → Value
act_none_up_to (two (one word) (two (one up) (two (one to) (two (one power) (one n))))) =
    answer (answers.NoneUpTo (numeral_of n))
act_none_up_to _ = nothing

-- `gave up after 100`
abbrev pub act_gave_up : Value → Value
act_gave_up (two (one word) (two (one up) (two (one after) (one n)))) = answer (answers.GaveUp (numeral_of n))
act_gave_up _ = nothing

-- the answer of a word
abbrev pub stopped_word : TokenKind → RawAnswer
stopped_word (kinds.Word words.Range) = answers.Range
stopped_word (kinds.Word words.Degree) = answers.Degree
stopped_word _ = answers.Atoms

-- `range`, `degree` or `atoms`
abbrev pub act_stopped : Value → Value
act_stopped (one word) = answer (stopped_word word.kind)
act_stopped _ = nothing

-- ---- lines and steps

-- a monomial and a comma, if they are there
abbrev pub cofactor_of : Value → Option RawMono
cofactor_of (two (mono m) (one comma)) = Some m
cofactor_of _ = None

-- `1 minus 2, x, 3 over 4`
abbrev pub act_combined : Value → Value
act_combined (two (one first) (two (one minus) (two (int b) (two (one comma) (two n (two (one j) d)))))) =
    combined (record { first = numeral_of first; b = b; n = cofactor_of n; j = numeral_of j; d = option_of d })
act_combined _ = nothing

-- a line: what is left out is 1, at the first byte of the line
abbrev pub act_line : Value → Value
act_line (two (one word) (two (one a) (two (one comma) (two m (combined c))))) = line (numeral_of a)
    (unwrap_or (cofactor_of m) (mono_one word.start)) c.first c.b (unwrap_or c.n (mono_one word.start)) c.j
    (unwrap_or c.d (number_one word.start))
act_line _ = nothing

-- a step: what is left out is 1, at the first byte of the step
abbrev pub act_step : Value → Value
act_step (two (one word) (combined c)) =
    step c.first c.b (unwrap_or c.n (mono_one word.start)) c.j (unwrap_or c.d (number_one word.start))
act_step _ = nothing
