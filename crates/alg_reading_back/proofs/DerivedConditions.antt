-- The grammar derives the canonical text of conditions and constants, as what they say.
use Rattle.std.proofs.Common.{◌≡◌, ℕ, ◌+◌, List, [], ◌∷◌, pos, ℤ, length, refl, ap}
use Rattle.std.specs.Fmt.{signed_decimal}
use Rattle.alg_terms.specs.declared.file.File.{File}
use Rattle.alg_terms.specs.declared.term.Term.{Term}
use Rattle.alg_tokens.specs.declared.token.Sign.{Sign}
use Rattle.alg_tokens.specs.declared.token.Sign.TheVariants as signs
use Rattle.alg_tokens.specs.declared.token.TokenKind.TheVariants as kinds
use Rattle.alg_tokens.specs.declared.token.Word.{Word}
use Rattle.alg_tokens.specs.declared.token.Word.TheVariants as words
use Rattle.alg_tokens.specs.Laws.{width, tokens_of}
use Rattle.alg_tokens.specs.Pieces.{Piece}
use Rattle.alg_tokens.specs.Spelling.{spelling, sign_spelling}
use Rattle.alg_reader.specs.AnswerMeaning.{constants_of, numeral_in}
use Rattle.alg_reader.specs.Forms as rules
use Rattle.alg_reader.specs.Forms.{Form, seq, rule}
use Rattle.alg_reader.specs.Grammar as forms
use Rattle.alg_reader.specs.Grammar.{grammar, number, constants}
use Rattle.alg_reader.specs.Meaning.{act}
use Rattle.alg_reader.specs.TermMeaning.{Value, one, two, nothing, term}
use Rattle.alg_reading_back.proofs.DerivedForms.{IsDerived, token_at, one_token, both, given, left_out, by_rule, term_means, token_before, pieces_before, front_before}
use Rattle.alg_reading_back.proofs.DerivedLists.{list_derived}
use Rattle.alg_reading_back.proofs.DerivedMonos.{number_derived}
use Rattle.alg_reading_back.proofs.DerivedStatements.{word_at, zero_at}
use Rattle.alg_reading_back.proofs.DerivedTerms.{sign_at, term_derived}
use Rattle.alg_reading_back.proofs.WrittenAnswers.{not_zero, written_condition, written_constant, if_pieces}
use Rattle.alg_reading_back.proofs.WrittenLists.{comma, list_pieces, all_raw}
use Rattle.alg_reading_back.proofs.WrittenTerms.{written, space, sign, word, numeral, integer}

-- a word and a space before pieces, a sign before pieces, and a numeral before pieces
pub word_before : (w : Word) (g : Form) (q : List Piece) (at : ℕ) (y : Value) →
    IsDerived g (tokens_of (at + length (spelling w) + 1) q) y →
    IsDerived (seq (forms.word w) g) (tokens_of at (word w ∷ space ∷ q)) (two (one (word_at w at)) y)
word_before w g q at y d = front_before (kinds.Word w) (spelling w) g q at (at + length (spelling w) + 1) y refl d

pub sign_before : (s : Sign) (g : Form) (q : List Piece) (at : ℕ) (y : Value) →
    IsDerived g (tokens_of (at + length (sign_spelling s)) q) y →
    IsDerived (seq (forms.sign s) g) (tokens_of at (sign s ∷ q)) (two (one (sign_at s at)) y)
sign_before s g q at y d =
    token_before (kinds.Sign s) (sign_at s at) g (tokens_of (at + length (sign_spelling s)) q) y refl d

-- the token of a number
abbrev pub number_at : ℤ → ℕ → Value
number_at c at = one (token_at (kinds.Number c) (signed_decimal c) at)

pub number_before : (c : ℤ) (g : Form) (q : List Piece) (at : ℕ) (y : Value) →
    IsDerived g (tokens_of (at + length (signed_decimal c)) q) y →
    IsDerived (seq number g) (tokens_of at (integer c ∷ q)) (two (number_at c at) y)
number_before c g q at y d =
    both number g (token_at (kinds.Number c) (signed_decimal c) at ∷ [])
    (tokens_of (at + length (signed_decimal c)) q) (number_at c at) y (number_derived c at) d

-- ---- conditions and constants

-- `<> 0`
abbrev not_zero_form : Form
not_zero_form = seq (forms.sign signs.NotEqual) forms.zero

abbrev not_zero_value : ℕ → Value
not_zero_value at = two (one (sign_at signs.NotEqual (at + 1))) (one (zero_at (at + 1 + 2 + 1)))

pub not_zero_derived : (at : ℕ) → IsDerived not_zero_form (tokens_of at not_zero) (not_zero_value at)
not_zero_derived at =
    sign_before signs.NotEqual forms.zero (space ∷ numeral 0 ∷ []) (at + 1) (one (zero_at (at + 1 + 2 + 1)))
    (one_token (kinds.Number (pos 0)) (zero_at (at + 1 + 2 + 1)) refl)

pub condition_derived : (file : File) (t : Term) (at : ℕ) → IsDerived (rule rules.Condition)
    (tokens_of at (written_condition file t).pieces) (term ((written_condition file t).raw at))
unfolding grammar act
condition_derived file t at =
    let pieces = (written file t).pieces in
    let there = at + width pieces in
    by_rule rules.Condition (tokens_of at (written_condition file t).pieces) _
    (pieces_before (rule rules.Sum) not_zero_form pieces not_zero at there
    (term ((written file t).raw at)) (not_zero_value there) refl
    (term_means rules.Sum (tokens_of at pieces) ((written file t).raw at) (term_derived file t at))
    (not_zero_derived there))

pub constant_derived : (c : ℤ) (at : ℕ) → IsDerived (rule rules.Constant)
    (tokens_of at (written_constant c).pieces) (number_at c at)
unfolding grammar act
constant_derived c at =
    let there = at + length (signed_decimal c) in
    by_rule rules.Constant (tokens_of at (written_constant c).pieces) _
    (number_before c not_zero_form not_zero at (not_zero_value there) (not_zero_derived there))

-- the constants of a certificate, if there are any
pub constants_derived : (cs : List ℤ) (at : ℕ) → (v : Value) ×
    IsDerived constants (tokens_of at (if_pieces written_constant cs)) v ×
    (constants_of v ≡ all_raw written_constant comma (at + 1 + 2 + 1) cs)
constants_derived [] at = (nothing, left_out _, refl)
constants_derived (c ∷ cs) at =
    let first = at + 1 + 2 + 1 in
    let (v, all, says) = list_derived written_constant comma rules.Constant numeral_in number_at (λ x at. refl)
    constant_derived c cs first in (
      two (one (word_at words.If (at + 1))) (two (number_at c first) v),
      given _ _ _ (word_before words.If _ (list_pieces written_constant comma c cs) (at + 1) _ all),
      ap (λ ns. record { value = c; at = first } ∷ ns) says,
    )
