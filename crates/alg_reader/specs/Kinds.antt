-- Which kinds of tokens the grammar tells apart.
use Rattle.std.specs.Prelude.{ℕ, ◌+◌, pos, zero, suc}
use Rattle.alg_tokens.specs.declared.token.Token.{Token}
use Rattle.alg_tokens.specs.declared.token.TokenKind.{TokenKind}
use Rattle.alg_tokens.specs.declared.token.TokenKind.TheVariants as kinds
use Rattle.alg_tokens.specs.declared.token.Word.{Word}
use Rattle.alg_tokens.specs.declared.token.Word.TheVariants as words
use Rattle.alg_tokens.specs.declared.token.Sign.{Sign}
use Rattle.alg_tokens.specs.declared.token.Sign.TheVariants as signs

-- signs and words in the order of their declarations
abbrev pub sign_number : Sign → ℕ
sign_number signs.Dot = 0
sign_number signs.Colon = 1
sign_number signs.Comma = 2
sign_number signs.Equal = 3
sign_number signs.NotEqual = 4
sign_number signs.Arrow = 5
sign_number signs.ParenLeft = 6
sign_number signs.ParenRight = 7
sign_number signs.Plus = 8
sign_number signs.Minus = 9
sign_number signs.Star = 10
sign_number signs.Slash = 11
sign_number signs.Caret = 12

-- the place of a word in their order
abbrev pub word_number : Word → ℕ
word_number words.Additive = 0
word_number words.After = 1
word_number words.And = 2
word_number words.At = 3
word_number words.Atoms = 4
word_number words.By = 5
word_number words.Char = 6
word_number words.Degree = 7
word_number words.Denominator = 8
word_number words.Domain = 9
word_number words.Field = 10
word_number words.Gave = 11
word_number words.Goal = 12
word_number words.Hom = 13
word_number words.Hyp = 14
word_number words.If = 15
word_number words.Limit = 16
word_number words.Line = 17
word_number words.Minus = 18
word_number words.No = 19
word_number words.None = 20
word_number words.Nsatz = 21
word_number words.Over = 22
word_number words.Power = 23
word_number words.Proved = 24
word_number words.Range = 25
word_number words.Ring = 26
word_number words.Semiring = 27
word_number words.Step = 28
word_number words.To = 29
word_number words.Up = 30
word_number words.Using = 31
word_number words.Var = 32
word_number words.Version = 33
word_number words.Zero = 34

-- a number for each kind that the grammar tells apart: of numerals 0 is one, 1 another, and all others a third
abbrev pub variant : TokenKind → ℕ
variant kinds.Name = 0
variant (kinds.Number (pos zero)) = 1
variant (kinds.Number (pos (suc zero))) = 2
variant (kinds.Number _) = 3
variant kinds.End = 4
variant (kinds.Sign sign) = 5 + sign_number sign
variant (kinds.Word word) = 18 + word_number word

-- the number of a token's kind
abbrev pub code : Token → ℕ
code token = variant token.kind
