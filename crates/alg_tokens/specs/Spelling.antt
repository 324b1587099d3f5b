-- How each reserved word and each sign is spelled.
use Rattle.std.specs.Prelude.{ℕ, List, codes}
use Rattle.alg_tokens.specs.declared.token.Word.{Word}
use Rattle.alg_tokens.specs.declared.token.Word.TheVariants as word
use Rattle.alg_tokens.specs.declared.token.Sign.{Sign}
use Rattle.alg_tokens.specs.declared.token.Sign.TheVariants as sign

-- the bytes of a reserved word
abbrev pub spelling : Word → List ℕ
spelling word.Additive = codes "additive"
spelling word.After = codes "after"
spelling word.And = codes "and"
spelling word.At = codes "at"
spelling word.Atoms = codes "atoms"
spelling word.By = codes "by"
spelling word.Char = codes "char"
spelling word.Degree = codes "degree"
spelling word.Denominator = codes "denominator"
spelling word.Domain = codes "domain"
spelling word.Field = codes "field"
spelling word.Gave = codes "gave"
spelling word.Goal = codes "goal"
spelling word.Hom = codes "hom"
spelling word.Hyp = codes "hyp"
spelling word.If = codes "if"
spelling word.Limit = codes "limit"
spelling word.Line = codes "line"
spelling word.Minus = codes "minus"
spelling word.No = codes "no"
spelling word.None = codes "none"
spelling word.Nsatz = codes "nsatz"
spelling word.Over = codes "over"
spelling word.Power = codes "power"
spelling word.Proved = codes "proved"
spelling word.Range = codes "range"
spelling word.Ring = codes "ring"
spelling word.Semiring = codes "semiring"
spelling word.Step = codes "step"
spelling word.To = codes "to"
spelling word.Up = codes "up"
spelling word.Using = codes "using"
spelling word.Var = codes "var"
spelling word.Version = codes "version"
spelling word.Zero = codes "zero"

-- the bytes of a sign
abbrev pub sign_spelling : Sign → List ℕ
sign_spelling sign.Dot = codes "."
sign_spelling sign.Colon = codes ":"
sign_spelling sign.Comma = codes ","
sign_spelling sign.Equal = codes "="
sign_spelling sign.NotEqual = codes "<>"
sign_spelling sign.Arrow = codes "->"
sign_spelling sign.ParenLeft = codes "("
sign_spelling sign.ParenRight = codes ")"
sign_spelling sign.Plus = codes "+"
sign_spelling sign.Minus = codes "-"
sign_spelling sign.Star = codes "*"
sign_spelling sign.Slash = codes "/"
sign_spelling sign.Caret = codes "^"
