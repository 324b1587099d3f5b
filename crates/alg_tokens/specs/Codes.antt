-- The number of each fault, and a fault at a byte.
use Rattle.std.specs.Prelude.{ℕ}
use Rattle.alg_tokens.specs.declared.code.Code.{Code}
use Rattle.alg_tokens.specs.declared.code.Code.TheVariants.{Utf8, Char, Number, Syntax, End, Again, Unknown, WrongUse, Sort, NoSort, Depth, Exponent, Division, NotDomain, NotField, Option, Answer, Line, Nesting}
use Rattle.alg_tokens.specs.declared.token.Refusal.{Refusal}

-- the number by which a refusal tells a fault
abbrev pub code_number : Code → ℕ
code_number Utf8 = 1
code_number Char = 2
code_number Number = 3
code_number Syntax = 4
code_number End = 5
code_number Again = 6
code_number Unknown = 7
code_number WrongUse = 8
code_number Sort = 9
code_number NoSort = 10
code_number Depth = 11
code_number Exponent = 12
code_number Division = 13
code_number NotDomain = 14
code_number NotField = 15
code_number Option = 16
code_number Answer = 17
code_number Line = 18
code_number Nesting = 19

-- a fault at a byte
abbrev pub fault_at : Code → ℕ → Refusal
fault_at code at = record { code = code_number code; at = at }
