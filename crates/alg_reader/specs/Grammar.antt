-- The grammar of statements.
use Rattle.std.specs.Prelude.{◌≡◌, List, ◌++◌, pos}
use Rattle.alg_tokens.specs.declared.token.Token.{Token}
use Rattle.alg_tokens.specs.declared.token.TokenKind.TheVariants as kinds
use Rattle.alg_tokens.specs.declared.token.TokenKind.{TokenKind}
use Rattle.alg_tokens.specs.declared.token.Word.TheVariants as words
use Rattle.alg_tokens.specs.declared.token.Word.{Word}
use Rattle.alg_tokens.specs.declared.token.Sign.{Sign}
use Rattle.alg_tokens.specs.declared.token.Sign.TheVariants as signs
use Rattle.alg_reader.specs.declared.format.Format.{Format}
use Rattle.alg_reader.specs.declared.format.Format.TheVariants as formats
use Rattle.alg_reader.specs.declared.place.Place.{Place}
use Rattle.alg_reader.specs.declared.place.Place.TheVariants as places
use Rattle.alg_reader.specs.Kinds.{variant, code}
use Rattle.alg_reader.specs.Forms.{Rule, Statement, Ring, Sort, Hom, Vars, Hyp, Goal, Method, Use, Sum, Product, Unary, Power, Leaf, Form, a, seq, alt, opt, many, rule, Atom, Factor, Factors, Mono, Int, Condition, Constant, Conditional, Certified, Proved, No, ZeroDenominator, NoneUpTo, GaveUp, Stopped, Combined, Line, Step, Tree, token, pair, left, right, none, some, end, more, node, spelled}

-- one reserved word
abbrev pub word : Word → Form
word w = a (kinds.Word w)

-- one sign
abbrev pub sign : Sign → Form
sign s = a (kinds.Sign s)

-- one name
abbrev pub name : Form
name = a kinds.Name

-- the numeral 0
abbrev pub zero : Form
zero = a (kinds.Number (pos 0))

-- the numeral 1
abbrev pub unit : Form
unit = a (kinds.Number (pos 1))

-- any numeral
abbrev pub number : Form
number = alt zero (alt unit (a (kinds.Number (pos 2))))

-- an option: its word or its sign, and a numeral
abbrev pub option : TokenKind → Form
option k = opt (seq (a k) number)

-- one or more, each after the first behind a sign
abbrev pub separated : Sign → Rule → Form
separated s r = seq (rule r) (many (seq (sign s) (rule r)))

-- the options of nsatz: hypotheses, the power and the limit
abbrev pub using : Form
using = opt (seq (word words.Using) (separated signs.Comma Use))

-- the hypotheses, the power and the limit, each once or not
abbrev pub options : Form
options = seq using (seq (option (kinds.Word words.Power)) (option (kinds.Word words.Limit)))

-- something in parentheses
abbrev pub inside : Form → Form
inside f = seq (sign signs.ParenLeft) (seq f (sign signs.ParenRight))

-- a part, and any number of further ones, each after one of two signs
abbrev pub chain : Rule → Sign → Sign → Form
chain r s t = seq (rule r) (many (seq (alt (sign s) (sign t)) (rule r)))

-- what a statement says, without its `.`
abbrev pub body : Form
body = alt (rule Ring) (alt (rule Sort) (alt (rule Hom) (alt (rule Vars) (alt (rule Hyp) (rule Goal)))))

-- an answer, or something else
abbrev pub answer_or : Form → Form
answer_or f = alt (rule Proved) (alt (rule No) (alt (rule ZeroDenominator) (alt (rule NoneUpTo) (alt (rule GaveUp)
    (alt (rule Stopped) f)))))

-- a step, a declaration or a goal
abbrev pub step_or : Format → Form
step_or format = alt (rule (Step format)) body

-- a line, or one of these
abbrev pub line_or : Format → Form
line_or format = alt (rule (Line format)) (step_or format)

-- what may stand at a place, without its `.`: beside declarations and goals nothing in a file without answers and
-- where no goal was just before; an answer behind a goal; among lines a line or a step, and among steps a step, of
-- their format
abbrev pub said_at : Place → Form
said_at places.Plain = body
said_at places.Start = body
said_at places.AfterGoal = answer_or body
said_at places.Lines = line_or formats.One
said_at places.Steps = step_or formats.One
said_at places.LinesTwo = line_or formats.Two
said_at places.StepsTwo = step_or formats.Two

-- the constants of a certificate, if it has any
abbrev pub constants : Form
constants = opt (seq (word words.If) (separated signs.Comma Constant))

-- the monomial before a line number: the second format leaves the monomial 1 out
abbrev pub cofactor : Format → Form
cofactor formats.One = seq (rule Mono) (sign signs.Comma)
cofactor formats.Two = opt (seq (rule Factors) (sign signs.Comma))

-- the divisor: the second format leaves the divisor 1 out
abbrev pub divisor : Format → Form
divisor formats.One = seq (word words.Over) number
divisor formats.Two = option (kinds.Word words.Over)

-- statement = ( ring | sort | hom | vars | hyp | goal | what else may stand at the place ) "."
-- ring = "ring" NAME
-- sort = ( "domain" | "field" ) NAME [ "char" ZERO ]
-- hom = "hom" NAME ":" NAME "->" NAME
-- vars = "var" NAME { NAME } ":" NAME
-- hyp = "hyp" NAME ":" sum ( "=" | "<>" ) sum
-- goal = "goal" sum "=" sum "by" method
-- method = "nsatz" [ "using" use { "," use } ] [ "power" NUM ] [ "limit" NUM ] | "ring" | "field"
-- use = NAME [ "(" use ")" ]
-- sum = product { ( "+" | "-" ) product }
-- product = unary { ( "*" | "/" ) unary }
-- unary = "-" unary | power
-- power = leaf [ "^" NUM ]
-- leaf = NUM | NAME [ "(" sum ")" ] | "(" sum ")"
--
-- atom = NAME [ "(" atom ")" ]
-- factor = atom [ "^" NUM ]
-- factors = factor { "*" factor }
-- mono = ONE | factors
-- int = "-" NUM | NUM
-- condition = sum "<>" ZERO
-- constant = NUM "<>" ZERO
-- conditional = "if" condition { "," condition }
-- certified = [ "version" NUM ] "power" NUM [ "if" constant { "," constant } ]
-- proved = "proved" [ conditional | certified ]
-- no = "no" "at" mono ":" int "and" int
-- zero denominator = "zero" "denominator" sum
-- none up to = "none" "up" "to" "power" NUM
-- gave up = "gave" "up" "after" NUM
-- stopped = "range" | "degree" | "atoms"
--
-- combined = NUM "minus" int "," mono "," NUM "over" NUM
-- line = "line" NUM "," mono "," combined
-- step = "step" combined
-- and in the second format
-- combined = NUM "minus" int "," [ factors "," ] NUM [ "over" NUM ]
-- line = "line" NUM "," [ factors "," ] combined
unfoldable pub grammar : Rule → Form
grammar (Statement place) = seq (said_at place) (sign signs.Dot)
grammar Ring = seq (word words.Ring) name
grammar Sort = seq (alt (word words.Domain) (word words.Field)) (seq name (opt (seq (word words.Char) zero)))
grammar Hom = seq (word words.Hom) (seq name (seq (sign signs.Colon) (seq name (seq (sign signs.Arrow) name))))
grammar Vars = seq (word words.Var) (seq name (seq (many name) (seq (sign signs.Colon) name)))
grammar Hyp = seq (word words.Hyp) (seq name (seq (sign signs.Colon) (seq (rule Sum) (seq (alt (sign signs.Equal)
    (sign signs.NotEqual)) (rule Sum)))))
grammar Goal = seq (word words.Goal) (seq (rule Sum) (seq (sign signs.Equal) (seq (rule Sum) (seq (word words.By)
    (rule Method)))))
grammar Method = alt (seq (word words.Nsatz) options) (alt (word words.Ring) (word words.Field))
grammar Use = seq name (opt (inside (rule Use)))
grammar Sum = chain Product signs.Plus signs.Minus
grammar Product = chain Unary signs.Star signs.Slash
grammar Unary = alt (seq (sign signs.Minus) (rule Unary)) (rule Power)
grammar Power = seq (rule Leaf) (opt (seq (sign signs.Caret) number))
grammar Leaf = alt number (alt (seq name (opt (inside (rule Sum)))) (inside (rule Sum)))
grammar Atom = seq name (opt (inside (rule Atom)))
grammar Factor = seq (rule Atom) (option (kinds.Sign signs.Caret))
grammar Factors = separated signs.Star Factor
grammar Mono = alt unit (rule Factors)
grammar Int = alt (seq (sign signs.Minus) number) number
grammar Condition = seq (rule Sum) (seq (sign signs.NotEqual) zero)
grammar Constant = seq number (seq (sign signs.NotEqual) zero)
grammar Conditional = seq (word words.If) (separated signs.Comma Condition)
grammar Certified = seq (option (kinds.Word words.Version)) (seq (word words.Power) (seq number constants))
grammar Proved = seq (word words.Proved) (opt (alt (rule Conditional) (rule Certified)))
grammar No = seq (word words.No) (seq (word words.At) (seq (rule Mono) (seq (sign signs.Colon) (seq (rule Int)
    (seq (word words.And) (rule Int))))))
grammar ZeroDenominator = seq (word words.Zero) (seq (word words.Denominator) (rule Sum))
grammar NoneUpTo = seq (word words.None) (seq (word words.Up) (seq (word words.To) (seq (word words.Power) number)))
grammar GaveUp = seq (word words.Gave) (seq (word words.Up) (seq (word words.After) number))
grammar Stopped = alt (word words.Range) (alt (word words.Degree) (word words.Atoms))
grammar (Combined format) = seq number (seq (word words.Minus) (seq (rule Int) (seq (sign signs.Comma) (seq
    (cofactor format) (seq number (divisor format))))))
grammar (Line format) = seq (word words.Line) (seq number (seq (sign signs.Comma) (seq (cofactor format) (rule
    (Combined format)))))
grammar (Step format) = seq (word words.Step) (rule (Combined format))

-- the tree is a derivation from the form
abbrev pub Fits : Form → Tree → Type 0
Fits (a k) (token t) = variant k ≡ code t
Fits (seq f g) (pair v w) = Fits f v × Fits g w
Fits (alt f g) (left v) = Fits f v
Fits (alt f g) (right v) = Fits g v
Fits (opt f) none = Unit {0}
Fits (opt f) (some v) = Fits f v
Fits (many f) end = Unit {0}
Fits (many f) (more v w) = Fits f v × Fits (many f) w
Fits (rule r) (node q v) = (r ≡ q) × Fits (grammar r) v
Fits _ _ = ⊥

-- some derivation begins with these tokens
abbrev pub IsBegun : Form → List Token → Type 0
IsBegun f ts = (v : Tree) × (more : List Token) × Fits f v × (spelled v ≡ ts ++ more)
