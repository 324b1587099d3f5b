-- A sequence with numerals and integers, read part by part.
use Rattle.std.proofs.Common.{List}
use Rattle.alg_tokens.specs.declared.token.Token.{Token}
use Rattle.alg_reader.specs.declared.cursor.Fault.{Fault}
use Rattle.alg_reader.specs.Forms as rules
use Rattle.alg_reader.specs.Forms.{Form, seq, rule}
use Rattle.alg_reader.specs.Grammar.{number}
use Rattle.alg_reader.specs.Reading.{Takes, Fails, Owes}
use Rattle.alg_reader.specs.TermMeaning.{Value, two}
use Rattle.alg_reader.proofs.Sequences.{owes_less, owes_fails}
use Rattle.alg_reader.proofs.AnswerChoices.{number_ends, int_ends}

-- a numeral was read
pub owes_number : {f h : Form} {old now mid : List Token} {before : Value → Value} {x : Value}
    → Owes f (seq number h) old now before → Takes number now mid x → Owes f h old mid (λ y. before (two x y))
owes_number {h = h} o p = owes_less (number_ends h) o p

-- a numeral fails
pub fails_number : {f h : Form} {old now : List Token} {before : Value → Value} (e : Fault)
    → Owes f (seq number h) old now before → Fails number now e → Fails f old e
fails_number {h = h} e o q = owes_fails e (number_ends h) o q

-- an integer was read
pub owes_int : {f h : Form} {old now mid : List Token} {before : Value → Value} {x : Value}
    → Owes f (seq (rule rules.Int) h) old now before → Takes (rule rules.Int) now mid x
    → Owes f h old mid (λ y. before (two x y))
owes_int {h = h} o p = owes_less (int_ends h) o p

-- an integer fails
pub fails_int : {f h : Form} {old now : List Token} {before : Value → Value} (e : Fault)
    → Owes f (seq (rule rules.Int) h) old now before → Fails (rule rules.Int) now e → Fails f old e
fails_int {h = h} e o q = owes_fails e (int_ends h) o q
