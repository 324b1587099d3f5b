-- A sequence, read part by part.
use Rattle.std.proofs.Common.{List}
use Rattle.alg_tokens.specs.declared.token.Token.{Token}
use Rattle.alg_tokens.specs.declared.token.TokenKind.{TokenKind}
use Rattle.alg_reader.specs.declared.cursor.Fault.{Fault}
use Rattle.alg_reader.specs.Forms.{Rule, Form, a, seq, rule}
use Rattle.alg_reader.specs.Grammar.{grammar}
use Rattle.alg_reader.specs.Ahead.{begins, goes_on}
use Rattle.alg_reader.specs.Reading.{Takes, Fails, Owes}
use Rattle.alg_reader.specs.TermMeaning.{Value}
use Rattle.alg_reader.specs.TermMeaning.{two}
use Rattle.alg_reader.specs.Meaning.{act}
use Rattle.alg_reader.proofs.Ahead.{Disjoint}
use Rattle.alg_reader.proofs.ReadSequences.{takes_seq}
use Rattle.alg_reader.proofs.ReadRows.{takes_rule}
use Rattle.alg_reader.proofs.Failing.{fails_first, fails_second, fails_rule}
use Rattle.alg_reader.proofs.Trees.{some_tree}

-- all of a rule is left
pub owes_rule : (r : Rule) (ts : List Token) → Owes (rule r) (grammar r) ts ts (act r)
owes_rule r ts = record { takes = λ rest x p. takes_rule r ts rest x p; fails = λ e h. fails_rule r ts e h }

-- one part was read
pub owes_less : {f g h : Form} {old now mid : List Token} {before : Value → Value} {x : Value}
    → Disjoint (goes_on g) (begins h) → Owes f (seq g h) old now before → Takes g now mid x
    → Owes f h old mid (λ y. before (two x y))
owes_less apart o p = record {
  takes = λ rest y q. o.takes rest (two _ y) (takes_seq _ _ apart _ _ rest _ y p q);
  fails = λ e k. o.fails e (fails_second _ _ apart _ _ _ p e k);
}

-- a part fails
pub owes_fails : {f g h : Form} {old now : List Token} {before : Value → Value} (e : Fault)
    → Disjoint (goes_on g) (begins h) → Owes f (seq g h) old now before → Fails g now e → Fails f old e
owes_fails {h = h} {now = now} e apart o k = o.fails e (fails_first _ h apart (some_tree h) now e k)

-- after one token nothing goes on
pub token_apart : (k : TokenKind) (f : Form) → Disjoint (goes_on (a k)) (begins f)
token_apart k f n h h' = cc

-- a token was read
pub owes_token : {f h : Form} {k : TokenKind} {old now mid : List Token} {before : Value → Value} {x : Value}
    → Owes f (seq (a k) h) old now before → Takes (a k) now mid x → Owes f h old mid (λ y. before (two x y))
owes_token {h = h} {k = k} o p = owes_less (token_apart k h) o p

-- a token fails
pub fails_token : {f h : Form} {k : TokenKind} {old now : List Token} {before : Value → Value} (e : Fault)
    → Owes f (seq (a k) h) old now before → Fails (a k) now e → Fails f old e
fails_token {h = h} {k = k} e o q = owes_fails e (token_apart k h) o q
