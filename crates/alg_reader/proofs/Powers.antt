-- The readers of negations and powers, one lemma for each way out.
use Rattle.std.proofs.Common.{List, refl, arith}
use Rattle.alg_tokens.specs.declared.token.Token.{Token}
use Rattle.alg_tokens.specs.declared.token.TokenKind.{TokenKind}
use Rattle.alg_tokens.specs.declared.token.TokenKind.TheVariants as kinds
use Rattle.alg_tokens.specs.declared.token.Sign.TheVariants as signs
use Rattle.alg_reader.specs.declared.raw.RawTerm.{RawTerm}
use Rattle.alg_reader.specs.declared.cursor.Fault.{Fault}
use Rattle.alg_reader.specs.Forms.{Unary, Power, Leaf, Form, a, seq, opt, rule, none}
use Rattle.alg_reader.specs.Grammar.{grammar, number}
use Rattle.alg_reader.specs.Ahead.{begins, goes_on, rule_goes_on, rule_begins, Starts, Lacks}
use Rattle.alg_reader.specs.Reading.{Takes, Fails}
use Rattle.alg_reader.specs.TermMeaning.{one, two, nothing, term}
use Rattle.alg_reader.specs.Meaning.{act}
use Rattle.alg_reader.specs.RawNodes.{opposite, power_of}
use Rattle.alg_reader.proofs.Ahead.{Disjoint}
use Rattle.alg_reader.proofs.ReadSequences.{takes_seq}
use Rattle.alg_reader.proofs.ReadChoices.{takes_left, takes_right, takes_some, takes_none}
use Rattle.alg_reader.proofs.ReadRows.{takes_rule}
use Rattle.alg_reader.proofs.Failing.{fails_first, fails_second, fails_left, fails_right, fails_some, fails_rule}
use Rattle.alg_reader.proofs.OneToken.{lacks_seq, starts_seq}

-- ---- unary

pub unary_apart : Disjoint (begins (seq (a (kinds.Sign signs.Minus)) (rule Unary))) (begins (rule Power))
unfolding rule_begins
unary_apart n h h' = grind arith

pub none_apart : (k : TokenKind) (f : Form) → Disjoint (goes_on (a k)) (begins f)
none_apart k f n h h' = cc

pub takes_minus : (ts mid rest : List Token) (m : Token) (t : RawTerm)
    → Takes (a (kinds.Sign signs.Minus)) ts mid (one m) → Takes (rule Unary) mid rest (term t)
    → Takes (rule Unary) ts rest (term (opposite m.start t))
unfolding grammar act
takes_minus ts mid rest m t p q =
    takes_rule Unary ts rest (two (one m) (term t)) (takes_left (seq (a (kinds.Sign signs.Minus)) (rule Unary))
    (rule Power) unary_apart refl refl ts rest _ (takes_seq (a (kinds.Sign signs.Minus)) (rule Unary)
    (none_apart (kinds.Sign signs.Minus) (rule Unary)) ts mid rest _ _ p q))

pub fails_minus : (ts mid : List Token) (m : Token) (e : Fault) → Starts (a (kinds.Sign signs.Minus)) ts
    → Takes (a (kinds.Sign signs.Minus)) ts mid (one m) → Fails (rule Unary) mid e → Fails (rule Unary) ts e
unfolding grammar
fails_minus ts mid m e s p h =
    fails_rule Unary ts e (fails_left (seq (a (kinds.Sign signs.Minus)) (rule Unary))
    (rule Power) unary_apart refl refl ts e (starts_seq (a (kinds.Sign signs.Minus)) (rule Unary) ts s)
    (fails_second (a (kinds.Sign signs.Minus)) (rule Unary) (none_apart (kinds.Sign signs.Minus)
    (rule Unary)) ts mid _ p e h))

pub takes_unsigned : (ts rest : List Token) (t : RawTerm) → Lacks (a (kinds.Sign signs.Minus)) ts
    → Takes (rule Power) ts rest (term t) → Takes (rule Unary) ts rest (term t)
unfolding grammar act
takes_unsigned ts rest t s p = takes_rule Unary ts rest (term t) (takes_right (seq (a (kinds.Sign signs.Minus))
    (rule Unary)) (rule Power) unary_apart refl refl ts rest _ p)

pub fails_unsigned : (ts : List Token) (e : Fault) → Lacks (a (kinds.Sign signs.Minus)) ts
    → Fails (rule Power) ts e → Fails (rule Unary) ts e
unfolding grammar
fails_unsigned ts e s h = fails_rule Unary ts e (fails_right (seq (a (kinds.Sign signs.Minus)) (rule Unary))
    (rule Power) unary_apart refl refl ts e (lacks_seq (a (kinds.Sign signs.Minus)) (rule Unary) ts refl s) h)

-- ---- power

pub power_apart : Disjoint (goes_on (rule Leaf)) (begins (opt (seq (a (kinds.Sign signs.Caret)) number)))
unfolding rule_goes_on
power_apart n h h' = grind arith

exponent_apart : Disjoint (goes_on (a (kinds.Sign signs.Caret))) (begins number)
exponent_apart = none_apart (kinds.Sign signs.Caret) number

pub takes_base : (ts rest : List Token) (t : RawTerm) → Takes (rule Leaf) ts rest (term t)
    → Lacks (a (kinds.Sign signs.Caret)) rest → Takes (rule Power) ts rest (term t)
unfolding grammar act
takes_base ts rest t p s =
    takes_rule Power ts rest (two (term t) nothing) (takes_seq (rule Leaf) (opt (seq (a
    (kinds.Sign signs.Caret)) number)) power_apart ts rest rest _ _ p (takes_none (seq (a
    (kinds.Sign signs.Caret)) number) refl rest (lacks_seq (a (kinds.Sign signs.Caret)) number rest refl s)))

pub takes_power : (ts mid mid' rest : List Token) (t : RawTerm) (c n : Token) → Takes (rule Leaf) ts mid (term t)
    → Takes (a (kinds.Sign signs.Caret)) mid mid' (one c) → Takes number mid' rest (one n)
    → Takes (rule Power) ts rest (term (power_of c t n))
unfolding grammar act
takes_power ts mid mid' rest t c n p q r =
    takes_rule Power ts rest (two (term t) (two (one c) (one n))) (takes_seq (rule Leaf) (opt (seq (a
    (kinds.Sign signs.Caret)) number)) power_apart ts mid rest _ _ p
    (takes_some (seq (a (kinds.Sign signs.Caret)) number) refl mid rest _ (takes_seq (a
    (kinds.Sign signs.Caret)) number exponent_apart mid mid' rest _ _ q r)))

pub fails_base : (ts : List Token) (e : Fault) → Fails (rule Leaf) ts e → Fails (rule Power) ts e
unfolding grammar
fails_base ts e h = fails_rule Power ts e (fails_first (rule Leaf) (opt (seq (a
    (kinds.Sign signs.Caret)) number)) power_apart (none, tt) ts e h)

pub fails_exponent : (ts mid mid' : List Token) (t : RawTerm) (c : Token) (e : Fault)
    → Takes (rule Leaf) ts mid (term t) → Starts (a (kinds.Sign signs.Caret)) mid
    → Takes (a (kinds.Sign signs.Caret)) mid mid' (one c) → Fails number mid' e → Fails (rule Power) ts e
unfolding grammar
fails_exponent ts mid mid' t c e p s q h =
    fails_rule Power ts e (fails_second (rule Leaf) (opt (seq (a
    (kinds.Sign signs.Caret)) number)) power_apart ts mid _ p e
    (fails_some (seq (a (kinds.Sign signs.Caret)) number) refl mid e (starts_seq (a
    (kinds.Sign signs.Caret)) number mid s) (fails_second (a
    (kinds.Sign signs.Caret)) number exponent_apart mid mid' _ q e h)))
