-- A name, or a name before something of the same kind in parentheses.
use Rattle.std.proofs.Common.{List, refl}
use Rattle.alg_tokens.specs.declared.token.Token.{Token}
use Rattle.alg_tokens.specs.declared.token.TokenKind.TheVariants as kinds
use Rattle.alg_tokens.specs.declared.token.Sign.TheVariants as signs
use Rattle.alg_reader.specs.declared.cursor.Fault.{Fault}
use Rattle.alg_reader.specs.Forms.{Rule, Form, a, seq, opt, rule}
use Rattle.alg_reader.specs.Grammar.{inside, name}
use Rattle.alg_reader.specs.Ahead.{begins, goes_on, Starts, Lacks}
use Rattle.alg_reader.specs.Reading.{Takes, Fails}
use Rattle.alg_reader.specs.TermMeaning.{Value, one, two, nothing}
use Rattle.alg_reader.proofs.Ahead.{Disjoint}
use Rattle.alg_reader.proofs.ReadSequences.{takes_seq}
use Rattle.alg_reader.proofs.ReadChoices.{takes_some, takes_none}
use Rattle.alg_reader.proofs.Failing.{fails_first, fails_second, fails_some}
use Rattle.alg_reader.proofs.OneToken.{starts_seq, lacks_seq}
use Rattle.alg_reader.proofs.Sequences.{token_apart}
use Rattle.alg_reader.proofs.Trees.{some_tree}

-- the right side of such a rule
abbrev pub nested : Rule → Form
nested r = seq name (opt (inside (rule r)))

-- something with its closing parenthesis
abbrev closed : Rule → Form
closed r = seq (rule r) (a (kinds.Sign signs.ParenRight))

module _ (r : Rule) (ts : List Token) where
  pub nested_alone : (rest : List Token) (n : Token) → Takes (a kinds.Name) ts rest (one n)
      → Lacks (a (kinds.Sign signs.ParenLeft)) rest → Takes (nested r) ts rest (two (one n) nothing)
  nested_alone rest n p lacks =
      takes_seq (a kinds.Name) (opt (inside (rule r))) (token_apart kinds.Name (opt (inside (rule r)))) ts rest rest
      _ _ p
      (takes_none (inside (rule r)) refl rest (lacks_seq (a (kinds.Sign signs.ParenLeft)) (closed r) rest refl lacks))

  pub nested_no_name : (e : Fault) → Fails (a kinds.Name) ts e → Fails (nested r) ts e
  nested_no_name e h = fails_first (a kinds.Name) (opt (inside (rule r)))
      (token_apart kinds.Name (opt (inside (rule r))))
      (some_tree (opt (inside (rule r)))) ts e h

  module _ (close : Disjoint (goes_on (rule r)) (begins (a (kinds.Sign signs.ParenRight)))) (mid mid' : List Token)
      (n p : Token) (named : Takes (a kinds.Name) ts mid (one n)) (starts : Starts
      (a (kinds.Sign signs.ParenLeft)) mid) (opens : Takes (a (kinds.Sign signs.ParenLeft)) mid mid' (one p)) where
    pub nested_under : (mid'' rest : List Token) (q : Token) (v : Value) → Takes (rule r) mid' mid'' v
        → Takes (a (kinds.Sign signs.ParenRight)) mid'' rest (one q)
        → Takes (nested r) ts rest (two (one n) (two (one p) (two v (one q))))
    nested_under mid'' rest q v body closes =
        takes_seq (a kinds.Name) (opt (inside (rule r))) (token_apart kinds.Name (opt (inside (rule r)))) ts mid
        rest _ _
        named (takes_some (inside (rule r)) refl mid rest _
        (takes_seq (a (kinds.Sign signs.ParenLeft)) (closed r) (token_apart (kinds.Sign signs.ParenLeft)
        (closed r)) mid mid' rest _ _ opens
        (takes_seq (rule r) (a (kinds.Sign signs.ParenRight)) close mid' mid'' rest _ _ body closes)))

    -- what fails behind a parenthesis
    behind : (e : Fault) → Fails (closed r) mid' e → Fails (nested r) ts e
    behind e fails =
        fails_second (a kinds.Name) (opt (inside (rule r))) (token_apart kinds.Name (opt (inside (rule r)))) ts mid _
        named e (fails_some (inside (rule r)) refl mid e (starts_seq (a (kinds.Sign signs.ParenLeft))
        (closed r) mid starts) (fails_second (a (kinds.Sign signs.ParenLeft)) (closed r) (token_apart
        (kinds.Sign signs.ParenLeft) (closed r)) mid mid' _ opens e fails))

    pub nested_inner : (e : Fault) → Fails (rule r) mid' e → Fails (nested r) ts e
    nested_inner e fails = behind e (fails_first (rule r) (a (kinds.Sign signs.ParenRight)) close (some_tree
        (a (kinds.Sign signs.ParenRight))) mid' e fails)

    pub nested_unclosed : (mid'' : List Token) (v : Value) (e : Fault) → Takes (rule r) mid' mid'' v
        → Fails (a (kinds.Sign signs.ParenRight)) mid'' e → Fails (nested r) ts e
    nested_unclosed mid'' v e body fails = behind e (fails_second (rule r) (a (kinds.Sign signs.ParenRight)) close
        mid' mid''
        _ body e fails)
