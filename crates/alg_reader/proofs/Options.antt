-- The options of nsatz: uses, and the ways out of their readers.
use Rattle.std.proofs.Common.{◌≡◌, List, [], ◌∷◌, ◌++◌, refl, ap, sym, ◌∙◌, append_assoc, append-nil, arith, Result, Ok, Err}
use Rattle.alg_tokens.specs.declared.token.Token.{Token}
use Rattle.alg_tokens.specs.declared.token.TokenKind.TheVariants as kinds
use Rattle.alg_tokens.specs.declared.token.Sign.TheVariants as signs
use Rattle.alg_tokens.specs.declared.token.Word.TheVariants as words
use Rattle.alg_reader.specs.declared.cursor.Fault.{Fault}
use Rattle.alg_reader.specs.declared.raw.RawUse.{RawUse}
use Rattle.alg_reader.specs.declared.raw.Span.{Span}
use Rattle.alg_reader.specs.Forms.{Use, Form, a, seq, many, rule}
use Rattle.alg_reader.specs.Grammar.{grammar, word, using, inside}
use Rattle.alg_reader.specs.Meaning.{act}
use Rattle.alg_reader.specs.TermMeaning.{one, used}
use Rattle.alg_reader.specs.PartMeaning.{under, uses_of}
use Rattle.alg_reader.specs.RawNodes.{span_of}
use Rattle.alg_reader.specs.Ahead.{begins, goes_on, rule_goes_on, Starts, Lacks}
use Rattle.alg_reader.specs.Reading.{Takes, Fails, behind, ReadsAs, ReadsUses}
use Rattle.alg_reader.proofs.Ahead.{Disjoint}
use Rattle.alg_reader.proofs.ReadSequences.{takes_seq}
use Rattle.alg_reader.proofs.ReadChoices.{takes_some, takes_none}
use Rattle.alg_reader.proofs.Failing.{fails_first, fails_second, fails_some}
use Rattle.alg_reader.proofs.OneToken.{starts_seq, lacks_seq}
use Rattle.alg_reader.proofs.Sequences.{owes_rule, owes_token, fails_token, token_apart}
use Rattle.alg_reader.proofs.Trees.{some_tree}

pub use_then_close : Disjoint (goes_on (rule Use)) (begins (a (kinds.Sign signs.ParenRight)))
unfolding rule_goes_on
use_then_close n h h' = grind arith

-- a use without a morphism
pub takes_alone : (ts rest : List Token) (n : Token) → Takes (a kinds.Name) ts rest (one n)
    → Lacks (a (kinds.Sign signs.ParenLeft)) rest
    → Takes (rule Use) ts rest (used (record { path = []; hyp = span_of n }))
unfolding grammar act
takes_alone ts rest n p lacks =
    (owes_token (owes_rule Use ts) p).takes _ _ (takes_none (inside (rule Use)) refl rest (lacks_seq (a
    (kinds.Sign signs.ParenLeft)) (seq (rule Use) (a (kinds.Sign signs.ParenRight))) rest refl lacks))

-- a use under a morphism
pub takes_under : (ts mid mid' mid'' rest : List Token) (n p q : Token) (u : RawUse)
    → Takes (a kinds.Name) ts mid (one n) → Takes (a (kinds.Sign signs.ParenLeft)) mid mid' (one p)
    → Takes (rule Use) mid' mid'' (used u) → Takes (a (kinds.Sign signs.ParenRight)) mid'' rest (one q)
    → Takes (rule Use) ts rest (used (under (span_of n) u))
unfolding grammar act
takes_under ts mid mid' mid'' rest n p q u h opens body closes =
    (owes_token (owes_rule Use ts) h).takes _ _ (takes_some (inside (rule Use)) refl mid rest _
    (takes_seq (a (kinds.Sign signs.ParenLeft)) (seq (rule Use) (a (kinds.Sign signs.ParenRight))) (token_apart
    (kinds.Sign signs.ParenLeft) (seq (rule Use) (a (kinds.Sign signs.ParenRight)))) mid mid' rest _ _ opens
    (takes_seq (rule Use) (a (kinds.Sign signs.ParenRight)) use_then_close mid' mid'' rest _ _ body closes)))

pub fails_name : (ts : List Token) (e : Fault) → Fails (a kinds.Name) ts e → Fails (rule Use) ts e
unfolding grammar
fails_name ts e h = fails_token e (owes_rule Use ts) h

-- what fails behind a parenthesis
fails_behind : (ts mid mid' : List Token) (n p : Token) (e : Fault) → Takes (a kinds.Name) ts mid (one n)
    → Starts (a (kinds.Sign signs.ParenLeft)) mid → Takes (a (kinds.Sign signs.ParenLeft)) mid mid' (one p)
    → Fails (seq (rule Use) (a (kinds.Sign signs.ParenRight))) mid' e → Fails (rule Use) ts e
unfolding grammar
fails_behind ts mid mid' n p e h starts opens fails =
    (owes_token (owes_rule Use ts) h).fails e (fails_some (inside (rule Use)) refl mid e (starts_seq (a
    (kinds.Sign signs.ParenLeft)) (seq (rule Use) (a (kinds.Sign signs.ParenRight))) mid starts)
    (fails_second (a (kinds.Sign signs.ParenLeft)) (seq (rule Use) (a (kinds.Sign signs.ParenRight))) (token_apart
    (kinds.Sign signs.ParenLeft) (seq (rule Use) (a (kinds.Sign signs.ParenRight)))) mid mid' _ opens e fails))

pub fails_inner : (ts mid mid' : List Token) (n p : Token) (e : Fault) → Takes (a kinds.Name) ts mid (one n)
    → Starts (a (kinds.Sign signs.ParenLeft)) mid → Takes (a (kinds.Sign signs.ParenLeft)) mid mid' (one p)
    → Fails (rule Use) mid' e → Fails (rule Use) ts e
fails_inner ts mid mid' n p e h starts opens fails =
    fails_behind ts mid mid' n p e h starts opens (fails_first (rule Use) (a
    (kinds.Sign signs.ParenRight)) use_then_close (some_tree (a (kinds.Sign signs.ParenRight))) mid' e fails)

pub fails_closing : (ts mid mid' mid'' : List Token) (n p : Token) (u : RawUse) (e : Fault)
    → Takes (a kinds.Name) ts mid (one n) → Starts (a (kinds.Sign signs.ParenLeft)) mid
    → Takes (a (kinds.Sign signs.ParenLeft)) mid mid' (one p) → Takes (rule Use) mid' mid'' (used u)
    → Fails (a (kinds.Sign signs.ParenRight)) mid'' e → Fails (rule Use) ts e
fails_closing ts mid mid' mid'' n p u e h starts opens body fails =
    fails_behind ts mid mid' n p e h starts opens (fails_second (rule Use) (a
    (kinds.Sign signs.ParenRight)) use_then_close mid' mid'' _ body e fails)

-- a use without a morphism, behind those that were read
pub behind_alone : (path all : List Span) (name name' : Span) → all ≡ path → name ≡ name'
    → record { path = all; hyp = name } ≡ behind path (record { path = []; hyp = name' })
behind_alone path all name name' e e' = ap (λ names. record { path = names; hyp = name }) (e ∙ sym (append-nil path))
    ∙ ap (λ n. record { path = path ++ []; hyp = n }) e'

-- behind one more morphism
pub behind_more : (path longer : List Span) (name : Span) (u : RawUse) → longer ≡ path ++ name ∷ []
    → behind longer u ≡ behind path (under name u)
behind_more path longer name u e = ap (λ names. record { path = names; hyp = u.hyp })
    (ap (λ names. names ++ u.path) e ∙ append_assoc path (name ∷ []) u.path)

-- ---- what stands between the uses

pub comma_apart : Disjoint (goes_on (seq (a (kinds.Sign signs.Comma)) (rule Use))) (begins (seq (a
    (kinds.Sign signs.Comma)) (rule Use)))
unfolding rule_goes_on
comma_apart n h h' = grind arith

pub use_then_comma : Disjoint (goes_on (rule Use)) (begins (many (seq (a (kinds.Sign signs.Comma)) (rule Use))))
unfolding rule_goes_on
use_then_comma n h h' = grind arith

-- a further use, all uses, and these with their word
abbrev pub next_use : Form
next_use = seq (a (kinds.Sign signs.Comma)) (rule Use)

abbrev pub all_uses : Form
all_uses = seq (rule Use) (many next_use)

abbrev pub some_uses : Form
some_uses = seq (word words.Using) all_uses

pub fails_first_use : (ts mid : List Token) (w : Token) (e : Fault) → Starts (word words.Using) ts
    → Takes (word words.Using) ts mid (one w) → Fails (rule Use) mid e → Fails using ts e
fails_first_use ts mid w e starts here fails =
    fails_some some_uses refl ts e (starts_seq (word words.Using) all_uses ts starts)
    (fails_second (word words.Using) all_uses (token_apart (kinds.Word words.Using) all_uses) ts mid _ here e
    (fails_first (rule Use) (many next_use) use_then_comma (some_tree (many next_use)) mid e fails))

-- the uses behind the first one are all that is left
pub uses_read : (ts mid mid' new : List Token) (w : Token) (u : RawUse) (r : Result (List RawUse) Fault)
    → Starts (word words.Using) ts → Takes (word words.Using) ts mid (one w) → Takes (rule Use) mid mid' (used u)
    → ReadsUses u mid' r new → ReadsAs using uses_of ts r new
uses_read ts mid mid' new w u (Ok us) starts here first (v, e, p) = (
  _,
  e,
  takes_some some_uses refl ts new _ (takes_seq (word words.Using) all_uses
      (token_apart (kinds.Word words.Using) all_uses) ts mid new _ _ here
      (takes_seq (rule Use) (many next_use) use_then_comma mid mid' new _ _ first p)),
)
uses_read ts mid mid' new w u (Err e) starts here first h =
    fails_some some_uses refl ts e (starts_seq (word words.Using) all_uses ts starts)
    (fails_second (word words.Using) all_uses (token_apart (kinds.Word words.Using) all_uses) ts mid _ here e
    (fails_second (rule Use) (many next_use) use_then_comma mid mid' _ first e h))
