-- Readers of choices, and of the parts of statements.
use Rattle.std.proofs.Common.{◌≡◌, ◌≢◌, false, List, sym, ◌∙◌, arith, eqb-true, Result, Ok, Err}
use Rattle.alg_tokens.specs.declared.token.Token.{Token}
use Rattle.alg_tokens.specs.declared.token.TokenKind.{TokenKind}
use Rattle.alg_tokens.specs.declared.token.TokenKind.TheVariants as kinds
use Rattle.alg_tokens.specs.declared.token.Word.TheVariants as words
use Rattle.alg_tokens.specs.declared.token.Sign.TheVariants as signs
use Rattle.alg_reader.specs.declared.cursor.Fault.{Fault}
use Rattle.alg_reader.specs.Kinds.{variant}
use Rattle.alg_reader.specs.Forms.{Form, a, seq, alt, many, rule, Method, Sum}
use Rattle.alg_reader.specs.Grammar.{word, option, using, options}
use Rattle.alg_reader.specs.TermMeaning.{Value}
use Rattle.alg_reader.specs.Ahead.{nullable, begins, goes_on, rule_goes_on, rule_begins, Starts, Lacks}
use Rattle.alg_reader.specs.Reading.{Reads, ReadsKept}
use Rattle.alg_reader.proofs.Ahead.{Disjoint}
use Rattle.alg_reader.proofs.ReadChoices.{takes_left, takes_right}
use Rattle.alg_reader.proofs.Failing.{fails_left, fails_right}

-- two kinds of tokens
pub kinds_apart : (k l : TokenKind) → variant k ≢ variant l → Disjoint (begins (a k)) (begins (a l))
kinds_apart k l differ n h h' = differ (eqb-true (variant k) n h ∙ sym (eqb-true (variant l) n h'))

pub left_kept : {X Y : Type 0} (f g : Form) (keep : Y → X) (view : Y → Value) (ts new : List Token)
    (r : Result X Fault) → Disjoint (begins f) (begins g) → nullable f ≡ false → nullable g ≡ false
    → Starts f ts → ReadsKept f keep view ts r new → ReadsKept (alt f g) keep view ts r new
left_kept f g keep view ts new (Ok x) apart full more starts h = (
  h.0,
  h.1,
  takes_left f g apart full more ts new (view h.0) h.2,
)
left_kept f g keep view ts new (Err e) apart full more starts h = fails_left f g apart full more ts e starts h

pub right_kept : {X Y : Type 0} (f g : Form) (keep : Y → X) (view : Y → Value) (ts new : List Token)
    (r : Result X Fault) → Disjoint (begins f) (begins g) → nullable f ≡ false → nullable g ≡ false
    → Lacks f ts → ReadsKept g keep view ts r new → ReadsKept (alt f g) keep view ts r new
right_kept f g keep view ts new (Ok x) apart full more lacks h = (
  h.0,
  h.1,
  takes_right f g apart full more ts new (view h.0) h.2,
)
right_kept f g keep view ts new (Err e) apart full more lacks h = fails_right f g apart full more ts e lacks h

pub right_read : {X : Type 0} (f g : Form) (view : X → Value) (ts new : List Token) (r : Result X Fault)
    → Disjoint (begins f) (begins g) → nullable f ≡ false → nullable g ≡ false
    → Lacks f ts → Reads g view ts r new → Reads (alt f g) view ts r new
right_read f g view ts new (Ok x) apart full more lacks h = takes_right f g apart full more ts new (view x) h
right_read f g view ts new (Err e) apart full more lacks h = fails_right f g apart full more ts e lacks h

-- ---- what may stand between the parts

pub relation_apart : Disjoint (goes_on (alt (a (kinds.Sign signs.Equal)) (a (kinds.Sign signs.NotEqual)))) (begins
    (rule Sum))
relation_apart n h h' = cc

pub sum_then_relation : Disjoint (goes_on (rule Sum)) (begins (seq (alt (a (kinds.Sign signs.Equal)) (a
    (kinds.Sign signs.NotEqual))) (rule Sum)))
unfolding rule_goes_on
sum_then_relation n h h' = grind arith

pub sum_then_equal : Disjoint (goes_on (rule Sum)) (begins (seq (a (kinds.Sign signs.Equal)) (seq (rule Sum) (seq
    (word words.By) (rule Method)))))
unfolding rule_goes_on
sum_then_equal n h h' = grind arith

pub sum_then_by : Disjoint (goes_on (rule Sum)) (begins (seq (word words.By) (rule Method)))
unfolding rule_goes_on
sum_then_by n h h' = grind arith

-- ---- the method of a goal

pub nsatz_apart : Disjoint (begins (seq (word words.Nsatz) options)) (begins (alt (word words.Ring) (word words.Field)))
nsatz_apart n h h' = grind arith

pub options_apart : Disjoint (goes_on (word words.Nsatz)) (begins options)
options_apart n h h' = cc

pub using_apart : Disjoint (goes_on using) (begins (seq (option (kinds.Word words.Power))
    (option (kinds.Word words.Limit))))
unfolding rule_goes_on rule_begins
using_apart n h h' = grind arith

pub power_apart : Disjoint (goes_on (option (kinds.Word words.Power))) (begins (option (kinds.Word words.Limit)))
power_apart n h h' = grind arith

-- ---- statements

pub names_then_colon : Disjoint (goes_on (many (a kinds.Name))) (begins (seq (a (kinds.Sign signs.Colon))
    (a kinds.Name)))
names_then_colon n h h' = grind arith
