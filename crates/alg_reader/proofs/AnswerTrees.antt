-- Derivations from the rules of answers, of lines and of steps.
use Rattle.std.proofs.Common.{pos}
use Rattle.alg_tokens.specs.declared.token.TokenKind.TheVariants as kinds
use Rattle.alg_tokens.specs.declared.token.Word.TheVariants as words
use Rattle.alg_tokens.specs.declared.token.Sign.TheVariants as signs
use Rattle.alg_reader.specs.declared.format.Format.{Format}
use Rattle.alg_reader.specs.declared.format.Format.TheVariants as formats
use Rattle.alg_reader.specs.Forms as rules
use Rattle.alg_reader.specs.Forms.{rule, token, pair, left, right, none, end}
use Rattle.alg_reader.specs.Grammar.{grammar, number, cofactor, divisor}
use Rattle.alg_reader.proofs.ReadSequences.{an, an-code}
use Rattle.alg_reader.proofs.BodyTrees.{Derived, word, both, by_rule, sum_tree}

pub number_tree : Derived number
number_tree = (left (token (an (kinds.Number (pos 0)))), an-code (kinds.Number (pos 0)))

pub atom_tree : Derived (rule rules.Atom)
unfolding grammar
atom_tree = by_rule rules.Atom (pair (token (an kinds.Name)) none, (an-code kinds.Name, tt))

pub factor_tree : Derived (rule rules.Factor)
unfolding grammar
factor_tree = by_rule rules.Factor (pair atom_tree.0 none, (atom_tree.1, tt))

pub factors_tree : Derived (rule rules.Factors)
unfolding grammar
factors_tree = by_rule rules.Factors (pair factor_tree.0 end, (factor_tree.1, tt))

pub mono_tree : Derived (rule rules.Mono)
unfolding grammar
mono_tree = by_rule rules.Mono (right factors_tree.0, factors_tree.1)

pub int_tree : Derived (rule rules.Int)
unfolding grammar
int_tree = by_rule rules.Int (right number_tree.0, number_tree.1)

pub condition_tree : Derived (rule rules.Condition)
unfolding grammar
condition_tree = by_rule rules.Condition (both _ _ sum_tree (both _ _ (word (kinds.Sign signs.NotEqual)) (word
    (kinds.Number (pos 0)))))

pub constant_tree : Derived (rule rules.Constant)
unfolding grammar
constant_tree = by_rule rules.Constant (both _ _ number_tree (both _ _ (word (kinds.Sign signs.NotEqual)) (word
    (kinds.Number (pos 0)))))

pub conditional_tree : Derived (rule rules.Conditional)
unfolding grammar
conditional_tree = by_rule rules.Conditional (both _ _ (word (kinds.Word words.If)) (
  pair condition_tree.0 end,
  (
    condition_tree.1,
    tt,
  ),
))

pub certified_tree : Derived (rule rules.Certified)
unfolding grammar
certified_tree = by_rule rules.Certified (both _ _ (none, tt) (both _ _ (word (kinds.Word words.Power)) (both _ _
    number_tree (none, tt))))

pub proved_tree : Derived (rule rules.Proved)
unfolding grammar
proved_tree = by_rule rules.Proved (both _ _ (word (kinds.Word words.Proved)) (none, tt))

pub no_tree : Derived (rule rules.No)
unfolding grammar
no_tree = by_rule rules.No (both _ _ (word (kinds.Word words.No)) (both _ _ (word (kinds.Word words.At)) (both _ _
    mono_tree (both _ _ (word (kinds.Sign signs.Colon)) (both _ _ int_tree (both _ _ (word
    (kinds.Word words.And)) int_tree))))))

pub zero_tree : Derived (rule rules.ZeroDenominator)
unfolding grammar
zero_tree = by_rule rules.ZeroDenominator (both _ _ (word (kinds.Word words.Zero)) (both _ _ (word
    (kinds.Word words.Denominator)) sum_tree))

pub none_up_to_tree : Derived (rule rules.NoneUpTo)
unfolding grammar
none_up_to_tree = by_rule rules.NoneUpTo (both _ _ (word (kinds.Word words.None)) (both _ _ (word
    (kinds.Word words.Up)) (both _ _ (word (kinds.Word words.To))
    (both _ _ (word (kinds.Word words.Power)) number_tree))))

pub gave_up_tree : Derived (rule rules.GaveUp)
unfolding grammar
gave_up_tree = by_rule rules.GaveUp (both _ _ (word (kinds.Word words.Gave)) (both _ _ (word (kinds.Word words.Up))
    (both _ _ (word (kinds.Word words.After)) number_tree)))

pub stopped_tree : Derived (rule rules.Stopped)
unfolding grammar
stopped_tree = by_rule rules.Stopped (left (token (an (kinds.Word words.Range))), an-code (kinds.Word words.Range))

pub cofactor_tree : (format : Format) → Derived (cofactor format)
cofactor_tree formats.One = both _ _ mono_tree (word (kinds.Sign signs.Comma))
cofactor_tree formats.Two = (none, tt)

pub divisor_tree : (format : Format) → Derived (divisor format)
divisor_tree formats.One = both _ _ (word (kinds.Word words.Over)) number_tree
divisor_tree formats.Two = (none, tt)

pub combined_tree : (format : Format) → Derived (rule (rules.Combined format))
unfolding grammar
combined_tree format = by_rule (rules.Combined format) (both _ _ number_tree (both _ _ (word
    (kinds.Word words.Minus)) (both _ _ int_tree (both _ _ (word (kinds.Sign signs.Comma)) (both _ _
    (cofactor_tree format) (both _ _ number_tree (divisor_tree format)))))))

pub line_tree : (format : Format) → Derived (rule (rules.Line format))
unfolding grammar
line_tree format = by_rule (rules.Line format) (both _ _ (word (kinds.Word words.Line)) (both _ _ number_tree
    (both _ _ (word (kinds.Sign signs.Comma)) (both _ _ (cofactor_tree format) (combined_tree format)))))

pub step_tree : (format : Format) → Derived (rule (rules.Step format))
unfolding grammar
step_tree format = by_rule (rules.Step format) (both _ _ (word (kinds.Word words.Step)) (combined_tree format))
