-- One token ahead decides in each rule of the grammar.
use Rattle.std.proofs.Common.{refl, arith}
use Rattle.alg_tokens.specs.declared.token.TokenKind.TheVariants as kinds
use Rattle.alg_tokens.specs.declared.token.Sign.TheVariants as signs
use Rattle.alg_tokens.specs.declared.token.Word.TheVariants as words
use Rattle.alg_reader.specs.Forms as rules
use Rattle.alg_reader.specs.Forms.{Rule, seq, alt, opt, many, rule}
use Rattle.alg_reader.specs.Grammar.{grammar, zero, number, word, sign, separated, constants, cofactor, divisor}
use Rattle.alg_reader.proofs.Powers.{unary_apart, power_apart}
use Rattle.alg_reader.proofs.Leaves.{number_apart, name_apart}
use Rattle.alg_reader.proofs.Turns.{sum_apart, product_apart, sum_turn_apart, product_turn_apart}
use Rattle.alg_reader.proofs.Choices.{relation_apart, sum_then_relation, sum_then_equal, sum_then_by, nsatz_apart, using_apart, power_apart as limit_apart, names_then_colon}
use Rattle.alg_reader.proofs.AnswerChoices.{atom_then_close, atom_then_exponent, factor_then_star, star_apart, mono_apart, int_apart, int_ends, number_ends, sum_then_unequal, condition_ends, condition_again, version_then_power, conditional_apart, mono_then_colon, cofactor_then_number, cofactor_then_combined, said_then_dot}
use Rattle.alg_reader.proofs.GoodParts.{IsGood, good_token, good_number, good_option, good_using, good_sum_inside, good_use_inside, good_said, good_constants, good_cofactor, good_divisor}

pub good_grammar : (r : Rule) → IsGood (grammar r)
unfolding grammar
good_grammar (rules.Statement place) = (good_said place, tt, said_then_dot place)
good_grammar rules.Ring = (tt, tt, λ n h h'. cc)
good_grammar rules.Sort = (
  (tt, tt, refl, refl, λ n h h'. grind arith),
  good_token kinds.Name (opt (seq (word words.Char) zero)) ((tt, tt, λ n h h'. cc), refl),
  λ n h h'. cc,
)
good_grammar rules.Hom = (
  tt,
  (
    tt,
    (
      tt,
      (
        tt,
        (tt, tt, λ n h h'. cc),
        λ n h h'. cc,
      ),
      λ n h h'. cc,
    ),
    λ n h h'. cc,
  ),
  λ n h h'. cc,
)
good_grammar rules.Vars = (
  tt,
  (
    tt,
    (
      (tt, refl, λ n h h'. cc),
      (tt, tt, λ n h h'. cc),
      names_then_colon,
    ),
    λ n h h'. cc,
  ),
  λ n h h'. cc,
)
good_grammar rules.Hyp = (
  tt,
  (
    tt,
    (
      tt,
      (
        tt,
        (
          (tt, tt, refl, refl, λ n h h'. grind arith),
          tt,
          relation_apart,
        ),
        sum_then_relation,
      ),
      λ n h h'. cc,
    ),
    λ n h h'. cc,
  ),
  λ n h h'. cc,
)
good_grammar rules.Goal = (
  tt,
  (
    tt,
    (
      tt,
      (
        tt,
        (tt, tt, λ n h h'. cc),
        sum_then_by,
      ),
      λ n h h'. cc,
    ),
    sum_then_equal,
  ),
  λ n h h'. cc,
)
good_grammar rules.Method = (
  (
    tt,
    (
      good_using,
      (good_option (kinds.Word words.Power), good_option (kinds.Word words.Limit), limit_apart),
      using_apart,
    ),
    λ n h h'. cc,
  ),
  (tt, tt, refl, refl, λ n h h'. grind arith),
  refl,
  refl,
  nsatz_apart,
)
good_grammar rules.Use = (tt, (good_use_inside, refl), λ n h h'. cc)
good_grammar rules.Sum = (
  tt,
  (((tt, tt, refl, refl, λ n h h'. grind arith), tt, λ n h h'. cc), refl, sum_turn_apart),
  sum_apart,
)
good_grammar rules.Product = (
  tt,
  (((tt, tt, refl, refl, λ n h h'. grind arith), tt, λ n h h'. cc), refl, product_turn_apart),
  product_apart,
)
good_grammar rules.Unary = ((tt, tt, λ n h h'. cc), tt, refl, refl, unary_apart)
good_grammar rules.Power = (tt, ((tt, good_number, λ n h h'. cc), refl), power_apart)
good_grammar rules.Leaf = (
  good_number,
  ((tt, (good_sum_inside, refl), λ n h h'. cc), good_sum_inside, refl, refl, name_apart),
  refl,
  refl,
  number_apart,
)
good_grammar rules.Atom = (
  tt,
  (
    good_token (kinds.Sign signs.ParenLeft) (seq (rule rules.Atom)
        (sign signs.ParenRight)) (tt, tt, atom_then_close),
    refl,
  ),
  λ n h h'. cc,
)
good_grammar rules.Factor = (tt, good_option (kinds.Sign signs.Caret), atom_then_exponent)
good_grammar rules.Factors = (
  tt,
  (good_token (kinds.Sign signs.Star) (rule rules.Factor) tt, refl, star_apart),
  factor_then_star,
)
good_grammar rules.Mono = (tt, tt, refl, refl, mono_apart)
good_grammar rules.Int = (good_token (kinds.Sign signs.Minus) number good_number, good_number, refl, refl, int_apart)
good_grammar rules.Condition = (tt, good_token (kinds.Sign signs.NotEqual) zero tt, sum_then_unequal)
good_grammar rules.Constant = (good_number, good_token (kinds.Sign signs.NotEqual) zero tt, λ n h h'. cc)
good_grammar rules.Conditional = good_token (kinds.Word words.If) (separated signs.Comma rules.Condition) (
  tt,
  (good_token (kinds.Sign signs.Comma) (rule rules.Condition) tt, refl, condition_again),
  condition_ends (many (seq (sign signs.Comma) (rule rules.Condition))),
)
good_grammar rules.Certified = (
  good_option (kinds.Word words.Version),
  good_token (kinds.Word words.Power) (seq number constants) (good_number, good_constants, number_ends constants),
  version_then_power,
)
good_grammar rules.Proved = good_token (kinds.Word words.Proved) (opt (alt (rule rules.Conditional)
    (rule rules.Certified))) ((tt, tt, refl, refl, conditional_apart), refl)
good_grammar rules.No = (
  tt,
  (
    tt,
    (
      tt,
      (tt, (tt, (tt, tt, λ n h h'. cc), int_ends (seq (word words.And) (rule rules.Int))), λ n h h'. cc),
      mono_then_colon,
    ),
    λ n h h'. cc,
  ),
  λ n h h'. cc,
)
good_grammar rules.ZeroDenominator = (tt, (tt, tt, λ n h h'. cc), λ n h h'. cc)
good_grammar rules.NoneUpTo = (
  tt,
  (tt, (tt, (tt, good_number, λ n h h'. cc), λ n h h'. cc), λ n h h'. cc),
  λ n h h'. cc,
)
good_grammar rules.GaveUp = (tt, (tt, (tt, good_number, λ n h h'. cc), λ n h h'. cc), λ n h h'. cc)
good_grammar rules.Stopped = (tt, (tt, tt, refl, refl, λ n h h'. grind arith), refl, refl, λ n h h'. grind arith)
good_grammar (rules.Combined format) = (
  good_number,
  (
    tt,
    (
      tt,
      (
        tt,
        (
          good_cofactor format,
          (good_number, good_divisor format, number_ends (divisor format)),
          cofactor_then_number format,
        ),
        λ n h h'. cc,
      ),
      int_ends (seq (sign signs.Comma) (seq (cofactor format) (seq number (divisor format)))),
    ),
    λ n h h'. cc,
  ),
  λ n h h'. cc,
)
good_grammar (rules.Line format) = (
  tt,
  (
    good_number,
    (tt, (good_cofactor format, tt, cofactor_then_combined format), λ n h h'. cc),
    λ n h h'. cc,
  ),
  λ n h h'. cc,
)
good_grammar (rules.Step format) = (tt, tt, λ n h h'. cc)
