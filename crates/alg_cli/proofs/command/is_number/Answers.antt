use Rattle.std.proofs.Common.{sym, ◌∙◌}
use Rattle.alg_cli.proofs.Numbers.{first_is_not_zero, not_all_digits}
use Rattle.alg_cli.proofs.command.is_number.Goals as goal

-- the word is made of digits
pub returns-then-first-ne48 : goal.returns-then-first-ne48
returns-then-first-ne48 c =
    first_is_not_zero c.args.word.now c.in-len1-up.len_at_least (sym c.are_digits.ensures ∙ c.if-are_digits.true)
    c.if-first-ne48.true

-- the word is not
pub returns-else-are_digits : goal.returns-else-are_digits
returns-else-are_digits c =
    c.if-are_digits.false
    ∙ not_all_digits c.args.word.now c.in-len1-up.len_at_least (sym c.are_digits.ensures ∙ c.if-are_digits.false)
