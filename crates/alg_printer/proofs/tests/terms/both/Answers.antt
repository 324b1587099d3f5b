use Rattle.std.proofs.Common.{sym, subst}
use Rattle.alg_printer.specs.Examples.{IsOfLetters}
use Rattle.alg_printer.proofs.Letters.{sum, difference, product, quotient}
use Rattle.alg_printer.proofs.tests.terms.both.Goals as goal

-- both parts are over the letters
pub returns-in-43 : goal.returns-in-43
returns-in-43 c =
    sum _ _ (subst IsOfLetters (sym c.in_ok-left.ensures) c.requires.left)
    (subst IsOfLetters (sym c.in_ok-right.ensures) c.requires.right)

pub returns-in-45 : goal.returns-in-45
returns-in-45 c =
    difference _ _ (subst IsOfLetters (sym c.in_ok-left.ensures) c.requires.left)
    (subst IsOfLetters (sym c.in_ok-right.ensures) c.requires.right)

pub returns-in-42 : goal.returns-in-42
returns-in-42 c =
    product _ _ (subst IsOfLetters (sym c.in_ok-left.ensures) c.requires.left)
    (subst IsOfLetters (sym c.in_ok-right.ensures) c.requires.right)

pub returns-in_default : goal.returns-in_default
returns-in_default c =
    quotient _ _ (subst IsOfLetters (sym c.in_ok-left.ensures) c.requires.left)
    (subst IsOfLetters (sym c.in_ok-right.ensures) c.requires.right)
