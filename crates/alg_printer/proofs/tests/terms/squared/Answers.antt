use Rattle.std.proofs.Common.{sym, subst}
use Rattle.alg_printer.specs.Examples.{IsOfLetters}
use Rattle.alg_printer.proofs.Letters.{power}
use Rattle.alg_printer.proofs.tests.terms.squared.Goals as goal

-- the base is over the letters
pub returns : goal.returns
returns c = power _ 2 (subst IsOfLetters (sym c.in_ok-new.ensures) c.requires)
