use Rattle.std.proofs.Common.{lit<}
use Rattle.alg_printer.proofs.Letters.{letter}
use Rattle.alg_printer.proofs.tests.terms.y.Goals as goal

pub returns : goal.returns
returns c = letter 1 (lit< tt)
