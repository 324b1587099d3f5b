use Rattle.std.proofs.Common.{lit<}
use Rattle.alg_printer.proofs.Letters.{letter}
use Rattle.alg_printer.proofs.tests.terms.z.Goals as goal

pub returns : goal.returns
returns c = letter 2 (lit< tt)
