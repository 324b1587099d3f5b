use Rattle.alg_reader.proofs.Held.{plain_said}
use Rattle.alg_reader.proofs.statements.plain.Goals as goal

pub returns : goal.returns
returns c = plain_said c.args.kind c.requires
