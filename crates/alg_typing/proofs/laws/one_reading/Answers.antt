use Rattle.alg_typing.proofs.OneReading as law
use Rattle.alg_typing.proofs.laws.one_reading.Goals as goal

pub returns : goal.returns
returns c = law.one_reading c.one_outcome.ensures
