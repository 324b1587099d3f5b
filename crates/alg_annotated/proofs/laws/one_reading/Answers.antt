use Rattle.alg_typing.proofs.OneReading as law
use Rattle.alg_annotated.specs.Reading.{annotated_way, nothing_yet}
use Rattle.alg_annotated.proofs.laws.one_reading.Goals as goal

pub returns : goal.returns
returns c = λ bytes one other h k.
    law.one_reading_by c.one_outcome.ensures (annotated_way bytes) nothing_yet bytes one other h k
