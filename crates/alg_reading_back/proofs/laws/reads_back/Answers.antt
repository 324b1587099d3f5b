use Rattle.alg_reading_back.proofs.Readings as law
use Rattle.alg_reading_back.proofs.laws.reads_back.Goals as goal

pub returns : goal.returns
returns c = law.reads_back c.cut_from_anywhere.ensures
