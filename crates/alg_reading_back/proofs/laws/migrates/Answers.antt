use Rattle.alg_reading_back.proofs.AnsweredLaws as law
use Rattle.alg_reading_back.proofs.laws.migrates.Goals as goal

pub returns : goal.returns
returns c = law.migrates c.cut_from_anywhere.ensures
