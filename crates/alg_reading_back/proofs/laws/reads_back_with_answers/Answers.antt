use Rattle.alg_reading_back.proofs.AnsweredLaws as law
use Rattle.alg_reading_back.proofs.laws.reads_back_with_answers.Goals as goal

pub returns : goal.returns
returns c = law.reads_back_with_answers c.cut_from_anywhere.ensures
