use Rattle.alg_terms.proofs.SmallFile.{small_is_valid}
use Rattle.alg_terms.proofs.tests.the_small_file_is_valid.Goals as goal

pub returns : goal.returns
returns c = small_is_valid
