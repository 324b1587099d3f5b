use Rattle.alg_mono.proofs.AtNumbers.{grevlex_is_its_words}
use Rattle.alg_mono.proofs.laws.grevlex_is_its_words.Goals as goal

pub returns : goal.returns
returns c = grevlex_is_its_words
