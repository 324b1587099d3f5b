use Rattle.std.proofs.Common.{◌==◌, arith}
use Rattle.std.proofs.lemmas.Bool.Decides.{nat_tests}
use Rattle.alg_terms.specs.Names.{reserved_words}
use Rattle.alg_tokens.proofs.Words.{of_lengths}
use Rattle.alg_tokens.proofs.word.of_two.Goals as goal

-- the text is none of the words of its length
pub returns-in_default : goal.returns-in_default
unfolding reserved_words
returns-in_default c =
    let none = c.in_default in
    of_lengths (λ n. n == 2) _ (grind (arith, nat_tests, c.requires))
    (none.not-at, (none.not-by, (none.not-if, (none.not-no, (none.not-to, (none.not-up, tt))))))
