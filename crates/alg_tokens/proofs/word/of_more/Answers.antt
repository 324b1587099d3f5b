use Rattle.std.proofs.Common.{◌||◌, nat_lt, arith}
use Rattle.std.proofs.lemmas.Bool.Decides.{nat_tests}
use Rattle.alg_terms.specs.Names.{reserved_words}
use Rattle.alg_tokens.proofs.Words.{of_lengths}
use Rattle.alg_tokens.proofs.word.of_more.Goals as goal

-- the text is none of the words of its length
pub returns-in_default : goal.returns-in_default
unfolding reserved_words
returns-in_default c =
    let none = c.in_default in
    of_lengths (λ n. nat_lt n 2 || nat_lt 5 n) _ (grind (arith, nat_tests, c.requires)) (
      none.not-additive,
      (
        none.not-degree,
        (
          none.not-denominator,
          (
            none.not-domain,
            (
              none.not-proved,
              (none.not-semiring, (none.not-version, tt)),
            ),
          ),
        ),
      ),
    )
