use Rattle.alg_prover.proofs.Verdicts.{one_answer}
use Rattle.alg_prover.proofs.laws.one_answer.Goals as goal

pub returns : goal.returns
returns c =
    one_answer record {
      by_ring = c.one_ring_verdict.ensures;
      by_field = c.one_field_verdict.ensures;
      by_nsatz = c.one_nsatz_verdict.ensures;
    }
