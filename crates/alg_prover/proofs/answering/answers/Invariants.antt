use Rattle.alg_prover.proofs.Answered.{AreAnswered}
use Rattle.alg_prover.proofs.answering.answers.Given as goal

-- the goals before this one are answered
abbrev pub invariant-loop-number : goal.invariant-loop-number
invariant-loop-number l = AreAnswered l.file l.number l.answers.items
