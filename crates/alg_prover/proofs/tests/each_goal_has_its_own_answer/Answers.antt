use Rattle.alg_prover.proofs.Examples.{is_valid}
use Rattle.alg_prover.proofs.tests.each_goal_has_its_own_answer.Goals as goal

-- the file is the one that is tried
pub answers-requires : goal.answers-requires
answers-requires g c = record { valid = is_valid c.in_ok-file.file c.in_ok-file.ensures }
