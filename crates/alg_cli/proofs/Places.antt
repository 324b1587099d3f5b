-- The answer at a place of a list.
use Rattle.std.proofs.Common.{◌≡◌, ◌<◌, ℕ, zero, suc, List, [], ◌∷◌, length, Some, subst, arith}
use Rattle.std.specs.Prelude.{slice_get, slice_index_or}
use Rattle.std.specs.List.{AllZip}
use Rattle.alg_lines.specs.declared.answer.Answer.{Answer}
use Rattle.alg_terms.specs.declared.file.File.{File}
use Rattle.alg_terms.specs.declared.goals.Goal.{Goal}
use Rattle.alg_terms.specs.Members.{no_goal}
use Rattle.alg_prover.specs.Answers.{IsAnswer}

-- an answer that is there is that of the goal at its place
pub pair_at : (file : File) (goals : List Goal) (answers : List Answer) (i : ℕ) (answer : Answer) →
    AllZip (IsAnswer file) goals answers → slice_get answers i ≡ Some answer →
    (i < length goals) × IsAnswer file (slice_index_or goals i no_goal) answer
pair_at file [] [] i answer h there = absurd (cc)
pair_at file [] (a ∷ answers) i answer h there = absurd h
pair_at file (goal ∷ goals) [] i answer h there = absurd h
pair_at file (goal ∷ goals) (a ∷ answers) zero answer h there =
    let same : a ≡ answer = cc in (omega arith, subst (IsAnswer file goal) same h.0)
pair_at file (goal ∷ goals) (a ∷ answers) (suc i) answer h there =
    let (low, later) = pair_at file goals answers i answer h.1 there in (omega arith, later)
