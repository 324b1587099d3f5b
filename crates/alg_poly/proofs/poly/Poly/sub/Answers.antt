use Rattle.std.specs.Prelude.{◌≡◌, IfOk, IfErr}
use Rattle.std.proofs.Common.{subst}
use Rattle.alg_mono.specs.Outcomes.{Outcome}
use Rattle.alg_mono.specs.Refusals.{RefusesWith}
use Rattle.alg_poly.proofs.Limits.{outcome_of_opposite}
use Rattle.alg_poly.proofs.poly.Poly.sub.Goals as goal

-- the opposite has the same norm, so the difference breaks a rule where the sum does
pub returns-clause-fine : goal.returns-clause-fine
returns-clause-fine c =
    subst (λ (o : Outcome). IfOk c.add.result (λ _. o ≡ Outcome.Fine))
    (outcome_of_opposite c.args.self.now c.args.other.now c.in_ok-opposite.opposite c.in_ok-opposite.ensures)
    c.add.ensures.fine

pub returns-clause-refused : goal.returns-clause-refused
returns-clause-refused c =
    subst (λ (o : Outcome). IfErr c.add.result (λ e. RefusesWith e o))
    (outcome_of_opposite c.args.self.now c.args.other.now c.in_ok-opposite.opposite c.in_ok-opposite.ensures)
    c.add.ensures.refused
