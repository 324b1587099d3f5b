use Rattle.std.specs.Prelude.{◌≡◌, ◌++◌, ◌∷◌, [], List}
use Rattle.std.proofs.Common.{rules, ap, ◌∙◌}
use Rattle.alg_mono.specs.Outcomes.{Outcome}
use Rattle.alg_mono.specs.Refusals.{RefusesWith}
use Rattle.alg_lines.specs.declared.cert.GoalStep.{GoalStep}
use Rattle.alg_groebner.specs.Runs.{powers, powers_outcome}
use Rattle.alg_groebner.proofs.Pruned.{powers_turn, outcome_turn, told_first}
use Rattle.alg_groebner.proofs.decide.powers_of.Goals as goal

pub returns-in_err-rest-clause-refused : goal.returns-in_err-rest-clause-refused
returns-in_err-rest-clause-refused c =
    let g = c.args.goal.now in
    let r = c.loop-r.r in
    let told : RefusesWith c.in_err-rest.field-0.0 (powers_outcome g 1 c.args.power) =
    told_first g r c.args.power (powers_outcome g 1 c.args.power) c.in_err-rest.field-0.0 c.loop-r-test.true
    c.in_err-rest.ensures.refused
    c.loop-r.invariant.1 in
    search (rules, told)

pub loop-r-preserved : goal.loop-r-preserved
loop-r-preserved c =
    let g = c.args.goal.now in
    let r = c.loop-r.r in
    let n = c.args.power in
    let with_steps = λ (steps : List GoalStep). c.loop-r.out.items ++
    (record { rest = c.in_ok-rest.rest; steps = steps }) ∷ [] in
    let more : c.push.new.self.items ≡ with_steps [] =
    c.in_ok-push.ensures.items ∙ ap with_steps (c.from_vec-steps.ensures ∙ c.new.ensures.items) in (
      powers_turn g r n c.loop-r.out.items c.push.new.self.items (powers g 1 n) c.in_ok-rest.rest c.loop-r-test.true
          c.in_ok-rest.ensures.power more c.loop-r.invariant.0,
      outcome_turn g r n (powers_outcome g 1 n) Outcome.Fine c.loop-r-test.true c.in_ok-rest.ensures.fine
          c.loop-r.invariant.1,
    )
