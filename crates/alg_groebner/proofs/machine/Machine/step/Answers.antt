use Rattle.std.specs.Prelude.{◌≡◌, List, Option}
use Rattle.std.proofs.Common.{sym, ap, subst, ◌∙◌}
use Rattle.alg_groebner.specs.Choices.{zero_power}
use Rattle.alg_groebner.specs.Steps.{Steps, work_of}
use Rattle.alg_groebner.specs.Work.{with_current}
use Rattle.alg_groebner.specs.Working.{work_by_line}
use Rattle.alg_groebner.specs.declared.member.Member.{Member}
use Rattle.alg_groebner.specs.declared.remainder.Remainder.{Remainder}
use Rattle.alg_groebner.proofs.Stepping.{line_steps}
use Rattle.alg_groebner.proofs.machine.Machine.step.Goals as goal

-- there is a current line
pub returns-in-Some-take : goal.returns-in-Some-take
returns-in-Some-take c =
    let w = work_of c.args.self.now in
    let line = c.in-Some-take.line in
    let new = work_of c.step_current.new.self in
    let power : c.zero_power_of.result ≡ zero_power w.remainders =
    c.zero_power_of.ensures ∙ ap (λ (gs : List Remainder). zero_power gs) c.deref.ensures.value in
    line_steps c.args.hyps.now c.args.limit w line c.step_current.result new
    (λ x e. c.in_default.not-Some x (power ∙ e)) (sym c.take.ensures.value ∙ c.in-Some-take.is)
    (subst
    (λ (o : Option Member). Steps (work_by_line c.args.limit (record w { current = o }) line line.poly)
    c.step_current.result (with_current w line) new)
    c.take.ensures.after c.step_current.ensures)
