use Rattle.std.specs.Prelude.{Err}
use Rattle.std.proofs.Common.{rules, ap, ◌∙◌}
use Rattle.alg_groebner.specs.Steps.{Steps, work_of}
use Rattle.alg_groebner.specs.Work.{member_reducible}
use Rattle.alg_groebner.specs.Working.{work_by_reducible}
use Rattle.alg_groebner.proofs.Found.{place_within, at_place, reduces_there}
use Rattle.alg_groebner.proofs.Stepping.{goal_goes, goal_stops}
use Rattle.alg_groebner.proofs.machine.Machine.step_idle.Goals as goal

pub index-requires : goal.index-requires
index-requires c =
    let chosen = c.in-Some.ensures ∙ ap (member_reducible c.args.self.now.basis 0) c.deref.ensures.value in
    let h = place_within c.args.self.now.basis c.args.self.now.remainders.items c.in-Some.r c.in-Some.member.now
    chosen in
    search (rules, h)

pub reduce-requires : goal.reduce-requires
reduce-requires c =
    let chosen = c.in-Some.ensures ∙ ap (member_reducible c.args.self.now.basis 0) c.deref.ensures.value in
    reduces_there c.args.self.now.basis c.args.self.now.remainders.items c.in-Some.r c.in-Some.member.now chosen
    c.index.result.now c.index.ensures

pub returns-in_err-n : goal.returns-in_err-n
returns-in_err-n c =
    let w = work_of c.args.self.now in
    let chosen = c.in-Some.ensures ∙ ap (member_reducible c.args.self.now.basis 0) c.deref.ensures.value in
    let at = at_place w.basis w.remainders c.in-Some.r c.in-Some.member.now chosen c.index.result.now c.index.ensures in
    let told : Steps (work_by_reducible c.args.hyps.now c.args.limit w (member_reducible w.basis 0 w.remainders))
    (Err c.in_err-n.field-0.0) w w =
    goal_stops c.args.limit w c.if-self-limit.false c.args.hyps.now c.in-Some.r c.in-Some.member.now c.index.result.now
    chosen at w w c.in_err-n.field-0.0 c.in_err-n.ensures.refused in
    search (rules, told)

pub push_step-requires-clause-place : goal.push_step-requires-clause-place
push_step-requires-clause-place c =
    let chosen = c.in-Some.ensures ∙ ap (member_reducible c.args.self.now.basis 0) c.deref.ensures.value in
    place_within c.args.self.now.basis c.args.self.now.remainders.items c.in-Some.r c.in-Some.member.now chosen

pub returns : goal.returns
returns c =
    let w = work_of c.args.self.now in
    let chosen = c.in-Some.ensures ∙ ap (member_reducible c.args.self.now.basis 0) c.deref.ensures.value in
    let at = at_place w.basis w.remainders c.in-Some.r c.in-Some.member.now chosen c.index.result.now c.index.ensures in
    let e = c.in_ok-n.ensures in
    goal_goes c.args.limit w c.if-self-limit.false c.args.hyps.now c.in-Some.r c.in-Some.member.now c.index.result.now
    chosen at c.in_ok-n.n c.in_ok-n.made (work_of c.push_step.new.self) e.fine e.quotient e.value
    c.in_ok-push_step.ensures
