use Rattle.std.specs.Prelude.{Option, Ok}
use Rattle.std.proofs.Common.{subst}
use Rattle.alg_groebner.specs.Runs.{first_state}
use Rattle.alg_groebner.specs.Steps.{Steps, work_of}
use Rattle.alg_groebner.specs.Working.{work_next}
use Rattle.alg_groebner.specs.declared.machine.Ending.{Ending}
use Rattle.alg_groebner.proofs.Running.{begins, workable, goes_on, falls, ends, refused}
use Rattle.alg_groebner.proofs.run.run.Goals as goal

pub loop-ending-init : goal.loop-ending-init
loop-ending-init c =
    begins c.args.hyps.now c.args.limit c.args.machine.now.remainders.items (work_of c.args.machine.now)
    c.requires.begins
    c.requires.sound

pub step-requires : goal.step-requires
step-requires c =
    workable c.args.hyps.now c.args.limit (first_state c.args.hyps.now c.args.machine.now.remainders.items)
    (work_of c.loop-ending.machine) c.loop-ending.invariant

pub loop-ending-smaller : goal.loop-ending-smaller
loop-ending-smaller c =
    let old = work_of c.loop-ending.machine in
    let new = work_of c.step.new.self in
    let step = subst (λ (o : Option Ending). Steps (work_next c.args.hyps.now c.args.limit old) (Ok o) old new)
    c.in-Ok-None.field-0-is c.in-Ok-None.ensures in
    falls c.args.hyps.now c.args.limit (first_state c.args.hyps.now c.args.machine.now.remainders.items) old
    c.loop-ending.invariant new step

pub loop-ending-preserved : goal.loop-ending-preserved
loop-ending-preserved c =
    let old = work_of c.loop-ending.machine in
    let new = work_of c.step.new.self in
    let step = subst (λ (o : Option Ending). Steps (work_next c.args.hyps.now c.args.limit old) (Ok o) old new)
    c.in-Ok-None.field-0-is c.in-Ok-None.ensures in
    goes_on c.args.hyps.now c.args.limit (first_state c.args.hyps.now c.args.machine.now.remainders.items) old
    c.loop-ending.invariant new step

pub returns-in-Ok-Some : goal.returns-in-Ok-Some
returns-in-Ok-Some c =
    let old = work_of c.loop-ending.machine in
    let new = work_of c.step.new.self in
    let step = subst (λ (o : Option Ending). Steps (work_next c.args.hyps.now c.args.limit old) (Ok o) old new)
    c.in-Ok-Some.field-0-is c.in-Ok-Some.ensures in
    ends c.args.hyps.now c.args.limit (first_state c.args.hyps.now c.args.machine.now.remainders.items) old
    c.loop-ending.invariant c.in-Ok-Some.ending new step

pub returns-in-Err : goal.returns-in-Err
returns-in-Err c =
    refused c.args.hyps.now c.args.limit (first_state c.args.hyps.now c.args.machine.now.remainders.items)
    (work_of c.loop-ending.machine) c.loop-ending.invariant c.in-Err.end (work_of c.step.new.self) c.in-Err.ensures
