use Rattle.std.proofs.Common.{rules, ◌∙◌}
use Rattle.alg_groebner.specs.Steps.{work_of}
use Rattle.alg_groebner.proofs.Answered.{refused_powers}
use Rattle.alg_groebner.proofs.Begun.{begun, first_is_sound, bounds, proved, none, gave_up, refused}
use Rattle.alg_groebner.proofs.decide.search.Goals as goal

pub returns-in_err-remainders-clause-decides : goal.returns-in_err-remainders-clause-decides
returns-in_err-remainders-clause-decides c =
    let told =
    refused_powers c.args.hyps.now c.args.goal.now c.args.power c.args.limit c.in_err-remainders.field-0.0
    c.in_err-remainders.ensures.refused in
    search (rules, told)

pub run-requires-clause-sound : goal.run-requires-clause-sound
run-requires-clause-sound c =
    let b = begun c.requires.few c.requires.powers c.requires.limited c.in_ok-remainders.ensures.fine
    ((λ i. (c.begin-machine.ensures i).remainders) ∙ c.in_ok-remainders.ensures.value) in
    first_is_sound b

pub certificate_of-requires-clause-first : goal.certificate_of-requires-clause-first
certificate_of-requires-clause-first c =
    let b = begun c.requires.few c.requires.powers c.requires.limited c.in_ok-remainders.ensures.fine
    ((λ i. (c.begin-machine.ensures i).remainders) ∙ c.in_ok-remainders.ensures.value) in
    (bounds b (work_of c.run.new.machine) c.in-Ok-Proved.field-0-is c.in-Ok-Proved.ensures).0

pub certificate_of-requires-clause-power : goal.certificate_of-requires-clause-power
certificate_of-requires-clause-power c =
    let b = begun c.requires.few c.requires.powers c.requires.limited c.in_ok-remainders.ensures.fine
    ((λ i. (c.begin-machine.ensures i).remainders) ∙ c.in_ok-remainders.ensures.value) in
    (bounds b (work_of c.run.new.machine) c.in-Ok-Proved.field-0-is c.in-Ok-Proved.ensures).1

pub certificate_of-requires-clause-lines : goal.certificate_of-requires-clause-lines
certificate_of-requires-clause-lines c =
    let b = begun c.requires.few c.requires.powers c.requires.limited c.in_ok-remainders.ensures.fine
    ((λ i. (c.begin-machine.ensures i).remainders) ∙ c.in_ok-remainders.ensures.value) in
    (bounds b (work_of c.run.new.machine) c.in-Ok-Proved.field-0-is c.in-Ok-Proved.ensures).2

pub returns-in-Ok-Proved : goal.returns-in-Ok-Proved
returns-in-Ok-Proved c =
    let b = begun c.requires.few c.requires.powers c.requires.limited c.in_ok-remainders.ensures.fine
    ((λ i. (c.begin-machine.ensures i).remainders) ∙ c.in_ok-remainders.ensures.value) in
    let there = proved b (work_of c.run.new.machine) c.in-Ok-Proved.field-0-is c.in-Ok-Proved.ensures
    c.in_ok-cert-in-Ok-Proved.ensures in
    record { decides = there.0; within = there.1 }

pub returns-in-Ok-NoneUpTo-clause-decides : goal.returns-in-Ok-NoneUpTo-clause-decides
returns-in-Ok-NoneUpTo-clause-decides c =
    let b = begun c.requires.few c.requires.powers c.requires.limited c.in_ok-remainders.ensures.fine
    ((λ i. (c.begin-machine.ensures i).remainders) ∙ c.in_ok-remainders.ensures.value) in
    none b (work_of c.run.new.machine) c.in-Ok-NoneUpTo.field-0-is c.in-Ok-NoneUpTo.ensures

pub returns-in-Ok-GaveUp-clause-decides : goal.returns-in-Ok-GaveUp-clause-decides
returns-in-Ok-GaveUp-clause-decides c =
    let b = begun c.requires.few c.requires.powers c.requires.limited c.in_ok-remainders.ensures.fine
    ((λ i. (c.begin-machine.ensures i).remainders) ∙ c.in_ok-remainders.ensures.value) in
    gave_up b (work_of c.run.new.machine) c.in-Ok-GaveUp.field-0-is c.in-Ok-GaveUp.ensures

pub returns-clause-decides : goal.returns-clause-decides
returns-clause-decides c =
    let b = begun c.requires.few c.requires.powers c.requires.limited c.in_ok-remainders.ensures.fine
    ((λ i. (c.begin-machine.ensures i).remainders) ∙ c.in_ok-remainders.ensures.value) in
    refused b (work_of c.run.new.machine) c.in-Err.end c.in-Err.ensures
