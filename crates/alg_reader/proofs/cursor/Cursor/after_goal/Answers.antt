-- An answer by its first word, or something else.
use Rattle.alg_reader.proofs.AnswerBodies.{proved_choice, no_choice, zero_choice, none_choice, gave_choice, here, past, here_stopped, past_stopped, starts_range, starts_atoms}
use Rattle.alg_reader.proofs.cursor.Cursor.after_goal.Goals as goal

pub returns-then-sees : goal.returns-then-sees
returns-then-sees c = here proved_choice _ c.proved.result c.if-sees.ensures c.proved.ensures

pub returns-then-sees-2 : goal.returns-then-sees-2
returns-then-sees-2 c =
    let r = c.no.result in
    past proved_choice _ r c.if-sees.ensures (here no_choice _ r c.if-sees-2.ensures c.no.ensures)

pub returns-then-sees-3 : goal.returns-then-sees-3
returns-then-sees-3 c =
    let r = c.zero_denominator.result in
    past proved_choice _ r c.if-sees.ensures (past no_choice _ r c.if-sees-2.ensures
    (here zero_choice _ r c.if-sees-3.ensures c.zero_denominator.ensures))

pub returns-then-sees-4 : goal.returns-then-sees-4
returns-then-sees-4 c =
    let r = c.none_up_to.result in
    past proved_choice _ r c.if-sees.ensures (past no_choice _ r c.if-sees-2.ensures
    (past zero_choice _ r c.if-sees-3.ensures (here none_choice _ r c.if-sees-4.ensures c.none_up_to.ensures)))

pub returns-then-sees-5 : goal.returns-then-sees-5
returns-then-sees-5 c =
    let r = c.gave_up.result in
    past proved_choice _ r c.if-sees.ensures (past no_choice _ r c.if-sees-2.ensures
    (past zero_choice _ r c.if-sees-3.ensures (past none_choice _ r c.if-sees-4.ensures
    (here gave_choice _ r c.if-sees-5.ensures c.gave_up.ensures))))

pub returns-then-sees_either : goal.returns-then-sees_either
returns-then-sees_either c =
    let r = c.stopped.result in
    past proved_choice _ r c.if-sees.ensures (past no_choice _ r c.if-sees-2.ensures
    (past zero_choice _ r c.if-sees-3.ensures (past none_choice _ r c.if-sees-4.ensures
    (past gave_choice _ r c.if-sees-5.ensures
    (here_stopped _ r (starts_range _ c.if-sees_either.ensures) c.stopped.ensures)))))

pub returns-then-sees-6 : goal.returns-then-sees-6
returns-then-sees-6 c =
    let r = c.stopped-then-sees-6.result in
    past proved_choice _ r c.if-sees.ensures (past no_choice _ r c.if-sees-2.ensures
    (past zero_choice _ r c.if-sees-3.ensures (past none_choice _ r c.if-sees-4.ensures
    (past gave_choice _ r c.if-sees-5.ensures
    (here_stopped _ r (starts_atoms _ c.if-sees-6.ensures) c.stopped-then-sees-6.ensures)))))

pub returns : goal.returns
returns c =
    let r = c.body.result in
    past proved_choice _ r c.if-sees.ensures (past no_choice _ r c.if-sees-2.ensures
    (past zero_choice _ r c.if-sees-3.ensures (past none_choice _ r c.if-sees-4.ensures
    (past gave_choice _ r c.if-sees-5.ensures
    (past_stopped _ r c.if-sees_either.ensures c.if-sees-6.ensures c.body.ensures)))))
