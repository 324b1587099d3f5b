use Rattle.std.proofs.Common.{List, length, ◌<◌, ◌≤◌, ◌+◌, rules, sym, subst}
use Rattle.alg_lines.specs.declared.answer.Answer.{Answer}
use Rattle.alg_prover.proofs.Answered.{AreAnswered, next_answered, all_answered, all_printable}
use Rattle.alg_prover.proofs.answering.answers.Goals as goal

-- one more goal is answered
pub loop-number-preserved : goal.loop-number-preserved
loop-number-preserved c =
    let file = c.args.file.now in
    let number = c.loop-number.number in
    let After : List Answer → Type 0 = AreAnswered file (number + 1) in
    let within : number < length file.goals = search rules in
    subst After (sym c.in_ok-push.ensures.items)
    (next_answered file number c.loop-number.answers.items c.in_ok-answer_one.field-0 within c.loop-number.invariant
    (c.in_ok-answer_one.ensures.answer, c.in_ok-answer_one.ensures.printable))

-- all goals are answered
pub returns-clause-answers : goal.returns-clause-answers
returns-clause-answers c =
    let file = c.args.file.now in
    let all : length file.goals ≤ c.loop-number.number = search rules in
    all_answered file c.loop-number.number c.loop-number.answers.items all c.loop-number.invariant

-- and the answers can be printed
pub returns-clause-printable : goal.returns-clause-printable
returns-clause-printable c =
    let file = c.args.file.now in
    let all : length file.goals ≤ c.loop-number.number = search rules in
    all_printable file c.loop-number.number c.loop-number.answers.items all c.loop-number.invariant
