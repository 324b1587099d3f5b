use Rattle.std.proofs.Common.{◌≤◌, List, length, subst}
use Rattle.std.proofs.lemmas.Result.{IfOk-weaker}
use Rattle.alg_terms.specs.declared.term.Atom.{Atom}
use Rattle.alg_terms.specs.declared.term.Term.{Term}
use Rattle.alg_lines.specs.declared.answer.Answer.{Answer}
use Rattle.alg_reify.specs.Answers.{IsFieldAnswer}
use Rattle.alg_reify.specs.RingVerdict.{own_table}
use Rattle.alg_reify.specs.Table.{MAX_ATOMS}
use Rattle.alg_check.specs.Answers.{IsComparison}
use Rattle.alg_check.specs.Fields.{IsEnded}
use Rattle.alg_check.proofs.Fields.{field_compared, field_ended}
use Rattle.alg_check.proofs.field.answer_over.Goals as goal

-- both numerators were made and compared
pub returns-in-Ok : goal.returns-in-Ok
returns-in-Ok c =
    let file = c.args.file.now in
    let e = c.args.equation.now in
    let s = c.in-Ok.field-0 in
    let small : length (own_table file e) ≤ MAX_ATOMS =
    subst (λ (atoms : List Atom). length atoms ≤ MAX_ATOMS) c.requires.table c.requires.small in
    IfOk-weaker c.compared.result (IsComparison s.left s.right c.from_vec.result) (IsFieldAnswer file e)
    (λ (a : Answer) h. field_compared file e small s.conditions.items s.left s.right c.in-Ok.ensures a
    (subst (λ (terms : List Term). IsComparison s.left s.right terms a) c.from_vec.ensures h)) c.compared.ensures

-- they could not be made
pub returns-in-Err : goal.returns-in-Err
returns-in-Err c =
    let file = c.args.file.now in
    let e = c.args.equation.now in
    let small : length (own_table file e) ≤ MAX_ATOMS =
    subst (λ (atoms : List Atom). length atoms ≤ MAX_ATOMS) c.requires.table c.requires.small in
    IfOk-weaker c.ended.result (IsEnded c.in-Err.end) (IsFieldAnswer file e)
    (λ (a : Answer) h. field_ended file e small c.in-Err.end c.in-Err.ensures a h) c.ended.ensures
