use Rattle.std.proofs.Common.{◌≡◌, ◌∙◌, ◌∷◌, [], ◌++◌, List, Option, Some, refl, sym, ap, subst}
use Rattle.std.specs.Prelude.{unwrap_or}
use Rattle.alg_lines.specs.declared.answer.Answer.{Answer}
use Rattle.alg_terms.specs.declared.term.Atom.{Atom}
use Rattle.alg_typing.proofs.FirstFaults.{error_tells_nothing}
use Rattle.alg_typing.proofs.ReadingSteps.{passed_on}
use Rattle.alg_annotated.specs.declared.open_answer.Open.{Open}
use Rattle.alg_annotated.specs.Places.{place_behind}
use Rattle.alg_annotated.specs.Progress.{answers_open, place_of, HasTable}
use Rattle.alg_annotated.specs.Resolved.{answers_with}
use Rattle.alg_annotated.proofs.Progressing.{goal_there, not_open, part_answers, part_of_line, same_file}
use Rattle.alg_annotated.proofs.progress.Progress.with_part.Goals as goal

pub same-declared : goal.same-declared
same-declared c = refl

pub with_part-requires : goal.with_part-requires
with_part-requires c =
    let self = c.args.self in
    let kind = c.args.raw.now.kind in
    record {
      well_read = c.requires.well_read;
      part = c.requires.part;
      there = goal_there self.declared self.answers.items self.last kind (part_of_line kind c.requires.part)
          c.requires.may_stand c.requires.count;
      table = subst (HasTable self.declared) c.in-Answer.is c.requires.table;
    }

-- the line or the step goes to the open answer
pub returns-clause-ok : goal.returns-clause-ok
returns-clause-ok c =
    let self = c.args.self in
    let file = self.declared in
    let text = c.args.text.now in
    let kind = c.args.raw.now.kind in
    let front : List (Option Answer) = self.answers.items in
    let part = c.requires.part in
    let old = c.in-Answer.answered in
    let next = c.in_ok-answered-in-Answer.answered in
    let answers : front ++ Some next.answer ∷ [] ≡ answers_with file text kind (front ++ answers_open self.last) =
    part_answers file text front kind old.answer next.answer part c.in_ok-answered-in-Answer.ensures.answer
    ∙ ap (λ (o : Open). answers_with file text kind (front ++ answers_open o)) (sym c.in-Answer.is) in
    let place : next.place ≡ place_behind (place_of self.last) kind =
    c.in_ok-answered-in-Answer.ensures.place ∙ ap (λ (o : Open). place_behind (place_of o) kind) (sym c.in-Answer.is) in (
      c.in_ok-answered-in-Answer.ensures.faultless,
      λ i. record { file = same_file file text kind (part_of_line kind part) i; answers = answers i; place = place i },
    )

pub returns-clause-table : goal.returns-clause-table
returns-clause-table c =
    ap (λ (atoms : Option (List Atom)). unwrap_or atoms []) c.in_ok-answered-in-Answer.ensures.table
    ∙ subst (HasTable c.args.self.declared) c.in-Answer.is c.requires.table

-- it has a fault, or there is no memory
pub returns-in_err-answered-in-Answer : goal.returns-in_err-answered-in-Answer
returns-in_err-answered-in-Answer c = record {
  ok = error_tells_nothing _ _ c.from_residual.result c.from_residual.ensures.1;
  table = error_tells_nothing _ _ c.from_residual.result c.from_residual.ensures.1;
  refused = passed_on _ c.from_residual.result _ c.from_residual.ensures.1 c.in_err-answered-in-Answer.ensures.refused;
}

-- no other may stand here
pub unreachable-requires : goal.unreachable-requires
unreachable-requires c =
    not_open c.args.self.last c.args.raw.now.kind c.requires.part c.requires.may_stand c.in_default.not-Answer

pub unreachable-unreachable : goal.unreachable-unreachable
unreachable-unreachable c =
    not_open c.args.self.last c.args.raw.now.kind c.requires.part c.requires.may_stand c.in_default.not-Answer
