use Rattle.std.proofs.Common.{◌≡◌, ◌∙◌, ◌<◌, ◌∷◌, [], ◌++◌, ℕ, List, Option, None, Some, length, refl, sym, ap, subst, arith}
use Rattle.std.specs.Prelude.{not}
use Rattle.alg_lines.specs.declared.answer.Answer.{Answer}
use Rattle.alg_reader.specs.declared.raw.RawAnswer.{RawAnswer}
use Rattle.alg_reader.specs.declared.raw.RawKind.{RawKind}
use Rattle.alg_reader.specs.declared.raw.RawKind.TheVariants as raws
use Rattle.alg_reader.specs.declared.reading.Raw.{Raw}
use Rattle.alg_reader.specs.Places.{MayStand}
use Rattle.alg_reader.specs.WellRead.{IsWellKind}
use Rattle.alg_terms.specs.declared.file.File.{File}
use Rattle.alg_terms.specs.declared.term.Atom.{Atom}
use Rattle.alg_reify.specs.Table.{goal_atoms}
use Rattle.alg_tokens.specs.declared.code.Code.TheVariants as code
use Rattle.alg_typing.specs.Faults.{fault_if}
use Rattle.alg_typing.proofs.FirstFaults.{error_tells_nothing, memory_tells_nothing}
use Rattle.alg_annotated.specs.declared.open_answer.Open.{Open}
use Rattle.alg_annotated.specs.Names.{statement_names}
use Rattle.alg_annotated.specs.Parts.{IsAnswerPart}
use Rattle.alg_annotated.specs.Places.{place_behind}
use Rattle.alg_annotated.specs.Progress.{answers_open, place_of}
use Rattle.alg_annotated.specs.Reading.{first_fault}
use Rattle.alg_annotated.specs.Resolved.{answer_of, answers_with}
use Rattle.alg_annotated.specs.Rules.{belongs, last_goal, part_faults, statement_faults}
use Rattle.alg_annotated.proofs.Clear.{both_empty, no_names, no_others}
use Rattle.alg_annotated.proofs.Ends.{is_none}
use Rattle.alg_annotated.proofs.LastGoal.{has_atoms, has_hyps}
use Rattle.alg_annotated.proofs.Progressing.{answered_answers, goal_there, same_file}
use Rattle.alg_annotated.proofs.progress.Progress.with_answer.Goals as goal

-- an answer stands behind a goal
there : (file : File) (front : List (Option Answer)) (last : Open) (kind : RawKind) (said : RawAnswer) →
    kind ≡ raws.Answer said → MayStand (place_of last) kind →
    length (front ++ answers_open last) ≡ length file.goals → 0 < length file.goals
there file front last kind said is may count = goal_there file front last kind (subst IsAnswerPart (sym is) tt) may count

-- it has no faults of its names and its parts where it has no first fault
no_parts : (file : File) (text : List ℕ) (raw : Raw) (said : RawAnswer) → raw.kind ≡ raws.Answer said →
    first_fault file text raw ≡ None → part_faults file text (last_goal file) said ≡ []
no_parts file text raw said is none =
    (both_empty (fault_if (not (belongs (last_goal file).method said)) code.Answer raw.start)
    (part_faults file text (last_goal file) said)
    (subst (λ (k : RawKind). statement_faults file text raw.start k ≡ []) is (no_others file text raw none))).1

pub same-declared : goal.same-declared
same-declared c = refl

pub last_goal-requires : goal.last_goal-requires
last_goal-requires c =
    there c.args.self.declared c.args.self.answers.items c.args.self.last c.args.raw.now.kind c.args.said.now
    c.requires.said c.requires.may_stand c.requires.count

pub goal_at-goal-requires : goal.goal_at-goal-requires
goal_at-goal-requires c =
    let some : 0 < length c.args.self.declared.goals = there c.args.self.declared c.args.self.answers.items
    c.args.self.last c.args.raw.now.kind c.args.said.now c.requires.said c.requires.may_stand c.requires.count in
    omega (arith, some, c.last_goal.ensures)

-- its table
pub goal_table-requires : goal.goal_table-requires
goal_table-requires c =
    has_hyps c.args.self.declared c.file.result.now c.goal_at-goal.result.now c.last_goal.result c.file.ensures.file
    c.last_goal.ensures c.goal_at-goal.ensures c.file.ensures.valid
    (there c.args.self.declared c.args.self.answers.items c.args.self.last c.args.raw.now.kind c.args.said.now
    c.requires.said c.requires.may_stand c.requires.count)

pub returns-in_err-atoms : goal.returns-in_err-atoms
returns-in_err-atoms c = record {
  ok = error_tells_nothing _ _ c.from_residual.result c.from_residual.ensures.1;
  table = error_tells_nothing _ _ c.from_residual.result c.from_residual.ensures.1;
  refused = memory_tells_nothing _ c.from_residual.result c.from_residual.ensures.1;
}

-- its first fault
pub first_fault-requires : goal.first_fault-requires
first_fault-requires c = record {
  well_read = c.requires.well_read;
  part = subst IsAnswerPart (sym c.requires.said) tt;
  there = there c.args.self.declared c.args.self.answers.items c.args.self.last c.args.raw.now.kind c.args.said.now
      c.requires.said c.requires.may_stand c.requires.count;
  atoms = has_atoms c.args.self.declared c.file.result.now c.goal_at-goal.result.now c.last_goal.result
      c.file.ensures.file c.last_goal.ensures c.goal_at-goal.ensures _ c.in_ok-atoms.ensures;
}

pub returns-in_err-fault : goal.returns-in_err-fault
returns-in_err-fault c =
    let r = c.from_residual-in_err-fault.result in
    let is = c.from_residual-in_err-fault.ensures.1 in
    record {
      ok = error_tells_nothing _ _ r is;
      table = error_tells_nothing _ _ r is;
      refused = memory_tells_nothing _ r is;
    }

pub returns-in-Some-clause-refused : goal.returns-in-Some-clause-refused
returns-in-Some-clause-refused c = sym c.in_ok-fault.ensures ∙ c.in-Some.is

-- it has none
pub answer_of-requires : goal.answer_of-requires
answer_of-requires c =
    let file = c.args.self.declared in
    let text = c.args.text.now in
    let raw = c.args.raw.now in
    let said = c.args.said.now in
    let none : first_fault file text raw ≡ None = sym c.in_ok-fault.ensures ∙ is_none _ c.in_default.not-Some in
    record {
      well_read = subst (IsWellKind text) c.requires.said c.requires.well_read;
      there = there file c.args.self.answers.items c.args.self.last raw.kind said c.requires.said c.requires.may_stand
          c.requires.count;
      atoms = has_atoms file c.file.result.now c.goal_at-goal.result.now c.last_goal.result
          c.file.ensures.file c.last_goal.ensures c.goal_at-goal.ensures _ c.in_ok-atoms.ensures;
      names = subst (λ (k : RawKind). statement_names file text k ≡ []) c.requires.said (no_names file text raw none);
      parts = no_parts file text raw said c.requires.said none;
    }

pub returns-in_err-answer : goal.returns-in_err-answer
returns-in_err-answer c =
    let r = c.from_residual-in_err-answer.result in
    let is = c.from_residual-in_err-answer.ensures.1 in
    record {
      ok = error_tells_nothing _ _ r is;
      table = error_tells_nothing _ _ r is;
      refused = memory_tells_nothing _ r is;
    }

-- it is the one of the last goal
pub returns-clause-ok : goal.returns-clause-ok
returns-clause-ok c =
    let file = c.args.self.declared in
    let text = c.args.text.now in
    let raw = c.args.raw.now in
    let kind = raw.kind in
    let said = c.args.said.now in
    let last = c.args.self.last in
    let front : List (Option Answer) = c.args.self.answers.items in
    let said_is : kind ≡ raws.Answer said = c.requires.said in
    let a = c.in_ok-answer.answer in
    let table = has_atoms file c.file.result.now c.goal_at-goal.result.now c.last_goal.result
    c.file.ensures.file c.last_goal.ensures c.goal_at-goal.ensures _ c.in_ok-atoms.ensures in
    let is : a ≡ answer_of file text (goal_atoms file (last_goal file)) said =
    c.in_ok-answer.ensures ∙ ap (λ (xs : List Atom). answer_of file text xs said) table in
    let may = subst (MayStand (place_of last)) said_is c.requires.may_stand in
    let answers : front ++ Some a ∷ [] ≡ answers_with file text kind (front ++ answers_open last) =
    answered_answers file text front last said a may is
    ∙ ap (λ (k : RawKind). answers_with file text k (front ++ answers_open last)) (sym said_is) in
    let place : c.place_behind_answer.result ≡ place_behind (place_of last) kind =
    c.place_behind_answer.ensures ∙ ap (place_behind (place_of last)) (sym said_is) in (
      sym c.in_ok-fault.ensures ∙ is_none _ c.in_default.not-Some,
      λ i. record {
        file = same_file file text kind (subst IsAnswerPart (sym said_is) tt) i;
        answers = answers i;
        place = place i;
      },
    )

pub returns-clause-table : goal.returns-clause-table
returns-clause-table c =
    has_atoms c.args.self.declared c.file.result.now c.goal_at-goal.result.now c.last_goal.result
    c.file.ensures.file c.last_goal.ensures c.goal_at-goal.ensures _ c.in_ok-atoms.ensures
