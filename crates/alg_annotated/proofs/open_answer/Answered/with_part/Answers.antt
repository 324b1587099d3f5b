use Rattle.std.proofs.Common.{◌≡◌, ◌∙◌, List, None, Some, refl, sym, ap}
use Rattle.alg_terms.specs.declared.term.Atom.{Atom}
use Rattle.alg_typing.proofs.FirstFaults.{error_tells_nothing, memory_tells_nothing}
use Rattle.alg_annotated.specs.Reading.{first_fault}
use Rattle.alg_annotated.specs.Resolved.{with_part}
use Rattle.alg_annotated.proofs.Clear.{no_others}
use Rattle.alg_annotated.proofs.Ends.{is_none}
use Rattle.alg_annotated.proofs.LinesClear.{no_faults_at_first}
use Rattle.alg_annotated.proofs.Progressing.{part_of_line}
use Rattle.alg_annotated.proofs.open_answer.Answered.with_part.Goals as goal

pub first_fault-requires : goal.first_fault-requires
first_fault-requires c = record {
  well_read = c.requires.well_read;
  part = part_of_line c.args.raw.now.kind c.requires.part;
  there = c.requires.there;
  atoms = c.requires.table;
}

-- there is no memory to look for the first fault
pub returns-in_err-fault : goal.returns-in_err-fault
returns-in_err-fault c =
    let r = c.from_residual.result in
    let is = c.from_residual.ensures.1 in
    record {
      faultless = error_tells_nothing _ _ r is;
      answer = error_tells_nothing _ _ r is;
      place = error_tells_nothing _ _ r is;
      table = error_tells_nothing _ _ r is;
      refused = memory_tells_nothing _ r is;
    }

-- there is one
pub returns-in-Some-clause-refused : goal.returns-in-Some-clause-refused
returns-in-Some-clause-refused c = sym c.in_ok-fault.ensures ∙ c.in-Some.is

-- there is none
pub with_part-requires : goal.with_part-requires
with_part-requires c =
    let raw = c.args.raw.now in
    let file = c.args.scope.now.declared.now in
    let text = c.args.scope.now.text.now in
    let none : first_fault file text raw ≡ None =
    sym c.in_ok-fault.ensures ∙ is_none _ c.in_default.not-Some in
    record {
      well_read = c.requires.well_read;
      part = c.requires.part;
      atoms = c.requires.table;
      faultless = no_faults_at_first file text raw.start raw.kind c.requires.part (no_others file text raw none);
    }

-- there is no memory for the answer
pub returns-in_err-answer : goal.returns-in_err-answer
returns-in_err-answer c =
    let r = c.from_residual-in_err-answer.result in
    let is = c.from_residual-in_err-answer.ensures.1 in
    record {
      faultless = error_tells_nothing _ _ r is;
      answer = error_tells_nothing _ _ r is;
      place = error_tells_nothing _ _ r is;
      table = error_tells_nothing _ _ r is;
      refused = memory_tells_nothing _ r is;
    }

pub place_behind_part-requires : goal.place_behind_part-requires
place_behind_part-requires c = c.requires.part

-- the line or the step goes to the answer
pub returns-clause-faultless : goal.returns-clause-faultless
returns-clause-faultless c = sym c.in_ok-fault.ensures ∙ is_none _ c.in_default.not-Some

pub returns-clause-answer : goal.returns-clause-answer
returns-clause-answer c =
    let file = c.args.scope.now.declared.now in
    let text = c.args.scope.now.text.now in
    let kind = c.args.raw.now.kind in
    c.in_ok-answer.ensures
    ∙ ap (λ (atoms : List Atom). with_part file text atoms kind (Some c.args.self.answer)) c.requires.table

pub returns-clause-place : goal.returns-clause-place
returns-clause-place c = c.place_behind_part.ensures

pub returns-clause-table : goal.returns-clause-table
returns-clause-table c = refl
