use Rattle.std.proofs.Common.{sym, subst, ◌≡◌, ◌≤◌, ℕ, List, Result, length, Ok, Err}
use Rattle.std.proofs.lemmas.Str.{IsCharBoundary-start}
use Rattle.std.proofs.Math.Nat.{le_trans}
use Rattle.alg_terms.specs.Valid.{IsValid}
use Rattle.alg_reader.specs.declared.place.Place.{Place}
use Rattle.alg_reader.specs.declared.reading.FileEnd.{FileEnd}
use Rattle.alg_reader.specs.Places.{MayStand}
use Rattle.alg_reader.specs.Statements.{IsRead}
use Rattle.alg_tokens.specs.declared.token.Refusal.{Refusal}
use Rattle.alg_typing.specs.Ends.{RefusesWith}
use Rattle.alg_typing.proofs.FirstFaults.{error_tells_nothing, memory_tells_nothing}
use Rattle.alg_typing.proofs.ReadingSteps.{smaller, decides_still, ends_here, told_reading, told_fault, passed_on}
use Rattle.alg_typing.proofs.RoomForStatements.{goes_on}
use Rattle.alg_annotated.specs.declared.annotated.Annotated.{Annotated}
use Rattle.alg_annotated.specs.Kept.{AreAnswersTo, size_of}
use Rattle.alg_annotated.specs.Progress.{so_far}
use Rattle.alg_annotated.specs.Reading.{SoFar, ReadsAnnotated, annotated_way, nothing_yet}
use Rattle.alg_annotated.proofs.TextSteps.{Holds, holds_at_first, room_for, still_holds}
use Rattle.alg_annotated.proofs.reading.read_text.Goals as goal

-- what is told of a statement that can't be read
told_at : (text : List ℕ) (at : ℕ) (now : SoFar) (place : Place) → place ≡ now.place →
    ((outcome : Result Annotated Refusal) → ReadsAnnotated text at now outcome →
    ReadsAnnotated text 0 nothing_yet outcome) →
    (end : FileEnd) → IsRead place text at (Err end) →
    RefusesWith end (λ fault. ReadsAnnotated text 0 nothing_yet (Err fault))
told_at text at now place is decides end read =
    told_reading (annotated_way text) text nothing_yet at now end decides
    (subst (λ (p : Place). IsRead p text at (Err end)) is read)

pub statements-init : goal.statements-init
statements-init c =
    let is : so_far c.new-now.result ≡ nothing_yet = c.new-now.ensures.nothing in
    record {
      decides = λ outcome reads. subst (λ (s : SoFar). ReadsAnnotated c.args.text.now 0 s outcome) is reads;
      boundary = IsCharBoundary-start c.args.text.now c.utf8.text;
      holds = subst (λ (s : SoFar). Holds s 0) (sym is)
          (holds_at_first (subst (λ (s : SoFar). IsValid s.file) is c.new-now.ensures.valid));
      table = c.new-now.ensures.table;
    }

pub read_statement-requires-clause-size : goal.read_statement-requires-clause-size
read_statement-requires-clause-size c = c.requires

pub read_statement-requires-clause-boundary : goal.read_statement-requires-clause-boundary
read_statement-requires-clause-boundary c = c.statements.invariant.boundary

-- a statement can't be read, or there is no memory
pub returns-in_err-raw-clause-ok : goal.returns-in_err-raw-clause-ok
returns-in_err-raw-clause-ok c = error_tells_nothing _ _ c.from_residual.result c.from_residual.ensures.1

pub returns-in_err-raw-clause-valid : goal.returns-in_err-raw-clause-valid
returns-in_err-raw-clause-valid c = error_tells_nothing _ _ c.from_residual.result c.from_residual.ensures.1

pub returns-in_err-raw-clause-answers : goal.returns-in_err-raw-clause-answers
returns-in_err-raw-clause-answers c = error_tells_nothing _ _ c.from_residual.result c.from_residual.ensures.1

pub returns-in_err-raw-clause-few : goal.returns-in_err-raw-clause-few
returns-in_err-raw-clause-few c = error_tells_nothing _ _ c.from_residual.result c.from_residual.ensures.1

pub returns-in_err-raw-clause-refused : goal.returns-in_err-raw-clause-refused
returns-in_err-raw-clause-refused c =
    let text = c.args.text.now in
    passed_on _ c.from_residual.result _ c.from_residual.ensures.1
    (told_at text c.statements.at (so_far c.statements.now) c.place-place.result c.place-place.ensures
    c.statements.invariant.decides _ c.in_err-raw.ensures.read)

-- the text ends
pub returns-in-End-clause-ok : goal.returns-in-End-clause-ok
returns-in-End-clause-ok c =
    let text = c.args.text.now in
    let raw = c.in_ok-raw.raw in
    let read = subst (λ (p : Place). IsRead p text c.statements.at (Ok raw)) c.place-place.ensures
    c.in_ok-raw.ensures.read in
    subst (λ (all : Annotated). ReadsAnnotated text 0 nothing_yet (Ok all)) (sym c.in_ok-all.ensures.ok)
    (ends_here (annotated_way text) text nothing_yet c.statements.at (so_far c.statements.now) raw
    c.statements.invariant.decides read c.in-End.is)

pub returns-in-End-clause-valid : goal.returns-in-End-clause-valid
returns-in-End-clause-valid c = c.in_ok-all.ensures.valid

pub returns-in-End-clause-answers : goal.returns-in-End-clause-answers
returns-in-End-clause-answers c =
    subst (λ (all : Annotated). AreAnswersTo all.file all.answers) (sym c.in_ok-all.ensures.ok)
    c.statements.invariant.holds.answers

pub returns-in-End-clause-few : goal.returns-in-End-clause-few
returns-in-End-clause-few c =
    subst (λ (all : Annotated). size_of all.file all.answers ≤ length c.args.text.now)
    (sym c.in_ok-all.ensures.ok)
    (le_trans c.statements.invariant.holds.sized c.statements.invariant.boundary.0)

-- there is no memory for the last answer
pub returns-in_err-all : goal.returns-in_err-all
returns-in_err-all c =
    let r = c.from_residual-in_err-all.result in
    let is = c.from_residual-in_err-all.ensures.1 in
    record {
      ok = error_tells_nothing _ _ r is;
      valid = error_tells_nothing _ _ r is;
      answers = error_tells_nothing _ _ r is;
      few = error_tells_nothing _ _ r is;
      refused = memory_tells_nothing _ r is;
    }

-- a statement is added
pub with_statement-requires : goal.with_statement-requires
with_statement-requires c =
    let invariant = c.statements.invariant in
    let well = c.in_ok-raw.ensures.well_read in
    record {
      size = c.requires;
      well_read = (c.statements.at, well);
      may_stand = subst (λ (p : Place). MayStand p c.in_ok-raw.raw.kind) c.place-place.ensures
          c.in_ok-raw.ensures.may_stand;
      room = room_for (so_far c.statements.now) c.args.text.now c.statements.at c.in_ok-raw.raw invariant.holds well
          c.in_default.not-End c.requires;
      count = invariant.holds.answers.count;
      table = invariant.table;
    }

pub statements-smaller : goal.statements-smaller
statements-smaller c =
    let well = c.in_ok-raw.ensures.well_read in
    let now = so_far c.statements.now in
    smaller (length c.args.text.now) c.statements.at c.in_ok-raw.raw.stop
    (goes_on now.file c.args.text.now c.statements.at c.in_ok-raw.raw c.statements.invariant.holds.few
    well c.in_default.not-End c.requires) well.stops.0

pub statements-preserved : goal.statements-preserved
statements-preserved c =
    let invariant = c.statements.invariant in
    let text = c.args.text.now in
    let raw = c.in_ok-raw.raw in
    let well = c.in_ok-raw.ensures.well_read in
    let now = so_far c.statements.now in
    let goes = c.in_default.not-End in
    let none = c.in_ok-next.ensures.ok.0 in
    let is = c.in_ok-next.ensures.ok.1 in
    let read = subst (λ (p : Place). IsRead p text c.statements.at (Ok raw)) c.place-place.ensures
    c.in_ok-raw.ensures.read in
    record {
      decides = decides_still (annotated_way text) text nothing_yet c.statements.at now (so_far c.in_ok-next.next) raw
          invariant.decides read goes none is;
      boundary = well.stops;
      holds = subst (λ (s : SoFar). Holds s raw.stop) (sym is)
          (still_holds now text c.statements.at raw invariant.holds well goes c.requires none);
      table = c.in_ok-next.ensures.table;
    }

-- a statement has a fault, or there is no memory
pub returns-in_err-next : goal.returns-in_err-next
returns-in_err-next c =
    let text = c.args.text.now in
    let r = c.from_residual-in_err-next.result in
    let is = c.from_residual-in_err-next.ensures.1 in
    let read = subst (λ (p : Place). IsRead p text c.statements.at (Ok c.in_ok-raw.raw)) c.place-place.ensures
    c.in_ok-raw.ensures.read in
    record {
      ok = error_tells_nothing _ _ r is;
      valid = error_tells_nothing _ _ r is;
      answers = error_tells_nothing _ _ r is;
      few = error_tells_nothing _ _ r is;
      refused = passed_on _ r _ is
          (told_fault (annotated_way text) text nothing_yet c.statements.at (so_far c.statements.now)
          c.in_ok-raw.raw _
          c.statements.invariant.decides read c.in_default.not-End c.in_err-next.ensures.refused);
    }
