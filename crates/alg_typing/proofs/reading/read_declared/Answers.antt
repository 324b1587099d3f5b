use Rattle.std.proofs.Common.{refl, sym, subst, ◌≡◌, length}
use Rattle.std.proofs.lemmas.Str.{IsCharBoundary-start}
use Rattle.alg_terms.specs.declared.file.File.{File}
use Rattle.alg_typing.specs.Reading.{ReadsFile, file_way, no_statements}
use Rattle.alg_typing.proofs.FirstFaults.{error_tells_nothing}
use Rattle.alg_typing.proofs.ReadingSteps.{smaller, decides_still, ends_here, told_reading, told_fault, passed_on}
use Rattle.alg_typing.proofs.RoomForStatements.{HasAtMost, none_at_first, has_room, still_few, goes_on}
use Rattle.alg_typing.proofs.reading.read_declared.Goals as goal

pub statements-init : goal.statements-init
statements-init c =
    let is : c.new-declared.result ≡ no_statements = c.new-declared.ensures in
    record {
      decides = λ outcome reads. subst (λ (f : File). ReadsFile c.args.text.now 0 f outcome) is reads;
      boundary = IsCharBoundary-start c.args.text.now c.utf8.text;
      few = subst (λ (f : File). HasAtMost f 0) (sym is) none_at_first;
    }

pub read_statement-requires-clause-size : goal.read_statement-requires-clause-size
read_statement-requires-clause-size c = c.requires

pub read_statement-requires-clause-boundary : goal.read_statement-requires-clause-boundary
read_statement-requires-clause-boundary c = c.statements.invariant.boundary

-- a statement can't be read, or there is no memory
pub returns-in_err-raw-clause-ok : goal.returns-in_err-raw-clause-ok
returns-in_err-raw-clause-ok c = error_tells_nothing _ _ c.from_residual.result c.from_residual.ensures.1

pub returns-in_err-raw-clause-refused : goal.returns-in_err-raw-clause-refused
returns-in_err-raw-clause-refused c =
    passed_on _ c.from_residual.result _ c.from_residual.ensures.1
    (told_reading (file_way c.args.text.now) c.args.text.now no_statements c.statements.at c.statements.declared _
    c.statements.invariant.decides c.in_err-raw.ensures.read)

-- the text ends
pub same-declared : goal.same-declared
same-declared c = refl

pub returns-in-End-clause-ok : goal.returns-in-End-clause-ok
returns-in-End-clause-ok c =
    ends_here (file_way c.args.text.now) c.args.text.now no_statements c.statements.at c.statements.declared
    c.in_ok-raw.raw
    c.statements.invariant.decides c.in_ok-raw.ensures.read c.in-End.is

-- a statement is added
pub same-declared-in-statements : goal.same-declared-in-statements
same-declared-in-statements c = refl

pub add-requires : goal.add-requires
add-requires c =
    let invariant = c.statements.invariant in
    record {
      size = c.requires;
      well_read = (c.statements.at, c.in_ok-raw.ensures.well_read);
      room = has_room c.statements.declared c.args.text.now c.statements.at c.in_ok-raw.raw invariant.few
          c.in_ok-raw.ensures.well_read c.in_default.not-End c.requires c.in_ok-raw.ensures.may_stand;
    }

pub same-declared-in-Continue-branch-2 : goal.same-declared-in-Continue-branch-2
same-declared-in-Continue-branch-2 c = refl

pub statements-smaller : goal.statements-smaller
statements-smaller c =
    let well = c.in_ok-raw.ensures.well_read in
    smaller (length c.args.text.now) c.statements.at c.in_ok-raw.raw.stop
    (goes_on c.statements.declared c.args.text.now c.statements.at c.in_ok-raw.raw c.statements.invariant.few
    well c.in_default.not-End c.requires) well.stops.0

pub statements-preserved : goal.statements-preserved
statements-preserved c =
    let invariant = c.statements.invariant in
    let text = c.args.text.now in
    let raw = c.in_ok-raw.raw in
    let well = c.in_ok-raw.ensures.well_read in
    let is = c.in_ok-add.ensures.ok.1 in
    let more = subst (λ (f : File). HasAtMost f raw.stop) (sym is)
    (still_few c.statements.declared text c.statements.at raw invariant.few well c.in_default.not-End c.requires) in
    record {
      decides = decides_still (file_way text) text no_statements c.statements.at c.statements.declared
          c.add.new.self raw
          invariant.decides c.in_ok-raw.ensures.read c.in_default.not-End c.in_ok-add.ensures.ok.0 is;
      boundary = well.stops;
      few = more;
    }

-- a statement has a fault, or there is no memory
pub returns-in_err-add : goal.returns-in_err-add
returns-in_err-add c = record {
  ok = error_tells_nothing _ _ c.from_residual-in_err-add.result c.from_residual-in_err-add.ensures.1;
  refused = passed_on _ c.from_residual-in_err-add.result _ c.from_residual-in_err-add.ensures.1
      (told_fault (file_way c.args.text.now) c.args.text.now no_statements c.statements.at c.statements.declared
      c.in_ok-raw.raw _
      c.statements.invariant.decides c.in_ok-raw.ensures.read c.in_default.not-End c.in_err-add.ensures.refused);
}
