use Rattle.std.proofs.Common.{sym, subst, Ok}
use Rattle.alg_terms.specs.declared.file.File.{File}
use Rattle.alg_typing.specs.Reading.{ReadsFile, no_statements}
use Rattle.alg_typing.proofs.FirstFaults.{error_tells_nothing}
use Rattle.alg_typing.proofs.ReadingSteps.{passed_on}
use Rattle.alg_typing.proofs.reading.read_text.Goals as goal

pub read_declared-requires : goal.read_declared-requires
read_declared-requires c = c.requires

pub returns-in_err-read_declared-clause-ok : goal.returns-in_err-read_declared-clause-ok
returns-in_err-read_declared-clause-ok c = error_tells_nothing _ _ c.from_residual.result c.from_residual.ensures.1

pub returns-in_err-read_declared-clause-refused : goal.returns-in_err-read_declared-clause-refused
returns-in_err-read_declared-clause-refused c =
    passed_on _ c.from_residual.result _ c.from_residual.ensures.1 c.in_err-read_declared.ensures.refused

pub returns-clause-ok : goal.returns-clause-ok
returns-clause-ok c = (
  subst (λ (f : File). ReadsFile c.args.text.now 0 no_statements (Ok f)) (sym c.into_file.ensures.file)
      c.in_ok-read_declared.ensures.ok,
  c.into_file.ensures.valid,
)
