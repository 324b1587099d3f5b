use Rattle.std.proofs.Common.{◌<◌, length, sym, subst, arith}
use Rattle.alg_terms.specs.declared.file.File.{File}
use Rattle.alg_terms.specs.Valid.{IsValid}
use Rattle.alg_terms.proofs.SmallFile.{small_is_valid}
use Rattle.alg_check.proofs.goal_tests.field_report.Goals as goal

pub check_goal-report-requires-clause-valid : goal.check_goal-report-requires-clause-valid
check_goal-report-requires-clause-valid c = subst IsValid (sym c.in_ok-file.ensures) small_is_valid

pub check_goal-report-requires-clause-there : goal.check_goal-report-requires-clause-there
check_goal-report-requires-clause-there c =
    subst (λ (f : File). 0 < length f.goals) (sym c.in_ok-file.ensures) (omega arith)
