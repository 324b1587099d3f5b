use Rattle.alg_check.proofs.Reports.{one_report}
use Rattle.alg_check.proofs.laws.one_report.Goals as goal

pub returns : goal.returns
returns c = one_report
