use Rattle.std.proofs.Common.{◌≡◌, drop}
use Rattle.std.specs.List.{list_all}
use Rattle.alg_cli.specs.Checked.{is_ok}
use Rattle.alg_cli.proofs.checked.status_of.Given as goal

-- what is left decides
abbrev pub invariant-loop-report : goal.invariant-loop-report
invariant-loop-report l = list_all is_ok l.reports ≡ list_all is_ok (drop l.report-index l.reports)
