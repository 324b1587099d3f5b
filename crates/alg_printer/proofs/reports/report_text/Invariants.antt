use Rattle.std.proofs.Common.{◌≡◌, ◌++◌, ◌+◌, drop}
use Rattle.alg_printer.specs.Reports.{reports_from, reports_text}
use Rattle.alg_printer.proofs.reports.report_text.Given as goal

-- what is there, with what is left, makes what is wanted, and the goals are counted
abbrev pub invariant-loop-report : goal.invariant-loop-report
invariant-loop-report l =
    (l.text ++ reports_from (l.report-index + 1) (drop l.report-index l.reports) ≡ reports_text l.reports)
    × (l.number ≡ l.report-index)
