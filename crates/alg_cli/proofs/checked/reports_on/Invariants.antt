use Rattle.alg_cli.proofs.Reported.{AreFirst}
use Rattle.alg_cli.proofs.checked.reports_on.Given as goal

-- the goals before this one have reports
abbrev pub invariant-loop-number : goal.invariant-loop-number
invariant-loop-number l = AreFirst l.all l.number l.reports.items
