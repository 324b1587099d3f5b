use Rattle.std.proofs.Common.{length, arith}
use Rattle.std.proofs.lemmas.Result.{IfOk-weaker}
use Rattle.alg_check.specs.Reports.{IsCertReport, StopReport}
use Rattle.alg_check.proofs.CertReports.{few_hyps}
use Rattle.alg_check.proofs.goal.check_certified.Goals as goal

pub cert_report-requires : goal.cert_report-requires
cert_report-requires c = record {
  few = few_hyps c.args.file.now c.args.equation.now c.args.uses.now c.in-Ok.prepared c.in-Ok.ensures.prepared
      (length c.args.cert.now.lines) (length c.args.cert.now.steps) c.requires.few;
}

-- nothing could be prepared
pub returns-in-Err : goal.returns-in-Err
returns-in-Err c =
    let low = c.if-cert-lt1.false in
    let high = c.if-cert-power.false in
    IfOk-weaker c.stop_report.result (StopReport c.in-Err.stop)
    (IsCertReport c.args.file.now c.args.equation.now c.args.uses.now c.args.power c.args.numbers.now c.args.cert.now)
    (λ r h. IsCertReport.stopped c.in-Err.stop (omega arith, omega arith) c.in-Err.ensures.stop h) c.stop_report.ensures
