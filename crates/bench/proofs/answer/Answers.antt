use Rattle.std.proofs.Common.{◌∙◌, ap}
use Rattle.reports.specs.Reports.{check_told, encode_told}
use Rattle.bench.proofs.answer.Goals as goal

pub returns-in_ok-check_report-in-Check : goal.returns-in_ok-check_report-in-Check
returns-in_ok-check_report-in-Check c =
    rw c.in-Check.is (c.in_ok-check_report-in-Check.ensures ∙ ap check_told c.deref.ensures.value)

pub returns-in_ok-encode_report-in-Encode : goal.returns-in_ok-encode_report-in-Encode
returns-in_ok-encode_report-in-Encode c =
    rw c.in-Encode.is (c.in_ok-encode_report-in-Encode.ensures ∙ ap encode_told c.deref-in-Encode.ensures.value)
