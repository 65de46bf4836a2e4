use Rattle.sl_report.proofs.Texts.{told}
use Rattle.sl_report.proofs.report_laws.reports_tell_findings.Goals as goal

pub returns : goal.returns
returns c = let net = c.args.net.now in
    told net (c.nets_are_wired.ensures net (record { made = c.parts.ensures.net; right = c.parts.ensures.right })) c.nets_have_names.ensures c.one_spelling.ensures
