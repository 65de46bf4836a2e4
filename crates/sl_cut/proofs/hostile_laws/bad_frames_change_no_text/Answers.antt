use Rattle.std.proofs.Common.{ap, ◌∙◌}
use Rattle.sl_model.specs.Findings.{findings}
use Rattle.sl_model.specs.Losses.{losses}
use Rattle.sl_model.specs.Setup.{setup_of}
use Rattle.sl_report.specs.Report.{report_text}
use Rattle.sl_report.specs.TraceText.{trace_text}
use Rattle.sl_cut.proofs.Hostile.Alike.{findings-alike, losses-alike, book-alike}
use Rattle.sl_cut.proofs.hostile_laws.bad_frames_change_no_text.Goals as goal

pub returns-clause-losses : goal.returns-clause-losses
returns-clause-losses c = losses-alike

pub returns-clause-books : goal.returns-clause-books
returns-clause-books c = λ i j book other front end e f g. c.runs_have_one_book.ensures j (losses j) book other front end (book-alike i j e book front f) g

pub returns-clause-report : goal.returns-clause-report
returns-clause-report c = λ i j e es. ap (report_text i.net i.snapshot.count) (findings-alike i j e (losses i) es)
    ∙ (λ k. report_text (e.net k) (e.snapshot k).count (findings (setup_of j) (losses-alike i j e k) es))

pub returns-clause-trace : goal.returns-clause-trace
returns-clause-trace c = λ i j e book. ap (λ net. trace_text net book) e.net
