use Rattle.sl_report.proofs.Traces.{legal_entries}
use Rattle.sl_report.proofs.trace_laws.legal_books_are_choices.Goals as goal

pub returns : goal.returns
returns c = legal_entries
