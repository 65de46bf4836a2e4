-- What a run prints, by what was found of it.
--     printed_of i book trace found     the report of these findings on the input, and the trace of this book where it was asked for
--     TellsFindings i book trace text   the text is printed of no sayable findings but those of this book's run
use Rattle.std.specs.Prelude.{◌≡◌, ℕ, Bool, if◌then◌else◌, List, [], ◌++◌}
use Rattle.sl_machine.specs.declared.wiring.Entry.{Entry}
use Rattle.sl_net.specs.Input.{Input}
use Rattle.sl_model.specs.declared.findings.Findings.{Findings}
use Rattle.sl_model.specs.Books.{schedule_of}
use Rattle.sl_model.specs.Findings.{findings}
use Rattle.sl_model.specs.Losses.{losses}
use Rattle.sl_model.specs.Setup.{setup_of}
use Rattle.sl_report.specs.Report.{report_text}
use Rattle.sl_report.specs.Sayable.{IsSayable}
use Rattle.sl_report.specs.TraceText.{trace_text}

abbrev pub printed_of : Input → List Entry → Bool → Findings → List ℕ
printed_of i book trace found = report_text i.net i.snapshot.count found ++ (if trace then trace_text i.net book else [])

abbrev pub TellsFindings : Input → List Entry → Bool → List ℕ → Type 0
TellsFindings i book trace text = (found : Findings) → IsSayable i.net i.snapshot.count found → text ≡ printed_of i book trace found
    → found ≡ findings (setup_of i) (losses i) (schedule_of book)
