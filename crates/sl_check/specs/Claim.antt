-- Trusted text.
-- A claim of a run: the text of a report, up to and with the first line `end`, and then that of a trace.
--     schedule_text net es           the text of the trace of a book with these turns; it tells no numbers
--     IsTrace net text es            the text is the trace of this schedule
--     IsClaim net claim report es    the claim is this report and the trace of this schedule
use Rattle.std.specs.Prelude.{◌≡◌, ℕ, List, ◌++◌, map, codes}
use Rattle.std.specs.List.{All}
use Rattle.sl_machine.specs.declared.wiring.Entry.{Entry as BookEntry}
use Rattle.sl_layout.specs.Net.{Net}
use Rattle.sl_net.specs.Spelling.{HasChoice}
use Rattle.sl_model.specs.World.{Entry}
use Rattle.sl_report.specs.TraceText.{trace_text}
use Rattle.sl_check.specs.Lines.{PartsAt}

abbrev pub unnumbered : Entry → BookEntry
unnumbered e = record { number = 0; actor = e.0; choice = e.1 }

abbrev pub schedule_text : Net → List Entry → List ℕ
schedule_text net es = trace_text net (map unnumbered es)

-- the text is the trace of these turns, which are choices of the net
pub record IsTrace (net : Net) (text : List ℕ) (es : List Entry) : Type 0 where
  pub choices : All (λ e. HasChoice net e.0 e.1) es
  pub text_is : text ≡ schedule_text net es

pub record IsClaim (net : Net) (claim report : List ℕ) (es : List Entry) : Type 0 where
  pub front : List ℕ
  pub back : List ℕ
  pub parts : PartsAt (codes "end") claim front back
  pub report_is : report ≡ front ++ codes "end\n"
  pub trace : IsTrace net back es
