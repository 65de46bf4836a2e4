use Rattle.std.proofs.Common.{◌≡◌, ℕ, Bool, List, [], ◌++◌, ◌∙◌, if◌then◌else◌, refl, sym, subst, ap}
use Rattle.std.specs.List.{All}
use Rattle.sl_machine.specs.declared.wiring.Entry.{Entry}
use Rattle.sl_net.specs.Input.{Input}
use Rattle.sl_layout.specs.Net.{Net}
use Rattle.sl_model.specs.History.{Losses}
use Rattle.sl_model.specs.Losses.{losses}
use Rattle.sl_model.specs.Setup.{setup_of}
use Rattle.sl_model.specs.Books.{schedule_of}
use Rattle.sl_model.specs.Findings.{findings}
use Rattle.sl_report.specs.Report.{report_text}
use Rattle.sl_report.specs.TraceText.{IsEntryOf, trace_text}
use Rattle.sl_world.specs.World.{scene}
use Rattle.sl_proto.specs.RunBook.{IsRunBook}
use Rattle.sl_emul.specs.Threaded.{IsThreadedBook}
use Rattle.sl_emul.proofs.Books.{nodes-of}
use Rattle.sl_app.specs.Served.{run_text}
use Rattle.sl_app.proofs.RunLemmas.{report-of}
use Rattle.sl_app.proofs.run.report_run.Goals as goal

-- a report, and where it is asked for the trace after it
with-trace : (i : Input) (lost : Losses) (trace : Bool) (net : Net) (entries book : List Entry) (report whole : List ℕ) → net ≡ i.net → entries ≡ book
    → report ≡ report_text i.net i.snapshot.count (findings (setup_of i) lost (schedule_of book)) → whole ≡ report ++ (if trace then trace_text net entries else []) → whole ≡ run_text i lost book trace
with-trace i lost trace net entries book report whole n e r w =
    w ∙ ap (λ (m : Net). report ++ (if trace then trace_text m entries else [])) n ∙ ap (λ (b : List Entry). report ++ (if trace then trace_text i.net b else [])) e
    ∙ ap (λ (t : List ℕ). t ++ (if trace then trace_text i.net book else [])) r

pub report_of-requires-clause-stands : goal.report_of-requires-clause-stands
report_of-requires-clause-stands c = (losses c.args.input.now, c.requires.stands)

pub add_trace_if-requires : goal.add_trace_if-requires
add_trace_if-requires c =
    let i = c.args.input.now in
    let v = scene c.args.ran.world in
    subst (λ (j : Input). All (IsEntryOf j.net) c.into_book-nodes.result.1.entries) (sym c.input.view_is)
    (subst (All (IsEntryOf i.net)) (sym c.into_book-nodes.ensures.book) (c.legal_books_are_choices.ensures (setup_of i) (losses i) v.book c.requires.stands.legal))

pub returns : goal.returns
returns c =
    let i = c.args.input.now in
    let v = scene c.args.ran.world in
    let told = c.into_book-nodes.ensures in
    let stand = nodes-of i (losses i) v c.requires.stands in
    let text = with-trace i (losses i) c.args.trace _ _ v.book _ _ (ap (λ (j : Input). j.net) c.input.view_is) told.book (c.in-Ok.ensures (losses i) c.requires.stands c.requires.finished) c.in_ok-add_trace_if.ensures in record {
      stepped = λ ended. report-of IsRunBook i (losses i) c.args.trace v.book c.args.ran.front v.states _ _ _ ended.run stand told.book told.machines text;
      threaded = λ ended. report-of IsThreadedBook i (losses i) c.args.trace v.book c.args.ran.front v.states _ _ _ ended.run stand told.book told.machines text;
      status = refl;
      front = refl;
    }
