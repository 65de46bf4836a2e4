use Rattle.std.proofs.Common.{◌<◌, ◌^◌, sym, subst, ap, ◌∙◌}
use Rattle.std.proofs.lemmas.Result.{IfOk-weaker}
use Rattle.sl_net.specs.Input.{Input}
use Rattle.sl_flow.specs.Sample.{IsSample, sample_parts}
use Rattle.sl_report.specs.SummaryText.{summary_text}
use Rattle.sl_proto.specs.RunBook.{CanRun}
use Rattle.sl_app.specs.Served.{IsSummary}
use Rattle.sl_model.specs.Bound.{input_bound}
use Rattle.sl_app.proofs.RunLemmas.{sample_runs, small_sample}
use Rattle.sl_app.proofs.sample.summary_of.Goals as goal

pub run_stepped-requires : goal.run_stepped-requires
run_stepped-requires c =
    let is = c.in_ok-input.ensures.input in
    subst CanRun (sym is) (sample_runs c.args.number (subst IsSample is c.in_ok-input.ensures.holds))

pub returns : goal.returns
returns c =
    let n = c.args.number in
    let input = c.in_ok-input.input in
    let run = c.in-Ok.run' in
    let told = c.in-Ok.ensures in
    let is = c.in_ok-input.ensures.input in
    let sample = subst IsSample is c.in_ok-input.ensures.holds in
    let small : input_bound input < 2 ^ 27 = subst (λ (i : Input). input_bound i < 2 ^ 27) (sym is) (small_sample c.input_bounds_are_small.ensures c.nets_are_wired.ensures (sample_parts n) (sample_runs n sample) sample) in
    IfOk-weaker c.summary_bytes-text.result _ _
    (λ text same. subst (λ (i : Input). IsSummary n i text.items) is (record { book = run.book.entries; front = run.front; small = small; run = told.run; text_is = same ∙ (ap (λ m. summary_text m input.net run.findings) c.from.ensures ∙ ap (summary_text n input.net) told.tells) }))
    c.summary_bytes-text.ensures
