use Rattle.std.proofs.Common.{◌+◌, ◌++◌, ◌<◌, length, drop, flat_map, arith, ap, sym, append_assoc, ◌∙◌}
use Rattle.sl_report.specs.TraceText.{entry_line}
use Rattle.sl_report.proofs.TextLemmas.{entries_more}
use Rattle.sl_report.proofs.trace.push_entries.Goals as goal

pub loop-entry-preserved : goal.loop-entry-preserved
loop-entry-preserved c =
    let line = entry_line c.args.net.now in
    let es = c.args.entries.now in
    let i = c.loop-entry.entry-index in
    let before = c.loop-entry.out.items in
    let here : i < length es = omega arith in
    ap (λ text. text ++ flat_map line (drop (i + 1) es)) c.in_ok-push_entry.ensures ∙ append_assoc before _ (flat_map line (drop (i + 1) es))
    ∙ sym (ap (λ text. before ++ text) (entries_more c.args.net.now es i _ here)) ∙ c.loop-entry.invariant
