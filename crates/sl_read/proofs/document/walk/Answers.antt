use Rattle.sl_read.specs.Sections.{sections_view}
use Rattle.sl_read.specs.Documents.{walk_of}
use Rattle.sl_read.proofs.RowLemmas.{refused_part}
use Rattle.sl_read.proofs.Walks.{net_rows, net_refused, run_refused, walked}
use Rattle.sl_read.proofs.document.walk.Goals as goal

pub returns-in_err-net : goal.returns-in_err-net
returns-in_err-net c = let s = sections_view c.args.sections.now in
    refused_part c.from_residual.result c.in_err-net.field-0.0 (net_rows s) (walk_of s) c.from_residual.ensures (net_refused s) c.in_err-net.ensures

pub returns : goal.returns
returns c = let s = sections_view c.args.sections.now in
    walked s c.in_ok-net.net c.in-Ok.run' c.in_ok-net.ensures c.in-Ok.ensures

pub returns-in-Err : goal.returns-in-Err
returns-in-Err c = run_refused (sections_view c.args.sections.now) c.in_ok-net.net c.in-Err.error c.in_ok-net.ensures c.in-Err.ensures
