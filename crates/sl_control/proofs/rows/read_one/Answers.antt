use Rattle.std.proofs.Common.{is_some, arith}
use Rattle.sl_control.proofs.ReadableSpans.{readable-is}
use Rattle.sl_control.proofs.rows.read_one.Goals as goal

pub returns-then-id-k-clause-some : goal.returns-then-id-k-clause-some
returns-then-id-k-clause-some c = readable-is c.args.view.now c.args.id c.args.k (is_some c.try_read_saved.result) (omega arith) c.try_read_saved.ensures.live
