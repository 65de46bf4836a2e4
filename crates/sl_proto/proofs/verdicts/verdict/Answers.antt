use Rattle.std.proofs.Common.{◌<◌, arith}
use Rattle.sl_proto.proofs.Judged.{not_issued}
use Rattle.sl_proto.proofs.verdicts.verdict.Goals as goal

pub returns : goal.returns
returns c = let o = c.args.observer.now.state in let past : o.issued < c.args.k = omega arith in not_issued o c.args.k c.holder.result c.floor.result past c.holder.ensures c.floor.ensures
