use Rattle.sl_proto.proofs.Reached.{collected-is}
use Rattle.sl_proto.proofs.finishing.Reached.is_collected.Goals as goal

pub returns : goal.returns
returns c x es n pos settled tells = collected-is x es c.args.self (c.issues_are_counted.ensures x.setup x.lost es n) pos settled tells
