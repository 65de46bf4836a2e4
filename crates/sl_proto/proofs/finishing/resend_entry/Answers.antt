use Rattle.sl_proto.proofs.Choices.{has-actors}
use Rattle.sl_proto.proofs.finishing.resend_entry.Goals as goal

pub links_into-requires : goal.links_into-requires
links_into-requires c = has-actors c.args.net.now c.parts.ensures.net
