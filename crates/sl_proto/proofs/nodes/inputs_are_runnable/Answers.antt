use Rattle.sl_proto.proofs.Books.{runnable}
use Rattle.sl_proto.proofs.nodes.inputs_are_runnable.Goals as goal

pub returns : goal.returns
returns c i lost can sound table = runnable i lost can sound table
