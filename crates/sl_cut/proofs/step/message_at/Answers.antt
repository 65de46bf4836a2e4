use Rattle.std.proofs.Common.{arith}
use Rattle.std.proofs.lemmas.Grind.{elements}
use Rattle.sl_cut.proofs.step.message_at.Goals as goal

pub returns-in-None : goal.returns-in-None
returns-in-None c = grind (arith, elements)

pub returns-in_ok-copy_message-in-Some : goal.returns-in_ok-copy_message-in-Some
returns-in_ok-copy_message-in-Some c = grind (arith, elements)
