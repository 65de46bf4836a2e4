use Rattle.sl_host.proofs.Runs.{messages_are, sent_is, delivered_is}
use Rattle.sl_host.proofs.laws.frames_are_sent_in_order.Goals as goal

pub returns-clause-messages : goal.returns-clause-messages
returns-clause-messages c = messages_are

pub returns-clause-sent : goal.returns-clause-sent
returns-clause-sent c = sent_is

pub returns-clause-delivered : goal.returns-clause-delivered
returns-clause-delivered c = delivered_is
