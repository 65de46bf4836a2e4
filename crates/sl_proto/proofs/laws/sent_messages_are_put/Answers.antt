use Rattle.sl_proto.proofs.Sent.{put-by-told, put-by-any}
use Rattle.sl_proto.proofs.laws.sent_messages_are_put.Goals as goal

pub returns-clause-told : goal.returns-clause-told
returns-clause-told c = put-by-told

pub returns-clause-any : goal.returns-clause-any
returns-clause-any c = put-by-any
