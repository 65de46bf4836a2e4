use Rattle.std.proofs.Common.{refl}
use Rattle.sl_poll.proofs.Heard.{read_count}
use Rattle.sl_poll.proofs.poll.PollingListener.hear_count.Goals as goal

pub returns : goal.returns
returns c = λ net. read_count net c.args.self.now _ c.args.counted refl c.in_ok-add_one.ensures refl
