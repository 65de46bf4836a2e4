use Rattle.std.proofs.Common.{refl}
use Rattle.sl_poll.proofs.Heard.{read_pair}
use Rattle.sl_poll.proofs.poll.PollingListener.hear_pair.Goals as goal

pub returns : goal.returns
returns c = read_pair c.args.net.now c.args.self.now _ c.args.pair c.requires refl refl c.first_broken-self.ensures
