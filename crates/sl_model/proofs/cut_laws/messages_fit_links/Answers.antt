use Rattle.sl_layout.specs.Net.{link_of}
use Rattle.sl_model.specs.World.{world, sender}
use Rattle.sl_model.proofs.cut_laws.messages_fit_links.Goals as goal
use Rattle.sl_model.proofs.Worlds.FifoRuns.{fifo_run}
use Rattle.sl_model.proofs.Worlds.Stamps.{put-fits}

pub returns : goal.returns
returns c s lost es l = put-fits s (link_of s.net l).from l (sender s.net (world s lost es) l) ((fifo_run s lost es).made (link_of s.net l).from)
