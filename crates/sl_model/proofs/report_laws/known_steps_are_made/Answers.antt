use Rattle.sl_model.specs.History.{history}
use Rattle.sl_model.proofs.Worlds.Numbers.{rises-le}
use Rattle.sl_model.proofs.Cuts.Begins.{knows}
use Rattle.sl_model.proofs.Saved.Polls.{dones-are}
use Rattle.sl_model.proofs.report_laws.known_steps_are_made.Goals as goal

pub returns : goal.returns
returns c s n lost w u i r x q = let k = knows s lost w u i (c.nets_are_wired.ensures s.net n) x r q in record {
  told = k.told;
  at_most = k.at_most;
  dumped_at_most = rises-le _ _ _ k.dumps.rises;
  dones = dones-are s u i r (history w r.control) q (x.made r.control);
}
