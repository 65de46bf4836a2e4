use Rattle.sl_model.proofs.cut_laws.worlds_are_in_window.Goals as goal
use Rattle.sl_model.proofs.Cuts.Collected.{in-window}

pub returns : goal.returns
returns c s lost es n = in-window s lost es (c.nets_are_wired.ensures s.net n)
